use Rattle.std.proofs.Common.{List, ℕ, Vec, Global}
use Rattle.std.proofs.lemmas.Result.{err_from_is_err_and}
use Rattle.frames.specs.Reading.{string_at}
use Rattle.frames.proofs.ReadSequenceLemmas.{fails, succeeds, Returns_made}
use Rattle.frames.proofs.ReadStringLemmas.{string_mark_err, string_length_err, string_from, string_bytes_err, string_line_err, string_done}
use Rattle.frames.proofs.reading.read_string.Goals as goal

-- the bytes of a string
abbrev items : Vec ℕ Global → List ℕ
items bytes = bytes.items

pub returns-in_err-read_expected-clause-exact : goal.returns-in_err-read_expected-clause-exact
returns-in_err-read_expected-clause-exact g c =
    let p = err_from_is_err_and c.from_residual.result c.from_residual.ensures.1 in
    rw (p.1, p.2) (string_mark_err _ _ c.in_err-read_expected.field-0.0 c.in_err-read_expected.ensures)

pub returns-in_err-len-clause-exact : goal.returns-in_err-len-clause-exact
returns-in_err-len-clause-exact g c =
    let p = err_from_is_err_and c.from_residual-in_err-len.result c.from_residual-in_err-len.ensures.1 in
    rw (p.1, p.2) (string_length_err _ _ _ c.in_ok-read_expected.field-0 c.in_err-len.field-0.0
    c.in_ok-read_expected.ensures c.in_err-len.ensures.exact)

pub returns-in_err-string-clause-exact : goal.returns-in_err-string-clause-exact
returns-in_err-string-clause-exact g c =
    let p = err_from_is_err_and c.from_residual-in_err-string.result c.from_residual-in_err-string.ensures.1 in
    let error = c.in_err-string.field-0.0 in
    rw (p.1, p.2) (string_from _ _ _ _ c.in_ok-read_expected.field-0 c.in_ok-len.len (fails (List ℕ) error)
    c.in_ok-read_expected.ensures c.in_ok-len.ensures.exact
    (string_bytes_err items c.in_ok-len.len _ _ error c.in_err-string.ensures.exact))

pub returns-in_err-read_line_end-clause-exact : goal.returns-in_err-read_line_end-clause-exact
returns-in_err-read_line_end-clause-exact g c =
    let p = err_from_is_err_and c.from_residual-in_err-read_line_end.result c.from_residual-in_err-read_line_end.ensures.1 in
    let error = c.in_err-read_line_end.field-0.0 in
    rw (p.1, p.2) (string_from _ _ _ _ c.in_ok-read_expected.field-0 c.in_ok-len.len (fails (List ℕ) error)
    c.in_ok-read_expected.ensures c.in_ok-len.ensures.exact
    (string_line_err items c.in_ok-string.string c.in_ok-len.len _ _ _ error c.in_ok-string.ensures.exact c.in_err-read_line_end.ensures))

pub returns-clause-exact : goal.returns-clause-exact
returns-clause-exact g c =
    Returns_made string_at _ _ (items c.in_ok-string.string) c.in_ok-from_vec.field-0 c.in_ok-from_vec.ensures.ok
    (string_from _ _ _ _ c.in_ok-read_expected.field-0 c.in_ok-len.len (succeeds (items c.in_ok-string.string))
    c.in_ok-read_expected.ensures c.in_ok-len.ensures.exact
    (string_done items c.in_ok-string.string c.in_ok-len.len c.in_ok-read_line_end.field-0 _ _ _
    c.in_ok-string.ensures.exact c.in_ok-read_line_end.ensures))
