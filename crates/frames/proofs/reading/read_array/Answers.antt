use Rattle.std.proofs.Common.{List, ℕ, Vec, Global}
use Rattle.std.proofs.lemmas.Result.{err_from_is_err_and}
use Rattle.frames.specs.Reading.{array_at}
use Rattle.frames.proofs.ReadSequenceLemmas.{succeeds, Returns_made}
use Rattle.frames.proofs.ReadFrameLemmas.{array_err, array_then, array_then_err}
use Rattle.frames.proofs.reading.read_array.Goals as goal

-- the strings of a vector
abbrev items : Vec (List ℕ) Global → List (List ℕ)
items strings = strings.items

pub returns-in_err-count : goal.returns-in_err-count
returns-in_err-count g c =
    let p = err_from_is_err_and c.from_residual.result c.from_residual.ensures.1 in
    rw (p.1, p.2) (array_err _ _ c.in_err-count.field-0.0 c.in_err-count.ensures.exact)

pub returns-in_err-strings : goal.returns-in_err-strings
returns-in_err-strings g c =
    let p = err_from_is_err_and c.from_residual-in_err-strings.result c.from_residual-in_err-strings.ensures.1 in
    rw (p.1, p.2) (array_then_err items _ _ _ c.in_ok-count.count c.in_err-strings.field-0.0
    c.in_ok-count.ensures.exact c.in_err-strings.ensures.exact)

pub returns : goal.returns
returns g c =
    let strings = c.in_ok-strings.strings.items in
    Returns_made array_at _ _ strings c.of.result c.of.ensures
    (array_then _ _ _ c.in_ok-count.count (succeeds strings) c.in_ok-count.ensures.exact c.in_ok-strings.ensures.exact)
