use Rattle.std.proofs.Common.{List, ℕ, ◌++◌, ◌∙◌, ap, ap₂}
use Rattle.std.proofs.lemmas.Result.{err_from_is_err_and}
use Rattle.frames.specs.Frame.{frame_bytes}
use Rattle.frames.proofs.WriteSequenceLemmas.{lost, Writes_then, Writes_lost, Writes_as}
use Rattle.node_log.specs.Entry.{digest_behind, log_entry_bytes}
use Rattle.node_log.proofs.writing.write_entry.Goals as goal

pub returns-in_err-write_bytes : goal.returns-in_err-write_bytes
returns-in_err-write_bytes g c =
    let p = err_from_is_err_and c.from_residual.result c.from_residual.ensures.1 in
    let error = c.in_err-write_bytes.field-0.0 in
    let chain = c.args.chain.state in
    let head = c.head_behind.result in
    let frame = frame_bytes c.args.entry.now in
    rw p.1 (Writes_as _ _ (lost (Unit {0}) error) (head ++ frame) (log_entry_bytes chain c.args.entry.now)
    (ap (λ (h : List ℕ). h ++ frame) (c.head_behind.ensures ∙ ap (λ (s : List ℕ). s ++ digest_behind chain s) c.says.ensures))
    (Writes_lost (Unit {0}) (Unit {0}) _ _ error head frame c.in_err-write_bytes.ensures))

pub returns : goal.returns
returns g c =
    let chain = c.args.chain.state in
    let head = c.head_behind.result in
    let frame = frame_bytes c.frame.result.now in
    Writes_as _ _ c.write_frame.result (head ++ frame) (log_entry_bytes chain c.args.entry.now)
    (ap₂ (λ (a b : List ℕ). a ++ b)
    (c.head_behind.ensures ∙ ap (λ (s : List ℕ). s ++ digest_behind chain s) c.says.ensures) (ap frame_bytes c.frame.ensures))
    (Writes_then _ _ _ (tt {0}) c.write_frame.result head frame c.in_ok-write_bytes.ensures c.write_frame.ensures)
