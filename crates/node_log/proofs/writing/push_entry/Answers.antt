use Rattle.std.proofs.Common.{List, ℕ, OnOk, ◌≡◌, ◌++◌, ◌∙◌, ap, ap₂, subst}
use Rattle.frames.specs.Frame.{frame_bytes}
use Rattle.frames.proofs.WriteSequenceLemmas.{added_last}
use Rattle.node_log.specs.Entry.{digest_behind}
use Rattle.node_log.proofs.writing.push_entry.Goals as goal

pub returns : goal.returns
returns c =
    let chain = c.args.chain.state in
    let old = c.args.bytes.now in
    let head = c.head_behind.result in
    let frame = frame_bytes c.frame.result.now in
    subst (λ (t : List ℕ). OnOk c.push_frame.result (c.push_frame.new.bytes ≡ old ++ t))
    (ap₂ (λ (a b : List ℕ). a ++ b)
    (c.head_behind.ensures ∙ ap (λ (s : List ℕ). s ++ digest_behind chain s) c.says.ensures) (ap frame_bytes c.frame.ensures))
    (added_last c.push_frame.result old _ _ head frame c.in_ok-write_bytes.ensures c.push_frame.ensures)
