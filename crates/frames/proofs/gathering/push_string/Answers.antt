use Rattle.std.proofs.Common.{ℕ, ◌++◌, ◌∙◌, ap, length}
use Rattle.frames.specs.Frame.{header, line_end}
use Rattle.frames.proofs.WriteSequenceLemmas.{added, added_last}
use Rattle.frames.proofs.gathering.push_string.Goals as goal

pub returns : goal.returns
returns c =
    let string = c.args.string.now in
    let old = c.args.bytes.now in
    added_last c.write_line_end.result c.args.bytes.now _ _ (header 36 (length string)) (string ++ line_end)
    (c.in_ok-write_header.ensures ∙ ap (λ (n : ℕ). old ++ header 36 n) c.len.ensures.value)
    (added_last c.write_line_end.result c.write_header.new.writer _ _ string line_end c.in_ok-push_string.ensures
    (added c.write_line_end.result c.push_string.new.self c.write_line_end.new.writer line_end c.write_line_end.ensures))
