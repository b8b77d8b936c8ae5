use Rattle.std.proofs.Common.{List, ℕ, OnOk, ◌≡◌, ◌++◌, ap, subst, length}
use Rattle.std.specs.List.{flat_map}
use Rattle.frames.specs.Frame.{frame_bytes, header, string_bytes}
use Rattle.frames.proofs.WriteSequenceLemmas.{added_last}
use Rattle.frames.proofs.gathering.push_frame.Goals as goal

pub returns : goal.returns
returns c =
    let strings = c.strings-strings.result.now in
    let old = c.args.bytes.now in
    subst (λ (t : List ℕ). OnOk c.push_strings.result (c.push_strings.new.bytes ≡ old ++ t))
    (ap frame_bytes c.strings-strings.ensures.strings)
    (added_last c.push_strings.result old _ _ (header 42 (length strings)) (flat_map string_bytes strings)
    c.in_ok-write_header.ensures c.push_strings.ensures)
