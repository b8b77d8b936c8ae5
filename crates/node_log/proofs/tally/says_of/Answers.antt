use Rattle.std.proofs.Common.{◌<◌, ◌^◌, List, ℕ, ap, subst, sym, ◌∙◌, length}
use Rattle.std.specs.List.{flat_map}
use Rattle.frames.specs.Frame.{IsFrame, frame_bytes, header, string_bytes}
use Rattle.node_log.specs.Entry.{described}
use Rattle.node_log.proofs.EntryLemmas.{frame_short}
use Rattle.node_log.proofs.TallyLemmas.{frame_checked, frame_counted, takes_then}
use Rattle.node_log.proofs.tally.says_of.Goals as goal

pub described-requires : goal.described-requires
described-requires c =
    let strings = c.strings-strings.result.now in
    let lawful = subst IsFrame (sym c.strings-strings.ensures.strings) c.strings-strings.ensures.lawful in
    let all = takes_then _ _ _ (header 42 (length strings)) (flat_map string_bytes strings) c.take_header.ensures c.take_strings.ensures in
    subst (λ (n : ℕ). n < 2 ^ 56) (sym (frame_counted _ _ strings lawful c.new-tally.ensures.count all)) (frame_short strings lawful)

pub returns : goal.returns
returns c =
    let strings = c.strings-strings.result.now in
    let lawful = subst IsFrame (sym c.strings-strings.ensures.strings) c.strings-strings.ensures.lawful in
    let all = takes_then _ _ _ (header 42 (length strings)) (flat_map string_bytes strings) c.take_header.ensures c.take_strings.ensures in
    c.described.ensures (frame_bytes strings)
    (frame_counted _ _ strings lawful c.new-tally.ensures.count all)
    (c.digest.ensures ∙ frame_checked _ _ (frame_bytes strings) c.new-tally.ensures.state all)
    ∙ ap (λ (s : List (List ℕ)). described (frame_bytes s)) c.strings-strings.ensures.strings
