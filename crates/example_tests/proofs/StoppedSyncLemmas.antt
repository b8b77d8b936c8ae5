-- A log whose last entry is cut, and a read from a node that stopped and started again.
use Rattle.std.proofs.Common.{◌≡◌, ◌<◌, ◌≤◌, ◌+◌, ℕ, List, [], ◌∷◌, ◌++◌, length, take, drop, replicate, None, Some}
use Rattle.std.proofs.Common.{inl, refl, sym, ap, ◌∙◌, append_assoc, arith, length-append}
use Rattle.std.proofs.lemmas.Fmt.{length-decimal-le_succ}
use Rattle.std.proofs.lemmas.List.{length-drop, take-append-drop}
use Rattle.std.specs.List.{AllByRecursion, flat_map}
use Rattle.std.specs.Fmt.{decimal}
use Rattle.frames.specs.Frame.{IsFrame, frame_bytes, line_end, string_bytes}
use Rattle.frames.specs.declared.limits.TheConstants.{LONGEST_STRING, MOST_STRINGS}
use Rattle.bank.specs.declared.reply.Answer.TheVariants.{Greatest, Piece}
use Rattle.node_strings.specs.Strings.{Strings}
use Rattle.node_log.specs.Entry.{chain_behind, first_chain, head_of, log_entry_bytes}
use Rattle.node_log.specs.Reading.{IsEnd}
use Rattle.node_log.specs.Laws.{CutIsEnd}
use Rattle.node_log.proofs.HeadLemmas.{length-head}
use Rattle.node_store.specs.Laws.{IsLeft, LogIsReadOnce}
use Rattle.node_store.specs.Recovery.{BeginsWith, IsWholeEntry, log_bytes}
use Rattle.node_store.proofs.LogBytesLemmas.{bytes_push}
use Rattle.network.specs.Worlds.{World}
use Rattle.network.specs.Events.{happens, world_after}
use Rattle.network.specs.Premises.{MayHappenInTurn}
use Rattle.example_tests.specs.RecordExamples.{whole}
use Rattle.example_tests.specs.Scripts.{letter, letter_piece, restarted, start, write_tag}
use Rattle.example_tests.specs.NodeExamples.{read}
use Rattle.example_tests.specs.Forgetting.{write_to_two}
use Rattle.example_tests.specs.StoppedSync.{OnlySyncedAreRead, SyncedAreRead, stop_after_write, stopped_disk, stopped_log}
use Rattle.example_tests.specs.StoppedSync.{synced_entries, unsynced_entry}
use Rattle.example_tests.proofs.KeptRowLemmas.{final_greatest, final_piece, opened_greatest, opened_lacks}
use Rattle.example_tests.proofs.EventRunLemmas.{fetched_once, letter_is_value, may_append, other_id, ready, ready_settled}
use Rattle.example_tests.proofs.ReadLemmas.{read_runs}
use Rattle.example_tests.proofs.WriteLemmas.{writes}

-- An entry that is cut behind two bytes of its body

-- the bytes of a frame are more than two
three_bytes : (strings : Strings) → 3 ≤ length (frame_bytes strings)
three_bytes strings =
    omega (
      arith,
      length-append (42 ∷ (decimal (length strings) ++ line_end)) (flat_map string_bytes strings),
      length-append (decimal (length strings)) line_end,
    )

more_than_cut : (chain : ℕ) (strings : Strings) → 18 < length (log_entry_bytes chain strings)
more_than_cut chain strings =
    let body = frame_bytes strings in
    omega (arith, three_bytes strings, length-head chain body, length-append (head_of chain body) body)

some_left : (count : ℕ) (bytes : List ℕ) → count < length bytes → drop count bytes ≡ [] → ⊥
some_left count bytes more none = let no_length = ap length none in omega (arith, more, no_length, length-drop count bytes)

module _ (synced : List Strings) (last : Strings) where
  abbrev chain : ℕ
  chain = chain_behind first_chain synced

  abbrev bytes : List ℕ
  bytes = log_entry_bytes chain last

  abbrev first : List ℕ
  first = log_bytes first_chain synced

  abbrev zeros : List ℕ
  zeros = replicate 9 0

  abbrev cut_disk : List ℕ
  cut_disk = (first ++ take 18 bytes) ++ zeros

  cut_all : log_bytes first_chain (synced ++ last ∷ []) ≡ (first ++ take 18 bytes) ++ drop 18 bytes
  cut_all =
      bytes_push first_chain synced last ∙ ap (λ xs. first ++ xs) (sym (take-append-drop 18 bytes))
      ∙ sym (append_assoc first (take 18 bytes) (drop 18 bytes))

  cut_ends : CutIsEnd → IsFrame last → BeginsWith first_chain synced IsEnd cut_disk
  cut_ends cut frame = (
    take 18 bytes ++ zeros,
    append_assoc first (take 18 bytes) zeros,
    cut chain last (take 18 bytes) (drop 18 bytes) 9 frame (sym (take-append-drop 18 bytes))
        (some_left 18 bytes (more_than_cut chain last)),
  )

  cut_only : CutIsEnd → LogIsReadOnce → IsFrame last → AllByRecursion IsWholeEntry synced → (found : List Strings) →
      AllByRecursion IsWholeEntry found → BeginsWith first_chain found IsEnd cut_disk → found ≡ synced
  cut_only cut once frame frames found others begins =
      let ends = cut_ends cut frame in
      (once first_chain found synced begins.0 ends.0 others frames (sym begins.1 ∙ ends.1) begins.2.0 ends.2.0).0

-- The log of the example

pub synced_frames : AllByRecursion IsWholeEntry synced_entries
synced_frames = (
  record {
    few = omega arith;
    short = (omega arith, (omega arith, (omega (arith, length-decimal-le_succ 0 (omega arith)), tt)));
  },
  (
    record { few = omega arith; short = (omega arith, tt) },
    (
      record { few = omega arith; short = (omega arith, (omega arith, (omega arith, (omega arith, tt)))) },
      (record { few = omega arith; short = (omega arith, (omega arith, (omega arith, tt))) }, tt),
    ),
  ),
)

pub unsynced_frame : IsFrame unsynced_entry
unsynced_frame = record { few = omega arith; short = (omega arith, (omega arith, (omega arith, (omega arith, tt)))) }

pub is_left : IsLeft stopped_log 4 stopped_disk
is_left = record {
  front = log_bytes first_chain synced_entries
      ++ take 18 (log_entry_bytes (chain_behind first_chain synced_entries) unsynced_entry);
  more = take 18 (log_entry_bytes (chain_behind first_chain synced_entries) unsynced_entry);
  lost = drop 18 (log_entry_bytes (chain_behind first_chain synced_entries) unsynced_entry);
  zeros = 9;
  kept = refl;
  all = cut_all synced_entries unsynced_entry;
  disk_is = refl;
}

pub synced_are_read : CutIsEnd → SyncedAreRead
synced_are_read cut = (synced_frames, cut_ends synced_entries unsynced_entry cut unsynced_frame)

pub only_synced : CutIsEnd → LogIsReadOnce → OnlySyncedAreRead
only_synced cut once = cut_only synced_entries unsynced_entry cut once unsynced_frame synced_frames

-- The run

abbrev back : World
back = happens whole (world_after whole write_to_two start) (restarted 0 (world_after whole write_to_two start))

reads : MayHappenInTurn whole (read 0) back
reads =
    read_runs 0 write_tag (Some (letter_piece 0)) None letter back other_id ((25, refl), refl, ((27, refl), refl, tt)) (
      (_, refl, inl (ready _ refl refl, refl)),
      ((30, refl), ap Greatest (final_greatest 0), ((32, refl), ap Greatest (opened_greatest 2), tt)),
      (
        (_, refl, inl (ready _ refl refl, refl)),
        ((35, refl), ap Piece (final_piece 0), ((37, refl), ap Piece (opened_lacks 2), tt)),
        tt,
      ),
    )
    (_, refl, fetched_once 0 refl (_, refl) refl refl refl refl letter_is_value)
    ((_, refl, inl (ready_settled _ refl refl, refl)), ((40, refl), refl, ((42, refl), refl, tt)), tt)
    (_, refl, ready _ refl refl, refl)

pub every_event : MayHappenInTurn whole stop_after_write start
every_event =
    may_append write_to_two (restarted 0 (world_after whole write_to_two start) ∷ read 0) start writes
    (tt, record { network = tt; log = (refl, refl); ids = tt }, reads)
