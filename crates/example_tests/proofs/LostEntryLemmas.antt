-- A node whose log has forgotten its last synced entry, and a read that misses a write.
use Rattle.std.proofs.Common.{◌≡◌, List, [], ◌∷◌, ◌++◌, None, Some, drop, get_or, inl, refl, slice_set, subst, take}
use Rattle.std.proofs.Common.{ap, ◌∙◌, arith}
use Rattle.tag.specs.Tag.{opening_tag}
use Rattle.bank.specs.Bank.{Bank, empty_piece}
use Rattle.bank.specs.declared.reply.Answer.TheVariants.{Greatest, Piece}
use Rattle.local_object.specs.Local.{LocalObject, bank_here, new_local}
use Rattle.local_object.specs.declared.kept_bank.KeptBank.TheVariants as kept
use Rattle.recoveries.specs.Records.{LogRecord, Recovers}
use Rattle.node_strings.specs.Laws.{WrittenRecordIsRead}
use Rattle.node_strings.specs.declared.record.Record.TheVariants as record_of
use Rattle.node_messages.specs.Laws.{WrittenMessageIsRead}
use Rattle.node_keeper.specs.Keeping.{kept_of}
use Rattle.node_keeper.specs.Logging.{deeds_if}
use Rattle.node.specs.Anew.{CarriesOutAll}
use Rattle.node.specs.declared.node.Node.{Node}
use Rattle.processes.proofs.LogLemmas.{all_records, cluster_recorded, log_carried}
use Rattle.network.specs.Events.{Event}
use Rattle.network.specs.Premises.{MayHappenInTurn}
use Rattle.example_tests.specs.RecordExamples.{whole}
use Rattle.example_tests.specs.Scripts.{three_nodes}
use Rattle.example_tests.specs.Forgetting.{empty_read}
use Rattle.example_tests.specs.LostEntry.{RestLacksFinalize, entry_lost, unfinalized_bank, written}
use Rattle.example_tests.specs.StoppedSync.{calls_of_others, entries_of, object_of, open_or_lost, some_digest}
use Rattle.example_tests.proofs.KeptRowLemmas.{none_forgotten, opened_greatest, opened_piece, wrote_greatest, wrote_opening_piece}
use Rattle.example_tests.proofs.EventRunLemmas.{empty_is_value, fetched_once, other_id, ready, ready_settled}
use Rattle.example_tests.proofs.ReadLemmas.{read_runs}
use Rattle.example_tests.proofs.CarriedRecordLemmas.{keep_is, keep_message, keeps, letter_with, records_carried, served}
use Rattle.example_tests.proofs.CarriedRecordLemmas.{served_recorded}
use Rattle.example_tests.proofs.RestartedObjectLemmas.{new_object}

-- What the other entries give back

abbrev left : List LogRecord
left = LogRecord.Starts ∷ keeps 1 ∷ []

module _ (messages : WrittenMessageIsRead) (records : WrittenRecordIsRead) where
  left_recorded : all_records (take 3 (entries_of 1)) ≡ left
  left_recorded =
      ap (λ (rs : List LogRecord). rs ++ all_records (drop 1 (take 3 (entries_of 1)))) (cluster_recorded some_digest 1)
      ∙ ap (λ (rs : List LogRecord). rs ++ all_records (drop 2 (take 3 (entries_of 1)))) (ap deeds_if (records record_of.Start tt))
      ∙ ap (λ (rs : List LogRecord). LogRecord.Starts ∷ (rs ++ []))
      (served_recorded messages records (97 ∷ []) (keep_message 1) (keep_is 1 (omega arith)))

  left_object : (new copy : Node) → CarriesOutAll new (take 3 (entries_of 1)) copy →
      object_of copy ≡ served (object_of new) (letter_with (keep_message 1))
  left_object new copy carried =
      let recovers : Recovers left (kept_of new.keeper) (kept_of copy.keeper) =
      subst (λ (rs : List LogRecord). Recovers rs (kept_of new.keeper) (kept_of copy.keeper)) left_recorded
      (log_carried new copy (take 3 (entries_of 1)) carried) in
      records_carried left (tt, (tt, tt)) (kept_of new.keeper) (kept_of copy.keeper) recovers
      (kept_of new.keeper).objects (λ name. refl) (97 ∷ [])

  left_bank : bank_here (served (new_local 1 None three_nodes) (letter_with (keep_message 1))) 0 1 ≡ kept.Open unfinalized_bank
  left_bank = ap (λ (b : Bank). kept.Open b) (none_forgotten unfinalized_bank refl)

  pub rest_lacks : RestLacksFinalize
  rest_lacks names new copy delta first is_new carried =
      ap (λ (local : LocalObject). Event.Restart 1
      (slice_set written.banks 0 (slice_set (get_or written.banks 0 []) 1 (open_or_lost (bank_here local 0 1))))
      (local.calls ++ calls_of_others 1 written.calls))
      (left_object new copy carried
      ∙ ap (λ (local : LocalObject). served local (letter_with (keep_message 1))) (new_object names 1 new delta first is_new))
      ∙ ap (λ (bank : Bank). Event.Restart 1 (slice_set written.banks 0 (slice_set (get_or written.banks 0 []) 1 bank)) [])
      (ap open_or_lost left_bank)

-- The run

pub misses : MayHappenInTurn whole empty_read entry_lost
misses =
    read_runs 1 opening_tag (Some (empty_piece 1)) (Some (empty_piece 2)) [] entry_lost other_id
    ((26, refl), refl, ((27, refl), refl, tt)) (
      (_, refl, inl (ready _ refl refl, refl)),
      ((31, refl), ap Greatest (wrote_greatest 1), ((32, refl), ap Greatest (opened_greatest 2), tt)),
      (
        (_, refl, inl (ready _ refl refl, refl)),
        ((36, refl), ap Piece (wrote_opening_piece 1), ((37, refl), ap Piece (opened_piece 2), tt)),
        tt,
      ),
    )
    (_, refl, fetched_once 1 refl (_, refl) refl refl refl refl empty_is_value)
    ((_, refl, inl (ready_settled _ refl refl, refl)), ((41, refl), refl, ((42, refl), refl, tt)), tt)
    (_, refl, ready _ refl refl, refl)
