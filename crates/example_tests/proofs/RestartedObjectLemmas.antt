-- What a node has of the object of the write, once it has started from what a stop left of its log.
use Rattle.std.proofs.Common.{◌≡◌, ◌+◌, ℕ, zero, suc, List, [], ◌∷◌, ◌++◌}
use Rattle.std.proofs.Common.{Option, None, length, take, get_or, slice_set, refl, sym, subst, ap, ◌∙◌}
use Rattle.std.specs.List.{AllByRecursion}
use Rattle.layout.specs.Layout.{Layout}
use Rattle.bank.specs.Bank.{Bank, finalized, opened_bank}
use Rattle.bank.specs.Collect.{collected}
use Rattle.bank.specs.Floor.{remembered}
use Rattle.bank.specs.Serve.{served_bank}
use Rattle.bank.specs.declared.request.Request.TheVariants as request
use Rattle.record.specs.Records.{no_bank}
use Rattle.open_calls.specs.OpenCalls.{NodeCall}
use Rattle.open_calls.proofs.ListLemmas.{all_append}
use Rattle.local_object.specs.Local.{LocalObject, bank_here, new_local}
use Rattle.local_object.specs.declared.kept_bank.KeptBank.TheVariants as held
use Rattle.deeds.specs.Kept.{FileOfNames, KeptNode, new_node}
use Rattle.recoveries.specs.Records.{LogRecord, Recovers}
use Rattle.node_strings.specs.Laws.{WrittenRecordIsRead}
use Rattle.node_strings.specs.Strings.{Strings}
use Rattle.node_messages.specs.Laws.{WrittenMessageIsRead}
use Rattle.node_keeper.specs.Keeping.{kept_of}
use Rattle.node.specs.declared.node.Node.{Node}
use Rattle.node_store.specs.Laws.{LeftLogIsRead}
use Rattle.node_store.specs.Recovery.{IsWholeEntry}
use Rattle.processes.specs.Events.{IsNewNode, MayStart}
use Rattle.processes.proofs.LogLemmas.{all_records, apart, log_carried}
use Rattle.network.specs.Events.{Event, world_after}
use Rattle.network.specs.Premises.{MayHappenInTurn}
use Rattle.network.specs.Worlds.{World, after_restart, member_bank}
use Rattle.example_tests.specs.RecordExamples.{whole}
use Rattle.example_tests.specs.Scripts.{restarted, start, three_nodes, to_keep, write_tag}
use Rattle.example_tests.specs.NodeExamples.{read}
use Rattle.example_tests.specs.Forgetting.{write_to_two}
use Rattle.example_tests.specs.StoppedSync.{StartedNodeHasWrite, calls_of_others, object_of, open_or_lost, restarted_as}
use Rattle.example_tests.specs.StoppedSync.{stop_after_write, stop_after_write_as, stop_after_write_entries, stopped_log}
use Rattle.example_tests.specs.StoppedSync.{stopped_process, synced_entries, unsynced_entry}
use Rattle.example_tests.proofs.KeptRowLemmas.{none_forgotten}
use Rattle.example_tests.proofs.StoppedSyncLemmas.{every_event, synced_frames, unsynced_frame}
use Rattle.example_tests.proofs.CarriedRecordLemmas.{finalize_message, keep_message, known_plain, known_records, letter_with}
use Rattle.example_tests.proofs.CarriedRecordLemmas.{log_recorded, objects_after, records_carried, served}

-- The bank

-- the object after the two requests of the write
abbrev after_write : LocalObject → LocalObject
after_write local = served (served local (letter_with (keep_message 0))) (letter_with finalize_message)

known_object : (more : ℕ) (objects : List ℕ → LocalObject) →
    objects_after (known_records more) objects (97 ∷ []) ≡ after_write (objects (97 ∷ []))
known_object zero objects = refl
known_object (suc more) objects = refl

abbrev kept_bank : Bank
kept_bank = served_bank (opened_bank 0 None 0) (to_keep 0) 0

abbrev final_bank : Bank
final_bank = served_bank kept_bank (request.Finalize write_tag) 0

bank_of_write : bank_here (after_write (new_local 0 None three_nodes)) 0 0 ≡ held.Open final_bank
bank_of_write =
    ap (λ (bank : Bank). held.Open (remembered (collected (finalized bank write_tag 0)))) (none_forgotten kept_bank refl)
    ∙ ap (λ (bank : Bank). held.Open bank) (none_forgotten final_bank refl)

-- The start

-- what a new node of such a cluster file keeps of the object
pub new_object : (names : FileOfNames) (number : ℕ) (new : Node) → names.delta ≡ None → names.first (97 ∷ []) ≡ three_nodes →
    IsNewNode names number new → object_of new ≡ new_local number None three_nodes
new_object names number new delta first is_new =
    ap (λ (kept : KeptNode). kept.objects (97 ∷ [])) (is_new.kept ∙ ap (λ (n : FileOfNames). new_node n number) is_new.same)
    ∙ ap (λ (d : Option ℕ). new_local number d (names.first (97 ∷ []))) delta
    ∙ ap (λ (l : Layout). new_local number None l) first

abbrev stopped_world : World
stopped_world = world_after whole write_to_two start

bank_in_world : final_bank ≡ member_bank stopped_world 0 0
bank_in_world = refl

no_calls : [] ++ calls_of_others 0 stopped_world.calls ≡ after_restart 0 stopped_world.calls
no_calls = refl

-- to put a bank in its own place changes nothing
set_own : (banks : List (List Bank)) →
    slice_set banks 0 (slice_set (get_or banks 0 []) 0 (get_or (get_or banks 0 []) 0 no_bank)) ≡ banks
set_own [] = refl
set_own ([] ∷ more) = refl
set_own ((bank ∷ row) ∷ more) = refl

-- if a node has kept the bank and the calls of node 0, it starts again as the premise on logs says
same_restart : (node : Node) (world : World) → open_or_lost (bank_here (object_of node) 0 0) ≡ member_bank world 0 0 →
    (object_of node).calls ++ calls_of_others 0 world.calls ≡ after_restart 0 world.calls →
    restarted_as 0 node world ≡ restarted 0 world
same_restart node world bank calls =
    ap (λ (b : Bank). Event.Restart 0 (slice_set world.banks 0 (slice_set (get_or world.banks 0 []) 0 b))
    ((object_of node).calls ++ calls_of_others 0 world.calls)) bank
    ∙ ap (λ (banks : List (List Bank)). Event.Restart 0 banks ((object_of node).calls ++ calls_of_others 0 world.calls))
    (set_own world.banks)
    ∙ ap (λ (calls : List NodeCall). Event.Restart 0 world.banks calls) calls

module _ (left : LeftLogIsRead) (messages : WrittenMessageIsRead) (records : WrittenRecordIsRead) (names : FileOfNames)
    (found : List Strings) (anew : Option (List Strings)) (new copy after : Node) (delta : names.delta ≡ None)
    (first : names.first (97 ∷ []) ≡ three_nodes) (may : MayStart names 0 stopped_process found anew new copy after) where
  whole_log : AllByRecursion IsWholeEntry stopped_log
  whole_log = all_append IsWholeEntry synced_entries (unsynced_entry ∷ []) synced_frames (unsynced_frame, tt)

  carried : (more : ℕ) → found ≡ take (length synced_entries + more) stopped_log → object_of copy ≡ after_write (object_of new)
  carried more is =
      let recovers : Recovers (known_records more) (kept_of new.keeper) (kept_of copy.keeper) =
      subst (λ (rs : List LogRecord). Recovers rs (kept_of new.keeper) (kept_of copy.keeper))
      (ap all_records is ∙ log_recorded messages records more) (log_carried new copy found may.recovered) in
      records_carried (known_records more) (known_plain more) (kept_of new.keeper) (kept_of copy.keeper) recovers
      (kept_of new.keeper).objects (λ name. refl) (97 ∷ [])
      ∙ known_object more (kept_of new.keeper).objects

  object_is : object_of after ≡ after_write (new_local 0 None three_nodes)
  object_is =
      let read = left stopped_log found 4 may.disk whole_log may.whole may.left may.begins in
      let more = apart 4 read.0 read.1 in
      may.started.objects (97 ∷ [])
      ∙ carried more.0 (read.2 ∙ ap (λ (n : ℕ). take n stopped_log) more.1)
      ∙ ap after_write (new_object names 0 new delta first may.is_new)

  same_event : restarted_as 0 after stopped_world ≡ restarted 0 stopped_world
  same_event =
      same_restart after stopped_world
      (ap (λ (local : LocalObject). open_or_lost (bank_here local 0 0)) object_is ∙ ap open_or_lost bank_of_write ∙ bank_in_world)
      (ap (λ (local : LocalObject). local.calls ++ calls_of_others 0 stopped_world.calls) object_is ∙ no_calls)

  same_events : stop_after_write_as after ≡ stop_after_write
  same_events = ap (λ (event : Event). write_to_two ++ (event ∷ read 0)) same_event

  run_as : MayHappenInTurn whole (stop_after_write_as after) start
      × ((world_after whole (stop_after_write_as after) start).history ≡ stop_after_write_entries)
  run_as =
      subst (λ (events : List Event). MayHappenInTurn whole events start
      × ((world_after whole events start).history ≡ stop_after_write_entries)) (sym same_events) (every_event, refl)

pub node_has_write : LeftLogIsRead → WrittenMessageIsRead → WrittenRecordIsRead → StartedNodeHasWrite
node_has_write left messages records names found anew new copy after delta first may =
    run_as left messages records names found anew new copy after delta first may
