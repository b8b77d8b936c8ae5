-- Two processes with one number, and a read that misses a write.
use Rattle.std.proofs.Common.{◌≡◌, ℕ, suc, Bool, true, false, cond, List, [], ◌∷◌, ◌++◌, map, None, refl, sym, subst, ap, ◌∙◌}
use Rattle.bank.specs.Bank.{Bank}
use Rattle.mail.specs.declared.message.Message.{Message}
use Rattle.record.specs.declared.call.Entry.{Entry}
use Rattle.network.specs.Worlds.{World, new_banks}
use Rattle.network.specs.Events.{Event, happens, world_after}
use Rattle.network.specs.Premises.{MayHappenInTurn}
use Rattle.example_tests.specs.RecordExamples.{whole}
use Rattle.example_tests.specs.Scripts.{start, three_file, three_nodes}
use Rattle.example_tests.specs.Forgetting.{empty_read, forgotten_banks, forgotten_by, restarted_empty, write_to_two}
use Rattle.example_tests.specs.TwoProcesses.{MayRunWithTwins, TwinEvent, TwinWorld, exchanged, exchanged_banks, exchanged_by}
use Rattle.example_tests.specs.TwoProcesses.{twin_after, twin_happens, twin_run, twin_start, waiting_after}
use Rattle.example_tests.proofs.ForgettingLemmas.{back, reads}
use Rattle.example_tests.proofs.WriteLemmas.{writes}

-- events need the same premises
may_with_twins : (events : List Event) (twin : TwinWorld) → MayHappenInTurn whole events twin.world →
    MayRunWithTwins whole (map TwinEvent.Happens events) twin
may_with_twins [] twin may = tt
may_with_twins (event ∷ events) twin may =
    ((may.0, may.1), may_with_twins events (twin_happens whole twin (TwinEvent.Happens event)) may.2)

twins_append : (first second : List TwinEvent) (twin : TwinWorld) → MayRunWithTwins whole first twin →
    MayRunWithTwins whole second (twin_after whole first twin) → MayRunWithTwins whole (first ++ second) twin
twins_append [] second twin a b = b
twins_append (event ∷ first) second twin a b = (a.0, twins_append first second (twin_happens whole twin event) a.1 b)

-- The process that waits keeps its banks while no move begins

-- whether a move begins
abbrev begins_move : Event → Bool
begins_move (Event.BeginMove node id layout) = true
begins_move _ = false

-- whether no move begins
abbrev no_moves : List Event → Bool
no_moves [] = true
no_moves (event ∷ events) = cond (begins_move event) false (no_moves events)

-- these banks wait beside a world
abbrev beside : World → List (List Bank) → TwinWorld
beside world waiting = record { world = world; node = 1; waiting = waiting }

waits : (world : World) (event : Event) (waiting : List (List Bank)) → begins_move event ≡ false →
    waiting_after world event waiting ≡ waiting
waits world (Event.BeginMove node id layout) waiting other = absurd (cc)
waits world _ waiting other = refl

waits_on : (events : List Event) (world : World) (waiting : List (List Bank)) → no_moves events ≡ true →
    twin_after whole (map TwinEvent.Happens events) (beside world waiting) ≡ beside (world_after whole events world) waiting
waits_on [] world waiting others = refl
waits_on (event ∷ events) world waiting others =
    go (begins_move event) refl others (λ rest. waits_on events (happens whole world event) waiting rest)
  where
    next : World
    next = happens whole world event

    go : (b : Bool) → begins_move event ≡ b → cond b false (no_moves events) ≡ true →
        (no_moves events ≡ true →
        twin_after whole (map TwinEvent.Happens events) (beside next waiting) ≡ beside (world_after whole events next) waiting) →
        twin_after whole (map TwinEvent.Happens events) (beside next (waiting_after world event waiting))
        ≡ beside (world_after whole events next) waiting
    go true e rest later = absurd (cc)
    go false e rest later =
        ap (λ banks. twin_after whole (map TwinEvent.Happens events) (beside next banks)) (waits world event waiting e) ∙ later rest

-- Banks that are new are those of a node that forgot its own

-- the banks that the second process of node 1 begins with, and others that are never used
abbrev new_row : List Bank
new_row = new_banks (λ node. three_file) (0 ∷ 1 ∷ 2 ∷ []) 0

row_is_new : (row : List Bank) →
    exchanged_by 1 (0 ∷ 1 ∷ 2 ∷ []) new_row row ≡ forgotten_by 1 None (0 ∷ 1 ∷ 2 ∷ []) 0 row
row_is_new [] = refl
row_is_new (a ∷ []) = refl
row_is_new (a ∷ b ∷ []) = refl
row_is_new (a ∷ b ∷ c ∷ more) = refl

rows_are_new : (banks : List (List Bank)) →
    exchanged_banks 1 (three_nodes ∷ []) start.banks banks ≡ forgotten_banks 1 None (three_nodes ∷ []) banks
rows_are_new [] = refl
rows_are_new (row ∷ more) = ap (λ first. first ∷ more) (row_is_new row)

-- a world after this run, whatever its banks are
abbrev quiet : List (List Bank) → List Message → List Entry → ℕ → World
quiet banks sent history now = record {
  files = λ node. three_file;
  later = [];
  banks = banks;
  calls = [];
  sent = sent;
  history = history;
  now = now;
}

new_as_forgotten : (banks : List (List Bank)) (sent : List Message) (history : List Entry) (now : ℕ) →
    (exchanged (beside (quiet banks sent history now) start.banks)).world
    ≡ happens whole (quiet banks sent history now) (restarted_empty 1 (quiet banks sent history now))
new_as_forgotten banks sent history now = ap (λ rows. quiet rows sent history (suc now)) (rows_are_new banks)

-- The run

abbrev written : List TwinEvent
written = map TwinEvent.Happens write_to_two

abbrev after_write : World
after_write = world_after whole write_to_two start

is_quiet : after_write ≡ quiet after_write.banks after_write.sent after_write.history after_write.now
is_quiet = refl

exchanged_is_back : (exchanged (beside after_write start.banks)).world ≡ back
exchanged_is_back =
    subst (λ world. (exchanged (beside world start.banks)).world ≡ happens whole world (restarted_empty 1 world))
    (sym is_quiet) (new_as_forgotten after_write.banks after_write.sent after_write.history after_write.now)

reads_of_twins : MayHappenInTurn whole empty_read (exchanged (twin_after whole written twin_start)).world
reads_of_twins =
    subst (λ (world : World). MayHappenInTurn whole empty_read world)
    (sym (ap (λ (twin : TwinWorld). (exchanged twin).world) (waits_on write_to_two start start.banks refl) ∙ exchanged_is_back))
    reads

pub every_event : MayRunWithTwins whole twin_run twin_start
every_event =
    twins_append written (TwinEvent.Exchange ∷ map TwinEvent.Happens empty_read) twin_start
    (may_with_twins write_to_two twin_start writes)
    (tt, may_with_twins empty_read (exchanged (twin_after whole written twin_start)) reads_of_twins)
