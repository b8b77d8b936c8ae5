-- What nodes keep stays their part of the world where its calls, messages and history change.
use Rattle.std.proofs.Common.{◌≡◌, ℕ, ◌+◌, List, length}
use Rattle.std.proofs.Common.{refl, sym, subst, ◌∙◌}
use Rattle.std.specs.List.{AllByRecursion}
use Rattle.mail.specs.declared.message.Message.{Message}
use Rattle.record.specs.declared.call.Entry.{Entry}
use Rattle.record.specs.Fragments.{Code}
use Rattle.soundness.proofs.ListLemmas.{all_weaker}
use Rattle.network.specs.Worlds.{World}
use Rattle.open_calls.specs.OpenCalls.{NodeCall, NodeCallsDiffer}
use Rattle.network.specs.Events.{Event, world_after}
use Rattle.network.specs.Premises.{MayHappenInTurn, WasSent}
use Rattle.starts.specs.Starts.{IsStart}
use Rattle.starts.proofs.FinalPointerLemmas.{Keeps, kept_same}
use Rattle.letter.specs.declared.letter.Letter.{Letter}
use Rattle.local_object.specs.declared.report.Report.{Report}
use Rattle.local_object.specs.Local.{LocalObject}
use Rattle.local_object.specs.Outcomes.{Outcome, silent}
use Rattle.refinement.specs.Parts.{IsPartOf, WasSentAs}
use Rattle.refinement.specs.Refined.{IsRefined}
use Rattle.refinement.specs.WellFormed.{HasAsked, HasEntry, IsWellFormed}
use Rattle.open_calls.proofs.CallsOfNodeLemmas.{calls_of}
use Rattle.refinement.proofs.StartLemmas.{letter_kept, start_kept}

-- What an event leads to

-- a later world, of which what a node keeps is its part; the parts of others, and the letters of before, stay
pub record IsKept (fragment : Code) (world later : World) (after : Outcome) (events : ℕ) (history : List Entry) : Type 0 where
  pub formed : IsWellFormed fragment later
  pub part : IsPartOf later after.local
  pub sent : AllByRecursion (WasSentAs later) after.sent
  pub others : (other : LocalObject) → (other.node ≡ after.local.node → ⊥) → IsPartOf world other → IsPartOf later other
  pub kept : (letter : Letter) → WasSentAs world letter → WasSentAs later letter
  pub files : later.files ≡ world.files
  pub now : later.now ≡ world.now + events
  pub entries : later.history ≡ history

pub refined : (fragment : Code) (world : World) (events : List Event) (later : World) (after target : Outcome) (history : List Entry) →
    later ≡ world_after fragment events world → after ≡ target → MayHappenInTurn fragment events world →
    IsKept fragment world later after (length events) history →
    IsRefined fragment world events target × ((world_after fragment events world).history ≡ history)
refined fragment world events later after target history is outcome may kept =
    let at_run = subst (λ w. IsKept fragment world w after (length events) history) is kept in
    let there = subst (λ o. IsKept fragment world (world_after fragment events world) o (length events) history) outcome at_run in (
      record {
        may = may;
        formed = there.formed;
        part = there.part;
        sent = there.sent;
        others = there.others;
        kept = there.kept;
        files = there.files;
        now = there.now;
      },
      there.entries,
    )

-- What a node's calls were told

-- what is part of a world is so whatever its calls were told
pub part_told : (world : World) (local : LocalObject) (reports : List Report) → IsPartOf world local →
    IsPartOf world (record local { reports = reports })
part_told world local reports part = record {
  delta = part.delta;
  start = part.start;
  layouts = part.layouts;
  first = part.first;
  banks = part.banks;
  calls = part.calls;
  mover = part.mover;
}

pub kept_told : (fragment : Code) (world later : World) (after : LocalObject) (reports : List Report) (events : ℕ) (history : List Entry) →
    IsKept fragment world later (silent after) events history →
    IsKept fragment world later (silent (record after { reports = reports })) events history
kept_told fragment world later after reports events history is = record {
  formed = is.formed;
  part = part_told later after reports is.part;
  sent = is.sent;
  others = is.others;
  kept = is.kept;
  files = is.files;
  now = is.now;
  entries = is.entries;
}

-- The calls, messages and history change

module _ (world : World) (calls : List NodeCall) (sent : List Message) (history : List Entry) (now : ℕ) where
  abbrev pub changed_world : World
  changed_world = record world { calls = calls; sent = sent; history = history; now = now }

  still_final : Keeps world changed_world
  still_final = kept_same world changed_world refl refl refl

  pub start_still : (start : ℕ) → IsStart world start → IsStart changed_world start
  start_still = start_kept world changed_world still_final

  -- calls that asked before have asked
  pub asked_still : (fragment : Code) → ((message : Message) → WasSent world message → WasSent changed_world message) →
      (call : NodeCall) → HasAsked fragment world call → HasAsked fragment changed_world call
  asked_still fragment grows call has = record {
    layout = has.layout;
    at = has.at;
    asked = λ place message at. grows message (has.asked place message at);
  }

  pub formed_still : (fragment : Code) → IsWellFormed fragment world → NodeCallsDiffer calls → AllByRecursion (HasEntry history) calls →
      AllByRecursion (HasAsked fragment changed_world) calls → IsWellFormed fragment changed_world
  formed_still fragment formed ids entries asked = record {
    one = formed.one;
    lawful = formed.lawful;
    banks = formed.banks;
    ids = ids;
    entries = entries;
    asked = asked;
  }

  -- a part stays one where the calls of its node do
  pub part_still : (other : LocalObject) → IsPartOf world other → calls_of other.node calls ≡ calls_of other.node world.calls →
      IsPartOf changed_world other
  part_still other part same = record {
    delta = part.delta;
    start = start_still other.start part.start;
    layouts = part.layouts;
    first = part.first;
    banks = part.banks;
    calls = part.calls ∙ sym same;
    mover = part.mover;
  }

  -- and the part with those calls is one
  pub part_with : (local : LocalObject) (own : List NodeCall) → IsPartOf world local → own ≡ calls_of local.node calls →
      IsPartOf changed_world (record local { calls = own })
  part_with local own part same = record {
    delta = part.delta;
    start = start_still local.start part.start;
    layouts = part.layouts;
    first = part.first;
    banks = part.banks;
    calls = same;
    mover = part.mover;
  }

  pub sent_still : ((message : Message) → WasSent world message → WasSent changed_world message) → (letter : Letter) →
      WasSentAs world letter → WasSentAs changed_world letter
  sent_still = letter_kept world changed_world still_final

-- Nothing else changes

-- an event that changes nothing, and no event
pub unchanged : (fragment : Code) (world : World) (local : LocalObject) (events : ℕ) → IsWellFormed fragment world → IsPartOf world local →
    IsKept fragment world (changed_world world world.calls world.sent world.history (world.now + events))
    (silent local) events world.history
unchanged fragment world local events formed part =
    let now = world.now + events in record {
      formed = formed_still world world.calls world.sent world.history now fragment formed formed.ids formed.entries
          (all_weaker (HasAsked fragment world) (HasAsked fragment (changed_world world world.calls world.sent world.history now))
          (asked_still world world.calls world.sent world.history now fragment (λ message was. was)) world.calls formed.asked);
      part = part_still world world.calls world.sent world.history now local part refl;
      sent = tt;
      others = λ other apart is. part_still world world.calls world.sent world.history now other is refl;
      kept = sent_still world world.calls world.sent world.history now (λ message was. was);
      files = refl;
      now = refl;
      entries = refl;
    }

-- after another number of events, with the same changes
pub kept_after : (fragment : Code) (world later : World) (after : Outcome) (events more : ℕ) (history : List Entry) →
    IsKept fragment world later after events history →
    IsKept fragment world (changed_world later later.calls later.sent later.history (world.now + more)) after more history
kept_after fragment world later after events more history is =
    let now = world.now + more in
    let still = sent_still later later.calls later.sent later.history now (λ message was. was) in record {
      formed = formed_still later later.calls later.sent later.history now fragment is.formed is.formed.ids is.formed.entries
          (all_weaker (HasAsked fragment later) (HasAsked fragment (changed_world later later.calls later.sent later.history now))
          (asked_still later later.calls later.sent later.history now fragment (λ message was. was)) later.calls is.formed.asked);
      part = part_still later later.calls later.sent later.history now after.local is.part refl;
      sent = all_weaker (WasSentAs later) (WasSentAs (changed_world later later.calls later.sent later.history now)) still after.sent
          is.sent;
      others = λ other apart part.
          part_still later later.calls later.sent later.history now other (is.others other apart part) refl;
      kept = λ letter was. still letter (is.kept letter was);
      files = is.files;
      now = refl;
      entries = is.entries;
    }
