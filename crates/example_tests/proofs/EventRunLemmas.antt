-- What single events may do, and runs of events, a part at a time.
use Rattle.std.proofs.Common.{◌≡◌, ℕ, nat_eq, ◌≤◌, true, false, List, [], ◌∷◌, ◌++◌, length, None, Some, IsSome}
use Rattle.std.proofs.Common.{refl, sym, ap, ◌∙◌, arith, slice_get}
use Rattle.std.specs.List.{IsDistinct}
use Rattle.tag.specs.declared.limits.TheConstants.{LONGEST_VALUE}
use Rattle.bank.specs.declared.reply.Answer.TheVariants as answer
use Rattle.mail.specs.declared.phase.Taken.{Taken}
use Rattle.mail.specs.Phase.{lacks_pieces}
use Rattle.record.specs.Fragments.{IsFetch, IsValue}
use Rattle.record.specs.Wants.{is_fetch}
use Rattle.open_calls.specs.OpenCalls.{NodeCall, IsReady}
use Rattle.network.specs.Worlds.{World, known_layout}
use Rattle.network.specs.Events.{Event, IsFetched, happens, world_after}
use Rattle.network.specs.Premises.{MayHappenInTurn}
use Rattle.example_tests.specs.RecordExamples.{whole}
use Rattle.example_tests.specs.Scripts.{letter}

-- Values and ids

letter_fits : 1 ≤ LONGEST_VALUE
letter_fits = omega arith

pub letter_is_value : IsValue letter
letter_is_value = ((omega arith, tt), letter_fits)

pub empty_is_value : IsValue []
empty_is_value = (tt, omega arith)

pub one_distinct : (member : ℕ) → IsDistinct nat_eq (member ∷ [])
unfolding IsDistinct
one_distinct member = (tt, tt)

pub three_distinct : IsDistinct nat_eq (0 ∷ 1 ∷ 2 ∷ [])
unfolding IsDistinct
three_distinct = ((refl, (refl, tt)), ((refl, tt), (tt, tt)))

-- the second call has the id 3, and the first, the only one before it, has 7
pub other_id : (◌≡◌ {A = ℕ} 7 3 → ⊥) × Unit {0}
other_id = (λ same. absurd (omega arith), tt)

-- Calls that go on

-- a call whose current phase is complete, and no fetch, is ready for what comes next
pub ready : (call : NodeCall) → IsSome call.phase.end → is_fetch call.phase.kind ≡ false → IsReady call
ready call complete other = record {
  complete = complete;
  fetched = λ fetch. absurd (let clash : false ≡ true = sym other ∙ ap is_fetch fetch.1 in cc);
}

-- and so is a call whose fetch is complete and whose value is settled
pub ready_settled : (call : NodeCall) → IsSome call.phase.end → IsSome call.settled → IsReady call
ready_settled call complete settled = record { complete = complete; fetched = λ fetch. settled }

-- the first reply that a fetch took, from a member that keeps this whole value
abbrev pub first_piece : (member : ℕ) → List ℕ → Taken
first_piece member value = record {
  member = member;
  reply = record {
    step = 0;
    answer = answer.Piece (Some (record { point = member; len = length value; bytes = value }));
  };
  step = 0;
}

-- a value may be settled if the fetch is complete and took such a reply, where one fragment restores a value
pub fetched_once : {world : World} {call : NodeCall} {value : List ℕ} (member : ℕ) → IsSome call.phase.end →
    IsFetch call.phase.kind → call.settled ≡ None → lacks_pieces call.phase ≡ false →
    slice_get call.phase.replies 0 ≡ Some (first_piece member value) →
    (known_layout world call.node call.phase.position).k ≡ 1 → IsValue value → IsFetched whole world call value
fetched_once {world} {call} {value} member complete fetch unsettled enough took one is_value = record {
  complete = complete;
  fetch = fetch;
  unsettled = unsettled;
  enough = enough;
  pieces = record {
    members = member ∷ [];
    distinct = one_distinct member;
    enough = omega arith;
    pieces = (
      record {
        place = 0;
        reply = first_piece member value;
        within = took;
        same_member = refl;
        piece = _;
        same_piece = refl;
        is_fragment = record { point = refl; len = refl; bytes = refl };
      },
      tt,
    );
  };
  is_value = is_value;
}

-- Runs

-- events, and then others
pub may_append : (first second : List Event) (world : World) → MayHappenInTurn whole first world →
    MayHappenInTurn whole second (world_after whole first world) → MayHappenInTurn whole (first ++ second) world
may_append [] second world a b = b
may_append (event ∷ first) second world a b = (a.0, a.1, may_append first second (happens whole world event) a.2 b)
