-- Runs of steps, a few at a time.
use Rattle.std.proofs.Common.{◌≡◌, ◌≢◌, ℕ, nat_eq, suc, ◌+◌, ◌≤◌, List, [], Option, Some, None, slice_get}
use Rattle.std.proofs.Common.{◌∷◌, ◌++◌, length, refl, sym, subst, ap, ◌∙◌, arith}
use Rattle.std.specs.List.{AllByRecursion, IsDistinct}
use Rattle.record.specs.declared.call.Entry.{Entry}
use Rattle.record.specs.Records.{Call, Object, layout_at}
use Rattle.record.specs.Journals.{entries}
use Rattle.example_tests.specs.RecordExamples.{whole}
use Rattle.tag.specs.declared.limits.TheConstants.{LONGEST_VALUE}
use Rattle.piece.specs.declared.piece.Piece.{Piece}
use Rattle.bank.specs.declared.kind.Kind.{Kind}
use Rattle.bank.specs.declared.reply.Answer.{Answer}
use Rattle.bank.specs.declared.reply.Answer.TheVariants as answer
use Rattle.mail.specs.declared.message.Body.TheVariants as body
use Rattle.mail.specs.declared.message.Message.{Message}
use Rattle.mail.specs.Phase.{Phase}
use Rattle.record.specs.declared.stage.Want.TheVariants as want
use Rattle.record.specs.Fragments.{IsCode, IsValue}
use Rattle.record.specs.Preconditions.{MayRun, MaySettle}
use Rattle.record.specs.Steps.{Step, stepped, run}
use Rattle.record.specs.Wants.{Wants, current_phase}

letter_fits : 1 ≤ LONGEST_VALUE
letter_fits = omega arith

pub whole_is_code : IsCode whole
whole_is_code = record {
  determines = λ k points v w some few enough distinct below one other same all. first k points v w some enough all;
  empty = λ k point. refl;
}
  where
    first : (k : ℕ) (points : List ℕ) (v w : List ℕ) → 1 ≤ k → k ≤ length points →
        AllByRecursion (λ i. v ≡ w) points → v ≡ w
    first k [] v w some enough all = absurd (omega arith)
    first k (point ∷ points) v w some enough all = all.0

pub one_distinct : IsDistinct nat_eq (0 ∷ [])
unfolding IsDistinct
one_distinct = (tt, tt)

pub other_distinct : IsDistinct nat_eq (1 ∷ [])
unfolding IsDistinct
other_distinct = (tt, tt)

-- Ids of no call

pub none_new : (id index : ℕ) (call : Call) → slice_get [] index ≡ Some call → call.id ≢ id
none_new id index call at = absurd (cc)

-- the id of a call, if there is one
abbrev pub id_or : Option Call → ℕ
id_or None = 0
id_or (Some call) = call.id

-- Runs in parts: a map does not compute, so a run stops where a bank answers from its rows, and goes on with what that answer is

abbrev pub also : {A B : Type 0} → A → B → A × B
also a b = (a, b)

-- these steps may be made, and leave these entries
pub record Goes (steps : List Step) (now : ℕ) (object : Object) (history : List Entry) : Type 0 where
  pub may : MayRun whole steps now object
  pub gives : entries (run whole steps now object) ≡ history

-- what a part of a run leads to
pub record Leads (steps : List Step) (now : ℕ) (object : Object) (later : Object) : Type 0 where
  pub may : MayRun whole steps now object
  pub gives : run whole steps now object ≡ later

run_append : (xs ys : List Step) (now then : ℕ) (object : Object) → then ≡ now + length xs →
    run whole (xs ++ ys) now object ≡ run whole ys then (run whole xs now object)
run_append [] ys now then object e = let same : now ≡ then = omega arith in ap (λ n. run whole ys n object) same
run_append (x ∷ xs) ys now then object e = run_append xs ys (suc now) then (stepped whole x now object) (omega arith)

may_append : (xs ys : List Step) (now then : ℕ) (object : Object) → then ≡ now + length xs → MayRun whole xs now object →
    MayRun whole ys then (run whole xs now object) →
    MayRun whole (xs ++ ys) now object
may_append [] ys now then object e first rest = let same : then ≡ now = omega arith in subst (λ n. MayRun whole ys n object) same rest
may_append (x ∷ xs) ys now then object e first rest =
    (first.0, may_append xs ys (suc now) then (stepped whole x now object) (omega arith) first.1 rest)

-- a part that leads to a record, and the rest of the run
pub goes_on : {xs ys : List Step} {now then : ℕ} {object later : Object} {history : List Entry} → Leads xs now object later →
    Goes ys then later history → then ≡ now + length xs → Goes (xs ++ ys) now object history
goes_on {xs} {ys} {now} {then} {object} {history = history} leads goes e =
    let here = subst (λ o. Goes ys then o history) (sym leads.gives) goes in
    record {
      may = may_append xs ys now then object e leads.may here.may;
      gives = ap entries (run_append xs ys now then object e) ∙ here.gives;
    }

-- parts that lead one to another
pub leads_on : {xs ys : List Step} {now then : ℕ} {object middle later : Object} → Leads xs now object middle →
    Leads ys then middle later → then ≡ now + length xs → Leads (xs ++ ys) now object later
leads_on {xs} {ys} {now} {then} {object} first rest e = record {
  may = may_append xs ys now then object e first.may (subst (λ o. MayRun whole ys then o) (sym first.gives) rest.may);
  gives = run_append xs ys now then object e ∙ (ap (λ o. run whole ys then o) first.gives ∙ rest.gives);
}

-- the record after these steps, with this mail, which is what a bank answered
abbrev pub heard : List Step → (now : ℕ) → Object → List Message → Object
heard steps now object mail = record (run whole steps now object) { mail = mail }

pub hears : (steps : List Step) (now : ℕ) (object : Object) (mail : List Message) →
    (run whole steps now object).mail ≡ mail → MayRun whole steps now object → Leads steps now object (heard steps now object mail)
hears steps now object mail told may =
    record { may = may; gives = ap (λ (m : List Message). heard steps now object m) told }

-- the reply of the only member to a phase of a call
abbrev pub reply_of : (call phase position : ℕ) → Kind → (step : ℕ) → Answer → List Message
reply_of call phase position kind step said =
    record { call = call; phase = phase; position = position; member = 0; body = body.Reply kind (record { step = step; answer = said }) }
    ∷ []

-- The value

pub letter_is_value : IsValue (65 ∷ [])
letter_is_value = ((omega arith, tt), letter_fits)

-- a member's piece of the value
abbrev pub letter : ℕ → Piece
letter member = record { point = member; len = 1; bytes = 65 ∷ [] }

-- a value may be settled once the piece of member 0 was taken, if one piece is enough
pub settles_with : (object : Object) (index : ℕ) (value : List ℕ) → IsValue value → {call : Call} {k len told taken : ℕ}
    {phase : Phase} → Wants object index call (want.Settle k len) → current_phase call.phases ≡ Some phase →
    slice_get phase.replies 0
    ≡ Some (record {
      member = 0;
      reply = record { step = told; answer = answer.Piece (Some (record { point = 0; len = length value; bytes = value })) };
      step = taken;
    }) → (layout_at object phase.position).k ≡ 1 → MaySettle whole object index value
settles_with object index value is {phase = phase} wants current took one = record {
  call = _;
  k = _;
  len = _;
  wants = wants;
  phase = phase;
  current = current;
  pieces = record {
    members = 0 ∷ [];
    distinct = one_distinct;
    enough = omega arith;
    pieces = (
      record {
        place = 0;
        reply = _;
        within = took;
        same_member = refl;
        piece = _;
        same_piece = refl;
        is_fragment = record { point = refl; len = refl; bytes = refl };
      },
      tt,
    );
  };
  is_value = is;
}

-- so may the value, once the only member's piece was taken
pub settles : (object : Object) (index : ℕ) {call : Call} {k len told taken : ℕ} {phase : Phase} →
    Wants object index call (want.Settle k len) → current_phase call.phases ≡ Some phase →
    slice_get phase.replies 0
    ≡ Some (record { member = 0; reply = record { step = told; answer = answer.Piece (Some (letter 0)) }; step = taken }) →
    (layout_at object phase.position).k ≡ 1 → MaySettle whole object index (65 ∷ [])
settles object index wants current took one = settles_with object index (65 ∷ []) letter_is_value wants current took one
