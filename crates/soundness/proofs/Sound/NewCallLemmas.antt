-- What is so before a call is added.
use Rattle.std.proofs.lemmas.Grind.{common_steps}
use Rattle.std.proofs.Common.{◌≡◌, ℕ, ◌<◌, ◌≤◌, List, [], ◌∷◌, ◌++◌, length}
use Rattle.std.proofs.Common.{take, Option, Some, None, IsSome, arith, slice_get}
use Rattle.layout.specs.Layout.{Layout}
use Rattle.bank.specs.declared.kind.Kind.{Kind}
use Rattle.record.specs.declared.call.CallKind.{CallKind}
use Rattle.record.specs.Records.{Call, Object}
use Rattle.record.specs.Legal.{moves_in, first_stage}
use Rattle.record.specs.Journals.{stage_tag}
use Rattle.record.specs.Fragments.{Code, IfCoded, kind_tag, request_tag, request_piece}
use Rattle.soundness.specs.Sound.{IsSound}
use Rattle.record.specs.Sending.{request_to}
use Rattle.record.specs.Steps.{new_phase, new_call}
use Rattle.bank.specs.Bank.{empty_piece}
use Rattle.soundness.proofs.Sound.ItemLemmas.{call_of}

pub moves_push : (calls : List Call) (call : Call) (i : ℕ) → i ≤ length calls →
    moves_in (take i (calls ++ call ∷ [])) ≡ moves_in (take i calls)
moves_push calls call i h = grind (arith, common_steps)

pub take_all : (calls : List Call) → moves_in (take (length calls) calls) ≡ moves_in calls
take_all calls = grind (arith, common_steps)

-- no call begins with a tag
pub first_untagged : (kind : CallKind) (from : ℕ) → stage_tag (first_stage kind from) ≡ None
first_untagged kind from = grind arith

-- a call that begins
abbrev pub begun : CallKind → (id now : ℕ) → Kind → (position : ℕ) → Layout → Call
begun kind id now asked position layout =
    record (new_call id kind now) { phases = new_phase id 1 asked position layout now ∷ [] }

-- an answer of a sound record is past
pub answered_past : {fragment : Code} {object : Object} {step now : ℕ} → IsSound fragment object step → step < now → (i : ℕ) (a : Call) →
    slice_get object.calls i ≡ Some a → (o : Option ℕ) → a.answered ≡ o → IsSome o → (s : ℕ) × (a.answered ≡ Some s) × (s < now)
answered_past sound less i a p None e some = absurd (cc)
answered_past sound less i a p (Some s) e some = (s, e, (let up = (call_of sound i a p).answered s e in omega arith))

-- a request that brings no tag has no piece to be coded
pub none_coded : (fragment : Code) (object : Object) (position member : ℕ) (asked : Kind) → kind_tag asked ≡ None →
    IfCoded fragment object position member (request_tag (request_to asked (empty_piece member)))
    (request_piece (request_to asked (empty_piece member)))
none_coded fragment object position member asked untagged = grind arith
