-- The call and the phase that take a reply.
use Rattle.std.proofs.Common.{◌≡◌, ℕ, zero, suc, ◌+◌, ◌<◌, ◌≤◌, ◌⊎◌, false}
use Rattle.std.proofs.Common.{nat_lt, List, [], ◌∷◌, ◌++◌, length, set, Option, Some, None}
use Rattle.std.proofs.Common.{refl, sym, subst, ap, ◌∙◌, inl, inr, arith, eqb-true, slice_get}
use Rattle.std.proofs.lemmas.Bool.{cases_eq}
use Rattle.std.proofs.lemmas.Bool.Decides.{nat_tests}
use Rattle.std.proofs.lemmas.Option.{same_Some}
use Rattle.tag.specs.declared.tag.Tag.{Tag}
use Rattle.layout.specs.Quorum.{has}
use Rattle.bank.specs.declared.reply.Reply.{Reply}
use Rattle.mail.specs.declared.message.Message.{Message}
use Rattle.mail.specs.declared.phase.Taken.{Taken}
use Rattle.mail.specs.Phase.{Phase, members_of, has_taken, after_reply, after_take, lacks_pieces}
use Rattle.record.specs.declared.call.CallKind.{CallKind}
use Rattle.record.specs.declared.call.CallKind.TheVariants.{Write}
use Rattle.record.specs.Records.{Call, Object, layout_at}
use Rattle.record.specs.declared.stage.Stage.{Stage}
use Rattle.record.specs.PhaseOrder.{passed, stage_after, begun_at, stage_past}
use Rattle.record.specs.Legal.{AreNumbered}
use Rattle.record.specs.Journals.{stage_tag}
use Rattle.record.specs.Fragments.{Code, IsFetch, IsSettled, HasPiece}
use Rattle.record.specs.Steps.{taking_phases}
use Rattle.soundness.proofs.ListLemmas.{get_push, get_set, set_here, set_there, all_map}
use Rattle.record.proofs.Phases.PastFetchLemmas.{IsOfWrite, late_of_write, late_past, of_write_past}
use Rattle.record.proofs.BegunStageLemmas.{begun_tag}

pub numbered_at : (call number : ℕ) (phases : List Phase) (place : ℕ) (phase : Phase) → AreNumbered call number phases →
    slice_get phases place ≡ Some phase → (phase.call ≡ call) × (phase.number ≡ number + place)
numbered_at call number [] place phase numbered at = absurd (cc)
numbered_at call number (first ∷ phases) zero phase numbered at =
    subst (λ (p : Phase). (p.call ≡ call) × (p.number ≡ number + 0)) (same_Some first phase at)
    (numbered.0, (let n = numbered.1 in omega arith))
numbered_at call number (first ∷ phases) (suc place) phase numbered at =
    let rest = numbered_at call (suc number) phases place phase numbered.2 at in (rest.0, (let n = rest.1 in omega arith))

-- a write's tag stays when the last phase, which was open, is changed
pub tag_set : (value : List ℕ) (kind : CallKind) → kind ≡ Write value → (number : ℕ) (phases : List Phase) (stage : Stage) →
    IsOfWrite stage → (place : ℕ) (old new : Phase) (tag : Tag) →
    slice_get phases place ≡ Some old → suc place ≡ length phases →
    old.end ≡ None → stage_tag (stage_after kind number stage phases) ≡ Some tag →
    stage_tag (stage_after kind number stage (set phases place new)) ≡ Some tag
tag_set value kind k number (first ∷ []) stage of zero old new tag at last none e =
    let end_is : first.end ≡ None = ap (λ (p : Phase). p.end) (same_Some first old at) ∙ none in
    (late_past kind number stage new tag
    (late_of_write stage of tag (sym (begun_tag stage first.position) ∙
    subst (λ o. stage_tag (passed kind number (begun_at stage first.position) o first.replies (lacks_pieces first)) ≡ Some tag)
    end_is e))).1
tag_set value kind k number (first ∷ next ∷ later) stage of zero old new tag at last none e = absurd (omega arith)
tag_set value kind k number (first ∷ next ∷ later) stage of (suc place) old new tag at last none e =
    tag_set value kind k number (next ∷ later) (stage_past kind number stage first)
    (of_write_past value kind k number stage first of) place old new tag at (omega arith) none e
tag_set value kind k number _ stage of _ old new tag at last none e = absurd (cc)

-- the test on the replies is one on their members
has-members_of : (replies : List Taken) (member : ℕ) → has (members_of replies) member ≡ has_taken replies member
has-members_of [] member = refl
has-members_of (t ∷ ts) member = grind (arith, nat_tests, has-members_of ts member)

-- the phase with one more reply
abbrev pub grown_phase : Phase → Taken → (end : Option ℕ) → Phase
grown_phase phase taken end = record phase { replies = phase.replies ++ taken ∷ []; end = end }

-- what is recorded of a message
abbrev pub taken_reply : Message → Reply → (now : ℕ) → Taken
taken_reply message made now = record { member = message.member; reply = made; step = now }

-- what a take that is recorded does to the phase
pub record Recorded (phase : Phase) (call number : ℕ) (taken : Taken) (now : ℕ) (next : Phase) : Type 0 where
  pub same_call : call ≡ phase.call
  pub same_number : number ≡ phase.number
  pub open_phase : phase.end ≡ None
  pub fresh : has (members_of phase.replies) taken.member ≡ false
  pub end : Option ℕ
  pub completes : (step : ℕ) → end ≡ Some step → (step ≡ now) × (phase.quorum ≤ suc (length phase.replies))
  pub grown : next ≡ grown_phase phase taken end

pub take_result : (phase : Phase) (call number member : ℕ) (made : Reply) (now : ℕ) →
    (after_reply phase call number member made now ≡ phase) ⊎
    Recorded phase call number (record { member = member; reply = made; step = now }) now (after_reply phase call number member made now)
take_result phase call number member made now = grind (arith, eqb-true, grown_phase, has-members_of, nat_lt, nat_tests, same_Some)

-- the last phase, which takes the message
pub record TakesAt (phases : List Phase) (message : Message) (now : ℕ) : Type 0 where
  pub place : ℕ
  pub phase : Phase
  pub within : slice_get phases place ≡ Some phase
  pub last : suc place ≡ length phases
  pub is : taking_phases phases message now ≡ set phases place (after_take phase message now)

pub takes_at : (phases : List Phase) (message : Message) (now place : ℕ) (phase : Phase) → slice_get phases place ≡ Some phase →
    TakesAt phases message now
takes_at [] message now place phase within = absurd (cc)
takes_at (first ∷ []) message now place phase within = record { place = 0; phase = first; within = refl; last = refl; is = refl }
takes_at (first ∷ next ∷ later) message now place phase within =
    let rest = takes_at (next ∷ later) message now 0 next refl in
    record {
      place = suc rest.place;
      phase = rest.phase;
      within = rest.within;
      last = (let l = rest.last in omega arith);
      is = ap (λ phases. first ∷ phases) rest.is;
    }

has_piece_more :
    (fragment : Code) (object : Object) (phase : Phase) (reply : Taken) (end : Option ℕ) (value : List ℕ) (member : ℕ) →
    HasPiece fragment object phase value member → HasPiece fragment object (grown_phase phase reply end) value member
has_piece_more fragment object phase reply end value member piece = record {
  place = piece.place;
  reply = piece.reply;
  within = get_push phase.replies reply piece.reply piece.place piece.within;
  same_member = piece.same_member;
  piece = piece.piece;
  same_piece = piece.same_piece;
  is_fragment = piece.is_fragment;
}

pub settled_more : (fragment : Code) (object : Object) (call : Call) (place : ℕ) (phase : Phase) (reply : Taken) (end : Option
    ℕ) (value : List ℕ) → slice_get call.phases place ≡ Some phase → IsSettled fragment object call value →
    IsSettled fragment object (record call { phases = set call.phases place (grown_phase phase reply end) }) value
settled_more fragment object call place phase reply end value within s = go (cases_eq s.place place)
  where
    grown : Phase
    grown = grown_phase phase reply end

    latest : (later : ℕ) (other : Phase) → slice_get (set call.phases place grown) later ≡ Some other → s.place < later →
        IsFetch other.kind → ⊥
    latest later other e after fetch = on (get_set call.phases place later phase grown other within e)
      where
        on : ((later ≡ place) × (grown ≡ other)) ⊎ (slice_get call.phases later ≡ Some other) → ⊥
        on (inl here) = s.latest place phase within (let same = here.0 in omega arith)
            (subst (λ (p : Phase). IsFetch p.kind) (sym here.1) fetch)
        on (inr there) = s.latest later other there after fetch

    go : (s.place ≡ place) ⊎ (s.place ≡ place → ⊥) →
        IsSettled fragment object (record call { phases = set call.phases place grown }) value
    go (inl here) =
        let same : s.phase ≡ phase = same_Some s.phase phase (sym s.within ∙ ap (λ i. slice_get call.phases i) here ∙ within) in
        record {
          place = s.place;
          phase = grown;
          within = subst (λ i. slice_get (set call.phases place grown) i ≡ Some grown) (sym here)
              (set_here call.phases place phase grown within);
          fetch = subst (λ (p : Phase). IsFetch p.kind) same s.fetch;
          latest = latest;
          pieces = record {
            members = s.pieces.members;
            distinct = s.pieces.distinct;
            enough = subst (λ (p : Phase). (layout_at object p.position).k ≤ length s.pieces.members) same s.pieces.enough;
            pieces = all_map (λ member piece. has_piece_more fragment object phase reply end value member
                (subst (λ (p : Phase). HasPiece fragment object p value member) same piece)) _ s.pieces.pieces;
          };
        }
    go (inr apart) = record {
      place = s.place;
      phase = s.phase;
      within = set_there call.phases place s.place grown s.phase apart s.within;
      fetch = s.fetch;
      latest = latest;
      pieces = s.pieces;
    }

pub set_same : {A : Type 0} (xs : List A) (i : ℕ) (x : A) → slice_get xs i ≡ Some x → set xs i x ≡ xs
set_same [] i x e = refl
set_same (y ∷ ys) zero x e = ap (λ z. z ∷ ys) (sym (same_Some y x e))
set_same (y ∷ ys) (suc i) x e = ap (λ zs. y ∷ zs) (set_same ys i x e)
