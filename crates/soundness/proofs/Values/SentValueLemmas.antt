-- What is sent is the journal's value of its tag.
use Rattle.std.proofs.Common.{◌≡◌, ℕ, ◌≤◌, true, List, Option, Some, None}
use Rattle.std.proofs.Common.{IsSome, refl, sym, subst, ap, ◌∙◌, inr, arith, slice_get}
use Rattle.std.proofs.lemmas.Option.{same_Some}
use Rattle.tag.specs.declared.tag.Tag.{Tag}
use Rattle.layout.specs.Layout.{Layout}
use Rattle.piece.specs.declared.piece.Piece.{Piece}
use Rattle.bank.specs.declared.kind.Kind.{Kind}
use Rattle.record.specs.declared.call.CallKind.{CallKind}
use Rattle.record.specs.Records.{Call, Object, layout_at, bank_at}
use Rattle.bank.specs.Bank.{knows}
use Rattle.bank.specs.declared.kind.Kind.TheVariants.{PreWrite, Finalize, Fetch}
use Rattle.record.specs.declared.call.CallKind.TheVariants.{Write}
use Rattle.record.specs.PhaseOrder.{due}
use Rattle.record.specs.declared.stage.Stage.{Stage}
use Rattle.record.specs.Journals.{stage_tag, tag_of, IsJournaled}
use Rattle.record.specs.Fragments.{Code, Determines, IsFragment, IsCoded, IfCoded, kind_tag, request_tag, request_piece}
use Rattle.soundness.specs.Sound.{IsSound}
use Rattle.record.specs.Sending.{sent_value, value_or_empty, fragment_piece, request_to, sent_pieces}
use Rattle.soundness.proofs.Values.KnownTagLemmas.{Known, call_known}
use Rattle.soundness.proofs.Values.ReadValueLemmas.{settled_journaled, settled_tag}

-- the value whose pieces a call sends is the journal's
pub sent_journaled : (fragment : Code) (object : Object) (step : ℕ) → Determines fragment → IsSound fragment object step →
    (index : ℕ) (call : Call) → slice_get object.calls index ≡ Some call → (tag : Tag) → tag_of object index call ≡ Some tag →
    (value : List ℕ) → sent_value call.kind call.settled ≡ Some value → IsJournaled object tag value
sent_journaled fragment object step determines sound index call at tag e value v = go call.kind refl v
  where
    settled : call.settled ≡ Some value → IsJournaled object tag value
    settled s =
        let has = sound.settled.settled index call value at s in
        let fetched : tag_of object index call ≡ Some has.fetch.0 =
        settled_tag fragment object sound.legal index call at value has in
        subst (λ t. IsJournaled object t value) (same_Some has.fetch.0 tag (sym fetched ∙ e))
        (settled_journaled fragment object determines sound.legal sound.values sound.coded index call at value
        (sound.values.settled index call value at s) has)

    go : (kind : CallKind) → call.kind ≡ kind → sent_value kind call.settled ≡ Some value → IsJournaled object tag value
    go (Write w) k s = inr (record { index = index; call = call; at = at; kind = k ∙ ap Write (same_Some w value s); tagged = e })
    go _ k s = settled s

-- the tag that a due phase speaks of is the call's
abbrev DueTag : Option (Kind × ℕ) → Option Tag → Type 0
DueTag None has = Unit {0}
DueTag (Some next) has = (t : Tag) → kind_tag next.0 ≡ Some t → has ≡ Some t

due_tags : (stage : Stage) → DueTag (due stage) (stage_tag stage)
due_tags stage = grind arith

pub due_tag : (stage : Stage) (kind : Kind) (position : ℕ) (tag : Tag) → due stage ≡ Some (kind, position) →
    kind_tag kind ≡ Some tag → stage_tag stage ≡ Some tag
due_tag stage kind position tag e k = subst (λ next. DueTag next (stage_tag stage)) e (due_tags stage) tag k

-- each member's piece is its fragment of the value that the call sends
pub record AreSent (fragment : Code) (layout : Layout) (call : Call) (piece : ℕ → Piece) : Type 0 where
  pub value : List ℕ
  pub is_value : sent_value call.kind call.settled ≡ Some value
  pub pieces : (member : ℕ) → piece member ≡ fragment_piece fragment layout value member

some_sent : (o : Option (List ℕ)) → IsSome o → o ≡ Some (value_or_empty o)
some_sent o some = grind arith

pub are_sent : (fragment : Code) (object : Object) (call : Call) (position : ℕ) → IsSome (sent_value call.kind call.settled) →
    AreSent fragment (layout_at object position) call (sent_pieces fragment object call position)
are_sent fragment object call position some = grind (arith, some_sent)

-- what a phase that is due, or current, sends: where it pre-writes, the pieces of the call's value
abbrev pub Sends : Code → Layout → Call → Kind → (ℕ → Piece) → Type 0
Sends fragment layout call kind piece = (tag : Tag) → kind ≡ PreWrite tag → AreSent fragment layout call piece

pub sends_plain : (fragment : Code) (layout : Layout) (call : Call) (kind : Kind) (piece : ℕ → Piece) →
    ((tag : Tag) → kind ≡ PreWrite tag → ⊥) → Sends fragment layout call kind piece
sends_plain fragment layout call kind piece plain = λ tag pre. absurd (plain tag pre)

pub sends_some : (fragment : Code) (object : Object) (call : Call) (kind : Kind) (position : ℕ) →
    IsSome (sent_value call.kind call.settled) →
    Sends fragment (layout_at object position) call kind (sent_pieces fragment object call position)
sends_some fragment object call kind position some = λ tag pre. are_sent fragment object call position some

-- a request's tag and piece are coded, where its phase is due
pub request_coded : (fragment : Code) (object : Object) (step : ℕ) → Determines fragment →
    IsSound fragment object step → (index : ℕ) (call : Call) → slice_get object.calls index ≡ Some call →
    (kind : Kind) (position : ℕ) (piece : ℕ → Piece) → (stage : Stage) → stage_tag stage ≡ tag_of object index call →
    due stage ≡ Some (kind, position) → Sends fragment (layout_at object position) call kind piece → (member : ℕ) →
    IfCoded fragment object position member (request_tag (request_to kind (piece member))) (request_piece (request_to kind (piece member)))
request_coded fragment object step determines sound index call at kind position piece stage same e sends member = go kind refl
  where
    known : (tag : Tag) → kind_tag kind ≡ Some tag → IsCoded fragment object position member tag None
    known tag k =
        let found = call_known fragment object step sound index call at tag (sym same ∙ due_tag stage kind position tag e k) in
        record { value = found.0; journaled = found.1; fits = λ kept p. absurd (cc) }

    go : (k : Kind) → kind ≡ k →
        IfCoded fragment object position member (request_tag (request_to k (piece member))) (request_piece (request_to k (piece member)))
    go (Finalize tag) k = known tag (ap kind_tag k)
    go (Fetch tag) k = known tag (ap kind_tag k)
    go (PreWrite tag) k =
        let sent = sends tag k in
        record {
          value = sent.value;
          journaled = sent_journaled fragment object step determines sound index call at tag
              (sym same ∙ due_tag stage kind position tag e (ap kind_tag k)) sent.value sent.is_value;
          fits = λ kept p. subst (IsFragment fragment (layout_at object position) member sent.value)
              (sym (sent.pieces member) ∙ same_Some (piece member) kept p)
              (record { point = refl; len = refl; bytes = refl });
        }
    go _ k = tt

-- the tags of the journal have numbers of the past

pub known_past : (fragment : Code) (object : Object) (step : ℕ) → IsSound fragment object step → (tag : Tag) →
    Known object tag → tag.number ≤ step
known_past fragment object step sound tag known = grind arith

pub bank_known : (fragment : Code) (object : Object) (step : ℕ) → IsSound fragment object step →
    (position member : ℕ) (tag : Tag) → knows (bank_at object position member) tag ≡ true → Known object tag
bank_known fragment object step sound position member tag there = grind arith

pub bank_known_past : (fragment : Code) (object : Object) (step : ℕ) → IsSound fragment object step →
    (position member : ℕ) (tag : Tag) → knows (bank_at object position member) tag ≡ true → tag.number ≤ step
bank_known_past fragment object step sound position member tag there = grind (arith, bank_known, known_past)
