-- A read whose answer may be told returned the journal's value of its tag.
use Rattle.std.proofs.Common.{nat_eq, ◌≡◌, ℕ, ◌≤◌, ◌⊎◌, List, [], ◌∷◌, length, Some, refl, sym, subst, ap, ◌∙◌, inl, inr, arith}
use Rattle.std.specs.List.{AllByRecursion, IsDistinct}
use Rattle.tag.specs.declared.tag.Tag.{Tag}
use Rattle.tag.specs.declared.limits.TheConstants.{MOST_MEMBERS}
use Rattle.layout.specs.Layout.{IsLawful}
use Rattle.record.specs.declared.call.CallKind.TheVariants.{Read}
use Rattle.record.specs.Fragments.{Code, Determines, IsValue}
use Rattle.record.specs.Journals.{IsJournaled}
use Rattle.record.specs.Records.{Object, layout_at}
use Rattle.soundness.specs.Sound.{IsSound}
use Rattle.soundness.proofs.ListLemmas.{all_map}
use Rattle.soundness.proofs.Quorums.QuorumMeetingLemmas.{lawful_at}
use Rattle.soundness.proofs.Values.ReadValueLemmas.{journal_bytes, journal_unique}
use Rattle.early_ends.specs.Told.{HasToldPiece, HasToldPieces, IsHeldCall, IsTold, IsToldRead, ReturnsTold, Told}

-- k fragments of a value that are also fragments of the journal's value of a tag
told_pieces_journaled : (fragment : Code) (object : Object) (step : ℕ) → Determines fragment → IsSound fragment object step →
    (position : ℕ) (tag : Tag) (value : List ℕ) → IsLawful (layout_at object position) → IsValue value →
    HasToldPieces fragment object position tag value → IsJournaled object tag value
told_pieces_journaled fragment object step determines sound position tag value lawful bytes has =
    go has.members has.distinct has.enough has.pieces
  where
    k : ℕ
    k = (layout_at object position).k

    few : k ≤ MOST_MEMBERS
    few = let a = lawful.enough in let b = lawful.few in omega arith

    go : (members : List ℕ) → IsDistinct nat_eq members → k ≤ length members →
        AllByRecursion (HasToldPiece fragment object position tag value) members → IsJournaled object tag value
    go [] distinct enough all = absurd (let some = lawful.some in omega arith)
    go (member ∷ members) distinct enough all =
        let first = all.0.coded in
        let fits = first.fits all.0.piece refl in
        let same = determines k (member ∷ members) first.value value lawful.some few enough distinct
        (all_map (λ i (a : HasToldPiece fragment object position tag value i).
        let h = a.within in let b = lawful.few in let m : MOST_MEMBERS ≡ 255 = refl in omega arith) (member ∷ members) all)
        (journal_bytes object sound.values tag first.value first.journaled) bytes (sym fits.len ∙ all.0.fits.len)
        (all_map (λ i (a : HasToldPiece fragment object position tag value i).
        ap (λ v. fragment v k i) (journal_unique object sound.legal tag first.value a.coded.value first.journaled a.coded.journaled)
        ∙ sym (a.coded.fits a.piece refl).bytes ∙ a.fits.bytes) (member ∷ members) all) in
        subst (λ v. IsJournaled object tag v) same first.journaled

-- what a read returned, whose answer may be told
pub told_value : (fragment : Code) (object : Object) (step : ℕ) → Determines fragment → IsSound fragment object step →
    (told : Told) → (may : IsTold fragment object told) → may.call.kind ≡ Read →
    (value : List ℕ) × (told.value ≡ Some value) × IsJournaled object may.tag value
told_value fragment object step determines sound told may reads = go may.held
  where
    returned_value : ReturnsTold fragment object told may.tag →
        (value : List ℕ) × (told.value ≡ Some value) × IsJournaled object may.tag value
    returned_value returns = (
      returns.value,
      returns.returned,
      told_pieces_journaled fragment object step determines sound returns.position may.tag returns.value
          (lawful_at object returns.position sound.legal.layouts returns.pieces.placed) returns.is_value returns.pieces,
    )

    go : IsHeldCall fragment object told may.call may.tag ⊎ IsToldRead fragment object told may.call may.tag →
        (value : List ℕ) × (told.value ≡ Some value) × IsJournaled object may.tag value
    go (inl held) = returned_value (held.returns reads)
    go (inr read) = returned_value read.returns
