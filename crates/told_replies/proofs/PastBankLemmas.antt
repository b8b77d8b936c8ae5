-- What a bank of a world on the way told, the last record of the run still says of that step.
use Rattle.std.proofs.Common.{◌≡◌, ℕ, suc, ◌<◌, true, false, cond, List, [], length, Option, None, Some, IsSome, is_some, get_or}
use Rattle.std.proofs.Common.{refl, sym, subst₂, ap, ◌∙◌, inl, inr, arith, slice_get}
use Rattle.std.specs.FinMap as map
use Rattle.tag.specs.declared.tag.Tag.{Tag}
use Rattle.tag.specs.Tag.{opening_tag, tag_lt}
use Rattle.piece.specs.declared.piece.Piece.{Piece}
use Rattle.bank.specs.Bank.{Bank, piece_of, piece_of_row}
use Rattle.bank.specs.Facts.{IsBefore, IsEarlier}
use Rattle.bank.specs.Knowledge.{HasFinalized, came_by, final_since, finalized_at, pending_since, pointer_at, row_finalized}
use Rattle.bank.specs.Pointer.{status_of}
use Rattle.bank.specs.Serve.{greatest_final}
use Rattle.bank.specs.declared.reply.Answer.TheVariants as answer
use Rattle.bank.specs.declared.request.Request.TheVariants as request
use Rattle.bank.specs.declared.row.Row.{Row}
use Rattle.bank.specs.declared.status.Pointer.{Pointer}
use Rattle.bank.specs.declared.status.Pointer.TheVariants as pointer
use Rattle.bank.specs.declared.status.Status.TheVariants as status
use Rattle.bank.proofs.GreatestTagLemmas.{greatest_final_is}
use Rattle.record.specs.Fragments.{Code, IsCoded, IsFragment}
use Rattle.record.specs.Journals.{IsJournaled}
use Rattle.record.specs.Legal.{IsLegal}
use Rattle.record.specs.Records.{Call, Object, bank_at, layout_at, no_bank}
use Rattle.record.specs.declared.call.CallKind.TheVariants.{Write}
use Rattle.soundness.specs.Sound.{IsSound}
use Rattle.soundness.proofs.Values.WrittenTagLemmas.{written_above, written_id}
use Rattle.std.proofs.lemmas.Option.{same_Some}
use Rattle.network.specs.Following.{last_step_after}
use Rattle.network.specs.Unstamped.{unstamped_bank}
use Rattle.network.specs.Worlds.{World, member_bank}
use Rattle.network.proofs.ServedRequestLemmas.{bank-bare}
use Rattle.network.proofs.UnstampedBankLemmas.{answer-bare, piece_of-bare}
use Rattle.told_replies.proofs.KeptPastLemmas.{KeepsPast}
use Rattle.told_replies.proofs.TracedRunLemmas.{Remembers}

-- Banks of which all is past

-- what happened at all happened by then
came_now : (o : Option ℕ) (step : ℕ) → IsEarlier o (suc step) → came_by o step ≡ is_some o
came_now o step earlier = grind arith

pointer_now : (bank : Bank) (step : ℕ) → IsBefore bank (suc step) → pointer_at bank step ≡ status_of bank.pointer
pointer_now bank step before = go bank.pointer before.pending before.final
  where
    go : (p : Pointer) → IsEarlier (pending_since p) (suc step) → IsEarlier (final_since p) (suc step) →
        cond (came_by (final_since p) step) status.Final (cond (came_by (pending_since p) step) status.Pending status.Unset)
        ≡ status_of p
    go pointer.Unset pending final = refl
    go (pointer.Pending since) pending final = ap (λ b. cond b status.Pending status.Unset) (came_now (Some since) step pending)
    go (pointer.Final pending_at since) pending final =
        ap (λ b. cond b status.Final (cond (came_by (Some pending_at) step) status.Pending status.Unset)) (came_now (Some since) step final)

-- Banks without stamps

status-bare : (bank : Bank) → status_of (unstamped_bank bank).pointer ≡ status_of bank.pointer
status-bare bank =
    let same : answer.Pointer (status_of (unstamped_bank bank).pointer) ≡ answer.Pointer (status_of bank.pointer) =
    answer-bare bank request.Next in
    cc

greatest-bare : (bank : Bank) → greatest_final (unstamped_bank bank) ≡ greatest_final bank
greatest-bare bank =
    let same : answer.Greatest (greatest_final (unstamped_bank bank)) ≡ answer.Greatest (greatest_final bank) =
    answer-bare bank request.Query in
    cc

-- The journal

-- the journal of the last record gives a tag the value that an earlier one gave it
same_value : (old new : Object) (last : ℕ) → IsLegal old → IsLegal new → KeepsPast last old new → (tag : Tag) (v w : List ℕ) →
    IsJournaled old tag v → IsJournaled new tag w → v ≡ w
same_value old new last legal legal2 kept tag v w (inl a) (inl b) = a.1 ∙ sym b.1
same_value old new last legal legal2 kept tag v w (inl a) (inr b) =
    absurd (let n = written_above new legal2 tag w b in let o = ap (λ (t : Tag). t.number) a.0 in omega arith)
same_value old new last legal legal2 kept tag v w (inr a) (inl b) =
    absurd (let n = written_above old legal tag v a in let o = ap (λ (t : Tag). t.number) b.0 in omega arith)
same_value old new last legal legal2 kept tag v w (inr a) (inr b) =
    let still = kept.calls a.index a.call a.at in
    let place : a.index ≡ b.index =
    legal2.ids a.index b.index still.other b.call still.at b.at
    (still.same_id ∙ sym (written_id old legal tag v a) ∙ written_id new legal2 tag w b) in
    let one : still.other ≡ b.call = same_Some still.other b.call (sym still.at ∙ ap (slice_get new.calls) place ∙ b.at) in
    let kinds : Write v ≡ Write w = sym a.kind ∙ sym still.same_kind ∙ ap (λ (c : Call). c.kind) one ∙ b.kind in
    cc

known_final : (o : Option Row) → IsSome (row_finalized o) → is_some o ≡ true
known_final None final = absurd (cc)
known_final (Some row) final = refl

came_some : (o : Option ℕ) (step : ℕ) → came_by o step ≡ true → IsSome o
came_some None step came = absurd (cc)
came_some (Some at) step came = refl

known_piece : (o : Option Row) (piece : Piece) → piece_of_row o ≡ Some piece → is_some o ≡ true
known_piece None piece e = absurd (cc)
known_piece (Some row) piece e = refl

-- A bank on the way

module _ (fragment : Code) (world : World) (last : Object) (now : ℕ) (sound : IsSound fragment last now)
    (there : Remembers fragment world last) (position member : ℕ) (placed : position < length there.object.layouts)
    (below : member < length (layout_at there.object position).members) where
  abbrev step : ℕ
  step = last_step_after world.now

  abbrev old : Bank
  old = bank_at there.object position member

  abbrev pub past_bank : Bank
  past_bank = bank_at last position member

  abbrev told : Bank
  told = member_bank world position member

  kept_place : position < length there.object.banks
  kept_place = let e = there.sound.shape.banks in omega arith

  is_told : unstamped_bank old ≡ told
  is_told =
      sym (bank-bare there.object.banks position member)
      ∙ ap (λ banks. get_or (get_or banks position []) member no_bank) there.follows.banks

  opening : IsSome (finalized_at old opening_tag)
  opening = let o = there.sound.shape.opened position member placed below in ap is_some o.1.finalized

  greatest_is : greatest_final told ≡ greatest_final old
  greatest_is = ap greatest_final (sym is_told) ∙ greatest-bare old

  finalized_same : (tag : Tag) → came_by (finalized_at past_bank tag) step ≡ came_by (finalized_at old tag) step
  finalized_same tag = (there.kept.banks position member kept_place).finalized tag step (omega arith)

  finalized_then : (tag : Tag) → came_by (finalized_at old tag) step ≡ is_some (finalized_at old tag)
  finalized_then tag = came_now (finalized_at old tag) step ((there.sound.past.banks position member).finalized tag)

  pub past_status : pointer_at past_bank step ≡ status_of told.pointer
  past_status =
      (there.kept.banks position member kept_place).pointer step (omega arith)
      ∙ pointer_now old step (there.sound.past.banks position member)
      ∙ sym (status-bare old) ∙ ap (λ (b : Bank). status_of b.pointer) is_told

  pub past_greatest : HasFinalized past_bank (greatest_final told) step
  past_greatest =
      ap (λ tag. came_by (finalized_at past_bank tag) step) greatest_is ∙ finalized_same (greatest_final old)
      ∙ finalized_then (greatest_final old) ∙ (greatest_final_is old opening).final

  pub past_none : (other : Tag) → HasFinalized past_bank other step → tag_lt (greatest_final told) other ≡ false
  past_none other has =
      ap (λ tag. tag_lt tag other) greatest_is
      ∙ (greatest_final_is old opening).greatest other (sym (finalized_then other) ∙ sym (finalized_same other) ∙ has)

  -- what was so of the bank of the record then, that a tag was finalized, is so of the last record
  pub past_finalized : (tag : Tag) → HasFinalized old tag step → HasFinalized past_bank tag step
  past_finalized tag has = finalized_same tag ∙ has

  pub past_piece : (piece : Piece) → piece_of told (greatest_final told) ≡ Some piece →
      IsCoded fragment last position member (greatest_final told) (Some piece)
  past_piece piece is =
      let tag = greatest_final told in
      let kept_piece : piece_of old tag ≡ Some piece =
      sym (piece_of-bare old tag) ∙ ap (λ (b : Bank). piece_of b tag) is_told ∙ is in
      let before = there.sound.coded.banks position member tag (known_piece (map.get old.rows tag) piece kept_piece) in
      let after = sound.coded.banks position member tag
      (known_final (map.get past_bank.rows tag) (came_some (finalized_at past_bank tag) step past_greatest)) in
      let same = same_value there.object last step there.sound.legal sound.legal there.kept tag before.value after.value
      before.journaled after.journaled in record {
        value = after.value;
        journaled = after.journaled;
        fits = λ kept e. subst₂ (λ layout value. IsFragment fragment layout member value kept)
            (sym (there.kept.layouts position placed)) same (before.fits kept (kept_piece ∙ e));
      }
