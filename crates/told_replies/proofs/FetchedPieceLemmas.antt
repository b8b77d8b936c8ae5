-- Pieces that a phase took, as the last record of the run has them.
use Rattle.std.proofs.Common.{◌≡◌, ℕ, zero, suc, ◌<◌, ◌≤◌, List, [], ◌∷◌, ◌++◌, length, map, Some, slice_get}
use Rattle.std.proofs.Common.{sym, subst, subst₂, ap, ◌∙◌, arith}
use Rattle.std.proofs.lemmas.Option.{same_Some, slice_get-map}
use Rattle.tag.specs.declared.tag.Tag.{Tag}
use Rattle.layout.specs.Layout.{Layout}
use Rattle.bank.specs.declared.kind.Kind.TheVariants.{Fetch}
use Rattle.mail.specs.Phase.{Phase}
use Rattle.mail.specs.declared.phase.Taken.{Taken}
use Rattle.record.specs.Fragments.{Code, HasPiece, HasPieces, IfCoded, IsCoded, IsFragment}
use Rattle.record.specs.Fragments.{answer_piece, answer_tag}
use Rattle.record.specs.Knowledge.{IsTruePhase, IsTrueReply}
use Rattle.record.specs.Records.{Call, Object, layout_at}
use Rattle.soundness.specs.Sound.{IsSound}
use Rattle.soundness.proofs.ListLemmas.{all_get, all_map, all_weaker}
use Rattle.network.specs.Unstamped.{unstamped_phase, unstamped_taken}
use Rattle.network.specs.Worlds.{World, known_layouts, parts_of}
use Rattle.early_ends.specs.Told.{HasToldPiece, HasToldPieces}
use Rattle.told_replies.proofs.GrownPhaseLemmas.{IsLaterOf, grown_at}
use Rattle.told_replies.proofs.KeptPastLemmas.{IsStillAt}
use Rattle.told_replies.proofs.TracedRunLemmas.{Remembers}

taken_there : (xs : List Taken) (place : ℕ) (taken : Taken) → slice_get (map unstamped_taken xs) place ≡ Some taken →
    (original : Taken) × (slice_get xs place ≡ Some original) × (unstamped_taken original ≡ taken)
taken_there xs place taken at = grind (arith, same_Some, slice_get-map)

-- pieces that a phase without stamps took, the phase took
pub has_pieces : (fragment : Code) (world : World) (node : ℕ) (object : Object) (phase : Phase) (value : List ℕ) →
    object.layouts ≡ known_layouts world node → HasPieces fragment (parts_of world node) (unstamped_phase phase) value →
    HasPieces fragment object phase value
has_pieces fragment world node object phase value layouts has = grind (arith, all_weaker, taken_there)

get_more : {A : Type 0} (xs ys : List A) (i : ℕ) (x : A) → slice_get xs i ≡ Some x → slice_get (xs ++ ys) i ≡ Some x
get_more [] ys i x at = absurd (cc)
get_more (y ∷ xs) ys zero x at = at
get_more (y ∷ xs) ys (suc i) x at = get_more xs ys i x at

-- what stands at the last place or later is the last
pub at_or_after : {A : Type 0} (xs : List A) (x : A) (i : ℕ) (y : A) → length xs ≤ i → slice_get (xs ++ x ∷ []) i ≡ Some y → y ≡ x
at_or_after [] x zero y after at = sym (same_Some x y at)
at_or_after [] x (suc i) y after at = absurd (cc)
at_or_after (z ∷ xs) x zero y after at = absurd (omega arith)
at_or_after (z ∷ xs) x (suc i) y after at = at_or_after xs x i y (omega arith) at

-- pieces that a fetch took in the record of some time, members told
pub fetched_pieces : (fragment : Code) (world : World) (last : Object) (now : ℕ) → IsSound fragment last now →
    (there : Remembers fragment world last) (index place : ℕ) (call : Call) (phase : Phase) →
    slice_get there.object.calls index ≡ Some call → slice_get call.phases place ≡ Some phase → (tag : Tag) →
    phase.kind ≡ Fetch tag → (value : List ℕ) → HasPieces fragment there.object phase value →
    HasToldPieces fragment last phase.position tag value
fetched_pieces fragment world last now sound there index place call phase at within tag kind value has =
    subst (λ position. HasToldPieces fragment last position tag value) later.same_position (record {
      placed = truth.placed;
      members = has.members;
      distinct = has.distinct;
      enough = subst (λ (l : Layout). l.k ≤ length has.members) (sym layout_is) has.enough;
      pieces = all_map piece_told has.members has.pieces;
    })
  where
    still : IsStillAt last.calls index call
    still = there.kept.calls index call at

    grown : (later : Phase) × (slice_get still.other.phases place ≡ Some later) × IsLaterOf phase later
    grown = grown_at call.phases still.other.phases place phase still.grown within

    new : Phase
    new = grown.0

    later : IsLaterOf phase new
    later = grown.2

    truth : IsTruePhase last new
    truth = all_get (IsTruePhase last) still.other.phases place new (sound.legal.calls index still.other still.at).phases grown.1

    placed : phase.position < length there.object.layouts
    placed = (all_get (IsTruePhase there.object) call.phases place phase (there.sound.legal.calls index call at).phases within).placed

    layout_is : layout_at last new.position ≡ layout_at there.object phase.position
    layout_is = ap (layout_at last) later.same_position ∙ there.kept.layouts phase.position placed

    piece_told : (member : ℕ) → HasPiece fragment there.object phase value member →
        HasToldPiece fragment last new.position tag value member
    piece_told member piece =
        let at_reply = ap (λ l. slice_get l piece.place) later.replies
        ∙ get_more phase.replies later.more piece.place piece.reply piece.within in
        let reply_is = all_get (IsTrueReply last new) new.replies piece.place piece.reply truth.replies at_reply in
        let code = all_get (λ (taken : Taken). IfCoded fragment last new.position taken.member
        (answer_tag new.kind taken.reply.answer) (answer_piece taken.reply.answer)) new.replies piece.place piece.reply
        (sound.coded.phases index place still.other new still.at grown.1) at_reply in
        record {
          within = subst (λ i. i < length (layout_at last new.position).members) piece.same_member reply_is.within;
          piece = piece.piece;
          coded = subst (λ i. IsCoded fragment last new.position i tag (Some piece.piece)) piece.same_member
              (subst₂ (λ k a. IfCoded fragment last new.position piece.reply.member (answer_tag k a) (answer_piece a))
              (later.same_kind ∙ kind) piece.same_piece code);
          fits = subst (λ l. IsFragment fragment l member value piece.piece) (sym layout_is) piece.is_fragment;
        }
