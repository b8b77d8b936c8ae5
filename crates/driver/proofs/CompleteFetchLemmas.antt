-- The pieces of a complete fetch: they are k pieces of one value.
use Rattle.std.proofs.Common.{◌≡◌, ℕ, pred, ◌<◌, ◌≤◌, true, false, cond, is_some, List, [], ◌∷◌}
use Rattle.std.proofs.Common.{length, take, Option, Some, slice_get, sym, ap, subst, subst₂, ◌∙◌}
use Rattle.std.proofs.Common.{arith}
use Rattle.std.specs.List.{AllByRecursion}
use Rattle.std.proofs.lemmas.Bool.Decides.{Decides-eqb}
use Rattle.std.proofs.lemmas.List.Elements.{All-from_recursion}
use Rattle.std.proofs.lemmas.Map.Made.{AllPairs-from_IsDistinct}
use Rattle.tag.specs.declared.tag.Tag.{Tag}
use Rattle.layout.specs.Layout.{Layout, IsLawful}
use Rattle.encoder.specs.Fragment.{fragment, piece_at_point}
use Rattle.piece.specs.declared.piece.Piece.{Piece}
use Rattle.decoder.specs.Pieces.{ArePiecesOf, points_of}
use Rattle.bank.specs.declared.kind.Kind.{Kind}
use Rattle.bank.specs.declared.kind.Kind.TheVariants.{Fetch}
use Rattle.mail.specs.declared.phase.Taken.{Taken}
use Rattle.mail.specs.Phase.{lacks_pieces}
use Rattle.record.specs.Records.{Call, Object, layout_at}
use Rattle.record.specs.Fragments.{IsValue, IfCoded, answer_piece, answer_tag, TookPiece, HasEnough}
use Rattle.record.specs.Journals.{IsJournaled}
use Rattle.record.specs.Knowledge.{IsTruePhase, IsTrueReply}
use Rattle.soundness.specs.Sound.{IsSound}
use Rattle.record.specs.Legal.{due_of}
use Rattle.record.specs.Wants.{current_phase, is_fetch, value_len, want_for, want_after, want_of}
use Rattle.record.specs.declared.stage.Want.{Want}
use Rattle.record.specs.declared.stage.Want.TheVariants as want
use Rattle.soundness.proofs.Sound.Enough.PieceCountLemmas.{not_lacking_enough}
use Rattle.soundness.proofs.ListLemmas.{all_get}
use Rattle.soundness.proofs.Quorums.QuorumMeetingLemmas.{lawful_at}
use Rattle.soundness.proofs.Values.ReadValueLemmas.{journal_unique}
use Rattle.soundness.proofs.Sound.WantCaseLemmas.{Unsettled, last_at}
use Rattle.soundness.proofs.Sound.WantPreconditionLemmas.{unsettled_of}
use Rattle.register.specs.Coding.{piece_by, pieces_below, least_of}
use Rattle.register.specs.View.{want_at, fetched_pieces, pieces_of}
use Rattle.driver.proofs.PieceCountLemmas.{count_below}
use Rattle.driver.proofs.WantLemmas.{place_of_call, wants_at}
use Rattle.driver.proofs.ReplyPieceLemmas.{Brought, IsPieceOfValueBelow, all_take, take_length, all_below, first_reply}
use Rattle.driver.proofs.ReplyPieceLemmas.{len_is, brought_of, some_is, piece_there, coded_value, journaled_value, all_weaker}
use Rattle.driver.proofs.DistinctPointLemmas.{apart_below, apart_take, points_apart}

-- what a call wants that is to settle a value
pub settles_is : (object : Object) (index : ℕ) (call : Call) (u : Unsettled call false)
    → want_of object index call ≡ want.Settle (layout_at object u.phase.position).k (value_len u.phase.replies)
settles_is object index call u =
    ap (λ a. cond (is_some a) want.Done (want_after object next call.settled (current_phase call.phases))) u.open_call
    ∙ ap (λ p. want_after object next call.settled p) u.current
    ∙ ap (λ e. cond (is_some e)
    (cond (is_fetch u.phase.kind) (cond (is_some call.settled) (want_for object next) fetched) (want_for object next)) want.Replies)
    u.ended
    ∙ ap (λ k. cond (is_fetch k) (cond (is_some call.settled) (want_for object next) fetched) (want_for object next)) u.fetch.1
    ∙ ap (λ s. cond (is_some s) (want_for object next) fetched) u.none
    ∙ ap (λ b. cond b want.Again settle) u.lacking
  where
    next : Option (Kind × ℕ)
    next = due_of object index call

    settle : Want
    settle = want.Settle (layout_at object u.phase.position).k (value_len u.phase.replies)

    fetched : Want
    fetched = cond (lacks_pieces u.phase) want.Again settle

pub settle_parts : (a b c d : ℕ) → want.Settle a b ≡ want.Settle c d → (a ≡ c) × (b ≡ d)
settle_parts a b c d e = (cc, cc)

-- the members that brought pieces
record IsBrought (replies : List Taken) (n member : ℕ) : Type 0 where
  below : member < n
  brought : is_some (piece_by replies member) ≡ true

module _ (object : Object) (last index : ℕ) (call : Call) (sound : IsSound fragment object last)
    (at : slice_get object.calls index ≡ Some call) (u : Unsettled call false) where
  abbrev layout : Layout
  layout = layout_at object u.phase.position

  abbrev tag : Tag
  tag = u.fetch.0

  place : ℕ
  place = (last_at call.phases u.phase u.current).place

  within : slice_get call.phases place ≡ Some u.phase
  unfolding place
  within = (last_at call.phases u.phase u.current).within

  truth : IsTruePhase object u.phase
  truth = all_get (IsTruePhase object) call.phases place u.phase (sound.legal.calls index call at).phases within

  pub lawful : IsLawful layout
  lawful = lawful_at object u.phase.position sound.legal.layouts truth.placed

  enough : HasEnough object u.phase
  enough = not_lacking_enough object u.phase truth u.lacking

  coded : AllByRecursion
      (λ t. IfCoded fragment object u.phase.position t.member (answer_tag (Fetch tag) t.reply.answer) (answer_piece t.reply.answer))
      u.phase.replies
  coded = subst
      (λ kind. AllByRecursion
      (λ t. IfCoded fragment object u.phase.position t.member (answer_tag kind t.reply.answer) (answer_piece t.reply.answer))
      u.phase.replies)
      u.fetch.1 (sound.coded.phases index place call u.phase at within)

  first_piece : (members : List ℕ) → layout.k ≤ length members → AllByRecursion (TookPiece u.phase) members → (member : ℕ)
      × TookPiece u.phase member
  first_piece [] many all = absurd (let some = lawful.some in omega (arith, many))
  first_piece (member ∷ members) many all = (member, all.0)

  took : (member : ℕ) × TookPiece u.phase member
  took = first_piece enough.members enough.enough enough.pieces

  one_piece : (piece : Piece) × (answer_piece took.1.reply.reply.answer ≡ Some piece)
  one_piece = piece_there (answer_piece took.1.reply.reply.answer) took.1.some_piece

  valued : (value : List ℕ) × IsJournaled object tag value
  valued = coded_value object u.phase.position took.1.reply.member tag took.1.reply.reply.answer one_piece.0 one_piece.1
      (all_get _ u.phase.replies took.1.place took.1.reply coded took.1.within)

  pub value : List ℕ
  value = valued.0

  is_value : IsValue value
  unfolding value
  is_value = journaled_value object last tag value sound valued.1

  brought : AllByRecursion (Brought value layout.k) u.phase.replies
  unfolding value
  brought = all_weaker _ (Brought value layout.k) u.phase.replies
      (λ t c. brought_of object u.phase.position tag value t (λ v j. journal_unique object sound.legal tag v value j valued.1) c) coded

  is_brought : (member : ℕ) → TookPiece u.phase member → IsBrought u.phase.replies (length layout.members) member
  is_brought member t = record {
    below = subst (λ m. m < length layout.members) t.same_member
        (all_get (IsTrueReply object u.phase) u.phase.replies t.place t.reply truth.replies t.within).within;
    brought = ap (λ m. is_some (piece_by u.phase.replies m)) (sym t.same_member)
        ∙ ap is_some (first_reply u.phase.replies t.place t.reply truth.one_each t.within)
        ∙ some_is (answer_piece t.reply.reply.answer) t.some_piece;
  }

  many : layout.k ≤ length (pieces_below u.phase.replies (length layout.members))
  many =
      let brought = all_weaker _ (IsBrought u.phase.replies (length layout.members)) enough.members is_brought enough.pieces in
      let count = count_below u.phase.replies (length layout.members) enough.members
      (all_weaker _ (λ m. m < length layout.members) enough.members (λ m b. b.below) brought)
      (all_weaker _ (λ m. is_some (piece_by u.phase.replies m) ≡ true) enough.members (λ m b. b.brought) brought) enough.distinct in
      let least = enough.enough in omega (arith, count, least)

  abbrev pub ps : List Piece
  ps = take layout.k (pieces_below u.phase.replies (length layout.members))

  all_of : AllByRecursion (IsPieceOfValueBelow value layout.k (length layout.members)) ps
  all_of =
      all_take (IsPieceOfValueBelow value layout.k (length layout.members)) layout.k (pieces_below u.phase.replies (length layout.members))
      (all_below value layout.k u.phase.replies (length layout.members) brought)

  pub are_pieces : ArePiecesOf value layout.k ps
  are_pieces = record {
    some = lawful.some;
    most = (let a = lawful.enough in let b = lawful.few in omega (arith, a, b));
    longest = is_value.1;
    bytes = All-from_recursion (λ b. b < 256) value is_value.0;
    count = take_length layout.k (pieces_below u.phase.replies (length layout.members)) many;
    distinct = AllPairs-from_IsDistinct Decides-eqb (points_of ps)
        (points_apart ps
        (apart_take layout.k (pieces_below u.phase.replies (length layout.members))
        (apart_below value layout.k u.phase.replies (length layout.members) brought)));
    pieces_of =
        All-from_recursion (λ p. p ≡ piece_at_point value layout.k p.point) ps
        (all_weaker _ (λ p. p ≡ piece_at_point value layout.k p.point) ps (λ p is. is.0) all_of);
  }

  pub len_of : value_len u.phase.replies ≡ length value
  len_of = len_is value layout.k u.phase.replies took.1.place took.1.reply one_piece.0 brought took.1.within one_piece.1

-- the pieces of a fetch are k pieces of one value
pub pieces_are : (object : Object) (last number k len : ℕ) → IsSound fragment object last → want_at object number ≡ Some (want.Settle k len)
    → (value : List ℕ) × (length value ≡ len) × ArePiecesOf value k (fetched_pieces object number)
pieces_are object last number k len sound wanted =
    let w = wants_at object number (want.Settle k len) wanted in
    let at = place_of_call object number w.call w.at in
    let u = unsettled_of object (pred number) w.call k len w.wants in
    let parts =
    settle_parts k len (layout_at object u.phase.position).k (value_len u.phase.replies)
    (sym w.wants ∙ settles_is object (pred number) w.call u) in
    let read : fetched_pieces object number ≡ ps object last (pred number) w.call sound at u =
    ap (pieces_of object) w.at ∙ ap (least_of object) u.current in (
      value object last (pred number) w.call sound at u,
      sym (parts.1 ∙ len_of object last (pred number) w.call sound at u),
      subst₂ (λ k pieces. ArePiecesOf (value object last (pred number) w.call sound at u) k pieces) (sym parts.0) (sym read)
          (are_pieces object last (pred number) w.call sound at u),
    )
