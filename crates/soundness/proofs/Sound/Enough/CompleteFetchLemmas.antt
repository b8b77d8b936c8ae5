-- A complete fetch has pieces of enough members, or one of them had dropped the tag.
use Rattle.std.proofs.Common.{◌≡◌, ℕ, suc, ◌⊎◌, Bool, true, false, eqb, List, [], ◌∷◌, Some, IsSome}
use Rattle.std.proofs.Common.{refl, sym, subst, inl, inr, le_refl, le_of_lt, le-leb, eqb-true, slice_get}
use Rattle.std.proofs.lemmas.Bool.{or_cases}
use Rattle.std.specs.List.{AllByRecursion}
use Rattle.tag.specs.declared.tag.Tag.{Tag}
use Rattle.tag.specs.Tag.{opening_tag}
use Rattle.layout.specs.Layout.{IsLawful}
use Rattle.layout.specs.Quorum.{has, Share}
use Rattle.bank.specs.declared.reply.Answer.{Answer}
use Rattle.mail.specs.declared.phase.Taken.{Taken}
use Rattle.mail.specs.Phase.{Phase, members_of}
use Rattle.record.specs.Records.{Call, Object, layout_at, bank_at}
use Rattle.bank.specs.Bank.{Bank}
use Rattle.bank.specs.declared.kind.Kind.TheVariants.{Fetch}
use Rattle.bank.specs.Knowledge.{came_by, arrived_at, is_dropped_at, HadPiece, HoldsPiece, IsTrueAnswer}
use Rattle.record.specs.Knowledge.{IsTrueReply, IsTruePhase}
use Rattle.record.specs.PhaseOrder.{due}
use Rattle.record.specs.Legal.{IsLegal, BeginInOpen, AreOpened}
use Rattle.record.specs.Fragments.{IsFetch, answer_piece, TookPiece, HasEnough, HasDropped}
use Rattle.bank.specs.declared.reply.Answer.TheVariants as answer
use Rattle.soundness.proofs.Quorums.ReplyTruthLemmas.{all_at}
use Rattle.soundness.proofs.Quorums.QuorumMeetingLemmas.{lawful_at, phase_quorum}
use Rattle.soundness.proofs.Quorums.ReplyTruthLemmas.{all_members, came_by_later}
use Rattle.soundness.proofs.Quorums.CommonMemberLemmas.{quorums_share}
use Rattle.soundness.proofs.ListLemmas.{all_map}
use Rattle.soundness.proofs.Sound.Enough.FinalizedPieceLemmas.{fetch_rests, had_before}
use Rattle.soundness.proofs.Sound.Enough.QuorumPieceLemmas.{Had, had_later}
use Rattle.soundness.proofs.Sound.Enough.StagePieceLemmas.{AtPhase, call_at_phase}

-- the pieces that a fetch took
true_fetched : (tag : Tag) (bank : Bank) (made : ℕ) (answer : Answer) → IsTrueAnswer bank made (Fetch tag) answer →
    HoldsPiece bank tag made → IsSome (answer_piece answer)
true_fetched tag bank made (answer.Piece piece) says held = says.1.1 held
true_fetched tag bank made answer says held = absurd says

reply_place : (P : Taken → Type 0) (replies : List Taken) (i : ℕ) →
    AllByRecursion P replies → has (members_of replies) i ≡ true →
    (place : ℕ) × (reply : Taken) × (slice_get replies place ≡ Some reply) × P reply × (reply.member ≡ i)
reply_place P [] i all h = absurd (cc)
reply_place P (reply ∷ replies) i all h =
    go (or_cases (eqb reply.member i) (has (members_of replies) i) h) (reply_place P replies i all.1)
  where
    go : (eqb reply.member i ≡ true) ⊎ (has (members_of replies) i ≡ true) → (has (members_of replies) i ≡ true →
        (place : ℕ) × (r : Taken) × (slice_get replies place ≡ Some r) × P r × (r.member ≡ i)) →
        (place : ℕ) × (r : Taken) × (slice_get (reply ∷ replies) place ≡ Some r) × P r × (r.member ≡ i)
    go (inl e) rest = (0, reply, refl, all.0, eqb-true reply.member i e)
    go (inr e) rest = let found = rest e in (suc found.0, found.1, found.2, found.3, found.4)

module _ (object : Object) (phase : Phase) (tag : Tag) (k : phase.kind ≡ Fetch tag) (truth : IsTruePhase object phase) where
  -- a reply of a member that had the piece brings it, or the member had dropped it
  one_took : (i place : ℕ) (reply : Taken) → slice_get phase.replies place ≡ Some reply → IsTrueReply object phase reply →
      reply.member ≡ i → HadPiece (bank_at object phase.position i) tag phase.start → TookPiece phase i ⊎ HasDropped object phase tag
  one_took i place reply within true_reply same had =
      go (is_dropped_at bank tag reply.reply.step) refl
    where
      bank : Bank
      bank = bank_at object phase.position reply.member

      known : HadPiece bank tag reply.reply.step
      known = came_by_later (arrived_at bank tag) phase.start reply.reply.step (let late = true_reply.after_start in le_of_lt late)
          (subst (λ j. HadPiece (bank_at object phase.position j) tag phase.start) (sym same) had)

      go : (b : Bool) → is_dropped_at bank tag reply.reply.step ≡ b → TookPiece phase i ⊎ HasDropped object phase tag
      go true dropped = inr (record { place = place; reply = reply; within = within; dropped = dropped })
      go false kept = inl (record {
        place = place;
        reply = reply;
        within = within;
        same_member = same;
        some_piece = true_fetched tag bank reply.reply.step reply.reply.answer
            (subst (λ kind. IsTrueAnswer bank reply.reply.step kind reply.reply.answer) k true_reply.says) (known, kept);
      })

  took_of : (members : List ℕ) (shared : List ℕ) →
      AllByRecursion (λ i. HadPiece (bank_at object phase.position i) tag phase.start) members →
      AllByRecursion (λ i. has members i ≡ true) shared → AllByRecursion (λ i. has (members_of phase.replies) i ≡ true) shared →
      AllByRecursion (TookPiece phase) shared ⊎ HasDropped object phase tag
  took_of members [] had a b = inl tt
  took_of members (i ∷ shared) had a b =
      let found = reply_place (IsTrueReply object phase) phase.replies i truth.replies b.0 in
      both (one_took i found.0 found.1 found.2 found.3 found.4
      (all_at (λ j. HadPiece (bank_at object phase.position j) tag phase.start) members i had a.0))
      (took_of members shared had a.1 b.1)
    where
      both : TookPiece phase i ⊎ HasDropped object phase tag → AllByRecursion (TookPiece phase) shared ⊎ HasDropped object phase tag →
          (TookPiece phase i × AllByRecursion (TookPiece phase) shared) ⊎ HasDropped object phase tag
      both (inl took) (inl rest) = inl (took, rest)
      both (inl took) (inr dropped) = inr dropped
      both (inr dropped) rest = inr dropped

  enough_from : (end : ℕ) → AllByRecursion IsLawful object.layouts → phase.end ≡ Some end → Had object phase.position tag phase.start →
      HasEnough object phase ⊎ HasDropped object phase tag
  enough_from end lawful e had = go (took_of had.members share.members had.all share.in_first share.in_second)
    where
      share : Share had.members (members_of phase.replies) (layout_at object phase.position).k
      share = quorums_share (layout_at object phase.position) had.members (members_of phase.replies)
          (lawful_at object phase.position lawful truth.placed) had.is_quorum (phase_quorum object phase end truth e)

      go : AllByRecursion (TookPiece phase) share.members ⊎ HasDropped object phase tag →
          HasEnough object phase ⊎ HasDropped object phase tag
      go (inl all) = inl (record { members = share.members; distinct = share.distinct; enough = share.enough; pieces = all })
      go (inr dropped) = inr dropped

-- every bank had the opening tag's piece from its opening
opening_had : (object : Object) (phase : Phase) (end : ℕ) → IsTruePhase object phase → phase.end ≡ Some end →
    AreOpened object phase → Had object phase.position opening_tag phase.start
opening_had object phase end truth e opened = record {
  members = members_of phase.replies;
  is_quorum = phase_quorum object phase end truth e;
  all = all_members (λ i. HadPiece (bank_at object phase.position i) opening_tag phase.start) phase.replies
      (all_map (λ reply r. let o = opened reply.member r.within in
      subst (λ came. came_by came phase.start ≡ true) (sym o.1.arrived) (le-leb o.0 phase.start o.2)) _ truth.replies);
}

-- a complete fetch has pieces of at least k members, or one had dropped the tag
pub fetch_has_enough : (object : Object) → IsLegal object → BeginInOpen object →
    (index place : ℕ) (call : Call) (phase : Phase) →
    slice_get object.calls index ≡ Some call → slice_get call.phases place ≡ Some phase → IsTruePhase object phase →
    (fetch : IsFetch phase.kind) → (end : ℕ) → phase.end ≡ Some end → HasEnough object phase ⊎ HasDropped object phase fetch.0
fetch_has_enough object legal open_banks index place call phase at within truth fetch end e =
    go (had_before object legal there.now phase.position fetch.0 there.now (le_refl there.now)
    (fetch_rests object there.now phase.position there.stage fetch.0 there.facts
    (subst (λ k. due there.stage ≡ Some (k, phase.position)) fetch.1 there.is_due)))
  where
    there : AtPhase object phase
    there = call_at_phase object legal index call at place phase within

    go : (fetch.0 ≡ opening_tag) ⊎ Had object phase.position fetch.0 there.now →
        HasEnough object phase ⊎ HasDropped object phase fetch.0
    go (inl opening) =
        enough_from object phase fetch.0 fetch.1 truth end legal.layouts e
        (subst (λ t. Had object phase.position t phase.start) (sym opening)
        (opening_had object phase end truth e (open_banks index place call phase at within)))
    go (inr had) =
        enough_from object phase fetch.0 fetch.1 truth end legal.layouts e
        (had_later object phase.position fetch.0 there.now phase.start there.before had)
