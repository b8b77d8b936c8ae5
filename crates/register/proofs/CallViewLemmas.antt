-- What is shown of a call.
use Rattle.std.proofs.Common.{◌≡◌, ℕ, pred, ◌<◌, Bool, true, false, ◌||◌, List, [], ◌∷◌, length, Some, option_map, sym, ap, ◌∙◌, refl}
use Rattle.std.proofs.Common.{arith, lit<}
use Rattle.std.proofs.Math.Dec.{eqb}
use Rattle.std.specs.List.{AllByRecursion, list_any}
use Rattle.std.proofs.lemmas.Bool.{eqb-true}
use Rattle.std.proofs.lemmas.List.{length-map}
use Rattle.std.proofs.lemmas.Map.Steps.{length-le_from_distinct_below}
use Rattle.tag.specs.declared.limits.TheConstants.{MOST_MEMBERS}
use Rattle.layout.specs.Layout.{IsLawful}
use Rattle.mail.specs.declared.phase.Taken.{Taken}
use Rattle.mail.specs.Phase.{Phase, members_of}
use Rattle.record.specs.Journals.{stage_tag, operation_of}
use Rattle.record.specs.Knowledge.{IsTrueReply, IsTruePhase}
use Rattle.record.specs.Records.{Object, layout_at, no_layout}
use Rattle.record.specs.Wants.{current_phase, fetched_or, viewed_tag}
use Rattle.soundness.proofs.Quorums.ReplyTruthLemmas.{all_get_or}
use Rattle.soundness.proofs.Sound.WantCaseLemmas.{last_at}
use Rattle.register.specs.State.{Contents, state_of}
use Rattle.record.specs.declared.stage.Want.{Want}
use Rattle.register.specs.Tracked.{Tracked}
use Rattle.register.specs.View.{view_at, viewed, phase_view}
use Rattle.register.proofs.FoundCallLemmas.{IsFound, IsWanting, at, at_number, staged}
use Rattle.soundness.proofs.ListLemmas.{all_get}

in_range : (object : Object) (phase : Phase) (replies : List Taken) (q : ℕ) → AllByRecursion (IsTrueReply object phase) replies
    → list_any (eqb q) (members_of replies) ≡ true → q < length (layout_at object phase.position).members
in_range object phase [] q all e = absurd (cc)
in_range object phase (t ∷ replies) q all e = go (λ r. in_range object phase replies q all.1 r) (eqb q t.member) refl
  where
    go : (list_any (eqb q) (members_of replies) ≡ true → q < length (layout_at object phase.position).members) → (b : Bool)
        → eqb q t.member ≡ b
        → q < length (layout_at object phase.position).members
    go rest true is = let same = eqb-true q t.member is in let below = all.0.within in omega (arith, same, below)
    go rest false is = rest (sym (ap (λ b. b || list_any (eqb q) (members_of replies)) is) ∙ e)

module _ {c : Contents} {number index : ℕ} {t : Tracked} (found : IsFound c number index t) {phase : Phase}
    (current : current_phase t.call.phases ≡ Some phase) where
  pub truth : IsTruePhase (state_of c).object phase
  truth =
      let last = last_at t.call.phases phase current in
      all_get (IsTruePhase (state_of c).object) t.call.phases last.place phase
      (found.kept.sound.legal.calls index t.call (at found)).phases last.within

  pub layout_lawful : IsLawful (layout_at (state_of c).object phase.position)
  layout_lawful = all_get_or IsLawful (state_of c).object.layouts phase.position no_layout truth.placed found.kept.sound.legal.layouts

  -- a member replies once, and there are few
  pub replies_few : length phase.replies < 256
  replies_few =
      let few = length-le_from_distinct_below (members_of phase.replies)
      (length (layout_at (state_of c).object phase.position).members) truth.one_each
      (λ q e. in_range (state_of c).object phase phase.replies q truth.replies e) in
      let same = length-map phase.replies (λ (t : Taken). t.member) in
      let most = layout_lawful.few in
      let limit : MOST_MEMBERS < 256 = lit< tt in
      omega (arith, few, same, most, limit)

  tag_is : viewed_tag (state_of c).object (pred number) t.call ≡ fetched_or phase.kind (stage_tag t.stage)
  tag_is = cc (current, staged found)

  pub view_is : {w : Want} → IsWanting c number index t w → view_at (state_of c).object number ≡ Some (record {
    kind = operation_of t.call.kind;
    number = phase.number;
    phase = phase.kind;
    position = phase.position;
    replies = length phase.replies;
    quorum = phase.quorum;
    tag = fetched_or phase.kind (stage_tag t.stage);
    want = w;
  })
  view_is w =
      ap (viewed (state_of c).object number) (at_number found)
      ∙ ap (option_map (phase_view (state_of c).object number t.call)) current
      ∙ (λ j. Some (record {
        kind = operation_of t.call.kind;
        number = phase.number;
        phase = phase.kind;
        position = phase.position;
        replies = length phase.replies;
        quorum = phase.quorum;
        tag = tag_is j;
        want = w.wants j;
      }))
