use Rattle.std.proofs.Common.{◌≡◌, length, OnOk, inl, refl, sym, ap, subst, ◌∙◌, arith}
use Rattle.tag.specs.Refusal.{IsByCause}
use Rattle.layout.specs.Layout.{Layout}
use Rattle.record.specs.Steps.{Step}
use Rattle.register.proofs.RoomLemmas.{same_cause}
use Rattle.soundness.proofs.ListLemmas.{all_get}
use Rattle.cluster.specs.Cluster.{Cluster, next_call_id}
use Rattle.cluster.specs.Kept.{HasMembersBelow}
use Rattle.cluster.specs.Preconditions.{MayMake}
use Rattle.cluster.specs.Steps.{with_step}
use Rattle.cluster.proofs.MoveRefusalLemmas.{is_layout, layout_found, layout_within, may_move, move_free}
use Rattle.cluster.proofs.cluster.Cluster.call_move.Goals as goal

pub index-requires : goal.index-requires
index-requires c =
    let m = may_move c.args.name.now c.args.id c.self.view_is c.in_ok-may_move.ensures.cause in
    let within = layout_within m.there in
    let len = c.self.inside.layouts.ok.0 in
    omega (arith, within, len)

pub begin-requires : goal.begin-requires
begin-requires c =
    let m = may_move c.args.name.now c.args.id c.self.view_is c.in_ok-may_move.ensures.cause in
    let found = is_layout refl (layout_within m.there) c.index.ensures c.in_ok-layout.ensures.cases in
    let below = all_get (HasMembersBelow (length c.self.inside.servers)) c.self.inside.layouts.items c.args.id c.in_ok-layout.layout
    c.self.invariant.kept.layouts found.here in
    record {
      ready = subst (λ n. HasMembersBelow n c.in_ok-layout.layout) (ap (λ (k : Cluster). length k.servers) c.self.view_is) below;
      begins = refl;
    }

pub returns : goal.returns
returns c =
    let m = may_move c.args.name.now c.args.id c.self.view_is c.in_ok-may_move.ensures.cause in
    let found = is_layout refl (layout_within m.there) c.index.ensures c.in_ok-layout.ensures.cases in
    let numbered = sym (layout_found c.self.view_is found) in
    let now = c.args.self.now in
    let name = c.args.name.now in
    record {
      step = subst (λ (l : Layout). OnOk c.begin.result
          (c.begin.new.self ≡ with_step now name (Step.CallMove (next_call_id now name) l))) numbered c.begin.ensures.step;
      may = subst (λ (l : Layout). OnOk c.begin.result (MayMake now name (Step.CallMove (next_call_id now name) l))) numbered
          c.begin.ensures.may;
      number = c.begin.ensures.number;
      cause = subst (λ o. IsByCause o c.begin.result) (move_free m found ∙ sym c.in_ok-may_move.ensures.cause) c.begin.ensures.cause;
      unchanged = c.begin.ensures.unchanged;
    }

pub returns-in_err-may_move-clause-cause : goal.returns-in_err-may_move-clause-cause
returns-in_err-may_move-clause-cause c =
    same_cause _ c.from_residual.result _ c.from_residual.ensures.1 (inl c.in_err-may_move.ensures.cause)

-- the copy of a layout is never refused
pub returns-in_err-layout-clause-cause : goal.returns-in_err-layout-clause-cause
returns-in_err-layout-clause-cause c = absurd (c.in_err-layout.ensures.cases tt)
