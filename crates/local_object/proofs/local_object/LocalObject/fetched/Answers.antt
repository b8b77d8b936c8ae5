use Rattle.std.proofs.Common.{List, ℕ, MatchOption, sym, subst, ◌∙◌}
use Rattle.std.proofs.lemmas.Result.{IfOk-weaker}
use Rattle.local_object.specs.Local.{LocalObject}
use Rattle.local_object.specs.Taking.{CanSettle}
use Rattle.local_object.proofs.FetchedLemmas.{match_weaker}
use Rattle.local_object.proofs.SettleLemmas.{can_settle, cannot_settle, none_to_settle, unfetched}
use Rattle.local_object.proofs.local_object.LocalObject.fetched.Goals as goal

pub returns-in_default-clause-value : goal.returns-in_default-clause-value
returns-in_default-clause-value c =
    let o = c.self.inside in
    subst (λ (l : LocalObject). (v : List ℕ) → CanSettle l c.args.id v → ⊥) c.self.view_is
    (none_to_settle o.node o.delta o.start o.reports o.places o.calls c.args.id c.in_default.ensures.index)

pub returns-clause-value : goal.returns-clause-value
returns-clause-value c =
    let o = c.self.inside in
    let call = c.at-call.result.now in
    let distinct = c.in-Some.ensures.distinct in
    let at = c.in-Some.ensures.index in
    let step = sym c.next_here.ensures.next ∙ c.in-Settle.is in
    IfOk-weaker c.fetched.result _ _
    (λ value is. subst (λ (l : LocalObject). MatchOption value ((v : List ℕ) → CanSettle l c.args.id v → ⊥) (CanSettle l c.args.id))
    c.self.view_is
    (match_weaker value (unfetched o.node o.delta o.start o.reports o.places distinct at call c.at-call.ensures)
    (λ v fetched. can_settle o.node o.delta o.start o.reports o.places distinct at call c.at-call.ensures v step fetched) is))
    c.fetched.ensures.value

pub returns-in_default-next_here : goal.returns-in_default-next_here
returns-in_default-next_here c =
    let o = c.self.inside in
    record {
      value = subst (λ (l : LocalObject). (v : List ℕ) → CanSettle l c.args.id v → ⊥) c.self.view_is
          (cannot_settle o.node o.delta o.start o.reports o.places c.in-Some.ensures.distinct c.in-Some.ensures.index c.at-call.result.now
          c.at-call.ensures (λ e. c.in_default-next_here.not-Settle (c.next_here.ensures.next ∙ e)));
      refused = tt;
    }
