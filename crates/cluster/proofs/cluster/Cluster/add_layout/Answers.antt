use Rattle.std.proofs.Common.{nat_lt, inl, sym, ap, ◌∙◌, arith, rules}
use Rattle.std.specs.List.{list_all}
use Rattle.cluster.proofs.CreationLemmas.{no_servers, no_step_for_layout, many_layouts, added_counted}
use Rattle.cluster.proofs.cluster.Cluster.add_layout.Goals as goal
use Rattle.cluster.proofs.cluster.Cluster.add_layout.Goals.{then-self-ge-MOST_STEPS-via-then-self-ge-MOST_STEPS}
use Rattle.cluster.proofs.cluster.Cluster.add_layout.Goals.{then-self-ge-MOST_STEPS-via-else-self-ge-MOST_STEPS+then-len-ge-MOST_LAYOUTS}

pub returns-then-not-has_servers-clause-cause : goal.returns-then-not-has_servers-clause-cause
returns-then-not-has_servers-clause-cause c =
    inl (no_servers c.self.view_is c.args.layout
    (ap (λ n. list_all (λ m. nat_lt m n) c.args.layout.members) (sym c.count.ensures) ∙ sym c.has_servers.ensures
    ∙ c.if-not-has_servers.true))

pub returns-then-self-ge-MOST_STEPS-clause-cause : goal.returns-then-self-ge-MOST_STEPS-clause-cause
returns-then-self-ge-MOST_STEPS-clause-cause c =
    let below = ap (λ n. list_all (λ m. nat_lt m n) c.args.layout.members) (sym c.count.ensures) ∙ sym c.has_servers.ensures
    ∙ c.if-not-has_servers.false in
    elim c.then-self-ge-MOST_STEPS.branch [
      | then-self-ge-MOST_STEPS-via-then-self-ge-MOST_STEPS w ↦
          inl (no_step_for_layout c.self.view_is c.args.layout below w.if-self-ge-MOST_STEPS.true)
      | then-self-ge-MOST_STEPS-via-else-self-ge-MOST_STEPS+then-len-ge-MOST_LAYOUTS w ↦
          inl (many_layouts c.self.view_is c.args.layout below w.if-self-ge-MOST_STEPS.false
          (omega (arith, w.len.ensures, w.if-len-ge-MOST_LAYOUTS.true)))
    ]

pub invariant_of-self-2 : goal.invariant_of-self-2
invariant_of-self-2 c =
    added_counted c.args.layout c.in_ok-push.ensures.items
    (ap (λ n. list_all (λ m. nat_lt m n) c.args.layout.members) (sym c.count.ensures) ∙ sym c.has_servers.ensures
    ∙ c.if-not-has_servers.false)
    c.if-self-ge-MOST_STEPS.false c.self.invariant

pub returns-clause-id : goal.returns-clause-id
returns-clause-id c = search rules
