use Rattle.std.proofs.Common.{◌<◌, ◌^◌, ◌∙◌, ◌++◌, ap, subst, sym}
use Rattle.node.proofs.ActedLemmas.{due_handled, own_handled}
use Rattle.node.proofs.ArrivalLemmas.{since_then}
use Rattle.node_clients.specs.Desk.{NoneWaits}
use Rattle.node.proofs.LeftLemmas.{more_waits}
use Rattle.node.specs.Ticks.{AreFirst}
use Rattle.node.proofs.AgainLemmas.{first_stays}
use Rattle.node.proofs.FitComingLemmas.{more_fit, none_wait, taken_own}
use Rattle.node.proofs.node.Node.go_a_step.Goals as goal

pub returns-in-Some-clause-acted : goal.returns-in-Some-clause-acted
returns-in-Some-clause-acted c =
    λ asker got first. own_handled asker got first c.args.self.now.keeper c.args.number c.deliver.new.self.keeper c.args.work.now
    c.next_own.new.self c.deliver.new.work c.in-Some.it c.requires c.in-Some.ensures c.in_ok-deliver.ensures.acts

pub returns-in-Some-clause-served : goal.returns-in-Some-clause-served
returns-in-Some-clause-served c =
    let work = c.args.work.now in
    let acts = c.in_ok-deliver.ensures.acts in
    λ came first since. since_then came first c.args.self.now c.deliver.new.self work.to_clients.items work.notices.items
    work.outputs.items acts.growth.outputs c.next_own.new.self c.deliver.new.work c.in-Some.ensures.to_clients
    c.in-Some.ensures.notices (acts.grown.outputs ∙ ap (λ xs. xs ++ acts.growth.outputs) c.in-Some.ensures.outputs) acts.digest since
    c.in_ok-deliver.ensures.serves

pub returns-in-Some-next_due-clause-acted : goal.returns-in-Some-next_due-clause-acted
returns-in-Some-next_due-clause-acted c =
    λ asker got first. due_handled asker got first c.args.self.now.keeper c.go_on.new.self.keeper c.args.work.now
    c.next_own.new.self c.next_due.new.self c.go_on.new.work c.in-Some-next_due.client c.in_default.ensures
    c.in-Some-next_due.ensures c.in_ok-go_on.ensures.acts

pub returns-in-Some-next_due-clause-served : goal.returns-in-Some-next_due-clause-served
returns-in-Some-next_due-clause-served c =
    let work = c.args.work.now in
    let acts = c.in_ok-go_on.ensures.acts 0 in
    λ came first since. since_then came first c.args.self.now c.go_on.new.self work.to_clients.items work.notices.items
    work.outputs.items acts.growth.outputs c.next_due.new.self c.go_on.new.work
    (c.in-Some-next_due.ensures.to_clients ∙ c.in_default.ensures.to_clients)
    (c.in-Some-next_due.ensures.notices ∙ c.in_default.ensures.notices)
    (acts.grown.outputs
    ∙ ap (λ xs. xs ++ acts.growth.outputs) (c.in-Some-next_due.ensures.outputs ∙ c.in_default.ensures.outputs)) acts.digest since
    c.in_ok-go_on.ensures.serves.more

pub returns-in-Some-next_due-clause-number : goal.returns-in-Some-next_due-clause-number
returns-in-Some-next_due-clause-number c = (c.in_ok-go_on.ensures.acts 0).node

pub returns-in-Some-clause-waits : goal.returns-in-Some-clause-waits
returns-in-Some-clause-waits c =
    let old = c.args.self.now in
    λ waits. more_waits old c.deliver.new.self c.next_own.new.self c.deliver.new.work c.in_ok-deliver.ensures.serves
    (subst (λ xs. NoneWaits old.desk.clients xs) (sym c.in-Some.ensures.due) waits)

pub returns-in-Some-next_due-clause-waits : goal.returns-in-Some-next_due-clause-waits
returns-in-Some-next_due-clause-waits c =
    let old = c.args.self.now in
    λ waits. c.in_ok-go_on.ensures.waits
    (subst (λ xs. NoneWaits old.desk.clients xs) (sym c.in_default.ensures.due ∙ c.in-Some-next_due.ensures.due) waits)

pub returns-clause-waits : goal.returns-clause-waits
returns-clause-waits c =
    let left = c.in_default-next_due.ensures.due in
    subst (λ xs. NoneWaits c.args.self.now.desk.clients xs) (sym c.in_default.ensures.due ∙ left.0 ∙ sym left.1)

pub returns-in-Some-clause-outputs : goal.returns-in-Some-clause-outputs
returns-in-Some-clause-outputs c =
    let acts = c.in_ok-deliver.ensures.acts in
    λ first is. first_stays first c.args.work.now.outputs.items c.deliver.new.work.outputs.items acts.growth.outputs
    (acts.grown.outputs ∙ ap (λ xs. xs ++ acts.growth.outputs) c.in-Some.ensures.outputs) is

pub returns-in-Some-next_due-clause-outputs : goal.returns-in-Some-next_due-clause-outputs
returns-in-Some-next_due-clause-outputs c =
    let acts = c.in_ok-go_on.ensures.acts 0 in
    λ first is. first_stays first c.args.work.now.outputs.items c.go_on.new.work.outputs.items acts.growth.outputs
    (acts.grown.outputs
    ∙ ap (λ xs. xs ++ acts.growth.outputs) (c.in-Some-next_due.ensures.outputs ∙ c.in_default.ensures.outputs)) is

pub returns-clause-outputs : goal.returns-clause-outputs
returns-clause-outputs c =
    λ first is. subst (λ xs. AreFirst first xs) (sym (c.in_default-next_due.ensures.outputs ∙ c.in_default.ensures.outputs)) is

pub returns-in-Some-clause-fit : goal.returns-in-Some-clause-fit
returns-in-Some-clause-fit c = λ was.
    let left = c.next_own.new.self in
    let own = taken_own c.args.work.now left c.in-Some.it c.in-Some.ensures.own was.own in
    let small : c.args.number < 2 ^ 8 = subst (λ n. n < 2 ^ 8) (sym c.requires) was.fit.keeper.node in
    let keeps = c.in_ok-deliver.ensures.fit small own.0 was.fit.keeper in
    more_fit c.args.self.now c.deliver.new.self left c.deliver.new.work c.in_ok-deliver.ensures.serves keeps
    (record { fit = was.fit; own = own.1 })

pub returns-in-Some-next_due-clause-fit : goal.returns-in-Some-next_due-clause-fit
returns-in-Some-next_due-clause-fit c = λ was.
    let old = c.args.self.now in
    let next = c.in_ok-go_on.ensures.serves in
    more_fit old c.go_on.new.self c.next_due.new.self c.go_on.new.work next.more (next.fit was.fit.desk was.fit.keeper)
    (none_wait old c.next_due.new.self (c.in-Some-next_due.ensures.own ∙ c.in_default.ensures.own.1) was.fit)

pub returns-clause-fit : goal.returns-clause-fit
returns-clause-fit c = λ was.
    none_wait c.args.self.now c.next_due.new.self (c.in_default-next_due.ensures.own ∙ c.in_default.ensures.own.1) was.fit
