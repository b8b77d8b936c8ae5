use Rattle.std.proofs.Common.{[], refl, sym, ◌∙◌, nat_eq}
use Rattle.std.proofs.lemmas.Result.{on_ok_weaker}
use Rattle.indexmap.specs.IndexMap.{get}
use Rattle.node_clients.specs.Served.{IsCommandTaken}
use Rattle.node.specs.declared.node.Node.{Node}
use Rattle.node.proofs.LeftLemmas.{not_next_waits, taken_waits}
use Rattle.node.proofs.CommandLemmas.{no_next, nothing_next, taken_served}
use Rattle.node.proofs.ServingLemmas.{serves_none}
use Rattle.node.proofs.TellLemmas.{idle}
use Rattle.node.proofs.node.Node.go_on.Goals as goal

pub returns-then-not-has_next-clause-acts : goal.returns-then-not-has_next-clause-acts
returns-then-not-has_next-clause-acts c = λ asker. idle asker [] c.args.self.now.keeper c.args.work.now

pub returns-then-not-has_next-clause-serves : goal.returns-then-not-has_next-clause-serves
returns-then-not-has_next-clause-serves c =
    let old = c.args.self.now in
    let work = c.args.work.now in
    nothing_next c.args.client old work (sym c.has_next.ensures ∙ c.if-not-has_next.true)
    (serves_none old old work work refl refl refl refl refl refl)

pub returns-then-not-has_next-clause-waits : goal.returns-then-not-has_next-clause-waits
returns-then-not-has_next-clause-waits c =
    not_next_waits c.args.self.now.desk.clients c.args.client c.args.work.now.due.items
    (sym c.has_next.ensures ∙ c.if-not-has_next.true)

pub returns-in-Some-clause-serves : goal.returns-in-Some-clause-serves
returns-in-Some-clause-serves c =
    let old = c.args.self.now in
    let between : Node = record old { desk = record old.desk { clients = c.next.new.self } } in
    let taken : IsCommandTaken old.desk c.args.client c.in-Some.next between.desk = record {
      taken = c.in-Some.ensures.taken;
      others = c.in-Some.ensures.others;
      calls = refl;
      counts = refl;
    } in
    on_ok_weaker c.carry_out.result
    (λ serves. taken_served old between c.carry_out.new.self c.args.work.now c.carry_out.new.work c.args.client c.in-Some.next refl
    refl taken serves) c.carry_out.ensures.serves

pub returns-in-Some-clause-waits : goal.returns-in-Some-clause-waits
returns-in-Some-clause-waits c =
    let old = c.args.self.now in
    let between : Node = record old { desk = record old.desk { clients = c.next.new.self } } in
    let taken : IsCommandTaken old.desk c.args.client c.in-Some.next between.desk = record {
      taken = c.in-Some.ensures.taken;
      others = c.in-Some.ensures.others;
      calls = refl;
      counts = refl;
    } in
    on_ok_weaker c.carry_out.result
    (λ serves. taken_waits old between c.carry_out.new.self c.args.work.now c.carry_out.new.work c.args.client c.in-Some.next taken
    serves) c.carry_out.ensures.serves

pub returns-in-None-clause-acts : goal.returns-in-None-clause-acts
returns-in-None-clause-acts c = λ asker. idle asker [] c.args.self.now.keeper c.args.work.now

pub returns-in-None-clause-serves : goal.returns-in-None-clause-serves
returns-in-None-clause-serves c =
    absurd (no_next (get nat_eq c.args.self.now.desk.clients.by_number c.args.client)
    (get nat_eq c.next.new.self.by_number c.args.client) (sym c.has_next.ensures ∙ c.if-not-has_next.false) c.in-None.ensures.taken)

pub returns-in-None-clause-waits : goal.returns-in-None-clause-waits
returns-in-None-clause-waits c =
    absurd (no_next (get nat_eq c.args.self.now.desk.clients.by_number c.args.client)
    (get nat_eq c.next.new.self.by_number c.args.client) (sym c.has_next.ensures ∙ c.if-not-has_next.false) c.in-None.ensures.taken)
