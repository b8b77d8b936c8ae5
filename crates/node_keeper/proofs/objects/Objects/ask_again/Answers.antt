use Rattle.std.proofs.Common.{◌≡◌, ◌∙◌, IfOk, None, nat_eq, rules, subst, sym}
use Rattle.std.specs.Cmp.Lexicographic.{pointwise}
use Rattle.std.proofs.lemmas.Result.{on_ok_weaker}
use Rattle.indexmap.specs.IndexMap.{get}
use Rattle.local_object.specs.Doing.{IsOutcome}
use Rattle.local_object.specs.Local.{LocalObject}
use Rattle.local_object.specs.ReadingOn.{read_on_events}
use Rattle.node_keeper.specs.Objects.{IsChangedAt, objects_of}
use Rattle.node_keeper.specs.Resending.{asked_again, read_on_here}
use Rattle.node_keeper.specs.declared.objects.Objects.{Objects}
use Rattle.node_keeper.proofs.AskedAgainLemmas.{absent_again, absent_letters}
use Rattle.node_keeper.proofs.objects.Objects.ask_again.Goals as goal

pub returns-in-Some-clause-done : goal.returns-in-Some-clause-done
returns-in-Some-clause-done c =
    let old = c.args.self.now in
    let new : Objects = record old { by_name = c.get_mut.follows.lender c.ask_again.new.object } in
    let name = c.args.name.now in
    let id = c.args.id in
    let was : c.in-Some.object.now ≡ objects_of old name = search rules in
    let changed : IsChangedAt old name c.ask_again.new.object new = search rules in
    on_ok_weaker c.ask_again.result
    (λ done. record {
      letters = (read_on_here (objects_of old name) id).sent;
      done = record {
        local = c.ask_again.new.object;
        done = subst (λ (o : LocalObject). IsOutcome o (read_on_events o id) c.ask_again.new.object (read_on_here o id).sent) was done;
        changed = changed;
      };
    }) c.ask_again.ensures.done

pub returns-in-Some-clause-letters : goal.returns-in-Some-clause-letters
returns-in-Some-clause-letters c =
    let was : c.in-Some.object.now ≡ objects_of c.args.self.now c.args.name.now = search rules in
    subst (λ (o : LocalObject). IfOk c.ask_again.result (λ letters. letters.items ≡ asked_again o c.args.id)) was
    c.ask_again.ensures.letters

pub returns-in-None-clause-done : goal.returns-in-None-clause-done
returns-in-None-clause-done c =
    let absent : get (pointwise nat_eq) c.args.self.now.by_name c.args.name.now ≡ None = search rules in
    rw c.get_mut.follows.holds-at-none (absent_again c.args.self.now c.args.name.now c.args.id absent)

pub returns-in-None-clause-letters : goal.returns-in-None-clause-letters
returns-in-None-clause-letters c =
    let absent : get (pointwise nat_eq) c.args.self.now.by_name c.args.name.now ≡ None = search rules in
    c.new.ensures.items ∙ sym (absent_letters c.args.self.now c.args.name.now c.args.id absent)
