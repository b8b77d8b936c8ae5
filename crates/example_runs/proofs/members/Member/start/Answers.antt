use Rattle.std.proofs.Common.{ℕ, List, Some, Ok, refl, sym, subst, ◌∙◌}
use Rattle.node.specs.Recovering.{CarriesOutEntry}
use Rattle.node_keeper.specs.Keeping.{names_of}
use Rattle.node_store.specs.Recovery.{HasRecovered}
use Rattle.processes.specs.Programs.{IsNewAndIdle}
use Rattle.example_runs.proofs.MemberLemmas.{has_started}
use Rattle.example_runs.proofs.StepLemmas.{none_of, on_ok}
use Rattle.example_runs.proofs.members.Member.start.Goals as goal

pub returns : goal.returns
returns c =
    let old = c.args.self.now in
    let new = c.new-node.result in
    let copy = c.recover_machine.new.machine in
    let recovered =
    subst (λ (t : List ℕ). HasRecovered CarriesOutEntry new copy (Some t) (Ok c.in_ok-end.end))
    (c.new.ensures ∙ c.deref.ensures.value) c.in_ok-end.ensures in
    let is_new : IsNewAndIdle (names_of c.args.file) c.args.number new = record {
      new = record {
        file = c.args.file;
        lawful = c.know_lawful.ensures;
        same = refl;
        kept = c.new-node.ensures.kept;
        calls = c.new-node.ensures.calls;
      };
      idle = c.new-node.ensures.waits;
    } in
    on_ok c.begin.result
    (has_started c.args.file c.args.number new copy c.in_ok-end.end old old c.begin.new.self
    (none_of old.node (sym c.is_some.ensures ∙ c.if-is_some.false)) refl is_new recovered)
    c.begin.ensures
