use Rattle.std.proofs.Common.{◌≡◌, ◌+◌, ◌++◌, ◌∷◌, ℕ, List, [], drop, length, refl, subst, sym, ◌∙◌}
use Rattle.std.specs.List.{AllByRecursion}
use Rattle.std.proofs.lemmas.Iterator.Adapters.{YieldsList-from_vec}
use Rattle.std.proofs.lemmas.Iterator.Consumers.{YieldsList-end, YieldsList-so_far, YieldsList-turn}
use Rattle.std.proofs.lemmas.List.{map-id}
use Rattle.local_object.specs.Passed.{passed_positions}
use Rattle.node_effects.specs.Work.{no_growth}
use Rattle.node_effects.proofs.GrowthLemmas.{grown_none}
use Rattle.node_keeper.specs.Closing.{CanClosePassed, PassesBanks, all_passed_records, passed_records}
use Rattle.node_keeper.specs.Fitting.{IsLoggable}
use Rattle.node_keeper.specs.Objects.{objects_of}
use Rattle.node_keeper.proofs.ActLemmas.{acts_more, acts_rest}
use Rattle.node_keeper.proofs.FittingLemmas.{unwritten_more}
use Rattle.node_keeper.proofs.PassedBankLemmas.{passed_fits, passed_more, passed_part, passed_rest, split_at}
use Rattle.node_keeper.proofs.ResultLemmas.{fails_same}
use Rattle.node_keeper.proofs.keeper.Keeper.close_passed.Goals as goal

pub loop-position-init : goal.loop-position-init
loop-position-init c = (
  (refl, grown_none c.args.work.now),
  λ asker. acts_rest asker [] c.args.self.now c.args.work.now c.args.work.now no_growth (grown_none c.args.work.now) refl refl refl,
)

pub loop-position-preserved : goal.loop-position-preserved
loop-position-preserved c =
    let loop = c.loop-position in (
      passed_more c.args.name.now loop.yielded c.in-Some.position c.args.self.now loop.self c.pass.new.self c.args.work.now loop.work
          c.pass.new.work loop.invariant.0 c.in_ok-pass.ensures.passes,
      λ asker. acts_more asker [] c.args.self.now loop.self c.pass.new.self c.args.work.now loop.work c.pass.new.work
          (loop.invariant.1 asker) (c.in_ok-pass.ensures.acts asker),
    )

pub returns-in_err-pass-clause-writes : goal.returns-in_err-pass-clause-writes
returns-in_err-pass-clause-writes c =
    let name = c.args.name.now in
    let old = c.args.self.now in
    let loop = c.loop-position in
    let positions = c.in_ok-positions.positions in
    let iterator = c.into_iter-position-iterator.result in
    let items : iterator.rest.items ≡ positions.items = c.into_iter-position-iterator.ensures.into_iter_gives.0 in
    let len : iterator.rest.len ≡ length positions.items =
    c.into_iter-position-iterator.ensures.into_iter_gives.1 ∙ positions.ok.0 in
    let road = YieldsList-from_vec positions.items items len in
    let next = YieldsList-turn road loop.yielded loop.position-iterator loop.yielded_by c.next.result c.next.new.self
    c.in-Some.position c.in-Some.is c.next.ensures.steps in
    let all : passed_positions (objects_of old.objects name)
    ≡ loop.yielded ++ c.in-Some.position ∷ drop (length loop.yielded + 1) positions.items =
    sym c.in_ok-positions.ensures.positions
    ∙ split_at loop.yielded positions.items c.in-Some.position
    (YieldsList-so_far road loop.yielded loop.position-iterator loop.yielded_by) next in
    let digest = (passed_rest name loop.yielded old loop.self c.args.work.now loop.work loop.invariant.0).digest in
    let error = c.in_err-pass.field-0.0 in
    fails_same _ c.from_residual-in_err-pass.result error c.from_residual-in_err-pass.ensures.1
    (unwritten_more
    (AllByRecursion (IsLoggable loop.self.digest) (passed_records name (objects_of loop.self.objects name) c.in-Some.position))
    (CanClosePassed old.digest name (objects_of old.objects name))
    (λ fits. subst (λ d. AllByRecursion (IsLoggable d) (passed_records name (objects_of loop.self.objects name) c.in-Some.position))
    (sym digest)
    (passed_part (IsLoggable old.digest) name loop.yielded (drop (length loop.yielded + 1) positions.items) c.in-Some.position old
    loop.self c.args.work.now loop.work loop.invariant.0
    (subst (λ (ps : List ℕ). AllByRecursion (IsLoggable old.digest) (all_passed_records name (objects_of old.objects name) ps)) all
    fits)))
    error c.in_err-pass.ensures.writes)

pub returns-clause-closes : goal.returns-clause-closes
returns-clause-closes c =
    let loop = c.loop-position in
    let positions = c.in_ok-positions.positions in
    let iterator = c.into_iter-position-iterator.result in
    let items : iterator.rest.items ≡ positions.items = c.into_iter-position-iterator.ensures.into_iter_gives.0 in
    let len : iterator.rest.len ≡ length positions.items =
    c.into_iter-position-iterator.ensures.into_iter_gives.1 ∙ positions.ok.0 in
    let whole = YieldsList-end (YieldsList-from_vec positions.items items len) loop.yielded loop.position-iterator loop.yielded_by
    c.next.result c.next.new.self c.in-None.is c.next.ensures.steps in
    subst (λ (ps : List ℕ). PassesBanks c.args.name.now ps c.args.self.now c.args.work.now loop.self loop.work)
    (sym (map-id loop.yielded) ∙ whole.0 ∙ c.in_ok-positions.ensures.positions) loop.invariant.0

pub returns-clause-writes : goal.returns-clause-writes
returns-clause-writes c =
    let name = c.args.name.now in
    let old = c.args.self.now in
    let loop = c.loop-position in
    let positions = c.in_ok-positions.positions in
    let iterator = c.into_iter-position-iterator.result in
    let items : iterator.rest.items ≡ positions.items = c.into_iter-position-iterator.ensures.into_iter_gives.0 in
    let len : iterator.rest.len ≡ length positions.items =
    c.into_iter-position-iterator.ensures.into_iter_gives.1 ∙ positions.ok.0 in
    let whole = YieldsList-end (YieldsList-from_vec positions.items items len) loop.yielded loop.position-iterator loop.yielded_by
    c.next.result c.next.new.self c.in-None.is c.next.ensures.steps in
    subst (λ (ps : List ℕ). AllByRecursion (IsLoggable old.digest) (all_passed_records name (objects_of old.objects name) ps))
    (sym (map-id loop.yielded) ∙ whole.0 ∙ c.in_ok-positions.ensures.positions)
    (passed_fits name loop.yielded old loop.self c.args.work.now loop.work loop.invariant.0)
