use Rattle.std.proofs.Common.{refl}
use Rattle.node_effects.specs.Seen.{named_of}
use Rattle.node_effects.specs.Work.{no_growth}
use Rattle.node_effects.proofs.GrowthLemmas.{grown_none}
use Rattle.node_keeper.specs.Keeping.{if_heeded, kept_of}
use Rattle.node_keeper.proofs.ActLemmas.{acts_rest}
use Rattle.node_keeper.proofs.keeper.Keeper.deliver_expected.Goals as goal

pub returns-then-not-branch-clause-acts : goal.returns-then-not-branch-clause-acts
returns-then-not-branch-clause-acts c =
    acts_rest c.args.sender (if_heeded (kept_of c.args.self.now) (named_of c.args.it)) c.args.self.now c.args.work.now
    c.args.work.now no_growth (grown_none c.args.work.now) refl refl refl
