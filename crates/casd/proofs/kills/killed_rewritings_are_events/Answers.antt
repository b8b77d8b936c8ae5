use Rattle.casd.proofs.KillLemmas.{rewriting_leaves}
use Rattle.casd.proofs.kills.killed_rewritings_are_events.Goals as goal

pub returns : goal.returns
returns g c =
    rewriting_leaves c.rewrites_are_events.ensures _ _ _ c.args.end c.write_anew.result c.write_anew.ensures.rewritten
