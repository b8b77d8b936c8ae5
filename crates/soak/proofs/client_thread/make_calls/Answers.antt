use Rattle.std.proofs.Common.{rules}
use Rattle.soak.proofs.MadeCallLemmas.{MakesAll-more}
use Rattle.soak.proofs.client_thread.make_calls.Goals as goal

pub loop-call-preserved : goal.loop-call-preserved
loop-call-preserved g c =
    MakesAll-more g.L.StoreName.first c.loop-call.call c.args.seat c.loop-call.seat c.make_call.new.seat
    c.loop-call.invariant c.in_ok-make_call.ensures

pub loop-call-init : goal.loop-call-init
loop-call-init g c = search rules
