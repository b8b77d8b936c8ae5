use Rattle.std.proofs.Common.{List, ℕ, refl, subst}
use Rattle.player.specs.Shown.{ShowsCall, ShowsSequence, ShowsCheck, HasNoCall}
use Rattle.player.specs.Play.{Prints}
use Rattle.player.proofs.CommandResultLemmas.{shown, changed, no_bad}
use Rattle.player.proofs.player.carry_out.Goals as goal

pub returns-in-Show : goal.returns-in-Show
returns-in-Show g c = shown _ _ c.args.cluster.now c.args.cluster.now c.args.command _ _ c.in-Show.is
    (ShowsCall c.args.cluster.now c.in-Show.name.now c.in-Show.call) ⊥ (λ text is. (refl, is)) no_bad c.call.ensures

pub returns-in-Sequence : goal.returns-in-Sequence
returns-in-Sequence g c = shown _ _ c.args.cluster.now c.args.cluster.now c.args.command _ _ c.in-Sequence.is
    (ShowsSequence c.args.cluster.now c.in-Sequence.name.now) ⊥ (λ text is. (refl, is)) no_bad c.sequence_of.ensures

pub returns-in-Check : goal.returns-in-Check
returns-in-Check g c =
    let named = c.in-Check.name.now in
    let asked = subst (λ (calls : List ℕ). Prints (g.W.Write.contents c.args.out.now) (g.W.Write.contents c.check_of.new.out)
    (ShowsCheck c.args.cluster.now named calls) (HasNoCall c.args.cluster.now named calls) c.check_of.result) c.deref.ensures.value
    c.check_of.ensures in
    shown _ _ c.args.cluster.now c.args.cluster.now c.args.command _ _ c.in-Check.is
    (ShowsCheck c.args.cluster.now named c.in-Check.calls.items) (HasNoCall c.args.cluster.now named c.in-Check.calls.items)
    (λ text is. (refl, is)) (λ bad. (bad, refl)) asked

pub returns-in-Change : goal.returns-in-Change
returns-in-Change g c =
    changed _ _ c.args.cluster.now c.change.new.cluster c.args.command c.in-Change.asked c.change.result _ c.in-Change.is c.change.ensures
    (c.print_line.ensures _ refl)
