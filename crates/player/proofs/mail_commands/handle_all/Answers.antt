use Rattle.std.proofs.Common.{◌≡◌, ℕ, suc, Option, MatchOption, subst, ap, arith}
use Rattle.cluster.specs.Cluster.{Cluster}
use Rattle.player.specs.Deliver.{IsFirst, HasNoneToHandle}
use Rattle.player.specs.Deliver.Delivers.{nothing}
use Rattle.player.proofs.DeliverLemmas.{handles, still_none_in}
use Rattle.player.proofs.mail_commands.handle_all.Goals as goal

pub loop-place-init : goal.loop-place-init
loop-place-init c = record { delivers = nothing; none_before = λ earlier less. absurd (omega (arith, less)); few = omega arith }

pub loop-place-preserved : goal.loop-place-preserved
loop-place-preserved c =
    let cluster = c.loop-place.cluster in
    let name = c.args.name.now in
    let place = c.in-Some.place in
    let first : IsFirst cluster name place =
    subst (λ (found : Option ℕ). MatchOption found (HasNoneToHandle cluster name) (IsFirst cluster name)) c.in-Some.is
    c.in_ok-place.ensures.first in
    let made = c.in_ok-handle.ensures.step in
    let counted : c.handle.new.cluster.counter ≡ suc cluster.counter = ap (λ (x : Cluster). x.counter) made in
    let few = c.loop-place.invariant.few in
    record {
      delivers = handles name c.args.cluster.now cluster c.handle.new.cluster c.loop-place.handled place c.in_ok-handle.field-0
          c.loop-place.invariant.delivers first
          c.in_ok-handle.ensures.handled made;
      none_before = still_none_in cluster c.handle.new.cluster name place c.in_ok-handle.field-0 made first.none_before;
      few = omega (arith, counted, few);
    }
