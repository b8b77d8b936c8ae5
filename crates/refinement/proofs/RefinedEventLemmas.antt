-- Events of the world that a node's change is, and then more events.
use Rattle.std.proofs.Common.{◌≡◌, ◌++◌, ◌+◌, ℕ, List, length, sym, subst, ap, ◌∙◌}
use Rattle.std.proofs.lemmas.List.{length-append}
use Rattle.std.specs.List.{AllByRecursion}
use Rattle.record.specs.declared.call.Entry.{Entry}
use Rattle.record.specs.Fragments.{Code}
use Rattle.network.specs.Worlds.{World}
use Rattle.network.specs.Events.{Event, world_after}
use Rattle.local_object.specs.Outcomes.{Outcome}
use Rattle.refinement.specs.Parts.{IsPartOf, WasSentAs}
use Rattle.refinement.specs.Refined.{IsRefined}
use Rattle.refinement.specs.Starting.{HasEvents}
use Rattle.refinement.specs.WellFormed.{IsWellFormed}
use Rattle.refinement.proofs.EventCountLemmas.{count_after}
use Rattle.refinement.proofs.EventRunLemmas.{may_append, run_append}

-- what the first events sent need not be sent by the node
pub both_refined : (fragment : Code) (world : World) (first second : List Event) (between after : Outcome) →
    between.local.node ≡ after.local.node → IsRefined fragment world first between →
    IsRefined fragment (world_after fragment first world) second after → IsRefined fragment world (first ++ second) after
both_refined fragment world first second between after same one more =
    let there = sym (run_append fragment first second world) in record {
      may = may_append fragment first second world one.may more.may;
      formed = subst (IsWellFormed fragment) there more.formed;
      part = subst (λ w. IsPartOf w after.local) there more.part;
      sent = subst (λ w. AllByRecursion (WasSentAs w) after.sent) there more.sent;
      others = λ other apart part. subst (λ w. IsPartOf w other) there
          (more.others other apart (one.others other (λ it. apart (it ∙ same)) part));
      kept = λ letter was. subst (λ w. WasSentAs w letter) there (more.kept letter (one.kept letter was));
      files = ap (λ (w : World). w.files) (sym there) ∙ more.files ∙ one.files;
      now = count_after fragment (first ++ second) world;
    }

pub then_refined : (fragment : Code) (world : World) (first : List Event) (between after : Outcome) (history : List Entry) (count : ℕ) →
    between.local.node ≡ after.local.node → IsRefined fragment world first between →
    HasEvents fragment (world_after fragment first world) after history count →
    HasEvents fragment world after history (length first + count)
then_refined fragment world first between after history count same one more =
    record {
      events = first ++ more.events;
      number = length-append first more.events ∙ ap (λ n. length first + n) more.number;
      refined = both_refined fragment world first more.events between after same one more.refined;
      entries = ap (λ (w : World). w.history) (run_append fragment first more.events world) ∙ more.entries;
    }
