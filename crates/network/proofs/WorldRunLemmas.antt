-- Every run of worlds follows a run of the record.
use Rattle.std.proofs.Common.{◌≡◌, ℕ, suc, ◌≤◌, List, [], ◌∷◌, ◌++◌, map, get_or, Option, None}
use Rattle.std.proofs.Common.{refl, ap, ◌∙◌, arith}
use Rattle.std.specs.FinMap as map
use Rattle.bank.specs.Bank.{opened_bank}
use Rattle.record.specs.Fragments.{Code, IsCode}
use Rattle.record.specs.Records.{Object, no_bank}
use Rattle.record.specs.Steps.{Step, stepped, opened_banks, opened_object}
use Rattle.soundness.specs.Sound.{IsSound}
use Rattle.soundness.proofs.Sound.OpenedObjectLemmas.{opening_sound}
use Rattle.network.specs.Unstamped.{unstamped_bank}
use Rattle.network.specs.Worlds.{ClusterFile, World, opened_world}
use Rattle.network.specs.Events.{Event, happens, world_after}
use Rattle.network.specs.Premises.{IsOneFile, MayHappenInTurn}
use Rattle.network.specs.Following.{Follows, LeadsOn, MayRunNumbered, run_numbered, last_step_after}
use Rattle.network.specs.Followed.{IsFollowed, RunsAreFollowed}
use Rattle.network.proofs.OneFileLemmas.{banks_opened}
use Rattle.network.proofs.ServedRequestLemmas.{bare_empty}
use Rattle.network.proofs.UnstampedRowLemmas.{insert-bare}

-- Steps, and then more steps

run_append : (fragment : Code) (first second : List (Step × ℕ)) (object : Object) →
    run_numbered fragment (first ++ second) object ≡ run_numbered fragment second (run_numbered fragment first object)
run_append fragment [] second object = refl
run_append fragment (step ∷ first) second object = run_append fragment first second (stepped fragment step.0 step.1 object)

later_first : (fragment : Code) (steps : List (Step × ℕ)) (last middle end : ℕ) (object : Object) → last ≤ middle →
    MayRunNumbered fragment steps middle end object → MayRunNumbered fragment steps last end object
later_first fragment [] last middle end object le may = (let h : middle ≤ end = may in omega arith)
later_first fragment (step ∷ steps) last middle end object le may = (omega (arith, may.0), may.1, may.2)

may_append : (fragment : Code) (first second : List (Step × ℕ)) (last middle end : ℕ) (object : Object) →
    MayRunNumbered fragment first last middle object → MayRunNumbered fragment second middle end (run_numbered fragment first object) →
    MayRunNumbered fragment (first ++ second) last end object
may_append fragment [] second last middle end object a b = later_first fragment second last middle end object a b
may_append fragment (step ∷ first) second last middle end object a b =
    (a.0, a.1, may_append fragment first second step.1 middle end (stepped fragment step.0 step.1 object) a.2 b)

-- an event, and then others
leads_on : (fragment : Code) (object : Object) (last : ℕ) (middle world : World) (first : LeadsOn fragment object last middle) →
    LeadsOn fragment (run_numbered fragment first.steps object) (last_step_after middle.now) world → LeadsOn fragment object last world
leads_on fragment object last middle world first second = grind (arith, may_append, run_append)

pub run_followed : ((event : Event) → IsFollowed event) → (fragment : Code) → IsCode fragment → (events : List Event)
    (world : World) (object : Object) → IsSound fragment object (last_step_after world.now) → Follows world object →
    MayHappenInTurn fragment events world → LeadsOn fragment object (last_step_after world.now) (world_after fragment events world)
run_followed each fragment code [] world object sound follows may = record {
  steps = [];
  may = (let h : last_step_after world.now ≤ last_step_after world.now = omega arith in h);
  sound = sound;
  follows = follows;
}
run_followed each fragment code (event ∷ events) world object sound follows may =
    let first = each event fragment world object code sound follows may.0 may.1 in
    leads_on fragment object (last_step_after world.now) (happens fragment world event) (world_after fragment (event ∷ events) world) first
    (run_followed each fragment code events (happens fragment world event) (run_numbered fragment first.steps object)
    first.sound first.follows may.2)

-- An opened world

opened-bare : (point now : ℕ) (delta : Option ℕ) → unstamped_bank (opened_bank point delta now) ≡ opened_bank point delta 0
opened-bare point now delta = grind (arith, bare_empty, insert-bare)

pub opened_banks-bare : (servers : List ℕ) (member now : ℕ) (delta : Option ℕ) →
    map unstamped_bank (opened_banks servers member delta now) ≡ opened_banks servers member delta 0
opened_banks-bare [] member now delta = refl
opened_banks-bare (server ∷ servers) member now delta =
    ap (λ b. b ∷ map unstamped_bank (opened_banks servers (suc member) delta now)) (opened-bare member now delta)
    ∙ ap (λ l. opened_bank member delta 0 ∷ l) (opened_banks-bare servers (suc member) now delta)

unretired : (servers : List ℕ) (delta : Option ℕ) → (get_or (opened_banks servers 0 delta 0) 0 no_bank).retired ≡ None
unretired [] delta = refl
unretired (server ∷ servers) delta = refl

opened_follow : (files : ℕ → ClusterFile) → IsOneFile files →
    Follows (opened_world files) (opened_object (files 0).first (files 0).delta 0)
opened_follow files one = grind (arith, banks_opened, opened_banks-bare, unretired)

pub runs_followed : ((event : Event) → IsFollowed event) → RunsAreFollowed
runs_followed each fragment files events code one lawful may = grind (arith, opened_follow, opening_sound, run_followed)
