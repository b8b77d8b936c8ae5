-- The premises of an event at a node hold in the world of all nodes.
use Rattle.std.proofs.Common.{◌≡◌, ℕ, suc, List, Some, slice_get, sym, subst, ap, ◌∙◌}
use Rattle.std.proofs.lemmas.Option.{slice_get_within}
use Rattle.record.specs.Fragments.{Code}
use Rattle.soundness.proofs.ListLemmas.{all_get}
use Rattle.network.specs.Worlds.{ClusterFile, World}
use Rattle.letter.specs.declared.letter.Letter.{Letter}
use Rattle.starts.specs.Starts.{IsStart}
use Rattle.starts.proofs.AskedWorldLemmas.{start_asked}
use Rattle.local_object.specs.Events.{LocalEvent}
use Rattle.local_object.specs.May.{MayHappenHere}
use Rattle.told_replies.specs.EarlyAnswers.{EarlyAnswer}
use Rattle.told_replies.specs.Tellings.{world_of}
use Rattle.told_queries.specs.Courses.{Course, run_of}
use Rattle.told_queries.specs.Laws.{IsCourse}
use Rattle.refinement.specs.Parts.{WasSentAs}
use Rattle.refinement.specs.Refined.{IsAskedToRaise, IsPremisedHere}
use Rattle.refinement.specs.Systems.{HasPartsOf, IsCourseOf, IsPremisedIn, System}
use Rattle.refinement.specs.WellFormed.{IsWellFormed}
use Rattle.refinement.proofs.EarlyHistoryLemmas.{unused_seen}
use Rattle.refinement.proofs.EarlyRunLemmas.{is_reached}
use Rattle.refinement.proofs.LearntPartLemmas.{known_by_all}
use Rattle.refinement.proofs.StartedCallLemmas.{starts_are_grown}
use Rattle.refinement.proofs.WorldIdLemmas.{HasNot}

-- a course that leads to the world of all nodes, with the early answers that were given in it
pub record HasRun (fragment : Code) (system : System) : Type 0 where
  pub course : Course
  pub answers : List EarlyAnswer
  pub reached : IsCourse fragment course
  pub formed : IsWellFormed fragment (world_of fragment (run_of course))
  pub is : IsCourseOf fragment course answers system

module _ (fragment : Code) (system : System) (has : HasRun fragment system) where
  abbrev world : World
  world = world_of fragment (run_of has.course)

  abbrev is : HasPartsOf world system
  is = has.is.parts

  unused_there : (id : ℕ) → HasNot id system.history → HasNot id world.history
  unused_there id free = unused_seen has.answers id world.history (subst (HasNot id) (sym has.is.early.same) free)

  -- the node that moves objects by the system's files does so by the world's
  mover_there : (node : ℕ) → node ≡ (system.files node).mover →
      (system.objects node).node ≡ (world.files (system.objects node).node).mover
  mover_there node moves =
      is.nodes node ∙ moves ∙ ap (λ (files : ℕ → ClusterFile). (files node).mover) (sym is.files)
      ∙ ap (λ n. (world.files n).mover) (sym (is.nodes node))

  pub mover_here : (node : ℕ) → (system.objects node).node ≡ (world.files (system.objects node).node).mover →
      node ≡ (system.files node).mover
  mover_here node moves =
      sym (is.nodes node) ∙ moves ∙ ap (λ n. (world.files n).mover) (is.nodes node)
      ∙ ap (λ (files : ℕ → ClusterFile). (files node).mover) is.files

  letter_there : (letter : Letter) → (place : ℕ) × (slice_get system.letters place ≡ Some letter) → WasSentAs world letter
  letter_there letter posted = all_get (WasSentAs world) system.letters posted.0 letter is.letters posted.1

  -- a node's start grows to a start
  grows_there : (node id : ℕ) → MayHappenHere fragment (system.objects node) (LocalEvent.Grow id) →
      IsStart world (suc (system.objects node).start)
  grows_there node id may =
      let call = may.0 in
      let spread = may.2 in
      subst (λ n. IsStart world (suc n)) spread.at
      (starts_are_grown fragment world (system.objects node) id call (is_reached fragment has.course has.reached) has.formed
      (is.parts node) may.1 spread.kind spread.complete
      (subst (IsStart world) (sym spread.at) (is.parts node).start))

  -- at a position before its start, a node was asked to raise the pointer
  asked_there : (node position : ℕ) → MayHappenHere fragment (system.objects node) (LocalEvent.Raise position) →
      IsAskedToRaise world (system.objects node) position
  asked_there node position may member layout known server =
      let part = is.parts node in
      start_asked fragment world (system.objects node).start position member layout (is_reached fragment has.course has.reached) part.start
      may.before
      (known_by_all world has.formed.one (system.objects node).node position layout (part.layouts position layout known))
      (slice_get_within layout.members member (system.objects node).node server)

  pub premised_there : (node : ℕ) (event : LocalEvent) → MayHappenHere fragment (system.objects node) event →
      IsPremisedIn system node event → IsPremisedHere world (system.objects node) event
  premised_there node (LocalEvent.BeginRead id) may premised = unused_there id premised
  premised_there node (LocalEvent.BeginWrite id value) may premised = unused_there id premised
  premised_there node (LocalEvent.BeginMove id layout) may premised = (unused_there id premised.0, mover_there node premised.1)
  premised_there node (LocalEvent.Serve letter) may premised = letter_there letter premised
  premised_there node (LocalEvent.Take letter) may premised = letter_there letter premised
  premised_there node (LocalEvent.Grow id) may premised = grows_there node id may
  premised_there node (LocalEvent.Hear letter) may premised = letter_there letter premised
  premised_there node (LocalEvent.Redirect letter) may premised = letter_there letter premised
  premised_there node (LocalEvent.Raise position) may premised = asked_there node position may
  premised_there node _ may premised = tt
