-- The node that moves objects begins a move.
use Rattle.std.proofs.Common.{◌≡◌, ℕ, suc, Bool, true, false, cond, eqb, eq-eqb, length, List, [], ◌∷◌, ◌++◌}
use Rattle.std.proofs.Common.{get_or, refl, sym, subst, ap, ◌∙◌, arith}
use Rattle.std.proofs.lemmas.Option.{slice_get-get_or}
use Rattle.std.specs.List.{AllByRecursion, filter}
use Rattle.layout.specs.Layout.{Layout, IsLawful}
use Rattle.bank.specs.declared.kind.Kind.TheVariants.{Spread}
use Rattle.bank.specs.declared.status.Status.TheVariants.{Pending}
use Rattle.record.specs.declared.call.CallKind.TheVariants.{Move}
use Rattle.record.specs.Legal.{first_stage}
use Rattle.record.specs.Records.{no_layout}
use Rattle.record.specs.Fragments.{Code}
use Rattle.network.specs.Worlds.{ClusterFile, World, known_layouts}
use Rattle.open_calls.specs.OpenCalls.{NodeCall}
use Rattle.network.specs.Events.{Event, moving_world}
use Rattle.network.specs.Premises.{IsUnused}
use Rattle.local_object.specs.Local.{LocalObject, layout_here, with_heard}
use Rattle.local_object.specs.Events.{LocalEvent, moving_here}
use Rattle.local_object.specs.Outcomes.{Outcome, begun_here}
use Rattle.refinement.specs.Laws.{IsPlainEventOfWorld}
use Rattle.refinement.specs.Parts.{IsPartOf}
use Rattle.refinement.specs.Refined.{begun_entry}
use Rattle.refinement.specs.WellFormed.{IsWellFormed}
use Rattle.refinement.proofs.BegunCallLemmas.{begun_kept, ticked}
use Rattle.refinement.proofs.PartLemmas.{IsKept, refined}
use Rattle.local_object.proofs.HeardPlaceLemmas.{layout_stays}
use Rattle.refinement.proofs.GrownWorldLemmas.{grown, grown_formed, last_is, letter_grown, other_grown, own_grown}

-- what is so of each call of a node
all_of_node : (P : NodeCall → Type 0) (test : NodeCall → Bool) (calls : List NodeCall) → AllByRecursion P (filter test calls) →
    AllByRecursion (λ call. test call ≡ true → P call) calls
all_of_node P test [] all = tt
all_of_node P test (first ∷ calls) all = go (test first) refl all (λ rest. all_of_node P test calls rest)
  where
    go : (b : Bool) → test first ≡ b → AllByRecursion P (cond b (first ∷ filter test calls) (filter test calls)) →
        (AllByRecursion P (filter test calls) → AllByRecursion (λ call. test call ≡ true → P call) calls) →
        AllByRecursion (λ call. test call ≡ true → P call) (first ∷ calls)
    go true e is rest = (λ passes. is.0, rest is.1)
    go false e is rest = (λ passes. absurd (let wrong : false ≡ true = sym e ∙ passes in cc), rest is)

all_by_node : (node : ℕ) (calls : List NodeCall) → AllByRecursion (λ call. eqb call.node node ≡ true → call.kind ≡ Move → ⊥) calls →
    AllByRecursion (λ call. call.node ≡ node → call.kind ≡ Move → ⊥) calls
all_by_node node [] all = tt
all_by_node node (first ∷ calls) all = (λ same. all.0 (eq-eqb first.node node same), all_by_node node calls all.1)

-- The event

-- the node of a part that moves objects is the one that moves them
one_mover : (fragment : Code) (world : World) → IsWellFormed fragment world → (node other : ℕ) → node ≡ (world.files node).mover →
    other ≡ (world.files other).mover → other ≡ node
one_mover fragment world formed node other moves also =
    also ∙ ap (λ (file : ClusterFile). file.mover) (formed.one other) ∙ sym (ap (λ (file : ClusterFile). file.mover) (formed.one node))
    ∙ sym moves

moved_kept : (fragment : Code) (world : World) (local : LocalObject) (id : ℕ) (layout : Layout) →
    IsWellFormed fragment world → IsPartOf world local →
    IsLawful layout → IsUnused world id → local.node ≡ (world.files local.node).mover →
    IsKept fragment world (moving_world (ticked world) local.node id layout)
    (begun_here (with_heard local (suc (length world.later)) layout) id Move (first_stage Move (length world.later)) (Spread Pending)
    1 (length world.later) (layout_here (with_heard local (suc (length world.later)) layout) (length world.later))) 1
    (world.history ++ begun_entry id Move (suc world.now) ∷ [])
moved_kept fragment world local id layout formed part lawful unused moves =
    let last = length world.later in
    let next = with_heard local (suc last) layout in
    let stage = first_stage Move last in
    let layouts = known_layouts world local.node in
    let known = get_or layouts last no_layout in
    let at = layout_stays local (suc last) layout last known
    (part.mover moves last known (slice_get-get_or layouts last no_layout (omega arith))) in
    let larger = grown fragment world layout formed in
    let kept = begun_kept fragment larger next id Move stage (Spread Pending) last (λ p q. refl) known
    (grown_formed fragment world layout formed lawful)
    (own_grown fragment world layout formed local part) unused at in
    subst (λ o. IsKept fragment world (moving_world (ticked world) local.node id layout)
    (begun_here next id Move stage (Spread Pending) 1 last o) 1 (world.history ++ begun_entry id Move (suc world.now) ∷ [])) (sym at)
    (record {
      formed = kept.formed;
      part = kept.part;
      sent = kept.sent;
      others = λ other apart is. kept.others other apart
          (other_grown fragment world layout formed other is
          (λ also. apart (one_mover fragment world formed local.node other.node moves also)));
      kept = λ letter was. kept.kept letter (letter_grown fragment world layout formed letter was);
      files = kept.files;
      now = kept.now;
      entries = kept.entries;
    })

pub move_refined : (id : ℕ) (layout : Layout) → IsPlainEventOfWorld (LocalEvent.BeginMove id layout)
move_refined id layout fragment world local formed part may premised =
    let moves = premised.1 in
    let last = last_is fragment world layout formed local part moves in
    let at : ℕ → Outcome = λ n. begun_here (with_heard local (suc n) layout) id Move (first_stage Move n) (Spread Pending) 1 n
    (layout_here (with_heard local (suc n) layout) n) in
    refined fragment world (Event.BeginMove local.node id layout ∷ []) (moving_world (ticked world) local.node id layout)
    (at (length world.later)) (moving_here local id layout) (world.history ++ begun_entry id Move (suc world.now) ∷ []) refl
    (ap at (sym last)) (
      (
        may.0,
        moves,
        all_by_node local.node world.calls (all_of_node (λ (call : NodeCall). call.kind ≡ Move → ⊥)
            (λ (call : NodeCall). eqb call.node local.node) world.calls
            (subst (AllByRecursion (λ (call : NodeCall). call.kind ≡ Move → ⊥)) part.calls may.1)),
      ),
      record { network = tt; log = tt; ids = premised.0 },
      tt,
    )
    (moved_kept fragment world local id layout formed part may.0 premised.0 moves)
