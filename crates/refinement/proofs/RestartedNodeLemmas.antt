-- A node stops and starts again from its log.
use Rattle.std.proofs.Common.{◌≡◌, ◌<◌, ◌≤◌, ℕ, suc, Bool, true, false, ◌&&◌, not, eqb, eqb-true}
use Rattle.std.proofs.Common.{List, [], ◌∷◌, Some, refl, sym, ap, ◌∙◌, arith, Option, None}
use Rattle.std.proofs.Common.{slice_get}
use Rattle.std.proofs.lemmas.Option.{same_Some}
use Rattle.std.specs.List.{AllByRecursion, filter}
use Rattle.layout.specs.Layout.{Layout}
use Rattle.record.specs.Legal.{is_move}
use Rattle.record.specs.Fragments.{Code}
use Rattle.soundness.proofs.ListLemmas.{all_weaker}
use Rattle.network.specs.Worlds.{World, after_restart, known_layouts}
use Rattle.open_calls.specs.OpenCalls.{NodeCall}
use Rattle.open_calls.proofs.OpenCallLemmas.{all_filter}
use Rattle.local_object.specs.Local.{LocalObject, bank_here, bank_or_opened, layout_here}
use Rattle.local_object.specs.Outcomes.{silent}
use Rattle.refinement.specs.Laws.{RestartsAreWorldEvents}
use Rattle.refinement.specs.Parts.{IsPartOf}
use Rattle.local_object.specs.Restarts.{IsKeptHere}
use Rattle.refinement.specs.Refined.{restart_event}
use Rattle.refinement.specs.WellFormed.{HasAsked, HasEntry, IsWellFormed}
use Rattle.local_object.proofs.HeardPlaceLemmas.{no_bank_here}
use Rattle.open_calls.proofs.CallsOfNodeLemmas.{calls_of, differs, filter_swap, filter_within}
use Rattle.open_calls.proofs.DistinctCallLemmas.{distinct_filter}
use Rattle.refinement.proofs.KeptBankLemmas.{kept_as}
use Rattle.refinement.proofs.PartLemmas.{IsKept, asked_still, changed_world, formed_still, part_still, refined, sent_still, start_still}

-- whether a call is there after the node started again
abbrev stays : (node : ℕ) → NodeCall → Bool
stays node call = not (eqb call.node node && not (is_move call.kind))

for_all : (P : NodeCall → Type 0) → ((call : NodeCall) → P call) → (calls : List NodeCall) → AllByRecursion P calls
for_all P each [] = tt
for_all P each (first ∷ calls) = (each first, for_all P each calls)

-- of the node's own calls the moves are there
own_stay : (node : ℕ) (call : NodeCall) → eqb call.node node ≡ true → stays node call ≡ is_move call.kind
own_stay node call e = ap (λ b. not (b && not (is_move call.kind))) e ∙ twice (is_move call.kind)
  where
    twice : (b : Bool) → not (true && not b) ≡ b
    twice true = refl
    twice false = refl

-- and all of other nodes
gone_own : (node : ℕ) (call : NodeCall) → stays node call ≡ false → call.node ≡ node
gone_own node call e = go (eqb call.node node) refl e
  where
    go : (b : Bool) → eqb call.node node ≡ b → not (b && not (is_move call.kind)) ≡ false → call.node ≡ node
    go true t is = eqb-true call.node node t
    go false t is = absurd (cc)

other_stay : (node other : ℕ) → (other ≡ node → ⊥) → (calls : List NodeCall) →
    calls_of other (after_restart node calls) ≡ calls_of other calls
other_stay node other apart calls =
    filter_within (λ c. eqb c.node other) (stays node) calls
    (for_all (λ (c : NodeCall). stays node c ≡ false → eqb c.node other ≡ false)
    (λ c gone. differs c.node other (λ same. apart (sym same ∙ gone_own node c gone))) calls)

module _ (fragment : Code) (world : World) (before after : LocalObject)
    (formed : IsWellFormed fragment world) (part : IsPartOf world before)
    (is : IsKeptHere (before.node ≡ (world.files before.node).mover) before after) where
  abbrev restarted_to : World
  restarted_to =
      changed_world world (after_restart before.node world.calls) world.sent world.history (suc world.now)

  -- what the node knows by its number before
  at_node : (q : ℕ) (layout : Layout) → slice_get (known_layouts world after.node) q ≡ Some layout →
      slice_get (known_layouts world before.node) q ≡ Some layout
  at_node q layout at = ap (λ n. slice_get (known_layouts world n) q) (sym is.node) ∙ at

  moves_before : after.node ≡ (world.files after.node).mover → before.node ≡ (world.files before.node).mover
  moves_before moves = sym is.node ∙ moves ∙ ap (λ n. (world.files n).mover) is.node

  -- the banks that layouts give to the node are as they were, and of a position of which it has not heard they are not
  -- opened yet
  own_bank : (q member : ℕ) (layout : Layout) → slice_get (known_layouts world before.node) q ≡ Some layout →
      slice_get layout.members member ≡ Some before.node → bank_here after q member ≡ bank_here before q member
  own_bank q member layout at holds = go (layout_here before q) refl (layout_here after q) refl
    where
      go : (o : Option Layout) → layout_here before q ≡ o → (p : Option Layout) → layout_here after q ≡ p →
          bank_here after q member ≡ bank_here before q member
      go None e None f =
          ap (λ b. bank_or_opened b member after.delta) (no_bank_here after q f)
          ∙ ap (bank_or_opened None member) is.delta
          ∙ ap (λ b. bank_or_opened b member before.delta) (sym (no_bank_here before q e))
      go None e (Some known) f = absurd (let wrong : None ≡ Some known = sym e ∙ is.layouts q known f in cc)
      go (Some known) e p f =
          is.banks q member known e
          (ap (λ (l : Layout). slice_get l.members member) (same_Some known layout (sym (part.layouts q known e) ∙ at)) ∙ holds)

  before_start : (position start was : ℕ) → position < start → start ≤ was → position < was
  before_start position start was less more = omega (arith, less, more)

  restarted_part : IsPartOf restarted_to after
  restarted_part = record {
    delta = is.delta ∙ part.delta ∙ ap (λ n. (world.files n).delta) (sym is.node);
    start = λ position less.
        start_still world (after_restart before.node world.calls) world.sent world.history (suc world.now) before.start part.start
        position (before_start position after.start before.start less is.start);
    layouts = λ q layout e.
        ap (λ n. slice_get (known_layouts world n) q) is.node ∙ part.layouts q layout (is.layouts q layout e);
    first = is.first;
    banks = λ q member layout at holds.
        kept_as refl (sym (own_bank q member layout (at_node q layout at) (holds ∙ ap Some is.node)))
        (part.banks q member layout (at_node q layout at) (holds ∙ ap Some is.node));
    calls = is.calls ∙ ap (filter (λ (c : NodeCall). is_move c.kind)) part.calls
        ∙ sym (filter_swap (λ c. eqb c.node before.node) (stays before.node) (λ c. is_move c.kind) (own_stay before.node) world.calls)
        ∙ ap (λ n. calls_of n (after_restart before.node world.calls)) (sym is.node);
    mover = λ moves q layout at.
        is.mover (moves_before moves) q layout (part.mover (moves_before moves) q layout (at_node q layout at));
  }

  restarted_kept : IsKept fragment world restarted_to (silent after) 1 world.history
  restarted_kept =
      let calls = after_restart before.node world.calls in record {
        formed = formed_still world calls world.sent world.history (suc world.now) fragment formed
            (distinct_filter (stays before.node) world.calls formed.ids)
            (all_filter (HasEntry world.history) (stays before.node) world.calls formed.entries)
            (all_filter (HasAsked fragment restarted_to) (stays before.node) world.calls
            (all_weaker (HasAsked fragment world) (HasAsked fragment restarted_to)
            (asked_still world calls world.sent world.history (suc world.now) fragment (λ message was. was)) world.calls formed.asked));
        part = restarted_part;
        sent = tt;
        others = λ other apart there. part_still world calls world.sent world.history (suc world.now) other there
            (other_stay before.node other.node (λ same. apart (same ∙ sym is.node)) world.calls);
        kept = sent_still world calls world.sent world.history (suc world.now) (λ message was. was);
        files = refl;
        now = omega arith;
        entries = refl;
      }

pub restarts_refined : RestartsAreWorldEvents
restarts_refined fragment world before after formed part is =
    refined fragment world (restart_event world before.node ∷ []) (restarted_to fragment world before after formed part is) (silent after)
    (silent after) world.history refl refl (tt, record { network = tt; log = (refl, refl); ids = tt }, tt)
    (restarted_kept fragment world before after formed part is)
