-- What a node keeps stays its part of the world where it hears of positions and of starts.
use Rattle.std.proofs.Common.{◌≡◌, ℕ, suc, ◌⊎◌, inl, inr, Bool, true, false, cond, Option, Some, None, is_some}
use Rattle.std.proofs.Common.{refl, sym, ap, ◌∙◌, slice_get}
use Rattle.layout.specs.Layout.{Layout}
use Rattle.network.specs.Worlds.{World, known_layouts}
use Rattle.network.specs.Premises.{IsOneFile}
use Rattle.network.proofs.OneFileLemmas.{layouts_known}
use Rattle.starts.specs.Starts.{IsStart}
use Rattle.letter.specs.declared.letter.Letter.{Letter}
use Rattle.letter.specs.declared.start.Start.{Start}
use Rattle.local_object.specs.Local.{LocalObject, heard_start, heard_start_if, is_later_start, layout_here, learnt_if, with_heard}
use Rattle.local_object.specs.Outcomes.{layouts_learnt, learnt_from}
use Rattle.refinement.specs.Parts.{IsPartOf, IsStartOf, WasSentAs}
use Rattle.refinement.proofs.KeptBankLemmas.{kept_as}
use Rattle.local_object.proofs.HeardPlaceLemmas.{bank_learnt, layout_learnt, layout_stays}

-- the layouts that a node knows are those that node 0 knows
pub known_to_all : (world : World) → IsOneFile world.files → (node position : ℕ) (layout : Layout) →
    slice_get (known_layouts world 0) position ≡ Some layout → slice_get (known_layouts world node) position ≡ Some layout
known_to_all world one node position layout e = ap (λ l. slice_get l position) (sym (layouts_known world one node)) ∙ e

pub known_by_all : (world : World) → IsOneFile world.files → (node position : ℕ) (layout : Layout) →
    slice_get (known_layouts world node) position ≡ Some layout → slice_get (known_layouts world 0) position ≡ Some layout
known_by_all world one node position layout e = ap (λ l. slice_get l position) (layouts_known world one node) ∙ e

pub part_learnt : (world : World) (local : LocalObject) (position : ℕ) (layout : Layout) → IsPartOf world local →
    slice_get (known_layouts world local.node) position ≡ Some layout → IsPartOf world (with_heard local position layout)
part_learnt world local position layout part at = record {
  delta = part.delta;
  start = part.start;
  layouts = λ q other e. go q other (layout_learnt local position layout q other e);
  first = first_still (layout_here local 0) refl part.first;
  banks = λ q member other there is.
      kept_as refl (sym (bank_learnt local position layout q member)) (part.banks q member other there is);
  calls = part.calls;
  mover = λ moves q other there. layout_stays local position layout q other (part.mover moves q other there);
}
  where
    go : (q : ℕ) (other : Layout) → (layout_here local q ≡ Some other) ⊎ ((position ≡ q) × (layout ≡ other)) →
        slice_get (known_layouts world local.node) q ≡ Some other
    go q other (inl known) = part.layouts q other known
    go q other (inr new) = ap (slice_get (known_layouts world local.node)) (sym new.0) ∙ at ∙ ap Some new.1

    first_still : (o : Option Layout) → layout_here local 0 ≡ o → is_some o ≡ true →
        is_some (layout_here (with_heard local position layout) 0) ≡ true
    first_still None e some = absurd (cc)
    first_still (Some other) e some = ap is_some (layout_stays local position layout 0 other e)

pub part_learnt_if : (world : World) (local : LocalObject) (position : ℕ) (o : Option Layout) → IsPartOf world local →
    ((layout : Layout) → o ≡ Some layout → slice_get (known_layouts world local.node) position ≡ Some layout) →
    IsPartOf world (learnt_if local position o)
part_learnt_if world local position None part at = part
part_learnt_if world local position (Some layout) part at = part_learnt world local position layout part (at layout refl)

-- what is part of a world is so with another start of it
pub part_at : (world : World) (local : LocalObject) (start : ℕ) → IsPartOf world local → IsStart world start →
    IsPartOf world (record local { start = start })
part_at world local start part starts = record {
  delta = part.delta;
  start = starts;
  layouts = part.layouts;
  first = part.first;
  banks = part.banks;
  calls = part.calls;
  mover = part.mover;
}

part_heard : (world : World) (local : LocalObject) (start : Start) → IsOneFile world.files → IsPartOf world local →
    IsStartOf world start → IsPartOf world (heard_start local start)
part_heard world local start one part is =
    let later = is_later_start local start in
    part_at world (with_heard local start.position start.layout) (cond later start.position local.start)
    (part_learnt world local start.position start.layout part (known_to_all world one local.node start.position start.layout is.layout))
    (go later)
  where
    go : (later : Bool) → IsStart world (cond later start.position local.start)
    go true = is.starts
    go false = part.start

part_heard_if : (world : World) (local : LocalObject) (o : Option Start) → IsOneFile world.files → IsPartOf world local →
    ((start : Start) → o ≡ Some start → IsStartOf world start) → IsPartOf world (heard_start_if local o)
part_heard_if world local None one part is = part
part_heard_if world local (Some start) one part is = part_heard world local start one part (is start refl)

-- what the node keeps after it hears of a letter that was sent is its part
pub part_learnt_from : (world : World) (local : LocalObject) (letter : Letter) → IsOneFile world.files → IsPartOf world local →
    WasSentAs world letter → IsPartOf world (learnt_from local letter)
part_learnt_from world local letter one part was =
    part_heard_if world (layouts_learnt local letter) letter.start one
    (part_learnt_if world (with_heard local letter.message.position letter.layout) (suc letter.message.position) letter.next
    (part_learnt world local letter.message.position letter.layout part
    (known_to_all world one local.node letter.message.position letter.layout was.layout))
    (λ layout e. known_to_all world one local.node (suc letter.message.position) layout (was.next layout e))) was.start
