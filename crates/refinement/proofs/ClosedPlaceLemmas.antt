-- A node closes a bank.
use Rattle.std.proofs.Common.{◌≡◌, ℕ, Bool, true, false, eqb, eqb-true, eq-eqb, [], Option, Some, IsSome, slice_get, refl, sym}
use Rattle.std.proofs.Common.{subst, ap, ◌∙◌}
use Rattle.layout.specs.Layout.{Layout}
use Rattle.network.specs.Worlds.{World, known_layouts, member_bank}
use Rattle.local_object.specs.declared.kept_bank.KeptBank.{KeptBank}
use Rattle.local_object.specs.Events.{LocalEvent, closed_here}
use Rattle.local_object.specs.Outcomes.{silent}
use Rattle.local_object.specs.KeptBanks.{after_closing, closing}
use Rattle.local_object.specs.Local.{LocalObject, bank_here, bank_in, heard_place}
use Rattle.local_object.proofs.HeardPlaceLemmas.{bank_with_here, bank_with_there, layout_with}
use Rattle.local_object.proofs.PlaceLemmas.{layout_known}
use Rattle.refinement.specs.Laws.{IsPlainEventOfWorld}
use Rattle.refinement.specs.Parts.{IsKeptOf, IsPartOf}
use Rattle.refinement.proofs.KeptBankLemmas.{closing_known, kept_as, kept_closed}
use Rattle.refinement.proofs.PartLemmas.{refined}
use Rattle.refinement.proofs.TakenLetterLemmas.{still_kept}

module _ (world : World) (local : LocalObject) (part : IsPartOf world local) (position : ℕ)
    (can : IsSome (closing (bank_in (heard_place local.places position)))) where
  abbrev after : Option KeptBank
  after = after_closing (bank_in (heard_place local.places position))

  own_bank : (q member : ℕ) (layout : Layout) → slice_get (known_layouts world local.node) q ≡ Some layout →
      slice_get layout.members member ≡ Some local.node →
      IsKeptOf (member_bank world q member) (bank_here (closed_here local position) q member)
  own_bank q member layout at is = go (eqb q position) refl
    where
      here : q ≡ position → IsKeptOf (member_bank world q member) (bank_here (closed_here local position) q member)
      here same =
          kept_as refl
          (sym (bank_with_here local position after member
          (layout_known (heard_place local.places position) (closing_known (heard_place local.places position) can)))
          ∙ ap (λ n. bank_here (closed_here local position) n member) (sym same))
          (kept_closed (member_bank world q member) (bank_in (heard_place local.places position)) member local.delta can
          (kept_as refl (ap (λ n. bank_here local n member) same) (part.banks q member layout at is)))

      go : (b : Bool) → eqb q position ≡ b → IsKeptOf (member_bank world q member) (bank_here (closed_here local position) q member)
      go true e = here (eqb-true q position e)
      go false e =
          kept_as refl
          (sym (bank_with_there local position after q member
          (λ same. absurd (let wrong : false ≡ true = sym e ∙ eq-eqb q position (sym same) in cc))))
          (part.banks q member layout at is)

  pub closed_part : IsPartOf world (closed_here local position)
  closed_part = record {
    delta = part.delta;
    start = part.start;
    layouts = λ q layout e. part.layouts q layout (sym (layout_with local position after q) ∙ e);
    first = subst IsSome (sym (layout_with local position after 0)) part.first;
    banks = own_bank;
    calls = part.calls;
    mover = λ moves q layout at. layout_with local position after q ∙ part.mover moves q layout at;
  }

pub close_refined : (position : ℕ) → IsPlainEventOfWorld (LocalEvent.Close position)
close_refined position fragment world local formed part may premised =
    let after = silent (closed_here local position) in
    refined fragment world [] world after after world.history refl refl tt
    (still_kept fragment world (closed_here local position) formed (closed_part world local part position may))
