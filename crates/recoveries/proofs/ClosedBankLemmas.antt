-- A node and its copy close a bank.
use Rattle.std.proofs.Common.{cond, eqb, ℕ, IsSome, sym, subst, ap, ◌∙◌}
use Rattle.encoder.specs.Fragment.{fragment}
use Rattle.local_object.specs.declared.kept_bank.KeptBank.{KeptBank}
use Rattle.local_object.specs.Doing.{close_events}
use Rattle.local_object.specs.Events.{all_done, closed_here}
use Rattle.local_object.specs.KeptBanks.{after_closing}
use Rattle.local_object.specs.Local.{LocalObject, bank_in, heard_place}
use Rattle.local_object.proofs.ClosingLemmas.{bank_closed, close_is, left_of}
use Rattle.local_object.proofs.HeardPlaceLemmas.{layout_with}
use Rattle.recoveries.proofs.KeptCallLemmas.{IsObjectCopy}

module _ (moves : Type 0) (local copy : LocalObject) (is : IsObjectCopy moves local copy) (p : ℕ) where
  closed_copy : IsObjectCopy moves (closed_here local p) (closed_here copy p)
  closed_copy =
      let kept = is.kept in
      let own = after_closing (bank_in (heard_place local.places p)) in
      let other = after_closing (bank_in (heard_place copy.places p)) in record {
        kept = record {
          node = kept.node;
          delta = kept.delta;
          start = kept.start;
          layouts = λ q layout e. layout_with local p own q ∙ kept.layouts q layout (sym (layout_with copy p other q) ∙ e);
          first = subst IsSome (sym (layout_with copy p other 0)) kept.first;
          banks = λ q member layout at holds.
              bank_closed copy p q member
              ∙ ap (λ (b : KeptBank). cond (eqb p q) (left_of b) b)
              (kept.banks q member layout (sym (layout_with local p own q) ∙ at) holds)
              ∙ sym (bank_closed local p q member);
          reports = kept.reports;
          calls = kept.calls;
          mover = λ here q layout e. layout_with copy p other q ∙ kept.mover here q layout (sym (layout_with local p own q) ∙ e);
        };
        distinct = is.distinct;
        mover = is.mover;
      }

  pub both_close : IsObjectCopy moves
      (all_done fragment local (close_events local p)).local (all_done fragment copy (close_events copy p)).local
  both_close =
      subst (λ (l : LocalObject). IsObjectCopy moves l (all_done fragment copy (close_events copy p)).local) (sym (close_is local p))
      (subst (λ (l : LocalObject). IsObjectCopy moves (closed_here local p) l) (sym (close_is copy p)) closed_copy)
