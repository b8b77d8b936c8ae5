-- Whether the call with an id ends early, and what comes of it.
use Rattle.std.proofs.Common.{◌≡◌, ℕ, List, [], ◌∷◌, Option, Some, None, slice_get, MatchOption, refl, sym, subst, ap, ◌∙◌}
use Rattle.std.specs.Option.{option_to_list}
use Rattle.std.proofs.lemmas.Option.{none-some, same_Some}
use Rattle.layout.specs.Layout.{Layout}
use Rattle.call.specs.Call.{OpenCall as Machine}
use Rattle.open_calls.specs.OpenCalls.{NodeCall, open_call}
use Rattle.local_object.specs.declared.progress.Ended.{Ended}
use Rattle.local_object.specs.declared.report.Report.{Report}
use Rattle.local_object.specs.Codes.{at_node, carried}
use Rattle.local_object.specs.Distinct.{HaveDistinctIds, HaveOtherIds, IsCallAt}
use Rattle.local_object.specs.EarlyEnds.{CanEndEarly, EndedIf, EndsEarlyWith}
use Rattle.local_object.specs.Ended.{told_early_if}
use Rattle.local_object.specs.Events.{LocalEvent, ended_here}
use Rattle.local_object.specs.Local.{LocalObject, Place, heard_place, layout_in}
use Rattle.local_object.specs.Taking.{machine_of}
use Rattle.local_object.proofs.CarriedCallLemmas.{open_none}
use Rattle.local_object.proofs.DoneLemmas.{by_one}
use Rattle.local_object.proofs.EarlyEndLemmas.{may_end_early}
use Rattle.local_object.proofs.FetchedLemmas.{match_weaker}
use Rattle.local_object.proofs.OpenLemmas.{object, open_is}

module _ (node : ℕ) (delta : Option ℕ) (start : ℕ) (reports : List Report) (places : List Place) where
  pub none_to_end : (calls : List Machine) (id : ℕ) → HaveOtherIds id calls → (returned : Option (List ℕ)) →
      CanEndEarly (object node delta start reports places calls) id returned → ⊥
  none_to_end calls id others returned can =
      let e : None ≡ Some can.call = sym (open_none node calls id others) ∙ can.carried in none-some can.call e

  module _ {calls : List Machine} {id index : ℕ} (distinct : HaveDistinctIds calls) (at : IsCallAt calls id index) (call : Machine)
      (there : slice_get calls index ≡ Some call) where
    abbrev here : LocalObject
    here = object node delta start reports places calls

    carries : open_call (carried node calls) id ≡ Some (at_node node call)
    carries = open_is node delta start reports places distinct at call there

    call_is : (returned : Option (List ℕ)) (can : CanEndEarly here id returned) → at_node node call ≡ can.call
    call_is returned can = same_Some (at_node node call) can.call (sym carries ∙ can.carried)

    pub unknown_to_end : layout_in (heard_place places call.phase.position) ≡ None → (returned : Option (List ℕ)) →
        CanEndEarly here id returned → ⊥
    unknown_to_end none returned can =
        let e : None ≡ Some can.layout =
        sym none ∙ ap (λ (c : NodeCall). layout_in (heard_place places c.phase.position)) (call_is returned can) ∙ can.known in
        none-some can.layout e

    module _ (layout : Layout) (known : layout_in (heard_place places call.phase.position) ≡ Some layout) where
      can_end : (returned : Option (List ℕ)) → EndsEarlyWith places call layout reports returned → CanEndEarly here id returned
      can_end returned ends =
          record { call = at_node node call; carried = carries; layout = layout; known = known; ends = ends }

      ends_with : (returned : Option (List ℕ)) → CanEndEarly here id returned → EndsEarlyWith places call layout reports returned
      ends_with returned can =
          let called = call_is returned can in
          let laid : can.layout ≡ layout =
          same_Some can.layout layout (sym can.known ∙ ap (λ (c : NodeCall). layout_in (heard_place places c.phase.position)) (sym called)
          ∙ known) in
          subst (λ (l : Layout). EndsEarlyWith places call l reports returned) laid
          (subst (λ (c : NodeCall). EndsEarlyWith places (machine_of c) can.layout reports returned) (sym called) can.ends)

      pub early_is : (value : Option (Option (List ℕ))) →
          MatchOption value ((r : Option (List ℕ)) → EndsEarlyWith places call layout reports r → ⊥)
          (EndsEarlyWith places call layout reports) →
          MatchOption value ((r : Option (List ℕ)) → CanEndEarly here id r → ⊥) (CanEndEarly here id)
      early_is value is = match_weaker value (λ none r can. none r (ends_with r can)) can_end is

-- the call ended early
module _ (old : LocalObject) (id : ℕ) (returned : Option (List ℕ)) (can : CanEndEarly old id returned) (new : LocalObject)
    (local : new ≡ ended_here old id) where
  pub ended_if : (ended : Option Ended) → option_to_list ended ≡ told_early_if (open_call old.calls id) returned →
      EndedIf old id new ended
  ended_if None told = absurd (let wrong = told ∙ ap (λ o. told_early_if o returned) can.carried in cc)
  ended_if (Some ended) told = (
    returned,
    can,
    by_one old (LocalEvent.EndEarly id returned) new [] (ended ∷ []) (may_end_early old id returned can) local refl told,
  )
