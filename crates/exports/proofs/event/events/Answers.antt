use Rattle.std.proofs.Common.{List, ap, subst, ◌∙◌, rules}
use Rattle.std.specs.List.{flat_map, zip}
use Rattle.std.specs.List.Sorted.{IsPermutation}
use Rattle.std.proofs.lemmas.List.Sorted.{IsNonDecreasingBy-from_sort_by_key}
use Rattle.exports.specs.declared.event.Event.{Event}
use Rattle.exports.specs.declared.event.Process.{Process}
use Rattle.exports.specs.Event.{ends_of}
use Rattle.exports.proofs.event.events.Goals as goal

pub returns : goal.returns
returns c =
    let entries = c.args.entries.now in
    let sorted = c.sort_by_key.new.self.items in
    let made = c.in_ok-events.ensures ∙ ap (λ (ps : List Process). flat_map (ends_of c.args.end) (zip entries ps)) c.deref.ensures.value in
    record {
      processes = c.in_ok-processes.processes.items;
      apart = c.in_ok-processes.ensures;
      each_once = subst (λ (es : List Event). IsPermutation es sorted) made c.sort_by_key.ensures.permutation;
      in_order = IsNonDecreasingBy-from_sort_by_key (λ (event : Event). event.step) sorted c.in_ok-sort_by_key.ensures.sorted
          (λ a r f' called. search rules);
    }
