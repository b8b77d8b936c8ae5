-- How a node starts.
use Rattle.std.proofs.Common.{◌≡◌, ◌<◌, ◌^◌, ℕ, suc, Bool, true, false, List, [], ◌∷◌, ◌++◌, None, nat_eq, refl, sym, ap, ◌∙◌}
use Rattle.std.proofs.lemmas.Bool.{false≢true}
use Rattle.std.proofs.lemmas.List.{map-append}
use Rattle.indexmap.specs.IndexMap.{get}
use Rattle.node_clients.specs.Connections.{has_next}
use Rattle.node_clients.specs.declared.connections.Connections.{Connections}
use Rattle.deeds.specs.CallId.{with_next_epoch}
use Rattle.recoveries.specs.Records.{IsStarted}
use Rattle.node_effects.specs.Work.{Growth, IsEmpty, IsGrown, OnlyLogs, entries_in, log_all, no_growth, one_entry}
use Rattle.node_effects.specs.declared.output.Output.TheVariants as output
use Rattle.node_effects.specs.declared.work.Work.{Work}
use Rattle.node_effects.proofs.GrowthLemmas.{entries_all}
use Rattle.node_clients.specs.Desk.{NoneWaits}
use Rattle.node_keeper.specs.Keeping.{kept_of}
use Rattle.node_keeper.specs.Logging.{start_entry}
use Rattle.node_keeper.specs.declared.keeper.Keeper.{Keeper}
use Rattle.node_keeper.proofs.DoneLemmas.{file_same}
use Rattle.node.specs.Starts.{cluster_entry, growth_unless}

pub started_of : (old new : Keeper) → suc old.ids.epoch < 2 ^ 24 → new.ids ≡ with_next_epoch old.ids →
    new.objects ≡ old.objects → new.file ≡ old.file → IsStarted (kept_of old) (kept_of new)
started_of old new more ids objects file = record {
  file = file_same old new file (record {
    number = λ i. (objects i).number;
    delta = λ i. (objects i).delta;
    placement = λ i. (objects i).placement;
  });
  more = more;
  ids = ids;
  objects = λ name. ap (λ os. (kept_of (record new { objects = os })).objects name) objects;
}

-- what there is to do as the node starts: the log gets these entries, and nothing else is to be done
pub record Starts (work : Work) (logged : List (List (List ℕ))) : Type 0 where
  pub only : OnlyLogs work
  pub entries : entries_in work.outputs.items ≡ logged

grown_from : {A : Type 0} (a b c x y : List A) → a ≡ [] → b ≡ a ++ x → c ≡ b ++ y → c ≡ x ++ y
grown_from a b c x y none first second = second ∙ ap (λ xs. xs ++ y) (first ∙ ap (λ xs. xs ++ x) none)

starts_by : (growth : Growth) (logged : List (List (List ℕ))) (a b c : Work) → growth.outputs ≡ log_all logged →
    growth.to_clients ≡ [] → growth.notices ≡ [] → growth.own ≡ [] → growth.due ≡ [] → IsEmpty a → IsGrown a b growth →
    IsGrown b c (one_entry start_entry) → Starts c (logged ++ start_entry ∷ [])
starts_by growth logged a b c outputs clients notices own due none first second =
    let all : c.outputs.items ≡ log_all (logged ++ start_entry ∷ []) =
    grown_from _ _ _ _ _ none.outputs first.outputs second.outputs
    ∙ ap (λ xs. xs ++ log_all (start_entry ∷ [])) outputs
    ∙ sym (map-append (λ (entry : List (List ℕ)). output.Log entry) logged (start_entry ∷ [])) in
    let entries : entries_in c.outputs.items ≡ logged ++ start_entry ∷ [] =
    ap entries_in all ∙ entries_all (logged ++ start_entry ∷ []) in record {
      only = record {
        outputs = all ∙ ap log_all (sym entries);
        to_clients = grown_from _ _ _ _ _ none.to_clients first.to_clients second.to_clients ∙ ap (λ xs. xs ++ []) clients;
        notices = grown_from _ _ _ _ _ none.notices first.notices second.notices ∙ ap (λ xs. xs ++ []) notices;
        own = grown_from _ _ _ _ _ none.own first.own second.own ∙ ap (λ xs. xs ++ []) own;
        due = grown_from _ _ _ _ _ none.due first.due second.due ∙ ap (λ xs. xs ++ []) due;
      };
      entries = entries;
    }

pub starts : (is_named : Bool) (digest : List ℕ) (number : ℕ) (a b c : Work) → IsEmpty a →
    IsGrown a b (growth_unless is_named digest number) → IsGrown b c (one_entry start_entry) →
    Starts c (entries_in (growth_unless is_named digest number).outputs ++ start_entry ∷ [])
starts true digest number a b c none first second =
    starts_by no_growth [] a b c refl refl refl refl refl none first second
starts false digest number a b c none first second =
    starts_by (one_entry (cluster_entry digest number)) (cluster_entry digest number ∷ []) a b c refl refl refl refl refl none
    first second

-- no command waits where there are no connections
pub none_wait : (clients : Connections) → clients.by_number.entries ≡ [] → NoneWaits clients []
none_wait clients empty client next =
    let none : get nat_eq clients.by_number client ≡ None = rw empty in
    absurd (false≢true (ap has_next (sym none) ∙ next))
