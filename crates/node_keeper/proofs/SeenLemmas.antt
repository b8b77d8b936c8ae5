-- What clients see, and are sent, of letters that come and of calls that begin.
use Rattle.std.proofs.Common.{◌≡◌, inl, inr, ℕ, Bool, true, false, not, List, [], ◌∷◌, ◌++◌, Option, None, Some}
use Rattle.std.proofs.Common.{refl, sym, subst, ap, ◌∙◌}
use Rattle.std.proofs.lemmas.List.{append-nil, append_assoc}
use Rattle.deeds.specs.CallId.{CallIds}
use Rattle.local_object.specs.Passed.{passed_positions}
use Rattle.local_object.specs.declared.progress.Ended.{Ended}
use Rattle.mail.specs.Message.{is_request}
use Rattle.node_effects.specs.Seen.{named_of}
use Rattle.node_effects.specs.Work.{Growth, IsGrown}
use Rattle.letter.specs.declared.letter.NamedLetter.{NamedLetter}
use Rattle.node_effects.specs.declared.notice.Notice.{Notice}
use Rattle.node_effects.specs.declared.work.Work.{Work}
use Rattle.node_keeper.specs.Acts.{ClientsSee, GivesId}
use Rattle.node_keeper.specs.Beginning.{BeginsCall, Beginning, seen_of_begun}
use Rattle.node_keeper.specs.Closing.{PassesBanks}
use Rattle.node_keeper.specs.Declining.{declines}
use Rattle.node_keeper.specs.Delivering.{DeliversAs, DeliversLetter, HandlesAs, delivered_of, notices_of, served_as, told_by, was_dropped}
use Rattle.node_keeper.specs.Keeping.{heeds, kept_of}
use Rattle.node_keeper.specs.Objects.{objects_of}
use Rattle.node_keeper.specs.declared.delivered.Begun.{Begun}
use Rattle.node_keeper.specs.declared.delivered.Begun.TheVariants as begun
use Rattle.node_keeper.specs.declared.delivered.Delivered.{Delivered}
use Rattle.node_keeper.specs.declared.keeper.Keeper.{Keeper}

-- what clients see

pub sees_then : (a b c : Work) (first second : List Notice) → ClientsSee a b first → ClientsSee b c second →
    ClientsSee a c (first ++ second)
sees_then a b c first second f s = s ∙ ap (λ xs. xs ++ second) f ∙ append_assoc a.notices.items first second

id_unseen : (old : CallIds) (id : ℕ) (new : CallIds) (a b : Work) → GivesId old id new a b → ClientsSee a b []
id_unseen old id new a b (inl g) = g.2.notices
id_unseen old id new a b (inr g) = g.3.notices

pub begins_seen : (call : Beginning) (old new : Keeper) (before after : Work) (result : Begun) →
    BeginsCall call old before new after result → ClientsSee before after (seen_of_begun call.notice result)
begins_seen call old new before after (begun.Open id) is =
    sees_then before is.given after [] (call.notice id ∷ []) (id_unseen old.ids id new.ids before is.given is.gives) is.grown.notices
begins_seen call old new before after (begun.Refused refusal) is = id_unseen old.ids is.id new.ids before after is.gives

told_delivered : (name : List ℕ) (ended : Option Ended) → told_by name (delivered_of ended) ≡ notices_of name ended
told_delivered name None = refl
told_delivered name (Some ended) = refl

told_served : (name : List ℕ) (declined : Bool) → told_by name (served_as declined) ≡ []
told_served name false = refl
told_served name true = refl

never_dropped : (ended : Option Ended) → was_dropped (delivered_of ended) ≡ false
never_dropped None = refl
never_dropped (Some ended) = refl

served_kept : (declined : Bool) → was_dropped (served_as declined) ≡ false
served_kept false = refl
served_kept true = refl

-- clients see nothing where the node closes banks
passed_unseen : (name : List ℕ) (positions : List ℕ) (old new : Keeper) (before after : Work) →
    PassesBanks name positions old before new after → ClientsSee before after []
passed_unseen name [] old new before after is = is.1.notices
passed_unseen name (position ∷ positions) old new before after (middle, between, is, rest) =
    sees_then before between after [] [] (sees_then before is.between between [] [] is.raises.grown.notices is.closes.grown.notices)
    (passed_unseen name positions middle new between after rest)

module _ (asker : ℕ) (it : NamedLetter) (old new : Keeper) (before after : Work) (result : Delivered) where
  handled_seen : (asks : Bool) → HandlesAs asks asker it old before new after result →
      ClientsSee before after (told_by it.name result)
  handled_seen true is =
      subst (λ r. ClientsSee before after (told_by it.name r)) (sym is.0)
      (subst (λ ns. ClientsSee before after ns) (sym (told_served it.name (declines (objects_of old.objects it.name) it.letter)))
      is.1.grown.notices)
  handled_seen false is =
      subst (λ r. ClientsSee before after (told_by it.name r)) (sym is.1)
      (subst (λ ns. ClientsSee before after ns) (sym (told_delivered it.name is.0)) is.2.grown.notices)

  handled_kept : (asks : Bool) → HandlesAs asks asker it old before new after result → was_dropped result ≡ false
  handled_kept true is = ap was_dropped is.0 ∙ served_kept (declines (objects_of old.objects it.name) it.letter)
  handled_kept false is = ap was_dropped is.1 ∙ never_dropped is.0

module _ (asker : ℕ) (it : NamedLetter) (old new : Keeper) (before after : Work) (result : Delivered) where
  seen_by : (heeded asks : Bool) → DeliversAs heeded asks asker it old before new after result →
      ClientsSee before after (told_by it.name result)
  seen_by false asks is = subst (λ r. ClientsSee before after (told_by it.name r)) (sym is.0) is.2.notices
  seen_by true asks is =
      passed_unseen it.name (passed_positions (objects_of is.middle.objects it.name)) is.middle new is.between after is.closes
      ∙ append-nil is.between.notices.items ∙ handled_seen asker it old is.middle before is.between result asks is.handles

  pub delivers_seen : DeliversLetter asker it old before new after result → ClientsSee before after (told_by it.name result)
  delivers_seen is = seen_by (heeds (kept_of old) (named_of it)) (is_request it.letter.message.body) is

  dropped_by : (heeded asks : Bool) → DeliversAs heeded asks asker it old before new after result →
      was_dropped result ≡ not heeded
  dropped_by false asks is = ap was_dropped is.0
  dropped_by true asks is = handled_kept asker it old is.middle before is.between result asks is.handles

  pub delivers_dropped : DeliversLetter asker it old before new after result →
      was_dropped result ≡ not (heeds (kept_of old) (named_of it))
  delivers_dropped is = dropped_by (heeds (kept_of old) (named_of it)) (is_request it.letter.message.body) is

-- what clients are sent, and which connections are due

-- nothing goes to clients, and no connection becomes due
pub record LeavesClients (before after : Work) : Type 0 where
  pub to_clients : after.to_clients.items ≡ before.to_clients.items
  pub due : after.due.items ≡ before.due.items

grown_leaves : (before after : Work) (growth : Growth) → IsGrown before after growth → growth.to_clients ≡ [] →
    growth.due ≡ [] → LeavesClients before after
grown_leaves before after growth grown clients due = record {
  to_clients = grown.to_clients ∙ ap (λ xs. before.to_clients.items ++ xs) clients ∙ append-nil before.to_clients.items;
  due = grown.due ∙ ap (λ xs. before.due.items ++ xs) due ∙ append-nil before.due.items;
}

id_leaves : (old : CallIds) (id : ℕ) (new : CallIds) (a b : Work) → GivesId old id new a b → LeavesClients a b
id_leaves old id new a b (inl g) = grown_leaves a b _ g.2 refl refl
id_leaves old id new a b (inr g) = grown_leaves a b _ g.3 refl refl

pub begins_leaves : (call : Beginning) (old new : Keeper) (before after : Work) (result : Begun) →
    BeginsCall call old before new after result → LeavesClients before after
begins_leaves call old new before after (begun.Open id) is =
    let first = id_leaves old.ids id new.ids before is.given is.gives in
    let second = grown_leaves is.given after _ is.grown refl refl in
    record { to_clients = second.to_clients ∙ first.to_clients; due = second.due ∙ first.due }
begins_leaves call old new before after (begun.Refused refusal) is = id_leaves old.ids is.id new.ids before after is.gives

leaves_then : (a b c : Work) → LeavesClients a b → LeavesClients b c → LeavesClients a c
leaves_then a b c first second = record {
  to_clients = second.to_clients ∙ first.to_clients;
  due = second.due ∙ first.due;
}

passed_leaves : (name : List ℕ) (positions : List ℕ) (old new : Keeper) (before after : Work) →
    PassesBanks name positions old before new after → LeavesClients before after
passed_leaves name [] old new before after is = grown_leaves before after _ is.1 refl refl
passed_leaves name (position ∷ positions) old new before after (middle, between, is, rest) =
    leaves_then before between after
    (leaves_then before is.between between (grown_leaves before is.between _ is.raises.grown refl refl)
    (grown_leaves is.between between _ is.closes.grown refl refl))
    (passed_leaves name positions middle new between after rest)

pub delivers_leaves : (asker : ℕ) (it : NamedLetter) (old new : Keeper) (before after : Work) (result : Delivered) →
    DeliversLetter asker it old before new after result → LeavesClients before after
delivers_leaves asker it old new before after result is =
    go (heeds (kept_of old) (named_of it)) (is_request it.letter.message.body) is
  where
    handled : (asks : Bool) (middle : Keeper) (between : Work) → HandlesAs asks asker it old before middle between result →
        LeavesClients before between
    handled true middle between by = grown_leaves before between _ by.1.grown refl refl
    handled false middle between by = grown_leaves before between _ by.2.grown refl refl

    go : (heeded asks : Bool) → DeliversAs heeded asks asker it old before new after result → LeavesClients before after
    go false asks by = grown_leaves before after _ by.2 refl refl
    go true asks by =
        leaves_then before by.between after (handled asks by.middle by.between by.handles)
        (passed_leaves it.name (passed_positions (objects_of by.middle.objects it.name)) by.middle new by.between after by.closes)
