-- The records of a log that is written anew record what the node keeps.
use Rattle.std.proofs.Common.{◌≡◌, ℕ, Bool, true, false, List, Option, refl, sym, subst, ap, ◌∙◌, arith}
use Rattle.local_object.specs.Local.{LocalObject, new_local}
use Rattle.deeds.specs.Kept.{KeptNode, new_node}
use Rattle.local_object.specs.Restarts.{IsKeptHere}
use Rattle.object_letters.specs.Closing.{after_closing_all}
use Rattle.object_letters.specs.Hearing.{after_places}
use Rattle.object_letters.specs.Letters.{after_letters, letters_as, letters_to}
use Rattle.object_letters.proofs.HearingLemmas.{heard_blank}
use Rattle.object_letters.proofs.LeadableLemmas.{have_next, not_moving}
use Rattle.object_letters.proofs.ClosedCopyLemmas.{letters_lead}
use Rattle.recoveries.specs.RewrittenLaws.{RewrittenLogsRecord}
use Rattle.recoveries.specs.RewrittenRecords.{epoch_records, is_among, object_records}
use Rattle.recoveries.specs.RewritingNodes.{AreHeardNames, CanBeWrittenAnew, HasOwnObjects}
use Rattle.recoveries.proofs.ServedNameLemmas.{all_rebuilt, all_started, parted, rebuilt}

module _ (node : KeptNode) (names : List (List ℕ)) (heard : AreHeardNames node names) (able : CanBeWrittenAnew node)
    (objects_own : HasOwnObjects node) where
  -- the object of a name of which no node has heard
  abbrev new_object : List ℕ → LocalObject
  new_object name = new_local node.ids.node node.file.delta (node.file.first name)

  -- a new object that hears of the positions of an object, serves the letters to its banks, and closes those that the
  -- object has closed, is led back
  led : (name : List ℕ) → IsKeptHere (node.ids.node ≡ node.file.mover) (node.objects name)
      (rebuilt node.ids.node (node.objects name) (new_object name))
  led name =
      let local = node.objects name in
      let moves = node.ids.node ≡ node.file.mover in
      let own = objects_own name in
      let new : new_local local.node local.delta (node.file.first name) ≡ new_object name =
      ap (λ (n : ℕ). new_local n local.delta (node.file.first name)) own.node
      ∙ ap (λ (d : Option ℕ). new_local node.ids.node d (node.file.first name)) own.limit in
      subst (λ (n : ℕ). IsKeptHere moves local
      (after_closing_all (after_letters (after_places (new_object name) local.places) (letters_as n local)) local.places)) own.node
      (subst (λ (copy : LocalObject). IsKeptHere moves local
      (after_closing_all (after_letters (after_places copy local.places) (letters_to local)) local.places)) new
      (letters_lead moves local (after_places (new_local local.node local.delta (node.file.first name)) local.places)
      own.rebuildable (have_next local (able name))
      (heard_blank moves local (node.file.first name) own.first (not_moving local (able name)) own.rebuildable)))

  -- the object of a name of which the node has not heard is the new one, which has no records
  unheard : (name : List ℕ) → is_among names name ≡ false
      → new_object name ≡ rebuilt node.ids.node (node.objects name) (new_object name)
  unheard name none = sym (ap (λ (l : LocalObject). rebuilt node.ids.node l (new_object name)) (heard.others name none))

  -- so the copy of each object is led back
  objects_led : (copy : KeptNode)
      → ((name : List ℕ) → is_among names name ≡ false → copy.objects name ≡ new_object name)
      → ((name : List ℕ) → is_among names name ≡ true
      → copy.objects name ≡ rebuilt node.ids.node (node.objects name) (new_object name))
      → (name : List ℕ) (b : Bool) → is_among names name ≡ b
      → IsKeptHere (node.ids.node ≡ node.file.mover) (node.objects name) (copy.objects name)
  objects_led copy others own name true e =
      subst (IsKeptHere (node.ids.node ≡ node.file.mover) (node.objects name)) (sym (own name e)) (led name)
  objects_led copy others own name false e =
      subst (IsKeptHere (node.ids.node ≡ node.file.mover) (node.objects name)) (sym (others name e ∙ unheard name e)) (led name)

-- the records record what the node keeps
pub rewritten_record : RewrittenLogsRecord
rewritten_record node names heard able own calls copy recovers =
    let first = new_node node.file node.ids.node in
    let parts = parted (epoch_records node.ids.epoch) (object_records node names) first copy recovers in
    let started = all_started node.ids.epoch first parts.0 parts.1 in
    let made = all_rebuilt node names heard.distinct parts.0 copy parts.2 in record {
      file = made.file ∙ started.file;
      number = made.number ∙ started.node;
      epoch = let all = made.epoch in let count = started.epoch in omega (arith, all, count);
      objects = λ name. objects_led node names heard able own copy
          (λ other none. made.others other none ∙ started.objects other)
          (λ other there. made.own other there
          ∙ ap (rebuilt node.ids.node (node.objects other)) (started.objects other))
          name (is_among names name) refl;
      distinct = calls;
      mover = λ name moving. absurd (let wrong : false ≡ true =
          sym (not_moving (node.objects name) (able name)) ∙ moving in cc);
    }
