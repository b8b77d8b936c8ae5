-- A node changes one of its calls.
use Rattle.std.proofs.Common.{◌≡◌, ℕ, suc, eqb, eq-eqb, eqb-true, List, [], ◌∷◌, Some, refl, sym, ap, ◌∙◌, slice_get, arith}
use Rattle.std.specs.List.{AllByRecursion}
use Rattle.mail.specs.declared.message.Message.{Message}
use Rattle.soundness.proofs.ListLemmas.{all_weaker}
use Rattle.record.specs.Fragments.{Code}
use Rattle.network.specs.Worlds.{World}
use Rattle.open_calls.specs.OpenCalls.{NodeCall, open_call, with_open}
use Rattle.network.specs.Premises.{WasSent}
use Rattle.open_calls.proofs.OpenCallLemmas.{all_with, found}
use Rattle.letter.specs.declared.letter.Letter.{Letter}
use Rattle.local_object.specs.Local.{LocalObject}
use Rattle.refinement.specs.Parts.{IsPartOf, WasSentAs}
use Rattle.refinement.specs.WellFormed.{HasAsked, HasEntry, IsWellFormed}
use Rattle.open_calls.proofs.CallsOfNodeLemmas.{calls_of, differs, found_there, only_one, with_here, with_there}
use Rattle.open_calls.proofs.DistinctCallLemmas.{distinct_with}
use Rattle.refinement.proofs.CallEntryLemmas.{entry_of}
use Rattle.refinement.proofs.PartLemmas.{IsKept, asked_still, changed_world, formed_still, part_still, part_with, sent_still}

-- the call is open in the world, and the node carries it out
pub record IsCarried (world : World) (local : LocalObject) (id : ℕ) (call : NodeCall) : Type 0 where
  pub open_there : open_call world.calls id ≡ Some call
  pub node : call.node ≡ local.node
  pub same_id : call.id ≡ id

any_call : (calls : List NodeCall) → AllByRecursion (λ call. Unit {0}) calls
any_call [] = tt
any_call (first ∷ calls) = (tt, any_call calls)

pub carried : (fragment : Code) (world : World) (local : LocalObject) (id : ℕ) (call : NodeCall) →
    IsWellFormed fragment world → IsPartOf world local →
    open_call local.calls id ≡ Some call → IsCarried world local id call
carried fragment world local id call formed part e =
    let there = found_there (λ c. eqb c.node local.node) world.calls id call formed.ids
    (ap (λ calls. open_call calls id) (sym part.calls) ∙ e) in record {
      open_there = there.0;
      node = eqb-true call.node local.node there.1;
      same_id = (found (λ c. Unit {0}) world.calls id call (any_call world.calls) there.0).1;
    }

module _ (fragment : Code) (world : World) (local : LocalObject) (id : ℕ) (call new : NodeCall)
    (formed : IsWellFormed fragment world) (part : IsPartOf world local) (is : IsCarried world local id call)
    (same_id : new.id ≡ call.id) (same_node : new.node ≡ call.node) (same_kind : new.kind ≡ call.kind) where
  same_test : (node : ℕ) → AllByRecursion (λ other. other.id ≡ new.id → eqb other.node node ≡ eqb new.node node) world.calls
  same_test node =
      all_weaker (λ (other : NodeCall). other.id ≡ id → other ≡ call)
      (λ (other : NodeCall). other.id ≡ new.id → eqb other.node node ≡ eqb new.node node)
      (λ other one e. ap (λ (c : NodeCall). eqb c.node node) (one (e ∙ same_id ∙ is.same_id)) ∙ ap (λ n. eqb n node) (sym same_node))
      world.calls (only_one world.calls id call formed.ids is.open_there)

  own_calls : with_open new local.calls ≡ calls_of local.node (with_open new world.calls)
  own_calls =
      ap (with_open new) part.calls
      ∙ sym (with_here (λ c. eqb c.node local.node) new world.calls (eq-eqb new.node local.node (same_node ∙ is.node))
      (same_test local.node))

  other_calls : (node : ℕ) → (node ≡ local.node → ⊥) → calls_of node (with_open new world.calls) ≡ calls_of node world.calls
  other_calls node apart =
      with_there (λ c. eqb c.node node) new world.calls
      (differs new.node node (λ e. apart (sym e ∙ same_node ∙ is.node))) (same_test node)

  -- the world with the changed call and these messages
  abbrev pub changed_to : List Message → World
  changed_to sent = changed_world world (with_open new world.calls) sent world.history (suc world.now)

  pub changed_kept : (sent : List Message) (letters : List Letter) →
      ((message : Message) → WasSent world message → (place : ℕ) × (slice_get sent place ≡ Some message)) →
      AllByRecursion (WasSentAs (changed_to sent)) letters →
      (HasAsked fragment world call → HasAsked fragment (changed_to sent) new) →
      IsKept fragment world (changed_to sent)
      (record { local = record local { calls = with_open new local.calls }; sent = letters }) 1 world.history
  changed_kept sent letters grows posted asks =
      let has = found (HasEntry world.history) world.calls id call formed.entries is.open_there in record {
        formed = formed_still world (with_open new world.calls) sent world.history (suc world.now) fragment formed
            (distinct_with new world.calls formed.ids)
            (all_with (HasEntry world.history) (HasEntry world.history) new world.calls formed.entries
            (entry_of world.history call new same_id same_kind has.0) (λ other apart there. there))
            (all_with (HasAsked fragment world) (HasAsked fragment (changed_to sent)) new world.calls formed.asked
            (asks (found (HasAsked fragment world) world.calls id call formed.asked is.open_there).0)
            (λ other apart there.
            asked_still world (with_open new world.calls) sent world.history (suc world.now) fragment grows other there));
        part = part_with world (with_open new world.calls) sent world.history (suc world.now) local (with_open new local.calls) part
            own_calls;
        sent = posted;
        others = λ other apart there. part_still world (with_open new world.calls) sent world.history (suc world.now) other there
            (other_calls other.node apart);
        kept = sent_still world (with_open new world.calls) sent world.history (suc world.now) grows;
        files = refl;
        now = omega arith;
        entries = refl;
      }
