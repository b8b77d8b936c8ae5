-- A history is atomic where it is with the numbers of steps in the place of those of events.
use Rattle.std.proofs.Common.{◌≡◌, ℕ, zero, suc, ◌<◌, List, [], ◌∷◌, map, Option, Some, None, is_some, option_map}
use Rattle.std.proofs.Common.{refl, sym, subst, ap, ◌∙◌, arith}
use Rattle.std.proofs.Math.ListN.{get_or-map}
use Rattle.std.specs.List.{AllByRecursion}
use Rattle.record.specs.declared.call.Entry.{Entry}
use Rattle.soundness.proofs.ListLemmas.{all_weaker}
use Rattle.atomicity.specs.Atomic.{IsAnsweredBefore, IsAtomic, IsRegister, KeepsOrder, MayStand, entry_at, no_entry}
use Rattle.network.specs.Following.{entry_in_steps, last_step_after}

steps_rise : (a b : ℕ) → a < b → last_step_after a < last_step_after b
steps_rise a zero less = absurd (omega arith)
steps_rise zero (suc b) less = omega arith
steps_rise (suc a) (suc b) less = let rest = steps_rise a b (omega arith) in omega arith

some_same : (o : Option ℕ) → is_some (option_map last_step_after o) ≡ is_some o
some_same None = refl
some_same (Some step) = refl

entry_at-steps : (entries : List Entry) (number : ℕ) →
    entry_at (map entry_in_steps entries) number ≡ entry_in_steps (entry_at entries number)
entry_at-steps entries zero = refl
entry_at-steps entries (suc index) = get_or-map entry_in_steps entries index no_entry

entries_at-steps : (entries : List Entry) (order : List ℕ) → map (λ number. entry_at (map entry_in_steps entries) number) order
    ≡ map entry_in_steps (map (λ number. entry_at entries number) order)
entries_at-steps entries [] = refl
entries_at-steps entries (number ∷ order) =
    ap (λ e. e ∷ map (λ n. entry_at (map entry_in_steps entries) n) order) (entry_at-steps entries number)
    ∙ ap (λ l. entry_in_steps (entry_at entries number) ∷ l) (entries_at-steps entries order)

stands : (entry : Entry) → MayStand (entry_in_steps entry) → MayStand entry
stands entry may = (may.0, λ read. sym (some_same entry.answered) ∙ may.1 read)

register_back : (current : List ℕ) (entries : List Entry) → IsRegister current (map entry_in_steps entries) → IsRegister current entries
register_back current [] is = tt
register_back current (entry ∷ later) is = (is.0, is.1, register_back is.0 later is.2)

before_on : (a b : Entry) → IsAnsweredBefore a b → IsAnsweredBefore (entry_in_steps a) (entry_in_steps b)
before_on a b before = (last_step_after before.0, ap (option_map last_step_after) before.1, steps_rise before.0 b.called before.2)

all_back : (entry : Entry) (later : List Entry) →
    AllByRecursion (λ other. IsAnsweredBefore other (entry_in_steps entry) → ⊥) (map entry_in_steps later) →
    AllByRecursion (λ other. IsAnsweredBefore other entry → ⊥) later
all_back entry [] all = tt
all_back entry (other ∷ later) all = (λ before. all.0 (before_on other entry before), all_back entry later all.1)

order_back : (entries : List Entry) → KeepsOrder (map entry_in_steps entries) → KeepsOrder entries
order_back [] keeps = tt
order_back (entry ∷ later) keeps = (all_back entry later keeps.0, order_back later keeps.1)

pub atomic_back : (entries : List Entry) → IsAtomic (map entry_in_steps entries) → IsAtomic entries
atomic_back entries atomic =
    let order = atomic.0 in
    let s = atomic.1 in
    let same = entries_at-steps entries order in (
      order,
      record {
        distinct = s.distinct;
        fitting = all_weaker (λ number. MayStand (entry_at (map entry_in_steps entries) number))
            (λ number. MayStand (entry_at entries number))
            (λ number may. stands (entry_at entries number) (subst MayStand (entry_at-steps entries number) may)) order s.fitting;
        complete = λ number kind answered. s.complete number
            (λ move. kind (sym (ap (λ (e : Entry). e.kind) (entry_at-steps entries number)) ∙ move))
            (ap (λ (e : Entry). is_some e.answered) (entry_at-steps entries number)
            ∙ some_same (entry_at entries number).answered ∙ answered);
        one_register = register_back [] (map (λ number. entry_at entries number) order) (subst (IsRegister []) same s.one_register);
        in_order = order_back (map (λ number. entry_at entries number) order) (subst KeepsOrder same s.in_order);
      },
    )
