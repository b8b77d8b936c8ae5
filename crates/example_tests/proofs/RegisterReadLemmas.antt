-- What a read returns in a register sequence, behind a write that was answered before it was called.
use Rattle.std.proofs.Common.{◌≡◌, ◌⊎◌, ◌≤◌, ◌<◌, ℕ, suc, zero, Bool, true, false, ◌||◌, ◌==◌, List, [], ◌∷◌, map}
use Rattle.std.proofs.Common.{length, get_or, slice_get, None, Some, inl, inr, refl, sym, ap, subst, ◌∙◌, eqb-true}
use Rattle.std.proofs.lemmas.List.{get_or_past}
use Rattle.std.proofs.lemmas.Option.{get_or_from_slice_get, slice_get_cases}
use Rattle.std.specs.List.{AllByRecursion}
use Rattle.layout.specs.Quorum.{has}
use Rattle.record.specs.declared.call.Entry.{Entry}
use Rattle.record.specs.declared.call.Operation.{Operation}
use Rattle.record.specs.declared.call.Operation.TheVariants as operation
use Rattle.atomicity.specs.Atomic.{IsAnsweredBefore, IsRegister, KeepsOrder, Leaves, entry_at, no_entry}

-- the entry is one of these
abbrev pub IsAmong : Entry → List Entry → Type 0
IsAmong entry [] = ⊥
IsAmong entry (first ∷ later) = (first ≡ entry) ⊎ IsAmong entry later

-- a fact about all of them holds for it
of_all : (P : Entry → Type 0) (entry : Entry) (entries : List Entry) → AllByRecursion P entries → IsAmong entry entries → P entry
of_all P entry [] all among = absurd among
of_all P entry (first ∷ later) all (inl same) = subst P same all.0
of_all P entry (first ∷ later) all (inr among) = of_all P entry later all.1 among

-- a write among these, whose value the read returns, and before which the read was not answered
pub record IsReadFrom (read : Entry) (entries : List Entry) : Type 0 where
  pub write : Entry
  pub among : IsAmong write entries
  pub kind : write.kind ≡ operation.Write
  pub same : read.value ≡ write.value
  pub not_after : IsAnsweredBefore read write → ⊥

abbrev longer : (read first : Entry) (later : List Entry) → IsReadFrom read later → IsReadFrom read (first ∷ later)
longer read first later from = record {
  write = from.write;
  among = inr from.among;
  kind = from.kind;
  same = from.same;
  not_after = from.not_after;
}

-- the first entry leaves this value, and the read behind it returns it
left_by : (read first : Entry) (later : List Entry) (current next : List ℕ) (kind : Operation) → first.kind ≡ kind →
    Leaves kind first.value current next → (IsAnsweredBefore read first → ⊥) → read.value ≡ Some next →
    (read.value ≡ Some current) ⊎ IsReadFrom read (first ∷ later)
left_by read first later current next operation.Read is leaves not_after returns = inl (returns ∙ ap Some leaves.1)
left_by read first later current next operation.Write is leaves not_after returns =
    inr (record { write = first; among = inl refl; kind = is; same = returns ∙ sym leaves; not_after = not_after })
left_by read first later current next operation.Move is leaves not_after returns = absurd leaves

-- a read that is the first entry returns the current value
first_read : (read first : Entry) (current next : List ℕ) → first ≡ read → read.kind ≡ operation.Read →
    Leaves first.kind first.value current next → read.value ≡ Some current
first_read read first current next same is leaves =
    (subst (λ kind. Leaves kind read.value current next) is
    (subst (λ (e : Entry). Leaves e.kind e.value current next) same leaves)).0

-- a read returns the current value, or that of a write before it
pub register_read : (read : Entry) (current : List ℕ) (entries : List Entry) → read.kind ≡ operation.Read → IsRegister current entries →
    KeepsOrder entries → IsAmong read entries → (read.value ≡ Some current) ⊎ IsReadFrom read entries
register_read read current [] is register order among = absurd among
register_read read current (first ∷ later) is register order (inl same) =
    inl (first_read read first current register.0 same is register.1)
register_read read current (first ∷ later) is register order (inr among) =
    go (register_read read register.0 later is register.2 order.1 among)
  where
    go : (read.value ≡ Some register.0) ⊎ IsReadFrom read later → (read.value ≡ Some current) ⊎ IsReadFrom read (first ∷ later)
    go (inl returns) =
        left_by read first later current register.0 first.kind refl register.1 (of_all _ read later order.0 among) returns
    go (inr from) = inr (longer read first later from)

-- a write whose value the read returns, which was not answered before the given write was called
pub record IsReadBehind (write read : Entry) (entries : List Entry) : Type 0 where
  pub from : IsReadFrom read entries
  pub not_before : IsAnsweredBefore from.write write → ⊥

-- a write leaves its own value
leaves_own : (write first : Entry) (current next : List ℕ) → first ≡ write → write.kind ≡ operation.Write →
    Leaves first.kind first.value current next → write.value ≡ Some next
leaves_own write first current next same is leaves =
    subst (λ kind. Leaves kind write.value current next) is
    (subst (λ (e : Entry). Leaves e.kind e.value current next) same leaves)

-- a read behind an answered write returns its value, or that of a write which was not answered before it
pub read_behind : (write read : Entry) (current : List ℕ) (entries : List Entry) → write.kind ≡ operation.Write →
    read.kind ≡ operation.Read → IsAnsweredBefore write read → IsRegister current entries → KeepsOrder entries →
    IsAmong write entries → IsAmong read entries → (read.value ≡ write.value) ⊎ IsReadBehind write read entries
read_behind write read current [] writes reads answered register order wrote among = absurd wrote
read_behind write read current (first ∷ later) writes reads answered register order (inl same) (inl other) =
    absurd (let kinds : operation.Write ≡ operation.Read =
    sym writes ∙ ap (λ (e : Entry). e.kind) (sym same ∙ other) ∙ reads in cc)
read_behind write read current (first ∷ later) writes reads answered register order (inl same) (inr among) =
    go (register_read read register.0 later reads register.2 order.1 among)
  where
    go : (read.value ≡ Some register.0) ⊎ IsReadFrom read later →
        (read.value ≡ write.value) ⊎ IsReadBehind write read (first ∷ later)
    go (inl returns) = inl (returns ∙ sym (leaves_own write first current register.0 same writes register.1))
    go (inr from) = inr (record {
      from = longer read first later from;
      not_before = subst (λ e. IsAnsweredBefore from.write e → ⊥) same (of_all _ from.write later order.0 from.among);
    })
read_behind write read current (first ∷ later) writes reads answered register order (inr wrote) (inl other) =
    absurd (of_all _ write later order.0 wrote (subst (λ e. IsAnsweredBefore write e) (sym other) answered))
read_behind write read current (first ∷ later) writes reads answered register order (inr wrote) (inr among) =
    go (read_behind write read register.0 later writes reads answered register.2 order.1 wrote among)
  where
    go : (read.value ≡ write.value) ⊎ IsReadBehind write read later →
        (read.value ≡ write.value) ⊎ IsReadBehind write read (first ∷ later)
    go (inl returns) = inl returns
    go (inr behind) = inr (record { from = longer read first later behind.from; not_before = behind.not_before })

-- The entries of an order

-- the order has the number, so the entry of this number is among its entries
pub among_ordered : (entries : List Entry) (order : List ℕ) (number : ℕ) → has order number ≡ true →
    IsAmong (entry_at entries number) (map (λ n. entry_at entries n) order)
among_ordered entries [] number it = absurd (let wrong : false ≡ true = it in cc)
among_ordered entries (first ∷ order) number it = go (first == number) refl (among_ordered entries order number)
  where
    go : (is : Bool) → (first == number) ≡ is →
        (has order number ≡ true → IsAmong (entry_at entries number) (map (λ n. entry_at entries n) order)) →
        IsAmong (entry_at entries number) (map (λ n. entry_at entries n) (first ∷ order))
    go true same later = inl (ap (entry_at entries) (eqb-true first number same))
    go false other later = inr (later (sym (ap (λ b. b || has order number) other) ∙ it))

-- an entry among those of an order, which is no move, is one of the history
pub placed_among : (entries : List Entry) (order : List ℕ) (entry : Entry) → (entry.kind ≡ operation.Write) →
    IsAmong entry (map (λ n. entry_at entries n) order) → (index : ℕ) × (slice_get entries index ≡ Some entry)
placed_among entries [] entry writes among = absurd among
placed_among entries (zero ∷ order) entry writes (inl same) =
    absurd (let kinds : operation.Move ≡ operation.Write = ap (λ (e : Entry). e.kind) same ∙ writes in cc)
placed_among entries (suc index ∷ order) entry writes (inl same) = (index, go (slice_get_cases entries index).1)
  where
    go : ((x : Entry) × (index < length entries) × (slice_get entries index ≡ Some x) × (get_or entries index x ≡ x))
        ⊎ ((length entries ≤ index) × (slice_get entries index ≡ None)) → slice_get entries index ≡ Some entry
    go (inl there) =
        there.2 ∙ ap Some (sym (get_or_from_slice_get entries index there.0 no_entry there.2) ∙ same)
    go (inr past) =
        absurd (let kinds : operation.Move ≡ operation.Write =
        ap (λ (e : Entry). e.kind) (sym (get_or_past entries index no_entry past.0) ∙ same) ∙ writes in cc)
placed_among entries (number ∷ order) entry writes (inr among) = placed_among entries order entry writes among
