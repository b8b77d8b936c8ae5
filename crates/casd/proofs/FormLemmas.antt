-- What the first bytes of a log say of its form.
use Rattle.std.proofs.Common.{◌≡◌, ◌≤◌, ◌<◌, ℕ, List, ◌++◌, length, take, None, Some, Err, subst, sym, ap, ◌∙◌, arith}
use Rattle.std.proofs.Common.{length-append, length-take}
use Rattle.std.proofs.lemmas.List.{take_all, take-append-le}
use Rattle.std.specs.Io.KnownBytes.{Consumes, IsAtEnd, Keeps}
use Rattle.node.specs.declared.node.Node.{Node}
use Rattle.node_log.specs.Entry.{IsOldHead}
use Rattle.node_log.specs.Reading.{HadLeft}
use Rattle.casd.specs.Fault.{IsOpenFault, IsReadFault}
use Rattle.casd.specs.Opening.{HasOldForm, HasReadForm, HasReadLog}
use Rattle.casd.specs.declared.fault.Fault.{Fault}
use Rattle.casd.specs.declared.fault.Fault.TheVariants as faults
use Rattle.casd.proofs.CutLemmas.{Known}

-- the log has no older form, if its bytes are known
abbrev pub HasNoOldForm : Known → Type 0
HasNoOldForm found = HadLeft (λ disk. HasOldForm disk → ⊥) found

-- a buffer of 16 bytes that was filled has the first 16 bytes
first_bytes : (found left rest : Known) (head : List ℕ) (count : ℕ) → Keeps found left → length head ≡ 16 →
    16 ≤ count → Consumes left rest (take count head) → HadLeft (λ disk. take 16 disk ≡ head) found
first_bytes None left rest head count keeps long many consumes = tt
first_bytes (Some xs) None rest head count keeps long many consumes = absurd keeps
first_bytes (Some xs) (Some ys) None head count keeps long many consumes = absurd consumes
first_bytes (Some xs) (Some ys) (Some zs) head count keeps long many consumes =
    let all : take count head ≡ head = take_all count head (omega arith) in
    sym (ap (λ (l : List ℕ). take 16 l) keeps)
    ∙ ap (λ (l : List ℕ). take 16 l) (consumes ∙ ap (λ (l : List ℕ). l ++ zs) all)
    ∙ take-append-le 16 head zs (omega arith) ∙ take_all 16 head (omega arith)

pub old_form : (found left rest : Known) (head : List ℕ) (count : ℕ) → Keeps found left → length head ≡ 16 →
    16 ≤ count → Consumes left rest (take count head) → IsOldHead head → HadLeft HasOldForm found
old_form None left rest head count keeps long many consumes old = tt
old_form (Some xs) left rest head count keeps long many consumes old =
    subst IsOldHead (sym (first_bytes (Some xs) left rest head count keeps long many consumes)) old

pub new_form : (found left rest : Known) (head : List ℕ) (count : ℕ) → Keeps found left → length head ≡ 16 →
    16 ≤ count → Consumes left rest (take count head) → (IsOldHead head → ⊥) → HasNoOldForm found
new_form None left rest head count keeps long many consumes new = tt
new_form (Some xs) left rest head count keeps long many consumes new =
    λ old. new (subst IsOldHead (first_bytes (Some xs) left rest head count keeps long many consumes) old)

-- fewer than 16 bytes are no head
pub too_short : (found left rest : Known) (head : List ℕ) (count : ℕ) → Keeps found left → count < 16 →
    Consumes left rest (take count head) → IsAtEnd rest → HasNoOldForm found
too_short None left rest head count keeps few consumes end = tt
too_short (Some xs) None rest head count keeps few consumes end = absurd keeps
too_short (Some xs) (Some ys) None head count keeps few consumes end = absurd consumes
too_short (Some xs) (Some ys) (Some zs) head count keeps few consumes end = λ (old : IsOldHead (take 16 xs)).
    let whole = old.whole in
    let first = length-take 16 xs in
    let same = ap length keeps in
    let read = ap length consumes ∙ length-append (take count head) zs in
    let last = ap length end in
    let part = length-take count head in
    absurd (omega arith)

-- why a log cannot be opened or read, which is no older form and no damage
pub form_unread : (T : Type 0) (found : Known) (fault : Fault) → IsOpenFault fault → IsReadFault fault →
    HasReadForm {T = T} found (Err fault)
form_unread T found (faults.Unopened error) opens read = tt
form_unread T found faults.NoMemory opens read = tt
form_unread T found faults.OldForm opens read = absurd opens
form_unread T found (faults.BadLog error) opens read = absurd opens
form_unread T found _ opens read = absurd read

pub log_unread : (old new : Node) (found : Known) (fault : Fault) → IsOpenFault fault → IsReadFault fault →
    HasReadLog old new found (Err fault)
log_unread old new found (faults.Unopened error) opens read = tt
log_unread old new found faults.NoMemory opens read = tt
log_unread old new found faults.OldForm opens read = absurd opens
log_unread old new found (faults.BadLog error) opens read = absurd opens
log_unread old new found _ opens read = absurd read
