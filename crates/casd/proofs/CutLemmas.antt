-- What a log keeps that was to be cut.
use Rattle.std.proofs.Common.{◌≡◌, ◌⊎◌, ◌≤◌, ℕ, List, ◌++◌, length, take, drop, Option, None, Some}
use Rattle.std.proofs.Common.{refl, sym, subst, ap, ◌∙◌, inl, inr, arith, append_assoc, length-append, length-take}
use Rattle.std.proofs.lemmas.List.{take-append-drop}
use Rattle.std.specs.Io.KnownBytes.{Keeps}
use Rattle.node_store.specs.Disk.{IsFrontOf, LosesEnd}
use Rattle.node_store.specs.Logs.{Grows, IsKeptBehind}
use Rattle.node_store.specs.Steps.{IsFront}
use Rattle.node_store.proofs.CutLogLemmas.{split}
use Rattle.processes.specs.Programs.{IsPartlyCut}

-- what is known of some bytes
abbrev pub Known : Type 0
Known = Option (List ℕ)

-- what was cut is kept
pub front_kept : (count : ℕ) (old mid new : Known) → IsFrontOf count old mid → Keeps mid new → IsFrontOf count old new
front_kept count None mid new is keeps = tt
front_kept count (Some xs) None new is keeps = absurd (cc)
front_kept count (Some xs) (Some ys) None is keeps = absurd keeps
front_kept count (Some xs) (Some ys) (Some zs) is keeps = ap Some keeps ∙ is

-- the first bytes of a front are a front
front_of_front : (most : ℕ) (old whole rest : List ℕ) → whole ≡ old ++ rest → whole ≡ take most old ++ (drop most old ++ rest)
front_of_front most old whole rest begins =
    begins ∙ ap (λ (t : List ℕ). t ++ rest) (sym (take-append-drop most old)) ∙ append_assoc (take most old) (drop most old) rest

-- so many first bytes, or all
long_enough : (count most : ℕ) (old now : List ℕ) → count ≤ most → length (take most old) ≤ length now →
    (count ≤ length now) ⊎ (length old ≤ length now)
long_enough count most old now le least = let long = length-take most old in grind arith

-- the cut failed
pub cut_failed : (count : ℕ) (written kept keeps : Known) → LosesEnd count kept keeps → (disk : List ℕ) →
    written ≡ Some disk → count ≤ length disk → IsPartlyCut count disk kept keeps
cut_failed count written kept keeps (most, le, front) disk found few = λ old whole same begins has. (
  take most old,
  subst (λ (k : Known). IsFrontOf most k keeps) same front,
  (drop most old ++ begins.0, front_of_front most old whole begins.0 begins.1),
  long_enough count most old (take most old) le (omega arith),
)

-- what is kept lies between two fronts
between : (first second whole rest : List ℕ) (keeps : Known) → whole ≡ second ++ rest → Grows (Some first) keeps →
    Grows keeps (Some second) → (now : List ℕ) × (keeps ≡ Some now) × IsFront now whole × (length first ≤ length now)
between first second whole rest None begins grows more = absurd grows.1
between first second whole rest (Some now) begins (some, grows) (others, more) = (
  now,
  refl,
  (others ++ rest, begins ∙ ap (λ (t : List ℕ). t ++ rest) more ∙ append_assoc now others rest),
  let long = ap length grows ∙ length-append first some in omega arith,
)

still : (bytes : List ℕ) (wrote : Known) → Keeps (Some bytes) wrote → wrote ≡ Some bytes
still bytes None keeps = absurd keeps
still bytes (Some others) keeps = ap Some keeps

-- the log was cut, and then it could not be synced: it keeps what the cut left, what it kept before, or what lies between
synced_badly : (count most : ℕ) (disk old whole after before : List ℕ) (keeps : Known) → count ≤ most → count ≤ length disk →
    whole ≡ take most old ++ before → whole ≡ take count disk ++ after →
    (Grows (Some (take most old)) (Some (take count disk)) →
    Grows (Some (take most old)) keeps × Grows keeps (Some (take count disk))) →
    (Grows (Some (take count disk)) (Some (take most old)) →
    Grows (Some (take count disk)) keeps × Grows keeps (Some (take most old))) →
    (now : List ℕ) × (keeps ≡ Some now) × IsFront now whole × ((count ≤ length now) ⊎ (length old ≤ length now))
synced_badly count most disk old whole after before keeps le few has begins grows cut =
    elim (split (take most old) (take count disk) before after (sym has ∙ begins)) [
      | inl p ↦
          let parts = grows (p.0, p.1) in
          let now = between (take most old) (take count disk) whole after keeps begins parts.0 parts.1 in
          (now.0, now.1, now.2, long_enough count most old now.0 le now.3)
      | inr p ↦
          let parts = cut (p.0, p.1) in
          let now = between (take count disk) (take most old) whole before keeps has parts.0 parts.1 in
          let least = now.3 in
          let long = length-take count disk in
          (now.0, now.1, now.2, inl (omega arith))
    ]

pub sync_failed : (count : ℕ) (written cut kept keeping wrote keeps : Known) → IsFrontOf count written cut →
    LosesEnd count kept keeping → Keeps cut wrote → (Grows keeping cut → Grows keeping keeps) →
    (Grows keeping cut → Grows keeps wrote) → (IsKeptBehind cut keeping → Grows cut keeps × Grows keeps keeping) →
    (disk : List ℕ) → written ≡ Some disk → count ≤ length disk → IsPartlyCut count disk kept keeps
sync_failed count written cut kept keeping wrote keeps front (most, le, loses) stays grows within shrinks disk found few =
    λ old whole same begins has.
    let bytes = take count disk in
    let cut_is : cut ≡ Some bytes = subst (λ (w : Known). IsFrontOf count w cut) found front in
    let keeping_is : keeping ≡ Some (take most old) = subst (λ (k : Known). IsFrontOf most k keeping) same loses in
    let wrote_is : wrote ≡ Some bytes = still bytes wrote (subst (λ (c : Known). Keeps c wrote) cut_is stays) in
    synced_badly count most disk old whole (drop count disk ++ has.0) (drop most old ++ begins.0) keeps le few
    (front_of_front most old whole begins.0 begins.1) (front_of_front count disk whole has.0 has.1)
    (λ more.
    let given = subst (λ (c : Known). Grows keeping c) (sym cut_is)
    (subst (λ (k : Known). Grows k (Some bytes)) (sym keeping_is) more) in
    (subst (λ (k : Known). Grows k keeps) keeping_is (grows given), subst (λ (w : Known). Grows keeps w) wrote_is (within given)))
    (λ less.
    let given = subst (λ (c : Known). IsKeptBehind c keeping) (sym cut_is)
    (subst (λ (k : Known). Grows (Some bytes) k) (sym keeping_is) less) in
    let both = shrinks given in
    (subst (λ (c : Known). Grows c keeps) cut_is both.0, subst (λ (k : Known). Grows keeps k) keeping_is both.1))
