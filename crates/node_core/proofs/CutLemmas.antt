-- What a log keeps whose cut was cut off, or the sync behind it.
use Rattle.std.proofs.Common.{◌≡◌, ◌⊎◌, ◌≤◌, inl, inr, ℕ, List, ◌++◌, length, take, drop, Some}
use Rattle.std.proofs.Common.{refl, sym, ap, subst, ◌∙◌, append_assoc, arith, length-append, length-take}
use Rattle.std.proofs.lemmas.List.{take-append-drop}
use Rattle.node_store.specs.Steps.{IsFront, Places}
use Rattle.node_store.proofs.CutLogLemmas.{split}
use Rattle.processes.specs.Programs.{IsPartlyCut}
use Rattle.node_core.specs.Starts.{IsCut, IsCutOffSync, MayLoseEnd}

-- the first bytes of a front are a front
front_of_front : (most : ℕ) (old whole : List ℕ) → IsFront old whole → IsFront (take most old) whole
front_of_front most old whole (rest, begins) = (
  drop most old ++ rest,
  begins ∙ ap (λ (t : List ℕ). t ++ rest) (sym (take-append-drop most old))
      ∙ append_assoc (take most old) (drop most old) rest,
)

-- so many first bytes, or all
long_enough : (count most : ℕ) (old now : List ℕ) → count ≤ most → length (take most old) ≤ length now →
    (count ≤ length now) ⊎ (length old ≤ length now)
long_enough count most old now le least = let long = length-take most old in grind arith

-- the log keeps these bytes, which lie between what it had to keep at least and what begins all
is_partly : (count most : ℕ) (disk old now : List ℕ) → count ≤ most → length (take most old) ≤ length now →
    ((whole : List ℕ) → IsFront old whole → IsFront disk whole → IsFront now whole) →
    IsPartlyCut count disk (Some old) (Some now)
is_partly count most disk old now le least fronts = λ other whole same begins has.
    let is : old ≡ other = cc in (
      now,
      refl,
      fronts whole (subst (λ (t : List ℕ). IsFront t whole) (sym is) begins) has,
      subst (λ (t : List ℕ). (count ≤ length now) ⊎ (length t ≤ length now)) is
          (long_enough count most old now le least),
    )

pub cut_partly : (count : ℕ) (disk : List ℕ) (before after : Places) → MayLoseEnd count before after →
    IsPartlyCut count disk (Some before.kept) (Some after.kept)
cut_partly count disk before after (most, le, kept) =
    is_partly count most disk before.kept after.kept le
    (let same = ap length (sym kept) in omega arith)
    (λ whole begins has. subst (λ (t : List ℕ). IsFront t whole) (sym kept)
    (front_of_front most before.kept whole begins))

-- what lies between two bytes that begin all
in_between : (first now second whole : List ℕ) → IsFront first now → IsFront now second → IsFront second whole →
    IsFront now whole × (length first ≤ length now)
in_between first now second whole (some, grows) (others, more) (rest, begins) = (
  (
    others ++ rest,
    begins ∙ ap (λ (t : List ℕ). t ++ rest) more ∙ append_assoc now others rest,
  ),
  let long = ap length grows ∙ length-append first some in omega arith,
)

-- if the one begins the other, this lies between them
abbrev Squeezes : (first second now : List ℕ) → Type 0
Squeezes first second now = IsFront first second → IsFront first now × IsFront now second

-- the log keeps what it kept, what was written, or what lies between; one of the two begins the other
synced_badly : (count most : ℕ) (disk old now whole : List ℕ) → count ≤ most → count ≤ length disk →
    IsFront old whole → IsFront disk whole →
    Squeezes (take most old) (take count disk) now → Squeezes (take count disk) (take most old) now →
    IsFront now whole × ((count ≤ length now) ⊎ (length old ≤ length now))
synced_badly count most disk old now whole le few begins has grows shrinks =
    let first = front_of_front most old whole begins in
    let second = front_of_front count disk whole has in
    elim (split (take most old) (take count disk) first.0 second.0 (sym first.1 ∙ second.1)) [
      | inl p ↦
          let parts = grows (p.0, p.1) in
          let both = in_between (take most old) now (take count disk) whole parts.0 parts.1 second in
          (both.0, long_enough count most old now le both.1)
      | inr p ↦
          let parts = shrinks (p.0, p.1) in
          let both = in_between (take count disk) now (take most old) whole parts.0 parts.1 first in
          let least = both.1 in
          let long = length-take count disk in (both.0, inl (omega arith))
    ]

pub sync_partly : (count : ℕ) (before cut after : Places) → count ≤ length before.written → IsCut count before cut →
    IsCutOffSync cut after → IsPartlyCut count before.written (Some before.kept) (Some after.kept)
sync_partly count before cut after few (sent, written, (most, le, kept)) off = λ other whole same begins has.
    let is : before.kept ≡ other = cc in
    let grows : Squeezes (take most before.kept) (take count before.written) after.kept =
    subst (λ (t : List ℕ). Squeezes t (take count before.written) after.kept) kept
    (subst (λ (t : List ℕ). Squeezes cut.kept t after.kept) written off.grows)
    in
    let shrinks : Squeezes (take count before.written) (take most before.kept) after.kept =
    subst (λ (t : List ℕ). Squeezes t (take most before.kept) after.kept) written
    (subst (λ (t : List ℕ). Squeezes cut.written t after.kept) kept off.shrinks)
    in
    let both = synced_badly count most before.written before.kept after.kept whole le few
    (subst (λ (t : List ℕ). IsFront t whole) (sym is) begins) has grows shrinks in (
      after.kept,
      refl,
      both.0,
      subst (λ (t : List ℕ). (count ≤ length after.kept) ⊎ (length t ≤ length after.kept)) is both.1,
    )
