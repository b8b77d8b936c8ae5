-- What is kept of a file, or found in its place.
use Rattle.std.proofs.Common.{◌≡◌, ◌⊎◌, ℕ, ◌+◌, ◌≤◌, List, length, [], Option, Some, None, inl, inr, sym, subst, ap, ◌∙◌}
use Rattle.std.proofs.Common.{append-nil, arith, refl, Bool, true, false}
use Rattle.std.specs.Prelude.{Result, Ok, Err, IsTrue, ◌||◌}
use Rattle.std.proofs.lemmas.Bool.{or_left, or_right}
use Rattle.std.proofs.lemmas.List.{take_all}
use Rattle.std.specs.Io.KnownBytes.{Keeps}
use Rattle.frames.specs.Writing.{Writes}
use Rattle.node_store.specs.Logs.{Grows, IsKeptBehind, TellsExchange, TellsFailure}
use Rattle.node_store.specs.Disk.{LosesEnd, found_after_stop}
use Rattle.node_store.proofs.GrowthLemmas.{Known, grows_none, grows_same, grows_twice}

-- what was written grew
pub writes_grow : {T E : Type 0} (r : Result T E) (old new : Known) (bytes : List ℕ) → Writes old new r bytes → Grows old new
writes_grow (Ok x) old new bytes all = (bytes, all)
writes_grow (Err e) old new bytes (front, back, parts, some) = (front, some)

-- what is found is a front of what is written, as before
pub within_found : (other : Option Known) (kept written keeps writes : Known) → Grows written writes
    → (Grows kept written → Grows keeps writes) → Grows (found_after_stop other kept) written
    → Grows (found_after_stop other keeps) writes
within_found None kept written keeps writes grew within start = within start
within_found (Some bytes) kept written keeps writes grew within start = grows_twice bytes written writes start grew

-- bytes that lose nothing
pub loses_nothing : (count : ℕ) (bytes : Known) → LosesEnd count bytes bytes
loses_nothing count None = (count, omega arith, tt)
loses_nothing count (Some bytes) =
    (count + length bytes, omega arith, ap Some (sym (take_all (count + length bytes) bytes (omega arith))))

-- what is found loses what the file loses, or nothing
pub loses_found : (count : ℕ) (other : Option Known) (kept keeps : Known) → LosesEnd count kept keeps
    → LosesEnd count (found_after_stop other kept) (found_after_stop other keeps)
loses_found count None kept keeps loses = loses
loses_found count (Some bytes) kept keeps loses = loses_nothing count bytes

-- what is kept grows by none
pub keeps_grow : (old new : Known) → Keeps old new → Grows old new
keeps_grow None new same = ([], tt)
keeps_grow (Some xs) None same = absurd same
keeps_grow (Some xs) (Some ys) same = ([], same ∙ sym (append-nil xs))

-- where nothing changes, what was written is kept, with the same bytes behind it
pub same_behind : (written kept : Known) → IsKeptBehind written kept → Grows written kept × Grows kept kept
same_behind None kept behind = absurd behind
same_behind (Some xs) kept behind = (behind, grows_none kept)

-- what is found keeps what was written, and perhaps some of what was cut off, if the file does
pub cut_found : (other : Option Known) (kept keeps written : Known)
    → (IsKeptBehind written kept → Grows written keeps × Grows keeps kept)
    → IsKeptBehind written (found_after_stop other kept)
    → Grows written (found_after_stop other keeps) × Grows (found_after_stop other keeps) (found_after_stop other kept)
cut_found None kept keeps written cut behind = cut behind
cut_found (Some bytes) kept keeps None cut behind = absurd behind
cut_found (Some bytes) kept keeps (Some xs) cut behind = (behind, grows_none bytes)

-- the same if the file was synced, and the folder perhaps

synced_as : (other : Option Known) (kept keeps : Known) (xs : List ℕ) → keeps ≡ Some xs
    → Grows (Some xs) (found_after_stop other kept)
    → Grows (Some xs) (found_after_stop other keeps) × Grows (found_after_stop other keeps) (found_after_stop other kept)
synced_as None kept keeps xs is behind =
    (grows_same (Some xs) keeps (sym is), subst (λ (k : Known). Grows k kept) (sym is) behind)
synced_as (Some bytes) kept keeps xs is behind = (behind, grows_none bytes)

all_kept : (keeps writes : Known) (xs : List ℕ) → Keeps (Some xs) writes → keeps ≡ writes → keeps ≡ Some xs
all_kept keeps None xs same all = absurd same
all_kept keeps (Some ys) xs same all = all ∙ ap Some same

pub synced_found : (other then : Option Known) (kept keeps written writes : Known) → Keeps written writes → keeps ≡ writes
    → (then ≡ other) ⊎ (then ≡ None) → IsKeptBehind written (found_after_stop other kept)
    → Grows written (found_after_stop then keeps) × Grows (found_after_stop then keeps) (found_after_stop other kept)
synced_found other then kept keeps None writes same all either behind = absurd behind
synced_found other then kept keeps (Some xs) writes same all either behind =
    let is = all_kept keeps writes xs same all in
    let Left : Option Known → Type 0 = λ t.
    Grows (Some xs) (found_after_stop t keeps) × Grows (found_after_stop t keeps) (found_after_stop other kept) in
    elim either [
      | inl e ↦ subst Left (sym e) (synced_as other kept keeps xs is behind)
      | inr e ↦
          subst Left (sym e) (
            grows_same (Some xs) keeps (sym is),
            subst (λ (k : Known). Grows k (found_after_stop other kept)) (sym is) behind,
          )
    ]

-- Whether a call failed

-- a call of the file tells it of the log in the folder
pub file_tells : {T E : Type 0} (r : Result T E) (old new folder : Bool) → TellsFailure old new r
    → TellsFailure (old || folder) (new || folder) r
file_tells (Ok x) old new folder same = ap (λ (b : Bool). b || folder) same
file_tells (Err e) old new folder is = or_left new folder is

-- a file that was opened has not failed, if the folder has not
pub opened_unfailed : (file then folder : Bool) → (IsTrue file → IsTrue folder) → then ≡ folder → IsTrue (file || then)
    → IsTrue folder
opened_unfailed true then folder had same is = had refl
opened_unfailed false then folder had same is = sym same ∙ is

-- the log has failed behind an exchange only if it had, or the file that was put in its place
pub exchanged_unfailed : (old folder then second : Bool) → then ≡ folder → IsTrue (second || then)
    → IsTrue ((old || folder) || second)
exchanged_unfailed old folder then true same is = or_right (old || folder) true refl
exchanged_unfailed old folder then false same is = or_left (old || folder) false (or_right old folder (sym same ∙ is))

-- the same of the log with the second one, which had failed only if the log had
pub exchange_unfailed : (old now second new : Bool) → now ≡ old → (IsTrue second → IsTrue old)
    → (IsTrue new → IsTrue (now || second)) → IsTrue new → IsTrue old
exchange_unfailed old now second new same had only is = either now second same had (only is)
  where
    either : (now second : Bool) → now ≡ old → (IsTrue second → IsTrue old) → IsTrue (now || second) → IsTrue old
    either true second same had is = sym same
    either false second same had is = had is

-- where nothing is said of failures, any call tells them
pub always_tells : {T E : Type 0} (r : Result T E) → TellsFailure true true r
always_tells (Ok x) = refl
always_tells (Err e) = refl

pub always_tells_exchange : {T E : Type 0} (r : Result T E) → TellsExchange true true r
always_tells_exchange (Ok x) = λ is. is
always_tells_exchange (Err e) = refl
