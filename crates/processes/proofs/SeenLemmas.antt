-- What clients of the processes see, and what clients of the cluster beside them see.
use Rattle.std.proofs.Common.{◌≡◌, ◌⊎◌, inl, inr, ◌<◌, ◌≤◌, ◌+◌, ◌-◌, ℕ, zero, suc, Bool, true, false, cond, if◌then◌else◌}
use Rattle.std.proofs.Common.{List, [], ◌∷◌, ◌++◌, length, take, Some, is_some, slice_get, refl, sym, subst, ap, ◌∙◌, arith}
use Rattle.std.specs.Prelude.{nat_lt}
use Rattle.std.specs.List.{filter}
use Rattle.std.proofs.lemmas.Bool.{lt-ltb, le-ltb}
use Rattle.std.proofs.lemmas.Option.{slice_get_within}
use Rattle.deeds.specs.Deeds.{Notice}
use Rattle.refinement.specs.Clusters.{NodeCluster}
use Rattle.refinement.proofs.PlaceLemmas.{get_first, get_split}
use Rattle.processes.specs.Events.{ProcessEvent, call_begun, is_begun, is_told, number_of, processes_after, seen_in}
use Rattle.processes.specs.Laws.{IsClusterOf}
use Rattle.processes.specs.Processes.{Processes}
use Rattle.processes.proofs.GivenIdLemmas.{BeginApart}
use Rattle.processes.proofs.KnownIdLemmas.{AreNew}
use Rattle.processes.proofs.LogLemmas.{some_is}
use Rattle.processes.proofs.StandingLemmas.{IsAmong}

-- what stands behind the first of two lists
slice_second : {A : Type 0} (xs ys : List A) (k : ℕ) → slice_get (xs ++ ys) (length xs + k) ≡ slice_get ys k
slice_second [] ys k = ap (slice_get ys) (omega arith)
slice_second (x ∷ xs) ys k = ap (slice_get (x ∷ (xs ++ ys))) (longer (length xs)) ∙ slice_second xs ys k
  where
    longer : (n : ℕ) → suc n + k ≡ suc (n + k)
    longer n = omega arith

-- Notices that pass a test

-- a notice that passes stands behind those that pass before it
passed_place : (p : Notice → Bool) (xs ys : List Notice) (k : ℕ) (notice : Notice) → slice_get xs k ≡ Some notice →
    p notice ≡ true → slice_get (filter p (xs ++ ys)) (length (filter p (take k xs))) ≡ Some notice
passed_place p [] ys k notice e passes = absurd (cc)
passed_place p (x ∷ xs) ys zero notice e passes =
    subst (λ b. slice_get (cond b (x ∷ filter p (xs ++ ys)) (filter p (xs ++ ys))) 0 ≡ Some notice)
    (sym (ap p (some_is x notice e) ∙ passes)) e
passed_place p (x ∷ xs) ys (suc k) notice e passes = go (p x) (passed_place p xs ys k notice e passes)
  where
    first : List Notice
    first = filter p (take k xs)

    rest : List Notice
    rest = filter p (xs ++ ys)

    go : (b : Bool) → slice_get rest (length first) ≡ Some notice →
        slice_get (cond b (x ∷ rest) rest) (length (cond b (x ∷ first) first)) ≡ Some notice
    go true is = is
    go false is = is

pub passed : (p : Notice → Bool) (xs : List Notice) (i : ℕ) (notice : Notice) → slice_get (filter p xs) i ≡ Some notice →
    p notice ≡ true
passed p [] i notice e = absurd (cc)
passed p (x ∷ xs) i notice e = go (p x) refl i e (passed p xs)
  where
    go : (b : Bool) → p x ≡ b → (i : ℕ) → slice_get (cond b (x ∷ filter p xs) (filter p xs)) i ≡ Some notice →
        ((i : ℕ) (notice : Notice) → slice_get (filter p xs) i ≡ Some notice → p notice ≡ true) → p notice ≡ true
    go true e zero at later = subst (λ n. p n ≡ true) (some_is x notice at) e
    go true e (suc i) at later = later i notice at
    go false e i at later = later i notice at

-- no notice says both that a call began and that a client is told an answer
pub not_both : (notice : Notice) → is_begun notice ≡ true → is_told notice ≡ true → ⊥
not_both (Notice.Reads name id) begun told = absurd (cc)
not_both (Notice.Writes name id value) begun told = absurd (cc)
not_both (Notice.Moves name id layout) begun told = absurd (cc)
not_both (Notice.Tells name ended) begun told = absurd (cc)

-- a notice with the id of a call that began says that it began
pub id_begun : (notice : Notice) (id : ℕ) → call_begun notice ≡ Some id → is_begun notice ≡ true
id_begun notice id is = ap is_some is

-- of calls that begin, no client is told an answer
pub begun_only : (xs : List Notice) (i : ℕ) (notice : Notice) → slice_get (filter is_begun xs) i ≡ Some notice →
    is_told notice ≡ true → ⊥
begun_only xs i notice e told = not_both notice (passed is_begun xs i notice e) told

-- The cluster beside the processes

-- nothing happened to the cluster, and what clients were told in the event, those of the cluster had been told
pub quiet_seen : (processes : Processes) (cluster : NodeCluster) (event : ProcessEvent) →
    ((notice : Notice) → is_told notice ≡ true → IsAmong (seen_in (processes.at (number_of event)) event) notice →
    IsAmong cluster.notices notice) → AreNew cluster.notices (seen_in (processes.at (number_of event)) event) →
    IsClusterOf processes cluster → IsClusterOf (processes_after processes event) cluster
quiet_seen processes cluster event told fresh is = record {
  place = is.place;
  begun = λ index notice at begins.
      get_first processes.seen now (is.place index) notice (is.begun index notice at begins);
  last = λ index at id call other there begins seen also. latest index at id call other there begins also
      (get_split processes.seen now at other seen);
  told = λ at notice here tells. go at notice tells (get_split processes.seen now at notice here);
}
  where
    now : List Notice
    now = seen_in (processes.at (number_of event)) event

    latest : (index at id : ℕ) (call other : Notice) → slice_get cluster.notices index ≡ Some call → call_begun call ≡ Some id →
        call_begun other ≡ Some id → (slice_get processes.seen at ≡ Some other)
        ⊎ ((k : ℕ) × (at ≡ length processes.seen + k) × (slice_get now k ≡ Some other)) → at ≤ is.place index
    latest index at id call other there begins also (inl before) = is.last index at id call other there begins before also
    latest index at id call other there begins also (inr new) =
        absurd (fresh index new.0 id (call, there, begins) (other, new.2, also))

    Found : ℕ → Notice → Type 0
    Found at notice = (index : ℕ) × (slice_get cluster.notices index ≡ Some notice)
        × ((other : ℕ) (call : Notice) → slice_get cluster.notices other ≡ Some call → is_begun call ≡ true →
        at < is.place other → index < other)

    go : (at : ℕ) (notice : Notice) → is_told notice ≡ true →
        (slice_get processes.seen at ≡ Some notice)
        ⊎ ((k : ℕ) × (at ≡ length processes.seen + k) × (slice_get now k ≡ Some notice)) → Found at notice
    go at notice tells (inl before) = is.told at notice before tells
    go at notice tells (inr new) =
        let among = told notice tells (new.0, new.2) in
        let far = new.1 in (
          among.0,
          among.1,
          λ other call there begins early. absurd (
              let within = slice_get_within processes.seen (is.place other) call (is.begun other call there begins) in
              omega arith
              ),
        )

-- the cluster's clients saw the first of these notices, of which those of the processes saw the calls that began
module _ (processes : Processes) (cluster next : NodeCluster) (event : ProcessEvent) (told unseen : List Notice)
    (grown : next.notices ≡ cluster.notices ++ told)
    (shows : seen_in (processes.at (number_of event)) event ≡ filter is_begun (told ++ unseen))
    (fresh : AreNew cluster.notices (filter is_begun (told ++ unseen))) (apart : BeginApart (filter is_begun (told ++ unseen)))
    (is : IsClusterOf processes cluster) where
  abbrev calls : List Notice
  calls = filter is_begun (told ++ unseen)

  -- where the calls of the cluster began: those from before, and the new ones
  abbrev new_place : ℕ → ℕ
  new_place index =
      if nat_lt index (length cluster.notices) then is.place index
      else length processes.seen + length (filter is_begun (take (index - length cluster.notices) told))

  old_place : (index : ℕ) → index < length cluster.notices → new_place index ≡ is.place index
  old_place index less =
      ap (λ b. if b then is.place index
      else length processes.seen + length (filter is_begun (take (index - length cluster.notices) told)))
      (lt-ltb index (length cluster.notices) less)

  later_place : (k : ℕ) →
      new_place (length cluster.notices + k) ≡ length processes.seen + length (filter is_begun (take k told))
  later_place k =
      ap (λ b. if b then is.place (length cluster.notices + k)
      else length processes.seen + length (filter is_begun (take ((length cluster.notices + k) - length cluster.notices) told)))
      (le-ltb (length cluster.notices + k) (length cluster.notices) (omega arith))
      ∙ ap (λ n. length processes.seen + length (filter is_begun (take n told))) (omega arith)

  begins_there : (index : ℕ) (notice : Notice) → is_begun notice ≡ true →
      (slice_get cluster.notices index ≡ Some notice)
      ⊎ ((k : ℕ) × (index ≡ length cluster.notices + k) × (slice_get told k ≡ Some notice)) →
      slice_get (processes.seen ++ calls) (new_place index) ≡ Some notice
  begins_there index notice begins (inl before) =
      ap (slice_get (processes.seen ++ calls)) (old_place index (slice_get_within cluster.notices index notice before))
      ∙ get_first processes.seen calls (is.place index) notice (is.begun index notice before begins)
  begins_there index notice begins (inr new) =
      ap (λ n. slice_get (processes.seen ++ calls) (new_place n)) new.1
      ∙ ap (slice_get (processes.seen ++ calls)) (later_place new.0)
      ∙ slice_second processes.seen calls (length (filter is_begun (take new.0 told)))
      ∙ passed_place is_begun told unseen new.0 notice new.2 begins

  last_there : (index at id : ℕ) (call other : Notice) → call_begun call ≡ Some id → call_begun other ≡ Some id →
      (slice_get cluster.notices index ≡ Some call)
      ⊎ ((k : ℕ) × (index ≡ length cluster.notices + k) × (slice_get told k ≡ Some call)) →
      (slice_get processes.seen at ≡ Some other)
      ⊎ ((k : ℕ) × (at ≡ length processes.seen + k) × (slice_get calls k ≡ Some other)) → at ≤ new_place index
  last_there index at id call other begins also (inl a) (inl b) =
      subst (λ n. at ≤ n) (sym (old_place index (slice_get_within cluster.notices index call a)))
      (is.last index at id call other a begins b also)
  last_there index at id call other begins also (inl a) (inr b) =
      absurd (fresh index b.0 id (call, a, begins) (other, b.2, also))
  last_there index at id call other begins also (inr a) (inl b) =
      let within = slice_get_within processes.seen at other b in
      subst (λ n. at ≤ n) (sym (ap new_place a.1 ∙ later_place a.0)) (omega arith)
  last_there index at id call other begins also (inr a) (inr b) =
      let there = passed_place is_begun told unseen a.0 call a.2 (id_begun call id begins) in
      let same = apart (length (filter is_begun (take a.0 told))) b.0 id (call, there, begins) (other, b.2, also) in
      let far = b.1 in
      subst (λ n. at ≤ n) (sym (ap new_place a.1 ∙ later_place a.0)) (omega arith)

  abbrev Found : ℕ → Notice → Type 0
  Found at notice = (index : ℕ) × (slice_get next.notices index ≡ Some notice)
      × ((other : ℕ) (call : Notice) → slice_get next.notices other ≡ Some call → is_begun call ≡ true →
      at < new_place other → index < other)

  -- a call of the cluster that began after an answer stands behind it
  behind : (at index : ℕ) → index < length cluster.notices →
      ((other : ℕ) (call : Notice) → slice_get cluster.notices other ≡ Some call → is_begun call ≡ true →
      at < is.place other → index < other) → (other : ℕ) (call : Notice) → is_begun call ≡ true →
      (slice_get cluster.notices other ≡ Some call)
      ⊎ ((k : ℕ) × (other ≡ length cluster.notices + k) × (slice_get told k ≡ Some call)) →
      at < new_place other → index < other
  behind at index within order other call begins (inl before) early =
      order other call before begins
      (subst (λ n. at < n) (old_place other (slice_get_within cluster.notices other call before)) early)
  behind at index within order other call begins (inr new) early = let far = new.1 in omega arith

  told_there : (at : ℕ) (notice : Notice) → is_told notice ≡ true →
      (slice_get processes.seen at ≡ Some notice)
      ⊎ ((k : ℕ) × (at ≡ length processes.seen + k) × (slice_get calls k ≡ Some notice)) → Found at notice
  told_there at notice tells (inl before) =
      let found = is.told at notice before tells in (
        found.0,
        subst (λ ns. slice_get ns found.0 ≡ Some notice) (sym grown) (get_first cluster.notices told found.0 notice found.1),
        λ other call there begins early. behind at found.0 (slice_get_within cluster.notices found.0 notice found.1) found.2 other call
            begins (get_split cluster.notices told other call (subst (λ ns. slice_get ns other ≡ Some call) grown there)) early,
      )
  told_there at notice tells (inr new) = absurd (begun_only (told ++ unseen) new.0 notice new.2 tells)

  pub acted_seen : IsClusterOf (processes_after processes event) next
  acted_seen = record {
    place = new_place;
    begun = λ index notice at begins. subst (λ ns. slice_get (processes.seen ++ ns) (new_place index) ≡ Some notice) (sym shows)
        (begins_there index notice begins
        (get_split cluster.notices told index notice (subst (λ ns. slice_get ns index ≡ Some notice) grown at)));
    last = λ index at id call other there begins seen also. last_there index at id call other begins also
        (get_split cluster.notices told index call (subst (λ ns. slice_get ns index ≡ Some call) grown there))
        (get_split processes.seen calls at other (subst (λ ns. slice_get (processes.seen ++ ns) at ≡ Some other) shows seen));
    told = λ at notice here tells. told_there at notice tells
        (get_split processes.seen calls at notice (subst (λ ns. slice_get (processes.seen ++ ns) at ≡ Some notice) shows here));
  }
