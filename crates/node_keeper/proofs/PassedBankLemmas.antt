-- Banks of positions before the start, which a node closes one after another.
use Rattle.std.proofs.Common.{◌≡◌, ◌<◌, ◌+◌, ℕ, Bool, true, false, List, [], ◌∷◌, ◌++◌, drop, get_or, length, map, take}
use Rattle.std.proofs.Common.{option_to_list, refl, sym, subst, ap, ◌∙◌}
use Rattle.std.proofs.lemmas.List.{drop_more, map-id, take-append-drop}
use Rattle.std.specs.List.{AllByRecursion}
use Rattle.letter.specs.declared.letter.NamedLetter.{NamedLetter}
use Rattle.local_object.specs.Local.{LocalObject}
use Rattle.deeds.proofs.NameLemmas.{own_named}
use Rattle.object_letters.specs.Closing.{after_close}
use Rattle.open_calls.proofs.ListLemmas.{all_append}
use Rattle.recoveries.specs.Records.{LogRecord}
use Rattle.node_effects.specs.Work.{IsGrown, no_growth}
use Rattle.node_effects.specs.declared.work.Work.{Work}
use Rattle.node_effects.proofs.GrowthLemmas.{grown_none, grown_then}
use Rattle.node_keeper.specs.Closing.{CanClosePassed, PassesBank, PassesBanks, after_pass, after_raise, all_passed_records, closed_records}
use Rattle.node_keeper.specs.Closing.{passed_records, raised_records}
use Rattle.node_keeper.specs.Delivering.{CanCloseAfter, HandlesAs, KeepsRest}
use Rattle.node_keeper.specs.declared.delivered.Delivered.{Delivered}
use Rattle.node_keeper.specs.Fitting.{IsLoggable}
use Rattle.node_keeper.specs.Objects.{objects_of}
use Rattle.node_keeper.specs.declared.keeper.Keeper.{Keeper}
use Rattle.node_keeper.proofs.AnewLemmas.{all_first, all_second}

pub rest_then : (a b c : Keeper) → KeepsRest a b → KeepsRest b c → KeepsRest a c
rest_then a b c first second = record {
  file = second.file ∙ first.file;
  digest = second.digest ∙ first.digest;
  ids = second.ids ∙ first.ids;
}

module _ (name : List ℕ) (position : ℕ) (old new : Keeper) (before after : Work)
    (passes : PassesBank name position old before new after) where
  -- everything but the objects stays
  pass_rest : KeepsRest old new
  pass_rest = record {
    file = passes.closes.file ∙ passes.raises.file;
    digest = passes.closes.digest ∙ passes.raises.digest;
    ids = passes.closes.ids ∙ passes.raises.ids;
  }

  raise_local : objects_of passes.middle.objects name ≡ after_raise (objects_of old.objects name) position
  raise_local =
      passes.raises.done.changed.objects name
      ∙ own_named (objects_of old.objects) name passes.raises.done.local ∙ passes.raises.done.done.local

  -- what the node then keeps of the object
  pass_local : objects_of new.objects name ≡ after_pass (objects_of old.objects name) position
  pass_local =
      passes.closes.done.changed.objects name
      ∙ own_named (objects_of passes.middle.objects) name passes.closes.done.local ∙ passes.closes.done.done.local
      ∙ ap (λ l. after_close l position) raise_local

  -- what the log gets can be written
  pub pass_fits : AllByRecursion (IsLoggable old.digest) (passed_records name (objects_of old.objects name) position)
  pass_fits =
      let local = objects_of old.objects name in
      all_append (IsLoggable old.digest) (raised_records name local position)
      (closed_records name (after_raise local position) position) passes.raises.fits
      (subst (λ (l : LocalObject). AllByRecursion (IsLoggable old.digest) (closed_records name l position)) raise_local
      (subst (λ d. AllByRecursion (IsLoggable d) (closed_records name (objects_of passes.middle.objects name) position))
      passes.raises.digest passes.closes.fits))

  -- the same, after work that adds nothing
  pass_after : (first : Work) → IsGrown first before no_growth → PassesBank name position old first new after
  pass_after first none = record {
    middle = passes.middle;
    between = passes.between;
    raises = record {
      done = passes.raises.done;
      grown = grown_then first before passes.between no_growth _ none passes.raises.grown;
      fits = passes.raises.fits;
      file = passes.raises.file;
      digest = passes.raises.digest;
      ids = passes.raises.ids;
    };
    closes = passes.closes;
  }

pub passed_rest : (name : List ℕ) (positions : List ℕ) (old new : Keeper) (before after : Work) →
    PassesBanks name positions old before new after → KeepsRest old new
passed_rest name [] old new before after is = record {
  file = ap (λ (k : Keeper). k.file) is.0;
  digest = ap (λ (k : Keeper). k.digest) is.0;
  ids = ap (λ (k : Keeper). k.ids) is.0;
}
passed_rest name (position ∷ positions) old new before after (middle, between, is, rest) =
    rest_then old middle new (pass_rest name position old middle before between is)
    (passed_rest name positions middle new between after rest)

-- one more bank
pub passed_more : (name : List ℕ) (positions : List ℕ) (position : ℕ) (old middle new : Keeper) (before between after : Work) →
    PassesBanks name positions old before middle between → PassesBank name position middle between new after →
    PassesBanks name (positions ++ position ∷ []) old before new after
passed_more name [] position old middle new before between after is next = (
  new,
  after,
  subst (λ k. PassesBank name position k before new after) is.0 (pass_after name position middle new between after next before is.1),
  (refl, grown_none after),
)
passed_more name (first ∷ positions) position old middle new before between after (k, work, is, rest) next =
    (k, work, is, passed_more name positions position k middle new work between after rest next)

-- what the log got can be written
pub passed_fits : (name : List ℕ) (positions : List ℕ) (old new : Keeper) (before after : Work) →
    PassesBanks name positions old before new after →
    AllByRecursion (IsLoggable old.digest) (all_passed_records name (objects_of old.objects name) positions)
passed_fits name [] old new before after is = tt
passed_fits name (position ∷ positions) old new before after (middle, between, is, rest) =
    let local = objects_of old.objects name in
    all_append (IsLoggable old.digest) (passed_records name local position)
    (all_passed_records name (after_pass local position) positions) (pass_fits name position old middle before between is)
    (subst (λ (l : LocalObject). AllByRecursion (IsLoggable old.digest) (all_passed_records name l positions))
    (pass_local name position old middle before between is)
    (subst (λ d. AllByRecursion (IsLoggable d) (all_passed_records name (objects_of middle.objects name) positions))
    (pass_rest name position old middle before between is).digest
    (passed_fits name positions middle new between after rest)))

-- what the log gets for the next bank is a part of what it gets for all
pub passed_part : (P : LogRecord → Type 0) (name : List ℕ) (positions more : List ℕ) (position : ℕ) (old new : Keeper)
    (before after : Work) → PassesBanks name positions old before new after →
    AllByRecursion P (all_passed_records name (objects_of old.objects name) (positions ++ position ∷ more)) →
    AllByRecursion P (passed_records name (objects_of new.objects name) position)
passed_part P name [] more position old new before after is all =
    let local = objects_of old.objects name in
    subst (λ (k : Keeper). AllByRecursion P (passed_records name (objects_of k.objects name) position)) (sym is.0)
    (all_first P (passed_records name local position) (all_passed_records name (after_pass local position) more) all)
passed_part P name (first ∷ positions) more position old new before after (middle, between, is, rest) all =
    let local = objects_of old.objects name in
    passed_part P name positions more position middle new between after rest
    (subst (λ (l : LocalObject). AllByRecursion P (all_passed_records name l (positions ++ position ∷ more)))
    (sym (pass_local name first old middle before between is))
    (all_second P (passed_records name local first)
    (all_passed_records name (after_pass local first) (positions ++ position ∷ more)) all))

-- Positions that a loop goes over

-- a list, where a loop has gone over some of its elements, and this one is the next
pub split_at : (xs all : List ℕ) (x : ℕ) → map (λ n. n) xs ≡ take (length xs) all →
    (length xs < length all) × (x ≡ get_or all (length xs) x) → all ≡ xs ++ x ∷ drop (length xs + 1) all
split_at xs all x front next =
    sym (take-append-drop (length xs) all)
    ∙ ap (λ (ys : List ℕ). ys ++ drop (length xs) all) (sym front ∙ map-id xs)
    ∙ ap (λ (ys : List ℕ). xs ++ ys)
    (drop_more all (length xs) x next.0 ∙ ap (λ n. n ∷ drop (length xs + 1) all) (sym next.1))

-- Letters that were handled, before banks are closed

-- everything but the objects stays
pub handled_rest : (asks : Bool) (asker : ℕ) (it : NamedLetter) (old new : Keeper) (before after : Work) (result : Delivered) →
    HandlesAs asks asker it old before new after result → KeepsRest old new
handled_rest true asker it old new before after result is = is.1.rest
handled_rest false asker it old new before after result (ended, told, takes) = takes.rest

-- what the log gets as banks are closed behind a letter can be written, if it can whatever comes of the letter
pub closed_after : (asks : Bool) (asker : ℕ) (it : NamedLetter) (old new : Keeper) (before after : Work) (result : Delivered) →
    HandlesAs asks asker it old before new after result → CanCloseAfter asks it old →
    CanClosePassed new.digest it.name (objects_of new.objects it.name)
closed_after true asker it old new before after result is can =
    let done = is.1.done in
    subst (λ d. CanClosePassed d it.name (objects_of new.objects it.name)) (sym is.1.rest.digest)
    (subst (λ (l : LocalObject). CanClosePassed old.digest it.name l)
    (sym (done.changed.objects it.name ∙ own_named (objects_of old.objects) it.name done.local ∙ done.done.local)) can)
closed_after false asker it old new before after result (ended, told, takes) can =
    subst (λ d. CanClosePassed d it.name (objects_of new.objects it.name)) (sym takes.rest.digest)
    (can new.objects takes.letters (option_to_list ended) takes.done)
