-- The names of a part of a node's map of whose objects it keeps a written version.
use Rattle.std.proofs.Common.{zero, suc, ◌≤◌, ◌-◌, [], ◌≡◌, ◌<◌, ◌+◌, ◌∙◌, ◌∷◌, ◌++◌, ℕ, List, Bool, Option, None, Some}
use Rattle.std.proofs.Common.{true, false, cond, drop, take, length, get_or}
use Rattle.std.proofs.Common.{slice_get, refl, sym, subst, ap, arith, MatchOption, append-nil}
use Rattle.std.proofs.lemmas.List.{get_or-drop, length-drop}
use Rattle.std.proofs.lemmas.List.Elements.{filter-append, filter_more}
use Rattle.std.proofs.lemmas.Option.{slice_get-get_or}
use Rattle.node_keeper.specs.Objects.{heard_names, objects_of}
use Rattle.node_keeper.specs.Written.{is_written, names_between, written_among}
use Rattle.node_keeper.specs.declared.objects.Objects.{Objects}

-- the name, if this holds
abbrev pub if_written : Bool → List ℕ → Option (List ℕ)
if_written b name = cond b (Some name) None

-- what a place of the map tells by its contract is its name, if the object is written
pub told_at : (objects : Objects) (index : ℕ) (told : Option (List ℕ)) → index < length (heard_names objects) →
    MatchOption (slice_get (heard_names objects) index) (told ≡ None)
    (λ name. told ≡ if_written (is_written (objects_of objects name)) name) →
    told ≡ if_written (is_written (objects_of objects (get_or (heard_names objects) index []))) (get_or (heard_names objects) index [])
told_at objects index told less is =
    subst (λ o. MatchOption o (told ≡ None) (λ name. told ≡ if_written (is_written (objects_of objects name)) name))
    (slice_get-get_or (heard_names objects) index [] less) is

-- no list has fewer elements than the empty one
take_none : (k : ℕ) → take {A = List ℕ} k [] ≡ []
take_none zero = refl
take_none (suc k) = refl

-- the first elements of a list in two parts
take_parts : (xs : List (List ℕ)) (n e : ℕ) → n ≤ e → take e xs ≡ take n xs ++ take (e - n) (drop n xs)
take_parts xs zero e le = let same : e ≡ e - 0 = omega arith in ap (λ k. take k xs) same
take_parts [] (suc n) zero le = absurd (omega (arith, le))
take_parts [] (suc n) (suc e) le = sym (take_none (suc e - suc n))
take_parts (x ∷ xs) (suc n) zero le = absurd (omega (arith, le))
take_parts (x ∷ xs) (suc n) (suc e) le =
    let left : e - n ≡ suc e - suc n = omega arith in
    ap (λ (ys : List (List ℕ)). x ∷ ys) (take_parts xs n e (omega (arith, le)) ∙ ap (λ k. take n xs ++ take k (drop n xs)) left)

-- what is left at a place is what is left at an earlier one, and what lies between them
pub left_parts : (objects : Objects) (next end : ℕ) → next ≤ end →
    names_between objects 0 end ≡ names_between objects 0 next ++ names_between objects next end
left_parts objects next end le =
    let names = heard_names objects in
    let written : List ℕ → Bool = λ name. is_written (objects_of objects name) in
    let whole : end - 0 ≡ end = omega arith in
    let part : next ≡ next - 0 = omega arith in
    ap (λ k. written_among objects (take k names)) whole ∙ ap (written_among objects) (take_parts names next end le)
    ∙ filter-append written (take next names) (take (end - next) (drop next names))
    ∙ ap (λ k. written_among objects (take k names) ++ names_between objects next end) part

-- one more place adds its name, if the object is written
written_step : (objects : Objects) (first step : ℕ) → first + step < length (heard_names objects) →
    written_among objects (take (step + 1) (drop first (heard_names objects)))
    ≡ written_among objects (take step (drop first (heard_names objects)))
    ++ cond (is_written (objects_of objects (get_or (heard_names objects) (first + step) [])))
    (get_or (heard_names objects) (first + step) [] ∷ []) []
written_step objects first step less =
    let names = heard_names objects in
    let written : List ℕ → Bool = λ name. is_written (objects_of objects name) in
    let within : step < length (drop first names) = omega (arith, length-drop first names) in
    filter_more written (drop first names) step [] within
    ∙ ap (λ name. written_among objects (take step (drop first names)) ++ cond (written name) (name ∷ []) [])
    (get_or-drop first names step [])

-- the name of a place that is written stands behind those before it
pub written_more : (objects : Objects) (first step : ℕ) (name : List ℕ) (told : Option (List ℕ)) →
    first + step < length (heard_names objects) → told ≡ Some name →
    told ≡ if_written (is_written (objects_of objects (get_or (heard_names objects) (first + step) [])))
    (get_or (heard_names objects) (first + step) []) →
    written_among objects (take step (drop first (heard_names objects))) ++ name ∷ []
    ≡ written_among objects (take (step + 1) (drop first (heard_names objects)))
written_more objects first step name told less some is =
    let here = get_or (heard_names objects) (first + step) [] in
    ap (λ more. written_among objects (take step (drop first (heard_names objects))) ++ more)
    (go (is_written (objects_of objects here)) here (sym is ∙ some))
    ∙ sym (written_step objects first step less)
  where
    go : (b : Bool) (here : List ℕ) → if_written b here ≡ Some name → name ∷ [] ≡ cond b (here ∷ []) []
    go true here e = let same : here ≡ name = cc in ap (λ (n : List ℕ). n ∷ []) (sym same)
    go false here e = absurd (cc)

-- a place whose object is not written adds no name
pub written_no_more : (objects : Objects) (first step : ℕ) (told : Option (List ℕ)) → first + step < length (heard_names objects) →
    told ≡ None →
    told ≡ if_written (is_written (objects_of objects (get_or (heard_names objects) (first + step) [])))
    (get_or (heard_names objects) (first + step) []) →
    written_among objects (take step (drop first (heard_names objects)))
    ≡ written_among objects (take (step + 1) (drop first (heard_names objects)))
written_no_more objects first step told less none is =
    let here = get_or (heard_names objects) (first + step) [] in
    let before = written_among objects (take step (drop first (heard_names objects))) in
    sym (append-nil before)
    ∙ ap (λ more. before ++ more) (go (is_written (objects_of objects here)) here (sym is ∙ none))
    ∙ sym (written_step objects first step less)
  where
    go : (b : Bool) (here : List ℕ) → if_written b here ≡ None → [] ≡ cond b (here ∷ []) []
    go true here e = absurd (cc)
    go false here e = refl
