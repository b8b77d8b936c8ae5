-- Writing one thing after another.
use Rattle.std.proofs.Common.{◌≡◌, ℕ, ◌+◌, ◌-◌, ◌<◌, ◌≤◌, List, [], ◌∷◌, ◌++◌, length, get_or}
use Rattle.std.proofs.Common.{take, drop, Option, Some, None, Result, Ok, Err, OnOk}
use Rattle.std.proofs.Common.{sym, ap, subst, ◌∙◌, append_assoc, append-nil, take-append-drop, take_all, length-drop, arith}
use Rattle.std.specs.List.{flat_map}
use Rattle.std.proofs.lemmas.Grind.{flat_map-append}
use Rattle.std.proofs.lemmas.List.{take_more}
use Rattle.std.specs.Io.KnownBytes.{Appends, Keeps}
use Rattle.frames.specs.Writing.{Writes}

-- what a writer holds, where that is known
abbrev pub Held : Type 0
Held = Option (List ℕ)

Appends_then : (a b c : Held) (xs ys : List ℕ) → Appends a b xs → Appends b c ys → Appends a c (xs ++ ys)
Appends_then None b c xs ys p q = tt
Appends_then (Some us) None c xs ys p q = absurd p
Appends_then (Some us) (Some bs) None xs ys p q = absurd q
Appends_then (Some us) (Some bs) (Some cs) xs ys p q = q ∙ ap (λ (t : List ℕ). t ++ ys) p ∙ append_assoc us xs ys

pub Appends_none : (a : Held) → Appends a a []
Appends_none None = tt
Appends_none (Some xs) = sym (append-nil xs)

Appends_kept : (a b c : Held) (xs : List ℕ) → Appends a b xs → Keeps b c → Appends a c xs
Appends_kept None b c xs p q = tt
Appends_kept (Some us) None c xs p q = absurd p
Appends_kept (Some us) (Some bs) None xs p q = absurd q
Appends_kept (Some us) (Some bs) (Some cs) xs p q = q ∙ p

-- ---- some bytes, by several writes

-- what is gone from the bytes was written
abbrev pub Gone : List ℕ → List ℕ → Held → Held → Type 0
Gone bytes rest old new = (done : List ℕ) × (bytes ≡ done ++ rest) × Appends old new done

-- `&rest[count..]`
pub rest_of : (count : ℕ) (rest : List ℕ) → take (length rest - count) (drop count rest) ≡ drop count rest
rest_of count rest = take_all (length rest - count) (drop count rest) (omega (arith, length-drop count rest))

pub gone_more : (bytes rest next : List ℕ) (count : ℕ) (old mid new : Held) → next ≡ drop count rest → Gone bytes rest old mid
    → Appends mid new (take count rest) → Gone bytes next old new
gone_more bytes rest next count old mid new is p q = (
  p.0 ++ take count rest,
  p.1
      ∙ ap (λ (t : List ℕ). p.0 ++ t) (sym (take-append-drop count rest) ∙ ap (λ (t : List ℕ). take count rest ++ t) (sym is))
      ∙ sym (append_assoc p.0 (take count rest) next),
  Appends_then old mid new p.0 (take count rest) p.2 q,
)

pub gone_kept : (bytes rest next : List ℕ) (old mid new : Held) → next ≡ rest → Gone bytes rest old mid → Keeps mid new
    → Gone bytes next old new
gone_kept bytes rest next old mid new is p q =
    (p.0, p.1 ∙ ap (λ (t : List ℕ). p.0 ++ t) (sym is), Appends_kept old mid new p.0 p.2 q)

-- ---- one thing after another

abbrev pub lost : {E : Type 0} (T : Type 0) → E → Result T E
lost T e = Err e

abbrev pub wrote : {T : Type 0} (E : Type 0) → T → Result T E
wrote E x = Ok x

-- all of a front was written, and this of what follows it
pub Writes_then : {T S E : Type 0} (a b c : Held) (x : S) (r : Result T E) (xs ys : List ℕ) → Writes a b (wrote E x) xs → Writes b c r ys
    → Writes a c r (xs ++ ys)
Writes_then a b c x (Ok z) xs ys p q = Appends_then a b c xs ys p q
Writes_then a b c x (Err e) xs ys p q =
    let (front, back, split, got) = q in
    (xs ++ front, back, ap (λ (t : List ℕ). xs ++ t) split ∙ sym (append_assoc xs front back), Appends_then a b c xs front p got)

-- a front was not written whole
pub Writes_lost : {E : Type 0} (T S : Type 0) (a b : Held) (e : E) (xs ys : List ℕ) → Writes a b (lost S e) xs
    → Writes a b (lost T e) (xs ++ ys)
Writes_lost T S a b e xs ys p =
    let (front, back, split, got) = p in
    (front, back ++ ys, ap (λ (t : List ℕ). t ++ ys) split ∙ append_assoc front back ys, got)

pub Writes_as : {T E : Type 0} (a b : Held) (r : Result T E) (xs ys : List ℕ) → xs ≡ ys → Writes a b r xs → Writes a b r ys
Writes_as a b r xs ys e p = subst (Writes a b r) e p

-- ---- several things, of each of which a function of it is written

pub next_in_order : (f : List ℕ → List ℕ) (strings : List (List ℕ)) (i : ℕ) (s d : List ℕ) → i < length strings
    → s ≡ get_or strings i d → flat_map f (take (i + 1) strings) ≡ flat_map f (take i strings) ++ f s
next_in_order f strings i s d lt is =
    ap (λ (ss : List (List ℕ)). flat_map f ss) (take_more strings i d lt)
    ∙ flat_map-append f (take i strings) (get_or strings i d ∷ [])
    ∙ ap (λ (t : List ℕ). flat_map f (take i strings) ++ t)
    (append-nil (f (get_or strings i d)) ∙ ap (λ (t : List ℕ). f t) (sym is))

pub strings_more : (f : List ℕ → List ℕ) (a b c : Held) (strings : List (List ℕ)) (i : ℕ) (s d : List ℕ) → i < length strings
    → s ≡ get_or strings i d → Appends a b (flat_map f (take i strings)) → Appends b c (f s)
    → Appends a c (flat_map f (take (i + 1) strings))
strings_more f a b c strings i s d lt is p q =
    subst (Appends a c) (sym (next_in_order f strings i s d lt is))
    (Appends_then a b c (flat_map f (take i strings)) (f s) p q)

pub strings_lost : {E : Type 0} (f : List ℕ → List ℕ) (a b c : Held) (e : E) (strings : List (List ℕ)) (i : ℕ) (s d : List ℕ)
    → i < length strings → s ≡ get_or strings i d → Appends a b (flat_map f (take i strings))
    → Writes b c (lost (Unit {0}) e) (f s) → Writes a c (lost (Unit {0}) e) (flat_map f strings)
strings_lost f a b c e strings i s d lt is p q =
    let before = flat_map f (take i strings) in
    let behind = flat_map f (drop (i + 1) strings) in
    let whole : flat_map f strings ≡ flat_map f (take i strings) ++ (f s ++ flat_map f (drop (i + 1) strings)) =
    ap (λ (ss : List (List ℕ)). flat_map f ss) (sym (take-append-drop (i + 1) strings))
    ∙ flat_map-append f (take (i + 1) strings) (drop (i + 1) strings)
    ∙ ap (λ (t : List ℕ). t ++ flat_map f (drop (i + 1) strings)) (next_in_order f strings i s d lt is)
    ∙ append_assoc before (f s) behind in
    Writes_as a c (lost (Unit {0}) e) _ (flat_map f strings) (sym whole)
    (Writes_then a b c (tt {0}) (lost (Unit {0}) e) before (f s ++ behind) p
    (Writes_lost (Unit {0}) (Unit {0}) b c e (f s) behind q))

pub strings_done : (f : List ℕ → List ℕ) (a b : Held) (strings : List (List ℕ)) (i : ℕ) → length strings ≤ i
    → Appends a b (flat_map f (take i strings)) → Appends a b (flat_map f strings)
strings_done f a b strings i le p = subst (λ (ss : List (List ℕ)). Appends a b (flat_map f ss)) (take_all i strings le) p

-- parts are written as they are
abbrev pub as_it_is : List ℕ → List ℕ
as_it_is part = part

-- ---- bytes that wait

-- what was written to a writer whose bytes are known
pub added : {T E : Type 0} (r : Result T E) (a b xs : List ℕ) → Writes (Some a) (Some b) r xs → OnOk r (b ≡ a ++ xs)
added (Ok x) a b xs p = p
added (Err e) a b xs p = tt

-- one thing is added behind another
pub added_then : (a b c xs ys : List ℕ) → b ≡ a ++ xs → c ≡ b ++ ys → c ≡ a ++ (xs ++ ys)
added_then a b c xs ys p q = q ∙ ap (λ (t : List ℕ). t ++ ys) p ∙ append_assoc a xs ys

pub added_last : {T E : Type 0} (r : Result T E) (a b c xs ys : List ℕ) → b ≡ a ++ xs → OnOk r (c ≡ b ++ ys)
    → OnOk r (c ≡ a ++ (xs ++ ys))
added_last (Ok x) a b c xs ys p q = added_then a b c xs ys p q
added_last (Err e) a b c xs ys p q = tt
