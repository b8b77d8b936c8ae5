-- What was read, taken apart, and the small parts of a frame.
use Rattle.std.proofs.Common.{◌≡◌, ◌⊎◌, ℕ, ◌≤◌, Bool, true, false, cond, ltb, eqb, List, [], ◌∷◌, ◌++◌, length, take, drop}
use Rattle.std.proofs.Common.{Result, Ok, Err, refl, sym, ap, subst, ◌∙◌, arith, inl, inr}
use Rattle.std.proofs.lemmas.Bool.{ltb-false, le-ltb, eqb-true}
use Rattle.std.proofs.lemmas.List.{take_at, drop_at, take-append-drop, length-append, length-take}
use Rattle.frames.specs.declared.error.Fault.{Fault}
use Rattle.frames.specs.declared.error.Fault.TheVariants.{UnexpectedEnd, NoLineEnd}
use Rattle.words.proofs.PartLemmas.{bind_ok, guarded, guarded_above}
use Rattle.frames.specs.Reading.{leaving, byte_at, expected_at, line_end_at, bytes_at}

-- which way a test went
pub chosen : {A : Type 0} (b : Bool) (x y z : A) → cond b x y ≡ z → ((b ≡ true) × (x ≡ z)) ⊎ ((b ≡ false) × (y ≡ z))
chosen true x y z e = inl (refl, e)
chosen false x y z e = inr (refl, e)

abbrev parsed : {A : Type 0} → A → Result A (Fault × List ℕ)
parsed x = Ok x

pub ok_is : {A : Type 0} (x y : A) → parsed x ≡ parsed y → x ≡ y
ok_is x y e = cc

pub leaving_ok : {A : Type 0} (r : Result A Fault) (rest : List ℕ) (x : A × List ℕ) → leaving r rest ≡ Ok x → (r ≡ Ok x.0) × (rest ≡ x.1)
leaving_ok {A = A} (Ok a) rest x e =
    let p = ok_is (a, rest) x e in
    (ap (λ (q : A × List ℕ). Ok q.0) p, ap (λ (q : A × List ℕ). q.1) p)
leaving_ok (Err d) rest x e = absurd cc

pub byte_ok : (bytes : List ℕ) (x : ℕ × List ℕ) → byte_at bytes ≡ Ok x → bytes ≡ x.0 ∷ x.1
unfolding byte_at
byte_ok [] x e = absurd cc
byte_ok (b ∷ bytes) x e = ap (λ (q : ℕ × List ℕ). q.0 ∷ q.1) (ok_is (b, bytes) x e)

pub expected_ok : (expected : ℕ) (fault : Fault) (bytes : List ℕ) (x : ℕ × List ℕ) → expected_at expected fault bytes ≡ Ok x
    → bytes ≡ expected ∷ x.1
unfolding expected_at
expected_ok expected fault bytes x e =
    let b = bind_ok (byte_at bytes) (λ b. cond (eqb b.0 expected) (Ok b) (Err (fault, b.1))) x e in
    let g = guarded (eqb b.0.0 expected) (Ok b.0) (fault, b.0.1) x b.2 in
    byte_ok bytes b.0 b.1
    ∙ ap (λ (n : ℕ). n ∷ b.0.1) (eqb-true b.0.0 expected g.0)
    ∙ ap (λ (q : ℕ × List ℕ). expected ∷ q.1) (ok_is b.0 x g.1)

pub line_end_ok : (bytes : List ℕ) (x : ℕ × List ℕ) → line_end_at bytes ≡ Ok x → bytes ≡ 13 ∷ 10 ∷ x.1
unfolding line_end_at
line_end_ok bytes x e =
    let cr = bind_ok (expected_at 13 NoLineEnd bytes) (λ cr. expected_at 10 NoLineEnd cr.1) x e in
    expected_ok 13 NoLineEnd bytes cr.0 cr.1 ∙ ap (λ (rest : List ℕ). 13 ∷ rest) (expected_ok 10 NoLineEnd cr.0.1 x cr.2)

pub bytes_ok : (n : ℕ) (bytes : List ℕ) (x : List ℕ × List ℕ) → bytes_at n bytes ≡ Ok x → (bytes ≡ x.0 ++ x.1) × (length x.0 ≡ n)
unfolding bytes_at
bytes_ok n bytes x e =
    let g = guarded_above (ltb (length bytes) n) (UnexpectedEnd, []) (Ok (take n bytes, drop n bytes)) x e in
    let long : n ≤ length bytes = ltb-false _ _ g.0 in
    subst (λ (q : List ℕ × List ℕ). (bytes ≡ q.0 ++ q.1) × (length q.0 ≡ n)) (ok_is (take n bytes, drop n bytes) x g.1)
    (sym (take-append-drop n bytes), omega (arith, length-take n bytes))

pub line_end_again : (rest : List ℕ) → line_end_at (13 ∷ 10 ∷ rest) ≡ Ok (10, rest)
unfolding line_end_at expected_at byte_at
line_end_again rest = refl

pub bytes_again : (text rest : List ℕ) → bytes_at (length text) (text ++ rest) ≡ Ok (text, rest)
unfolding bytes_at
bytes_again text rest =
    let long : ltb (length (text ++ rest)) (length text) ≡ false = le-ltb _ _ (omega (arith, length-append text rest)) in
    rw (long, take_at text rest (length text) refl, drop_at text rest (length text) refl) refl
