-- Lists of pieces, word by word.
use Rattle.std.proofs.Common.{◌≡◌, ℕ, zero, suc, ◌+◌, ◌<◌, List, [], ◌∷◌, ◌++◌, length, take, get_or, map, refl, ap}
use Rattle.std.proofs.Common.{sym, ◌∙◌, arith, subst, Bor, inl, inr, codes, ◌⊎◌}
use Rattle.std.proofs.lemmas.List.{take_more, map-append}
use Rattle.std.specs.Prelude.{Result, Ok, Err, IsErrAnd, MatchResult}
use Rattle.tag.specs.declared.refusal.Refusal.TheVariants.{NoMemory}
use Rattle.words.specs.Hexadecimal.{IsHexadecimal}
use Rattle.piece.specs.declared.piece.Piece.{Piece}
use Rattle.coding_commands.specs.declared.request.CodingRequest.{CodingRequest}
use Rattle.coding_commands.specs.declared.request.CodingRequest.TheVariants as of
use Rattle.coding_commands.specs.declared.fault.Fault.{Fault}
use Rattle.coding_commands.specs.declared.fault.Fault.TheVariants.{BadArgument, Refused}
use Rattle.coding_commands.specs.Request.{SpellPieces, SpellsPiece, HasCodingForm, SpellsCoding, IsCodingFaultOf}
use Rattle.words.specs.Word.{Word}

-- one more word and its piece
pub SpellPieces-snoc : (len : ℕ) (ws : List Word) (ps : List Piece) (w : Word) (p : Piece) → SpellPieces len ws ps → SpellsPiece len w p
    → SpellPieces len (ws ++ w ∷ []) (ps ++ p ∷ [])
SpellPieces-snoc len [] [] w p are is = (is, tt)
SpellPieces-snoc len [] (q ∷ ps) w p are is = absurd are
SpellPieces-snoc len (v ∷ ws) [] w p are is = absurd are
SpellPieces-snoc len (v ∷ ws) (q ∷ ps) w p are is = (are.0, SpellPieces-snoc len ws ps w p are.1 is)

-- each of the words has its piece
pub SpellPieces-at : (len : ℕ) (ws : List (Bor Word)) (ps : List Piece) (i : ℕ) (d : Bor Word)
    → SpellPieces len (map (λ w. w.now) ws) ps → i < length ws
    → (p : Piece) × SpellsPiece len (get_or ws i d).now p
SpellPieces-at len [] ps i d are below = absurd (omega arith)
SpellPieces-at len (w ∷ ws) [] i d are below = absurd are
SpellPieces-at len (w ∷ ws) (p ∷ ps) zero d are below = (p, are.0)
SpellPieces-at len (w ∷ ws) (p ∷ ps) (suc i) d are below = SpellPieces-at len ws ps i d are.1 (omega arith)

-- one more word that is a piece
pub SpellPieces-more : (len : ℕ) (ws : List (Bor Word)) (i : ℕ) (d : Bor Word) (ps : List Piece) (p : Piece) → i < length ws
    → SpellPieces len (map (λ w. w.now) (take i ws)) ps → SpellsPiece len (get_or ws i d).now p
    → SpellPieces len (map (λ w. w.now) (take (i + 1) ws)) (ps ++ p ∷ [])
SpellPieces-more len ws i d ps p below are is =
    let P : List Word → Type 0 = λ xs. SpellPieces len xs (ps ++ p ∷ []) in
    subst P (sym (ap (map (λ w. w.now)) (take_more ws i d below) ∙ map-append (λ w. w.now) (take i ws) (get_or ws i d ∷ [])))
    (SpellPieces-snoc len (map (λ w. w.now) (take i ws)) ps (get_or ws i d).now p are is)

-- ---- faults

-- what holds of the error that is passed on
pub err_of : {T : Type 0} (r : Result T Fault) (e : Fault) (P : T → Type 0) (Q : Fault → Type 0)
    → IsErrAnd r (λ y. y ≡ e) → Q e → MatchResult r P Q
err_of (Ok x) e P Q is holds = absurd is
err_of (Err y) e P Q is holds = subst Q (sym is) holds

-- a fault of memory, or of words that have the form and spell nothing
pub fault_of : (words : List Word) (e : Fault) (A : Type 0) → (e ≡ Refused NoMemory) ⊎ ((e ≡ BadArgument) × A)
    → HasCodingForm words → (A → (r : CodingRequest) → ¬ (SpellsCoding words r)) → IsCodingFaultOf words e
fault_of words e A (inl memory) form none = subst (IsCodingFaultOf words) (sym memory) refl
fault_of words e A (inr bad) form none = subst (IsCodingFaultOf words) (sym bad.0) (form, none bad.1)

-- words of `fragments` whose last word writes no bytes
pub no_bytes : (a b c : Word) → ((bytes : List ℕ) → ¬ (IsHexadecimal c bytes)) → (r : CodingRequest)
    → ¬ (SpellsCoding (codes "fragments" ∷ a ∷ b ∷ c ∷ []) r)
no_bytes a b c none (of.Fragments k n value) s =
    let same : s.2 ≡ c = sym (ap (λ (ws : List Word). get_or ws 3 []) s.3) in
    let P : Word → Type 0 = λ w. IsHexadecimal w value in
    none value (subst P same s.6)
no_bytes a b c none (of.Decode k len pieces) s =
    let clash : ◌≡◌ {A = ℕ} 102 100 = ap (λ (ws : List Word). get_or (get_or ws 0 []) 0 0) s.3 in absurd (omega arith)
