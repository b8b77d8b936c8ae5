-- Lines that are appended one after another.
use Rattle.std.proofs.Common.{◌≡◌, ◌<◌, ◌+◌, ◌∙◌, ℕ, List, [], ◌∷◌, ◌++◌, length, take, get_or, ap, sym, append_assoc, append-nil}
use Rattle.std.specs.List.{flat_map}
use Rattle.std.proofs.lemmas.Grind.{flat_map-append}
use Rattle.std.proofs.lemmas.List.{take_more}

-- the line of one more element was appended
pub one_more_shown : (f : ℕ → List ℕ) (xs : List ℕ) (i : ℕ) (text before after line : List ℕ) → i < length xs →
    before ≡ text ++ flat_map f (take i xs) → line ≡ f (get_or xs i 0) → after ≡ before ++ line →
    after ≡ text ++ flat_map f (take (i + 1) xs)
one_more_shown f xs i text before after line less so_far is appended =
    let done = flat_map f (take i xs) in
    let x = get_or xs i 0 in
    let step : flat_map f (take (i + 1) xs) ≡ done ++ f x =
    ap (λ ys. flat_map f ys) (take_more xs i 0 less) ∙ flat_map-append f (take i xs) (x ∷ []) ∙ ap (λ t. done ++ t) (append-nil (f x)) in
    appended ∙ ap (λ t. t ++ line) so_far ∙ ap (λ t. (text ++ done) ++ t) is ∙ append_assoc text done (f x)
    ∙ ap (λ t. text ++ t) (sym step)
