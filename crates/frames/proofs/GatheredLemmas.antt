-- Parts to which bytes are added.
use Rattle.std.proofs.Common.{◌≡◌, ℕ, ◌+◌, List, [], ◌∷◌, ◌++◌, length}
use Rattle.std.proofs.Common.{sym, ap, ◌∙◌, append-nil, length-append}
use Rattle.std.specs.List.{concat}
use Rattle.std.proofs.lemmas.List.Folds.{concat-append}

one_more : (parts : List (List ℕ)) (part : List ℕ) → concat (parts ++ part ∷ []) ≡ concat parts ++ part
one_more parts part = concat-append parts (part ∷ []) ∙ ap (λ (t : List ℕ). concat parts ++ t) (append-nil part)

-- the bytes behind the parts are made the last part
pub closed : (old new : List (List ℕ)) (last left part : List ℕ) → new ≡ old ++ part ∷ [] → part ≡ last → left ≡ []
    → concat new ++ left ≡ concat old ++ last
closed old new last left part pushed is none =
    ap (λ (t : List ℕ). concat new ++ t) none ∙ append-nil (concat new) ∙ ap concat pushed ∙ one_more old part
    ∙ ap (λ (t : List ℕ). concat old ++ t) is

-- a part is added behind all bytes
pub part_added : (parts new : List (List ℕ)) (last part : List ℕ) (view : List ℕ) → new ≡ parts ++ part ∷ [] → last ≡ []
    → concat parts ++ last ≡ view → concat new ++ last ≡ view ++ part
part_added parts new last part view pushed none is =
    ap (λ (t : List ℕ). concat new ++ t) none ∙ append-nil (concat new) ∙ ap concat pushed ∙ one_more parts part
    ∙ ap (λ (t : List ℕ). t ++ part)
    (sym (append-nil (concat parts)) ∙ ap (λ (t : List ℕ). concat parts ++ t) (sym none) ∙ is)

-- as many bytes as there were, and those that were added
pub counted : (len more : ℕ) (old new added : List ℕ) → len ≡ length old + more → more ≡ length added → new ≡ old ++ added
    → len ≡ length new
counted len more old new added is long same =
    is ∙ ap (λ (n : ℕ). length old + n) long ∙ sym (length-append old added) ∙ sym (ap length same)
