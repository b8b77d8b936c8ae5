-- The texts of refusals, by their numbers.
use Rattle.std.proofs.Common.{◌≡◌, ℕ, List, [], ◌∷◌, ◌++◌, get_or, refl, sym, ap, ◌∙◌}
use Rattle.tag.specs.Refusal.{number_of, refusal_text}
use Rattle.tag.specs.declared.refusal.Refusal.{Refusal}
use Rattle.tag.specs.declared.refusal.Refusal.TheVariants.{NoMemory, BadLayout, NoObject, ObjectExists, TooLong, NoCall}
use Rattle.tag.specs.declared.refusal.Refusal.TheVariants.{NotNow, NoMessage, Down, WrongCode, MovePending, Full, Stuck}
use Rattle.tag.specs.declared.refusal.Refusal.TheVariants.{GaveUp, BadPieces, Collected, Stranger}

-- two refusals of one number are the same
pub same_refusal : (r s : Refusal) → number_of r ≡ number_of s → r ≡ s
same_refusal r s e = sym (at_number r) ∙ (ap numbered e ∙ at_number s)
  where
    numbered : ℕ → Refusal
    numbered n =
        get_or (NoMemory ∷ NoMemory ∷ BadLayout ∷ NoObject ∷ ObjectExists ∷ TooLong ∷ NoCall ∷ NotNow ∷ NoMessage ∷ Down ∷ WrongCode
        ∷ MovePending ∷ Full ∷ Stuck ∷ GaveUp ∷ BadPieces ∷ Collected ∷ Stranger ∷ []) n NoMemory

    at_number : (r : Refusal) → numbered (number_of r) ≡ r
    at_number NoMemory = refl
    at_number BadLayout = refl
    at_number NoObject = refl
    at_number ObjectExists = refl
    at_number TooLong = refl
    at_number NoCall = refl
    at_number NotNow = refl
    at_number NoMessage = refl
    at_number Down = refl
    at_number WrongCode = refl
    at_number MovePending = refl
    at_number Full = refl
    at_number Stuck = refl
    at_number GaveUp = refl
    at_number BadPieces = refl
    at_number Collected = refl
    at_number Stranger = refl

-- a text is that of each refusal of this number where it is that of one
pub has_text : {answer : ℕ} {text : List ℕ} (s : Refusal) → answer ≡ number_of s → text ≡ refusal_text s ++ 0 ∷ []
    → (r : Refusal) → answer ≡ number_of r → text ≡ refusal_text r ++ 0 ∷ []
has_text s numbered is r also = is ∙ ap (λ t. refusal_text t ++ 0 ∷ []) (same_refusal s r (sym numbered ∙ also))
