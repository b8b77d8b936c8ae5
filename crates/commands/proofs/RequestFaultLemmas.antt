-- Requests and faults of the command line.
use Rattle.std.proofs.Common.{◌≡◌, ◌∙◌, ℕ, List, [], ◌∷◌, get_or, refl, ap, sym, arith, subst, inl, inr, codes}
use Rattle.words.specs.Number.{IsNumber}
use Rattle.soak_plan.specs.declared.plan.Plan.{Plan}
use Rattle.words.specs.Word.{Word}
use Rattle.coding_commands.specs.Request.{HasCodingForm, SpellsCoding}
use Rattle.coding_commands.specs.declared.fault.Fault.{Fault}
use Rattle.coding_commands.specs.declared.fault.Fault.TheVariants.{BadArgument}
use Rattle.coding_commands.specs.declared.request.CodingRequest.{CodingRequest}
use Rattle.coding_commands.specs.declared.request.CodingRequest.TheVariants as coding
use Rattle.commands.specs.declared.request.Request.{Request}
use Rattle.commands.specs.declared.request.Request.TheVariants as of
use Rattle.commands.specs.Request.{IsFaultOf, Spells}

-- words that spell a request of the coding have its form
pub HasForm-spelled : (words : List Word) (r : CodingRequest) → SpellsCoding words r → HasCodingForm words
HasForm-spelled words (coding.Fragments k n value) s = inl (s.0, s.1, s.2, s.3)
HasForm-spelled words (coding.Decode k len pieces) s = inr (s.0, s.1, s.2, s.3)

-- words of that form are no soak
not_soak : (words : List Word) (a b c d : Word) → HasCodingForm words → words ≡ codes "soak" ∷ a ∷ b ∷ c ∷ d ∷ [] → ⊥
not_soak words a b c d (inl (p, q, r, e)) is =
    let clash : ◌≡◌ {A = ℕ} 115 102 = ap (λ (ws : List Word). get_or (get_or ws 0 []) 0 0) (sym is ∙ e) in absurd (omega arith)
not_soak words a b c d (inr (p, q, rest, e)) is =
    let clash : ◌≡◌ {A = ℕ} 115 100 = ap (λ (ws : List Word). get_or (get_or ws 0 []) 0 0) (sym is ∙ e) in absurd (omega arith)

-- words of `soak` that write no numbers
pub no_numbers : (a b c d : Word)
    → ((plan : Plan) → IsNumber a plan.clients → IsNumber b plan.calls → IsNumber c plan.moves → IsNumber d plan.choices → ⊥)
    → (r : Request) → ¬ (Spells (codes "soak" ∷ a ∷ b ∷ c ∷ d ∷ []) r)
no_numbers a b c d none (of.Coding request) s = not_soak _ a b c d (HasForm-spelled _ request s) refl
no_numbers a b c d none (of.Run file) s =
    let clash : ◌≡◌ {A = ℕ} 115 114 = ap (λ (ws : List Word). get_or (get_or ws 0 []) 0 0) s in absurd (omega arith)
no_numbers a b c d none (of.Soak plan) s =
    let at : (i : ℕ) → get_or (codes "soak" ∷ s.0 ∷ s.1 ∷ s.2 ∷ s.3 ∷ []) i [] ≡ get_or (codes "soak" ∷ a ∷ b ∷ c ∷ d ∷ []) i [] =
    λ i. ap (λ (ws : List Word). get_or ws i []) (sym s.4) in
    none plan (subst (λ (w : Word). IsNumber w plan.clients) (at 1) s.5) (subst (λ (w : Word). IsNumber w plan.calls) (at 2) s.6)
    (subst (λ (w : Word). IsNumber w plan.moves) (at 3) s.7) (subst (λ (w : Word). IsNumber w plan.choices) (at 4) s.8)

-- such words are a bad argument
pub bad_number : (a b c d : Word) (e : Fault) → e ≡ BadArgument
    → ((plan : Plan) → IsNumber a plan.clients → IsNumber b plan.calls → IsNumber c plan.moves → IsNumber d plan.choices → ⊥)
    → IsFaultOf (codes "soak" ∷ a ∷ b ∷ c ∷ d ∷ []) e
bad_number a b c d e bad none =
    subst (IsFaultOf (codes "soak" ∷ a ∷ b ∷ c ∷ d ∷ [])) (sym bad) (inr (inr (a, b, c, d, refl)), no_numbers a b c d none)
