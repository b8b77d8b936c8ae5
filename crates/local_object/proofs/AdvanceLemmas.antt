-- Whether a call can begin its next phase.
use Rattle.std.proofs.Common.{◌≡◌, ℕ, ◌+◌, ◌≤◌, ◌^◌, ◌&&◌, Bool, true, false, is_some, ltb, List, [], Some, None, refl, sym, subst, ap, ◌∙◌}
use Rattle.std.proofs.Common.{arith}
use Rattle.std.proofs.lemmas.Bool.{le-ltb}
use Rattle.bank.specs.declared.kind.Kind.{Kind}
use Rattle.layout.specs.Layout.{Layout}
use Rattle.call.specs.Call.{OpenCall as Machine}
use Rattle.letter.specs.declared.letter.Letter.{Letter}
use Rattle.local_object.specs.Coding.{is_sendable}
use Rattle.local_object.specs.Going.{IsAdvancedIf, IsAdvanced}
use Rattle.local_object.specs.Local.{Place, layout_in, heard_place}
use Rattle.local_object.specs.Taking.{can_begin, knows_next}

and_false : (a : Bool) → (a && false) ≡ false
and_false true = refl
and_false false = refl

module _ (places : List Place) (call : Machine) (kind : Kind) (position : ℕ) where
  abbrev known : Bool
  known = is_some (layout_in (heard_place places position))

  abbrev numbered : Bool
  numbered = ltb (call.phase.number + 1) (2 ^ 32)

  pub begin_unknown : layout_in (heard_place places position) ≡ None → can_begin places call kind position ≡ false
  begin_unknown none = ap (λ o. is_some o && (numbered && (is_sendable kind call && knows_next places kind position))) none

  pub begin_unnumbered : (n : ℕ) → n ≡ call.phase.number → 4294967295 ≤ n → can_begin places call kind position ≡ false
  begin_unnumbered n is most =
      ap (λ b. known && (b && (is_sendable kind call && knows_next places kind position)))
      (le-ltb (call.phase.number + 1) (2 ^ 32) (omega (arith, is, most)))
      ∙ and_false known

  pub begin_long : is_sendable kind call ≡ false → can_begin places call kind position ≡ false
  begin_long long =
      ap (λ b. known && (numbered && (b && knows_next places kind position))) long
      ∙ ap (λ b. known && b) (and_false numbered) ∙ and_false known

  pub begin_unnamed : is_sendable kind call ≡ true → knows_next places kind position ≡ false
      → can_begin places call kind position ≡ false
  begin_unnamed sendable next =
      ap (λ b. known && (numbered && (b && knows_next places kind position))) sendable
      ∙ ap (λ b. known && (numbered && b)) next ∙ ap (λ b. known && b) (and_false numbered) ∙ and_false known

  pub begin_can : (layout : Layout) → layout_in (heard_place places position) ≡ Some layout → ltb (call.phase.number + 1) (2 ^ 32) ≡ true
      → is_sendable kind call ≡ true → knows_next places kind position ≡ true → can_begin places call kind position ≡ true
  begin_can layout is number sendable next =
      ap (λ o. is_some o && (numbered && (is_sendable kind call && knows_next places kind position))) is
      ∙ ap (λ b. b && (is_sendable kind call && knows_next places kind position)) number
      ∙ ap (λ b. b && knows_next places kind position) sendable ∙ next

  module _ (start : ℕ) (old new : List Machine) (index : ℕ) (letters : List Letter) where
    pub not_advanced : can_begin places call kind position ≡ false → new ≡ old → letters ≡ []
        → IsAdvancedIf (can_begin places call kind position) places start old call index kind position new letters
    not_advanced can same none =
        subst (λ b. IsAdvancedIf b places start old call index kind position new letters) (sym can) (same, none)

    pub is_advanced : can_begin places call kind position ≡ true → IsAdvanced places start old call index kind position new letters
        → IsAdvancedIf (can_begin places call kind position) places start old call index kind position new letters
    is_advanced can advanced = subst (λ b. IsAdvancedIf b places start old call index kind position new letters) (sym can) advanced
