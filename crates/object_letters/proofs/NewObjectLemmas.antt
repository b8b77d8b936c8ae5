-- A new object is as a restart has to keep another one, but for its banks, where no move is open.
use Rattle.std.proofs.Common.{◌≡◌, ℕ, ◌||◌, Bool, true, false, cond, eqb, eqb-true, List, [], ◌∷◌}
use Rattle.std.proofs.Common.{Some, None, refl, sym, ap, ◌∙◌, arith}
use Rattle.std.specs.List.{filter, list_any}
use Rattle.layout.specs.Layout.{Layout}
use Rattle.bank.specs.Bank.{opened_bank}
use Rattle.record.specs.Legal.{is_move}
use Rattle.local_object.specs.declared.kept_bank.KeptBank.TheVariants as kept
use Rattle.local_object.specs.Doing.{is_moving}
use Rattle.local_object.specs.Local.{LocalObject, bank_in, bank_or_opened, layout_here, layout_in, new_local}
use Rattle.open_calls.specs.OpenCalls.{NodeCall}
use Rattle.object_letters.specs.Laws.{IsBlankOf}

none_left : (calls : List NodeCall) → list_any (λ (call : NodeCall). is_move call.kind) calls ≡ false
    → [] ≡ filter (λ (call : NodeCall). is_move call.kind) calls
none_left [] none = refl
none_left (call ∷ calls) none = go (is_move call.kind) refl none (λ rest. none_left calls rest)
  where
    go : (b : Bool) → is_move call.kind ≡ b → (b || list_any (λ (call : NodeCall). is_move call.kind) calls) ≡ false
        → (list_any (λ (call : NodeCall). is_move call.kind) calls ≡ false → [] ≡ filter (λ (call : NodeCall). is_move call.kind) calls)
        → [] ≡ cond b (call ∷ filter (λ (call : NodeCall). is_move call.kind) calls) (filter (λ (call : NodeCall). is_move call.kind) calls)
    go true t none rest = absurd (cc)
    go false t none rest = rest none

pub new_blank : (moves : Type 0) (local : LocalObject) (first : Layout) → layout_here local 0 ≡ Some first
    → is_moving local ≡ false
    → (moves → (q : ℕ) (layout : Layout) → layout_here local q ≡ Some layout → q ≡ 0)
    → IsBlankOf moves local (new_local local.node local.delta first)
new_blank moves local first here still alone = record {
  node = refl;
  delta = refl;
  start = omega arith;
  reports = refl;
  layouts = λ q layout e. only q layout (eqb 0 q) refl e;
  first = refl;
  banks = λ q member. no_bank q member (eqb 0 q);
  calls = none_left local.calls still;
  mover = λ moves q layout e. let zero : q ≡ 0 = alone moves q layout e in
      ap (layout_here (new_local local.node local.delta first)) zero ∙ sym here ∙ ap (layout_here local) (sym zero) ∙ e;
}
  where
    only : (q : ℕ) (layout : Layout) (b : Bool) → eqb 0 q ≡ b
        → layout_in (cond b (Some (record { position = 0; layout = first; bank = None })) None) ≡ Some layout
        → layout_here local q ≡ Some layout
    only q layout true t e = ap (layout_here local) (sym (eqb-true 0 q t)) ∙ here ∙ e
    only q layout false t e = absurd (cc)

    no_bank : (q member : ℕ) (b : Bool)
        → bank_or_opened (bank_in (cond b (Some (record { position = 0; layout = first; bank = None })) None)) member local.delta
        ≡ kept.Open (opened_bank member local.delta 0)
    no_bank q member true = refl
    no_bank q member false = refl
