use Rattle.std.proofs.Common.{◌≡◌, ℕ, true, false, Some, Result, Ok, Err, IsErrAnd, Option, refl, sym, ap, subst, ◌∙◌, rules}
use Rattle.tag.specs.Cause.{IsRefusalBy}
use Rattle.tag.specs.Refusal.{IsExactlyByCause}
use Rattle.tag.specs.declared.refusal.Refusal.{Refusal}
use Rattle.record.specs.Records.{Object}
use Rattle.register.specs.Act.{IsActCause, IsCausedBy, act_cause, takes_memory}
use Rattle.register.specs.declared.act.Act.{Act}
use Rattle.register.proofs.RoomLemmas.{same_cause}
use Rattle.register.proofs.register.Register.act.Goals as goal

-- an act that may be refused as NoMemory hands the refusal on
refused : {T : Type 0} {asked act : Act} (now : ℕ) (object : Object) (r : Result T Refusal) (refusal : Refusal) → asked ≡ act
    → takes_memory act ≡ true → IsErrAnd r (λ e. e ≡ refusal) → IsRefusalBy (act_cause act now object) refusal
    → IsActCause asked (act_cause asked now object) r
refused {act = act} now object r refusal is memory handed by =
    subst (λ (a : Act). IsActCause a (act_cause a now object) r) (sym is)
    (subst (λ m. IsCausedBy m (act_cause act now object) r) (sym memory) (same_cause (act_cause act now object) r refusal handed by))

same_exactly : {T : Type 0} (cause : Option Refusal) (r : Result T Refusal) (refusal : Refusal) → IsErrAnd r (λ e. e ≡ refusal)
    → cause ≡ Some refusal → IsExactlyByCause cause r
same_exactly cause (Ok x) refusal handed by = absurd handed
same_exactly cause (Err e) refusal handed by = by ∙ ap Some (sym handed)

-- and so does an act that allocates no memory
refused_exactly : {T : Type 0} {asked act : Act} (now : ℕ) (object : Object) (r : Result T Refusal) (refusal : Refusal) → asked ≡ act
    → takes_memory act ≡ false → IsErrAnd r (λ e. e ≡ refusal) → act_cause act now object ≡ Some refusal
    → IsActCause asked (act_cause asked now object) r
refused_exactly {act = act} now object r refusal is memory handed by =
    subst (λ (a : Act). IsActCause a (act_cause a now object) r) (sym is)
    (subst (λ m. IsCausedBy m (act_cause act now object) r) (sym memory)
    (same_exactly (act_cause act now object) r refusal handed by))

pub returns-in_err-answer-in-Answer-clause-cause : goal.returns-in_err-answer-in-Answer-clause-cause
returns-in_err-answer-in-Answer-clause-cause c =
    refused c.args.now c.args.self.now.object c.from_residual.result
    c.in_err-answer-in-Answer.field-0.0
    c.in-Answer.is refl c.from_residual.ensures.1 c.in_err-answer-in-Answer.ensures.cause

pub returns-in_err-take-in-Take-clause-cause : goal.returns-in_err-take-in-Take-clause-cause
returns-in_err-take-in-Take-clause-cause c =
    refused_exactly c.args.now c.args.self.now.object c.from_residual-in_err-take-in-Take.result
    c.in_err-take-in-Take.field-0.0
    c.in-Take.is refl c.from_residual-in_err-take-in-Take.ensures.1 c.in_err-take-in-Take.ensures.cause

pub returns-in-Advance-clause-step : goal.returns-in-Advance-clause-step
returns-in-Advance-clause-step c = search rules
