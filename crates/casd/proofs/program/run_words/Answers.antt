use Rattle.std.proofs.Common.{refl, sym, ◌∙◌, inl, inr}
use Rattle.casd.proofs.LogFaultLemmas.{asked_other}
use Rattle.casd.proofs.program.run_words.Goals as goal

pub returns-in-Ok-clause-ends : goal.returns-in-Ok-clause-ends
returns-in-Ok-clause-ends g c = c.carry_out.ensures.ends _ c.in-Ok.ensures

pub returns-in-Err-clause-ends : goal.returns-in-Err-clause-ends
returns-in-Err-clause-ends g c = inr (inr (inl (c.in-Err.fault, c.in-Err.ensures, c.report.ensures, refl, refl)))

pub returns-in-Ok-clause-failure : goal.returns-in-Ok-clause-failure
returns-in-Ok-clause-failure g c = c.carry_out.ensures.failure _ c.in-Ok.ensures

pub returns-in-Err-clause-failure : goal.returns-in-Err-clause-failure
returns-in-Err-clause-failure g c = λ three.
    absurd (asked_other _ c.in-Err.fault c.in-Err.ensures (sym c.report.ensures ∙ three))
