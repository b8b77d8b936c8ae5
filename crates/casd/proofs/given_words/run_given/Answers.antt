use Rattle.std.proofs.Common.{refl, sym, ◌∙◌, inr}
use Rattle.casd.proofs.CalledLemmas.{as_called, called_for_log}
use Rattle.casd.proofs.LogFaultLemmas.{words_other}
use Rattle.casd.proofs.given_words.run_given.Goals as goal

pub returns-in-Ok-clause-ends : goal.returns-in-Ok-clause-ends
returns-in-Ok-clause-ends g c =
    as_called _ _ _ _ _ _ _ _ _ _ _ _ _ c.in-Ok.ensures.given c.deref.ensures.value c.behind_first.ensures c.run_words.ensures.ends

pub returns-in-Err-clause-ends : goal.returns-in-Err-clause-ends
returns-in-Err-clause-ends g c = inr (c.in-Err.fault, c.in-Err.ensures.fault, c.report.ensures, refl, refl)

pub returns-in-Ok-clause-failure : goal.returns-in-Ok-clause-failure
returns-in-Ok-clause-failure g c =
    called_for_log _ _ _ _ _ _ _ c.in-Ok.ensures.given c.deref.ensures.value c.behind_first.ensures c.run_words.ensures.failure

pub returns-in-Err-clause-failure : goal.returns-in-Err-clause-failure
returns-in-Err-clause-failure g c = λ three.
    absurd (words_other c.in-Err.fault c.in-Err.ensures.fault (sym c.report.ensures ∙ three))
