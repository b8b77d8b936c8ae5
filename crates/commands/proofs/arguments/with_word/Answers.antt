use Rattle.std.proofs.Common.{subst}
use Rattle.std.specs.Prelude.{IfOk}
use Rattle.std.proofs.lemmas.Result.{IfOk-weaker}
use Rattle.commands.specs.CommandLine.{IsForm}
use Rattle.commands.proofs.SubcommandLemmas.{IsForm-rule}
use Rattle.commands.proofs.arguments.with_word.Goals as goal

pub returns-in-Ok : goal.returns-in-Ok
returns-in-Ok c = λ old is.
    let form_is : IsForm c.in-Ok.form old = subst (λ r. IfOk r (λ f. IsForm f old)) c.in-Ok.is is in
    IfOk-weaker c.arg.result _ _
    (λ r added. IsForm-rule c.in-Ok.form r c.positional.result old _ form_is c.positional.ensures.rule c.positional.ensures.local added)
    c.arg.ensures
