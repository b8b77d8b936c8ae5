use Rattle.std.proofs.Common.{subst}
use Rattle.std.specs.Prelude.{IfOk}
use Rattle.std.proofs.lemmas.Result.{IfOk-weaker}
use Rattle.commands.specs.CommandLine.{IsForm}
use Rattle.commands.proofs.SubcommandLemmas.{IsForm-subcommand}
use Rattle.commands.proofs.arguments.with_form.Goals as goal

pub returns-in-Ok : goal.returns-in-Ok
returns-in-Ok c = λ old inner is sub_is.
    let added_is : IsForm c.in-Ok.added inner = subst (λ r. IfOk r (λ f. IsForm f inner)) c.in-Ok.is sub_is in
    IfOk-weaker c.subcommand.result _ _
    (λ r added. IsForm-subcommand c.args.form c.in-Ok.added r old inner is added_is added) c.subcommand.ensures
