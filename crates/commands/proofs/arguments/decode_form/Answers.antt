use Rattle.std.proofs.lemmas.Result.{IfOk-weaker}
use Rattle.commands.proofs.SubcommandLemmas.{IsForm-rule}
use Rattle.commands.proofs.arguments.decode_form.Goals as goal

pub returns : goal.returns
returns c =
    IfOk-weaker c.arg.result _ _
    (λ r added. IsForm-rule c.in_ok-form.form r c.several.result _ _
    (c.in_ok-form.ensures _ (c.with_word-form.ensures _ (c.new.ensures.app, c.new.ensures.local)))
    c.several.ensures.rule c.several.ensures.local added)
    c.arg.ensures
