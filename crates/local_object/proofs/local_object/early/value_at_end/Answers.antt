use Rattle.std.proofs.Common.{Some, refl, sym, ap, ◌∙◌}
use Rattle.std.proofs.lemmas.Result.{IfOk-weaker}
use Rattle.local_object.specs.Ended.{early_value_of}
use Rattle.local_object.proofs.EarlyEndLemmas.{own_value, read_of}
use Rattle.local_object.proofs.local_object.early.value_at_end.Goals as goal

pub returns-then-is_read-clause-value : goal.returns-then-is_read-clause-value
returns-then-is_read-clause-value c =
    sym (ap (λ k. early_value_of k c.args.returned) (read_of c.args.call.now.kind (sym c.is_read.ensures ∙ c.if-is_read.true)))

pub returns-else-is_read-clause-value : goal.returns-else-is_read-clause-value
returns-else-is_read-clause-value c =
    IfOk-weaker c.returned.result _ _
    (λ value is. is ∙ own_value c.args.call.now.kind c.args.call.now.settled c.args.returned (sym c.is_read.ensures ∙ c.if-is_read.false))
    (c.returned.ensures.value (Some 0) refl)
