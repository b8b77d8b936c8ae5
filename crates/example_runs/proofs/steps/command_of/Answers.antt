use Rattle.std.proofs.Common.{◌∷◌, ℕ, List, sym, subst, ap, ◌∙◌}
use Rattle.std.proofs.lemmas.Result.{IfOk-weaker}
use Rattle.node_strings.specs.Arrival.{arrival_at}
use Rattle.node_strings.specs.Strings.{Strings}
use Rattle.processes.specs.Events.{WasWritten}
use Rattle.example_runs.specs.Members.{with_sent}
use Rattle.example_runs.proofs.HandledStepLemmas.{from_client}
use Rattle.example_runs.proofs.steps.command_of.Goals as goal

pub returns-clause-comes : goal.returns-clause-comes
returns-clause-comes c =
    let words = c.args.words.now in
    IfOk-weaker c.addressed.result _ _
    (λ frame is sent number. subst (λ (f : Strings). WasWritten (with_sent sent) number (arrival_at f))
    (sym (is ∙ ap (λ (a : List ℕ). a ∷ words) c.in_ok-client_address.ensures))
    (from_client c.args.client words sent number c.ranges.client.fits)) c.addressed.ensures
