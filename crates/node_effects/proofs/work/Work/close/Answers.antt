use Rattle.std.proofs.Common.{ap, subst, sym, ◌++◌, ◌∙◌, ◌∷◌, [], ◌≡◌}
use Rattle.frames.specs.Frame.{IsFrame}
use Rattle.node_strings.specs.Arrival.{client_address}
use Rattle.node_strings.specs.Strings.{Strings}
use Rattle.node_effects.proofs.ErrorLemmas.{client_fits}
use Rattle.node_effects.proofs.work.Work.close.Goals as goal

pub returns-in_err-frame-clause-refused : goal.returns-in_err-frame-clause-refused
returns-in_err-frame-clause-refused c =
    let address = client_address c.args.client in
    let pushed : c.push.new.self.items ≡ address ∷ [] =
    c.in_ok-push.ensures.items ∙ ap (λ (xs : Strings). xs ++ c.in_ok-client_address.field-0 ∷ []) c.new-address.ensures.items
    ∙ ap (λ string. string ∷ []) c.in_ok-client_address.ensures in
    absurd (c.in_err-frame.ensures.refused.1
    (subst (λ (ss : Strings). IsFrame ss) (sym pushed) (client_fits c.args.client c.ranges.client.fits)))
