use Rattle.std.proofs.Common.{ℕ, List, [], ◌≡◌, MatchOption, subst}
use Rattle.driver.specs.Choices.{Picks}
use Rattle.driver.proofs.OtherCallMessageLemmas.{choices_behind}
use Rattle.driver.proofs.messages.chosen.Goals as goal

pub returns : goal.returns
returns g c =
    subst (λ (candidates : List ℕ). MatchOption c.choose.result ((candidates ≡ []) × (c.choose.new.chooser ≡ c.args.chooser.now))
    (λ place. Picks g.C.Chooser.chooses candidates c.args.chooser.now c.choose.new.chooser place))
    (choices_behind c.args.cluster.now c.args.call c.first_place-from.result c.args.register.now.object
    c.first_place-from.ensures) c.choose.ensures
