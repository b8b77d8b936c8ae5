use Rattle.std.proofs.Common.{◌≡◌, true, sym, subst, List}
use Rattle.words.specs.Word.{Word}
use Rattle.cluster_file.specs.Numbers.{is_among}
use Rattle.cluster_file.proofs.MoverLemmas.{mover_is_among}
use Rattle.cluster_file.proofs.reading.mover_at.Goals as goal

pub returns-clause-found : goal.returns-clause-found
returns-clause-found c =
    subst (λ (ws : List Word). is_among c.args.nodes.now ws c.in_ok-mover.mover ≡ true) c.later_words.ensures
    (mover_is_among c.args.nodes.now _ _ _ (sym c.in_ok-mover.ensures))
