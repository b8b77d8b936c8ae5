use Rattle.std.proofs.Common.{option_to_list, refl}
use Rattle.node_keeper.proofs.DoneLemmas.{taken_by}
use Rattle.node_keeper.proofs.keeper.Keeper.take_again.Goals as goal

pub returns-clause-taken : goal.returns-clause-taken
returns-clause-taken c =
    let old = c.args.self.now in (
      taken_by old (record old { objects = c.take.new.self }) c.args.it.name c.args.it.letter
          c.in_ok-progress.progress.letters.items (option_to_list c.in_ok-progress.progress.ended) refl refl
          c.in_ok-progress.ensures.done,
      c.id_of.ensures,
    )
