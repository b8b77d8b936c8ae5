use Rattle.std.proofs.Common.{◌∷◌, map}
use Rattle.script.specs.FirstWord.{number_word}
use Rattle.script.proofs.NoCommandLemmas.{fails, none-number}
use Rattle.script.proofs.number_commands.parse_number_command.Goals as goal

pub returns-in_err-name : goal.returns-in_err-name
returns-in_err-name c =
    fails (number_word c.args.kind ∷ map (λ w. w.now) c.args.words.now) _ _
    c.from_residual.ensures.1 c.in_err-name.ensures.err.0 (none-number c.args.kind _ c.in_err-name.ensures.err.1)

pub returns : goal.returns
returns c = c.command.ensures _ c.in_ok-name.ensures.ok
