use Rattle.std.proofs.Common.{ap, ◌∙◌}
use Rattle.std.specs.Str.{bytes_eq}
use Rattle.node_messages.proofs.reading.are_of.Goals as goal

pub returns : goal.returns
returns c = c.eq.ensures ∙ ap (λ b. bytes_eq b c.args.numbers.now) c.numbers_of.ensures.bytes
