-- The contracts that docs/trusted.md lists do not depend on this file; other contracts and proofs do.
-- The line that a request prints.
use Rattle.std.specs.Prelude.{ℕ, List}
use Rattle.coding_commands.specs.declared.output.Output.{Output}
use Rattle.coding_commands.specs.declared.output.Output.TheVariants as of
use Rattle.coding_commands.specs.Fragments.{fragments_text}
use Rattle.words.specs.Hexadecimal.{hexadecimal_text}

-- the line of an output, without its line feed
abbrev pub output_text : Output → List ℕ
output_text (of.Fragments coded) = fragments_text coded
output_text (of.Value decoded) = hexadecimal_text decoded.value
