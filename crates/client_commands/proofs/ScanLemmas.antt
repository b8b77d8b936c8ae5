-- The options of a SCAN, one after another.
use Rattle.std.proofs.Common.{◌≡◌, ℕ, List, ◌∷◌, Result, Ok, sym, ap, ◌∙◌}
use Rattle.words.specs.Parts.{and_then}
use Rattle.node_strings.specs.Strings.{Strings}
use Rattle.client_commands.specs.Scanning.{option_from, options_from}
use Rattle.client_commands.specs.declared.fault.CommandFault.{CommandFault}
use Rattle.client_commands.specs.declared.scanning.ScanOptions.{ScanOptions}

-- words that begin with an option ask what those behind it ask, with this option
pub options_step : (words behind more : Strings) (word value : List ℕ) (old new : ScanOptions) → words ≡ word ∷ behind →
    behind ≡ value ∷ more → option_from old word value ≡ Ok new → options_from new more ≡ options_from old words
options_step words behind more word value old new first second is =
    sym (ap (options_from old) (first ∙ ap (λ (ws : Strings). word ∷ ws) second)
    ∙ ap (λ (r : Result ScanOptions CommandFault). and_then r (λ (o : ScanOptions). options_from o more)) is)
