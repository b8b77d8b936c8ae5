use Rattle.std.proofs.Common.{rules, Ok, ◌≡◌, ◌∙◌}
use Rattle.client_commands.specs.Scanning.{option_from}
use Rattle.client_commands.proofs.ScanLemmas.{options_step}
use Rattle.client_commands.proofs.scanning.+read_options.Goals as goal

pub returns : goal.returns
returns t c =
    let is : option_from c.args.options c.take_first-word.result c.take_first-value.result ≡ Ok c.in_ok-options.options = search rules in
    c.read_options.ensures
    ∙ options_step c.args.words.items _ _ c.take_first-word.result c.take_first-value.result c.args.options c.in_ok-options.options
    c.take_first-word.ensures c.take_first-value.ensures is
