use Rattle.std.proofs.Common.{codes, rules}
use Rattle.clap.specs.Words.{new_app}
use Rattle.commands.specs.CommandLine.{IsForm, without_help}
use Rattle.commands.proofs.arguments.cas_form.Goals as goal

pub returns : goal.returns
returns c =
    let bare : IsForm c.disable_help_subcommand-form.result (without_help (new_app (codes "cas"))) = search rules in
    let first = c.in_ok-form.ensures _ _ bare c.fragments_form.ensures in
    let second = c.in_ok-form-2.ensures _ _ first c.decode_form.ensures in
    c.with_form-4.ensures _ _ (c.in_ok-form-3.ensures _ _ second c.run_form.ensures) c.soak_form.ensures
