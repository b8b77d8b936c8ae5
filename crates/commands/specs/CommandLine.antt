-- The contracts that docs/trusted.md lists do not depend on this file; other contracts and proofs do.
-- The forms of the command line, as they are given to `clap`.
use Rattle.std.specs.Prelude.{◌≡◌, false, true, Some, codes, List, [], ◌∷◌}
use Rattle.clap.specs.Lexer.{usize_max}
use Rattle.clap.specs.declared.builder.command.Command.{Command}
use Rattle.clap.specs.declared.builder.command.Command.TheViews.{out-Command}
use Rattle.clap.specs.Simple.{on_top}
use Rattle.clap.specs.Words.{app_of, App, Rule, Text, new_app, new_rule, with_rule, with_subcommand}
use Rattle.clap.specs.declared.builder.action.ArgAction.TheVariants.{Set, Append}

-- a required word
abbrev pub positional : Text → Rule
positional id = record (new_rule id) { required = true; action = Some Set }

-- any number of words
abbrev pub several : Text → Rule
several id = record (new_rule id) {
  action = Some Append;
  range = Some (record { start_inclusive = 0; end_inclusive = usize_max });
}

-- the form `fragments K N HEX`
abbrev pub fragments_form : App
fragments_form = with_rule (with_rule (with_rule (new_app (codes "fragments"))
    (positional (codes "K"))) (positional (codes "N"))) (positional (codes "HEX"))

-- the form `decode K LEN POINT:HEX..`
abbrev pub decode_form : App
decode_form = with_rule (with_rule (with_rule (new_app (codes "decode"))
    (positional (codes "K"))) (positional (codes "LEN")))
    (several (codes "POINT:HEX"))

-- the form `run FILE`
abbrev pub run_form : App
run_form = with_rule (new_app (codes "run")) (positional (codes "FILE"))

-- the form `soak CLIENTS CALLS MOVES CHOICES`
abbrev pub soak_form : App
soak_form = with_rule (with_rule (with_rule (with_rule (new_app (codes "soak"))
    (positional (codes "CLIENTS"))) (positional (codes "CALLS"))) (positional (codes "MOVES")))
    (positional (codes "CHOICES"))

-- the form without the flag and the command that ask for help
abbrev pub without_help : App → App
without_help = on_top (λ s. record s { disable_help_flag = true; disable_help_subcommand = true })

-- the form of the whole command line
abbrev pub cas_form : App
cas_form = with_subcommand (with_subcommand (with_subcommand (with_subcommand (without_help (new_app (codes "cas")))
    fragments_form.top) decode_form.top) run_form.top) soak_form.top

-- `clap` reads the command by this form, and the command has no global argument
abbrev pub IsForm : Command → App → Type 0
IsForm command form = (app_of command ≡ form) × ((out-Command command).has_globals ≡ false)

-- the words that are given to `clap`: the program's name, the command, `--`, and the words after the command
abbrev pub marked_words : List Text → List Text
marked_words [] = codes "cas" ∷ []
marked_words (command ∷ rest) = codes "cas" ∷ command ∷ codes "--" ∷ rest
