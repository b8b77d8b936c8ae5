use Rattle.std.proofs.Common.{refl, subst}
use Rattle.clap.specs.Words.{found_of, subcommand_rows_of}
use Rattle.commands.proofs.ClapResultLemmas.{Finds-command, Finds-read, ParsesTo-decode}
use Rattle.commands.proofs.ClapResultLemmas.{ParsesTo-fragments, ParsesTo-run, ParsesTo-soak, rows-None}
use Rattle.commands.proofs.ParsedCommandLemmas.{Finds}
use Rattle.commands.proofs.arguments.read_found.Goals as goal

pub returns-in_default : goal.returns-in_default
returns-in_default c = λ words lawful read.
    subst (Finds words) (rows-None (subcommand_rows_of c.args.matches.now) c.in_default.ensures.rows)
    (Finds-read words _ _ refl lawful read)

pub returns-in-fragments : goal.returns-in-fragments
returns-in-fragments c = λ words lawful read.
    ParsesTo-fragments words c.in-Some.command.now (found_of c.in-Some.found.now) _
    (Finds-command words _ c.args.matches.now _ _ refl lawful read c.in-Some.ensures.name c.in-Some.ensures.rows)
    c.in-fragments.is c.read_fragments.ensures

pub returns-in-decode : goal.returns-in-decode
returns-in-decode c = λ words lawful read.
    ParsesTo-decode words c.in-Some.command.now (found_of c.in-Some.found.now) _
    (Finds-command words _ c.args.matches.now _ _ refl lawful read c.in-Some.ensures.name c.in-Some.ensures.rows)
    c.in-decode.is c.read_decode.ensures

pub returns-in-run : goal.returns-in-run
returns-in-run c = λ words lawful read.
    ParsesTo-run words c.in-Some.command.now (found_of c.in-Some.found.now) _
    (Finds-command words _ c.args.matches.now _ _ refl lawful read c.in-Some.ensures.name c.in-Some.ensures.rows)
    c.in-run.is c.read_run.ensures

pub returns-in-soak : goal.returns-in-soak
returns-in-soak c = λ words lawful read.
    ParsesTo-soak words c.in-Some.command.now (found_of c.in-Some.found.now) _
    (Finds-command words _ c.args.matches.now _ _ refl lawful read c.in-Some.ensures.name c.in-Some.ensures.rows)
    c.in-soak.is c.read_soak.ensures
