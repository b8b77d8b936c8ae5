use Rattle.std.proofs.Common.{◌≡◌, ◌≤◌, ◌∙◌, length, map, ap, sym, arith, string_bytes}
use Rattle.std.proofs.lemmas.List.{length-map}
use Rattle.clap.specs.Lexer.{usize_max}
use Rattle.clap.specs.Words.{fault_of, subcommand_of}
use Rattle.commands.specs.CommandLine.{cas_form, marked_words}
use Rattle.commands.proofs.ClapResultLemmas.{IsFaultOf-unread}
use Rattle.coding_commands.proofs.PieceWordLemmas.{err_of}
use Rattle.commands.proofs.arguments.parse_request.Goals as goal

pub returns-in_err-matches : goal.returns-in_err-matches
returns-in_err-matches c =
    let seen : map (λ w. w.now) c.as_slice.result.now ≡ marked_words (map string_bytes c.args.words.now) =
    ap (map (λ w. w.now)) c.as_slice.ensures.value ∙ c.in_ok-marked.ensures in
    let fits : length (map (λ w. w.now) c.as_slice.result.now) ≤ usize_max = rw length-map (omega (arith, c.in_ok-marked.marked.small)) in
    err_of _ _ _ _ c.from_residual-in_err-matches.ensures.1 (IsFaultOf-unread _ _ _ seen fits c.in_err-matches.ensures.err)

pub returns : goal.returns
returns c =
    let seen : map (λ w. w.now) c.as_slice.result.now ≡ marked_words (map string_bytes c.args.words.now) =
    ap (map (λ w. w.now)) c.as_slice.ensures.value ∙ c.in_ok-marked.ensures in
    c.read_found.ensures _ (ap (fault_of cas_form) (sym seen) ∙ c.in_ok-matches.ensures.faultless)
    (c.in_ok-matches.ensures.found ∙ ap (subcommand_of cas_form) seen)
