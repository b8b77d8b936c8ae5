-- A frame that asks for a DEL is read as that DEL, and is asked for if it is read.
use Rattle.std.proofs.Common.{◌≡◌, ℕ, ◌<◌, arith, false, cond, eqb, List, [], ◌∷◌, length, Ok, Err, Result, refl, sym, ap, subst, ◌∙◌}
use Rattle.std.proofs.lemmas.Bool.{eqb-false, ne_eqb}
use Rattle.std.specs.List.{list_any}
use Rattle.std.specs.Prelude.{codes, IsTrue}
use Rattle.node_strings.specs.Strings.{Strings}
use Rattle.client_commands.specs.Command.{AskFor}
use Rattle.client_commands.specs.Deleting.{AskToDelete, delete_from, is_long}
use Rattle.client_commands.specs.Deletion.{Deletion, whole_deletion}
use Rattle.client_commands.specs.Words.{is_word}
use Rattle.client_commands.specs.declared.command.Command.{Command}
use Rattle.client_commands.specs.declared.command.Command.TheVariants as ask
use Rattle.client_commands.specs.declared.command.CommandName.TheVariants as of
use Rattle.client_commands.specs.declared.fault.CommandFault.{CommandFault}
use Rattle.client_commands.specs.declared.fault.CommandFault.TheVariants.{NameTooLong, WrongCount}
use Rattle.words.proofs.PartLemmas.{guarded_above, ok_is}

-- the DEL of names that are short enough
abbrev if_short : Strings → Result Command CommandFault
if_short names = cond (list_any is_long names) (Err NameTooLong) (Ok (ask.Delete (whole_deletion names)))

some_name : (names : Strings) → eqb (length names) 0 ≡ false → 0 < length names
some_name [] e = absurd (eqb-false 0 0 e refl)
some_name (name ∷ more) e = omega arith

pub delete_ok : (word : List ℕ) (args : Strings) (c : Command) → IsTrue (is_word word (codes "del"))
    → delete_from args ≡ Ok c → AskFor (word ∷ args) c
unfolding delete_from
delete_ok word args c w e =
    let a = guarded_above (eqb (length args) 0) (WrongCount of.Del) (if_short args) c e in
    let b = guarded_above (list_any is_long args) NameTooLong (Ok (ask.Delete (whole_deletion args))) c a.1 in
    subst (AskFor (word ∷ args)) (ok_is (ask.Delete (whole_deletion args)) c b.1) (w, (refl, some_name args a.0, b.0))

read_whole : (names : Strings) → 0 < length names → list_any is_long names ≡ false →
    delete_from names ≡ Ok (ask.Delete (whole_deletion names))
unfolding delete_from
read_whole names some short =
    let not_none : length names ≡ 0 → ⊥ = λ none. omega arith in
    ap (λ b. cond b (Err (WrongCount of.Del)) (if_short names)) (ne_eqb (length names) 0 not_none)
    ∙ ap (λ b. cond b (Err NameTooLong) (Ok (ask.Delete (whole_deletion names)))) short

abbrev made : Deletion → Result Command CommandFault
made deletion = Ok (ask.Delete deletion)

pub delete_again : (deletion : Deletion) (args : Strings) → AskToDelete deletion args → delete_from args ≡ Ok (ask.Delete deletion)
delete_again deletion args asks = read_whole args asks.1 asks.2 ∙ ap (λ (d : Deletion). made d) (sym asks.0)
