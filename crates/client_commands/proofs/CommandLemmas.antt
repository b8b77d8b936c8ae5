-- A frame asks for the command that is read.
use Rattle.std.proofs.Common.{◌≡◌, ℕ, ◌<◌, ◌-◌, ◌^◌, Bool, true, false, cond, eqb, ltb, List, [], ◌∷◌, length, get_or, Option}
use Rattle.std.proofs.Common.{arith, Some, None, Result, Ok, Err, refl, ap, subst, ◌∙◌, inl, inr}
use Rattle.std.specs.Prelude.{codes, IsTrue}
use Rattle.std.specs.Str.{bytes_eq}
use Rattle.std.proofs.lemmas.Bool.{eqb-true}
use Rattle.std.proofs.lemmas.Slice.Eq.{bytes_eq-Decides}
use Rattle.layout.specs.Layout.{Layout}
use Rattle.words.specs.Parts.{and_then}
use Rattle.node_strings.specs.Strings.{Strings}
use Rattle.client_commands.specs.Arguments.{checked_name, checked_value, only_argument, name_and_value}
use Rattle.client_commands.specs.Arguments.{hello_fault, login_fault}
use Rattle.client_commands.specs.Command.{AskFor, AskToRead}
use Rattle.client_commands.specs.Layouts.{layout_from}
use Rattle.client_commands.specs.Reading.{exists_from, list_from, select_from, show_from, size_from, unless}
use Rattle.client_commands.specs.Reading.{Found, read_from, set_from, move_from, ping_from, echo_from, counted, subcommand_from}
use Rattle.client_commands.specs.Reading.{client_from, command_from, command_named, command_at}
use Rattle.client_commands.specs.Scanning.{cursor_from, default_options, options_from, scan_from}
use Rattle.client_commands.specs.Sections.{sections_from}
use Rattle.client_commands.specs.declared.scanning.ScanOptions.{ScanOptions}
use Rattle.node_strings.proofs.NumberLemmas.{number_ok}
use Rattle.client_commands.specs.Words.{is_word, command_text, name_of_word}
use Rattle.client_commands.specs.declared.command.Command.{Command}
use Rattle.client_commands.specs.declared.command.Command.TheVariants as ask
use Rattle.client_commands.specs.declared.command.Wanted.{Wanted}
use Rattle.client_commands.specs.declared.command.Wanted.TheVariants as wanted
use Rattle.client_commands.specs.declared.command.CommandName.{CommandName}
use Rattle.client_commands.specs.declared.command.CommandName.TheVariants as of
use Rattle.client_commands.specs.declared.fault.CommandFault.{CommandFault}
use Rattle.client_commands.specs.declared.fault.CommandFault.TheVariants.{BadCursor, NoDatabase, SeveralNames}
use Rattle.client_commands.specs.declared.fault.CommandFault.TheVariants.{UnknownSubcommand, WrongCount}
use Rattle.words.proofs.PartLemmas.{bind_ok, guarded, guarded_above, chosen, ok_is}
use Rattle.client_commands.proofs.DeleteLemmas.{delete_ok}
use Rattle.client_commands.proofs.WordLemmas.{named_ok}
use Rattle.client_commands.proofs.ArgumentLemmas.{only_ok, both_ok, name_ok, value_ok}
use Rattle.client_commands.proofs.MoveLemmas.{layout_from_ok}

abbrev pub Read : Type 0
Read = Result (List ℕ) CommandFault

read_ok : (from : CommandName) (what : Wanted) (word : List ℕ) (args : Strings) (c : Command)
    → ((name : List ℕ) → args ≡ name ∷ [] → AskToRead what name (word ∷ args)) → read_from from what args ≡ Ok c
    → AskFor (word ∷ args) c
unfolding read_from
read_ok from what word args c asks e =
    let a = bind_ok (only_argument from args)
    (λ (name : List ℕ). and_then (checked_name name) (λ (n : List ℕ). Ok (ask.Read what n))) c e in
    let b = bind_ok (checked_name a.0) (λ (n : List ℕ). Ok (ask.Read what n)) c a.2 in
    let name = name_ok a.0 b.0 b.1 in
    subst (AskFor (word ∷ args)) (ok_is (ask.Read what b.0) c b.2)
    (asks b.0 (only_ok from args a.0 a.1 ∙ ap (λ (n : List ℕ). n ∷ []) name.0), name.1)

exists_ok : (word : List ℕ) (args : Strings) (c : Command) → IsTrue (is_word word (codes "exists"))
    → exists_from args ≡ Ok c → AskFor (word ∷ args) c
unfolding exists_from
exists_ok word args c w e =
    let a = guarded_above (ltb 1 (length args)) SeveralNames (read_from of.Exists wanted.Existence args) c e in
    read_ok of.Exists wanted.Existence word args c (λ name only. (w, only)) a.1

select_ok : (word : List ℕ) (args : Strings) (c : Command) → IsTrue (is_word word (codes "select"))
    → select_from args ≡ Ok c → AskFor (word ∷ args) c
unfolding select_from
select_ok word args c w e =
    let a = bind_ok (only_argument of.Select args) (λ (i : List ℕ). cond (bytes_eq i (codes "0")) (Ok ask.Select) (Err NoDatabase)) c e in
    let b = guarded (bytes_eq a.0 (codes "0")) (Ok ask.Select) NoDatabase c a.2 in
    subst (AskFor (word ∷ args)) (ok_is ask.Select c b.1)
    (w, only_ok of.Select args a.0 a.1 ∙ ap (λ (i : List ℕ). i ∷ []) ((bytes_eq-Decides a.0 (codes "0")).0 b.0))

-- a DBSIZE that is read was asked for
size_ok : (word : List ℕ) (args : Strings) (c : Command) → IsTrue (is_word word (codes "dbsize"))
    → size_from args ≡ Ok c → AskFor (word ∷ args) c
unfolding size_from
size_ok word [] c w e = subst (AskFor (word ∷ [])) (ok_is ask.CountWritten c e) (w, refl)
size_ok word (other ∷ more) c w e =
    let h = guarded (eqb (length (other ∷ more)) 0) (Ok ask.CountWritten) (WrongCount of.Dbsize) c e in
    let none : length (other ∷ more) ≡ 0 = eqb-true (length (other ∷ more)) 0 h.0 in
    absurd (cc)

-- a LAYOUT that is read was asked for
show_ok : (word : List ℕ) (args : Strings) (c : Command) → IsTrue (is_word word (codes "layout"))
    → show_from args ≡ Ok c → AskFor (word ∷ args) c
unfolding show_from
show_ok word args c w e =
    let a = bind_ok (only_argument of.Layout args)
    (λ (name : List ℕ). and_then (checked_name name) (λ (n : List ℕ). Ok (ask.ShowLayout n))) c e in
    let b = bind_ok (checked_name a.0) (λ (n : List ℕ). Ok (ask.ShowLayout n)) c a.2 in
    let name = name_ok a.0 b.0 b.1 in
    subst (AskFor (word ∷ args)) (ok_is (ask.ShowLayout b.0) c b.2)
    ((w, only_ok of.Layout args a.0 a.1 ∙ ap (λ (n : List ℕ). n ∷ []) name.0), name.1)

-- a SCAN that is read was asked for
scan_ok : (word : List ℕ) (args : Strings) (c : Command) → IsTrue (is_word word (codes "scan"))
    → scan_from args ≡ Ok c → AskFor (word ∷ args) c
unfolding scan_from
scan_ok word [] c w e = absurd cc
scan_ok word (at ∷ words) c w e =
    let a = bind_ok (cursor_from at)
    (λ (n : ℕ). and_then (options_from default_options words) (λ (o : ScanOptions). Ok (ask.Scan n o))) c e in
    let b = bind_ok (options_from default_options words) (λ (o : ScanOptions). Ok (ask.Scan a.0 o)) c a.2 in
    let cursor = number_ok BadCursor BadCursor (2 ^ 64 - 1) at a.0 (omega arith) (omega arith) a.1 in
    let within : a.0 < 2 ^ 64 = let le = cursor.1 in omega arith in
    subst (AskFor (word ∷ at ∷ words)) (ok_is (ask.Scan a.0 b.0) c b.2) (w, (cursor.0, within, b.1))

unless_ok : (fault : Option CommandFault) (command c : Command) → unless fault command ≡ Ok c → (fault ≡ None) × (command ≡ c)
unless_ok None command c e = (refl, ok_is command c e)
unless_ok (Some fault) command c e = absurd cc

hello_ok : (word : List ℕ) (args : Strings) (c : Command) → IsTrue (is_word word (codes "hello"))
    → unless (hello_fault args) ask.Hello ≡ Ok c → AskFor (word ∷ args) c
hello_ok word args c w e =
    let a = unless_ok (hello_fault args) ask.Hello c e in subst (AskFor (word ∷ args)) a.1 (w, a.0)

login_ok : (word : List ℕ) (args : Strings) (c : Command) → IsTrue (is_word word (codes "auth"))
    → unless (login_fault args) ask.Login ≡ Ok c → AskFor (word ∷ args) c
login_ok word args c w e =
    let a = unless_ok (login_fault args) ask.Login c e in subst (AskFor (word ∷ args)) a.1 (w, a.0)

-- what COMMAND COUNT with these further words asks
abbrev counted_list : Strings → Found
counted_list rest = cond (eqb (length rest) 0) (Ok ask.CountCommands) (Err (WrongCount of.Command))

list_ok : (word : List ℕ) (args : Strings) (c : Command) → IsTrue (is_word word (codes "command"))
    → list_from args ≡ Ok c → AskFor (word ∷ args) c
unfolding list_from
list_ok word [] c w e = subst (AskFor (word ∷ [])) (ok_is ask.ListCommands c e) (w, refl)
list_ok word (what ∷ more) c w e = go (is_word what (codes "count")) refl more e
  where
    counts : (rest : Strings) → is_word what (codes "count") ≡ true → counted_list rest ≡ Ok c → AskFor (word ∷ what ∷ rest) c
    counts [] t f = subst (AskFor (word ∷ what ∷ [])) (ok_is ask.CountCommands c f) (w, t)
    counts (other ∷ rest) t f =
        let h = guarded (eqb (length (other ∷ rest)) 0) (Ok ask.CountCommands) (WrongCount of.Command) c f in
        let none : length (other ∷ rest) ≡ 0 = eqb-true (length (other ∷ rest)) 0 h.0 in
        absurd (cc)

    go : (b : Bool) → is_word what (codes "count") ≡ b → (rest : Strings)
        → cond b (counted_list rest) (Ok ask.ListCommands) ≡ Ok c → AskFor (word ∷ what ∷ rest) c
    go true t rest f = counts rest t f
    go false t rest f = subst (AskFor (word ∷ what ∷ rest)) (ok_is ask.ListCommands c f) (w, t)

set_ok : (word : List ℕ) (args : Strings) (c : Command) → IsTrue (is_word word (codes "set"))
    → set_from args ≡ Ok c → AskFor (word ∷ args) c
unfolding set_from
set_ok word args c w e =
    let a = bind_ok (name_and_value args) (λ (both : List ℕ × List ℕ). and_then (checked_name both.0) (λ (n : List ℕ).
    and_then (checked_value both.1) (λ (v : List ℕ). Ok (ask.Set n v)))) c e in
    let b = bind_ok (checked_name a.0.0) (λ (n : List ℕ). and_then (checked_value a.0.1) (λ (v : List ℕ). Ok (ask.Set n v))) c a.2 in
    let d = bind_ok (checked_value a.0.1) (λ (v : List ℕ). Ok (ask.Set b.0 v)) c b.2 in
    let name = name_ok a.0.0 b.0 b.1 in
    let value = value_ok a.0.1 d.0 d.1 in
    subst (AskFor (word ∷ args)) (ok_is (ask.Set b.0 d.0) c d.2)
    ((w, both_ok args a.0 a.1 ∙ ap (λ (n : List ℕ). n ∷ a.0.1 ∷ []) name.0 ∙ ap (λ (v : List ℕ). b.0 ∷ v ∷ []) value.0), name.1, value.1)

move_ok : (word : List ℕ) (args : Strings) (c : Command) → IsTrue (is_word word (codes "move"))
    → move_from args ≡ Ok c → AskFor (word ∷ args) c
unfolding move_from
move_ok word args c w e =
    let a = bind_ok (layout_from args) (λ (l : Layout). Ok (ask.Move (get_or args 0 []) l)) c e in
    let h = layout_from_ok args a.0 a.1 in
    subst (AskFor (word ∷ args)) (ok_is (ask.Move (get_or args 0 []) a.0) c a.2) ((w, h.0), h.1, h.2, h.3)

ping_ok : (word : List ℕ) (args : Strings) (c : Command) → IsTrue (is_word word (codes "ping"))
    → ping_from args ≡ Ok c → AskFor (word ∷ args) c
unfolding ping_from
ping_ok word [] c w e = subst (AskFor (word ∷ [])) (ok_is (ask.Ping None) c e) (w, refl)
ping_ok word (text ∷ more) c w e =
    let a = bind_ok (only_argument of.Ping (text ∷ more)) (λ (t : List ℕ). Ok (ask.Ping (Some t))) c e in
    subst (AskFor (word ∷ text ∷ more)) (ok_is (ask.Ping (Some a.0)) c a.2) (w, only_ok of.Ping (text ∷ more) a.0 a.1)

echo_ok : (word : List ℕ) (args : Strings) (c : Command) → IsTrue (is_word word (codes "echo"))
    → echo_from args ≡ Ok c → AskFor (word ∷ args) c
unfolding echo_from
echo_ok word args c w e =
    let a = bind_ok (only_argument of.Echo args) (λ (t : List ℕ). Ok (ask.Echo t)) c e in
    subst (AskFor (word ∷ args)) (ok_is (ask.Echo a.0) c a.2) (w, only_ok of.Echo args a.0 a.1)

counted_ok : (count wanted : ℕ) (command c : Command) → counted count wanted command ≡ Ok c → (count ≡ wanted) × (command ≡ c)
counted_ok count wanted command c e =
    let a = guarded (eqb count wanted) (Ok command) (WrongCount of.Client) c e in
    (eqb-true count wanted a.0, ok_is command c a.1)

abbrev after_info : List ℕ → ℕ → Found
after_info what count = cond (is_word what (codes "getname")) (counted count 0 ask.ClientName) (Err UnknownSubcommand)

abbrev after_name : List ℕ → ℕ → Found
after_name what count = cond (is_word what (codes "setinfo")) (counted count 2 ask.DescribeClient) (after_info what count)

abbrev after_id : List ℕ → ℕ → Found
after_id what count = cond (is_word what (codes "setname")) (counted count 1 ask.DescribeClient) (after_name what count)

client_ok : (word : List ℕ) (args : Strings) (c : Command) → IsTrue (is_word word (codes "client"))
    → client_from args ≡ Ok c → AskFor (word ∷ args) c
unfolding client_from subcommand_from
client_ok word [] c w e = absurd cc
client_ok word (what ∷ rest) c w e =
    let n = length rest in
    elim (chosen (is_word what (codes "id")) (counted n 0 ask.ClientId) (after_id what n) c e) [
      | inl h ↦ let k = counted_ok n 0 ask.ClientId c h.1 in subst (AskFor (word ∷ what ∷ rest)) k.1 (w, h.0, k.0)
      | inr f ↦ elim (chosen (is_word what (codes "setname")) (counted n 1 ask.DescribeClient) (after_name what n) c f) [
        | inl h ↦ let k = counted_ok n 1 ask.DescribeClient c h.1 in subst (AskFor (word ∷ what ∷ rest)) k.1 (inl (w, h.0, k.0))
        | inr g ↦ elim (chosen (is_word what (codes "setinfo")) (counted n 2 ask.DescribeClient) (after_info what n) c g) [
          | inl h ↦ let k = counted_ok n 2 ask.DescribeClient c h.1 in subst (AskFor (word ∷ what ∷ rest)) k.1 (inr (w, h.0, k.0))
          | inr i ↦
              let h = guarded (is_word what (codes "getname")) (counted n 0 ask.ClientName) UnknownSubcommand c i in
              let k = counted_ok n 0 ask.ClientName c h.1 in
              subst (AskFor (word ∷ what ∷ rest)) k.1 (w, h.0, k.0)
        ]
      ]
    ]

from_ok : (name : CommandName) (word : List ℕ) (args : Strings) (c : Command) → IsTrue (is_word word (command_text name))
    → command_from name args ≡ Ok c → AskFor (word ∷ args) c
from_ok of.Get word args c w e = read_ok of.Get wanted.Value word args c (λ name only. (w, only)) e
from_ok of.Set word args c w e = set_ok word args c w e
from_ok of.Move word args c w e = move_ok word args c w e
from_ok of.Info word args c w e = subst (AskFor (word ∷ args)) (ok_is (ask.Info (sections_from args)) c e) (w, refl)
from_ok of.Ping word args c w e = ping_ok word args c w e
from_ok of.Echo word args c w e = echo_ok word args c w e
from_ok of.Command word args c w e = list_ok word args c w e
from_ok of.Client word args c w e = client_ok word args c w e
from_ok of.Quit word args c w e = subst (AskFor (word ∷ args)) (ok_is ask.Quit c e) w
from_ok of.Hello word args c w e = hello_ok word args c w e
from_ok of.Select word args c w e = select_ok word args c w e
from_ok of.Auth word args c w e = login_ok word args c w e
from_ok of.Exists word args c w e = exists_ok word args c w e
from_ok of.Strlen word args c w e = read_ok of.Strlen wanted.Length word args c (λ name only. (w, only)) e
from_ok of.Dbsize word args c w e = size_ok word args c w e
from_ok of.Layout word args c w e = show_ok word args c w e
from_ok of.Scan word args c w e = scan_ok word args c w e
from_ok of.Del word args c w e = delete_ok word args c w e

named_case : (found : Option CommandName) (word : List ℕ) (args : Strings) (c : Command) → name_of_word word ≡ found
    → command_named word found args ≡ Ok c → AskFor (word ∷ args) c
named_case None word args c w e = absurd cc
named_case (Some name) word args c w e = from_ok name word args c (named_ok word name w) e

pub command_ok : (strings : Strings) (c : Command) → command_at strings ≡ Ok c → AskFor strings c
unfolding command_at
command_ok [] c e = absurd cc
command_ok (word ∷ args) c e = named_case (name_of_word word) word args c refl e
