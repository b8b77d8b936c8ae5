-- A word names the command whose name it is.
use Rattle.std.proofs.Common.{◌≡◌, ◌⊎◌, ℕ, Bool, true, false, cond, List, [], ◌∷◌, Option, Some, refl, sym, ap, ◌∙◌, inl, inr}
use Rattle.std.specs.List.{find}
use Rattle.std.specs.Prelude.{IsTrue}
use Rattle.std.specs.Str.{bytes_eq, str_to_ascii_lowercase}
use Rattle.std.proofs.lemmas.Slice.Eq.{bytes_eq-Decides}
use Rattle.client_commands.specs.declared.command.CommandName.{CommandName}
use Rattle.client_commands.specs.declared.command.CommandName.TheVariants as of
use Rattle.client_commands.specs.Words.{is_word, command_text, all_names, name_of_word}

some_is : {X : Type 0} (x y : X) → Some x ≡ Some y → x ≡ y
some_is x y e = cc

pick : {X : Type 0} (b : Bool) (y x : X) (rest : Option X) → cond b (Some y) rest ≡ Some x → ((b ≡ true) × (y ≡ x)) ⊎ (rest ≡ Some x)
pick true y x rest e = inl (refl, some_is y x e)
pick false y x rest e = inr e

find_ok : {X : Type 0} (test : X → Bool) (xs : List X) (x : X) → find test xs ≡ Some x → test x ≡ true
find_ok test [] x e = absurd cc
find_ok test (y ∷ ys) x e =
    elim (pick (test y) y x (find test ys) e) [
      | inl h ↦ sym (ap test h.1) ∙ h.0
      | inr h ↦ find_ok test ys x h
    ]

pub named_ok : (word : List ℕ) (name : CommandName) → name_of_word word ≡ Some name → IsTrue (is_word word (command_text name))
unfolding name_of_word
named_ok word name e = find_ok (λ (n : CommandName). is_word word (command_text n)) all_names name e

-- the command that a word in small letters names
abbrev named_by : List ℕ → Option CommandName
named_by small = find (λ name. bytes_eq small (str_to_ascii_lowercase (command_text name))) all_names

each_name : (name : CommandName) → named_by (str_to_ascii_lowercase (command_text name)) ≡ Some name
each_name of.Get = refl
each_name of.Set = refl
each_name of.Move = refl
each_name of.Info = refl
each_name of.Ping = refl
each_name of.Echo = refl
each_name of.Command = refl
each_name of.Client = refl
each_name of.Quit = refl
each_name of.Hello = refl
each_name of.Select = refl
each_name of.Auth = refl
each_name of.Exists = refl
each_name of.Strlen = refl
each_name of.Dbsize = refl
each_name of.Layout = refl
each_name of.Scan = refl
each_name of.Del = refl

by_small : (word : List ℕ) → name_of_word word ≡ named_by (str_to_ascii_lowercase word)
unfolding name_of_word
by_small word = refl

-- a word that is this text in capital or small letters
pub small_is : (word text : List ℕ) → IsTrue (is_word word text) → str_to_ascii_lowercase word ≡ str_to_ascii_lowercase text
small_is word text e = (bytes_eq-Decides (str_to_ascii_lowercase word) (str_to_ascii_lowercase text)).0 e

pub named_again : (word : List ℕ) (name : CommandName) → IsTrue (is_word word (command_text name)) → name_of_word word ≡ Some name
named_again word name e = by_small word ∙ ap named_by (small_is word (command_text name) e) ∙ each_name name
