-- For which sections of INFO the words after it ask.
use Rattle.std.specs.Prelude.{ℕ, List, [], ◌∷◌, Bool, true, false, ◌||◌, codes}
use Rattle.std.specs.List.{list_any}
use Rattle.node_strings.specs.Strings.{Strings}
use Rattle.client_commands.specs.Words.{is_word}
use Rattle.client_commands.specs.declared.sections.Sections.{Sections}

-- whether a word stands for all sections
unfoldable pub is_all : List ℕ → Bool
is_all word = is_word word (codes "all") || (is_word word (codes "everything") || is_word word (codes "default"))

-- whether a word names this section, or all sections
abbrev pub names : (section word : List ℕ) → Bool
names section word = is_word word section || is_all word

-- whether there are no words
abbrev pub is_empty : Strings → Bool
is_empty [] = true
is_empty (word ∷ words) = false

-- whether the words after INFO ask for this section: one of them names it or all sections, or there is no word
abbrev pub asks_for : Strings → (section : List ℕ) → Bool
asks_for words section = is_empty words || list_any (names section) words

-- the sections for which the words after INFO ask; a word that names no section asks for none
unfoldable pub sections_from : Strings → Sections
sections_from words = record {
  server = asks_for words (codes "server");
  clients = asks_for words (codes "clients");
  memory = asks_for words (codes "memory");
  persistence = asks_for words (codes "persistence");
  stats = asks_for words (codes "stats");
  replication = asks_for words (codes "replication");
  cluster = asks_for words (codes "cluster");
  keyspace = asks_for words (codes "keyspace");
  node = asks_for words (codes "node");
}
