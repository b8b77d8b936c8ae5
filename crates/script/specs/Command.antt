-- The contracts that docs/trusted.md lists do not depend on this file; other contracts and proofs do.
-- Which words spell which command.
use Rattle.std.specs.Prelude.{◌≡◌, List, [], ◌∷◌, ⊤, codes, Result, MatchResult}
use Rattle.script.specs.Arguments.{AreNone, AreNumber, AreServers, AreNumberAndMembers, AreName, AreNameAndNumber}
use Rattle.words.specs.Word.{Word}
use Rattle.script.specs.Arguments.{AreNameAndTwoNumbers, AreNameAndNumbers, AreNameAndBytes, AreNameNumberAndBytes}
use Rattle.script.specs.Arguments.{AreNameAndTurns, AreNameBytesAndTurns, AreNameNumberAndDelta, AreNameNumberAndTurns}
use Rattle.script.specs.declared.change.Change.{Change}
use Rattle.script.specs.declared.change.Change.TheVariants as change
use Rattle.script.specs.declared.command.Command.{Command}
use Rattle.script.specs.declared.command.Command.TheVariants as of
use Rattle.script.specs.declared.error.LineError.{LineError}
use Rattle.script.specs.declared.error.LineError.TheVariants.{Bad, NoMemory}

-- the first word is this text, and `Rest` holds for the words after it
abbrev pub Says : Word → (List Word → Type 0) → List Word → Type 0
Says text Rest [] = ⊥
Says text Rest (word ∷ words) = (word ≡ text) × Rest words

-- the words spell this command, which may change the cluster
abbrev pub SpellsChange : List Word → Change → Type 0
SpellsChange words (change.Layout k members) = Says (codes "layout") (AreNumberAndMembers k members.items) words
SpellsChange words (change.Object name layout delta) =
    Says (codes "object") (AreNameNumberAndDelta name.now layout delta) words
SpellsChange words (change.Retire name position) = Says (codes "retire") (AreNameAndNumber name.now position) words
SpellsChange words (change.Down server) = Says (codes "down") (AreNumber server) words
SpellsChange words (change.Up server) = Says (codes "up") (AreNumber server) words
SpellsChange words (change.CallRead name) = Says (codes "call") (Says (codes "read") (AreName name.now)) words
SpellsChange words (change.CallWrite name value) =
    Says (codes "call") (Says (codes "write") (AreNameAndBytes name.now value)) words
SpellsChange words (change.CallMove name layout) =
    Says (codes "call") (Says (codes "move") (AreNameAndNumber name.now layout)) words
SpellsChange words (change.Advance name call) = Says (codes "advance") (AreNameAndNumber name.now call) words
SpellsChange words (change.Supply name call) = Says (codes "supply") (AreNameAndNumber name.now call) words
SpellsChange words (change.SupplyAs name call value) =
    Says (codes "supply-as") (AreNameNumberAndBytes name.now call value) words
SpellsChange words (change.Settle name call) = Says (codes "settle") (AreNameAndNumber name.now call) words
SpellsChange words (change.Post name call) = Says (codes "post") (AreNameAndNumber name.now call) words
SpellsChange words (change.Again name call) = Says (codes "again") (AreNameAndNumber name.now call) words
SpellsChange words (change.Answer name call) = Says (codes "answer") (AreNameAndNumber name.now call) words
SpellsChange words (change.Serve name place) = Says (codes "serve") (AreNameAndNumber name.now place) words
SpellsChange words (change.Take name place) = Says (codes "take") (AreNameAndNumber name.now place) words
SpellsChange words (change.Lose name place) = Says (codes "lose") (AreNameAndNumber name.now place) words
SpellsChange words (change.Repeat name place) = Says (codes "repeat") (AreNameAndNumber name.now place) words
SpellsChange words (change.Deliver name) = Says (codes "deliver") (AreName name.now) words
SpellsChange words (change.Read name turns) = Says (codes "read") (AreNameAndTurns name.now turns) words
SpellsChange words (change.Write name value turns) =
    Says (codes "write") (AreNameBytesAndTurns name.now value turns) words
SpellsChange words (change.Move name layout turns) =
    Says (codes "move") (AreNameNumberAndTurns name.now layout turns) words
SpellsChange words (change.Resume name call turns) =
    Says (codes "resume") (AreNameNumberAndTurns name.now call turns) words

-- the words spell this command
abbrev pub SpellsCommand : List Word → Command → Type 0
SpellsCommand words (of.Servers count) = Says (codes "servers") (AreServers count) words
SpellsCommand words (of.Change asked) = SpellsChange words asked
SpellsCommand words (of.Show name call) = Says (codes "show") (AreNameAndNumber name.now call) words
SpellsCommand words (of.Mail name) = Says (codes "mail") (AreName name.now) words
SpellsCommand words (of.Bank name position member) =
    Says (codes "bank") (AreNameAndTwoNumbers name.now position member) words
SpellsCommand words of.Account = Says (codes "account") AreNone words
SpellsCommand words (of.History name) = Says (codes "history") (AreName name.now) words
SpellsCommand words (of.Sequence name) = Says (codes "sequence") (AreName name.now) words
SpellsCommand words (of.Check name calls) = Says (codes "check") (AreNameAndNumbers name.now calls.items) words

-- why the words give no command: they spell none, or memory is refused
abbrev pub IsErrorOf : List Word → LineError → Type 0
IsErrorOf words Bad = (c : Command) → ¬ (SpellsCommand words c)
IsErrorOf words NoMemory = ⊤

-- the result is the command that the words spell, or why they give none
abbrev pub ParsesToCommand : List Word → Result Command LineError → Type 0
ParsesToCommand words result = MatchResult result (SpellsCommand words) (IsErrorOf words)
