-- Words that spell no command, by the text that they begin with.
use Rattle.std.proofs.Common.{◌≡◌, ◌==◌, ℕ, Bool, true, false, List, [], ◌∷◌, codes, sym, ◌∙◌, subst, ◌⊎◌, inl, inr}
use Rattle.std.proofs.Common.{refl}
use Rattle.std.specs.Prelude.{Option, Result, Ok, Err, IsErrAnd, ◌&&◌}
use Rattle.std.proofs.lemmas.Bool.{eq-eqb}
use Rattle.script.specs.Arguments.{AreServers, AreNumberAndMembers, AreNumber, AreNameAndNumber, AreNameAndTwoNumbers}
use Rattle.words.specs.Word.{Word}
use Rattle.script.specs.Arguments.{AreNameAndNumbers, AreNameAndBytes, AreNameNumberAndBytes, AreNameAndTurns}
use Rattle.script.specs.Arguments.{AreNameBytesAndTurns, AreNameNumberAndDelta, AreNameNumberAndTurns}
use Rattle.script.specs.Command.{SpellsCommand, IsErrorOf, ParsesToCommand}
use Rattle.script.specs.declared.change.Change.TheVariants as change
use Rattle.script.specs.declared.command.Command.{Command}
use Rattle.script.specs.declared.command.Command.TheVariants as of
use Rattle.script.specs.FirstWord.{number_word}
use Rattle.script.specs.declared.number_commands.NumberCommand.{NumberCommand}
use Rattle.script.specs.declared.number_commands.NumberCommand.TheVariants as number
use Rattle.script.specs.declared.error.LineError.{LineError}
use Rattle.script.specs.declared.error.LineError.TheVariants.{Bad, NoMemory}

-- whether two words are the same
abbrev same_word : Word → Word → Bool
same_word [] [] = true
same_word [] (b ∷ bs) = false
same_word (a ∷ more) [] = false
same_word (a ∷ more) (b ∷ bs) = (a == b) && same_word more bs

same_word-refl : (word : Word) → same_word word word ≡ true
same_word-refl [] = refl
same_word-refl (b ∷ bs) = rw (eq-eqb b b refl) (same_word-refl bs)

-- words that the test tells apart
apart : (v w : Word) → v ≡ w → same_word v w ≡ false → ⊥
apart v w same differ =
    let tested : same_word v w ≡ true = subst (λ x. same_word v x ≡ true) same (same_word-refl v) in cc

-- what the words parse to, for a first word that is this text
pub begins : (words : List Word) (r : Result Command LineError) (word text : Word) → word ≡ text
    → ParsesToCommand (text ∷ words) r → ParsesToCommand (word ∷ words) r
begins words r word text is parses = subst (λ w. ParsesToCommand (w ∷ words) r) (sym is) parses

-- words that spell no command are bad
pub fails : (words : List Word) (r : Result Command LineError) (e : LineError) → IsErrAnd r (λ y. y ≡ e) → e ≡ Bad
    → ((c : Command) → ¬ (SpellsCommand words c)) → ParsesToCommand words r
fails words (Ok x) e is bad none = absurd is
fails words (Err y) e is bad none = subst (IsErrorOf words) (sym (is ∙ bad)) none

-- the same where memory may be wanting
pub fails_or : (words : List Word) (r : Result Command LineError) (e : LineError) (A : Type 0) → IsErrAnd r (λ y. y ≡ e)
    → (e ≡ NoMemory) ⊎ ((e ≡ Bad) × A) → (A → (c : Command) → ¬ (SpellsCommand words c)) → ParsesToCommand words r
fails_or words (Ok x) e A is causes none = absurd is
fails_or words (Err y) e A is (inl memory) none = subst (IsErrorOf words) (sym (is ∙ memory)) tt
fails_or words (Err y) e A is (inr bad) none = subst (IsErrorOf words) (sym (is ∙ bad.0)) (none bad.1)

-- `SpellsCommand words (of.Change asked)` computes only where it is known which change `asked` is. So each lemma on a
-- command that is no change has a clause for one change, `change.Down`: its last clause then stands for each other change
-- by itself.
pub none-Servers : (rest : List Word) → ((n : ℕ) → ¬ (AreServers n rest)) → (c : Command)
    → ¬ (SpellsCommand (codes "servers" ∷ rest) c)
none-Servers rest none (of.Servers count) s = none count s.1
none-Servers rest none (of.Change (change.Down server)) s = apart (codes "servers") _ s.0 refl
none-Servers rest none _ s = apart (codes "servers") _ s.0 refl

pub none-Layout : (rest : List Word) → ((n : ℕ) (ns : List ℕ) → ¬ (AreNumberAndMembers n ns rest)) → (c : Command)
    → ¬ (SpellsCommand (codes "layout" ∷ rest) c)
none-Layout rest none (of.Change (change.Layout k members)) s = none k members.items s.1
none-Layout rest none _ s = apart (codes "layout") _ s.0 refl

pub none-Object : (rest : List Word)
    → ((name : Word) (n : ℕ) (d : Option ℕ) → ¬ (AreNameNumberAndDelta name n d rest)) → (c : Command)
    → ¬ (SpellsCommand (codes "object" ∷ rest) c)
none-Object rest none (of.Change (change.Object name layout delta)) s = none name.now layout delta s.1
none-Object rest none _ s = apart (codes "object") _ s.0 refl

pub none-Retire : (rest : List Word) → ((name : Word) (n : ℕ) → ¬ (AreNameAndNumber name n rest)) → (c : Command)
    → ¬ (SpellsCommand (codes "retire" ∷ rest) c)
none-Retire rest none (of.Change (change.Retire name position)) s = none name.now position s.1
none-Retire rest none _ s = apart (codes "retire") _ s.0 refl

pub none-Down : (rest : List Word) → ((n : ℕ) → ¬ (AreNumber n rest)) → (c : Command)
    → ¬ (SpellsCommand (codes "down" ∷ rest) c)
none-Down rest none (of.Change (change.Down server)) s = none server s.1
none-Down rest none _ s = apart (codes "down") _ s.0 refl

pub none-Up : (rest : List Word) → ((n : ℕ) → ¬ (AreNumber n rest)) → (c : Command)
    → ¬ (SpellsCommand (codes "up" ∷ rest) c)
none-Up rest none (of.Change (change.Up server)) s = none server s.1
none-Up rest none _ s = apart (codes "up") _ s.0 refl

pub none-CallWrite : (rest : List Word) → ((name : Word) (bytes : List ℕ) → ¬ (AreNameAndBytes name bytes rest)) → (c : Command)
    → ¬ (SpellsCommand (codes "call" ∷ codes "write" ∷ rest) c)
none-CallWrite rest none (of.Change (change.CallWrite name value)) s = none name.now value s.1.1
none-CallWrite rest none (of.Change (change.CallRead name)) s = apart (codes "write") _ s.1.0 refl
none-CallWrite rest none (of.Change (change.CallMove name layout)) s = apart (codes "write") _ s.1.0 refl
none-CallWrite rest none _ s = apart (codes "call") _ s.0 refl

pub none-CallMove : (rest : List Word) → ((name : Word) (n : ℕ) → ¬ (AreNameAndNumber name n rest)) → (c : Command)
    → ¬ (SpellsCommand (codes "call" ∷ codes "move" ∷ rest) c)
none-CallMove rest none (of.Change (change.CallMove name layout)) s = none name.now layout s.1.1
none-CallMove rest none (of.Change (change.CallRead name)) s = apart (codes "move") _ s.1.0 refl
none-CallMove rest none (of.Change (change.CallWrite name value)) s = apart (codes "move") _ s.1.0 refl
none-CallMove rest none _ s = apart (codes "call") _ s.0 refl

pub none-Advance : (rest : List Word) → ((name : Word) (n : ℕ) → ¬ (AreNameAndNumber name n rest)) → (c : Command)
    → ¬ (SpellsCommand (codes "advance" ∷ rest) c)
none-Advance rest none (of.Change (change.Advance name call)) s = none name.now call s.1
none-Advance rest none _ s = apart (codes "advance") _ s.0 refl

pub none-Supply : (rest : List Word) → ((name : Word) (n : ℕ) → ¬ (AreNameAndNumber name n rest)) → (c : Command)
    → ¬ (SpellsCommand (codes "supply" ∷ rest) c)
none-Supply rest none (of.Change (change.Supply name call)) s = none name.now call s.1
none-Supply rest none _ s = apart (codes "supply") _ s.0 refl

pub none-SupplyAs : (rest : List Word)
    → ((name : Word) (n : ℕ) (bytes : List ℕ) → ¬ (AreNameNumberAndBytes name n bytes rest)) → (c : Command)
    → ¬ (SpellsCommand (codes "supply-as" ∷ rest) c)
none-SupplyAs rest none (of.Change (change.SupplyAs name call value)) s = none name.now call value s.1
none-SupplyAs rest none _ s = apart (codes "supply-as") _ s.0 refl

pub none-Settle : (rest : List Word) → ((name : Word) (n : ℕ) → ¬ (AreNameAndNumber name n rest)) → (c : Command)
    → ¬ (SpellsCommand (codes "settle" ∷ rest) c)
none-Settle rest none (of.Change (change.Settle name call)) s = none name.now call s.1
none-Settle rest none _ s = apart (codes "settle") _ s.0 refl

pub none-Post : (rest : List Word) → ((name : Word) (n : ℕ) → ¬ (AreNameAndNumber name n rest)) → (c : Command)
    → ¬ (SpellsCommand (codes "post" ∷ rest) c)
none-Post rest none (of.Change (change.Post name call)) s = none name.now call s.1
none-Post rest none _ s = apart (codes "post") _ s.0 refl

pub none-Again : (rest : List Word) → ((name : Word) (n : ℕ) → ¬ (AreNameAndNumber name n rest)) → (c : Command)
    → ¬ (SpellsCommand (codes "again" ∷ rest) c)
none-Again rest none (of.Change (change.Again name call)) s = none name.now call s.1
none-Again rest none _ s = apart (codes "again") _ s.0 refl

pub none-Answer : (rest : List Word) → ((name : Word) (n : ℕ) → ¬ (AreNameAndNumber name n rest)) → (c : Command)
    → ¬ (SpellsCommand (codes "answer" ∷ rest) c)
none-Answer rest none (of.Change (change.Answer name call)) s = none name.now call s.1
none-Answer rest none _ s = apart (codes "answer") _ s.0 refl

pub none-Serve : (rest : List Word) → ((name : Word) (n : ℕ) → ¬ (AreNameAndNumber name n rest)) → (c : Command)
    → ¬ (SpellsCommand (codes "serve" ∷ rest) c)
none-Serve rest none (of.Change (change.Serve name place)) s = none name.now place s.1
none-Serve rest none _ s = apart (codes "serve") _ s.0 refl

pub none-Take : (rest : List Word) → ((name : Word) (n : ℕ) → ¬ (AreNameAndNumber name n rest)) → (c : Command)
    → ¬ (SpellsCommand (codes "take" ∷ rest) c)
none-Take rest none (of.Change (change.Take name place)) s = none name.now place s.1
none-Take rest none _ s = apart (codes "take") _ s.0 refl

pub none-Lose : (rest : List Word) → ((name : Word) (n : ℕ) → ¬ (AreNameAndNumber name n rest)) → (c : Command)
    → ¬ (SpellsCommand (codes "lose" ∷ rest) c)
none-Lose rest none (of.Change (change.Lose name place)) s = none name.now place s.1
none-Lose rest none _ s = apart (codes "lose") _ s.0 refl

pub none-Repeat : (rest : List Word) → ((name : Word) (n : ℕ) → ¬ (AreNameAndNumber name n rest)) → (c : Command)
    → ¬ (SpellsCommand (codes "repeat" ∷ rest) c)
none-Repeat rest none (of.Change (change.Repeat name place)) s = none name.now place s.1
none-Repeat rest none _ s = apart (codes "repeat") _ s.0 refl

pub none-Read : (rest : List Word) → ((name : Word) (n : ℕ) → ¬ (AreNameAndTurns name n rest)) → (c : Command)
    → ¬ (SpellsCommand (codes "read" ∷ rest) c)
none-Read rest none (of.Change (change.Read name turns)) s = none name.now turns s.1
none-Read rest none _ s = apart (codes "read") _ s.0 refl

pub none-Write : (rest : List Word) → ((name : Word) (bytes : List ℕ) (n : ℕ) → ¬ (AreNameBytesAndTurns name bytes n rest)) → (c : Command)
    → ¬ (SpellsCommand (codes "write" ∷ rest) c)
none-Write rest none (of.Change (change.Write name value turns)) s = none name.now value turns s.1
none-Write rest none _ s = apart (codes "write") _ s.0 refl

pub none-Move : (rest : List Word) → ((name : Word) (n m : ℕ) → ¬ (AreNameNumberAndTurns name n m rest)) → (c : Command)
    → ¬ (SpellsCommand (codes "move" ∷ rest) c)
none-Move rest none (of.Change (change.Move name layout turns)) s = none name.now layout turns s.1
none-Move rest none _ s = apart (codes "move") _ s.0 refl

pub none-Resume : (rest : List Word) → ((name : Word) (n m : ℕ) → ¬ (AreNameNumberAndTurns name n m rest)) → (c : Command)
    → ¬ (SpellsCommand (codes "resume" ∷ rest) c)
none-Resume rest none (of.Change (change.Resume name call turns)) s = none name.now call turns s.1
none-Resume rest none _ s = apart (codes "resume") _ s.0 refl

pub none-Show : (rest : List Word) → ((name : Word) (n : ℕ) → ¬ (AreNameAndNumber name n rest)) → (c : Command)
    → ¬ (SpellsCommand (codes "show" ∷ rest) c)
none-Show rest none (of.Show name call) s = none name.now call s.1
none-Show rest none (of.Change (change.Down server)) s = apart (codes "show") _ s.0 refl
none-Show rest none _ s = apart (codes "show") _ s.0 refl

pub none-Bank : (rest : List Word) → ((name : Word) (n m : ℕ) → ¬ (AreNameAndTwoNumbers name n m rest)) → (c : Command)
    → ¬ (SpellsCommand (codes "bank" ∷ rest) c)
none-Bank rest none (of.Bank name position member) s = none name.now position member s.1
none-Bank rest none (of.Change (change.Down server)) s = apart (codes "bank") _ s.0 refl
none-Bank rest none _ s = apart (codes "bank") _ s.0 refl

pub none-Check : (rest : List Word) → ((name : Word) (ns : List ℕ) → ¬ (AreNameAndNumbers name ns rest)) → (c : Command)
    → ¬ (SpellsCommand (codes "check" ∷ rest) c)
none-Check rest none (of.Check name calls) s = none name.now calls.items s.1
none-Check rest none (of.Change (change.Down server)) s = apart (codes "check") _ s.0 refl
none-Check rest none _ s = apart (codes "check") _ s.0 refl

-- the same for each command of a name and a number
pub none-number : (kind : NumberCommand) (rest : List Word) → ((name : Word) (n : ℕ) → ¬ (AreNameAndNumber name n rest))
    → (c : Command) → ¬ (SpellsCommand (number_word kind ∷ rest) c)
none-number number.Retire rest none = none-Retire rest none
none-number number.Advance rest none = none-Advance rest none
none-number number.Supply rest none = none-Supply rest none
none-number number.Settle rest none = none-Settle rest none
none-number number.Post rest none = none-Post rest none
none-number number.Again rest none = none-Again rest none
none-number number.Answer rest none = none-Answer rest none
none-number number.Show rest none = none-Show rest none
none-number number.Serve rest none = none-Serve rest none
none-number number.Take rest none = none-Take rest none
none-number number.Lose rest none = none-Lose rest none
none-number number.Repeat rest none = none-Repeat rest none
