-- The contracts that docs/trusted.md lists do not depend on this file; other contracts and proofs do.
-- What the run of a script does.
use Rattle.std.specs.Prelude.{◌≡◌, ◌⊎◌, ℕ, suc, List, [], ◌∷◌, ◌++◌, ⊤, length, Option, None, IfSome}
use Rattle.std.specs.Str.Lines.{lines}
use Rattle.std.specs.Io.KnownBytes.{Appends, Keeps}
use Rattle.std.specs.declared.io.ErrorKind.{ErrorKind}
use Rattle.std.specs.declared.io.ErrorKind.TheVariants.{OutOfMemory}
use Rattle.script.specs.declared.command.Command.{Command}
use Rattle.script.specs.declared.line.Line.TheVariants as line
use Rattle.script.specs.declared.error.LineError.TheVariants as line_error
use Rattle.script.specs.Line.{IsLine, IsErrorOfLine}
use Rattle.cluster.specs.Cluster.{Cluster}
use Rattle.player.specs.declared.run.End.{End}
use Rattle.player.specs.declared.run.End.TheVariants.{Unread, NoRoom, NoMemory, BadLine, OutputLost}
use Rattle.player.specs.Play.{Plays, IsBadAt}
use Rattle.words.specs.Written.{Written}

-- a line is skipped and changes nothing, or it spells a command, which is played and prints this text
abbrev pub PlaysLine : Option Cluster → (line : List ℕ) → Option Cluster → (text : List ℕ) → Type 0
PlaysLine old words new text =
    (IsLine words line.Skipped × (new ≡ old) × (text ≡ []))
    ⊎ ((command : Command) × IsLine words (line.Command command) × Plays old command new text)

-- a line is bad: it gives no command, or its command comes at the wrong place or names something that is not there
abbrev pub IsBadLine : Option Cluster → (line : List ℕ) → Type 0
IsBadLine state words = IsErrorOfLine words line_error.Bad
    ⊎ ((command : Command) × IsLine words (line.Command command) × IsBadAt state command)

-- playing these lines from the beginning leads to this cluster and prints this text
pub data PlaysLines : List (List ℕ) → Option Cluster → (text : List ℕ) → Type 0 where
  none : PlaysLines [] None []
  then_plays : {front : List (List ℕ)} {old new : Option Cluster} {text more : List ℕ} (line : List ℕ)
      → PlaysLines front old text → PlaysLine old line new more → PlaysLines (front ++ line ∷ []) new (text ++ more)

-- `front` is the lines before this one, and playing them leads to this cluster and prints this text
pub record IsPlayedTo (all front : List (List ℕ)) (line : List ℕ) (state : Option Cluster)
    (text : List ℕ) : Type 0 where
  pub rest : List (List ℕ)
  pub parted : all ≡ front ++ line ∷ rest
  pub played : PlaysLines front state text

-- the script is all that the reader gives, if that is known
abbrev pub IsScriptOf : (remaining : Written) → (script : List ℕ) → Type 0
IsScriptOf remaining script = IfSome remaining (λ known. script ≡ known)

-- the lines before a bad one are played and their text printed; the bad line has this number
pub record StopsAt (script : List ℕ) (old new : Written) (number : ℕ) : Type 0 where
  pub front : List (List ℕ)
  pub words : List ℕ
  pub state : Option Cluster
  pub text : List ℕ
  pub played : IsPlayedTo (lines script) front words state text
  pub numbered : number ≡ suc (length front)
  pub bad : IsBadLine state words
  pub printed : Appends old new text

-- the lines before one are played, and that line's command is carried out, but its text is lost
pub record LosesOutput (script : List ℕ) : Type 0 where
  pub front : List (List ℕ)
  pub words : List ℕ
  pub state : Option Cluster
  pub after : Option Cluster
  pub text : List ℕ
  pub more : List ℕ
  pub played : IsPlayedTo (lines script) front words state text
  pub command : Command
  pub spelled : IsLine words (line.Command command)
  pub carried_out : Plays state command after more

-- the lines before one are played and their text printed, and memory is refused for that line
pub record LacksMemory (script : List ℕ) (old new : Written) : Type 0 where
  pub front : List (List ℕ)
  pub words : List ℕ
  pub state : Option Cluster
  pub text : List ℕ
  pub played : IsPlayedTo (lines script) front words state text
  pub lacks : IsErrorOfLine words line_error.NoMemory
  pub printed : Appends old new text

-- the command of a line is carried out, and its text is lost
abbrev pub LosesLine : Option Cluster → (line : List ℕ) → Type 0
LosesLine state words = (command : Command) × (after : Option Cluster) × (more : List ℕ)
    × IsLine words (line.Command command) × Plays state command after more

-- playing this line leads from the old cluster to the new one, and its text is printed
abbrev pub IsPlayedFrom : Option Cluster → (line : List ℕ) → Option Cluster → (before after : Written) → Type 0
IsPlayedFrom old words new before after = (text : List ℕ) × PlaysLine old words new text × Appends before after text

-- why the run ends at the line of this number, and what was done
abbrev pub EndsLine : (number : ℕ) → Option Cluster → (line : List ℕ) → (before after : Written) → End → Type 0
EndsLine number state words before after Unread = ⊥
EndsLine number state words before after NoRoom = ⊥
EndsLine number state words before after NoMemory =
    (IsErrorOfLine words line_error.NoMemory × Keeps before after) ⊎ LosesLine state words
EndsLine number state words before after (BadLine at) = (at ≡ number) × IsBadLine state words × Keeps before after
EndsLine number state words before after OutputLost = LosesLine state words

-- all lines of a script are played, and their text is printed
abbrev pub IsPlayedThrough : (script : List ℕ) → (old new : Written) → Type 0
IsPlayedThrough script old new =
    (state : Option Cluster) × (text : List ℕ) × PlaysLines (lines script) state text × Appends old new text

-- why the run of a script ends early at one of its lines, and what was done
abbrev pub EndsAt : (script : List ℕ) → (old new : Written) → End → Type 0
EndsAt script old new Unread = ⊥
EndsAt script old new NoRoom = ⊥
EndsAt script old new NoMemory = LacksMemory script old new ⊎ LosesOutput script
EndsAt script old new (BadLine number) = StopsAt script old new number
EndsAt script old new OutputLost = LosesOutput script

-- the script cannot be read
abbrev pub IsUnread : End → Type 0
IsUnread Unread = ⊤
IsUnread _ = ⊥

-- why a run ends early, and what was done: a script that is not read, or for which there is no room, is not played;
-- otherwise the run ends at one of its lines
abbrev pub RunEndsBy : (remaining old new : Written) → End → Type 0
RunEndsBy remaining old new Unread = Keeps old new
RunEndsBy remaining old new NoRoom = Keeps old new
RunEndsBy remaining old new NoMemory =
    (script : List ℕ) × IsScriptOf remaining script × (LacksMemory script old new ⊎ LosesOutput script)
RunEndsBy remaining old new (BadLine number) =
    (script : List ℕ) × IsScriptOf remaining script × StopsAt script old new number
RunEndsBy remaining old new OutputLost = (script : List ℕ) × IsScriptOf remaining script × LosesOutput script

-- the whole script that the reader gives is played, and its text is printed
pub record PlaysScript (remaining old new : Written) : Type 0 where
  pub script : List ℕ
  pub read : IsScriptOf remaining script
  pub state : Option Cluster
  pub text : List ℕ
  pub played : PlaysLines (lines script) state text
  pub printed : Appends old new text

-- the exit status of a run that ends early
abbrev pub exit_status_of_end : End → ℕ
exit_status_of_end Unread = 2
exit_status_of_end NoRoom = 1
exit_status_of_end NoMemory = 1
exit_status_of_end (BadLine number) = 2
exit_status_of_end OutputLost = 1

-- the exit status, and what was done: 0 if the whole script is played, and otherwise that of the early end
abbrev pub Runs : (remaining old new : Written) → (status : ℕ) → Type 0
Runs remaining old new status =
    ((status ≡ 0) × PlaysScript remaining old new)
    ⊎ ((end : End) × (status ≡ exit_status_of_end end) × RunEndsBy remaining old new end)

-- the exit status if the script cannot be read, for an error of this kind
abbrev pub unread_status : ErrorKind → ℕ
unread_status OutOfMemory = 1
unread_status _ = 2
