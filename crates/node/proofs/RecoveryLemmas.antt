-- A reply that is taken again.
use Rattle.std.proofs.Common.{◌≡◌, true, [], ◌∷◌, OnOk, Result, Ok, Err, sym, subst, ◌∙◌}
use Rattle.letter.specs.declared.letter.NamedLetter.{NamedLetter}
use Rattle.node_strings.specs.Strings.{Strings}
use Rattle.node_strings.specs.declared.record.Record.TheVariants as record_of
use Rattle.node_messages.specs.declared.error.Fault.{Fault}
use Rattle.node_messages.specs.declared.message.NodeMessage.{NodeMessage}
use Rattle.node_keeper.specs.Delivering.{first_id}
use Rattle.node_keeper.specs.Keeping.{kept_of}
use Rattle.node_keeper.specs.Logging.{letter_records}
use Rattle.recoveries.specs.Records.{IsNamedReplyOutcome, LogRecord, Recovers}
use Rattle.recoveries.proofs.NodeCopyLemmas.{same_self}
use Rattle.node.specs.declared.node.Node.{Node}
use Rattle.node.specs.Frames.{IsLetterOf}
use Rattle.node.specs.Recovering.{CarriesOutRecord, ClosesCall, ClosesTaken, IsRead, KeepsCluster, KeepsDesk}

-- a letter was taken again, and the call that it ended is open at the desk no more
abbrev pub TakesAgain : (old : Node) → NamedLetter → (new : Node) → Type 0
TakesAgain old it new = (taken : IsNamedReplyOutcome (kept_of old.keeper) it.name it.letter (kept_of new.keeper))
    × ClosesCall old (first_id taken.ended) new

taken_carried : (old new : Node) (frame : Strings) (it : NamedLetter) → old.is_named ≡ true → IsLetterOf frame it →
    TakesAgain old it new → KeepsDesk old new → KeepsCluster old.keeper new.keeper →
    CarriesOutRecord old (record_of.Take frame) new
taken_carried old new frame it own read takes keeps cluster =
    let done : TakesAgain old read.0.named new = subst (λ (l : NamedLetter). TakesAgain old l new) read.2 takes in
    let recovers : Recovers (LogRecord.Takes read.0.named.name read.0.named.letter ∷ []) (kept_of old.keeper) (kept_of new.keeper) =
    (kept_of new.keeper, done.0, same_self (kept_of new.keeper)) in record {
      own = own;
      named = keeps.named ∙ own;
      letter = subst IsRead (sym read.1) tt;
      recovers = subst (λ (r : Result NodeMessage Fault). Recovers (letter_records LogRecord.Takes r) (kept_of old.keeper)
          (kept_of new.keeper)) (sym read.1) recovers;
      unrefused = tt;
      cluster = cluster;
      clients = keeps.clients;
      calls = subst (λ (r : Result NodeMessage Fault). ClosesTaken r old new) (sym read.1) done;
    }

-- a letter of a record was taken again, if no error came
pub take_carried : {T E : Type 0} (result : Result T E) (old new : Node) (frame : Strings) (it : NamedLetter) →
    old.is_named ≡ true → IsLetterOf frame it → OnOk result (TakesAgain old it new) → KeepsDesk old new →
    OnOk result (KeepsCluster old.keeper new.keeper) → OnOk result (CarriesOutRecord old (record_of.Take frame) new)
take_carried (Ok x) old new frame it own read takes keeps cluster = taken_carried old new frame it own read takes keeps cluster
take_carried (Err e) old new frame it own read takes keeps cluster = tt
