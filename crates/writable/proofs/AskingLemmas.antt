-- What a call of a fit keeper sends as it asks again can be sent, and the keeper stays fit.
use Rattle.std.proofs.Common.{ℕ, Bool, List, [], ◌∷◌}
use Rattle.std.specs.List.{AllByRecursion}
use Rattle.encoder.specs.Fragment.{fragment}
use Rattle.fitting.specs.Letters.{IsFitLetter}
use Rattle.fitting.specs.Objects.{IsFitObject}
use Rattle.fitting.proofs.AgainLemmas.{read_on_room, reading_on_fit, resent_fit}
use Rattle.fitting.proofs.EventLemmas.{events_fit}
use Rattle.letter.specs.declared.letter.Letter.{Letter}
use Rattle.local_object.specs.Local.{LocalObject}
use Rattle.local_object.specs.ReadingOn.{read_on_events}
use Rattle.local_object.specs.Resent.{letters_again}
use Rattle.node_keeper.specs.Objects.{objects_of}
use Rattle.node_keeper.specs.Resending.{any_or, asked_again, read_on_here, sendings_again}
use Rattle.node_keeper.specs.Sendings.{sent_growth}
use Rattle.node_keeper.specs.declared.keeper.Keeper.{Keeper}
use Rattle.writable.specs.Keepers.{IsFitKeeper, IsShortName}
use Rattle.writable.specs.Laws.{FitKeepersCanResend}
use Rattle.writable.specs.Staying.{AskedKeepersAreFit}
use Rattle.writable.proofs.KeeperLemmas.{more_own, outcome_fit, rest_fit}
use Rattle.writable.proofs.SendingLemmas.{sendings_fit}
use Rattle.writable.proofs.SendableLemmas.{IsFitSending, all_sendable, own_fit}

any_fit : (first other : List Letter) → AllByRecursion IsFitLetter first → AllByRecursion IsFitLetter other →
    AllByRecursion IsFitLetter (any_or first other)
any_fit [] other one two = two
any_fit (letter ∷ letters) other one two = one

-- the requests of a call as it asks again
again_fit : (local : LocalObject) (id : ℕ) → IsFitObject local → AllByRecursion IsFitLetter (asked_again local id)
again_fit local id fit =
    let on = read_on_here local id in
    let left = events_fit local (read_on_events local id) fit (read_on_room local id) in
    any_fit on.sent (letters_again fragment on.local id) left.1 (resent_fit on.local id left.0)

-- all that goes out
again_sendings_fit : (keeper : Keeper) (name : List ℕ) (id : ℕ) (asks_all : Bool) → IsFitKeeper keeper → IsShortName name →
    AllByRecursion IsFitSending (sendings_again name id asks_all keeper)
unfolding sendings_again
again_sendings_fit keeper name id asks_all fit short =
    sendings_fit keeper asks_all name fit short (asked_again (objects_of keeper.objects name) id)
    (again_fit (objects_of keeper.objects name) id (fit.objects name))

pub can_resend_fit : FitKeepersCanResend
can_resend_fit keeper name id asks_all fit short =
    all_sendable keeper.digest fit.digest keeper.ids.node (sendings_again name id asks_all keeper)
    (again_sendings_fit keeper name id asks_all fit short)

pub asked_again_fit : AskedKeepersAreFit
asked_again_fit old new name id fit = (
  λ done. rest_fit old new fit done.rest
      (outcome_fit old.objects new.objects name (read_on_events local id) done.objects.letters fit.objects
      (reading_on_fit local id (fit.objects name)) done.objects.done).0,
  λ asks_all before after short grown. more_own before after (sent_growth old.ids.node old.digest (sendings_again name id asks_all old))
      grown (own_fit old.ids.node (sendings_again name id asks_all old) (again_sendings_fit old name id asks_all fit short)),
)
  where
    local : LocalObject
    local = objects_of old.objects name
