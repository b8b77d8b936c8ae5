-- What a fit keeper can write as a call begins, and that it stays fit.
use Rattle.std.proofs.Common.{◌≡◌, inl, inr, ◌++◌, ◌<◌, ◌^◌, ℕ, Bool, true, false, cond, List, [], ◌∷◌, length, None, refl, sym, subst, ap}
use Rattle.std.proofs.Common.{◌∙◌}
use Rattle.std.specs.List.{AllByRecursion}
use Rattle.cluster_file.specs.File.{FileContents}
use Rattle.deeds.specs.CallId.{CallIds, HasRanges}
use Rattle.deeds.specs.Named.{is_same_name}
use Rattle.fitting.specs.Letters.{IsFitLetter}
use Rattle.fitting.specs.Objects.{IsFitObject}
use Rattle.fitting.specs.Outcomes.{LeaveFit}
use Rattle.fitting.proofs.OutcomeLemmas.{beginning_fit, ending_fit, first_fit}
use Rattle.letter.specs.declared.letter.Letter.{Letter}
use Rattle.letter.specs.declared.letter.NamedLetter.{NamedLetter}
use Rattle.local_object.specs.Events.{LocalEvent}
use Rattle.local_object.specs.Local.{LocalObject}
use Rattle.node_effects.specs.Work.{Growth, IsGrown, no_growth, one_entry}
use Rattle.node_effects.specs.declared.work.Work.{Work}
use Rattle.node_keeper.specs.Acts.{GivesId}
use Rattle.node_keeper.specs.Beginning.{BeginsCall, Beginning, begun_growth, begun_sendings, moving_call, reading_call, writing_call}
use Rattle.node_keeper.specs.Delivering.{KeepsRest}
use Rattle.node_keeper.specs.Doing.{IsOutcomeAt}
use Rattle.node_keeper.specs.Logging.{start_entry}
use Rattle.node_keeper.specs.Objects.{IsChangedAt, objects_of}
use Rattle.node_keeper.specs.Resending.{sendings_of}
use Rattle.node_keeper.specs.declared.delivered.Begun.{Begun}
use Rattle.node_keeper.specs.declared.delivered.Begun.TheVariants as begun
use Rattle.node_keeper.specs.declared.keeper.Keeper.{Keeper}
use Rattle.node_keeper.specs.declared.objects.Objects.{Objects}
use Rattle.open_calls.proofs.ListLemmas.{all_append}
use Rattle.writable.specs.Keepers.{AreBytes, HasFitOwn, IsFitKeeper, IsFitNamed, IsLeftFit, IsShortName}
use Rattle.writable.specs.Laws.{FitKeepersCanBegin}
use Rattle.writable.specs.Staying.{BegunKeepersAreFit, GivenUpKeepersAreFit}
use Rattle.writable.proofs.GivenIdLemmas.{given_fit, next_small}
use Rattle.writable.proofs.SendingLemmas.{sendings_fit}
use Rattle.writable.proofs.SendableLemmas.{all_sendable, moves_loggable, own_fit}

-- Objects

pub changed_fit : (old new : Objects) (name : List ℕ) (local : LocalObject) → ((other : List ℕ) → IsFitObject (objects_of old other)) →
    IsFitObject local → IsChangedAt old name local new → (other : List ℕ) → IsFitObject (objects_of new other)
changed_fit old new name local all fit changed other = subst IsFitObject (sym (changed.objects other)) (go (is_same_name name other))
  where
    go : (b : Bool) → IsFitObject (cond b local (objects_of old other))
    go true = fit
    go false = all other

pub outcome_fit : (old new : Objects) (name : List ℕ) (events : List LocalEvent) (sent : List Letter) →
    ((other : List ℕ) → IsFitObject (objects_of old other)) → LeaveFit (objects_of old name) events →
    IsOutcomeAt old name events new sent →
    ((other : List ℕ) → IsFitObject (objects_of new other)) × AllByRecursion IsFitLetter sent
outcome_fit old new name events sent all leave done =
    let left = leave done.local sent done.done in
    (changed_fit old new name done.local all left.0 done.changed, left.1)

-- What the node keeps

-- the letters to itself that wait, after some were added
pub more_own : (before after : Work) (growth : Growth) → IsGrown before after growth → AllByRecursion IsFitNamed growth.own →
    HasFitOwn before → HasFitOwn after
more_own before after growth grown added old =
    subst (λ (its : List NamedLetter). AllByRecursion IsFitNamed its) (sym grown.own)
    (all_append IsFitNamed before.own.items growth.own old added)

-- the same, if none was added
pub same_own : (before after : Work) (growth : Growth) → IsGrown before after growth → growth.own ≡ [] → HasFitOwn before → HasFitOwn after
same_own before after growth grown none old =
    more_own before after growth grown (subst (λ (its : List NamedLetter). AllByRecursion IsFitNamed its) (sym none) tt) old

pub rest_fit : (old new : Keeper) → IsFitKeeper old → KeepsRest old new → ((name : List ℕ) → IsFitObject (objects_of new.objects name)) →
    IsFitKeeper new
rest_fit old new fit rest objects = record {
  node = subst (λ (i : CallIds). i.node < 2 ^ 8) (sym rest.ids) fit.node;
  nodes = subst (λ (f : FileContents). AreBytes (f.fixed.nodes ++ f.later)) (sym rest.file) fit.nodes;
  ids = subst HasRanges (sym rest.ids) fit.ids;
  digest = ap length rest.digest ∙ fit.digest;
  objects = objects;
}

-- Calls that begin

pub can_begin_fit : FitKeepersCanBegin
can_begin_fit keeper name id fit short next =
    let small = next_small keeper.ids id fit.ids fit.node next in
    let first = first_fit (objects_of keeper.objects name) id (fit.objects name) small in
    let can = λ (asks_all : Bool) (letters : List Letter) (all : AllByRecursion IsFitLetter letters).
    all_sendable keeper.digest fit.digest keeper.ids.node (sendings_of asks_all keeper.ids.node keeper.file name letters)
    (sendings_fit keeper asks_all name fit short letters all) in (
      λ asks_all. record { logged = tt; sent = can asks_all _ first.0 },
      λ value. record { logged = tt; sent = can false _ (first.1 value) },
      λ layout lawful. record {
        logged = (moves_loggable keeper.digest fit.digest name id layout short small lawful, tt);
        sent = can false _ (first.2 layout lawful);
      },
    )

-- no letter of the node to itself is added as an id is given
given_own : (old : CallIds) (id : ℕ) (new : CallIds) (before after : Work) → GivesId old id new before after → HasFitOwn before →
    HasFitOwn after
given_own old id new before after (inl gives) own = same_own before after no_growth gives.2 refl own
given_own old id new before after (inr gives) own = same_own before after (one_entry start_entry) gives.3 refl own

-- what a node keeps after an id was given
numbered_fit : (old new : Keeper) (id : ℕ) (before after : Work) → IsFitKeeper old → GivesId old.ids id new.ids before after →
    new.file ≡ old.file → new.digest ≡ old.digest → ((name : List ℕ) → IsFitObject (objects_of new.objects name)) → IsFitKeeper new
numbered_fit old new id before after fit gives file digest objects =
    let given = given_fit old.ids id new.ids before after fit.ids fit.node gives in record {
      node = given.node;
      nodes = subst (λ (f : FileContents). AreBytes (f.fixed.nodes ++ f.later)) (sym file) fit.nodes;
      ids = given.within;
      digest = ap length digest ∙ fit.digest;
      objects = objects;
    }

-- the call began, or its object refused it
begins_fit : (call : Beginning) (old new : Keeper) (before after : Work) (result : Begun) → IsFitKeeper old → IsShortName call.name →
    ((id : ℕ) → id < 2 ^ 64 → call.refusal (objects_of old.objects call.name) id ≡ None →
    LeaveFit (objects_of old.objects call.name) (call.event id ∷ [])) →
    BeginsCall call old before new after result → IsLeftFit before new after
begins_fit call old new before after (begun.Open id) fit short leave is =
    let small = (given_fit old.ids id new.ids before is.given fit.ids fit.node is.gives).small in
    let left = outcome_fit old.objects new.objects call.name (call.event id ∷ []) is.letters fit.objects
    (leave id small is.cause) is.done in
    let sends = begun_sendings call old is.letters in
    record {
      keeper = numbered_fit old new id before is.given fit is.gives is.file is.digest left.0;
      own = λ own. more_own is.given after (begun_growth call id old is.letters) is.grown
          (own_fit old.ids.node sends (sendings_fit old call.asks_all call.name fit short is.letters left.1))
          (given_own old.ids id new.ids before is.given is.gives own);
    }
begins_fit call old new before after (begun.Refused refusal) fit short leave is = record {
  keeper = numbered_fit old new is.id before after fit is.gives is.file is.digest
      (λ name. subst IsFitObject (sym (is.same.objects name)) (fit.objects name));
  own = given_own old.ids is.id new.ids before after is.gives;
}

pub begun_fit : BegunKeepersAreFit
begun_fit old new before after result name fit short = (
  λ asks_all is. begins_fit (reading_call name asks_all) old new before after result fit short
      (λ id small none. (beginning_fit (objects_of old.objects name) id (fit.objects name) small).0) is,
  λ value is. begins_fit (writing_call name value) old new before after result fit short
      (λ id small none. (beginning_fit (objects_of old.objects name) id (fit.objects name) small).1 value none) is,
  λ layout lawful is. begins_fit (moving_call name layout) old new before after result fit short
      (λ id small none. (beginning_fit (objects_of old.objects name) id (fit.objects name) small).2 layout lawful none) is,
)

-- Calls that are given up

pub given_up_fit : GivenUpKeepersAreFit
given_up_fit old new name id fit done rest =
    rest_fit old new fit rest
    (outcome_fit old.objects new.objects name _ [] fit.objects (ending_fit (objects_of old.objects name) id (fit.objects name)) done).0
