-- Calls that begin, calls that an object refuses, and calls that cannot begin.
use Rattle.std.proofs.Common.{◌≡◌, ◌≢◌, ◌⊎◌, inl, inr, ℕ, Bool, false, List, [], ◌∷◌, Option, None, Some, Result, Ok, Err, IfOk, OnOk}
use Rattle.std.proofs.Common.{sym, subst, ap, ◌∙◌}
use Rattle.std.proofs.lemmas.List.{append-nil}
use Rattle.std.specs.List.{AllByRecursion}
use Rattle.cluster_file.specs.File.{FileContents}
use Rattle.encoder.specs.Fragment.{fragment}
use Rattle.deeds.specs.CallId.{CallIds, with_next_epoch}
use Rattle.tag.specs.declared.refusal.Refusal.{Refusal}
use Rattle.tag.specs.declared.refusal.Refusal.TheVariants.{NoMemory}
use Rattle.letter.specs.declared.letter.Letter.{Letter}
use Rattle.local_object.specs.Events.{done_here}
use Rattle.node_keeper.specs.Doing.{IsOutcomeAt}
use Rattle.node_keeper.specs.declared.objects.Objects.{Objects}
use Rattle.node_keeper.specs.Objects.{AreSame, objects_of}
use Rattle.node_effects.specs.Errors.{IsUnwritten}
use Rattle.node_effects.specs.Work.{IsGrown}
use Rattle.node_effects.proofs.GrowthLemmas.{grown_then}
use Rattle.node_effects.specs.declared.error.NodeError.{NodeError}
use Rattle.node_effects.specs.declared.error.NodeError.TheVariants as errors
use Rattle.node_effects.specs.declared.work.Work.{Work}
use Rattle.node_keeper.specs.Acts.{GivesId}
use Rattle.node_keeper.specs.Beginning.{BeginsCall, Beginning, IsCallBegun, IsNotBegun, begun_sendings, opened_growth}
use Rattle.node_keeper.specs.NextIds.{IsNoId, next_id_of}
use Rattle.node_keeper.specs.Fitting.{IsLoggable, IsSendable}
use Rattle.node_keeper.specs.Resending.{first_for_all, sendings_of, to_all}
use Rattle.node_keeper.specs.Sendings.{Sending, asked, sent_growth}
use Rattle.node_keeper.specs.declared.delivered.Begun.{Begun}
use Rattle.node_keeper.specs.declared.delivered.Begun.TheVariants as begun
use Rattle.node_keeper.specs.declared.keeper.Keeper.{Keeper}
use Rattle.node_keeper.proofs.RequestCopyLemmas.{all_parts}
use Rattle.node_keeper.proofs.IdLemmas.{begun_later, next_is_node}

-- the node that gives an id has its number
pub gives_node : (old : CallIds) (id : ℕ) (new : CallIds) (before after : Work) → GivesId old id new before after →
    new.node ≡ old.node
gives_node old id new before after (inl g) = ap (λ (i : CallIds). i.node) g.1 ∙ next_is_node old
gives_node old id new before after (inr g) =
    ap (λ (i : CallIds). i.node) g.2 ∙ next_is_node (with_next_epoch old) ∙ (begun_later old g.0).node

-- a call begins
pub call_begun : (call : Beginning) (id : ℕ) (old new : Keeper) (before given seen after : Work) (letters : List Letter) →
    GivesId old.ids id new.ids before given → call.refusal (objects_of old.objects call.name) id ≡ None →
    IsOutcomeAt old.objects call.name (call.event id ∷ []) new.objects letters →
    IsGrown given seen (opened_growth old.digest (call.records id) (call.notice id)) →
    IsGrown seen after
    (sent_growth new.ids.node old.digest (sendings_of call.asks_all new.ids.node old.file call.name letters)) →
    AllByRecursion (IsLoggable old.digest) (call.records id) →
    AllByRecursion (IsSendable new.ids.node old.digest) (sendings_of call.asks_all new.ids.node old.file call.name letters) →
    new.file ≡ old.file → new.digest ≡ old.digest → IsCallBegun call id old before new after
call_begun call id old new before given seen after letters gives cause done sees sent logged fits file digest =
    let node = gives_node old.ids id new.ids before given gives in record {
      given = given;
      gives = gives;
      cause = cause;
      letters = letters;
      done = done;
      grown = grown_then given seen after (opened_growth old.digest (call.records id) (call.notice id))
          (sent_growth old.ids.node old.digest (begun_sendings call old letters)) sees
          (subst (λ n. IsGrown seen after (sent_growth n old.digest (sendings_of call.asks_all n old.file call.name letters))) node
          sent);
      fits = record {
        logged = logged;
        sent = subst (λ n. AllByRecursion (IsSendable n old.digest) (sendings_of call.asks_all n old.file call.name letters)) node
            fits;
      };
      file = file;
      digest = digest;
    }

-- where not all nodes are asked, requests go only to the nodes that they ask
asked_alone : (asks_all : Bool) → asks_all ≡ false → (number : ℕ) (file : FileContents) (name : List ℕ) (letters : List Letter) →
    asked number name letters ≡ sendings_of asks_all number file name letters
asked_alone asks_all alone number file name letters =
    subst (λ b. asked number name letters ≡ sendings_of b number file name letters) (sym alone)
    (sym (append-nil (asked number name letters)))

-- a call begins that does not ask all nodes
pub alone_begun : (call : Beginning) → call.asks_all ≡ false → (id : ℕ) (old new : Keeper) (before given seen after : Work)
    (letters : List Letter) →
    GivesId old.ids id new.ids before given → call.refusal (objects_of old.objects call.name) id ≡ None →
    IsOutcomeAt old.objects call.name (call.event id ∷ []) new.objects letters →
    IsGrown given seen (opened_growth old.digest (call.records id) (call.notice id)) →
    IsGrown seen after (sent_growth new.ids.node old.digest (asked new.ids.node call.name letters)) →
    AllByRecursion (IsLoggable old.digest) (call.records id) →
    AllByRecursion (IsSendable new.ids.node old.digest) (asked new.ids.node call.name letters) →
    new.file ≡ old.file → new.digest ≡ old.digest → IsCallBegun call id old before new after
alone_begun call alone id old new before given seen after letters gives cause done sees sent logged fits file digest =
    let n = new.ids.node in
    let same = asked_alone call.asks_all alone n old.file call.name letters in
    call_begun call id old new before given seen after letters gives cause done sees
    (subst (λ (sends : List Sending). IsGrown seen after (sent_growth n old.digest sends)) same sent) logged
    (subst (λ (sends : List Sending). AllByRecursion (IsSendable n old.digest) sends) same fits) file digest

-- the refusal is the given cause, or NoMemory if there is no cause
abbrev pub IsRefusedBy : Option Refusal → Refusal → Type 0
IsRefusedBy cause refusal = (cause ≡ Some refusal) ⊎ ((cause ≡ None) × (refusal ≡ NoMemory))

-- an object refuses a call
pub refused_begins : (call : Beginning) (old new : Keeper) (before after : Work) (id : ℕ) (refusal : Refusal)
    (result : Result Begun NodeError) → OnOk result (refusal ≢ NoMemory) → IfOk result (λ b. b ≡ begun.Refused refusal) →
    new.file ≡ old.file → new.digest ≡ old.digest → GivesId old.ids id new.ids before after →
    IsRefusedBy (call.refusal (objects_of old.objects call.name) id) refusal →
    ((refusal ≡ NoMemory) ⊎ AreSame old.objects new.objects) →
    IfOk result (BeginsCall call old before new after)
refused_begins call old new before after id refusal (Err e) memory is file digest gives cause same = is
refused_begins call old new before after id refusal (Ok b) memory is file digest gives cause same =
    subst (λ x. BeginsCall call old before new after x) (sym is) (record {
      id = id;
      gives = gives;
      cause = why cause;
      same = unchanged same;
      file = file;
      digest = digest;
    })
  where
    why : IsRefusedBy (call.refusal (objects_of old.objects call.name) id) refusal →
        call.refusal (objects_of old.objects call.name) id ≡ Some refusal
    why (inl is) = is
    why (inr none) = absurd (memory none.1)

    unchanged : ((refusal ≡ NoMemory) ⊎ AreSame old.objects new.objects) → AreSame old.objects new.objects
    unchanged (inl is) = absurd (memory is)
    unchanged (inr same) = same

module _ (call : Beginning) (old : Keeper) where
  -- no id is given
  pub id_not_begun : (error : NodeError) → IsNoId old.ids error → IsNotBegun call old error
  id_not_begun errors.NoMemory is = tt
  id_not_begun errors.NoMoreIds is = is
  id_not_begun errors.Unwritable is = absurd is
  id_not_begun (errors.Refused refusal) is = absurd is

  module _ (id : ℕ) (next : next_id_of old.ids ≡ Some id) where
    unwritten_not_begun : (part : Type 0) → ((fits : AllByRecursion (IsLoggable old.digest) (call.records id) ×
        AllByRecursion (IsSendable old.ids.node old.digest) (begun_sendings call old
        (done_here fragment (objects_of old.objects call.name) (call.event id)).sent)) → part) →
        (error : NodeError) → IsUnwritten part error → IsNotBegun call old error
    unwritten_not_begun part needs errors.NoMemory is = tt
    unwritten_not_begun part needs errors.NoMoreIds is = absurd is
    unwritten_not_begun part needs errors.Unwritable is = (id, next, λ can. is (needs (can.logged, can.sent)))
    unwritten_not_begun part needs (errors.Refused refusal) is = absurd is

    -- some of the letters do not fit
    sends_not_begun : (new : Objects) (letters : List Letter) →
        IsOutcomeAt old.objects call.name (call.event id ∷ []) new letters → (some : (number : ℕ) → List Sending) →
        ((all : AllByRecursion (IsSendable old.ids.node old.digest) (begun_sendings call old letters)) →
        AllByRecursion (IsSendable old.ids.node old.digest) (some old.ids.node)) →
        (number : ℕ) → number ≡ old.ids.node → (error : NodeError) →
        IsUnwritten (AllByRecursion (IsSendable number old.digest) (some number)) error → IsNotBegun call old error
    sends_not_begun new letters done some among number same error unwritten =
        let is = subst (λ n. IsUnwritten (AllByRecursion (IsSendable n old.digest) (some n)) error) same unwritten in
        let local = objects_of old.objects call.name in
        let sent : letters ≡ (done_here fragment local (call.event id)).sent =
        done.done.letters ∙ append-nil (done_here fragment local (call.event id)).sent in
        unwritten_not_begun _
        (λ fits. among (subst (λ (ls : List Letter). AllByRecursion (IsSendable old.ids.node old.digest) (begun_sendings call old ls))
        (sym sent) fits.1)) error is

    -- a request to the node that it asks does not fit
    pub post_not_begun : (new : Objects) (letters : List Letter) →
        IsOutcomeAt old.objects call.name (call.event id ∷ []) new letters → (number : ℕ) → number ≡ old.ids.node →
        (error : NodeError) →
        IsUnwritten (AllByRecursion (IsSendable number old.digest) (asked number call.name letters)) error →
        IsNotBegun call old error
    post_not_begun new letters done number same error unwritten =
        let n = old.ids.node in
        sends_not_begun new letters done (λ m. asked m call.name letters)
        (λ all. (all_parts (IsSendable n old.digest) (asked n call.name letters)
        (to_all n old.file call.name (first_for_all call.asks_all letters)) all).0) number same error unwritten

    -- one of the requests does not fit
    pub requests_not_begun : (new : Objects) (letters : List Letter) →
        IsOutcomeAt old.objects call.name (call.event id ∷ []) new letters → (number : ℕ) → number ≡ old.ids.node →
        (error : NodeError) →
        IsUnwritten (AllByRecursion (IsSendable number old.digest) (sendings_of call.asks_all number old.file call.name letters))
        error → IsNotBegun call old error
    requests_not_begun new letters done number same error unwritten =
        sends_not_begun new letters done (λ m. sendings_of call.asks_all m old.file call.name letters) (λ all. all) number same error
        unwritten
