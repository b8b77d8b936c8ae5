-- Ids that are given, epochs that begin, and calls that are refused, as what a node does.
use Rattle.std.proofs.Common.{◌≡◌, ◌≢◌, ◌<◌, ◌^◌, ◌⊎◌, inl, inr, ℕ, suc, [], ◌∷◌, Some, Result, OnOk}
use Rattle.std.proofs.Common.{refl, sym, subst, ap, ◌∙◌}
use Rattle.std.proofs.lemmas.Result.{on_ok_weaker}
use Rattle.tag.specs.declared.refusal.Refusal.{Refusal}
use Rattle.tag.specs.declared.refusal.Refusal.TheVariants.{NoMemory}
use Rattle.encoder.specs.Fragment.{fragment}
use Rattle.deeds.specs.CallId.{CallIds, HasRanges, after_given, next_given_id, with_next_epoch}
use Rattle.deeds.specs.Ids.{IsLater}
use Rattle.deeds.proofs.HandledLemmas.{handled_as, nothing_handled}
use Rattle.deeds.proofs.IdLemmas.{later_same, next_later}
use Rattle.recoveries.specs.LoggedIds.{HaveLoggedIds}
use Rattle.recoveries.specs.Records.{LogRecord}
use Rattle.recoveries.proofs.LoggedIdLemmas.{call_logged, epoch_logged}
use Rattle.recoveries.proofs.LoggedLemmas.{same_unlogged, starts_logged}
use Rattle.node_keeper.specs.Objects.{AreSame}
use Rattle.node_effects.specs.Work.{IsGrown, no_growth, one_entry}
use Rattle.node_effects.specs.declared.work.Work.{Work}
use Rattle.node_effects.proofs.GrowthLemmas.{grown_none}
use Rattle.node_keeper.specs.Acts.{Acts, GivesId}
use Rattle.node_keeper.specs.Keeping.{kept_of}
use Rattle.node_keeper.specs.Logging.{start_entry}
use Rattle.node_keeper.specs.declared.keeper.Keeper.{Keeper}
use Rattle.node_keeper.proofs.ActLemmas.{acts_in_order, acts_more, few_safe}
use Rattle.node_keeper.proofs.DoneLemmas.{file_same}
use Rattle.node_keeper.proofs.IdLemmas.{begun_later, next_epoch, next_is_node}
use Rattle.node_keeper.proofs.ReadLemmas.{start_read}

-- ids are given away, and nothing else is done
given_acts : (asker : ℕ) (old new : Keeper) (before after : Work) (id : ℕ) → new.file ≡ old.file → new.digest ≡ old.digest →
    AreSame old.objects new.objects → next_given_id old.ids ≡ Some id → new.ids ≡ after_given old.ids → IsGrown before after no_growth →
    Acts asker [] old before new after
given_acts asker old new before after id file digest same next given grown =
    let node : new.ids.node ≡ old.ids.node = ap (λ (i : CallIds). i.node) given ∙ next_is_node old.ids in
    let kept = file_same old new file same.settings in
    let later : HasRanges old.ids → IsLater old.ids new.ids =
    λ within. next_later old.ids new.ids id
    (record { now = old.ids; reached = later_same old.ids within; next = next; left = sym given }) in
    acts_in_order asker [] old new before after (record {
      sends = [];
      records = [];
      growth = no_growth;
      grown = grown;
      outputs = refl;
      read = tt;
      sent = tt;
      own = refl;
      addressed = tt;
      ids = subst (HaveLoggedIds old.ids []) (sym given) (call_logged id old.ids next);
      handled = λ within. few_safe (kept_of old) [] [] (kept_of new) [] [] (inl refl) within
          (handled_as fragment (kept_of old) [] (record (kept_of old) { ids = new.ids }) (kept_of new) [] [] [] []
          (nothing_handled fragment (kept_of old) [] new.ids (later within)) kept refl same.objects refl refl)
          (same_unlogged (kept_of old) (kept_of new)
          (record {
            file = kept;
            node = node;
            epoch = ap (λ (i : CallIds). i.epoch) given ∙ next_epoch old.ids;
            objects = same.objects;
          }));
      node = node;
      digest = digest;
    })

-- an epoch begins
pub epoch_acts : (asker : ℕ) (old new : Keeper) (before after : Work) → new.file ≡ old.file → new.digest ≡ old.digest →
    new.objects ≡ old.objects → suc old.ids.epoch < 2 ^ 24 → new.ids ≡ with_next_epoch old.ids →
    IsGrown before after (one_entry start_entry) → Acts asker [] old before new after
epoch_acts asker old new before after file digest objects more ids grown =
    let same : AreSame old.objects new.objects = subst (λ now. AreSame old.objects now) (sym objects)
    (record { settings = record { number = refl; delta = refl; placement = refl }; objects = λ name. refl }) in
    let kept = file_same old new file same.settings in
    let later : IsLater old.ids new.ids = subst (λ after. IsLater old.ids after) (sym ids) (begun_later old.ids more) in
    acts_in_order asker [] old new before after (record {
      sends = [];
      records = LogRecord.Starts ∷ [];
      growth = one_entry start_entry;
      grown = grown;
      outputs = refl;
      read = (start_read old.digest, tt);
      sent = tt;
      own = refl;
      addressed = tt;
      ids = epoch_logged old.ids new.ids more ids;
      handled = λ within. few_safe (kept_of old) [] (LogRecord.Starts ∷ []) (kept_of new) [] []
          (inr (LogRecord.Starts, refl)) within
          (handled_as fragment (kept_of old) [] (record (kept_of old) { ids = new.ids }) (kept_of new) [] [] [] []
          (nothing_handled fragment (kept_of old) [] new.ids later) kept refl same.objects refl refl)
          (starts_logged (kept_of old) (kept_of new)
          (record { file = kept; more = more; ids = ids; objects = same.objects }));
      node = later.node;
      digest = digest;
    })

-- what the node keeps once an epoch began
abbrev pub in_epoch : Keeper → Keeper
in_epoch old = record old { ids = with_next_epoch old.ids }

-- an object refuses a call, for which an id was given
pub refused_acts : (asker : ℕ) (old new : Keeper) (before after : Work) (id : ℕ) → new.file ≡ old.file → new.digest ≡ old.digest →
    GivesId old.ids id new.ids before after → AreSame old.objects new.objects → Acts asker [] old before new after
refused_acts asker old new before after id file digest (inl g) same =
    given_acts asker old new before after id file digest same g.0 g.1 g.2
refused_acts asker old new before after id file digest (inr g) same =
    let middle = in_epoch old in
    acts_more asker [] old middle new before after after
    (epoch_acts asker old middle before after refl refl refl g.0 refl g.3)
    (given_acts asker middle new after after id file digest same g.1 g.2 (grown_none after))

-- the same, by what the object ensures where it refuses, if memory was not refused
pub refused_if : {T E : Type 0} (old new : Keeper) (before after : Work) (id : ℕ) (refusal : Refusal) (result : Result T E) →
    OnOk result (refusal ≢ NoMemory) → new.file ≡ old.file → new.digest ≡ old.digest →
    GivesId old.ids id new.ids before after → ((refusal ≡ NoMemory) ⊎ AreSame old.objects new.objects) →
    OnOk result ((asker : ℕ) → Acts asker [] old before new after)
refused_if old new before after id refusal result memory file digest gives unchanged =
    on_ok_weaker result (λ other. go other unchanged) memory
  where
    go : refusal ≢ NoMemory → ((refusal ≡ NoMemory) ⊎ AreSame old.objects new.objects) → (asker : ℕ) →
        Acts asker [] old before new after
    go other (inl is) asker = absurd (other is)
    go other (inr same) asker = refused_acts asker old new before after id file digest gives same
