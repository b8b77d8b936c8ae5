-- How what a node does is put together.
use Rattle.std.proofs.Common.{◌≡◌, ◌⊎◌, inl, inr, ℕ, List, [], ◌∷◌, ◌++◌, map, Some, slice_get, refl, sym, subst, ap, ◌∙◌}
use Rattle.std.proofs.lemmas.List.{map-append}
use Rattle.std.specs.List.{AllByRecursion}
use Rattle.encoder.specs.Fragment.{fragment}
use Rattle.deeds.specs.CallId.{HasRanges}
use Rattle.deeds.specs.Deeds.{Notice as Seen}
use Rattle.deeds.specs.Handled.{IsHandled}
use Rattle.deeds.specs.Kept.{KeptNode}
use Rattle.deeds.specs.Named.{NamedLetter as Named, IsOneOf}
use Rattle.deeds.proofs.HandledLemmas.{nothing_handled}
use Rattle.deeds.proofs.IdLemmas.{later_same}
use Rattle.open_calls.proofs.ListLemmas.{all_append, all_weaker}
use Rattle.recoveries.specs.Copies.{IsLogged}
use Rattle.recoveries.specs.LoggedIds.{HaveLoggedIds}
use Rattle.recoveries.specs.Records.{LogRecord}
use Rattle.recoveries.specs.Stops.{IsHandledSafely, Output as Left, logged_first, sent_in}
use Rattle.recoveries.proofs.LoggedIdLemmas.{logged_then, same_epoch}
use Rattle.recoveries.proofs.LoggedLemmas.{same_unlogged}
use Rattle.recoveries.proofs.StopLemmas.{more_safe, one_safe, two_safe, unlogged_safe}
use Rattle.node_effects.specs.Seen.{all_seen, seen_of}
use Rattle.node_effects.specs.Work.{Growth, IsGrown, both_grown, log_all, send_all}
use Rattle.node_effects.specs.declared.work.Work.{Work}
use Rattle.node_effects.proofs.GrowthLemmas.{grown_then}
use Rattle.node_keeper.specs.Acts.{Acts}
use Rattle.node_keeper.specs.Fitting.{IsSendable}
use Rattle.node_keeper.specs.Keeping.{kept_of}
use Rattle.node_keeper.specs.Logging.{IsReadBack, log_entry_of}
use Rattle.node_keeper.specs.Sendings.{IsDirected, Sending, letters_of, posted, to_itself}
use Rattle.node_keeper.specs.Wants.{left_by, outputs_of, records_in, sends_in}
use Rattle.node_keeper.specs.declared.keeper.Keeper.{Keeper}
use Rattle.node_keeper.proofs.IdLemmas.{handled_within}
use Rattle.node_keeper.proofs.SendingLemmas.{directed_more, to_itself_append}
use Rattle.node_keeper.proofs.WantLemmas.{in_order, left_append, left_ordered, left_sent, outputs_append, outputs_ordered}
use Rattle.node_keeper.proofs.WantLemmas.{records_append, records_ordered, sends_append, sends_ordered}

-- in `IsHandledSafely`, equal outputs and equal notices may take the place of those that are there
pub safe_as : (old : KeptNode) (got : List Named) (outputs also : List Left) (new : KeptNode) (notices too : List Seen) →
    IsHandledSafely fragment old got outputs new notices → also ≡ outputs → too ≡ notices →
    IsHandledSafely fragment old got also new too
safe_as old got outputs also new notices too is same seen =
    subst (λ ns. IsHandledSafely fragment old got also new ns) (sym seen)
    (subst (λ xs. IsHandledSafely fragment old got xs new notices) (sym same) is)

-- there are no records, or one
abbrev pub AreFew : List LogRecord → Type 0
AreFew records = (records ≡ []) ⊎ ((one : LogRecord) × (records ≡ one ∷ []))

-- what needs no record, or one, is handled safely
pub few_safe : (old : KeptNode) (got : List Named) (records : List LogRecord) (new : KeptNode) (sent : List Named)
    (notices : List Seen) → AreFew records → HasRanges old.ids → IsHandled fragment old got new sent notices →
    IsLogged old records new → IsHandledSafely fragment old got (logged_first records sent) new notices
few_safe old got records new sent notices (inl none) within handled logged =
    subst (λ rs. IsHandledSafely fragment old got (logged_first rs sent) new notices) (sym none)
    (unlogged_safe fragment old new got sent notices handled (subst (λ rs. IsLogged old rs new) none logged))
few_safe old got records new sent notices (inr few) within handled logged =
    subst (λ rs. IsHandledSafely fragment old got (logged_first rs sent) new notices) (sym few.1)
    (one_safe fragment old new got sent notices few.0 (later_same old.ids within) handled
    (subst (λ rs. IsLogged old rs new) few.1 logged))

-- a node that keeps the same needs no record
pub same_logged : (node : KeptNode) → IsLogged node [] node
same_logged node = same_unlogged node node (record { file = refl; node = refl; epoch = refl; objects = λ name. refl })

-- the parts of what a node does where its records go to the log before its letters go out
pub record ActsInOrder (asker : ℕ) (got : List Named) (old : Keeper) (before : Work) (new : Keeper)
    (after : Work) : Type 0 where
  pub sends : List Sending
  pub records : List LogRecord
  pub growth : Growth
  pub grown : IsGrown before after growth
  pub outputs : growth.outputs ≡
      log_all (map (log_entry_of old.digest) records) ++ send_all (posted old.ids.node old.digest sends)
  pub read : AllByRecursion (IsReadBack old.digest) records
  pub sent : AllByRecursion (IsSendable old.ids.node old.digest) sends
  pub own : growth.own ≡ to_itself old.ids.node sends
  pub addressed : AllByRecursion (IsDirected old.ids.node asker got) sends
  pub ids : HaveLoggedIds old.ids records new.ids
  pub handled : HasRanges old.ids → IsHandledSafely fragment (kept_of old) got (logged_first records (letters_of sends))
      (kept_of new) (all_seen growth.notices)
  pub node : new.ids.node ≡ old.ids.node
  pub digest : new.digest ≡ old.digest

pub acts_in_order : (asker : ℕ) (got : List Named) (old new : Keeper) (before after : Work) →
    ActsInOrder asker got old before new after → Acts asker got old before new after
acts_in_order asker got old new before after a =
    let seen = all_seen a.growth.notices in record {
      wants = in_order a.records a.sends;
      growth = a.growth;
      grown = a.grown;
      outputs = a.outputs ∙ sym (outputs_ordered old.ids.node old.digest a.records a.sends);
      read = subst (λ rs. AllByRecursion (IsReadBack old.digest) rs) (sym (records_ordered a.records a.sends)) a.read;
      sent = subst (λ xs. AllByRecursion (IsSendable old.ids.node old.digest) xs) (sym (sends_ordered a.records a.sends)) a.sent;
      own = a.own ∙ ap (λ xs. to_itself old.ids.node xs) (sym (sends_ordered a.records a.sends));
      addressed = subst (λ xs. AllByRecursion (IsDirected old.ids.node asker got) xs) (sym (sends_ordered a.records a.sends))
          a.addressed;
      ids = subst (λ rs. HaveLoggedIds old.ids rs new.ids) (sym (records_ordered a.records a.sends)) a.ids;
      handled = λ within. safe_as (kept_of old) got (logged_first a.records (letters_of a.sends))
          (left_by (in_order a.records a.sends)) (kept_of new) seen seen (a.handled within) (left_ordered a.records a.sends) refl;
      node = a.node;
      digest = a.digest;
    }

-- nothing is done with objects, nothing is sent or logged, and clients see nothing
pub acts_rest : (asker : ℕ) (got : List Named) (keeper : Keeper) (before after : Work) (growth : Growth) →
    IsGrown before after growth → growth.outputs ≡ [] → growth.own ≡ [] → growth.notices ≡ [] →
    Acts asker got keeper before keeper after
acts_rest asker got keeper before after growth grown outputs own notices = record {
  wants = [];
  growth = growth;
  grown = grown;
  outputs = outputs;
  read = tt;
  sent = tt;
  own = own;
  addressed = tt;
  ids = same_epoch keeper.ids keeper.ids refl;
  handled = λ within.
      let node = kept_of keeper in
      safe_as node got [] [] node [] (all_seen growth.notices)
      (unlogged_safe fragment node node got [] [] (nothing_handled fragment node got keeper.ids (later_same keeper.ids within))
      (same_logged node)) refl (ap all_seen notices);
  node = refl;
  digest = refl;
}

-- two acts, one after the other, are one act, if the second uses only letters that had come or that the first sent
pub acts_then : (asker other : ℕ) (got more : List Named) (a b c : Keeper) (u v w : Work) →
    (first : Acts asker got a u b v) → Acts other more b v c w →
    ((send : Sending) → IsDirected a.ids.node other more send → IsDirected a.ids.node asker got send) →
    ((letter : Named) → IsOneOf more letter → IsOneOf (got ++ letters_of (sends_in first.wants)) letter) →
    Acts asker got a u c w
acts_then asker other got more a b c u v w first second addressed among =
    let n = a.ids.node in
    let f = first.growth in
    let s = second.growth in record {
      wants = first.wants ++ second.wants;
      growth = both_grown f s;
      grown = grown_then u v w f s first.grown second.grown;
      outputs = ap (λ xs. xs ++ s.outputs) first.outputs
          ∙ ap (λ xs. outputs_of n a.digest first.wants ++ xs) (second.outputs
          ∙ ap (λ m. outputs_of m b.digest second.wants) first.node ∙ ap (λ d. outputs_of n d second.wants) first.digest)
          ∙ sym (outputs_append n a.digest first.wants second.wants);
      read = subst (λ rs. AllByRecursion (IsReadBack a.digest) rs) (sym (records_append first.wants second.wants))
          (all_append (IsReadBack a.digest) (records_in first.wants) (records_in second.wants) first.read
          (subst (λ d. AllByRecursion (IsReadBack d) (records_in second.wants)) first.digest second.read));
      sent = subst (λ xs. AllByRecursion (IsSendable n a.digest) xs) (sym (sends_append first.wants second.wants))
          (all_append (IsSendable n a.digest) (sends_in first.wants) (sends_in second.wants) first.sent
          (subst (λ d. AllByRecursion (IsSendable n d) (sends_in second.wants)) first.digest
          (subst (λ m. AllByRecursion (IsSendable m b.digest) (sends_in second.wants)) first.node second.sent)));
      own = ap (λ xs. xs ++ s.own) first.own
          ∙ ap (λ xs. to_itself n (sends_in first.wants) ++ xs) (second.own
          ∙ ap (λ m. to_itself m (sends_in second.wants)) first.node)
          ∙ sym (to_itself_append n (sends_in first.wants) (sends_in second.wants))
          ∙ ap (λ xs. to_itself n xs) (sym (sends_append first.wants second.wants));
      addressed = subst (λ xs. AllByRecursion (IsDirected n asker got) xs) (sym (sends_append first.wants second.wants))
          (all_append (IsDirected n asker got) (sends_in first.wants) (sends_in second.wants) first.addressed
          (all_weaker (IsDirected n other more) (IsDirected n asker got) addressed (sends_in second.wants)
          (subst (λ m. AllByRecursion (IsDirected m other more) (sends_in second.wants)) first.node second.addressed)));
      ids = subst (λ rs. HaveLoggedIds a.ids rs c.ids) (sym (records_append first.wants second.wants))
          (logged_then a.ids b.ids c.ids (records_in first.wants) (records_in second.wants) first.ids second.ids);
      handled = λ within.
          let fst = first.handled within in
          let left = left_by first.wants in
          let more_left = left_by second.wants in
          let ids = handled_within fragment (kept_of a) got (kept_of b) (sent_in left) (all_seen f.notices) fst.handled in
          let snd = more_safe fragment (kept_of b) (kept_of c) more (got ++ sent_in left) more_left (all_seen s.notices)
          (λ letter is. subst (λ xs. IsOneOf (got ++ xs) letter) (sym (left_sent first.wants)) (among letter is))
          (second.handled ids) in
          safe_as (kept_of a) got (left ++ more_left) (left_by (first.wants ++ second.wants)) (kept_of c)
          (all_seen f.notices ++ all_seen s.notices) (all_seen (f.notices ++ s.notices))
          (two_safe fragment (kept_of a) (kept_of b) (kept_of c) got left more_left (all_seen f.notices) (all_seen s.notices)
          fst snd)
          (left_append first.wants second.wants) (map-append seen_of f.notices s.notices);
      node = second.node ∙ first.node;
      digest = second.digest ∙ first.digest;
    }

none_of : (got : List Named) (letter : Named) → IsOneOf [] letter → IsOneOf got letter
none_of got letter is = absurd (go is.0 is.1)
  where
    go : (i : ℕ) → slice_get [] i ≡ Some letter → ⊥
    go i e = cc

-- two acts, one after the other, are one act, if the second uses no letter
pub acts_more : (asker : ℕ) (got : List Named) (a b c : Keeper) (u v w : Work) → Acts asker got a u b v →
    Acts asker [] b v c w → Acts asker got a u c w
acts_more asker got a b c u v w first second =
    acts_then asker asker got [] a b c u v w first second (directed_more a.ids.node asker [] got (none_of got))
    (none_of (got ++ letters_of (sends_in first.wants)))
