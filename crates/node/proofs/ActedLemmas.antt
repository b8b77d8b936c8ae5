-- What a node has done so far, as it handles a frame.
use Rattle.std.proofs.Common.{◌≡◌, ℕ, List, [], ◌∷◌, ◌++◌}
use Rattle.std.proofs.Common.{None, Some, slice_get, refl, sym, subst, ap, ◌∙◌}
use Rattle.std.proofs.lemmas.List.{append-nil, append_assoc, map-append}
use Rattle.std.specs.List.{AllByRecursion}
use Rattle.encoder.specs.Fragment.{fragment}
use Rattle.deeds.specs.CallId.{HasRanges}
use Rattle.deeds.specs.Named.{NamedLetter as Named, IsOneOf}
use Rattle.deeds.proofs.NameLemmas.{one_of_second}
use Rattle.open_calls.proofs.ListLemmas.{all_append, all_weaker}
use Rattle.node_strings.specs.Arrival.{arrival_at}
use Rattle.recoveries.specs.Stops.{IsHandledSafely, sent_in}
use Rattle.recoveries.specs.LoggedIds.{HaveLoggedIds}
use Rattle.recoveries.proofs.LoggedIdLemmas.{logged_then}
use Rattle.recoveries.proofs.StopLemmas.{more_safe, two_safe}
use Rattle.node_clients.specs.Desk.{NoneWaits}
use Rattle.node_effects.specs.Seen.{all_seen, named_of, seen_of}
use Rattle.node_strings.specs.Strings.{Strings}
use Rattle.node_effects.specs.Work.{IsDueTaken, IsEmpty, IsOwnTaken}
use Rattle.node_effects.specs.declared.effects.Effects.{Effects}
use Rattle.letter.specs.declared.letter.NamedLetter.{NamedLetter}
use Rattle.node_effects.specs.declared.work.Work.{Work}
use Rattle.node_keeper.specs.Acts.{Acts}
use Rattle.node_keeper.specs.Fitting.{IsSendable}
use Rattle.node_keeper.specs.Keeping.{if_heeded, kept_of}
use Rattle.node_keeper.specs.Logging.{IsReadBack}
use Rattle.node_keeper.specs.Sendings.{IsDirected, letters_of, to_itself}
use Rattle.node_keeper.specs.Wants.{left_by, outputs_of, records_in, sends_in}
use Rattle.node_keeper.specs.declared.keeper.Keeper.{Keeper}
use Rattle.node_keeper.proofs.ActLemmas.{safe_as}
use Rattle.node_keeper.proofs.IdLemmas.{handled_within}
use Rattle.node_keeper.proofs.SendingLemmas.{directed_more}
use Rattle.node_keeper.proofs.WantLemmas.{left_append, left_sent, outputs_append, records_append, sends_append}
use Rattle.node.specs.declared.node.Node.{Node}
use Rattle.node.specs.Frames.{letters_in, sender_or}
use Rattle.node.specs.Handles.{Handles, HasActed}
use Rattle.node.specs.Serving.{ServedSince}
use Rattle.node.specs.Peers.{IsChangedBy}
use Rattle.node.specs.Ticks.{IsDoneFirst}
use Rattle.node.proofs.OwnLetterLemmas.{WasSent, heeded_is, one_before, own_were_sent, sent_after, sent_before, sent_one}

-- what is done first, where there was nothing to do
pub acted_first : (asker : ℕ) (got : List Named) (a b : Keeper) (u v : Work) → HasRanges a.ids → IsEmpty u →
    Acts asker got a u b v → HasActed asker got a b v
acted_first asker got a b u v within empty acts =
    let g = acts.growth in
    let notices : v.notices.items ≡ g.notices = acts.grown.notices ∙ ap (λ xs. xs ++ g.notices) empty.notices in
    let sends = sends_in acts.wants in
    let own : v.own.items ≡ to_itself a.ids.node sends =
    acts.grown.own ∙ ap (λ xs. xs ++ g.own) empty.own ∙ acts.own in record {
      wants = acts.wants;
      handled = subst (λ ns. IsHandledSafely fragment (kept_of a) got (left_by acts.wants) (kept_of b) (all_seen ns))
          (sym notices) (acts.handled within);
      outputs = acts.grown.outputs ∙ ap (λ xs. xs ++ g.outputs) empty.outputs ∙ acts.outputs;
      read = acts.read;
      ids = acts.ids;
      sent = acts.sent;
      own = subst (λ xs. AllByRecursion (WasSent sends) xs) (sym own) (own_were_sent a.ids.node sends);
      addressed = record {
        first = sends;
        rest = [];
        all = sym (append-nil sends);
        asked = acts.addressed;
        own = tt;
      };
      node = acts.node;
      digest = acts.digest;
    }

-- what is done next, where fewer of the letters to itself may wait
pub acted_then : (asker other : ℕ) (got more : List Named) (a b c : Keeper) (v w x : Work) →
    (done : HasActed asker got a b v) → w.outputs.items ≡ v.outputs.items → w.notices.items ≡ v.notices.items →
    AllByRecursion (WasSent (sends_in done.wants)) w.own.items → Acts other more b w c x →
    other ≡ a.ids.node →
    ((letter : Named) → IsOneOf more letter → IsOneOf (letters_of (sends_in done.wants)) letter) → HasActed asker got a c x
acted_then asker other got more a b c v w x done outputs notices own acts itself among =
    let n = a.ids.node in
    let to = done.addressed in
    let g = acts.growth in
    let before = sends_in done.wants in
    let then = sends_in acts.wants in
    let left = left_by done.wants in
    let more_left = left_by acts.wants in
    let all : sends_in (done.wants ++ acts.wants) ≡ before ++ then = sends_append done.wants acts.wants in
    let noted : x.notices.items ≡ v.notices.items ++ g.notices = acts.grown.notices ∙ ap (λ xs. xs ++ g.notices) notices in
    let within = handled_within fragment (kept_of a) got (kept_of b) (sent_in left) (all_seen v.notices.items)
    done.handled.handled in
    let next = more_safe fragment (kept_of b) (kept_of c) more (got ++ sent_in left) more_left (all_seen g.notices)
    (λ letter is. subst (λ xs. IsOneOf (got ++ xs) letter) (sym (left_sent done.wants))
    (one_of_second got (letters_of before) letter (among letter is)))
    (acts.handled within) in record {
      wants = done.wants ++ acts.wants;
      handled = safe_as (kept_of a) got (left ++ more_left) (left_by (done.wants ++ acts.wants)) (kept_of c)
          (all_seen v.notices.items ++ all_seen g.notices) (all_seen x.notices.items)
          (two_safe fragment (kept_of a) (kept_of b) (kept_of c) got left more_left (all_seen v.notices.items)
          (all_seen g.notices) done.handled next)
          (left_append done.wants acts.wants) (ap all_seen noted ∙ map-append seen_of v.notices.items g.notices);
      ids = subst (λ rs. HaveLoggedIds a.ids rs c.ids) (sym (records_append done.wants acts.wants))
          (logged_then a.ids b.ids c.ids (records_in done.wants) (records_in acts.wants) done.ids acts.ids);
      outputs = acts.grown.outputs ∙ ap (λ xs. xs ++ g.outputs) (outputs ∙ done.outputs)
          ∙ ap (λ xs. outputs_of n a.digest done.wants ++ xs) (acts.outputs
          ∙ ap (λ m. outputs_of m b.digest acts.wants) done.node ∙ ap (λ d. outputs_of n d acts.wants) done.digest)
          ∙ sym (outputs_append n a.digest done.wants acts.wants);
      read = subst (λ rs. AllByRecursion (IsReadBack a.digest) rs) (sym (records_append done.wants acts.wants))
          (all_append (IsReadBack a.digest) (records_in done.wants) (records_in acts.wants) done.read
          (subst (λ d. AllByRecursion (IsReadBack d) (records_in acts.wants)) done.digest acts.read));
      sent = subst (λ xs. AllByRecursion (IsSendable n a.digest) xs) (sym all)
          (all_append (IsSendable n a.digest) before then done.sent
          (subst (λ d. AllByRecursion (IsSendable n d) then) done.digest
          (subst (λ m. AllByRecursion (IsSendable m b.digest) then) done.node acts.sent)));
      own = subst (λ xs. AllByRecursion (WasSent xs) x.own.items) (sym all)
          (subst (λ xs. AllByRecursion (WasSent (before ++ then)) xs)
          (sym (acts.grown.own ∙ ap (λ xs. w.own.items ++ xs) acts.own))
          (all_append (WasSent (before ++ then)) w.own.items (to_itself b.ids.node then)
          (all_weaker (WasSent before) (WasSent (before ++ then)) (sent_before before then) w.own.items own)
          (all_weaker (WasSent then) (WasSent (before ++ then)) (sent_after before then)
          (to_itself b.ids.node then) (own_were_sent b.ids.node then))));
      addressed = record {
        first = to.first;
        rest = to.rest ++ then;
        all = all ∙ ap (λ xs. xs ++ then) to.all ∙ append_assoc to.first to.rest then;
        asked = to.asked;
        own = subst (λ xs. AllByRecursion (IsDirected n n (letters_of xs)) (to.rest ++ then)) (sym all)
            (all_append (IsDirected n n (letters_of (before ++ then))) to.rest then
            (all_weaker (IsDirected n n (letters_of before)) (IsDirected n n (letters_of (before ++ then)))
            (directed_more n n (letters_of before) (letters_of (before ++ then)) (one_before before then)) to.rest to.own)
            (all_weaker (IsDirected n n more) (IsDirected n n (letters_of (before ++ then)))
            (directed_more n n more (letters_of (before ++ then))
            (λ letter is. one_before before then letter (among letter is))) then
            (subst (λ m. AllByRecursion (IsDirected n m more) then) itself
            (subst (λ m. AllByRecursion (IsDirected m other more) then) done.node acts.addressed))));
      };
      node = acts.node ∙ done.node;
      digest = acts.digest ∙ done.digest;
    }

-- what a node has done stays true of an equal work: with the same outputs, notices and letters to itself
pub acted_same : (asker : ℕ) (got : List Named) (a b : Keeper) (v w : Work) → HasActed asker got a b v →
    w.outputs.items ≡ v.outputs.items → w.notices.items ≡ v.notices.items → w.own.items ≡ v.own.items →
    HasActed asker got a b w
acted_same asker got a b v w done outputs notices own = record {
  wants = done.wants;
  handled = subst (λ ns. IsHandledSafely fragment (kept_of a) got (left_by done.wants) (kept_of b) (all_seen ns))
      (sym notices) done.handled;
  outputs = outputs ∙ done.outputs;
  read = done.read;
  ids = done.ids;
  sent = done.sent;
  own = subst (λ xs. AllByRecursion (WasSent (sends_in done.wants)) xs) (sym own) done.own;
  addressed = done.addressed;
  node = done.node;
  digest = done.digest;
}

module _ (asker : ℕ) (got : List Named) (first b : Keeper) where
  -- a letter of the node to itself is handled
  pub own_handled : (number : ℕ) (c : Keeper) (v w x : Work) (it : NamedLetter) → number ≡ b.ids.node →
      IsOwnTaken v w (Some it) → Acts number (if_heeded (kept_of b) (named_of it)) b w c x → HasActed asker got first b v →
      HasActed asker got first c x
  own_handled number c v w x it same taken acts done =
      let sends = sends_in done.wants in
      let all : AllByRecursion (WasSent sends) (it ∷ w.own.items) =
      subst (λ xs. AllByRecursion (WasSent sends) xs) taken.own done.own in
      acted_then asker number got (if_heeded (kept_of b) (named_of it)) first b c v w x done taken.outputs taken.notices
      all.1 acts (same ∙ done.node)
      (λ letter is. sent_one sends it letter all.0 (heeded_is b (named_of it) letter is))

  -- no letter of the node to itself waits, and no connection is due
  none_own : (v u : Work) → IsOwnTaken v u None → HasActed asker got first b v → HasActed asker got first b u
  none_own v u taken done =
      acted_same asker got first b v u done taken.outputs taken.notices (taken.own.1 ∙ sym taken.own.0)

  pub nothing_left : (v u w : Work) → IsOwnTaken v u None → IsDueTaken u w None → HasActed asker got first b v →
      HasActed asker got first b w
  nothing_left v u w own due done =
      acted_same asker got first b u w (none_own v u own done) due.outputs due.notices due.own

  -- the next command of a connection is carried out
  pub due_handled : (c : Keeper) (v u w x : Work) (client : ℕ) → IsOwnTaken v u None → IsDueTaken u w (Some client) →
      ((asker : ℕ) → Acts asker [] b w c x) → HasActed asker got first b v → HasActed asker got first c x
  due_handled c v u w x client own due acts done =
      let before = none_own v u own done in
      acted_then asker first.ids.node got [] first b c u w x before due.outputs due.notices
      (subst (λ xs. AllByRecursion (WasSent (sends_in before.wants)) xs) (sym due.own) before.own) (acts first.ids.node) refl
      (λ letter is. absurd (none is.0 is.1))
    where
      none : {letter : Named} (i : ℕ) → slice_get [] i ≡ Some letter → ⊥
      none i e = cc

-- what was done with a frame
pub handles_of : (old new : Node) (frame : Strings) (work : Work) (effects : Effects) →
    HasActed (sender_or old.keeper.ids.node (arrival_at frame)) (letters_in old.keeper frame) old.keeper new.keeper work →
    ServedSince (arrival_at frame) old new work.to_clients.items work.notices.items work.outputs.items →
    effects.outputs.items ≡ work.outputs.items → effects.answers.items ≡ work.to_clients.items →
    effects.notices.items ≡ work.notices.items → (NoneWaits old.desk.clients [] → NoneWaits new.desk.clients []) →
    IsDoneFirst (arrival_at frame) old effects.outputs.items →
    IsChangedBy (arrival_at frame) old.keeper old.peers new.peers → Handles old frame effects new
handles_of old new frame work effects done served outputs answers notices waits again peers = record {
  wants = done.wants;
  handled = subst (λ ns. IsHandledSafely fragment (kept_of old.keeper) (letters_in old.keeper frame) (left_by done.wants)
      (kept_of new.keeper) (all_seen ns)) (sym notices) done.handled;
  outputs = outputs ∙ done.outputs;
  read = done.read;
  ids = done.ids;
  sent = done.sent;
  addressed = done.addressed;
  served = subst (λ fs. ServedSince (arrival_at frame) old new fs effects.notices.items effects.outputs.items) (sym answers)
      (subst (λ ns. ServedSince (arrival_at frame) old new work.to_clients.items ns effects.outputs.items) (sym notices)
      (subst (λ os. ServedSince (arrival_at frame) old new work.to_clients.items work.notices.items os) (sym outputs) served));
  waits = waits;
  first = again;
  peers = peers;
}
