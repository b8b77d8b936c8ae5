-- What is carried out again, one record after another, and how a node starts again.
use Rattle.std.proofs.Common.{◌≡◌, inl, inr, ℕ, suc, ◌<◌, ◌≤◌, ◌^◌, Bool, true, false, cond, List, [], ◌∷◌, ◌++◌}
use Rattle.std.proofs.Common.{refl, sym, subst, ap, ◌∙◌, arith}
use Rattle.encoder.specs.Fragment.{fragment}
use Rattle.letter.specs.declared.letter.Letter.{Letter}
use Rattle.local_object.specs.declared.progress.Ended.{Ended}
use Rattle.local_object.specs.Doing.{close_events, is_taken, serve_events}
use Rattle.local_object.specs.Events.{LocalEvent, all_done}
use Rattle.local_object.specs.Local.{LocalObject, with_heard}
use Rattle.local_object.specs.Replies.{IsReplyOutcome}
use Rattle.local_object.specs.Taking.{repeats}
use Rattle.local_object.specs.Restarts.{IsKeptHere}
use Rattle.deeds.specs.Kept.{KeptNode, new_node}
use Rattle.deeds.specs.Named.{is_same_name, with_named}
use Rattle.recoveries.specs.Laws.{CopiesRestart, MoreIsRecorded, NewIsRecorded, RecoveredNodesRestart, TwoAreLogged}
use Rattle.recoveries.specs.Records.{IsNamedOutcome, IsKeptUnder, IsSame, LogRecord, Recovers, RecoversOne}
use Rattle.recoveries.proofs.QueriedLemmas.{after_reply}
use Rattle.recoveries.proofs.SettlingLemmas.{same_settling}
use Rattle.recoveries.proofs.TakenReplyLemmas.{gone_on, taken_to}
use Rattle.recoveries.proofs.NodeCopyLemmas.{new_copy, same_both, same_self, same_then, self_copy}
use Rattle.recoveries.proofs.LoggedLemmas.{started_epoch, started_given, started_number, starts_logged}

-- records that follow others
split : (first second : List LogRecord) (old new : KeptNode) → Recovers (first ++ second) old new →
    (middle : KeptNode) × Recovers first old middle × Recovers second middle new
split [] second old new recovers = (old, same_self old, recovers)
split (r ∷ first) second old new recovers =
    let rest = split first second recovers.0 new recovers.2 in
    (rest.0, (recovers.0, recovers.1, rest.1), rest.2)

pub two_logged : TwoAreLogged
two_logged old middle new first second one other copy copied is recovers =
    let parts = split first second copy copied recovers in
    other parts.0 copied (one copy parts.0 is parts.1) parts.2

pub new_recorded : NewIsRecorded
new_recorded file number copy recovers =
    let node = new_node file number in
    same_both node node node copy (new_copy file number) (same_self node) recovers

pub more_recorded : MoreIsRecorded
more_recorded first old new records more recorded logged copy recovers =
    let parts = split records more first copy recovers in
    logged parts.0 copy (recorded parts.0 parts.1) parts.2

-- What is carried out again is one

one_put : (a b c d : KeptNode) (name : List ℕ) (local other : LocalObject) → IsSame a b → IsKeptUnder a name local c →
    IsKeptUnder b name other d → other ≡ local → IsSame c d
one_put a b c d name local other same first second is = record {
  file = second.file ∙ same.file ∙ sym first.file;
  node = second.node ∙ same.node ∙ sym first.node;
  epoch = second.epoch ∙ same.epoch ∙ sym first.epoch;
  objects = λ q. second.objects q
      ∙ ap (λ l. with_named b.objects name l q) is
      ∙ ap (λ l. cond (is_same_name name q) local l) (same.objects q)
      ∙ sym (first.objects q);
}

one_taken : (b : Bool) (local : LocalObject) (letter : Letter) (new other : LocalObject) (sent more : List Letter)
    (ended told : List Ended) → IsReplyOutcome b local letter new sent ended → IsReplyOutcome b local letter other more told → other ≡ new
one_taken false local letter new other sent more ended told first second = second.done.local ∙ sym first.done.local
one_taken true local letter new other sent more ended told (inl first) (inl second) =
    second.done.done.local ∙ sym first.done.done.local
one_taken true local letter new other sent more ended told (inl first) (inr second) =
    absurd (second.waits first.returned first.can)
one_taken true local letter new other sent more ended told (inr first) (inl second) =
    absurd (first.waits second.returned second.can)
one_taken true local letter new other sent more ended told (inr first) (inr second) =
    let taken = after_reply local letter in
    let id = letter.message.call in
    taken_to local letter other more told second
    ∙ ap (gone_on (repeats local letter) taken id)
    (same_settling taken taken id refl (λ q. refl) second.settling first.settling second.settles first.settles)
    ∙ sym (taken_to local letter new sent ended first)

module _ (a b c d : KeptNode) (same : IsSame a b) where
  one_done : (name : List ℕ) (events : LocalObject → List LocalEvent) → IsNamedOutcome a name (events (a.objects name)) c →
      IsNamedOutcome b name (events (b.objects name)) d → IsSame c d
  one_done name events first second =
      one_put a b c d name first.local second.local same first.put second.put
      (second.done.local ∙ ap (λ (l : LocalObject). (all_done fragment l (events l)).local) (same.objects name)
      ∙ sym first.done.local)

  one_recovered : (r : LogRecord) → RecoversOne r a c → RecoversOne r b d → IsSame c d
  one_recovered LogRecord.Starts first second = record {
    file = second.file ∙ same.file ∙ sym first.file;
    node = started_number b d second ∙ same.node ∙ sym (started_number a c first);
    epoch = started_epoch b d second ∙ ap suc same.epoch ∙ sym (started_epoch a c first);
    objects = λ name. second.objects name ∙ same.objects name ∙ sym (first.objects name);
  }
  one_recovered (LogRecord.Serves name letter) first second =
      one_done name (λ local. serve_events local letter) first second
  one_recovered (LogRecord.Moves name id layout) first second =
      one_done name (λ local. LocalEvent.BeginMove id layout ∷ []) first second
  one_recovered (LogRecord.Hears name position layout) first second =
      one_put a b c d name (with_heard (a.objects name) position layout) (with_heard (b.objects name) position layout) same
      first.put second.put (ap (λ (l : LocalObject). with_heard l position layout) (same.objects name))
  one_recovered (LogRecord.Closes name position) first second =
      one_done name (λ local. close_events local position) first second
  one_recovered (LogRecord.Takes name letter) first second =
      one_put a b c d name first.local second.local same first.put second.put
      (one_taken (is_taken (a.objects name) letter) (a.objects name) letter first.local second.local first.sent second.sent
      first.ended second.ended first.taken
      (subst (λ l. IsReplyOutcome (is_taken l letter) l letter second.local second.sent second.ended) (same.objects name) second.taken))

all_recovered : (records : List LogRecord) (a b c d : KeptNode) → IsSame a b → Recovers records a c → Recovers records b d →
    IsSame c d
all_recovered [] a b c d same first second =
    let back : IsSame c a = record {
      file = sym first.file;
      node = sym first.node;
      epoch = sym first.epoch;
      objects = λ name. sym (first.objects name);
    } in same_then c a d back (same_then a b d same second)
all_recovered (r ∷ records) a b c d same first second =
    all_recovered records first.0 second.0 c d (one_recovered a b first.0 second.0 same r first.1 second.1) first.2 second.2

-- Restarts

pub copies_restarted : CopiesRestart
copies_restarted before copy after is started =
    let number = started_number copy after started in
    let epoch = started_epoch copy after started in
    let given = started_given copy after started in
    let within = started.more in
    let same = is.epoch in record {
      file = started.file ∙ is.file;
      number = number ∙ is.number;
      epoch = omega (arith, epoch, same);
      within = (subst (λ e. e < 2 ^ 24) (sym epoch) within, subst (λ n. n ≤ 2 ^ 32) (sym given) (omega arith));
      objects = λ name. subst (IsKeptHere (before.ids.node ≡ before.file.mover) (before.objects name)) (sym (started.objects name))
          (is.objects name);
    }

pub recovered_restarted : RecoveredNodesRestart
recovered_restarted first before copy after records recorded recovers started =
    let is = recorded copy recovers in (
      copies_restarted before copy after is started,
      λ copied again.
          let parts = split records (LogRecord.Starts ∷ []) first copied again in
          let same = all_recovered records first first copy parts.0 (same_self first) recovers parts.1 in
          starts_logged copy after started parts.0 copied
          (same_both copy copy copy parts.0 (self_copy before copy is) (same_self copy) same) parts.2,
    )
