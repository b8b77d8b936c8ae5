-- Readings and queries keep what is so of a call.
use Rattle.std.proofs.Common.{◌≡◌, ℕ, suc, ◌<◌, ◌≤◌, ◌⊎◌, false, cond, eqb, List, Option}
use Rattle.std.proofs.Common.{Some, refl, subst, inl, inr, arith, le_trans, le_refl, eqb-true}
use Rattle.std.proofs.lemmas.Bool.{cond_both, eqb-false, cases_lt}
use Rattle.tag.specs.declared.tag.Tag.{Tag}
use Rattle.tag.specs.Tag.{tag_lt, later_tag}
use Rattle.bank.specs.declared.status.Status.{Status}
use Rattle.bank.specs.declared.kind.Kind.{Kind}
use Rattle.mail.specs.declared.phase.Taken.{Taken}
use Rattle.record.specs.declared.call.CallKind.{CallKind}
use Rattle.record.specs.Records.{Object}
use Rattle.bank.specs.declared.status.Status.TheVariants.{Unset, Pending, Final}
use Rattle.bank.specs.declared.kind.Kind.TheVariants.{Next, Spread, Query}
use Rattle.record.specs.PhaseOrder.{greatest_status, greatest_tag, after_next, after_spread, after_query, tagged}
use Rattle.record.specs.Legal.{is_move}
use Rattle.record.specs.declared.stage.Stage.TheVariants.{ReadNext, ReadSpread, QueryFrom}
use Rattle.soundness.proofs.Quorums.QuorumMeetingLemmas.{pointed_later, final_later}
use Rattle.atomicity.proofs.Stages.StageFactLemmas.{Done, Reached, Found, Facts, reached_later, reached_more, based_later}
use Rattle.atomicity.proofs.Stages.StoredTagLemmas.{Stored, stored_later}
use Rattle.record.proofs.TagOrderLemmas.{IsAtMost, at_most_trans, later_tag-left, later_tag-right}

pub done_at : (object : Object) (k kind : Kind) (p position start end : ℕ) (replies : List Taken) →
    Done object kind position start end replies → ◌≡◌ {A = Option (Kind × ℕ)} (Some (k, p)) (Some (kind, position)) →
    Done object k p start end replies
done_at object k kind p position start end replies done e = grind arith

pub next_facts :
    (object : Object) (kind : CallKind) (from number called now p m start end : ℕ) (replies : List Taken) (status : Status) →
    greatest_status replies ≡ status → Done object Next p start end replies → called ≤ now → now ≤ start →
    Facts object kind from number called now (ReadNext p m) → Facts object kind from number called end (after_next status p m)
next_facts object kind from number called now p m start end replies Unset e done since onward facts =
    let over : now ≤ end = le_trans onward done.later in (
      reached_later object p now end over facts.0,
      facts.1,
      record {
        finalized = m;
        asked = end;
        since = le_trans since over;
        based = based_later object m now end over facts.2;
        low = facts.1;
        unpointed = λ pointed. done.none refl e (pointed_later object p called start (le_trans since onward) pointed);
        answers = λ j low high tag stored. absurd (omega arith);
      },
      le_refl end,
      facts.3,
    )
next_facts object kind from number called now p m start end replies Pending e done since onward facts =
    let over : now ≤ end = le_trans onward done.later in (
      reached_later object p now end over facts.0,
      facts.1,
      based_later object m now end over facts.2,
      le_refl 1,
      λ same. absurd (cc),
      facts.3,
    )
next_facts object kind from number called now p m start end replies Final e done since onward facts =
    let over : now ≤ end = le_trans onward done.later in (
      reached_later object p now end over facts.0,
      facts.1,
      based_later object m now end over facts.2,
      omega arith,
      λ same. done.final refl e,
      facts.3,
    )

pub spread_facts :
    (object : Object) (kind : CallKind) (from number called now p m start end : ℕ) (replies : List Taken) (status : Status) →
    Done object (Spread status) p start end replies → now ≤ start →
    Facts object kind from number called now (ReadSpread p m status) → Facts object kind from number called end (after_spread status p m)
spread_facts object kind from number called now p m start end replies Unset done onward facts =
    let none : 1 ≤ 0 = facts.3 in
    absurd (omega arith)
spread_facts object kind from number called now p m start end replies Pending done onward facts =
    let over : now ≤ end = le_trans onward done.later in (
      reached_more object p now end over facts.0 (done.spreads Pending refl facts.3),
      let low = facts.1 in omega arith,
      based_later object m now end over facts.2,
      facts.5,
    )
spread_facts object kind from number called now p m start end replies Final done onward facts =
    let over : now ≤ end = le_trans onward done.later in (
      reached_more object p now end over facts.0 (done.spreads Final refl facts.3),
      le_refl (suc p),
      inr (p, refl, inl (final_later object p now end over (facts.4 refl))),
      facts.5,
    )

-- one more position was queried
found_more :
    (object : Object) (called last j start end : ℕ) (replies : List Taken) (greatest : Tag) (f : Found object called last j greatest) →
    f.asked ≤ start → Done object Query j start end replies →
    Found object called last (suc j) (later_tag greatest (greatest_tag replies))
found_more object called last j start end replies greatest f onward done = record {
  finalized = f.finalized;
  asked = f.asked;
  since = f.since;
  based = f.based;
  low = f.low;
  unpointed = f.unpointed;
  answers = λ i low high tag stored. go i low high tag stored (cases_lt i j);
}
  where
    go : (i : ℕ) → f.finalized ≤ i → i < suc j → (tag : Tag) → Stored object i tag f.asked → (i < j) ⊎ (j ≤ i) →
        IsAtMost tag (later_tag greatest (greatest_tag replies))
    go i low high tag stored (inl less) =
        at_most_trans tag greatest (later_tag greatest (greatest_tag replies)) (f.answers i low less tag stored)
        (later_tag-left greatest (greatest_tag replies))
    go i low high tag stored (inr more) =
        let same : i ≡ j = omega arith in
        at_most_trans tag (greatest_tag replies) (later_tag greatest (greatest_tag replies))
        (done.finds refl tag (subst (λ q. Stored object q tag start) same (stored_later object i tag f.asked start onward stored)))
        (later_tag-right greatest (greatest_tag replies))

tagged_facts : (object : Object) (kind : CallKind) (from number called now place last : ℕ) (greatest : Tag) →
    Reached object last now → Found object called last (suc last) greatest → is_move kind ≡ false →
    Facts object kind from number called now (tagged kind number place last greatest)
tagged_facts object kind from number called now place last greatest reached found reads = grind arith

pub query_facts : (object : Object) (kind : CallKind) (from number called now j last : ℕ) (greatest : Tag) (shown_at start
    end : ℕ) (replies : List Taken) → Done object Query j start end replies → now ≤ start →
    Facts object kind from number called now (QueryFrom j last greatest shown_at) →
    Facts object kind from number called end (after_query kind number (greatest_tag replies) j last greatest shown_at)
unfolding found_more
query_facts object kind from number called now j last greatest shown_at start end replies done onward facts =
    let over : now ≤ end = le_trans onward done.later in
    let later = later_tag greatest (greatest_tag replies) in
    let place = cond (tag_lt (greatest_tag replies) greatest) shown_at j in
    let more = found_more object called last j start end replies greatest facts.2 (le_trans facts.3 onward) done in
    let reached = reached_later object last now end over facts.0 in
    cond_both (eqb j last) (tagged kind number place last later) (QueryFrom (suc j) last later place)
    (λ stage. Facts object kind from number called end stage)
    (λ e. tagged_facts object kind from number called end place last later reached
    (subst (λ q. Found object called last (suc q) later) (eqb-true j last e) more) facts.4)
    (λ e. let other = eqb-false j last e in let low = facts.1 in (reached, omega arith, more, le_trans facts.3 over, facts.4))
