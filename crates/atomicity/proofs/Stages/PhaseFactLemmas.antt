-- Each phase of a call keeps what is so of it.
use Rattle.std.proofs.Common.{◌≡◌, ℕ, suc, ◌≤◌, Bool, true, false, eqb}
use Rattle.std.proofs.Common.{List, Some, refl, sym, subst, arith, le_trans, le_refl, eqb-true}
use Rattle.std.proofs.lemmas.Bool.{cond_both}
use Rattle.tag.specs.declared.tag.Tag.{Tag}
use Rattle.bank.specs.declared.status.Status.{Status}
use Rattle.bank.specs.declared.kind.Kind.{Kind}
use Rattle.mail.specs.declared.phase.Taken.{Taken}
use Rattle.record.specs.declared.call.CallKind.{CallKind}
use Rattle.record.specs.Records.{Object}
use Rattle.record.specs.Legal.{is_move}
use Rattle.bank.specs.declared.status.Status.TheVariants.{Unset, Pending, Final}
use Rattle.bank.specs.declared.kind.Kind.TheVariants.{Next, Fetch}
use Rattle.record.specs.PhaseOrder.{greatest_status, due, after, after_fetch, after_again}
use Rattle.record.specs.declared.stage.Stage.{Stage}
use Rattle.record.specs.declared.stage.Stage.TheVariants.{ReadBegin, ReadNext, ReadSpread, QueryFrom, FetchAt, PreWriteAt}
use Rattle.record.specs.declared.stage.Stage.TheVariants.{FinalizeAt, AgainNext, AgainSpread, MoveSpread, MoveQuery}
use Rattle.record.specs.declared.stage.Stage.TheVariants.{MoveFetch, MovePreWrite, MoveFinalize, MoveFinal, Ended, Moved}
use Rattle.soundness.proofs.Quorums.QuorumMeetingLemmas.{Pointed, pointed_later}
use Rattle.atomicity.proofs.Stages.ReadingFactLemmas.{done_at, next_facts, spread_facts, query_facts}
use Rattle.atomicity.proofs.Stages.StageFactLemmas.{Done, Reached, HasTag, Facts, put_unpointed, reached_later, reached_more}
use Rattle.atomicity.proofs.Stages.StoredTagLemmas.{Stored, stored_later}

fetch_facts : (object : Object) (kind : CallKind) (from number called now shown_at
    last : ℕ) (tag : Tag) (start end : ℕ) (replies : List Taken) → Done object (Fetch tag) shown_at start end replies →
    now ≤ start → Facts object kind from number called now (FetchAt shown_at last tag) →
    Facts object kind from number called end (after_fetch shown_at last tag)
fetch_facts object kind from number called now shown_at last tag start end replies done onward facts =
    let over : now ≤ end = le_trans onward done.later in
    let reached = reached_later object last now end over facts.0 in
    cond_both (eqb shown_at last) (AgainNext last last tag) (PreWriteAt last tag) (λ stage. Facts object kind from number called end stage)
    (λ e. (reached, facts.1, subst (λ q. Stored object q tag end) (eqb-true shown_at last e) (done.fetches tag refl)))
    (λ e. (reached, facts.1))

again_facts : (object : Object) (kind : CallKind) (from number called now last p : ℕ) (tag : Tag) (start end : ℕ) (replies : List
    Taken) (status : Status) → greatest_status replies ≡ status → Done object Next p start end replies →
    now ≤ start → Facts object kind from number called now (AgainNext last p tag) →
    Facts object kind from number called end (after_again status last p tag)
again_facts object kind from number called now last p tag start end replies Unset e done onward facts =
    let over : now ≤ end = le_trans onward done.later in
    let reached = reached_later object p now end over facts.0 in
    cond_both (eqb p last) (Ended last tag) (PreWriteAt p tag) (λ stage. Facts object kind from number called end stage)
    (λ t. let same = eqb-true p last t in (
      subst (λ q. Reached object q end) same reached,
      facts.1,
      put_unpointed object start end last tag done.later (stored_later object last tag now start onward facts.2)
          (λ pointed. done.none refl e (subst (λ q. Pointed object q start) (sym same) pointed)),
    ))
    (λ t. (reached, facts.1))
again_facts object kind from number called now last p tag start end replies Pending e done onward facts =
    let over : now ≤ end = le_trans onward done.later in (
      reached_later object p now end over facts.0,
      facts.1,
      stored_later object last tag now end over facts.2,
      le_refl 1,
      λ same. absurd (cc),
    )
again_facts object kind from number called now last p tag start end replies Final e done onward facts =
    let over : now ≤ end = le_trans onward done.later in (
      reached_later object p now end over facts.0,
      facts.1,
      stored_later object last tag now end over facts.2,
      omega arith,
      λ same. done.final refl e,
    )

-- a call with such a tag is no move
no_move : (object : Object) (kind : CallKind) (number called : ℕ) (tag : Tag) → HasTag object kind number called tag →
    is_move kind ≡ false
no_move object kind number called tag has = grind arith

-- a complete phase that was due leads from facts to facts
pub facts_after : (object : Object) (kind : CallKind) (from number called now : ℕ) (stage : Stage) (asked : Kind) (position start
    end : ℕ) (replies : List Taken) (lacks : Bool) → due stage ≡ Some (asked, position) → Done object asked position start end replies →
    called ≤ now → now ≤ start → Facts object kind from number called now stage →
    Facts object kind from number called end (after kind number stage replies lacks)
facts_after object kind from number called now ReadBegin asked position start end replies lacks e done since onward facts = facts
facts_after object kind from number called now (ReadNext p m) asked position start end replies lacks e done since onward facts =
    next_facts object kind from number called now p m start end replies (greatest_status replies) refl
    (done_at object _ asked _ position start end replies done e) since onward facts
facts_after object kind from number called now (ReadSpread p m status) asked position start end replies lacks e done since onward facts =
    spread_facts object kind from number called now p m start end replies status
    (done_at object _ asked _ position start end replies done e) onward facts
facts_after object kind from number called now (QueryFrom p last greatest shown_at) asked position start end replies lacks e done
    since onward facts =
    query_facts object kind from number called now p last greatest shown_at start end replies
    (done_at object _ asked _ position start end replies done e)
    onward facts
facts_after object kind from number called now (FetchAt shown_at last tag) asked position start end replies true e done since onward facts =
    no_move object kind number called tag facts.1
facts_after object kind from number called now
    (FetchAt shown_at last tag) asked position start end replies false e done since onward facts =
    fetch_facts object kind from number called now shown_at last tag start end replies
    (done_at object _ asked _ position start end replies done e) onward facts
facts_after object kind from number called now (PreWriteAt last tag) asked position start end replies lacks e done since onward facts =
    (reached_later object last now end (le_trans onward done.later) facts.0, facts.1)
facts_after object kind from number called now (FinalizeAt last tag) asked position start end replies lacks e done since onward facts =
    let here = done_at object _ asked _ position start end replies done e in
    (reached_later object last now end (le_trans onward done.later) facts.0, facts.1, here.stores tag refl)
facts_after object kind from number called now (AgainNext last p tag) asked position start end replies lacks e done since onward facts =
    again_facts object kind from number called now last p tag start end replies (greatest_status replies) refl
    (done_at object _ asked _ position start end replies done e) onward facts
facts_after object kind from number called now
    (AgainSpread last p tag status) asked position start end replies lacks e done since onward facts =
    let here = done_at object _ asked _ position start end replies done e in
    let over : now ≤ end = le_trans onward done.later in (
      reached_more object p now end over facts.0 (here.spreads status refl facts.3),
      facts.1,
      stored_later object last tag now end over facts.2,
    )
facts_after object kind from number called now (MoveSpread p) asked position start end replies lacks e done since onward facts =
    let here = done_at object _ asked _ position start end replies done e in (facts, here.spreads Pending refl (le_refl 1))
facts_after object kind from number called now (MoveQuery p) asked position start end replies lacks e done since onward facts =
    let here = done_at object _ asked _ position start end replies done e in (
      facts.0,
      record {
        asked = start;
        since = le_trans since onward;
        pointed = pointed_later object p now start onward facts.1;
        answers = here.finds refl;
      },
      pointed_later object p now end (le_trans onward done.later) facts.1,
    )
facts_after object kind from number called now (MoveFetch p tag) asked position start end replies true e done since onward facts =
    (facts.0, pointed_later object p now end (le_trans onward done.later) facts.2)
facts_after object kind from number called now (MoveFetch p tag) asked position start end replies false e done since onward facts =
    (facts.0, facts.1, pointed_later object p now end (le_trans onward done.later) facts.2)
facts_after object kind from number called now (MovePreWrite p tag) asked position start end replies lacks e done since onward facts =
    (facts.0, facts.1, pointed_later object p now end (le_trans onward done.later) facts.2)
facts_after object kind from number called now (MoveFinalize p tag) asked position start end replies lacks e done since onward facts =
    let here = done_at object _ asked _ position start end replies done e in
    (facts.0, facts.1, here.stores tag refl, pointed_later object p now end (le_trans onward done.later) facts.2)
facts_after object kind from number called now (MoveFinal p tag) asked position start end replies lacks e done since onward facts =
    let over : now ≤ end = le_trans onward done.later in
    (facts.0, facts.1, stored_later object (suc p) tag now end over facts.2, pointed_later object p now end over facts.3)
facts_after object kind from number called now (Moved p tag) asked position start end replies lacks e done since onward facts = absurd (cc)
facts_after object kind from number called now (Ended last tag) asked position start end replies lacks e done since onward facts =
    absurd (cc)
