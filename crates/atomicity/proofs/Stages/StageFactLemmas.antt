-- What is so of a call at each of its stages, and stays so.
use Rattle.std.proofs.Common.{◌≡◌, ℕ, suc, ◌<◌, ◌≤◌, ◌⊎◌, false, List, Some, subst, inl, inr, arith, le_trans, le_of_lt}
use Rattle.std.proofs.lemmas.Bool.{cases_lt}
use Rattle.std.specs.List.{AllByRecursion}
use Rattle.tag.specs.declared.tag.Tag.{Tag}
use Rattle.tag.specs.Tag.{next_tag}
use Rattle.layout.specs.Layout.{IsLawful}
use Rattle.bank.specs.declared.status.Status.{Status}
use Rattle.bank.specs.declared.kind.Kind.{Kind}
use Rattle.mail.specs.declared.phase.Taken.{Taken}
use Rattle.mail.specs.Phase.{Phase}
use Rattle.record.specs.declared.call.CallKind.{CallKind}
use Rattle.record.specs.Records.{Object, layout_at}
use Rattle.bank.specs.declared.status.Status.TheVariants.{Unset, Final}
use Rattle.bank.specs.declared.kind.Kind.TheVariants.{Next, Spread, Query, Finalize, Fetch}
use Rattle.record.specs.declared.call.CallKind.TheVariants.{Read, Write, Move}
use Rattle.record.specs.Knowledge.{IsTruePhase}
use Rattle.record.specs.PhaseOrder.{greatest_status, greatest_tag}
use Rattle.record.specs.declared.stage.Stage.{Stage}
use Rattle.record.specs.Legal.{is_move, IsMovedOut}
use Rattle.record.specs.declared.stage.Stage.TheVariants.{ReadBegin, ReadNext, ReadSpread, QueryFrom, FetchAt, PreWriteAt}
use Rattle.record.specs.declared.stage.Stage.TheVariants.{FinalizeAt, AgainNext, AgainSpread, MoveSpread, MoveQuery}
use Rattle.record.specs.declared.stage.Stage.TheVariants.{MoveFetch, MovePreWrite, MoveFinalize, MoveFinal, Ended, Moved}
use Rattle.soundness.proofs.Quorums.QuorumMeetingLemmas.{Pointed, SeenFinal, pointed_later, lawful_at}
use Rattle.soundness.proofs.Quorums.QuorumMeetingLemmas.{final_later, stored_by_fin, stored_by_fetch, pointed_by_spread}
use Rattle.soundness.proofs.Quorums.QuorumMeetingLemmas.{none_pointed, final_found, start_before_end}
use Rattle.soundness.proofs.StatusOrderLemmas.{rank}
use Rattle.atomicity.proofs.Stages.StoredTagLemmas.{Stored, stored_later, stored_at_quorum, query_finds}
use Rattle.record.proofs.TagOrderLemmas.{IsAtMost}

-- what a complete phase of this kind shows
pub record Done (object : Object) (kind : Kind) (position start end : ℕ) (replies : List Taken) : Type 0 where
  pub later : start ≤ end
  pub finds : kind ≡ Query → (tag : Tag) → Stored object position tag start → IsAtMost tag (greatest_tag replies)
  pub none : kind ≡ Next → greatest_status replies ≡ Unset → Pointed object position start → ⊥
  pub final : kind ≡ Next → greatest_status replies ≡ Final → SeenFinal object position end
  pub spreads : (status : Status) → kind ≡ Spread status → 1 ≤ rank status → Pointed object position end
  pub stores : (tag : Tag) → kind ≡ Finalize tag → Stored object position tag end
  pub fetches : (tag : Tag) → kind ≡ Fetch tag → Stored object position tag end

pub done_of : (object : Object) (phase : Phase) (end : ℕ) → AllByRecursion IsLawful object.layouts → IsTruePhase object phase →
    phase.end ≡ Some end → Done object phase.kind phase.position phase.start end phase.replies
done_of object phase end lawful truth e = record {
  later = start_before_end object phase end lawful truth e;
  finds = λ k. query_finds object phase end k truth e;
  none = λ k. none_pointed object phase end k lawful truth e;
  final = λ k. final_found object phase end k truth e;
  spreads = λ status k some. pointed_by_spread object phase end status k some truth e;
  stores = λ tag k. stored_at_quorum object phase.position tag end here (stored_by_fin object phase end tag k truth e);
  fetches = λ tag k. stored_at_quorum object phase.position tag end here (stored_by_fetch object phase end tag k truth e);
}
  where
    here : IsLawful (layout_at object phase.position)
    here = lawful_at object phase.position lawful truth.placed

-- the move out of a position was answered by a step
pub record IsLeft (object : Object) (position now : ℕ) : Type 0 where
  pub answered : ℕ
  pub moved : IsMovedOut object position answered
  pub by : answered ≤ now

-- every earlier position had a pointer at a quorum, or was left
abbrev pub Reached : Object → ℕ → ℕ → Type 0
Reached object position now = (j : ℕ) → j < position → Pointed object j now ⊎ IsLeft object j now

-- the first position, or the one after a final pointer or after one that was left
abbrev pub IsBased : Object → ℕ → ℕ → Type 0
IsBased object finalized now =
    (finalized ≡ 0) ⊎ ((before : ℕ) × (finalized ≡ suc before) × (SeenFinal object before now ⊎ IsLeft object before now))

-- a first reading that ended at `last`, and the greatest tag that its queries showed at the positions below `upto`
pub record Found (object : Object) (called : ℕ) (last upto : ℕ) (greatest : Tag) : Type 0 where
  pub finalized : ℕ
  pub asked : ℕ
  pub since : called ≤ asked
  pub based : IsBased object finalized asked
  pub low : finalized ≤ last
  pub unpointed : Pointed object last called → ⊥
  pub answers : (j : ℕ) → finalized ≤ j → j < upto → (tag : Tag) → Stored object j tag asked → IsAtMost tag greatest

-- the queries are complete, and the call's tag is the greatest, or for a write the next one
abbrev pub HasTag : Object → CallKind → ℕ → ℕ → Tag → Type 0
HasTag object Read number called tag = (last : ℕ) × Found object called last (suc last) tag
HasTag object (Write value) number called tag =
    (greatest : Tag) × (tag ≡ next_tag greatest number) × (last : ℕ) × Found object called last (suc last) greatest
HasTag object Move number called tag = ⊥

-- a move's queries are complete
pub record Carried (object : Object) (called position : ℕ) (tag : Tag) : Type 0 where
  pub asked : ℕ
  pub since : called ≤ asked
  pub pointed : Pointed object position asked
  pub answers : (other : Tag) → Stored object position other asked → IsAtMost other tag

-- by step `now` the tag was stored at the position `last`, and so it was by each step by which a quorum there had a pointer
pub record Put (object : Object) (now last : ℕ) (tag : Tag) : Type 0 where
  pub stored : Stored object last tag now
  pub pointed : (step : ℕ) → Pointed object last step → Stored object last tag step

-- a tag is put if it was stored at a step by which no quorum had a pointer
pub put_unpointed : (object : Object) (at now last : ℕ) (tag : Tag) → at ≤ now → Stored object last tag at →
    (Pointed object last at → ⊥) → Put object now last tag
put_unpointed object at now last tag until stored none = record {
  stored = stored_later object last tag at now until stored;
  pointed = λ step pointed. go step pointed (cases_lt step at);
}
  where
    go : (step : ℕ) → Pointed object last step → (step < at) ⊎ (at ≤ step) → Stored object last tag step
    go step pointed (inl early) = absurd (none (pointed_later object last step at (le_of_lt early) pointed))
    go step pointed (inr late) = stored_later object last tag at step late stored

pub put_later : (object : Object) (s u last : ℕ) (tag : Tag) → s ≤ u → Put object s last tag → Put object u last tag
put_later object s u last tag h put = record { stored = stored_later object last tag s u h put.stored; pointed = put.pointed }

-- the call is a move from this position
abbrev pub IsMoveFrom : CallKind → ℕ → ℕ → Type 0
IsMoveFrom kind from position = (kind ≡ Move) × (position ≡ from)

-- what is so, when a call has come to a stage
abbrev pub Facts : Object → CallKind → (from number called now : ℕ) → Stage → Type 0
Facts object kind from number called now ReadBegin = is_move kind ≡ false
Facts object kind from number called now (ReadNext position finalized) =
    Reached object position now × (finalized ≤ position) × IsBased object finalized now × (is_move kind ≡ false)
Facts object kind from number called now (ReadSpread position finalized status) =
    Reached object position now × (finalized ≤ position) × IsBased object finalized now × (1 ≤ rank status)
    × (status ≡ Final → SeenFinal object position now)
    × (is_move kind ≡ false)
Facts object kind from number called now (QueryFrom position last greatest shown_at) =
    Reached object last now × (position ≤ last) × (f : Found object called last position greatest) × (f.asked ≤ now)
    × (is_move kind ≡ false)
Facts object kind from number called now (FetchAt shown_at last tag) = Reached object last now × HasTag object kind number called tag
Facts object kind from number called now (PreWriteAt last tag) = Reached object last now × HasTag object kind number called tag
Facts object kind from number called now (FinalizeAt last tag) = Reached object last now × HasTag object kind number called tag
Facts object kind from number called now (AgainNext last position tag) =
    Reached object position now × HasTag object kind number called tag × Stored object last tag now
Facts object kind from number called now (AgainSpread last position tag status) =
    Reached object position now × HasTag object kind number called tag × Stored object last tag now × (1 ≤ rank status)
    × (status ≡ Final → SeenFinal object position now)
Facts object kind from number called now (MoveSpread position) = IsMoveFrom kind from position
Facts object kind from number called now (MoveQuery position) = IsMoveFrom kind from position × Pointed object position now
Facts object kind from number called now (MoveFetch position tag) =
    IsMoveFrom kind from position × Carried object called position tag × Pointed object position now
Facts object kind from number called now (MovePreWrite position tag) =
    IsMoveFrom kind from position × Carried object called position tag × Pointed object position now
Facts object kind from number called now (MoveFinalize position tag) =
    IsMoveFrom kind from position × Carried object called position tag × Pointed object position now
Facts object kind from number called now (MoveFinal position tag) =
    IsMoveFrom kind from position × Carried object called position tag × Stored object (suc position) tag now
    × Pointed object position now
Facts object kind from number called now (Moved position tag) =
    IsMoveFrom kind from position × Carried object called position tag × Stored object (suc position) tag now
    × Pointed object position now
Facts object kind from number called now (Ended last tag) =
    Reached object last now × HasTag object kind number called tag × Put object now last tag

pub left_later : (object : Object) (position s u : ℕ) → s ≤ u → IsLeft object position s → IsLeft object position u
left_later object position s u h left = record { answered = left.answered; moved = left.moved; by = le_trans left.by h }

pub reached_later : (object : Object) (position s u : ℕ) → s ≤ u → Reached object position s → Reached object position u
reached_later object position s u h reached = λ j below. go j (reached j below)
  where
    go : (j : ℕ) → Pointed object j s ⊎ IsLeft object j s → Pointed object j u ⊎ IsLeft object j u
    go j (inl pointed) = inl (pointed_later object j s u h pointed)
    go j (inr left) = inr (left_later object j s u h left)

pub reached_more : (object : Object) (position s u : ℕ) → s ≤ u → Reached object position s → Pointed object position u →
    Reached object (suc position) u
reached_more object position s u h reached pointed = λ j below. go j below (cases_lt j position)
  where
    go : (j : ℕ) → j < suc position → (j < position) ⊎ (position ≤ j) → Pointed object j u ⊎ IsLeft object j u
    go j below (inl less) = reached_later object position s u h reached j less
    go j below (inr more) = let same : position ≡ j = omega arith in inl (subst (λ q. Pointed object q u) same pointed)

pub based_later : (object : Object) (finalized s u : ℕ) → s ≤ u → IsBased object finalized s → IsBased object finalized u
based_later object finalized s u h known = grind arith

-- the facts last
pub facts_later : (object : Object) (kind : CallKind) (from number called s u : ℕ) (stage : Stage) → s ≤ u →
    Facts object kind from number called s stage → Facts object kind from number called u stage
facts_later object kind from number called s u ReadBegin h facts = facts
facts_later object kind from number called s u (ReadNext position finalized) h facts =
    (reached_later object position s u h facts.0, facts.1, based_later object finalized s u h facts.2, facts.3)
facts_later object kind from number called s u (ReadSpread position finalized status) h facts = (
  reached_later object position s u h facts.0,
  facts.1,
  based_later object finalized s u h facts.2,
  facts.3,
  λ e. final_later object position s u h (facts.4 e),
  facts.5,
)
facts_later object kind from number called s u (QueryFrom position last greatest shown_at) h facts =
    (reached_later object last s u h facts.0, facts.1, facts.2, le_trans facts.3 h, facts.4)
facts_later object kind from number called s u (FetchAt shown_at last tag) h facts = (reached_later object last s u h facts.0, facts.1)
facts_later object kind from number called s u (PreWriteAt last tag) h facts = (reached_later object last s u h facts.0, facts.1)
facts_later object kind from number called s u (FinalizeAt last tag) h facts = (reached_later object last s u h facts.0, facts.1)
facts_later object kind from number called s u (AgainNext last position tag) h facts =
    (reached_later object position s u h facts.0, facts.1, stored_later object last tag s u h facts.2)
facts_later object kind from number called s u (AgainSpread last position tag status) h facts = (
  reached_later object position s u h facts.0,
  facts.1,
  stored_later object last tag s u h facts.2,
  facts.3,
  λ e. final_later object position s u h (facts.4 e),
)
facts_later object kind from number called s u (MoveSpread position) h facts = facts
facts_later object kind from number called s u (MoveQuery position) h facts = (facts.0, pointed_later object position s u h facts.1)
facts_later object kind from number called s u (MoveFinal position tag) h facts =
    (facts.0, facts.1, stored_later object (suc position) tag s u h facts.2, pointed_later object position s u h facts.3)
facts_later object kind from number called s u (Moved position tag) h facts =
    (facts.0, facts.1, stored_later object (suc position) tag s u h facts.2, pointed_later object position s u h facts.3)
facts_later object kind from number called s u (Ended last tag) h facts = (
  reached_later object last s u h facts.0,
  facts.1,
  put_later object s u last tag h facts.2,
)
facts_later object kind from number called s u _ h facts = (facts.0, facts.1, pointed_later object _ s u h facts.2)
