-- A call whose answer may be told has a tag as an answered call has one, and has put it.
use Rattle.std.proofs.Common.{◌≡◌, ℕ, suc, ◌⊎◌, false, Some, sym, subst, ap}
use Rattle.std.proofs.Common.{inl, inr, arith, le_refl}
use Rattle.tag.specs.declared.tag.Tag.{Tag}
use Rattle.bank.specs.Knowledge.{finalized_at}
use Rattle.mail.specs.Phase.{Phase}
use Rattle.record.specs.declared.call.CallKind.{CallKind}
use Rattle.record.specs.declared.stage.Stage.{Stage}
use Rattle.record.specs.declared.stage.Stage.TheVariants.{ReadNext}
use Rattle.record.specs.Fragments.{Code}
use Rattle.record.specs.Legal.{is_move, source_of, IsLegal}
use Rattle.record.specs.Records.{Call, Object, bank_at}
use Rattle.record.proofs.TagOrderLemmas.{IsAtMost, tag_lt-false}
use Rattle.soundness.proofs.Quorums.ReplyTruthLemmas.{all_at, came_by_later}
use Rattle.atomicity.proofs.Sequences.AnsweredTagLemmas.{tag_facts}
use Rattle.atomicity.proofs.Sequences.SeenCallLemmas.{HasEnded}
use Rattle.atomicity.proofs.Stages.StageFactLemmas.{Facts, Found, HasTag, Reached, reached_later}
use Rattle.atomicity.proofs.Stages.StoredTagLemmas.{Stored}
use Rattle.early_ends.specs.Held.{IsHeld}
use Rattle.early_ends.specs.Told.{HasNoGreater, IsHeldCall, IsTold, IsToldRead, Told, last_of}
use Rattle.early_ends.proofs.MadePhaseLemmas.{AtPhase, phase_facts}
use Rattle.early_ends.proofs.HeldTagLemmas.{held_put, held_since, held_unpointed}

-- Calls that fetch or finalize a tag which is held

fetches_or_puts : (object : Object) (kind : CallKind) (from number called now : ℕ) (stage : Stage) (last : ℕ) →
    last_of stage ≡ Some last → is_move kind ≡ false → Facts object kind from number called now stage → Reached object last now
fetches_or_puts object kind from number called now stage last e stays facts = grind arith

last_reads : (object : Object) (kind : CallKind) (from number called now : ℕ) (stage : Stage) (last : ℕ) →
    last_of stage ≡ Some last → Facts object kind from number called now stage → is_move kind ≡ false
last_reads object kind from number called now stage last e facts = grind arith

-- Reads that were told the greatest tag

read_reaches : (object : Object) (kind : CallKind) (from number called now position finalized : ℕ) →
    Facts object kind from number called now (ReadNext position finalized) → Reached object position now
read_reaches object kind from number called now position finalized facts = facts.0

told_found : (fragment : Code) (object : Object) → IsLegal object → (told : Told) (call : Call) (tag : Tag) →
    (read : IsToldRead fragment object told call tag) →
    Found object call.called read.position (suc read.position) tag
told_found fragment object legal told call tag read = record {
  finalized = read.position;
  asked = read.phase.start;
  since = at.since;
  based = at.facts.2;
  low = le_refl read.position;
  unpointed = λ pointed.
      held_unpointed object read.position tag read.phase.start told.step call.called legal.layouts read.held at.since pointed;
  answers = λ j low high other stored.
      let same : j ≡ read.position = omega arith in
      finds other (subst (λ q. Stored object q other read.phase.start) same stored);
}
  where
    at : AtPhase object call.kind (source_of object told.index) call.id call.called (ReadNext read.position read.position) read.phase
    at = phase_facts object legal told.index call (ReadNext read.position read.position) read.phase read.made

    finds : (other : Tag) → Stored object read.position other read.phase.start → IsAtMost other tag
    finds other stored =
        let met = stored.meets read.greatest.members read.greatest.quorum in
        let there = all_at (λ i. HasNoGreater (bank_at object read.position i) tag read.phase.start) read.greatest.members met.0
        read.greatest.each met.1 in
        tag_lt-false tag other (there.none other
        (came_by_later (finalized_at (bank_at object read.position met.0) other) read.phase.start there.step there.from met.2))

-- Both

-- the call's kind is no move
pub told_reads : (fragment : Code) (object : Object) → IsLegal object → (told : Told) → (may : IsTold fragment object told) →
    is_move may.call.kind ≡ false
told_reads fragment object legal told may = go may.held
  where
    go : IsHeldCall fragment object told may.call may.tag ⊎ IsToldRead fragment object told may.call may.tag →
        is_move may.call.kind ≡ false
    go (inl held) =
        let at = phase_facts object legal told.index may.call held.stage held.phase held.made in
        last_reads object may.call.kind (source_of object told.index) may.call.id may.call.called held.phase.start held.stage held.last
        held.has_last at.facts
    go (inr read) = ap is_move read.reads

-- the tag is one that the call may take
pub told_tag : (fragment : Code) (object : Object) → IsLegal object → (told : Told) → (may : IsTold fragment object told) →
    HasTag object may.call.kind may.call.id may.call.called may.tag
told_tag fragment object legal told may = go may.held
  where
    go : IsHeldCall fragment object told may.call may.tag ⊎ IsToldRead fragment object told may.call may.tag →
        HasTag object may.call.kind may.call.id may.call.called may.tag
    go (inl held) =
        let at = phase_facts object legal told.index may.call held.stage held.phase held.made in
        tag_facts object may.call.kind (source_of object told.index) may.call.id may.call.called held.phase.start held.stage may.tag
        held.tagged (told_reads fragment object legal told may) at.facts
    go (inr read) =
        subst (λ kind. HasTag object kind may.call.id may.call.called may.tag) (sym read.reads)
        (read.position, told_found fragment object legal told may.call may.tag read)

-- and the call has put it by the step of the answer
pub told_ended : (fragment : Code) (object : Object) → IsLegal object → (told : Told) → (may : IsTold fragment object told) →
    HasEnded object may.call.called told.step may.tag
told_ended fragment object legal told may = go may.held
  where
    ended : (stage : Stage) (phase : Phase) (last : ℕ) →
        AtPhase object may.call.kind (source_of object told.index) may.call.id may.call.called stage phase →
        IsHeld object last may.tag phase.start told.step → Reached object last phase.start →
        HasEnded object may.call.called told.step may.tag
    ended stage phase last at held reached =
        let later = held_since object last may.tag phase.start told.step legal.layouts held in record {
          since = (let a = at.since in omega arith);
          last = last;
          reached = reached_later object last phase.start told.step later reached;
          put = held_put object last may.tag phase.start told.step legal.layouts held;
        }

    go : IsHeldCall fragment object told may.call may.tag ⊎ IsToldRead fragment object told may.call may.tag →
        HasEnded object may.call.called told.step may.tag
    go (inl held) =
        let at = phase_facts object legal told.index may.call held.stage held.phase held.made in
        ended held.stage held.phase held.last at held.held
        (fetches_or_puts object may.call.kind (source_of object told.index) may.call.id may.call.called held.phase.start held.stage
        held.last held.has_last (told_reads fragment object legal told may) at.facts)
    go (inr read) =
        let at = phase_facts object legal told.index may.call (ReadNext read.position read.position) read.phase read.made in
        ended (ReadNext read.position read.position) read.phase read.position at read.held
        (read_reaches object may.call.kind (source_of object told.index) may.call.id may.call.called read.phase.start read.position
        read.position at.facts)
