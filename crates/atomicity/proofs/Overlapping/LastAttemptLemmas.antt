-- What is so of a read at a fetch, since it last began.
use Rattle.std.proofs.Common.{◌≡◌, ℕ, zero, suc, ◌≤◌, Bool, true, false, cond, List, [], ◌∷◌, Some, le_trans}
use Rattle.std.proofs.Common.{refl, sym, subst, ap, ◌∙◌, arith, le_refl, le_of_lt, slice_get}
use Rattle.std.proofs.lemmas.Option.{same_Some}
use Rattle.std.specs.List.{AllByRecursion}
use Rattle.tag.specs.declared.tag.Tag.{Tag}
use Rattle.layout.specs.Layout.{IsLawful}
use Rattle.bank.specs.declared.kind.Kind.{Kind}
use Rattle.bank.specs.declared.kind.Kind.TheVariants.{Fetch}
use Rattle.mail.specs.declared.phase.Taken.{Taken}
use Rattle.mail.specs.Phase.{Phase, lacks_pieces}
use Rattle.record.specs.declared.call.CallKind.{CallKind}
use Rattle.record.specs.declared.call.CallKind.TheVariants.{Read}
use Rattle.record.specs.Records.{Call, Object, base_at}
use Rattle.record.specs.Knowledge.{IsTruePhase}
use Rattle.record.specs.PhaseOrder.{due, after, passed, IsCourse, stage_past, begun_at, BeginAtBase}
use Rattle.record.specs.declared.stage.Stage.{Stage}
use Rattle.record.specs.declared.stage.Stage.TheVariants.{ReadBegin}
use Rattle.record.specs.Legal.{source_of, first_stage, IsLegal}
use Rattle.record.specs.Wants.{is_fetch}
use Rattle.atomicity.specs.Lacking.{first_start, last_beginning}
use Rattle.atomicity.proofs.Sequences.AnsweredTagLemmas.{tag_facts}
use Rattle.atomicity.proofs.Stages.CallFactLemmas.{AtPhase, Rests, legal_rests, first_at, one_phase, first_facts, starts_from}
use Rattle.atomicity.proofs.Stages.StageFactLemmas.{done_of, Facts, HasTag}
use Rattle.soundness.proofs.Sound.FetchOrderLemmas.{FetchDue, late_due, first_late}
use Rattle.record.proofs.Phases.PastFetchLemmas.{IsLateWith, fetch_due, late_past, late_begun}
use Rattle.soundness.proofs.PhaseStartLemmas.{StartsFrom}
use Rattle.soundness.proofs.Sound.WantCaseLemmas.{fetch_is}

-- a call that has what it needs does not fetch again
none_late : (kind : CallKind) (number : ℕ) (phases : List Phase) (stage : Stage) (tag : Tag) → IsLateWith tag stage →
    IsCourse kind number stage phases → (place : ℕ) (phase : Phase) (other : Tag) → slice_get phases place ≡ Some phase →
    phase.kind ≡ Fetch other → ⊥
none_late kind number [] stage tag late course place phase other at fetch = absurd (cc)
none_late kind number (first ∷ phases) stage tag late course zero phase other at fetch =
    let asked : first.kind ≡ Fetch other = ap (λ (p : Phase). p.kind) (same_Some first phase at) ∙ fetch in
    late_due (begun_at stage first.position) (late_begun stage first.position tag late).0 (subst FetchDue (sym course.0) (other, asked))
none_late kind number (first ∷ phases) stage tag late course (suc place) phase other at fetch =
    none_late kind number phases (stage_past kind number stage first) tag
    (late_past kind number stage first tag late) course.2 place phase other at fetch

-- a read whose fetch lacks pieces is back at its first stage
reads_anew : (object : Object) (from number since now : ℕ) (stage : Stage) (replies : List Taken) (tag : Tag) (position : ℕ) →
    Facts object Read from number since now stage → due stage ≡ Some (Fetch tag, position) →
    after Read number stage replies true ≡ ReadBegin
reads_anew object from number since now stage replies tag position facts e = grind arith

module _ (object : Object) (base : ℕ → ℕ) (rests : Rests object base) (from number : ℕ)
    (lawful : AllByRecursion IsLawful object.layouts) (phase : Phase) (tag : Tag) (fetch : phase.kind ≡ Fetch tag) where
  -- the facts at this fetch, since the step at which the read last began
  abbrev AtFetch : (since : ℕ) → Type 0
  AtFetch since = AtPhase object Read from number since phase

  -- from whatever stage these phases go on, the facts are there
  abbrev From : List Phase → (place : ℕ) → Type 0
  From phases place = (since now : ℕ) (stage : Stage) → IsCourse Read number stage phases →
      BeginAtBase base Read number stage phases → since ≤ now → StartsFrom now phases →
      Facts object Read from number since now stage → AtFetch (last_beginning since phases place)

  at_fetch : (phases : List Phase) (since now : ℕ) (stage : Stage) → IsCourse Read number stage phases →
      BeginAtBase base Read number stage phases →
      AllByRecursion (IsTruePhase object) phases → since ≤ now → StartsFrom now phases → Facts object Read from number since now stage →
      (place : ℕ) → slice_get phases place ≡ Some phase → AtFetch (last_beginning since phases place)
  at_fetch (first ∷ phases) since now stage course begins truth order starts facts zero at =
      subst (λ p. AtPhase object Read from number since p) (same_Some first phase at)
      (record {
        stage = begun_at stage first.position;
        now = first.start;
        since = le_trans order starts;
        before = le_refl first.start;
        is_due = course.0;
        facts = first_at object base Read from number since now stage first phases rests begins starts facts;
      })
  at_fetch (first ∷ next ∷ later) since now stage course begins truth order starts facts (suc place) at =
      by_kind (is_fetch first.kind) refl (lacks_pieces first) refl
      (λ since now stage course begins order starts facts.
      at_fetch (next ∷ later) since now stage course begins truth.1 order starts facts place at)
    where
      end : ℕ
      end = course.1.0

      ended : first.end ≡ Some end
      ended = course.1.1

      grew : first.start ≤ end
      grew = (done_of object first end lawful truth.0 ended).later

      before : now ≤ first.start
      before = starts

      stage' : Stage
      stage' = begun_at stage first.position

      facts' : Facts object Read from number since first.start stage'
      facts' = first_at object base Read from number since now stage first (next ∷ later) rests begins before facts

      order' : since ≤ first.start
      order' = le_trans order before

      by_kind : (b : Bool) → is_fetch first.kind ≡ b → (lacks : Bool) → lacks_pieces first ≡ lacks → From (next ∷ later) place →
          AtFetch (last_beginning (cond b (first_start since (next ∷ later)) since) (next ∷ later) place)
      by_kind false other lacks is rest =
          rest since end (stage_past Read number stage first) course.2 begins.1
          (let g = grew in let b = before in omega arith) (le_of_lt course.1.2)
          (one_phase object Read from number since first.start end stage' first lawful course.0 truth.0 ended order'
          (le_refl first.start) facts')
      by_kind true fetches true is rest =
          let found = fetch_is first.kind fetches in
          let anew = reads_anew object from number since first.start stage' first.replies found.0 first.position facts'
          (course.0 ∙ ap (λ (k : Kind). Some (k, first.position)) found.1) in
          let back : stage_past Read number stage first ≡ ReadBegin =
          ap (λ o. passed Read number (begun_at stage first.position) o first.replies (lacks_pieces first)) ended
          ∙ (ap (λ b. after Read number stage' first.replies b) is ∙ anew) in
          rest next.start next.start ReadBegin (subst (λ s. IsCourse Read number s (next ∷ later)) back course.2)
          (subst (λ s. BeginAtBase base Read number s (next ∷ later)) back begins.1)
          (le_refl next.start) (le_refl next.start) (first_facts object Read from number next.start)
      by_kind true fetches false is rest =
          let found = fetch_is first.kind fetches in
          let late = first_late Read number stage' first first found.0 course.0 refl found.1 is in
          absurd (none_late Read number (next ∷ later) (stage_past Read number stage first) found.0
          (subst (λ o. IsLateWith found.0 (passed Read number stage' o first.replies (lacks_pieces first))) (sym ended) late)
          course.2 place phase tag at fetch)
  at_fetch _ since now stage course begins truth order starts facts _ at = absurd (cc)

-- the tag that a read fetches is the greatest that its queries found since it last began
pub fetched_since : (object : Object) → IsLegal object → (index place : ℕ) (call : Call) (phase : Phase) (tag : Tag) →
    slice_get object.calls index ≡ Some call → call.kind ≡ Read → slice_get call.phases place ≡ Some phase →
    phase.kind ≡ Fetch tag → HasTag object Read call.id (last_beginning call.called call.phases place) tag
fetched_since object legal index place call phase tag at reads within fetch =
    tag_facts object Read from call.id (last_beginning call.called call.phases place) there.now there.stage tag
    (fetch_due there.stage tag phase.position (there.is_due ∙ ap (λ (k : Kind). Some (k, phase.position)) fetch)) refl there.facts
  where
    from : ℕ
    from = source_of object index

    course : IsCourse Read call.id ReadBegin call.phases
    course = subst (λ k. IsCourse k call.id (first_stage k from) call.phases) reads (legal.calls index call at).course

    begins : BeginAtBase (base_at object) Read call.id ReadBegin call.phases
    begins = subst (λ k. BeginAtBase (base_at object) k call.id (first_stage k from) call.phases) reads
        (legal.calls index call at).from_base

    there : AtPhase object Read from call.id (last_beginning call.called call.phases place) phase
    there = at_fetch object (base_at object) (legal_rests object legal) from call.id legal.layouts phase tag fetch call.phases
        call.called call.called ReadBegin course begins
        (legal.calls index call at).phases (le_refl call.called) (starts_from call.phases call.called (legal.calls index call at).begins)
        (first_facts object Read from call.id call.called) place within
