-- A tag that was finalized anywhere is that of a write that was called before.
use Rattle.std.proofs.Common.{◌≡◌, ℕ, zero, suc, ◌<◌, ◌≤◌, ◌⊎◌, List, ◌∷◌}
use Rattle.std.proofs.Common.{Some, refl, sym, subst, ap, ◌∙◌, inl, inr, arith, slice_get}
use Rattle.std.proofs.lemmas.Option.{same_Some}
use Rattle.std.specs.List.{AllByRecursion}
use Rattle.tag.specs.declared.tag.Tag.{Tag}
use Rattle.tag.specs.Tag.{opening_tag}
use Rattle.layout.specs.Layout.{IsLawful}
use Rattle.bank.specs.Bank.{Bank}
use Rattle.bank.specs.Knowledge.{finalized_at, HasFinalized, IsTrueAnswer}
use Rattle.bank.specs.declared.kind.Kind.{Kind}
use Rattle.bank.specs.declared.kind.Kind.TheVariants.{Finalize, Fetch}
use Rattle.bank.specs.declared.reply.Answer.{Answer}
use Rattle.bank.specs.declared.reply.Answer.TheVariants as answer
use Rattle.mail.specs.declared.phase.Taken.{Taken}
use Rattle.mail.specs.Phase.{Phase}
use Rattle.record.specs.declared.call.CallKind.{CallKind}
use Rattle.record.specs.declared.call.CallKind.TheVariants.{Read, Write, Move}
use Rattle.record.specs.declared.stage.Stage.{Stage}
use Rattle.record.specs.Records.{Call, Object, bank_at}
use Rattle.record.specs.Knowledge.{IsTrueReply, IsTruePhase}
use Rattle.record.specs.PhaseOrder.{shown_tag, greatest_tag, IsCourse, stage_past}
use Rattle.record.specs.Fragments.{Code, kind_tag}
use Rattle.record.specs.Journals.{tag_of}
use Rattle.record.specs.Legal.{first_stage, source_of, HasBegun}
use Rattle.soundness.specs.Sound.{IsSound}
use Rattle.soundness.proofs.Quorums.QuorumMeetingLemmas.{start_before_end}
use Rattle.soundness.proofs.Quorums.ReplyTruthLemmas.{came_by_later}
use Rattle.atomicity.proofs.Stages.CallFactLemmas.{call_at_phase}
use Rattle.soundness.proofs.Values.SentTagLemmas.{sent_by_write}
use Rattle.soundness.proofs.Values.KnownTagLemmas.{IsNoWrite, known_at, known_first, known_tag}
use Rattle.soundness.proofs.Values.SentValueLemmas.{due_tag}
use Rattle.soundness.proofs.ListLemmas.{all_get, all_pairs, all_weaker}
use Rattle.soundness.proofs.Sound.Enough.FinalizedPieceLemmas.{came_at}
use Rattle.soundness.proofs.Sound.Enough.QuorumPieceLemmas.{greatest_is}

-- the tag was finalized at some bank by the step, or is the opening one
abbrev pub ShownBy : Object → ℕ → Tag → Type 0
ShownBy object step tag = (tag ≡ opening_tag) ⊎ ((position : ℕ) × (member : ℕ) × HasFinalized (bank_at object position member) tag step)

-- a write that was called before the step has the tag
pub record IsWrittenBefore (object : Object) (tag : Tag) (step : ℕ) : Type 0 where
  pub index : ℕ
  pub call : Call
  pub at : slice_get object.calls index ≡ Some call
  pub value : List ℕ
  pub kind : call.kind ≡ Write value
  pub tagged : tag_of object index call ≡ Some tag
  pub called : call.called < step

-- the tag that a true answer shows
shown_true : (bank : Bank) (made : ℕ) (kind : Kind) (answer : Answer) → IsTrueAnswer bank made kind answer →
    (shown_tag answer ≡ opening_tag) ⊎ HasFinalized bank (shown_tag answer) made
shown_true bank made kind answer says = grind arith

-- what the replies of a complete phase show, was finalized by its end
phase_shows : (object : Object) (phase : Phase) (end step : ℕ) → IsTruePhase object phase → phase.end ≡ Some end → end ≤ step →
    ShownBy object step (greatest_tag phase.replies)
phase_shows object phase end step truth ended before =
    greatest_is (ShownBy object step) phase.replies (inl refl)
    (all_weaker (λ reply. IsTrueReply object phase reply × (reply.step ≤ end))
    (λ reply. ShownBy object step (shown_tag reply.reply.answer)) (λ reply both. one reply both.0 both.1) phase.replies
    (all_pairs (IsTrueReply object phase) (λ reply. reply.step ≤ end) phase.replies truth.replies (truth.complete end ended).1))
  where
    one : (reply : Taken) → IsTrueReply object phase reply → reply.step ≤ end → ShownBy object step (shown_tag reply.reply.answer)
    one reply is late =
        go (shown_true (bank_at object phase.position reply.member) reply.reply.step phase.kind reply.reply.answer is.says)
      where
        go : (shown_tag reply.reply.answer ≡ opening_tag)
            ⊎ HasFinalized (bank_at object phase.position reply.member) (shown_tag reply.reply.answer) reply.reply.step →
            ShownBy object step (shown_tag reply.reply.answer)
        go (inl opening) = inl opening
        go (inr final) = inr (
          phase.position,
          reply.member,
          came_by_later (finalized_at (bank_at object phase.position reply.member) (shown_tag reply.reply.answer)) reply.reply.step step
              (let order = is.in_order in omega arith) final,
        )

-- a phase before another ended before that one began
record EndedBefore (other phase : Phase) : Type 0 where
  end : ℕ
  ended : other.end ≡ Some end
  before : end < phase.start

ended_earlier : (object : Object) → AllByRecursion IsLawful object.layouts → (kind : CallKind) (number : ℕ) (phases : List Phase)
    (stage : Stage) → IsCourse kind number stage phases → AllByRecursion (IsTruePhase object) phases → (early late : ℕ)
    (other phase : Phase) → early < late → slice_get phases early ≡ Some other → slice_get phases late ≡ Some phase →
    EndedBefore other phase
ended_earlier object lawful kind number (first ∷ phases) stage course truth early zero other phase less a b = absurd (omega arith)
ended_earlier object lawful kind number (first ∷ next ∷ later) stage course truth zero (suc zero) other phase less a b =
    let same = same_Some first other a in
    let follows = same_Some next phase b in
    record {
      end = course.1.0;
      ended = sym (ap (λ (p : Phase). p.end) same) ∙ course.1.1;
      before = subst (λ (p : Phase). course.1.0 < p.start) follows course.1.2;
    }
ended_earlier object lawful kind number (first ∷ next ∷ later) stage course truth zero (suc (suc late)) other phase less a b =
    let same = same_Some first other a in
    let rest = ended_earlier object lawful kind number (next ∷ later)
    (stage_past kind number stage first) course.2 truth.1 zero (suc late) next phase
    (omega arith) refl b in
    let grew = start_before_end object next rest.end lawful truth.1.0 rest.ended in
    record {
      end = course.1.0;
      ended = sym (ap (λ (p : Phase). p.end) same) ∙ course.1.1;
      before = (let e = course.1.2 in let r = rest.before in omega arith);
    }
ended_earlier object lawful kind number (first ∷ next ∷ later) stage course truth (suc early) (suc late) other phase less a b =
    ended_earlier object lawful kind number (next ∷ later) (stage_past kind number stage first) course.2
    truth.1 early late other phase (omega arith) a b
ended_earlier object lawful kind number _ stage course truth early _ other phase less a b = absurd (cc)

module _ (fragment : Code) (object : Object) (last : ℕ) (sound : IsSound fragment object last) where
  -- the tag that a phase of no write sends was shown before
  sent_shown : (index place : ℕ) (call : Call) (phase : Phase) (tag : Tag) → slice_get object.calls index ≡ Some call →
      slice_get call.phases place ≡ Some phase → kind_tag phase.kind ≡ Some tag → IsNoWrite call.kind → ShownBy object phase.start tag
  sent_shown index place call phase tag at within e plain =
      let c = sound.legal.calls index call at in
      let first = first_stage call.kind (source_of object index) in
      let shown : Tag → Type 0 = ShownBy object phase.start in
      let there = known_at shown (inl refl) call.kind call.id call.phases first plain c.course place phase within
      (λ before other less w.
      let ended = ended_earlier object sound.legal.layouts call.kind
      call.id call.phases first c.course c.phases before place other phase
      less w within in
      phase_shows object other ended.end phase.start (all_get (IsTruePhase object) call.phases before other c.phases w) ended.ended
      (let b = ended.before in omega arith))
      (known_first shown call.kind (source_of object index)) in
      known_tag shown there.0 tag there.2 (due_tag there.0 phase.kind phase.position tag there.1 e)

  -- a tag that a phase asks for which began before is that of a write that was called before
  asked : (fuel position came step : ℕ) (tag : Tag) (kind : Kind) → kind_tag kind ≡ Some tag → came ≤ step → step ≤ suc fuel →
      HasBegun object kind position came →
      ((p i now : ℕ) → now ≤ fuel → HasFinalized (bank_at object p i) tag now → (tag ≡ opening_tag) ⊎ IsWrittenBefore object tag now) →
      (tag ≡ opening_tag) ⊎ IsWrittenBefore object tag step
  asked fuel position came step tag kind k before limit begun earlier = go begun.call.kind refl
    where
      sends : kind_tag begun.phase.kind ≡ Some tag
      sends = ap kind_tag begun.same_kind ∙ k

      shown : ShownBy object begun.phase.start tag → (tag ≡ opening_tag) ⊎ IsWrittenBefore object tag step
      shown (inl opening) = inl opening
      shown (inr (p, i, final)) = on (earlier p i begun.phase.start (let b = begun.before in omega arith) final)
        where
          on : (tag ≡ opening_tag) ⊎ IsWrittenBefore object tag begun.phase.start →
              (tag ≡ opening_tag) ⊎ IsWrittenBefore object tag step
          on (inl opening) = inl opening
          on (inr w) = inr (record {
            index = w.index;
            call = w.call;
            at = w.at;
            value = w.value;
            kind = w.kind;
            tagged = w.tagged;
            called = (let b = begun.before in let c = w.called in omega arith);
          })

      other : IsNoWrite begun.call.kind → (tag ≡ opening_tag) ⊎ IsWrittenBefore object tag step
      other plain = shown (sent_shown begun.index begun.place begun.call begun.phase tag begun.at begun.within sends plain)

      go : (c : CallKind) → begun.call.kind ≡ c → (tag ≡ opening_tag) ⊎ IsWrittenBefore object tag step
      go (Write value) is =
          let there = call_at_phase object sound.legal begun.index begun.call begun.at begun.place begun.phase begun.within in
          inr (record {
            index = begun.index;
            call = begun.call;
            at = begun.at;
            value = value;
            kind = is;
            tagged = sent_by_write fragment object last sound begun.index begun.place begun.call begun.phase tag begun.at begun.within
                sends value is;
            called = (let s = there.since in let t = there.before in let b = begun.before in omega arith);
          })
      go Read is = other (λ value w. let clash : Read ≡ Write value = sym is ∙ w in cc)
      go Move is = other (λ value w. let clash : Move ≡ Write value = sym is ∙ w in cc)

  -- and so is one that was finalized by a step
  pub written : (fuel position member : ℕ) (tag : Tag) (step : ℕ) → step ≤ fuel →
      HasFinalized (bank_at object position member) tag step → (tag ≡ opening_tag) ⊎ IsWrittenBefore object tag step
  written zero position member tag step h final = go ((sound.legal.banks position member).finalized tag came.0 came.1)
    where
      came : (c : ℕ) × (finalized_at (bank_at object position member) tag ≡ Some c) × (c ≤ step)
      came = came_at (finalized_at (bank_at object position member) tag) step final

      go : (tag ≡ opening_tag) ⊎ (HasBegun object (Finalize tag) position came.0 ⊎ HasBegun object (Fetch tag) position came.0) →
          (tag ≡ opening_tag) ⊎ IsWrittenBefore object tag step
      go (inl opening) = inl opening
      go (inr (inl begun)) = absurd (let b = begun.before in let c = came.2 in omega arith)
      go (inr (inr begun)) = absurd (let b = begun.before in let c = came.2 in omega arith)
  written (suc fuel) position member tag step h final =
      by_cause ((sound.legal.banks position member).finalized tag came.0 came.1) (λ p i now less f. written fuel p i tag now less f)
    where
      came : (c : ℕ) × (finalized_at (bank_at object position member) tag ≡ Some c) × (c ≤ step)
      came = came_at (finalized_at (bank_at object position member) tag) step final

      by_cause : (tag ≡ opening_tag) ⊎ (HasBegun object (Finalize tag) position came.0 ⊎ HasBegun object (Fetch tag) position came.0) →
          ((p i now : ℕ) → now ≤ fuel → HasFinalized (bank_at object p i) tag now → (tag ≡ opening_tag) ⊎ IsWrittenBefore object tag now) →
          (tag ≡ opening_tag) ⊎ IsWrittenBefore object tag step
      by_cause (inl opening) earlier = inl opening
      by_cause (inr (inl begun)) earlier = asked fuel position came.0 step tag (Finalize tag) refl came.2 h begun earlier
      by_cause (inr (inr begun)) earlier = asked fuel position came.0 step tag (Fetch tag) refl came.2 h begun earlier
