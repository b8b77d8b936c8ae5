-- The pieces of a call begin the phase that is due, or go out again.
use Rattle.std.proofs.Common.{◌≡◌, ℕ, pred, ◌⊎◌, Bool, true, false, cond, is_some, List, ◌++◌, length, get_or}
use Rattle.std.proofs.Common.{Option, Some, None, sym, ap, subst, ◌∙◌, inl, inr, refl}
use Rattle.std.proofs.lemmas.Option.{same_Some}
use Rattle.tag.specs.declared.tag.Tag.{Tag}
use Rattle.bank.specs.declared.kind.Kind.{Kind}
use Rattle.bank.specs.declared.kind.Kind.TheVariants.{Next, PreWrite}
use Rattle.mail.specs.Mail.{mail_cause}
use Rattle.encoder.specs.Coded.{Coding}
use Rattle.encoder.specs.Fragment.{fragment}
use Rattle.layout.specs.Layout.{Layout}
use Rattle.mail.specs.Phase.{Phase}
use Rattle.record.specs.PhaseOrder.{due}
use Rattle.record.specs.Legal.{due_of}
use Rattle.record.specs.Preconditions.{WantsPieces, AwaitsPieces}
use Rattle.record.specs.Records.{Object, layout_at}
use Rattle.record.specs.Steps.{Step, stepped}
use Rattle.record.specs.Sending.{sent_pieces}
use Rattle.record.specs.Wants.{current_phase}
use Rattle.record.specs.declared.stage.Want.TheVariants as want
use Rattle.soundness.proofs.Sound.WantPreconditionLemmas.{waiting_of, supply_ready}
use Rattle.register.specs.Causes.{supply_cause, new_phase_cause, is_replied, if_step}
use Rattle.call.specs.Pieces.{piece_from, HavePieces}
use Rattle.register.specs.Coding.{pieces_position}
use Rattle.register.specs.State.{Contents, made, state_of}
use Rattle.register.specs.Tracked.{Tracked, asked_again}
use Rattle.register.proofs.BeginPhaseLemmas.{IsBeginning}
use Rattle.register.proofs.ChangedCallLemmas.{with_due, with_due_is}
use Rattle.register.proofs.FirstReadingLemmas.{begun_due}
use Rattle.register.proofs.FoundCallLemmas.{IsFound, at, same, place, due_kept}
use Rattle.register.proofs.AskAgainLemmas.{IsAsking, phase_members, phase_call}
use Rattle.register.proofs.SentPieceLemmas.{IsSending, sending_of, takes}
use Rattle.register.proofs.SuppliedPieceLemmas.{IsSupplied, members_are, pieces_are, room_is, step_is}

-- a call has replies of a quorum where its current phase is there, and has ended
ended_phase : (o : Option Phase) → is_replied o ≡ true → (phase : Phase) × (o ≡ Some phase) × (is_some phase.end ≡ true)
ended_phase None e = absurd (cc)
ended_phase (Some phase) e = (phase, refl, e)

-- what sends pieces is no first phase of a reading
not_first : (tag : Tag) (position p : ℕ) → ◌≡◌ {A = Option (Kind × ℕ)} (Some (PreWrite tag, position)) (Some (Next, p)) → ⊥
not_first tag position p e = let clash : PreWrite tag ≡ Next = ap kind_of e in absurd (cc)
  where
    kind_of : Option (Kind × ℕ) → Kind
    kind_of None = Next
    kind_of (Some asked) = asked.0

module _ {c : Contents} {number index : ℕ} {t : Tracked} {coded : Coding} {position : ℕ} {layout : Layout} {value : List ℕ}
    (s : IsSupplied c number index t coded position layout value) where
  abbrev object : Object
  object = (state_of c).object

  abbrev found : IsFound c number index t
  found = s.to.found

  -- it has replies of a quorum, and wants its pieces
  pub wants_pieces : is_replied (current_phase t.call.phases) ≡ true → WantsPieces object (pred number) t.call
  wants_pieces replied = go (takes s.to)
    where
      go : WantsPieces object (pred number) t.call ⊎ AwaitsPieces object (pred number) t.call → WantsPieces object (pred number) t.call
      go (inl wants) = wants
      go (inr awaits) =
          let open_end = (waiting_of object (pred number) t.call awaits.1.wants.1).unended awaits.0 awaits.1.current in
          let clash : true ≡ false = sym replied ∙ ap is_replied awaits.1.current ∙ ap is_some open_end in
          absurd (cc)

  -- so the phase that is due, by the stage that is kept, is that of the record
  pub same_due : WantsPieces object (pred number) t.call → due t.stage ≡ due_of object (pred number) t.call
  same_due wants =
      let sends = (supply_ready object (pred number) t.call wants.0 wants.1 wants.2.1).1 in
      begun_due t.stage c.base (λ p e. not_first sends.tag sends.position p (sym sends.is_due ∙ sym (due_kept found) ∙ e)) ∙ due_kept found

  -- and there is one
  some_due : is_replied (current_phase t.call.phases) ≡ true → due t.stage ≡ None → ⊥
  some_due replied none =
      let wants = wants_pieces replied in
      let sends = (supply_ready object (pred number) t.call wants.0 wants.1 wants.2.1).1 in
      absurd (let clash : Some (PreWrite sends.tag, sends.position) ≡ None = sym sends.is_due ∙ sym (same_due wants) ∙ none in cc)

  -- the phase that is due begins
  module _ (replied : is_replied (current_phase t.call.phases) ≡ true) {kind : Kind} {target : ℕ}
      (due_is : due t.stage ≡ Some (kind, target)) where
    abbrev wanted : WantsPieces object (pred number) t.call
    wanted = wants_pieces replied

    target_is : target ≡ position
    target_is = same_Some target position
        (ap (λ next. pieces_position (want.Supply wanted.0 wanted.1) next (current_phase t.call.phases))
        (sym due_is ∙ same_due wanted)
        ∙ ap (λ w. pieces_position w (due_of object (pred number) t.call) (current_phase t.call.phases)) (sym wanted.2.1)
        ∙ s.to.due)

    begun_is : (now : ℕ) → made (Step.Supply (pred number)) now (state_of c)
        ≡ state_of (with_due c index t kind target layout now (piece_from (Some coded)))
    begun_is now =
        let ended = ended_phase (current_phase t.call.phases) replied in
        let begins = with_due_is c index t kind target layout now (sent_pieces fragment object t.call target)
        (ap (layout_at object) target_is ∙ s.placed) (found.kept.numbered index t.call (at found)) in
        cc (step_is s now ended.0 ended.1 true ended.2, place found, same_due wanted, due_is, begins, target_is, pieces_are s)

    pub begins : IsBeginning c number index t (Step.Supply (pred number)) (λ now. supply_cause now object number coded)
        (Some coded) kind target layout
    begins = record {
      found = found;
      may = record { call = t.call; takes = takes s.to };
      makes = begun_is;
      causes = λ now. room_is s now ∙ ap (λ r. cond r (new_phase_cause (Step.Supply (pred number)) now object t.call)
          (if_step now (mail_cause (stepped fragment (Step.Supply (pred number)) now object).mail))) replied;
    }

  -- it lacks a quorum of replies, and asks again
  module _ (lacks : is_replied (current_phase t.call.phases) ≡ false) where
    awaited : AwaitsPieces object (pred number) t.call
    awaited = go (takes s.to)
      where
        go : WantsPieces object (pred number) t.call ⊎ AwaitsPieces object (pred number) t.call → AwaitsPieces object (pred number) t.call
        go (inl wants) =
            let ready = (supply_ready object (pred number) t.call wants.0 wants.1 wants.2.1).0 in
            let clash : false ≡ true = sym lacks ∙ ap is_replied ready.current ∙ ap is_some ready.ended in
            absurd (cc)
        go (inr awaits) = awaits

    -- its current phase sends the pieces
    current : IsSending (current_phase t.call.phases) position
    current = sending_of (current_phase t.call.phases) position
        (ap (λ w. pieces_position w (due_of object (pred number) t.call) (current_phase t.call.phases)) (sym awaited.1.wants.1)
        ∙ s.to.due)

    phase_layout : layout_at object current.phase.position ≡ layout
    phase_layout = ap (layout_at object) current.same ∙ s.placed

    members_of_phase : length layout.members ≡ current.phase.members
    members_of_phase = ap (λ (l : Layout). length l.members) (sym phase_layout) ∙ phase_members found current.is

    again_is : (now : ℕ) → made (Step.Supply (pred number)) now (state_of c)
        ≡ state_of (record c {
          mail = c.mail ++ asked_again number current.phase layout.members c.mail (piece_from (Some coded));
          last = now;
        })
    again_is now =
        let p = current.phase in
        let step = step_is s now p current.is false (ap is_replied (sym current.is) ∙ lacks) in
        cc (step, phase_call found current.is, phase_layout, current.same, pieces_are s)

    pub asks : IsAsking c number index t (Step.Supply (pred number)) (λ now. supply_cause now object number coded) (Some coded)
    asks = record {
      found = found;
      may = record { call = t.call; takes = takes s.to };
      phase = current.phase;
      current = current.is;
      servers = layout.members;
      members = members_of_phase;
      sends = subst (λ (k : Kind). HavePieces k current.phase.members (Some coded)) (sym current.kind.1) (members_are s ∙ members_of_phase);
      makes = again_is;
      causes = λ now. room_is s now ∙ ap (λ r. cond r (new_phase_cause (Step.Supply (pred number)) now object t.call)
          (if_step now (mail_cause (stepped fragment (Step.Supply (pred number)) now object).mail))) lacks;
    }

  -- what was read of the call, at its second reading
  module _ {next : Option (Kind × ℕ)} {old : Tracked}
      (told : next ≡ cond (is_replied (current_phase t.call.phases)) (due t.stage) None) (read : old ≡ get_or c.calls index old) where
    pub beginning : {kind : Kind} {target : ℕ} → next ≡ Some (kind, target)
        → IsBeginning c number index old (Step.Supply (pred number)) (λ now. supply_cause now object number coded)
        (Some coded) kind target layout
    beginning {kind = kind} {target = target} is =
        subst (λ (u : Tracked). IsBeginning c number index u (Step.Supply (pred number)) (λ now. supply_cause now object number coded)
        (Some coded) kind target layout)
        (same found read) (go (is_replied (current_phase t.call.phases)) refl (sym told ∙ is))
      where
        go : (b : Bool) → is_replied (current_phase t.call.phases) ≡ b → cond b (due t.stage) None ≡ Some (kind, target)
            → IsBeginning c number index t (Step.Supply (pred number)) (λ now. supply_cause now object number coded)
            (Some coded) kind target layout
        go true replied e = begins replied e
        go false lacks e = absurd (cc)

    pub asking : next ≡ None → IsAsking c number index old (Step.Supply (pred number)) (λ now. supply_cause now object number coded)
        (Some coded)
    asking none =
        subst (λ (u : Tracked). IsAsking c number index u (Step.Supply (pred number)) (λ now. supply_cause now object number coded)
        (Some coded))
        (same found read) (go (is_replied (current_phase t.call.phases)) refl (sym told ∙ none))
      where
        go : (b : Bool) → is_replied (current_phase t.call.phases) ≡ b → cond b (due t.stage) None ≡ None
            → IsAsking c number index t (Step.Supply (pred number)) (λ now. supply_cause now object number coded) (Some coded)
        go true replied e = absurd (some_due replied e)
        go false lacks e = asks lacks
