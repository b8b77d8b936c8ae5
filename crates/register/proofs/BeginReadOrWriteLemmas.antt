-- A call that reads the sequence of layouts begins, by what was read.
use Rattle.std.proofs.Common.{◌≡◌, ◌+◌, ◌<◌, ◌++◌, ◌∷◌, ℕ, suc, length, get_or, List, [], None, refl, sym, subst}
use Rattle.std.proofs.Common.{subst₂, ap, ◌∙◌, arith}
use Rattle.std.proofs.lemmas.Option.{slice_get_read}
use Rattle.layout.specs.Layout.{Layout}
use Rattle.bank.specs.Bank.{empty_piece}
use Rattle.bank.specs.declared.kind.Kind.TheVariants.{Next}
use Rattle.mail.specs.declared.message.Message.{Message}
use Rattle.mail.specs.Mail.{mail_cause}
use Rattle.record.specs.declared.call.CallKind.{CallKind}
use Rattle.record.specs.declared.stage.Stage.{Stage}
use Rattle.record.specs.Legal.{first_stage}
use Rattle.record.specs.Records.{layout_at}
use Rattle.record.specs.Steps.{Step, new_call, called_object}
use Rattle.record.specs.Sending.{requests}
use Rattle.register.specs.Causes.{read_cause}
use Rattle.register.specs.Kept.{HasRoomIfFew, IsKept}
use Rattle.register.specs.Position.{Position}
use Rattle.register.specs.State.{Contents, State, next_id, state_of}
use Rattle.register.specs.Tracked.{Tracked, with_begun}
use Rattle.register.proofs.BeginRefusalLemmas.{MayCall, may_call}
use Rattle.register.proofs.ChangedCallLemmas.{layout_is, sound_room}
use Rattle.register.proofs.FoundCallLemmas.{later}
use Rattle.register.proofs.NewReadOrWriteLemmas.{IsReading, fresh, reading, called_is, called_sound, called_kept, reading_first}
use Rattle.register.proofs.NewReadOrWriteLemmas.{reading_cause, reading_mail, reading_cause_is}
use Rattle.register.proofs.StepInvariantLemmas.{base_within}

-- what is read of a register where such a call begins: the layout of the base, the call's number, and the call
pub record IsBegun (c : Contents) (kind : CallKind) (now number : ℕ) (layout : Layout) (call : Tracked) : Type 0 where
  pub kept : IsKept c
  pub reads : IsReading kind
  pub placed : layout_at (state_of c).object c.base ≡ layout
  pub numbered : number ≡ suc (length c.calls)
  pub is_fresh : call ≡ fresh number kind now

pub begun : {c : Contents} (kind : CallKind) (now : ℕ) {count : ℕ} {here : Position} {layout : Layout} {stage : Stage} {call : Tracked}
    → IsKept c → IsReading kind → here ≡ get_or c.positions c.base here → layout ≡ here.layout → count ≡ length c.calls
    → stage ≡ first_stage kind 0 → call ≡ record { call = new_call (count + 1) kind now; stage = stage }
    → IsBegun c kind now (count + 1) layout call
begun {c = c} kind now {count = count} {here = here} kept reads read is_layout counted staged made_is = record {
  kept = kept;
  reads = reads;
  placed =
      layout_is c.delta c.positions c.mail c.calls c.base here
      (slice_get_read c.positions (length c.positions) c.base here refl (base_within c kept) read) ∙ sym is_layout;
  numbered = omega (arith, counted);
  is_fresh =
      made_is ∙ ap (λ (s : Stage). record { call = new_call (count + 1) kind now; stage = s }) (staged ∙ sym (reading_first kind 0 reads));
}

module _ {c : Contents} {kind : CallKind} {now number : ℕ} {layout : Layout} {call : Tracked}
    (b : IsBegun c kind now number layout call) where
  abbrev asked : Tracked → List Message
  asked u = c.mail ++ requests number (suc (length u.call.phases)) Next c.base layout.members 0 empty_piece

  pub begun_may : {s : State} → state_of c ≡ s → read_cause now s.object ≡ None → MayCall c now
  begun_may view free =
      may_call c (Step.CallRead (next_id (state_of c).object)) now
      (subst (λ (s : State). read_cause now s.object ≡ None) (sym view) free)

  pub begun_room : {s : State} → state_of c ≡ s → s.last < now → HasRoomIfFew (asked call)
  begun_room view after =
      subst (λ (u : Tracked). HasRoomIfFew (asked u)) (sym b.is_fresh)
      (sound_room _ now (called_sound c kind now number layout b.kept b.reads b.placed b.numbered (later c view after)))

  pub begun_cause : MayCall c now
      → reading_cause (state_of c).object kind now ≡ mail_cause (asked call)
  begun_cause may = cc (reading_cause_is c kind now number layout b.kept.based b.placed b.numbered may.within may.few, b.is_fresh)

  -- what the mail and the calls are made
  module _ {mail : List Message} {reserved pushed : List Tracked} {new : Tracked} (mail_is : mail ≡ asked call)
      (new_is : new ≡ with_begun call number Next c.base layout now) (reserved_is : reserved ≡ c.calls)
      (pushed_is : pushed ≡ reserved ++ new ∷ []) where
    mail_made : mail ≡ reading_mail c number layout
    mail_made = mail_is ∙ ap asked b.is_fresh

    calls_made : pushed ≡ c.calls ++ reading kind number c.base layout now ∷ []
    calls_made = cc (pushed_is, reserved_is, new_is, b.is_fresh)

    pub begun_kept : MayCall c now → {s : State} → state_of c ≡ s → s.last < now
        → IsKept (record c { mail = mail; calls = pushed; last = now })
    begun_kept may view after =
        subst₂ (λ ms cs. IsKept (record c { mail = ms; calls = cs; last = now })) (sym mail_made) (sym calls_made)
        (called_kept c kind now number layout b.kept b.reads b.placed b.numbered (later c view after) may.few)

    pub begun_step : state_of (record c { mail = mail; calls = pushed; last = now })
        ≡ record { object = called_object (state_of c).object (next_id (state_of c).object) kind now; last = now }
    begun_step = cc (mail_made, calls_made, called_is c kind now number layout b.kept.based b.placed b.numbered)
