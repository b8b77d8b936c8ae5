use Rattle.std.proofs.Common.{◌≡◌, ℕ, suc, ◌+◌, ◌<◌, ◌≤◌, nat_le, Bool, length, inl, refl, sym, ◌∙◌, arith}
use Rattle.record.specs.declared.call.CallKind.TheVariants.{Read}
use Rattle.std.proofs.lemmas.Option.{slice_get_read}
use Rattle.tag.specs.declared.limits.TheConstants.{MOST_CALLS, MOST_MESSAGES, MOST_STEPS}
use Rattle.mail.specs.Mail.{mail_cause}
use Rattle.record.specs.Records.{layout_at}
use Rattle.register.specs.State.{Contents, state_of}
use Rattle.register.proofs.ChangedCallLemmas.{layout_is, sound_room}
use Rattle.register.proofs.FoundCallLemmas.{later}
use Rattle.register.proofs.RoomLemmas.{few_room, many_full}
use Rattle.register.proofs.StepInvariantLemmas.{base_within, contents_of}
use Rattle.register.proofs.NewReadOrWriteLemmas.{called_sound, reading_cause, reading_mail, reading_past, many_calls, reading_cause_is}
use Rattle.register.proofs.NewReadOrWriteLemmas.{reading_room}
use Rattle.register.proofs.register.Register.may_call.Goals as goal
use Rattle.register.proofs.register.Register.may_call.Goals.{After-n}

-- the layout that was read is that of the base, so the room for messages to its members decides
module _ (c : After-n) where
  abbrev held : Contents
  held = contents_of c.self.inside

  abbrev number : ℕ
  number = suc (length held.calls)

  same : layout_at (state_of held).object held.base ≡ c.layout.result.now
  same = layout_is held.delta held.positions held.mail held.calls held.base c.index.result.now
      (slice_get_read held.positions (length held.positions) held.base c.index.result.now refl
      (base_within held c.self.invariant) c.index.ensures)
      ∙ sym c.layout.ensures

  by_mail : c.args.now ≤ MOST_STEPS → length held.calls < MOST_CALLS
      → reading_cause (state_of held).object Read c.args.now ≡ mail_cause (reading_mail held number c.layout.result.now)
  by_mail = reading_cause_is held Read c.args.now number c.layout.result.now c.self.invariant.based same refl

  by_room : {count : ℕ} {room : Bool} → count ≡ c.n.result → room ≡ nat_le (length held.mail + count) MOST_MESSAGES
      → nat_le (length (reading_mail held number c.layout.result.now)) MOST_MESSAGES ≡ room
  by_room {count = count} {room = room} is fits =
      reading_room held number c.layout.result.now count room (is ∙ c.n.ensures.value) fits

pub index-requires : goal.index-requires
index-requires c = let within = base_within _ c.self.invariant in omega (arith, within)

pub returns-then-now-gt-MOST_STEPS : goal.returns-then-now-gt-MOST_STEPS
returns-then-now-gt-MOST_STEPS c = record { cause = reading_past c.args.self.now.object Read c.args.now c.if-now-gt-MOST_STEPS.true }

pub returns-then-len-ge-MOST_CALLS : goal.returns-then-len-ge-MOST_CALLS
returns-then-len-ge-MOST_CALLS c = record {
  cause = rw (← c.self.view_is) (many_calls (contents_of c.self.inside) Read c.args.now c.if-now-gt-MOST_STEPS.false
      (omega (arith, c.len.ensures, c.if-len-ge-MOST_CALLS.true)));
}

pub returns-then-not-has_room : goal.returns-then-not-has_room
returns-then-not-has_room c =
    let n = (goal.at.returns-then-not-has_room c).After-n in
    let calls : length c.self.inside.calls.items < MOST_CALLS = omega (arith, c.len.ensures, c.if-len-ge-MOST_CALLS.false) in
    let many = by_room n c.from-members.ensures c.has_room.ensures ∙ c.if-not-has_room.true in
    record { cause = rw (← c.self.view_is) (by_mail n c.if-now-gt-MOST_STEPS.false calls ∙ many_full _ many) }

pub returns : goal.returns
returns c =
    let n = (goal.at.returns c).After-n in
    let calls : length c.self.inside.calls.items < MOST_CALLS = omega (arith, c.len.ensures, c.if-len-ge-MOST_CALLS.false) in
    let few = by_room n c.from-members.ensures c.has_room.ensures ∙ c.if-not-has_room.false in
    let sound = called_sound (held n) Read c.args.now (number n) c.layout.result.now c.self.invariant (inl refl) (same n) refl
    (later (held n) c.self.view_is c.requires.after) in
    record { cause = rw (← c.self.view_is) (by_mail n c.if-now-gt-MOST_STEPS.false calls ∙ few_room _ (sound_room _ c.args.now sound) few) }
