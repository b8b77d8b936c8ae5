-- A move begins, by what was read.
use Rattle.std.proofs.Common.{◌≡◌, ◌-◌, ◌+◌, ◌<◌, ◌++◌, ◌∷◌, ℕ, suc, length, get_or, List, [], None, sym, subst, ap, ◌∙◌}
use Rattle.std.proofs.Common.{arith}
use Rattle.layout.specs.Layout.{Layout, IsLawful}
use Rattle.bank.specs.Bank.{empty_piece}
use Rattle.bank.specs.declared.kind.Kind.TheVariants.{Spread}
use Rattle.bank.specs.declared.status.Status.TheVariants.{Pending}
use Rattle.mail.specs.declared.message.Message.{Message}
use Rattle.mail.specs.Mail.{mail_cause}
use Rattle.record.specs.declared.call.CallKind.TheVariants.{Move}
use Rattle.record.specs.declared.stage.Stage.{Stage}
use Rattle.record.specs.Legal.{first_stage}
use Rattle.record.specs.Steps.{new_call, moving_object}
use Rattle.record.specs.Sending.{requests}
use Rattle.register.specs.Causes.{move_cause}
use Rattle.register.specs.Kept.{HasRoomIfFew, IsKept}
use Rattle.register.specs.Position.{Position}
use Rattle.register.specs.State.{Contents, State, next_id, state_of}
use Rattle.register.specs.Tracked.{Tracked, with_begun}
use Rattle.register.proofs.BeginRefusalLemmas.{moved_cause_is, moving_fits, MayMove, may_move}
use Rattle.register.proofs.FoundCallLemmas.{later}
use Rattle.register.proofs.LastPositionLemmas.{IsLast, last_of}
use Rattle.register.proofs.NewMoveLemmas.{fresh_move, moved_parts, with_moving, next_position, with_moving_is, moved_is, moved_kept}

-- what is read of a register where a move begins: its last position, the call's number, and the call
pub record IsMoved (c : Contents) (now number from : ℕ) (source : Layout) (call : Tracked) : Type 0 where
  pub kept : IsKept c
  pub last : IsLast c from source
  pub numbered : number ≡ suc (length c.calls)
  pub is_fresh : call ≡ fresh_move number from now

pub moved : {c : Contents} (now : ℕ) {all count : ℕ} {positions : List Position} {here : Position} {source : Layout} {stage : Stage}
    {call : Tracked}
    → IsKept c → all ≡ length c.positions → positions ≡ c.positions → here ≡ get_or positions (all - 1) here → source ≡ here.layout
    → count ≡ length c.calls → stage ≡ first_stage Move (all - 1) → call ≡ record { call = new_call (count + 1) Move now; stage = stage }
    → IsMoved c now (count + 1) (all - 1) source call
moved {c = c} now {all = all} {count = count} {here = here} {source = source} kept all_is same read is_layout counted staged
    made_is = record {
      kept = kept;
      last = last_of c all here source kept all_is (subst (λ (ps : List Position). here ≡ get_or ps (all - 1) here) same read) is_layout;
      numbered = omega (arith, counted);
      is_fresh = made_is ∙ ap (λ (s : Stage). record { call = new_call (count + 1) Move now; stage = s }) staged;
    }

module _ {c : Contents} {now number from : ℕ} {source : Layout} {call : Tracked} (b : IsMoved c now number from source call) where
  abbrev asked : Tracked → List Message
  asked u = c.mail ++ requests number (suc (length u.call.phases)) (Spread Pending) from source.members 0 empty_piece

  pub moved_may : {s : State} (layout : Layout) → state_of c ≡ s → move_cause layout now s.object ≡ None → MayMove c now
  moved_may layout view free =
      may_move c now layout b.kept (subst (λ (s : State). move_cause layout now s.object ≡ None) (sym view) free)

  pub moved_room : MayMove c now → {s : State} → state_of c ≡ s → s.last < now → HasRoomIfFew (asked call)
  moved_room may view after =
      subst (λ (u : Tracked). HasRoomIfFew (asked u)) (sym b.is_fresh)
      (moving_fits c now number from source b.kept may.none b.last b.numbered (later c view after))

  pub moved_cause : (layout : Layout) → MayMove c now → move_cause layout now (state_of c).object
      ≡ mail_cause (asked call)
  moved_cause layout may =
      moved_cause_is c now number from source layout b.kept may.none b.last b.numbered may.call.within may.few_positions may.call.few
      ∙ ap (λ (u : Tracked). mail_cause (asked u)) (sym b.is_fresh)

  -- what the positions, the mail and the calls are made
  module _ {layout : Layout} {next : Position} {held positions : List Position} {mail : List Message} {reserved pushed : List Tracked}
      {new : Tracked}
      (next_is : next ≡ next_position layout c.delta now) (held_is : held ≡ c.positions) (positions_is : positions ≡ held ++ next ∷ [])
      (mail_is : mail ≡ asked call) (new_is : new ≡ with_begun call number (Spread Pending) from source now)
      (reserved_is : reserved ≡ c.calls) (pushed_is : pushed ≡ reserved ++ new ∷ []) where
    abbrev made_of : Contents
    made_of = moved_parts c now positions mail pushed

    same : made_of ≡ with_moving c number from source layout now
    same =
        with_moving_is c number from source layout now next new positions mail pushed next_is
        (new_is ∙ ap (λ (u : Tracked). with_begun u number (Spread Pending) from source now) b.is_fresh)
        (positions_is ∙ ap (λ ps. ps ++ next ∷ []) held_is) (mail_is ∙ ap asked b.is_fresh)
        (pushed_is ∙ ap (λ cs. cs ++ new ∷ []) reserved_is)

    pub move_kept : MayMove c now → IsLawful next.layout → {s : State} → state_of c ≡ s → s.last < now → IsKept made_of
    move_kept may lawful view after =
        subst IsKept (sym same)
        (moved_kept c now number from source layout b.kept b.last b.numbered (later c view after)
        (subst (λ (p : Position). IsLawful p.layout) next_is lawful) may.none may.few_positions may.call.few)

    pub move_step : state_of made_of
        ≡ record { object = moving_object (state_of c).object (next_id (state_of c).object) layout now; last = now }
    move_step = cc (same, moved_is c now number from source layout b.last b.numbered)
