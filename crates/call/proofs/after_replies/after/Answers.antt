use Rattle.std.proofs.Common.{◌≡◌, ℕ, Bool, List, refl, ◌∙◌}
use Rattle.tag.specs.declared.tag.Tag.{Tag}
use Rattle.bank.specs.declared.status.Status.{Status}
use Rattle.mail.specs.declared.phase.Taken.{Taken}
use Rattle.record.specs.declared.call.CallKind.{CallKind}
use Rattle.record.specs.declared.stage.Stage.{Stage}
use Rattle.record.specs.declared.stage.Stage.TheVariants.{ReadBegin, ReadNext, ReadSpread, QueryFrom, FetchAt, PreWriteAt, FinalizeAt}
use Rattle.record.specs.declared.stage.Stage.TheVariants.{AgainNext}
use Rattle.record.specs.declared.stage.Stage.TheVariants.{AgainSpread, MoveSpread, MoveQuery, MoveFetch, MovePreWrite, MoveFinalize}
use Rattle.record.specs.declared.stage.Stage.TheVariants.{MoveFinal, Ended, Moved}
use Rattle.record.specs.PhaseOrder.{after}
use Rattle.call.specs.Moves.{after_move}
use Rattle.call.proofs.after_replies.after.Goals as goal

-- a stage that is none of a read's or a write's, but its end
after_move_is : (kind : CallKind) (number : ℕ) (stage : Stage) (replies : List Taken) (lacks : Bool)
    → ((position finalized : ℕ) → stage ≡ ReadNext position finalized → ⊥)
    → ((position finalized : ℕ) (status : Status) → stage ≡ ReadSpread position finalized status → ⊥)
    → ((position last : ℕ) (tag : Tag) (shown_at : ℕ) → stage ≡ QueryFrom position last tag shown_at → ⊥)
    → ((shown_at last : ℕ) (tag : Tag) → stage ≡ FetchAt shown_at last tag → ⊥)
    → ((last : ℕ) (tag : Tag) → stage ≡ PreWriteAt last tag → ⊥)
    → ((last : ℕ) (tag : Tag) → stage ≡ FinalizeAt last tag → ⊥)
    → ((last position : ℕ) (tag : Tag) → stage ≡ AgainNext last position tag → ⊥)
    → ((last position : ℕ) (tag : Tag) (status : Status) → stage ≡ AgainSpread last position tag status → ⊥)
    → after_move stage replies lacks ≡ after kind number stage replies lacks
after_move_is kind number ReadBegin replies lacks _ _ _ _ _ _ _ _ = refl
after_move_is kind number (ReadNext position finalized) replies lacks n _ _ _ _ _ _ _ = absurd (n position finalized refl)
after_move_is kind number (ReadSpread position finalized status) replies lacks _ n _ _ _ _ _ _ = absurd (n position finalized status refl)
after_move_is kind number (QueryFrom position last tag shown_at) replies lacks _ _ n _ _ _ _ _ = absurd (n position last tag shown_at refl)
after_move_is kind number (FetchAt shown_at last tag) replies lacks _ _ _ n _ _ _ _ = absurd (n shown_at last tag refl)
after_move_is kind number (PreWriteAt last tag) replies lacks _ _ _ _ n _ _ _ = absurd (n last tag refl)
after_move_is kind number (FinalizeAt last tag) replies lacks _ _ _ _ _ n _ _ = absurd (n last tag refl)
after_move_is kind number (AgainNext last position tag) replies lacks _ _ _ _ _ _ n _ = absurd (n last position tag refl)
after_move_is kind number (AgainSpread last position tag status) replies lacks _ _ _ _ _ _ _ n = absurd (n last position tag status refl)
after_move_is kind number (MoveSpread position) replies lacks _ _ _ _ _ _ _ _ = refl
after_move_is kind number (MoveQuery position) replies lacks _ _ _ _ _ _ _ _ = refl
after_move_is kind number (MoveFetch position tag) replies lacks _ _ _ _ _ _ _ _ = refl
after_move_is kind number (MovePreWrite position tag) replies lacks _ _ _ _ _ _ _ _ = refl
after_move_is kind number (MoveFinalize position tag) replies lacks _ _ _ _ _ _ _ _ = refl
after_move_is kind number (MoveFinal position tag) replies lacks _ _ _ _ _ _ _ _ = refl
after_move_is kind number (Ended last tag) replies lacks _ _ _ _ _ _ _ _ = refl
after_move_is kind number (Moved position tag) replies lacks _ _ _ _ _ _ _ _ = refl

pub returns-in_default : goal.returns-in_default
returns-in_default c =
    let others = c.in_default in
    c.after_move.ensures
    ∙ after_move_is c.args.kind.now c.args.number c.args.stage c.args.replies.now c.args.lacks others.not-ReadNext others.not-ReadSpread
    others.not-QueryFrom
    others.not-FetchAt others.not-PreWriteAt others.not-FinalizeAt others.not-AgainNext others.not-AgainSpread
