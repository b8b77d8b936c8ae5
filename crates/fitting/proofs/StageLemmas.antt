-- The stage to which a phase leads is fit, and so is the kind of the phase that is due then.
use Rattle.std.proofs.Common.{◌≡◌, ℕ, suc, ◌+◌, ◌<◌, ◌^◌, ◌==◌, Bool, true, false, cond, List, [], ◌∷◌, Option, Some, None, subst, ltb-true}
use Rattle.std.specs.List.{AllByRecursion}
use Rattle.std.specs.Prelude.{IfSome}
use Rattle.std.proofs.lemmas.Bool.{and_parts}
use Rattle.bank.specs.declared.kind.Kind.{Kind}
use Rattle.bank.specs.declared.reply.Answer.{Answer}
use Rattle.bank.specs.declared.reply.Answer.TheVariants as answer
use Rattle.bank.specs.declared.status.Status.{Status}
use Rattle.bank.specs.declared.status.Status.TheVariants as status
use Rattle.call.specs.Call.{reached}
use Rattle.call.specs.Limits.{can_reach, has_next_tag, is_below_limit, is_within_limits}
use Rattle.local_object.specs.Taking.{machine_of}
use Rattle.mail.specs.Phase.{lacks_pieces}
use Rattle.mail.specs.declared.phase.Taken.{Taken}
use Rattle.node_messages.specs.Message.{IsAnswer, IsKind, IsTag}
use Rattle.open_calls.specs.OpenCalls.{NodeCall, due_phase, stage_reached}
use Rattle.record.specs.PhaseOrder.{after, after_again, after_fetch, after_next, after_query, after_spread, begun_at, due, greatest_status}
use Rattle.record.specs.PhaseOrder.{greatest_tag, passed, shown_tag, tagged}
use Rattle.record.specs.declared.call.CallKind.{CallKind}
use Rattle.record.specs.declared.call.CallKind.TheVariants as calls
use Rattle.record.specs.declared.stage.Stage.{Stage}
use Rattle.record.specs.declared.stage.Stage.TheVariants as stage
use Rattle.tag.specs.Tag.{later_tag, tag_lt}
use Rattle.tag.specs.declared.tag.Tag.{Tag}
use Rattle.fitting.specs.Calls.{IsFitStage, IsFitTaken}
use Rattle.fitting.proofs.BankLemmas.{later_fit, opening_fit}

-- The phase that is due

pub due_fit : (s : Stage) → IsFitStage s → IfSome (due s) (λ (asked : Kind × ℕ). IsKind asked.0)
due_fit stage.ReadBegin fit = tt
due_fit (stage.ReadNext position finalized) fit = tt
due_fit (stage.ReadSpread position finalized said) fit = tt
due_fit (stage.QueryFrom position last greatest shown_at) fit = tt
due_fit (stage.FetchAt shown_at last tag) fit = fit
due_fit (stage.PreWriteAt last tag) fit = fit
due_fit (stage.FinalizeAt last tag) fit = fit
due_fit (stage.AgainNext last position tag) fit = tt
due_fit (stage.AgainSpread last position tag said) fit = tt
due_fit (stage.MoveSpread position) fit = tt
due_fit (stage.MoveQuery position) fit = tt
due_fit (stage.MoveFetch position tag) fit = fit
due_fit (stage.MovePreWrite position tag) fit = fit
due_fit (stage.MoveFinalize position tag) fit = fit
due_fit (stage.MoveFinal position tag) fit = tt
due_fit (stage.Ended last tag) fit = tt
due_fit (stage.Moved position tag) fit = tt

pub begun_stage : (s : Stage) (position : ℕ) → IsFitStage s → IsFitStage (begun_at s position)
begun_stage stage.ReadBegin q fit = tt
begun_stage (stage.ReadNext position finalized) q fit = fit
begun_stage (stage.ReadSpread position finalized said) q fit = fit
begun_stage (stage.QueryFrom position last greatest shown_at) q fit = fit
begun_stage (stage.FetchAt shown_at last tag) q fit = fit
begun_stage (stage.PreWriteAt last tag) q fit = fit
begun_stage (stage.FinalizeAt last tag) q fit = fit
begun_stage (stage.AgainNext last position tag) q fit = fit
begun_stage (stage.AgainSpread last position tag said) q fit = fit
begun_stage (stage.MoveSpread position) q fit = fit
begun_stage (stage.MoveQuery position) q fit = fit
begun_stage (stage.MoveFetch position tag) q fit = fit
begun_stage (stage.MovePreWrite position tag) q fit = fit
begun_stage (stage.MoveFinalize position tag) q fit = fit
begun_stage (stage.MoveFinal position tag) q fit = fit
begun_stage (stage.Ended last tag) q fit = fit
begun_stage (stage.Moved position tag) q fit = fit

-- What replies show

shown_fit : (made : Answer) → IsAnswer made → IsTag (shown_tag made)
shown_fit answer.Done fit = opening_fit
shown_fit (answer.Pointer said) fit = opening_fit
shown_fit (answer.Greatest tag) fit = fit
shown_fit (answer.Piece piece) fit = opening_fit

greatest_shown : (replies : List Taken) → AllByRecursion IsFitTaken replies → IsTag (greatest_tag replies)
greatest_shown [] fit = opening_fit
greatest_shown (taken ∷ replies) fit =
    later_fit (shown_tag taken.reply.answer) (greatest_tag replies) (shown_fit taken.reply.answer fit.0) (greatest_shown replies fit.1)

-- The stage after a phase

next_stage : (s : Status) (position finalized : ℕ) → IsFitStage (after_next s position finalized)
next_stage status.Unset position finalized = opening_fit
next_stage status.Pending position finalized = tt
next_stage status.Final position finalized = tt

spread_stage : (s : Status) (position finalized : ℕ) → IsFitStage (after_spread s position finalized)
spread_stage status.Unset position finalized = tt
spread_stage status.Pending position finalized = tt
spread_stage status.Final position finalized = tt

again_stage : (s : Status) (last position : ℕ) (tag : Tag) → IsTag tag → IsFitStage (after_again s last position tag)
again_stage status.Unset last position tag fit = go (position == last)
  where
    go : (b : Bool) → IsFitStage (cond b (stage.Ended last tag) (stage.PreWriteAt position tag))
    go true = fit
    go false = fit
again_stage status.Pending last position tag fit = fit
again_stage status.Final last position tag fit = fit

fetch_stage : (shown_at last : ℕ) (tag : Tag) → IsTag tag → IsFitStage (after_fetch shown_at last tag)
fetch_stage shown_at last tag fit = go (shown_at == last)
  where
    go : (b : Bool) → IsFitStage (cond b (stage.AgainNext last last tag) (stage.PreWriteAt last tag))
    go true = fit
    go false = fit

module _ (kind : CallKind) (id : ℕ) (small : id < 2 ^ 64) (replies : List Taken) (fits : AllByRecursion IsFitTaken replies) where
  query_stage : (position last : ℕ) (greatest : Tag) (shown_at : ℕ) → IsTag greatest →
      has_next_tag kind (stage.QueryFrom position last greatest shown_at) replies ≡ true →
      IsFitStage (after_query kind id (greatest_tag replies) position last greatest shown_at)
  query_stage position last greatest shown_at fit room =
      go (position == last) (cond (tag_lt (greatest_tag replies) greatest) shown_at position)
    where
      later : Tag
      later = later_tag greatest (greatest_tag replies)

      later_is : IsTag later
      later_is = later_fit greatest (greatest_tag replies) fit (greatest_shown replies fits)

      end : (of : CallKind) (place : ℕ) → has_next_tag of (stage.QueryFrom position last greatest shown_at) replies ≡ true →
          IsFitStage (tagged of id place last later)
      end calls.Read place room = later_is
      end (calls.Write value) place room = (ltb-true (later.number + 1) (2 ^ 64) room, small)
      end calls.Move place room = later_is

      go : (b : Bool) (place : ℕ) →
          IsFitStage (cond b (tagged kind id place last later) (stage.QueryFrom (suc position) last later place))
      go true place = end kind place room
      go false place = later_is

  lacking_stage : (lacks : Bool) (s other : Stage) → IsFitStage s → IsFitStage other → IsFitStage (cond lacks s other)
  lacking_stage true s other one two = one
  lacking_stage false s other one two = two

  after_stage : (s : Stage) (lacks : Bool) → has_next_tag kind s replies ≡ true → IsFitStage s →
      IsFitStage (after kind id s replies lacks)
  after_stage stage.ReadBegin lacks room fit = tt
  after_stage (stage.ReadNext position finalized) lacks room fit = next_stage (greatest_status replies) position finalized
  after_stage (stage.ReadSpread position finalized said) lacks room fit = spread_stage said position finalized
  after_stage (stage.QueryFrom position last greatest shown_at) lacks room fit = query_stage position last greatest shown_at fit room
  after_stage (stage.FetchAt shown_at last tag) lacks room fit =
      lacking_stage lacks stage.ReadBegin (after_fetch shown_at last tag) tt (fetch_stage shown_at last tag fit)
  after_stage (stage.PreWriteAt last tag) lacks room fit = fit
  after_stage (stage.FinalizeAt last tag) lacks room fit = fit
  after_stage (stage.AgainNext last position tag) lacks room fit = again_stage (greatest_status replies) last position tag fit
  after_stage (stage.AgainSpread last position tag said) lacks room fit = fit
  after_stage (stage.MoveSpread position) lacks room fit = tt
  after_stage (stage.MoveQuery position) lacks room fit = greatest_shown replies fits
  after_stage (stage.MoveFetch position tag) lacks room fit =
      lacking_stage lacks (stage.MoveQuery position) (stage.MovePreWrite position tag) tt fit
  after_stage (stage.MovePreWrite position tag) lacks room fit = fit
  after_stage (stage.MoveFinalize position tag) lacks room fit = fit
  after_stage (stage.MoveFinal position tag) lacks room fit = fit
  after_stage (stage.Ended last tag) lacks room fit = fit
  after_stage (stage.Moved position tag) lacks room fit = fit

  passed_stage : (s : Stage) (end : Option ℕ) (lacks : Bool) → has_next_tag kind s replies ≡ true → IsFitStage s →
      IsFitStage (passed kind id s end replies lacks)
  passed_stage s None lacks room fit = fit
  passed_stage s (Some end) lacks room fit = after_stage s lacks room fit

-- the stage that a call has reached, if its numbers have successors
pub reached_fit : (call : NodeCall) → call.id < 2 ^ 64 → is_within_limits (machine_of call) ≡ true → IsFitStage call.stage →
    AllByRecursion IsFitTaken call.phase.replies → IsFitStage (stage_reached call)
reached_fit call small within fit replies =
    let can = and_parts (can_reach (machine_of call)) (is_below_limit (due (reached (machine_of call)))) within in
    let tags = and_parts (is_below_limit (due call.stage)) (has_next_tag call.kind call.stage call.phase.replies) can.0 in
    passed_stage call.kind call.id small call.phase.replies replies call.stage call.phase.end (lacks_pieces call.phase) tags.1 fit

-- the kind of the phase that is due
pub due_kind : (call : NodeCall) → IsFitStage (stage_reached call) → (k : Kind) (position : ℕ) → due_phase call ≡ Some (k, position) →
    IsKind k
due_kind call fit k position e =
    let is : IfSome (due_phase call) (λ (asked : Kind × ℕ). IsKind asked.0) =
    due_fit (begun_at (stage_reached call) 0) (begun_stage (stage_reached call) 0 fit) in
    subst (λ (o : Option (Kind × ℕ)). IfSome o (λ (asked : Kind × ℕ). IsKind asked.0)) e is
