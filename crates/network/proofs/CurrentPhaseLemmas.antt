-- What the current phase of an open call says: the stage that it leads to, and what the record's call wants.
use Rattle.std.proofs.Common.{◌≡◌, ℕ, suc, ◌+◌, Bool, true, cond, nat_lt, is_some, List, [], ◌∷◌, ◌++◌, map, arith}
use Rattle.std.proofs.Common.{Option, Some, None, IsSome, refl, sym, ap, ◌∙◌, get_or}
use Rattle.std.proofs.lemmas.List.Sums.{sum_by-cons}
use Rattle.tag.specs.Tag.{later_tag}
use Rattle.bank.specs.declared.kind.Kind.{Kind}
use Rattle.bank.specs.Bank.{Bank}
use Rattle.mail.specs.declared.phase.Taken.{Taken}
use Rattle.mail.specs.Phase.{Phase, has_piece, lacks_pieces, pieces_in}
use Rattle.record.specs.declared.call.CallKind.{CallKind}
use Rattle.record.specs.declared.stage.Stage.{Stage}
use Rattle.record.specs.Fragments.{IsFetch}
use Rattle.record.specs.Legal.{due_of, stage_of}
use Rattle.record.specs.PhaseOrder.{after, greatest_status}
use Rattle.record.specs.PhaseOrder.{greatest_tag, later_status, passed, shown_status, shown_tag, stage_after, stage_past}
use Rattle.record.specs.Records.{Object, base_of, no_bank, retired_first, retired_at}
use Rattle.record.specs.Wants.{current_phase, is_fetch, want_after, want_of}
use Rattle.network.specs.Unstamped.{unstamped, unstamped_phase, unstamped_taken}
use Rattle.open_calls.specs.OpenCalls.{NodeCall, due_phase, stage_reached}
use Rattle.network.specs.Following.{IsOpenIn}

-- Without stamps

pieces-bare : (replies : List Taken) → pieces_in (map unstamped_taken replies) ≡ pieces_in replies
pieces-bare [] = refl
pieces-bare (t ∷ ts) =
    let counts = λ (x : Taken). cond (has_piece x.reply.answer) 1 0 in
    sum_by-cons counts (unstamped_taken t) (map unstamped_taken ts)
    ∙ ap (λ n. cond (has_piece t.reply.answer) 1 0 + n) (pieces-bare ts) ∙ sym (sum_by-cons counts t ts)

pub lacks-bare : (p : Phase) → lacks_pieces (unstamped_phase p) ≡ lacks_pieces p
lacks-bare p = ap (λ n. nat_lt n p.needed) (pieces-bare p.replies)

status-bare : (replies : List Taken) → greatest_status (map unstamped_taken replies) ≡ greatest_status replies
status-bare [] = refl
status-bare (t ∷ ts) = ap (later_status (shown_status t.reply.answer)) (status-bare ts)

tag-bare : (replies : List Taken) → greatest_tag (map unstamped_taken replies) ≡ greatest_tag replies
tag-bare [] = refl
tag-bare (t ∷ ts) = ap (later_tag (shown_tag t.reply.answer)) (tag-bare ts)

after-bare : (kind : CallKind) (number : ℕ) (stage : Stage) (replies : List Taken) (lacks : Bool) →
    after kind number stage (map unstamped_taken replies) lacks ≡ after kind number stage replies lacks
after-bare kind number stage replies lacks = grind (arith, status-bare, tag-bare)

passed-bare : (kind : CallKind) (number : ℕ) (stage : Stage) (end : Option ℕ) (replies : List Taken) (lacks : Bool) →
    passed kind number stage (unstamped end) (map unstamped_taken replies) lacks ≡ passed kind number stage end replies lacks
passed-bare kind number stage None replies lacks = refl
passed-bare kind number stage (Some step) replies lacks = after-bare kind number stage replies lacks

-- The last of several phases

stage_last : (kind : CallKind) (number : ℕ) (stage : Stage) (earlier : List Phase) (last : Phase) →
    stage_after kind number stage (earlier ++ last ∷ []) ≡ stage_past kind number (stage_after kind number stage earlier) last
stage_last kind number stage [] last = refl
stage_last kind number stage (p ∷ earlier) last = stage_last kind number (stage_past kind number stage p) earlier last

current_last : (earlier : List Phase) (last : Phase) → current_phase (earlier ++ last ∷ []) ≡ Some last
current_last (p ∷ q ∷ later) last = current_last (q ∷ later) last
current_last _ last = refl

-- with no retired position the base is 0
pub base_zero : (object : Object) → retired_at object 0 ≡ None → base_of object ≡ 0
base_zero object kept = go object.banks kept
  where
    go : (banks : List (List Bank)) → (get_or (get_or banks 0 []) 0 no_bank).retired ≡ None → retired_first banks ≡ 0
    go [] e = refl
    go (first ∷ later) e = ap (λ (o : Option ℕ). cond (is_some o) (suc (retired_first later)) 0) e

module _ (object : Object) (carried : NodeCall) (is : IsOpenIn object carried) where
  -- the stage that the current phase leads to is that of the record's call
  pub reached_is : stage_reached carried ≡ stage_of object is.index is.call
  reached_is = grind (arith, lacks-bare, passed-bare, stage_last)

  -- and so the phase that is due is the same
  pub next_is : retired_at object 0 ≡ None → due_phase carried ≡ due_of object is.index is.call
  next_is kept = grind (arith, base_zero, reached_is)

  pub current_is : current_phase is.call.phases ≡ Some is.last
  current_is = ap current_phase is.phases ∙ current_last is.earlier is.last

  pub want_is : want_of object is.index is.call ≡ want_after object (due_of object is.index is.call) is.call.settled (Some is.last)
  want_is = grind (arith, current_is)

  pub ended_is : IsSome carried.phase.end → IsSome is.last.end
  ended_is some = grind arith

  pub kind_is : carried.phase.kind ≡ is.last.kind
  kind_is = ap (λ (p : Phase). p.kind) is.phase

  pub lacks_is : lacks_pieces carried.phase ≡ lacks_pieces is.last
  lacks_is = ap lacks_pieces is.phase ∙ lacks-bare is.last

pub fetch_is : (kind : Kind) → IsFetch kind → is_fetch kind ≡ true
fetch_is kind fetch = ap is_fetch fetch.1
