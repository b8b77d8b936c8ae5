-- The contracts that docs/trusted.md lists do not depend on this file; other contracts and proofs do.
-- A call whose first reading stands for its query too, since members told their greatest finalized tags with replies.
use Rattle.std.specs.Prelude.{ℕ, suc, List, map, Some}
use Rattle.tag.specs.declared.tag.Tag.{Tag}
use Rattle.tag.specs.Tag.{opening_tag}
use Rattle.layout.specs.Layout.{Layout}
use Rattle.bank.specs.declared.kind.Kind.TheVariants.{Query}
use Rattle.bank.specs.declared.reply.Answer.TheVariants as answer
use Rattle.mail.specs.declared.phase.Taken.{Taken}
use Rattle.mail.specs.Phase.{Phase}
use Rattle.record.specs.declared.stage.Stage.{Stage}
use Rattle.record.specs.declared.stage.Stage.TheVariants.{QueryFrom}
use Rattle.record.specs.Steps.{new_phase}
use Rattle.open_calls.specs.OpenCalls.{NodeCall}

-- the greatest finalized tag that a member told
pub record ToldTag : Type 0 where
  pub member : ℕ
  pub tag : Tag

-- the members that told these tags
abbrev pub telling_members : List ToldTag → List ℕ
telling_members told = map (λ one. one.member) told

-- the member's reply to a query that says the same, as a phase takes it
abbrev pub taken_tag : ToldTag → Taken
taken_tag told =
    record { member = told.member; reply = record { step = 0; answer = answer.Greatest told.tag }; step = 0 }

-- the stage at which a call queries this position, and no later one
abbrev pub query_stage : (position : ℕ) → Stage
query_stage position = QueryFrom position position opening_tag position

-- the query that follows the current phase of a call at the same position, which has this layout, after it took the
-- replies that say what was told
abbrev pub queried_phase : NodeCall → Layout → List ToldTag → Phase
queried_phase call layout told =
    record (new_phase call.id (suc call.phase.number) Query call.phase.position layout 0) {
      replies = map taken_tag told;
      end = Some 0;
    }

-- the call after that query
abbrev pub queried : NodeCall → Layout → List ToldTag → NodeCall
queried call layout told =
    record call { stage = query_stage call.phase.position; phase = queried_phase call layout told }
