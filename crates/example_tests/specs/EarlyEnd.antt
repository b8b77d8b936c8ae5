-- The contracts that docs/trusted.md lists do not depend on this file; other contracts and proofs do.
-- A write that is answered once a quorum held its tag, which a move loses. Any two of the three members are a quorum.
use Rattle.std.specs.Prelude.{◌≡◌, ℕ, List, [], ◌∷◌, Some, None}
use Rattle.std.specs.List.{AllByRecursion}
use Rattle.layout.specs.Layout.{Layout}
use Rattle.layout.specs.Quorum.{IsQuorum}
use Rattle.mail.specs.Phase.{Phase}
use Rattle.record.specs.declared.call.CallKind.TheVariants.{Write}
use Rattle.record.specs.declared.call.Entry.{Entry}
use Rattle.record.specs.declared.call.Operation.TheVariants as operation
use Rattle.record.specs.declared.stage.Stage.{Stage}
use Rattle.record.specs.Journals.{stage_tag}
use Rattle.record.specs.Records.{Call, Object, layout_at, bank_at}
use Rattle.record.specs.Steps.{Step, opened_object}
use Rattle.record.specs.Steps.Step.{CallRead, CallWrite, CallMove, Advance, Supply, Settle, AnswerCall}
use Rattle.record.specs.Steps.Step.{Serve, Take, Lose}
use Rattle.tag.specs.declared.tag.Tag.{Tag}
use Rattle.early_ends.specs.Held.{HasHeld}
use Rattle.early_ends.specs.Told.{HasPhase, Told, last_of}
use Rattle.example_tests.specs.RecordExamples.{other_member}

-- a layout whose members are the servers 0, 1 and 2
abbrev pub three_members : Layout
three_members = record { k = 1; members = 0 ∷ 1 ∷ 2 ∷ [] }

-- member 0 finalizes the write's tag (step 23), a move spreads its pointer to the members 0 and 2 and queries 1 and 2,
-- member 1 finalizes the tag (step 37), and the move takes the opening tag along; so a read misses the write
abbrev pub losing_script : List Step
losing_script =
    CallWrite 1 (65 ∷ []) ∷ Lose 2 ∷ Serve 0 ∷ Take 0 ∷ Serve 0 ∷ Take 0
    ∷ Advance 0 ∷ Lose 2 ∷ Serve 0 ∷ Take 0 ∷ Serve 0 ∷ Take 0
    ∷ Supply 0 ∷ Lose 2 ∷ Serve 0 ∷ Take 0 ∷ Serve 0 ∷ Take 0
    ∷ Advance 0 ∷ Lose 2 ∷ Serve 0 ∷ Take 0
    ∷ CallMove 2 other_member ∷ Lose 2 ∷ Serve 1 ∷ Take 1 ∷ Serve 1 ∷ Take 1
    ∷ Advance 1 ∷ Lose 1 ∷ Serve 1 ∷ Take 1 ∷ Serve 1 ∷ Take 1
    ∷ Serve 0 ∷ Take 0
    ∷ Advance 1 ∷ Lose 2 ∷ Serve 0 ∷ Take 0 ∷ Serve 0 ∷ Take 0 ∷ Settle 1 []
    ∷ Supply 1 ∷ Serve 0 ∷ Take 0 ∷ Advance 1 ∷ Serve 0 ∷ Take 0
    ∷ Advance 1 ∷ Lose 2 ∷ Serve 0 ∷ Take 0 ∷ Serve 0 ∷ Take 0 ∷ AnswerCall 1
    ∷ CallRead 3 ∷ Lose 2 ∷ Serve 0 ∷ Take 0 ∷ Serve 0 ∷ Take 0
    ∷ Advance 2 ∷ Lose 2 ∷ Serve 0 ∷ Take 0 ∷ Serve 0 ∷ Take 0
    ∷ Advance 2 ∷ Serve 0 ∷ Take 0 ∷ Advance 2 ∷ Serve 0 ∷ Take 0 ∷ Advance 2 ∷ Serve 0 ∷ Take 0 ∷ Settle 2 []
    ∷ Advance 2 ∷ Serve 0 ∷ Take 0 ∷ AnswerCall 2 ∷ []

-- the object as it was opened
abbrev pub three_opened : Object
three_opened = opened_object three_members None 2

-- the tag of the write
abbrev pub lost_tag : Tag
lost_tag = record { number = 1; call = 1 }

-- the answer of the write, at the step at which it has the replies of the members 0 and 1 to its last phase
abbrev pub early_answer : Told
early_answer = record { index = 0; step = 38; value = None }

-- the entries of the write, with this answer, of the move, and of the read, which was called after that answer
abbrev pub lost_entries : List Entry
lost_entries =
    record { call = 1; kind = operation.Write; called = 3; answered = Some 38; value = Some (65 ∷ []) }
    ∷ record { call = 2; kind = operation.Move; called = 25; answered = Some 58; value = None }
    ∷ record { call = 3; kind = operation.Read; called = 59; answered = Some 84; value = Some [] }
    ∷ []

-- the answer is one that `IsHeldCall` would allow to a write, if it asked for a quorum in place of more than n - k
pub record IsHeldByQuorum (object : Object) (told : Told) (tag : Tag) : Type 0 where
  pub call : Call
  pub value : List ℕ
  pub writes : call.kind ≡ Write value
  pub stage : Stage
  pub phase : Phase
  pub made : HasPhase object told.index call stage phase
  pub last : ℕ
  pub has_last : last_of stage ≡ Some last
  pub tagged : stage_tag stage ≡ Some tag
  pub members : List ℕ
  pub quorum : IsQuorum (layout_at object last) members
  pub each : AllByRecursion (λ member. HasHeld (bank_at object last member) tag phase.start told.step) members
