-- The contracts that docs/trusted.md lists do not depend on this file; other contracts and proofs do.
-- Worked examples, step by step. The layouts have one member, and the code keeps whole values.
use Rattle.std.specs.Prelude.{◌≡◌, List, [], ◌∷◌, Some, None}
use Rattle.layout.specs.Layout.{Layout}
use Rattle.record.specs.declared.call.Entry.{Entry}
use Rattle.record.specs.declared.call.Operation.TheVariants as operation
use Rattle.record.specs.Fragments.{Code}
use Rattle.record.specs.Steps.{Step}
use Rattle.record.specs.Steps.Step.{CallRead, CallWrite, CallMove, Advance, Again, Supply, Settle, AnswerCall}
use Rattle.record.specs.Steps.Step.{Serve, Take, Retire}
use Rattle.tag.specs.Tag.{opening_tag}
use Rattle.mail.specs.Phase.{Phase}
use Rattle.record.specs.Records.{Call, Object}
use Rattle.atomicity.specs.Lacking.{AreOverlapping, AreNoMore, IsLackingFetch}

-- a code by which each fragment is the whole value
abbrev pub whole : Code
whole value k point = value

-- a layout whose only member is server 0
abbrev pub one_member : Layout
one_member = record { k = 1; members = 0 ∷ [] }

-- a layout whose only member is server 1
abbrev pub other_member : Layout
other_member = record { k = 1; members = 1 ∷ [] }

-- a write of the byte 65 and then a read, each of whose messages is served and taken at once
abbrev pub script : List Step
script =
    CallWrite 1 (65 ∷ []) ∷ Serve 0 ∷ Take 0 ∷ Advance 0 ∷ Serve 0 ∷ Take 0
    ∷ Supply 0 ∷ Serve 0 ∷ Take 0 ∷ Advance 0 ∷ Serve 0 ∷ Take 0
    ∷ Advance 0 ∷ Serve 0 ∷ Take 0 ∷ AnswerCall 0
    ∷ CallRead 2 ∷ Serve 0 ∷ Take 0 ∷ Advance 1 ∷ Serve 0 ∷ Take 0 ∷ Advance 1 ∷ Serve 0 ∷ Take 0
    ∷ Settle 1 (65 ∷ []) ∷ Advance 1 ∷ Serve 0 ∷ Take 0 ∷ AnswerCall 1 ∷ []

-- the entries of both calls: the write has the steps 3 to 18, and the read has 19 to 32
abbrev pub script_entries : List Entry
script_entries =
    record { call = 1; kind = operation.Write; called = 3; answered = Some 18; value = Some (65 ∷ []) }
    ∷ record { call = 2; kind = operation.Read; called = 19; answered = Some 32; value = Some (65 ∷ []) }
    ∷ []

-- a write, a move to the other server, and a read that follows the pointer
abbrev pub move_script : List Step
move_script =
    CallWrite 1 (65 ∷ []) ∷ Serve 0 ∷ Take 0 ∷ Advance 0 ∷ Serve 0 ∷ Take 0
    ∷ Supply 0 ∷ Serve 0 ∷ Take 0 ∷ Advance 0 ∷ Serve 0 ∷ Take 0
    ∷ Advance 0 ∷ Serve 0 ∷ Take 0 ∷ AnswerCall 0
    ∷ CallMove 2 other_member ∷ Serve 0 ∷ Take 0 ∷ Advance 1 ∷ Serve 0 ∷ Take 0
    ∷ Advance 1 ∷ Serve 0 ∷ Take 0 ∷ Settle 1 (65 ∷ [])
    ∷ Supply 1 ∷ Serve 0 ∷ Take 0 ∷ Advance 1 ∷ Serve 0 ∷ Take 0
    ∷ Advance 1 ∷ Serve 0 ∷ Take 0 ∷ AnswerCall 1
    ∷ CallRead 3 ∷ Serve 0 ∷ Take 0 ∷ Advance 2 ∷ Serve 0 ∷ Take 0
    ∷ Advance 2 ∷ Serve 0 ∷ Take 0 ∷ Advance 2 ∷ Serve 0 ∷ Take 0
    ∷ Advance 2 ∷ Serve 0 ∷ Take 0 ∷ Settle 2 (65 ∷ [])
    ∷ Advance 2 ∷ Serve 0 ∷ Take 0 ∷ AnswerCall 2 ∷ []

-- the entries of the write, the move and the read
abbrev pub move_entries : List Entry
move_entries =
    record { call = 1; kind = operation.Write; called = 3; answered = Some 18; value = Some (65 ∷ []) }
    ∷ record { call = 2; kind = operation.Move; called = 19; answered = Some 38; value = None }
    ∷ record { call = 3; kind = operation.Read; called = 39; answered = Some 58; value = Some (65 ∷ []) }
    ∷ []

-- a write and a move to the other server; then the first position is retired, and a read begins at the second
abbrev pub retire_script : List Step
retire_script =
    CallWrite 1 (65 ∷ []) ∷ Serve 0 ∷ Take 0 ∷ Advance 0 ∷ Serve 0 ∷ Take 0
    ∷ Supply 0 ∷ Serve 0 ∷ Take 0 ∷ Advance 0 ∷ Serve 0 ∷ Take 0
    ∷ Advance 0 ∷ Serve 0 ∷ Take 0 ∷ AnswerCall 0
    ∷ CallMove 2 other_member ∷ Serve 0 ∷ Take 0 ∷ Advance 1 ∷ Serve 0 ∷ Take 0
    ∷ Advance 1 ∷ Serve 0 ∷ Take 0 ∷ Settle 1 (65 ∷ [])
    ∷ Supply 1 ∷ Serve 0 ∷ Take 0 ∷ Advance 1 ∷ Serve 0 ∷ Take 0
    ∷ Advance 1 ∷ Serve 0 ∷ Take 0 ∷ AnswerCall 1 ∷ Retire
    ∷ CallRead 3 ∷ Serve 0 ∷ Take 0 ∷ Advance 2 ∷ Serve 0 ∷ Take 0 ∷ Advance 2 ∷ Serve 0 ∷ Take 0
    ∷ Settle 2 (65 ∷ []) ∷ Advance 2 ∷ Serve 0 ∷ Take 0 ∷ AnswerCall 2 ∷ []

-- the entries of the three calls: step 39, after the move and before the read, retires the first position
abbrev pub retire_entries : List Entry
retire_entries =
    record { call = 1; kind = operation.Write; called = 3; answered = Some 18; value = Some (65 ∷ []) }
    ∷ record { call = 2; kind = operation.Move; called = 19; answered = Some 38; value = None }
    ∷ record { call = 3; kind = operation.Read; called = 40; answered = Some 53; value = Some (65 ∷ []) }
    ∷ []

-- the entries of a write, and of a read that was called after the write was answered and missed its value
abbrev pub stale_entries : List Entry
stale_entries =
    record { call = 1; kind = operation.Write; called = 3; answered = Some 18; value = Some (65 ∷ []) }
    ∷ record { call = 2; kind = operation.Read; called = 19; answered = Some 32; value = Some [] } ∷ []

-- a read finds the opening tag, a write of byte 65 is answered, and then the read's fetch lacks pieces, as delta is 0;
-- the read has the id 5, and the write the id 2
abbrev pub lacking_script : List Step
lacking_script =
    CallRead 5 ∷ Serve 0 ∷ Take 0 ∷ Advance 0 ∷ Serve 0 ∷ Take 0
    ∷ CallWrite 2 (65 ∷ []) ∷ Serve 0 ∷ Take 0 ∷ Advance 1 ∷ Serve 0 ∷ Take 0
    ∷ Supply 1 ∷ Serve 0 ∷ Take 0 ∷ Advance 1 ∷ Serve 0 ∷ Take 0
    ∷ Advance 1 ∷ Serve 0 ∷ Take 0 ∷ AnswerCall 1
    ∷ Advance 0 ∷ Serve 0 ∷ Take 0 ∷ []

-- the read restarts, and finds the value of the write
abbrev pub anew_script : List Step
anew_script =
    Again 0 ∷ Serve 0 ∷ Take 0 ∷ Advance 0 ∷ Serve 0 ∷ Take 0 ∷ Advance 0 ∷ Serve 0 ∷ Take 0
    ∷ Settle 0 (65 ∷ []) ∷ Advance 0 ∷ Serve 0 ∷ Take 0 ∷ AnswerCall 0 ∷ []

-- the entries of both calls: the read has the steps 3 to 41, and the write has 9 to 24
abbrev pub anew_entries : List Entry
anew_entries =
    record { call = 5; kind = operation.Read; called = 3; answered = Some 41; value = Some (65 ∷ []) }
    ∷ record { call = 2; kind = operation.Write; called = 9; answered = Some 24; value = Some (65 ∷ []) }
    ∷ []

-- the read's fetch, complete at step 27, lacks pieces, and exactly delta + 1 = 1 write overlaps the read
pub record IsMetExactly (object : Object) : Type 0 where
  pub collects : object.delta ≡ Some 0
  pub call : Call
  pub phase : Phase
  pub lacking : IsLackingFetch object 0 2 call phase opening_tag 27
  pub overlapping : AreOverlapping object opening_tag 3 27 1
  pub no_more : AreNoMore object opening_tag 3 27 1
