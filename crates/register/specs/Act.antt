-- The contracts that docs/trusted.md lists do not depend on this file; other contracts and proofs do.
-- A step that a caller asks for, as one value: which step it is, why it is refused, and what it returns.
use Rattle.std.specs.Prelude.{ℕ, suc, pred, Bool, true, false, length, Option, Some, option_map, Result}
use Rattle.tag.specs.Refusal.{IsByCause, IsExactlyByCause}
use Rattle.tag.specs.declared.refusal.Refusal.{Refusal}
use Rattle.layout.specs.Layout.{IsLawful}
use Rattle.decoder.specs.Decoded.{IsDecoded}
use Rattle.record.specs.Fragments.{AreBytes}
use Rattle.record.specs.Records.{Object}
use Rattle.record.specs.Steps.{Step}
use Rattle.register.specs.declared.act.Act.{Act}
use Rattle.register.specs.declared.act.Act.TheVariants as act
use Rattle.register.specs.declared.act.Answered.{Answered}
use Rattle.register.specs.declared.act.Answered.TheVariants as answered
use Rattle.register.specs.Causes.{read_cause, write_cause, move_cause, advance_cause, again_cause}
use Rattle.register.specs.Causes.{supply_cause, post_cause, settle_cause, answer_cause}
use Rattle.register.specs.Causes.{serve_cause, take_cause, lose_cause, repeat_cause}
use Rattle.register.specs.View.{receipt_at, took_at}

-- the step of the record that an act makes; a call that begins gets this id
abbrev pub step_of : (id : ℕ) → Act → Step
step_of id act.CallRead = Step.CallRead id
step_of id (act.CallWrite value) = Step.CallWrite id value
step_of id (act.CallMove layout) = Step.CallMove id layout
step_of id (act.Advance call) = Step.Advance (pred call)
step_of id (act.Again call) = Step.Again (pred call)
step_of id (act.Supply call coded) = Step.Supply (pred call)
step_of id (act.Post call) = Step.Post (pred call)
step_of id (act.Settle call decoded) = Step.Settle (pred call) decoded.value
step_of id (act.Answer call) = Step.AnswerCall (pred call)
step_of id (act.Serve place) = Step.Serve place
step_of id (act.Take place) = Step.Take place
step_of id (act.Lose place) = Step.Lose place
step_of id (act.Repeat place) = Step.Repeat place

-- the values of an act are as their types make them: the value of a write consists of bytes, the layout of a move is
-- lawful, and the value of a settle was decoded
abbrev pub HasLawfulValues : Act → Type 0
HasLawfulValues (act.CallWrite value) = AreBytes value
HasLawfulValues (act.CallMove layout) = IsLawful layout
HasLawfulValues (act.Settle call decoded) = IsDecoded decoded
HasLawfulValues _ = Unit {0}

-- the cause of refusal of an act, if there is one
abbrev pub act_cause : Act → (now : ℕ) → Object → Option Refusal
act_cause act.CallRead now object = read_cause now object
act_cause (act.CallWrite value) now object = write_cause value now object
act_cause (act.CallMove layout) now object = move_cause layout now object
act_cause (act.Advance call) now object = advance_cause now object call
act_cause (act.Again call) now object = again_cause now object call
act_cause (act.Supply call coded) now object = supply_cause now object call coded
act_cause (act.Post call) now object = post_cause now object call
act_cause (act.Settle call decoded) now object = settle_cause now object call decoded
act_cause (act.Answer call) now object = answer_cause now object call
act_cause (act.Serve place) now object = serve_cause now object place
act_cause (act.Take place) now object = take_cause now object place
act_cause (act.Lose place) now object = lose_cause now object place
act_cause (act.Repeat place) now object = repeat_cause now object place

-- whether an act may allocate memory, and so be refused as NoMemory
abbrev pub takes_memory : Act → Bool
takes_memory (act.Settle call decoded) = false
takes_memory (act.Take place) = false
takes_memory (act.Lose place) = false
takes_memory _ = true

-- the result follows from its cause of refusal, where `memory` says whether NoMemory is possible too
abbrev pub IsCausedBy : {T : Type 0} → (memory : Bool) → Option Refusal → Result T Refusal → Type 0
IsCausedBy true cause answer = IsByCause cause answer
IsCausedBy false cause answer = IsExactlyByCause cause answer

-- the result of an act follows from its cause of refusal
abbrev pub IsActCause : {T : Type 0} → Act → Option Refusal → Result T Refusal → Type 0
IsActCause act cause answer = IsCausedBy (takes_memory act) cause answer

-- what an act returns if it is not refused, for the object at this place
abbrev pub answered_by : Act → (place now : ℕ) → Object → Option Answered
answered_by act.CallRead place now object = Some (answered.Call (suc (length object.calls)))
answered_by (act.CallWrite value) place now object = Some (answered.Call (suc (length object.calls)))
answered_by (act.CallMove layout) place now object = Some (answered.Call (suc (length object.calls)))
answered_by (act.Answer call) place now object = option_map answered.Receipt (receipt_at object place call now)
answered_by (act.Take message) place now object = Some (answered.Took (took_at object message))
answered_by _ place now object = Some answered.Nothing
