-- The ids that a node gives for what it does for its clients.
use Rattle.std.specs.Prelude.{◌≡◌, ◌+◌, ℕ, Bool, true, false, if◌then◌else◌, List, [], ◌∷◌, Some}
use Rattle.client_commands.specs.declared.answer.Answer.{Answer}
use Rattle.client_commands.specs.declared.answer.Answer.TheVariants as answers
use Rattle.client_commands.specs.declared.answer.AnswerError.TheVariants as errors
use Rattle.deeds.specs.CallId.{CallIds}
use Rattle.node_clients.specs.Services.{Service}
use Rattle.node_keeper.specs.NextIds.{after_next_id, next_id_of}

-- whether an answer says that an object refused a call
abbrev pub is_refusal : Answer → Bool
is_refusal (answers.Error (errors.Refused why)) = true
is_refusal answer = false

-- if an object refused the call, the next id was used up for it, and otherwise none
abbrev pub UsesIdIf : (refused : Bool) → (before after : CallIds) → Type 0
UsesIdIf true before after = (id : ℕ) × (next_id_of before ≡ Some id) × (after ≡ after_next_id before)
UsesIdIf false before after = after ≡ before

-- which id a service uses: a call that begins gets the next one, a call that its object refuses uses the next one up,
-- and no other service uses one
abbrev pub UsesIds : (before : CallIds) → Service → (after : CallIds) → Type 0
UsesIds before (Service.Begins client command id) after =
    (next_id_of before ≡ Some id) × (after ≡ after_next_id before)
UsesIds before (Service.Replies client command answer) after = UsesIdIf (is_refusal answer) before after
UsesIds before service after = after ≡ before

-- these services use ids, one after another
abbrev pub UseIds : (before : CallIds) → List Service → (after : CallIds) → Type 0
UseIds before [] after = after ≡ before
UseIds before (service ∷ services) after =
    (now : CallIds) × UsesIds before service now × UseIds now services after

-- how many ids a service uses
abbrev pub used_by : Service → ℕ
used_by (Service.Begins client command id) = 1
used_by (Service.Replies client command answer) = if is_refusal answer then 1 else 0
used_by service = 0

-- how many ids these services use: one for each call that begins, and one for each that its object refuses
abbrev pub ids_used : List Service → ℕ
ids_used [] = 0
ids_used (service ∷ services) = used_by service + ids_used services
