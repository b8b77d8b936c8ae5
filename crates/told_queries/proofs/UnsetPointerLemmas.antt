-- A pointer that is unset after events was unset before them.
use Rattle.std.proofs.Common.{◌≡◌, ℕ, zero, suc, List, [], ◌∷◌, ◌++◌, get_or, set, Option, Some, None, refl, ap, ◌∙◌, sym}
use Rattle.std.proofs.Common.{arith}
use Rattle.bank.specs.Bank.{Bank}
use Rattle.bank.specs.Pointer.{raised, status_of}
use Rattle.bank.specs.Serve.{served_bank}
use Rattle.bank.specs.declared.request.Request.{Request}
use Rattle.bank.specs.declared.request.Request.TheVariants as request
use Rattle.bank.specs.declared.status.Pointer.{Pointer}
use Rattle.bank.specs.declared.status.Status.{Status}
use Rattle.bank.specs.declared.status.Status.TheVariants as status
use Rattle.bank.specs.declared.kind.Kind.{Kind}
use Rattle.mail.specs.declared.message.Body.{Body}
use Rattle.mail.specs.declared.message.Body.TheVariants as body
use Rattle.mail.specs.declared.message.Message.{Message}
use Rattle.record.specs.Fragments.{Code}
use Rattle.record.specs.Records.{no_bank}
use Rattle.open_calls.specs.OpenCalls.{NodeCall, due_phase, open_call, taking_open, with_open}
use Rattle.network.specs.Worlds.{World, member_bank}
use Rattle.network.specs.Events.{Event, MayHappen, advanced_world, answered_world, happens, on_open, served_world, world_after}
use Rattle.network.specs.Premises.{IsPremised, MayHappenInTurn}
use Rattle.starts.proofs.FinalPointerLemmas.{bank_in, ticked}

-- Banks

-- the pointer of the bank is unset
abbrev pub IsUnset : Bank → Type 0
IsUnset bank = status_of bank.pointer ≡ status.Unset

raised_unset : (p : Pointer) (s : Status) (now : ℕ) → status_of (raised p s now) ≡ status.Unset → status_of p ≡ status.Unset
raised_unset p s now unset = grind arith

served_unset : (bank : Bank) (asked : Request) (now : ℕ) → IsUnset (served_bank bank asked now) → IsUnset bank
served_unset bank request.Next now unset = unset
served_unset bank (request.Spread s) now unset = raised_unset bank.pointer s now unset
served_unset bank request.Query now unset = unset
served_unset bank (request.PreWrite tag piece) now unset = unset
served_unset bank (request.Finalize tag) now unset = unset
served_unset bank (request.Fetch tag) now unset = unset

-- a bank of a list, where one is exchanged for one that is unset only if the old one was
unset_set : (banks : List Bank) (place other : ℕ) (new : Bank) → (IsUnset new → IsUnset (get_or banks place no_bank)) →
    IsUnset (get_or (set banks place new) other no_bank) → IsUnset (get_or banks other no_bank)
unset_set [] place other new kept unset = unset
unset_set (bank ∷ banks) zero zero new kept unset = kept unset
unset_set (bank ∷ banks) zero (suc other) new kept unset = unset
unset_set (bank ∷ banks) (suc place) zero new kept unset = unset
unset_set (bank ∷ banks) (suc place) (suc other) new kept unset = unset_set banks place other new kept unset

-- the same of the banks of all positions
unset_set_in : (banks : List (List Bank)) (position member other member2 : ℕ) (new : Bank) →
    (IsUnset new → IsUnset (bank_in banks position member)) →
    IsUnset (bank_in (set banks position (set (get_or banks position []) member new)) other member2) →
    IsUnset (bank_in banks other member2)
unset_set_in [] position member other member2 new kept unset = unset
unset_set_in (first ∷ later) zero member zero member2 new kept unset = unset_set first member member2 new kept unset
unset_set_in (first ∷ later) zero member (suc other) member2 new kept unset = unset
unset_set_in (first ∷ later) (suc position) member zero member2 new kept unset = unset
unset_set_in (first ∷ later) (suc position) member (suc other) member2 new kept unset =
    unset_set_in later position member other member2 new kept unset

-- more positions change no bank; one that does not exist has an unset pointer
unset_more : (banks more : List (List Bank)) (position member : ℕ) → IsUnset (bank_in (banks ++ more) position member) →
    IsUnset (bank_in banks position member)
unset_more [] more position member unset = refl
unset_more (first ∷ later) more zero member unset = unset
unset_more (first ∷ later) more (suc position) member unset = unset_more later more position member unset

-- Worlds

-- the pointer of the bank is unset
abbrev pub HasUnset : World → (position member : ℕ) → Type 0
HasUnset world position member = IsUnset (member_bank world position member)

-- pointers that are unset in the new world were so in the world
abbrev pub WereUnset : World → (new : World) → Type 0
WereUnset world new = (position member : ℕ) → HasUnset new position member → HasUnset world position member

same_banks : (world new : World) → new.banks ≡ world.banks → WereUnset world new
same_banks world new banks position member unset = ap (λ b. status_of (bank_in b position member).pointer) (sym banks) ∙ unset

-- what changes only an open call and messages
unset_open : (world base : World) (o : Option NodeCall) (change : NodeCall → World) → WereUnset world base →
    ((call : NodeCall) → WereUnset world (change call)) → WereUnset world (on_open base o change)
unset_open world base None change none some = none
unset_open world base (Some call) change none some = some call

unset_served : (world : World) (message : Message) (b : Body) → WereUnset world (served_world (ticked world) message b)
unset_served world message (body.Reply kind made) position member unset = unset
unset_served world message (body.Request asked) position member unset =
    unset_set_in world.banks message.position message.member position member
    (served_bank (bank_in world.banks message.position message.member) asked 0)
    (served_unset (bank_in world.banks message.position message.member) asked 0) unset

unset_advanced : (fragment : Code) (world : World) (call : NodeCall) (o : Option (Kind × ℕ)) →
    WereUnset world (advanced_world fragment (ticked world) call o)
unset_advanced fragment world call None position member unset = unset
unset_advanced fragment world call (Some next) position member unset = unset

pub unset_one_before : (fragment : Code) (world : World) (event : Event) → MayHappen fragment world event →
    IsPremised world event → WereUnset world (happens fragment world event)
unset_one_before fragment world (Event.BeginRead node id) may premised = λ position member unset. unset
unset_one_before fragment world (Event.BeginWrite node id value) may premised = λ position member unset. unset
unset_one_before fragment world (Event.BeginMove node id layout) may premised =
    λ position member unset. unset_more world.banks _ position member unset
unset_one_before fragment world (Event.Advance id) may premised =
    unset_open world (ticked world) (open_call world.calls id)
    (λ call. advanced_world fragment (ticked world) call (due_phase call)) (λ position member unset. unset)
    (λ call. unset_advanced fragment world call (due_phase call))
unset_one_before fragment world (Event.Serve message) may premised = unset_served world message message.body
unset_one_before fragment world (Event.Take message) may premised =
    unset_open world (ticked world) (open_call world.calls message.call)
    (λ call. record (ticked world) { calls = with_open (taking_open message call) world.calls })
    (λ position member unset. unset) (λ call position member unset. unset)
unset_one_before fragment world (Event.Settle id value) may premised =
    unset_open world (ticked world) (open_call world.calls id)
    (λ call. record (ticked world) { calls = with_open (record call { settled = Some value }) world.calls })
    (λ position member unset. unset) (λ call position member unset. unset)
unset_one_before fragment world (Event.Answer id) may premised =
    unset_open world (ticked world) (open_call world.calls id) (λ call. answered_world (ticked world) call)
    (λ position member unset. unset) (λ call position member unset. unset)
unset_one_before fragment world (Event.GiveUp id) may premised = λ position member unset. unset
unset_one_before fragment world (Event.Restart node banks calls) may premised =
    same_banks world (happens fragment world (Event.Restart node banks calls)) premised.log.0

-- a pointer that is unset after events that may happen was unset before them
pub unset_before : (fragment : Code) (world : World) (events : List Event) → MayHappenInTurn fragment events world →
    WereUnset world (world_after fragment events world)
unset_before fragment world [] may position member unset = unset
unset_before fragment world (event ∷ events) may position member unset =
    unset_one_before fragment world event may.0 may.1 position member
    (unset_before fragment (happens fragment world event) events may.2 position member unset)
