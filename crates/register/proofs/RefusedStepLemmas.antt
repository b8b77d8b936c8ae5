-- A step that is refused leaves the register as it was.
use Rattle.std.proofs.Common.{◌≡◌, ℕ, List, get_or, set, Result, Ok, Err, OnErr, ap, ◌∙◌}
use Rattle.std.proofs.lemmas.List.{set-get_or}
use Rattle.mail.specs.declared.message.Message.{Message}
use Rattle.register.specs.Kept.{IsKept}
use Rattle.register.specs.Position.{Position}
use Rattle.register.specs.State.{Contents, State, state_of}
use Rattle.register.specs.Tracked.{Tracked}

-- what is known whatever the result
pub on_error : {T E P : Type 0} (r : Result T E) → P → OnErr r P
on_error (Ok x) known = tt
on_error (Err e) known = known

-- an element that is written back as it was read
pub written_back : {X : Type 0} (xs : List X) (i : ℕ) {read new : X} → new ≡ read → read ≡ get_or xs i read → set xs i new ≡ xs
written_back xs i {read = read} same is = ap (set xs i) (same ∙ is) ∙ set-get_or xs i read

-- a register is as it was if the parts that steps change are
pub as_it_was : {c : Contents} {s : State} {positions : List Position} {mail : List Message} {calls : List Tracked} → IsKept c
    → state_of c ≡ s → positions ≡ c.positions → mail ≡ c.mail → calls ≡ c.calls
    → state_of (record c { positions = positions; mail = mail; calls = calls }) ≡ s
as_it_was {c = c} {mail = mail} {calls = calls} kept view positions_are mail_is calls_are = cc
