-- The state of an object: its record and the number of its last step; and the parts of a `Register`.
use Rattle.std.specs.Prelude.{◌≡◌, ℕ, suc, Bool, List, length, Option, Some, slice_get, refl}
use Rattle.std.specs.Coded.{Coded, code_by, coded×, coded_list, coded_ℕ, coded_option}
use Rattle.layout.specs.Layout.{Layout}
use Rattle.encoder.specs.Fragment.{fragment}
use Rattle.bank.specs.Bank.{Bank}
use Rattle.mail.specs.declared.message.Message.{Message}
use Rattle.record.specs.Records.{Call, Object}
use Rattle.record.specs.Steps.{Step, stepped}
use Rattle.register.specs.Position.{Position, layouts_of, banks_of}
use Rattle.register.specs.Tracked.{Tracked, calls_of}

-- the state of an object: its record, and the number of its last step
pub record State : Type 0 where
  pub object : Object
  pub last : ℕ

-- how a state is encoded: as the tuple of its parts
abbrev pub state_code : Coded Layout → Coded Bank → Coded Message → Coded Call → Coded State
state_code layout bank message call =
    code_by (List Layout × (List (List Bank) × (List Message × (List Call × (Option ℕ × ℕ)))))
    (coded× (coded_list layout) (coded× (coded_list (coded_list bank))
    (coded× (coded_list message) (coded× (coded_list call) (coded× (coded_option coded_ℕ) coded_ℕ)))))
    (λ s. (s.object.layouts, (s.object.banks, (s.object.mail, (s.object.calls, (s.object.delta, s.last))))))
    (λ p. record {
      object = record {
        delta = p.1.1.1.1.0;
        layouts = p.0;
        banks = p.1.0;
        mail = p.1.1.0;
        calls = p.1.1.1.0;
      };
      last = p.1.1.1.1.1;
    }) (λ _. refl)

-- the id of the call that begins next, which is its number
abbrev pub next_id : Object → ℕ
next_id object = suc (length object.calls)

-- the id of each call is its number
abbrev pub HasNumbersAsIds : Object → Type 0
HasNumbersAsIds object = (index : ℕ) (call : Call) → slice_get object.calls index ≡ Some call → call.id ≡ suc index

-- the state after a step with the number `now`
abbrev pub made : Step → (now : ℕ) → State → State
made step now state = record { object = stepped fragment step now state.object; last = now }

-- what a register holds: the parts of the record, values that are kept beside it, and the number of the last step
pub record Contents : Type 0 where
  pub delta : Option ℕ
  pub positions : List Position
  pub base : ℕ
  pub mail : List Message
  pub calls : List Tracked
  pub is_moving : Bool
  pub stored : ℕ
  pub last : ℕ

-- the record that is made up of these parts of a register
abbrev pub object_of : (delta : Option ℕ) → List Position → List Message → List Tracked → Object
object_of delta positions mail calls = record {
  delta = delta;
  layouts = layouts_of positions;
  banks = banks_of positions;
  mail = mail;
  calls = calls_of calls;
}

-- the state that a register represents: its record, and the number of its last step
abbrev pub state_of : Contents → State
state_of c = record { object = object_of c.delta c.positions c.mail c.calls; last = c.last }
