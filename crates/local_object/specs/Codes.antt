-- The contracts that docs/trusted.md lists do not depend on this file; other contracts and proofs do.
-- How the parts of a node's object are encoded, and its calls as the machines that carry them out.
use mathlib.Core.Logic.{inl, inr}
use Rattle.std.specs.Prelude.{◌≡◌, ◌⊎◌, ℕ, List, map, Option, refl}
use Rattle.std.specs.Coded.{Coded, code_by, coded×, coded⊎, coded_list, coded_ℕ, coded_option}
use Rattle.layout.specs.Layout.{Layout}
use Rattle.bank.specs.Bank.{Bank}
use Rattle.closed_bank.specs.ClosedBank.{ClosedBank}
use Rattle.call.specs.Call.{OpenCall as Machine}
use Rattle.open_calls.specs.OpenCalls.{NodeCall}
use Rattle.local_object.specs.declared.kept_bank.KeptBank.{KeptBank}
use Rattle.local_object.specs.declared.kept_bank.KeptBank.TheVariants as kept
use Rattle.local_object.specs.declared.report.Report.{Report}
use Rattle.local_object.specs.Local.{Place, LocalObject}

-- what is kept of a bank, as one of two
abbrev kept_cases : KeptBank → Bank ⊎ ClosedBank
kept_cases (kept.Open bank) = inl bank
kept_cases (kept.Closed closed) = inr closed

-- one of two, as what is kept of a bank
abbrev kept_from_cases : Bank ⊎ ClosedBank → KeptBank
kept_from_cases (inl bank) = kept.Open bank
kept_from_cases (inr closed) = kept.Closed closed

pub kept_from_cases-kept_cases : (bank : KeptBank) → kept_from_cases (kept_cases bank) ≡ bank
kept_from_cases-kept_cases (kept.Open bank) = refl
kept_from_cases-kept_cases (kept.Closed closed) = refl

-- how it is encoded: as one of two
abbrev pub kept_code : Coded Bank → Coded ClosedBank → Coded KeptBank
kept_code bank closed =
    code_by (Bank ⊎ ClosedBank) (coded⊎ bank closed) kept_cases kept_from_cases kept_from_cases-kept_cases

-- how a place is encoded: as the tuple of its parts
abbrev pub place_code : Coded Layout → Coded KeptBank → Coded Place
place_code layout bank =
    code_by (ℕ × (Layout × Option KeptBank)) (coded× coded_ℕ (coded× layout (coded_option bank)))
    (λ p. (p.position, (p.layout, p.bank)))
    (λ t. record { position = t.0; layout = t.1.0; bank = t.1.1 }) (λ _. refl)

-- how an object is encoded: as the tuple of its parts
abbrev pub local_code : Coded Place → Coded Report → Coded NodeCall → Coded LocalObject
local_code place report call =
    code_by (ℕ × (Option ℕ × (ℕ × (List Place × (List Report × List NodeCall)))))
    (coded× coded_ℕ (coded× (coded_option coded_ℕ) (coded× coded_ℕ (coded× (coded_list place)
    (coded× (coded_list report) (coded_list call))))))
    (λ o. (o.node, (o.delta, (o.start, (o.places, (o.reports, o.calls))))))
    (λ t. record {
      node = t.0;
      delta = t.1.0;
      start = t.1.1.0;
      places = t.1.1.1.0;
      reports = t.1.1.1.1.0;
      calls = t.1.1.1.1.1;
    }) (λ _. refl)

-- a machine as a call of this node
abbrev pub at_node : (node : ℕ) → Machine → NodeCall
at_node node call = record {
  node = node;
  id = call.id;
  kind = call.kind;
  settled = call.settled;
  stage = call.stage;
  phase = call.phase;
}

-- these machines as calls of this node
abbrev pub carried : (node : ℕ) → List Machine → List NodeCall
carried node calls = map (at_node node) calls
