use Rattle.std.proofs.Common.{◌≡◌, ℕ, get_or, ap, sym, ◌∙◌, arith}
use Rattle.std.proofs.lemmas.Fmt.{decimal_injective}
use Rattle.node_strings.specs.Record.{record_at}
use Rattle.node_strings.proofs.PartLemmas.{some_is}
use Rattle.node_strings.proofs.RecordLemmas.{record_again}
use Rattle.node_strings.proofs.laws.strings_are_read_back.Goals as goal

first_differs : ◌≡◌ {A = ℕ} 99 110 → ⊥
first_differs e = omega (arith, e)

pub returns-clause-written : goal.returns-clause-written
returns-clause-written c = record_again

pub returns-clause-records : goal.returns-clause-records
returns-clause-records c it other is also e =
    some_is it other (sym (record_again it is) ∙ ap record_at e ∙ record_again other also)

pub returns-clause-addresses : goal.returns-clause-addresses
returns-clause-addresses c one other small less = (
  λ e. decimal_injective one other small less cc,
  λ e. decimal_injective one other small less cc,
  λ e. first_differs (ap (λ s. get_or s 0 0) e),
)
