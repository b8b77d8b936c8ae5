use Rattle.std.proofs.Common.{◌≤◌, sym, ap, ◌∙◌, subst, refl}
use Rattle.bank.specs.Bytes.{bank_bytes}
use Rattle.bank.specs.Floor.{remembered}
use Rattle.bank.specs.Kept.{bank_of}
use Rattle.bank.proofs.WindowFloorLemmas.{bank_without_floor, bank_forgets, fewer_bytes, kept_forgets}
use Rattle.bank.proofs.bank.Bank.forget.Goals as goal

pub returns-in_default-clause-bank : goal.returns-in_default-clause-bank
returns-in_default-clause-bank c =
    let o = c.self.inside in
    sym c.self.view_is
    ∙ bank_without_floor o.rows.entries c.self.invariant.sorted o.pointer o.window o.retired c.self.invariant.windowed
    (sym c.floor.ensures ∙ c.in_default.is)
    ∙ ap remembered c.self.view_is

pub invariant_of-self : goal.invariant_of-self
invariant_of-self c =
    let o = c.self.inside in
    let freed = c.remove_under-freed in
    kept_forgets o.rows.entries freed.new.rows.entries o.pointer o.window o.retired o.greatest o.bytes c.self.invariant
    (freed.ensures.ordered c.self.invariant.sorted) c.in-Some.floor (sym c.in-Some.ensures) freed.ensures.rows freed.result _
    freed.ensures.freed freed.type_inv refl

pub returns-clause-bank : goal.returns-clause-bank
returns-clause-bank c =
    let o = c.self.inside in
    let freed = c.remove_under-freed in
    bank_forgets o.rows.entries freed.new.rows.entries o.pointer o.window o.retired o.greatest o.bytes c.self.invariant
    (freed.ensures.ordered c.self.invariant.sorted) c.in-Some.floor (sym c.in-Some.ensures) freed.ensures.rows
    ∙ ap remembered c.self.view_is

pub returns-clause-fewer : goal.returns-clause-fewer
returns-clause-fewer c =
    let o = c.self.inside in
    let freed = c.remove_under-freed in
    subst (λ b. bank_bytes (bank_of freed.new.rows.entries o.pointer o.window o.retired) ≤ bank_bytes b) c.self.view_is
    (fewer_bytes o.rows.entries freed.new.rows.entries o.pointer o.window o.retired o.greatest o.bytes c.self.invariant
    (freed.ensures.ordered c.self.invariant.sorted) c.in-Some.floor (sym c.in-Some.ensures) freed.ensures.rows)
