use Rattle.std.proofs.Common.{refl, sym, ◌∙◌, inl, inr}
use Rattle.casd.proofs.LogFaultLemmas.{printed_other}
use Rattle.casd.proofs.program.carry_out.Goals as goal

pub returns-in-Help-clause-ends : goal.returns-in-Help-clause-ends
returns-in-Help-clause-ends g c = λ words spells. inl (rw c.in-Help.is at spells, refl, c.print_line.ensures)

pub returns-in-Version-clause-ends : goal.returns-in-Version-clause-ends
returns-in-Version-clause-ends g c = λ words spells. inr (inl (rw c.in-Version.is at spells, refl, c.print_line-in-Version.ensures))

pub returns-in-Run-clause-ends : goal.returns-in-Run-clause-ends
returns-in-Run-clause-ends g c = λ words spells.
    let asked = rw c.in-Run.is at spells in
    inr (inr (inr (
      c.in-Run.file.now,
      asked.0,
      c.in-Run.folder.now,
      c.in-Run.number,
      c.run_node-done.result,
      asked.1,
      asked.2,
      c.run_node-done.ensures.runs,
      c.end.ensures,
    )))

pub returns-in-Help-clause-failure : goal.returns-in-Help-clause-failure
returns-in-Help-clause-failure g c = λ words spells three. absurd (printed_other _ _ c.print_line.ensures three)

pub returns-in-Version-clause-failure : goal.returns-in-Version-clause-failure
returns-in-Version-clause-failure g c = λ words spells three.
    absurd (printed_other _ _ c.print_line-in-Version.ensures three)

pub returns-in-Run-clause-failure : goal.returns-in-Run-clause-failure
returns-in-Run-clause-failure g c = λ words spells three.
    let asked = rw c.in-Run.is at spells in (
      c.in-Run.file.now,
      asked.0,
      c.in-Run.folder.now,
      asked.1,
      c.run_node-done.ensures.failure (sym c.end.ensures ∙ three),
    )
