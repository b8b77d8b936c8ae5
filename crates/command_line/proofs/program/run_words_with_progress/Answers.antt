use Rattle.command_line.proofs.program.run_words_with_progress.Goals as goal

pub returns-in-Ok : goal.returns-in-Ok
returns-in-Ok g c = c.carry_out.ensures _ c.in-Ok.ensures
