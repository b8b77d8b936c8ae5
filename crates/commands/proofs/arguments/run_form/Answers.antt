use Rattle.commands.proofs.arguments.run_form.Goals as goal

pub returns : goal.returns
returns c = c.with_word.ensures _ (c.new.ensures.app, c.new.ensures.local)
