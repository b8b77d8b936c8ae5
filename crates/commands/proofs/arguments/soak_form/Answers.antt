use Rattle.commands.proofs.arguments.soak_form.Goals as goal

pub returns : goal.returns
returns c =
    c.with_word.ensures _ (c.with_word-form-3.ensures _ (c.with_word-form-2.ensures _ (c.with_word-form.ensures _
    (c.new.ensures.app, c.new.ensures.local))))
