use Rattle.local_object.proofs.BeginLemmas.{ok_both, value_is, write_done}
use Rattle.local_object.proofs.local_object.LocalObject.begin_write.Goals as goal

pub returns-clause-done : goal.returns-clause-done
returns-clause-done c =
    ok_both c.begin_at_start.result c.begin_at_start.ensures.local c.begin_at_start.ensures.letters
    (λ letters is sent. write_done c.args.self.now c.args.id c.args.value c.begin_at_start.ensures.known
    (value_is c.args.value c.as_slice.result.now c.is_short.result c.is_short.ensures.bytes c.is_short.ensures.short
    c.if-not-is_short.false c.as_slice.ensures) c.begin_at_start.new.self letters.items is sent)
