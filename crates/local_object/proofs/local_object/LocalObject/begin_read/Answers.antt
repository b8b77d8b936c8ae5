use Rattle.local_object.proofs.BeginLemmas.{ok_both, read_done}
use Rattle.local_object.proofs.local_object.LocalObject.begin_read.Goals as goal

pub returns-clause-done : goal.returns-clause-done
returns-clause-done c =
    ok_both c.begin_at_start.result c.begin_at_start.ensures.local c.begin_at_start.ensures.letters
    (λ letters is sent. read_done c.args.self.now c.args.id c.begin_at_start.ensures.known c.begin_at_start.new.self letters.items is sent)
