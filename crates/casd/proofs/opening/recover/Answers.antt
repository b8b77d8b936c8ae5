use Rattle.std.proofs.Common.{sym, subst}
use Rattle.std.specs.Io.KnownBytes.{Keeps}
use Rattle.casd.proofs.ReaderLemmas.{fresh_reader}
use Rattle.casd.proofs.StartLemmas.{damage_kept}
use Rattle.casd.proofs.opening.recover.Goals as goal

pub returns-in-Ok-with_capacity-clause-recovered : goal.returns-in-Ok-with_capacity-clause-recovered
returns-in-Ok-with_capacity-clause-recovered g c =
    let read = fresh_reader g.L.Reader.Read.remaining c.in-Ok-with_capacity.reader c.in-Ok.reader c.in-Ok-with_capacity.ensures.inner
    c.in-Ok-with_capacity.ensures.empty c.in-Ok-with_capacity.ensures.capacity in
    damage_kept _ _ _ c.recover_machine.new.machine c.in-Err-recover_machine.error
    (subst (Keeps _) (sym read) c.in-Ok.ensures) c.in-Err-recover_machine.ensures
