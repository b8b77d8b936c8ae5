use Rattle.std.proofs.Common.{Some, inl, inr, refl, ap}
use Rattle.printing.specs.SequenceLine.{sequence_text}
use Rattle.player.specs.Shown.{IsSequenceOf}
use Rattle.player.proofs.PrintedLineLemmas.{prints_as}
use Rattle.player.proofs.shown.sequence_of.Goals as goal

pub returns-in-Err : goal.returns-in-Err
returns-in-Err g c = prints_as _ _ _ _ _ _ (inr (_, inl c.in-Err.ensures.cause, refl)) c.refuse.ensures

pub returns-in-Ok-sequence : goal.returns-in-Ok-sequence
returns-in-Ok-sequence g c =
    let listed : IsSequenceOf c.args.cluster.now c.args.name.now c.in-Ok-sequence.calls.items = record {
      state = c.in-Ok.register.now;
      there = c.in-Ok.ensures.object;
      by_tags = c.in-Ok-sequence.ensures.listed;
      sequence = c.in-Ok-sequence.ensures.sequence;
    } in
    prints_as _ _ _ _ _ _ (inl (c.in-Ok-sequence.calls.items, listed, refl))
    (c.print_line.ensures _ (ap (λ calls. Some (sequence_text calls)) c.deref.ensures.value))

pub returns-in-Err-sequence : goal.returns-in-Err-sequence
returns-in-Err-sequence g c =
    prints_as _ _ _ _ _ _ (inr (_, inr (c.in-Ok.ensures.cause, c.in-Err-sequence.ensures.refused), refl)) c.refuse-in-Err-sequence.ensures
