use Rattle.std.proofs.Common.{inr, refl}
use Rattle.register.proofs.NewReadOrWriteLemmas.{value_of}
use Rattle.register.proofs.register.Register.call_write.Goals as goal

pub begin_reading-requires-clause-kind : goal.begin_reading-requires-clause-kind
begin_reading-requires-clause-kind c =
    inr (
      c.args.value,
      refl,
      value_of c.args.value c.as_slice.result.now c.is_short.result c.is_short.ensures.bytes c.is_short.ensures.short
          c.if-not-is_short.false c.as_slice.ensures,
    )
