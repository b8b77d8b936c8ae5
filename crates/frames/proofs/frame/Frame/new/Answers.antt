use Rattle.std.proofs.Common.{refl, arith, rules}
use Rattle.frames.proofs.StringLengthLemmas.{all_short, not_short}
use Rattle.frames.proofs.frame.Frame.new.Goals as goal

pub returns-then-not-are_short-clause-lawful : goal.returns-then-not-are_short-clause-lawful
returns-then-not-are_short-clause-lawful c =
    (λ e. absurd cc, λ f. absurd (not_short c.args.strings.items c.are_short.result (search rules) (search rules) f.short))

pub returns-then-not-are_short-clause-refused : goal.returns-then-not-are_short-clause-refused
returns-then-not-are_short-clause-refused c =
    (omega arith, not_short c.args.strings.items c.are_short.result (search rules) (search rules))

pub invariant_of-result : goal.invariant_of-result
invariant_of-result c =
    record { few = omega arith; short = all_short c.args.strings.items c.are_short.result (search rules) (search rules) }

pub returns-clause-lawful : goal.returns-clause-lawful
returns-clause-lawful c =
    (λ e. record { few = omega arith; short = all_short c.args.strings.items c.are_short.result (search rules) (search rules) }, λ f. refl)
