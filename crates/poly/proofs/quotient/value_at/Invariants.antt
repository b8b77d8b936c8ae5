use Rattle.std.proofs.Common.{◌≡◌, drop}
use Rattle.gf256.specs.Polynomial.{evaluate}
use Rattle.poly.proofs.quotient.value_at.Given as goal

abbrev pub invariant-loop-m : goal.invariant-loop-m
invariant-loop-m l = l.value ≡ evaluate (drop l.m l.polynomial) l.x
