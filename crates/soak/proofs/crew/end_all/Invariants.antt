use Rattle.std.proofs.Common.{◌≡◌, ℕ}
use Rattle.std.specs.Prelude.{IfOk, vec_len}
use Rattle.std.specs.List.{AllByRecursion}
use Rattle.soak.specs.Made.{HasMade}
use Rattle.soak.proofs.crew.end_all.Given as goal

abbrev pub invariant-loop-client : goal.invariant-loop-client
invariant-loop-client g l =
    (calls : ℕ) → AllByRecursion (λ client. IfOk client (λ handle. handle.promise.0 ≡ calls)) l.initial.started.items
    → AllByRecursion (λ client. IfOk client (λ handle. handle.promise.0 ≡ calls)) l.started.items
    × AllByRecursion (HasMade g.L.StoreName.first calls) l.seats.items

abbrev pub decreases-loop-client : goal.decreases-loop-client
decreases-loop-client g l = vec_len l.started
