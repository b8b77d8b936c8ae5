use Rattle.std.proofs.Common.{ℕ, ◌≡◌, ◌≤◌, ◌+◌, ◌-◌, ◌++◌, ◌∙◌, List, sym, ap, arith}
use Rattle.node_keeper.specs.Written.{names_between}
use Rattle.node_keeper.proofs.ScanLemmas.{left_parts}
use Rattle.node_keeper.proofs.objects.Objects.scan.Goals as goal

pub returns-clause-rest : goal.returns-clause-rest
returns-clause-rest c =
    let objects = c.args.self.now in
    let end = c.scan_end-end.result in
    let next = c.saturating_sub-next.result in
    let le : next ≤ end = let is = c.saturating_sub-next.ensures in omega arith in
    let sum : next + (end - next) ≡ end = omega (arith, le) in
    ap (names_between objects 0) (sym c.scan_end-end.ensures.end) ∙ left_parts objects next end le
    ∙ ap (λ (names : List (List ℕ)). names_between objects 0 next ++ names)
    (sym (c.in_ok-names.ensures.names ∙ ap (names_between objects next) sum))
