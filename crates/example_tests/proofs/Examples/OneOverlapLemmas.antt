-- The read that begins anew, and the one write that overlaps it.
use Rattle.std.proofs.Common.{nat_eq, ◌≡◌, ℕ, zero, suc, ◌≤◌, List, []}
use Rattle.std.proofs.Common.{◌∷◌, length, Some, None, option_map, refl, sym, subst, ap, arith}
use Rattle.std.proofs.lemmas.Bool.Decides.{nat_tests}
use Rattle.std.specs.List.{AllByRecursion, IsDistinct}
use Rattle.tag.specs.Tag.{opening_tag}
use Rattle.layout.proofs.DistinctMemberLemmas.{has-head}
use Rattle.example_tests.specs.RecordExamples.{whole, one_member, lacking_script, IsMetExactly}
use Rattle.atomicity.specs.Lacking.{IsOverlapping}
use Rattle.record.specs.Records.{Call}
use Rattle.record.specs.declared.call.CallKind.TheVariants.{Read}
use Rattle.record.specs.Steps.{run, opened_object}
use Rattle.example_tests.proofs.Examples.RestartedReadLemmas.{lacking, comes_to_lack}
use Rattle.example_tests.proofs.Examples.RunPartLemmas.{other_distinct}

-- the only write is the second call
second : (index : ℕ) → IsOverlapping lacking opening_tag 3 27 index → index ≡ 1
second zero o =
    absurd (let at : Some Read ≡ Some o.call.kind = ap (option_map (λ (c : Call). c.kind)) o.at in let k = o.kind in cc)
second (suc zero) o = refl
second (suc (suc index)) o = absurd (let at : None ≡ Some o.call = o.at in cc)

at_most_one : (writes : List ℕ) → IsDistinct nat_eq writes → AllByRecursion (IsOverlapping lacking opening_tag 3 27) writes →
    length writes ≤ 1
at_most_one [] distinct all = omega arith
at_most_one (x ∷ []) distinct all = omega arith
at_most_one (x ∷ y ∷ later) distinct all =
    absurd (let a = second x all.0 in let b = second y all.1.0 in let apart = has-head x (y ∷ later) distinct in
    grind (arith, nat_tests))

lacking_exactly : IsMetExactly lacking
lacking_exactly = record {
  collects = refl;
  call = _;
  phase = _;
  lacking = record { at = refl; kind = refl; within = refl; fetch = refl; complete = refl; lacks = refl };
  overlapping = record {
    writes = 1 ∷ [];
    distinct = other_distinct;
    enough = omega arith;
    each = (
      record {
        call = _;
        at = refl;
        value = _;
        kind = refl;
        greater = _;
        tagged = refl;
        above = grind arith;
        called = omega arith;
        unanswered = λ step e. let same : 24 ≡ step = (let f = e in cc) in omega arith;
      },
      tt,
    );
  };
  no_more = at_most_one;
}

pub met_exactly : IsMetExactly (run whole lacking_script 3 (opened_object one_member (Some 0) 2))
met_exactly = subst IsMetExactly (sym comes_to_lack.gives) lacking_exactly
