-- Events of all nodes, a part at a time, and what each part needs.
use Rattle.std.proofs.Common.{◌≡◌, ℕ, List, [], ◌∷◌, ◌++◌, Option, None, Some, IsSome, refl, sym, subst, ap, ◌∙◌}
use Rattle.std.proofs.lemmas.Option.{same_Some}
use Rattle.tag.specs.declared.tag.Tag.{Tag}
use Rattle.piece.specs.declared.piece.Piece.{Piece}
use Rattle.bank.specs.declared.kind.Kind.{Kind}
use Rattle.bank.specs.declared.kind.Kind.TheVariants.{Fetch, Next, Query}
use Rattle.bank.specs.declared.reply.Answer.TheVariants as answer
use Rattle.bank.specs.declared.status.Status.TheVariants.{Unset}
use Rattle.bank.specs.Bank.{Bank, piece_of}
use Rattle.bank.specs.Serve.{greatest_final}
use Rattle.letter.specs.declared.letter.Letter.{Letter}
use Rattle.local_object.specs.Local.{LocalObject, layout_here}
use Rattle.refinement.specs.Systems.{MayRunIn, System, SystemEvent, system_after, system_run}
use Rattle.example_tests.specs.RecordExamples.{whole}
use Rattle.example_tests.specs.RefinedExamples.{replied, telling}

-- events, and then others
pub may_append : (first second : List SystemEvent) (system : System) → MayRunIn whole first system →
    MayRunIn whole second (system_run whole first system) → MayRunIn whole (first ++ second) system
may_append [] second system a b = b
may_append (event ∷ first) second system a b = (a.0, may_append first second (system_after whole system event) a.1 b)

pub run_append : (first second : List SystemEvent) (system : System) →
    system_run whole (first ++ second) system ≡ system_run whole second (system_run whole first system)
run_append [] second system = refl
run_append (event ∷ first) second system = run_append first second (system_after whole system event)

-- a node knows the position of the phase that is due
pub knows : (local : LocalObject) (o : Option (Kind × ℕ)) (next : Kind × ℕ) → o ≡ Some next → IsSome (layout_here local next.1) →
    (kind : Kind) (position : ℕ) → o ≡ Some (kind, position) → IsSome (layout_here local position)
knows local o next e known kind position is =
    subst (λ n. IsSome (layout_here local n)) (ap (λ (pair : Kind × ℕ). pair.1) (same_Some next (kind, position) (sym e ∙ is))) known

-- a letter with the answer that the pointer is unset, one with the answer to a query, one with the answer to a fetch, and
-- one with the answer that all is done; each tells this greatest tag
abbrev pub pointer_told : (call phase : ℕ) → Tag → Option Letter
pointer_told call phase tag = Some (replied call phase Next (answer.Pointer Unset) (telling tag None))

abbrev pub tag_told : (call phase : ℕ) → Tag → Option Letter
tag_told call phase tag = Some (replied call phase Query (answer.Greatest tag) (telling tag None))

abbrev pub piece_told : (call phase : ℕ) → Tag → Option Piece → Tag → Option Letter
piece_told call phase fetched piece tag = Some (replied call phase (Fetch fetched) (answer.Piece piece) (telling tag None))

abbrev pub done_told : (call phase : ℕ) → Kind → Tag → Option Letter
done_told call phase kind tag = Some (replied call phase kind answer.Done (telling tag None))

-- the first answer to a read, from a node that keeps this bank and tells its piece of its greatest tag
abbrev pub first_told : Bank → Option Letter
first_told bank = Some (replied 3 1 Next (answer.Pointer Unset) (telling (greatest_final bank) (piece_of bank (greatest_final bank))))

pub told_piece : (bank : Bank) (tag : Tag) (piece : Piece) → greatest_final bank ≡ tag → piece_of bank tag ≡ Some piece →
    first_told bank ≡ Some (replied 3 1 Next (answer.Pointer Unset) (telling tag (Some piece)))
told_piece bank tag piece greatest is =
    ap (λ (t : Tag). Some (replied 3 1 Next (answer.Pointer Unset) (telling t (piece_of bank t)))) greatest
    ∙ ap (λ (o : Option Piece). Some (replied 3 1 Next (answer.Pointer Unset) (telling tag o))) is
