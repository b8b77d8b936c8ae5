-- The write, part by part.
use Rattle.std.proofs.Common.{inl, refl, ap, ◌∙◌}
use Rattle.bank.specs.Bank.{Bank}
use Rattle.bank.specs.Serve.{greatest_final}
use Rattle.bank.specs.declared.kind.Kind.TheVariants.{Finalize, PreWrite}
use Rattle.refinement.specs.Systems.{MayRunIn, System, system_run}
use Rattle.example_tests.specs.RecordExamples.{whole}
use Rattle.example_tests.proofs.EventRunLemmas.{letter_is_value, ready}
use Rattle.example_tests.proofs.KeptRowLemmas.{final_greatest, kept_final, kept_wrote, opened_greatest, still_final, wrote_greatest}
use Rattle.example_tests.specs.RefinedExamples.{start, write_asked, write_begun, write_ended, write_kept, write_sent}
use Rattle.example_tests.specs.Scripts.{write_tag}
use Rattle.example_tests.proofs.RunLemmas.{done_told, knows, pointer_told, tag_told}

abbrev pub after_asked : System
after_asked = system_run whole write_asked start

abbrev pub after_kept : System
after_kept = system_run whole write_kept after_asked

abbrev pub after_write : System
after_write = system_run whole write_ended after_kept

pub asks : MayRunIn whole write_asked start
asks = (
  ((refl, letter_is_value), tt),
  (
    (((_, refl), (_, refl, refl)), (0, refl)),
    (
      ((_, _, refl), (1, ap (pointer_told 7 1) (opened_greatest 0))),
      (
        ((_, refl, inl (ready _ refl refl, refl), knows ((system_run whole write_begun start).objects 1) _ _ refl refl), tt),
        (
          (((_, refl), (_, refl, refl)), (2, refl)),
          (((_, _, refl), (3, ap (tag_told 7 2) (opened_greatest 0))), tt),
        ),
      ),
    ),
  ),
)

pub keeps : MayRunIn whole write_kept after_asked
keeps = (
  ((_, refl, inl (ready _ refl refl, refl), knows (after_asked.objects 1) _ _ refl refl), tt),
  (
    (((_, refl), (_, refl, refl)), (4, refl)),
    (
      (
        (_, _, refl),
        (
          5,
          ap (λ (bank : Bank). done_told 7 3 (PreWrite write_tag) (greatest_final bank)) (kept_wrote 0)
              ∙ ap (done_told 7 3 (PreWrite write_tag)) (wrote_greatest 0),
        ),
      ),
      (
        ((_, refl, inl (ready _ refl refl, refl), knows ((system_run whole write_sent after_asked).objects 1) _ _ refl refl), tt),
        (
          (((_, refl), (_, refl, refl)), (6, refl)),
          (
            (
              (_, _, refl),
              (
                7,
                ap (λ (bank : Bank). done_told 7 4 (Finalize write_tag) (greatest_final bank)) (kept_final 0)
                    ∙ ap (done_told 7 4 (Finalize write_tag)) (final_greatest 0),
              ),
            ),
            tt,
          ),
        ),
      ),
    ),
  ),
)

pub ends : MayRunIn whole write_ended after_kept
ends = (
  ((_, refl, inl (ready _ refl refl, refl), knows (after_kept.objects 1) _ _ refl refl), tt),
  (
    (((_, refl), (_, refl, refl)), (8, refl)),
    (
      (
        (_, _, refl),
        (
          9,
          ap (λ (bank : Bank). pointer_told 7 5 (greatest_final bank)) (still_final 0)
              ∙ ap (pointer_told 7 5) (final_greatest 0),
        ),
      ),
      (((_, refl, ready _ refl refl, refl), tt), tt),
    ),
  ),
)
