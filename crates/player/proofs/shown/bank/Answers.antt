use Rattle.std.proofs.Common.{inl, inr, refl, sym, ap, ◌∙◌, arith}
use Rattle.std.specs.Prelude.{option_map}
use Rattle.std.proofs.KnownBytes.{Keeps-refl}
use Rattle.bank.specs.Bank.{Bank}
use Rattle.register.specs.View.{bank_there}
use Rattle.printing.specs.BankLine.{bank_text}
use Rattle.driver.proofs.NamedObjectLemmas.{read_there}
use Rattle.player.specs.Shown.{line_of}
use Rattle.player.proofs.FoundObjectLemmas.{no_member}
use Rattle.player.proofs.PrintedLineLemmas.{prints_as}
use Rattle.player.proofs.shown.bank.Goals as goal

pub returns-in-Err : goal.returns-in-Err
returns-in-Err g c = prints_as _ _ _ _ _ _ (inr (_, c.in-Err.ensures.cause, refl)) c.refuse.ensures

pub returns-then-member : goal.returns-then-member
returns-then-member g c = (
  (
    c.in-Ok.register.now,
    c.in-Ok.ensures.object,
    no_member c.in-Ok.register.now.object c.in-Ok.register.now.last c.args.position c.args.member c.soundness.ensures.sound (omega arith),
  ),
  Keeps-refl _,
)

pub returns-in-Some : goal.returns-in-Some
returns-in-Some g c =
    prints_as _ _ _ _ _ _
    (inl (
      c.in-Ok.ensures.cause,
      ap (option_map (λ (bank : Bank). line_of (bank_text bank)))
          (read_there c.args.cluster.now c.args.name.now c.in-Ok.register.now
          (λ object. bank_there object c.args.position c.args.member) c.in-Ok.ensures.object
          ∙ sym c.in-Some.ensures),
    ))
    (c.print_line.ensures _ refl)
