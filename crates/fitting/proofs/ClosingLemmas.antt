-- A fit object stays fit as its banks are closed, and as their pointers are raised to final.
use Rattle.std.proofs.Common.{◌≡◌, ℕ, suc, true, Option, Some, None, IsSome, refl, ap, arith}
use Rattle.std.specs.Prelude.{IfSome}
use Rattle.bank.specs.Bank.{Bank}
use Rattle.bank.specs.Pointer.{status_of}
use Rattle.bank.specs.Serve.{greatest_final}
use Rattle.bank.specs.declared.request.Request.TheVariants as request
use Rattle.bank.specs.declared.status.Status.{Status}
use Rattle.bank.specs.declared.status.Status.TheVariants as status
use Rattle.closed_bank.specs.ClosedBank.{closed_if}
use Rattle.local_object.specs.Events.{closed_here, raised_here}
use Rattle.local_object.specs.KeptBanks.{after_closing, after_raising, closed_or}
use Rattle.local_object.specs.Local.{LocalObject, bank_in, heard_place, layout_here}
use Rattle.local_object.specs.declared.kept_bank.KeptBank.{KeptBank}
use Rattle.local_object.specs.declared.kept_bank.KeptBank.TheVariants as kept
use Rattle.mail.specs.Message.{status_names_next}
use Rattle.fitting.specs.Objects.{IsFitBank, IsFitKept, IsFitObject, says_next}
use Rattle.fitting.proofs.BankLemmas.{after_fit, greatest_fit}
use Rattle.fitting.proofs.PlaceLemmas.{put_fit}
use Rattle.fitting.proofs.KnownLemmas.{says_known, place_bank}

-- Banks that are closed

closed_kept : (bank : Bank) → IsFitBank bank → (said : Status) → status_of bank.pointer ≡ said →
    IfSome (closed_or (closed_if said (greatest_final bank)) (Some (kept.Open bank))) IsFitKept
closed_kept bank fit status.Unset e = fit
closed_kept bank fit status.Pending e = fit
closed_kept bank fit status.Final e = greatest_fit bank fit

closed_says : (bank : Bank) (said : Status) → status_of bank.pointer ≡ said →
    says_next (closed_or (closed_if said (greatest_final bank)) (Some (kept.Open bank))) ≡ true → says_next (Some (kept.Open bank)) ≡ true
closed_says bank status.Unset e says = says
closed_says bank status.Pending e says = says
closed_says bank status.Final e says = ap status_names_next e

after_kept : (o : Option KeptBank) → IfSome o IsFitKept → IfSome (after_closing o) IsFitKept
after_kept None fit = tt
after_kept (Some (kept.Open bank)) fit = closed_kept bank fit (status_of bank.pointer) refl
after_kept (Some (kept.Closed closed)) fit = fit

after_says : (o : Option KeptBank) → says_next (after_closing o) ≡ true → says_next o ≡ true
after_says None says = says
after_says (Some (kept.Open bank)) says = closed_says bank (status_of bank.pointer) refl says
after_says (Some (kept.Closed closed)) says = says

pub close_fit : (local : LocalObject) (q : ℕ) → IsFitObject local → IsFitObject (closed_here local q)
close_fit local q fit =
    let old = bank_in (heard_place local.places q) in
    put_fit local q (after_closing old) (after_kept old (place_bank local fit q)) (λ says. says_known local fit q (after_says old says)) fit

-- Pointers that are raised to final

raised_kept : (o : Option KeptBank) → IfSome o IsFitKept → IfSome (after_raising o) IsFitKept
raised_kept None fit = tt
raised_kept (Some (kept.Open bank)) fit = after_fit bank (request.Spread status.Final) fit (tt, omega arith)
raised_kept (Some (kept.Closed closed)) fit = fit

pub raise_fit : (local : LocalObject) (q : ℕ) → IsSome (layout_here local (suc q)) → IsFitObject local → IsFitObject (raised_here local q)
raise_fit local q known fit =
    let old = bank_in (heard_place local.places q) in
    put_fit local q (after_raising old) (raised_kept old (place_bank local fit q)) (λ says. known) fit
