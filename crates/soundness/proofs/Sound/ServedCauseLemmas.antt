-- What a bank knows once it served a request was asked by a phase.
use Rattle.std.proofs.Common.{◌≡◌, ℕ, sym, subst, arith}
use Rattle.bank.specs.declared.status.Status.{Status}
use Rattle.bank.specs.declared.kind.Kind.{Kind}
use Rattle.bank.specs.declared.kind.Kind.TheVariants.{Spread}
use Rattle.bank.specs.declared.request.Request.{Request}
use Rattle.bank.specs.Bank.{Bank}
use Rattle.bank.specs.Serve.{served_bank, kind_of}
use Rattle.record.specs.Records.{Object}
use Rattle.record.specs.Legal.{HasBegun, IsCaused}
use Rattle.bank.specs.declared.request.Request.TheVariants as request
use Rattle.soundness.proofs.Sound.KnownSinceLemmas.{label_arrived, piece_finalized, label_cases, piece_cases}

at_now : (object : Object) (kind : Kind) (position step now : ℕ) → step ≡ now → HasBegun object kind position now →
    HasBegun object kind position step
at_now object kind position step now e begun = subst (λ n. HasBegun object kind position n) (sym e) begun

-- a request's changes come from its phase
raised_caused : (object : Object) (position now : ℕ) (s : Status) (bank : Bank) → HasBegun object (Spread s) position now →
    IsCaused object position bank → IsCaused object position (served_bank bank (request.Spread s) now)
raised_caused object position now s bank begun caused = grind arith

pub served_caused : (object : Object) (position now : ℕ) (asked : Request) (bank : Bank) →
    HasBegun object (kind_of asked) position now → IsCaused object position bank → IsCaused object position (served_bank bank asked now)
served_caused object position now asked bank begun caused =
    grind (arith, at_now, label_arrived, label_cases, piece_cases, piece_finalized, raised_caused)
