-- A bank without delta that is not retired keeps all.
use Rattle.std.proofs.Common.{◌≡◌, ℕ, None, refl, arith}
use Rattle.bank.specs.declared.request.Request.{Request}
use Rattle.bank.specs.Bank.{Bank, opened_bank}
use Rattle.bank.specs.Collect.{KeepsAll}
use Rattle.bank.specs.Serve.{served_bank, uncollected_bank}
use Rattle.bank.proofs.CollectedBankLemmas.{collected-keeps_all}

pub opened_keeps_all : (point now : ℕ) → KeepsAll (opened_bank point None now)
opened_keeps_all point now = (refl, refl)

-- a request leaves all that it brought
pub served_keeps_all : (b : Bank) (q : Request) (now : ℕ) → KeepsAll b → served_bank b q now ≡ uncollected_bank b q now
served_keeps_all b q now keeps = grind (arith, collected-keeps_all)

-- and the bank goes on so
pub keeps_all-served : (b : Bank) (q : Request) (now : ℕ) → KeepsAll b → KeepsAll (served_bank b q now)
keeps_all-served b q now keeps = grind arith
