-- A bank only adds steps: each step that it keeps stays, or comes now where there was none.
use Rattle.std.proofs.Common.{◌≡◌, ℕ, ◌<◌, inl, inr, Bool, cond, Option, refl, arith}
use Rattle.tag.specs.declared.tag.Tag.{Tag}
use Rattle.piece.specs.declared.piece.Piece.{Piece}
use Rattle.bank.specs.declared.status.Status.{Status}
use Rattle.bank.specs.declared.status.Pointer.{Pointer}
use Rattle.bank.specs.declared.request.Request.{Request}
use Rattle.bank.specs.declared.request.Request.TheVariants as request
use Rattle.bank.specs.Pointer.{raised}
use Rattle.bank.specs.Bank.{Bank, pre_written, finalized}
use Rattle.bank.specs.Collect.{collected, retired_bank}
use Rattle.bank.specs.Serve.{served_bank}
use Rattle.bank.specs.Knowledge.{since, finalized_at, arrived_at, pending_since, final_since, finals_above_at}
use Rattle.bank.proofs.CollectedBankLemmas.{finalized_at-collected, arrived_at-collected, count-collected}
use Rattle.bank.proofs.RowChangeLemmas.{Comes, finalized_at-finalized, arrived_at-finalized, above-finalized, finalized_at-pre_written}
use Rattle.bank.proofs.RowChangeLemmas.{arrived_at-pre_written, above-pre_written}

pending-raised : (q : Pointer) (s : Status) (now : ℕ) → Comes now (pending_since q) (pending_since (raised q s now))
pending-raised q s now = grind arith

final-raised : (q : Pointer) (s : Status) (now : ℕ) → Comes now (final_since q) (final_since (raised q s now))
final-raised q s now = grind arith

-- each step that the old bank keeps stays in the new one, or comes now
pub record Grows (now : ℕ) (old new : Bank) : Type 0 where
  pub finalized : (tag : Tag) → Comes now (finalized_at old tag) (finalized_at new tag)
  pub arrived : (tag : Tag) → Comes now (arrived_at old tag) (arrived_at new tag)
  pub pending : Comes now (pending_since old.pointer) (pending_since new.pointer)
  pub final : Comes now (final_since old.pointer) (final_since new.pointer)
  pub retired : Comes now old.retired new.retired
  pub delta : new.delta ≡ old.delta
  pub above : (tag : Tag) (step : ℕ) → step < now → finals_above_at new tag step ≡ finals_above_at old tag step

either : (now : ℕ) (old new : Option ℕ) (c : Bool) → new ≡ cond c (since old now) old → Comes now old new
either now old new c is = grind arith

grows_same : (b : Bank) (now : ℕ) → Grows now b b
grows_same b now = grind arith

pub grows_finalized : (b : Bank) (tag : Tag) (now : ℕ) → Grows now b (finalized b tag now)
grows_finalized b tag now = grind (arith, above-finalized, arrived_at-finalized, either, finalized_at-finalized)

grows_pre_written : (b : Bank) (tag : Tag) (piece : Piece) (now : ℕ) → Grows now b (pre_written b tag piece now)
grows_pre_written b tag piece now = grind (arith, above-pre_written, arrived_at-pre_written, either, finalized_at-pre_written)

-- what is dropped changes no step
pub grows_collected : (old new : Bank) (now : ℕ) → Grows now old new → Grows now old (collected new)
grows_collected old new now grows = grind (arith, arrived_at-collected, count-collected, finalized_at-collected)

-- any request only adds what comes now
pub served_grows : (b : Bank) (q : Request) (now : ℕ) → Grows now b (served_bank b q now)
served_grows b request.Next now = grows_same b now
served_grows b (request.Spread s) now = record {
  finalized = λ tag. inl refl;
  arrived = λ tag. inl refl;
  pending = pending-raised b.pointer s now;
  final = final-raised b.pointer s now;
  retired = inl refl;
  delta = refl;
  above = λ tag step past. refl;
}
served_grows b request.Query now = grows_same b now
served_grows b (request.PreWrite tag piece) now =
    grows_collected b (pre_written b tag piece now) now (grows_pre_written b tag piece now)
served_grows b (request.Finalize tag) now = grows_collected b (finalized b tag now) now (grows_finalized b tag now)
served_grows b (request.Fetch tag) now = grows_collected b (finalized b tag now) now (grows_finalized b tag now)

-- so does a bank that is retired
pub retired_grows : (b : Bank) (now : ℕ) → Grows now b (retired_bank b now)
retired_grows b now =
    grows_collected b (record { rows = b.rows; pointer = b.pointer; delta = b.delta; retired = since b.retired now }) now (record {
      finalized = λ tag. inl refl;
      arrived = λ tag. inl refl;
      pending = inl refl;
      final = inl refl;
      retired = inr refl;
      delta = refl;
      above = λ tag step past. refl;
    })
