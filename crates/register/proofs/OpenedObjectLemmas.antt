-- An object that was just opened.
use Rattle.std.proofs.Common.{◌≡◌, ℕ, suc, false, cond, is_some, List, [], ◌∷◌, ◌++◌, get_or, Option, None, sym, ap, refl, arith}
use Rattle.std.proofs.lemmas.List.Sums.{sum_by-cons, sum_by_push}
use Rattle.encoder.specs.Fragment.{fragment}
use Rattle.layout.specs.Layout.{Layout, IsLawful}
use Rattle.bank.specs.Bank.{Bank, opened_bank}
use Rattle.bank.specs.Bytes.{bank_bytes}
use Rattle.bank.proofs.BankBytesLemmas.{opened_bytes}
use Rattle.record.specs.Records.{no_bank}
use Rattle.record.specs.Steps.{opened_banks}
use Rattle.soundness.proofs.Sound.OpenedObjectLemmas.{opening_sound}
use Rattle.register.specs.Position.{banks_bytes, all_bytes}
use Rattle.register.specs.Kept.{IsKept}
use Rattle.register.proofs.FragmentCodeLemmas.{fragments_are_code}

-- open banks store nothing
pub opened_banks_bytes : (servers : List ℕ) (member : ℕ) (delta : Option ℕ) (now : ℕ)
    → banks_bytes (opened_banks servers member delta now) ≡ 0
opened_banks_bytes [] member delta now = refl
opened_banks_bytes (s ∷ ss) member delta now =
    let rest = opened_banks_bytes ss (suc member) delta now in
    omega (
      arith,
      rest,
      opened_bytes member delta now,
      sum_by-cons bank_bytes (opened_bank member delta now) (opened_banks ss (suc member) delta now),
    )

-- banks that store nothing add nothing
pub bytes_push : (banks : List (List Bank)) (more : List Bank) → banks_bytes more ≡ 0 → all_bytes (banks ++ more ∷ []) ≡ all_bytes banks
bytes_push banks more none = let all = sum_by_push banks_bytes banks more in omega (arith, none, all)

-- and are not retired
pub opened_unretired : (servers : List ℕ) (member : ℕ) (delta : Option ℕ) (now : ℕ)
    → (get_or (opened_banks servers member delta now) 0 no_bank).retired ≡ None
opened_unretired [] member delta now = refl
opened_unretired (s ∷ ss) member delta now = refl

pub opened_keeps : (layout : Layout) (delta : Option ℕ) (now : ℕ) → IsLawful layout
    → IsKept (record {
      delta = delta;
      positions = record { layout = layout; banks = opened_banks layout.members 0 delta now } ∷ [];
      mail = [];
      base = 0;
      calls = [];
      is_moving = false;
      stored = 0;
      last = now;
    })
opened_keeps layout delta now lawful = record {
  sound = opening_sound fragment fragments_are_code layout delta now lawful;
  limits = record {
    positions = omega arith;
    calls = omega arith;
    phases = tt;
    stored = omega (arith, none);
  };
  based = sym (ap (λ (o : Option ℕ). cond (is_some o) 1 0) (opened_unretired layout.members 0 delta now));
  numbered = λ index call at. absurd (cc);
  staged = λ index t at. absurd (cc);
  moving = refl;
  stored = sym none;
}
  where
    none : all_bytes (opened_banks layout.members 0 delta now ∷ []) ≡ 0
    none = cc (sum_by-cons banks_bytes (opened_banks layout.members 0 delta now) [], opened_banks_bytes layout.members 0 delta now)
