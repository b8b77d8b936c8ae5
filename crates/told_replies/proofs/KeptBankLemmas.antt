-- What a record had before stays so where banks change: as one serves a request, and as those of a position are retired.
use Rattle.std.proofs.Common.{◌≡◌, ℕ, suc, ◌<◌, ◌⊎◌, [], length, map, set, get_or, refl, ap, inl, inr, arith, le_refl}
use Rattle.std.proofs.lemmas.List.{length-set}
use Rattle.bank.specs.Bank.{Bank}
use Rattle.bank.specs.Collect.{retired_bank}
use Rattle.bank.specs.Facts.{SameBefore}
use Rattle.bank.specs.Serve.{served_bank}
use Rattle.bank.specs.declared.request.Request.{Request}
use Rattle.bank.proofs.MonotoneLemmas.{retired_grows, served_grows}
use Rattle.bank.proofs.TrueAnswerLemmas.{grows_past}
use Rattle.mail.specs.declared.message.Message.{Message}
use Rattle.record.specs.Records.{Object, bank_at, base_of}
use Rattle.record.specs.Steps.{handled_object, retired_object}
use Rattle.soundness.proofs.Sound.KnownSinceLemmas.{bank_at_set}
use Rattle.soundness.proofs.Sound.RetiredBankLemmas.{retired_cases}
use Rattle.told_replies.proofs.KeptPastLemmas.{KeepsPast, bank_before, bank_same, same_call}

pub handled : (last : ℕ) (object : Object) (place : ℕ) (message : Message) (asked : Request) (now : ℕ) → last < now →
    KeepsPast last object (handled_object object place message asked now)
handled last object place message asked now less = record {
  positions = le_refl (length object.layouts);
  layouts = λ p h. refl;
  places = (let e = length-set object.banks message.position (set (get_or object.banks message.position []) message.member new) in
      omega arith);
  banks = λ p i h. go p i (bank_at_set object message.position message.member new p i);
  calls = λ index call at. same_call object.calls index call at;
}
  where
    old : Bank
    old = bank_at object message.position message.member

    new : Bank
    new = served_bank old asked now

    result : Object
    result = handled_object object place message asked now

    go : (p i : ℕ) → (bank_at result p i ≡ bank_at object p i)
        ⊎ ((p ≡ message.position) × (i ≡ message.member) × (bank_at result p i ≡ new)) →
        SameBefore (bank_at object p i) (bank_at result p i) (suc last)
    go p i (inl same) = rw same (bank_same (bank_at object p i) (suc last))
    go p i (inr here) =
        rw (here.2, here.0, here.1)
        (bank_before old new (suc last) now (omega arith) (grows_past old new now (served_grows old asked now)))

pub retired : (last : ℕ) (object : Object) (now : ℕ) → last < now → KeepsPast last object (retired_object object now)
retired last object now less = record {
  positions = le_refl (length object.layouts);
  layouts = λ p h. refl;
  places = (let e = length-set object.banks (base_of object) (map (λ bank. retired_bank bank now) (get_or object.banks (base_of object) []))
      in omega arith);
  banks = λ p i h. go p i (retired_cases object now p i);
  calls = λ index call at. same_call object.calls index call at;
}
  where
    result : Object
    result = retired_object object now

    go : (p i : ℕ) → (bank_at result p i ≡ bank_at object p i)
        ⊎ ((p ≡ base_of object) × (bank_at result p i ≡ retired_bank (bank_at object p i) now)) →
        SameBefore (bank_at object p i) (bank_at result p i) (suc last)
    go p i (inl same) = rw same (bank_same (bank_at object p i) (suc last))
    go p i (inr here) =
        rw here.1 (bank_before (bank_at object p i) (retired_bank (bank_at object p i) now) (suc last) now (omega arith)
        (grows_past (bank_at object p i) (retired_bank (bank_at object p i) now) now (retired_grows (bank_at object p i) now)))
