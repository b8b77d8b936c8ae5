-- Where waiting messages go.
use Rattle.std.proofs.Common.{◌≡◌, ℕ, ◌<◌, [], length, get_or, slice_get}
use Rattle.std.proofs.Common.{Some, sym, ap, subst, ◌∙◌}
use Rattle.bank.specs.Bank.{Bank}
use Rattle.mail.specs.declared.message.Message.{Message}
use Rattle.record.specs.Records.{Object, bank_at, no_bank}
use Rattle.soundness.specs.Sound.{IsPosted}
use Rattle.register.specs.Position.{Position, banks_of}
use Rattle.register.specs.State.{Contents, state_of}
use Rattle.register.specs.Kept.{IsKept}
use Rattle.std.proofs.lemmas.Option.{get_or_from_slice_get}
use Rattle.soundness.proofs.ListLemmas.{all_get}
use Rattle.register.proofs.ListLemmas.{found, found_map, length_map}
use Rattle.register.proofs.PieceLengthLemmas.{posted_within}

-- the bank to which a waiting message goes, or from which it comes
pub record There (c : Contents) (message : Message) : Type 0 where
  pub position : Position
  pub at : slice_get c.positions message.position ≡ Some position
  pub bank : Bank
  pub kept : slice_get position.banks message.member ≡ Some bank
  pub is : bank_at (state_of c).object message.position message.member ≡ bank
  pub placed : message.position < length (state_of c).object.layouts

pub there : (c : Contents) → IsKept c → (place : ℕ) (message : Message) → slice_get c.mail place ≡ Some message → There c message
there c kept place message waits = record {
  position = p.0;
  at = p.1;
  bank = b.0;
  kept = b.1;
  is = ap (λ bs. get_or bs message.member no_bank) banks_at ∙ get_or_from_slice_get p.0.banks message.member b.0 no_bank b.1;
  placed = placed;
}
  where
    object : Object
    object = (state_of c).object

    posted : IsPosted (state_of c).object message
    posted = all_get (IsPosted (state_of c).object) c.mail place message kept.sound.mail waits

    placed : message.position < length (state_of c).object.layouts
    placed = posted_within (state_of c).object c.last kept.sound message posted

    p : (p : Position) × (slice_get c.positions message.position ≡ Some p)
    p = found c.positions message.position (subst (λ n. message.position < n) (length_map (λ (p : Position). p.layout) c.positions) placed)

    banks_at : get_or (state_of c).object.banks message.position [] ≡ p.0.banks
    banks_at = get_or_from_slice_get (banks_of c.positions) message.position p.0.banks []
        (found_map (λ (p : Position). p.banks) c.positions message.position p.0 p.1)

    within : message.member < length p.0.banks
    within = subst (λ bs. message.member < length bs) banks_at
        (subst (λ n. message.member < n) (sym (kept.sound.shape.members message.position placed)) posted.member)

    b : (b : Bank) × (slice_get p.0.banks message.member ≡ Some b)
    b = found p.0.banks message.member within
