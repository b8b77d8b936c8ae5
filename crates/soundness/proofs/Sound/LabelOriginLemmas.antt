-- The label of a tag comes with a request for the tag, or with its bank's opening.
use Rattle.std.proofs.Common.{◌≡◌, ℕ, zero, suc, ◌+◌, ◌<◌, ◌⊎◌, List, [], ◌∷◌, ◌++◌, length, get_or}
use Rattle.std.proofs.Common.{Some, refl, sym, subst, subst₂, ap, ◌∙◌, inl, inr, arith, slice_get}
use Rattle.tag.specs.declared.tag.Tag.{Tag}
use Rattle.layout.specs.Layout.{Layout}
use Rattle.bank.specs.declared.request.Request.{Request}
use Rattle.bank.specs.declared.row.Label.{Label}
use Rattle.bank.specs.Bank.{Bank}
use Rattle.bank.specs.Bank.{opened_bank}
use Rattle.bank.specs.Serve.{kind_of, served_bank}
use Rattle.mail.specs.declared.message.Message.{Message}
use Rattle.mail.specs.declared.message.Body.TheVariants as body
use Rattle.record.specs.Records.{Object, bank_at, no_bank}
use Rattle.record.specs.Fragments.{Code}
use Rattle.soundness.specs.Sound.{IsPosted, IsSound}
use Rattle.record.specs.Steps.{Step, stepped, opened_banks, moving_object, handled_object}
use Rattle.soundness.specs.Origins.{label_at, Gives, ComesByRequest, ComesByOpening, ComesWithIts}
use Rattle.soundness.proofs.ListLemmas.{all_get}
use Rattle.soundness.proofs.Sound.KnownSinceLemmas.{bank_at_set}
use Rattle.soundness.proofs.Sound.LeftBankLemmas.{banks_left}
use Rattle.soundness.proofs.Sound.OpenedObjectLemmas.{opened_get}
use Rattle.soundness.proofs.Sound.RetiredBankLemmas.{retired_cases}
use Rattle.soundness.proofs.Sound.BankLabelLemmas.{retired_label, served_gives, opened_label, unknown_label}

appended : {A : Type 0} (xs : List A) (y d : A) (i : ℕ) →
    (get_or (xs ++ y ∷ []) i d ≡ get_or xs i d) ⊎ ((i ≡ length xs) × (get_or (xs ++ y ∷ []) i d ≡ y))
appended [] y d zero = inr (refl, refl)
appended (x ∷ xs) y d (suc i) = go (appended xs y d i)
  where
    go : (get_or (xs ++ y ∷ []) i d ≡ get_or xs i d) ⊎ ((i ≡ length xs) × (get_or (xs ++ y ∷ []) i d ≡ y)) →
        (get_or (xs ++ y ∷ []) i d ≡ get_or xs i d) ⊎ ((suc i ≡ suc (length xs)) × (get_or (xs ++ y ∷ []) i d ≡ y))
    go (inl old) = inl old
    go (inr new) = inr (ap suc new.0, new.1)
appended _ y d _ = inl refl

module _ (fragment : Code) (object : Object) (last now position member : ℕ) (tag : Tag) (label : Label) (less : last < now)
    (sound : IsSound fragment object last) where
  abbrev Comes : Step → Type 0
  Comes step = (label_at (bank_at object position member) tag ≡ Some label)
      ⊎ (ComesByRequest object step now position member tag label ⊎ ComesByOpening object step now position tag label)

  -- a step that leaves the banks as they are
  kept : (step : Step) (new : Object) → new.banks ≡ object.banks → label_at (bank_at new position member) tag ≡ Some label → Comes step
  kept step new same e = inl (subst (λ banks. label_at (get_or (get_or banks position []) member no_bank) tag ≡ Some label) same e)

  started : (message : Message) (posted : IsPosted object message) → posted.phase.start < now
  started message posted = grind (arith, all_get)

  -- a bank serves what is asked
  handled : (place : ℕ) (message : Message) (asked : Request) → slice_get object.mail place ≡ Some message →
      message.body ≡ body.Request asked →
      label_at (bank_at (handled_object object place message asked now) position member) tag ≡ Some label → Comes (Step.Serve place)
  handled place message asked at is e = go (bank_at_set object message.position message.member served position member)
    where
      old : Bank
      old = bank_at object message.position message.member

      served : Bank
      served = served_bank old asked now

      new : Bank
      new = bank_at (handled_object object place message asked now) position member

      by_bank : (position ≡ message.position) → (member ≡ message.member) →
          (label_at old tag ≡ Some label) ⊎ Gives (kind_of asked) tag label now → Comes (Step.Serve place)
      by_bank p i (inl was) =
          inl (subst₂ (λ q j. label_at (bank_at object q j) tag ≡ Some label) (sym p) (sym i) was)
      by_bank p i (inr gives) = inr (inl (record {
        place = place;
        serves = refl;
        message = message;
        at = at;
        asked = asked;
        request = is;
        same_position = sym p;
        same_member = sym i;
        gives = gives;
        posted = all_get (IsPosted object) object.mail place message sound.mail at;
        begun = started message (all_get (IsPosted object) object.mail place message sound.mail at);
      }))

      go : (new ≡ bank_at object position member)
          ⊎ ((position ≡ message.position) × (member ≡ message.member) × (new ≡ served)) → Comes (Step.Serve place)
      go (inl same) = inl (sym (ap (λ bank. label_at bank tag) same) ∙ e)
      go (inr here) =
          by_bank here.0 here.1 (served_gives old asked now tag label (sym (ap (λ bank. label_at bank tag) here.2) ∙ e))

  served : (place : ℕ) → label_at (bank_at (stepped fragment (Step.Serve place) now object) position member) tag ≡ Some label →
      Comes (Step.Serve place)
  served place e = grind (arith, handled)

  -- a move opens the banks of one more position
  moved : (id : ℕ) (layout : Layout) → label_at (bank_at (moving_object object id layout now) position member) tag ≡ Some label →
      Comes (Step.CallMove id layout)
  moved id layout e = at_position (appended object.banks fresh [] position)
    where
      fresh : List Bank
      fresh = opened_banks layout.members 0 object.delta now

      here : position ≡ length object.banks → (get_or fresh member no_bank ≡ no_bank)
          ⊎ (get_or fresh member no_bank ≡ opened_bank (0 + member) object.delta now) →
          label_at (get_or fresh member no_bank) tag ≡ Some label → Comes (Step.CallMove id layout)
      here p (inl none) e = absurd (unknown_label tag label (sym (ap (λ bank. label_at bank tag) none) ∙ e))
      here p (inr new) e =
          let opening = opened_label (0 + member) object.delta now tag label (sym (ap (λ bank. label_at bank tag) new) ∙ e) in
          inr (inr (record {
            layout = layout;
            id = id;
            moves = refl;
            new = p ∙ sound.shape.banks;
            opening = opening.0;
            finalized = opening.1;
          }))

      at_position : (get_or (object.banks ++ fresh ∷ []) position [] ≡ get_or object.banks position [])
          ⊎ ((position ≡ length object.banks) × (get_or (object.banks ++ fresh ∷ []) position [] ≡ fresh)) →
          Comes (Step.CallMove id layout)
      at_position (inl old) = inl (sym (ap (λ banks. label_at (get_or banks member no_bank) tag) old) ∙ e)
      at_position (inr new) =
          here new.0 (opened_get layout.members 0 object.delta now member)
          (sym (ap (λ banks. label_at (get_or banks member no_bank) tag) new.1) ∙ e)

  pub labels_stepped : (step : Step) → ComesWithIts fragment object step now position member tag label
  labels_stepped step e = grind (arith, banks_left, kept, moved, retired_cases, retired_label, served)
