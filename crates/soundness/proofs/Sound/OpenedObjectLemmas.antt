-- An object that was just opened is sound.
use Rattle.std.proofs.Common.{◌≡◌, ℕ, zero, suc, ◌+◌, ◌<◌, ◌⊎◌, Bool, true, false, cond, List, [], ◌∷◌}
use Rattle.std.proofs.Common.{length, get_or, Option, Some, None, is_some, refl, sym, subst, ap, ◌∙◌, inl, inr, arith}
use Rattle.std.proofs.lemmas.Option.{same_Some}
use Rattle.tag.specs.declared.tag.Tag.{Tag}
use Rattle.tag.specs.Tag.{tag_cmp, opening_tag, tag_eq}
use Rattle.tag.proofs.TagOrderLemmas.{tag_eq-same, tag_eq-true}
use Rattle.layout.specs.Layout.{Layout, IsLawful}
use Rattle.piece.specs.declared.piece.Piece.{Piece}
use Rattle.bank.specs.declared.row.Row.{Row}
use Rattle.bank.specs.Bank.{Bank, opening_row, empty_piece, opened_bank, piece_of, piece_of_row, knows}
use Rattle.bank.specs.Knowledge.{row_finalized, row_arrived}
use Rattle.bank.proofs.PieceRetentionLemmas.{opened_collected}
use Rattle.bank.proofs.RowChangeLemmas.{get-with_row}
use Rattle.bank.proofs.TrueAnswerLemmas.{opened_before}
use Rattle.record.specs.Records.{Object, layout_at, bank_at, no_bank}
use Rattle.record.specs.Legal.{IsOpenedAt, IsCaused}
use Rattle.record.specs.Fragments.{Code, IsCode, IsFragment, IsCoded}
use Rattle.soundness.specs.Sound.{IsSound}
use Rattle.record.specs.Steps.{opened_banks, opened_object}
use Rattle.std.specs.FinMap as map
use Rattle.soundness.proofs.Sound.ItemLemmas.{BankSound, sound_of}

-- what a bank has that was just opened

pub get-opened : (member : ℕ) (delta : Option ℕ) (now : ℕ) (tag : Tag) →
    map.get (opened_bank member delta now).rows tag ≡ cond (tag_eq tag opening_tag) (Some (opening_row member now)) None
get-opened member delta now tag =
    get-with_row map.empty opening_tag (λ o. opening_row member now) tag
    ∙ ap (λ o. cond (tag_eq tag opening_tag) (Some (opening_row member now)) o) (map.get-empty tag_cmp tag)

get-opened_here : (member : ℕ) (delta : Option ℕ) (now : ℕ) →
    map.get (opened_bank member delta now).rows opening_tag ≡ Some (opening_row member now)
get-opened_here member delta now =
    get-opened member delta now opening_tag ∙ ap (λ b. cond b (Some (opening_row member now)) None) (tag_eq-same opening_tag)

-- a tag that an opened bank has is the opening tag
opened_cases : {A : Type 0} (g : Option Row → Option A) (member : ℕ) (delta : Option ℕ) (now : ℕ) (tag : Tag) (x : A) → g None ≡ None →
    g (map.get (opened_bank member delta now).rows tag) ≡ Some x →
    (tag ≡ opening_tag) × (g (Some (opening_row member now)) ≡ Some x)
opened_cases g member delta now tag x none e = go (tag_eq tag opening_tag) refl (sym (ap g (get-opened member delta now tag)) ∙ e)
  where
    go : (b : Bool) → tag_eq tag opening_tag ≡ b → g (cond b (Some (opening_row member now)) None) ≡ Some x →
        (tag ≡ opening_tag) × (g (Some (opening_row member now)) ≡ Some x)
    go true h k = (tag_eq-true tag opening_tag h, k)
    go false h k = absurd (let no : None ≡ Some x = sym none ∙ k in cc)

pub opened_at : (member : ℕ) (delta : Option ℕ) (now : ℕ) → IsOpenedAt (opened_bank member delta now) now
opened_at member delta now = record {
  finalized = ap row_finalized (get-opened_here member delta now);
  arrived = ap row_arrived (get-opened_here member delta now);
}

pub opened_known : (member : ℕ) (delta : Option ℕ) (now : ℕ) (tag : Tag) → knows (opened_bank member delta now) tag ≡ true →
    tag ≡ opening_tag
opened_known member delta now tag known = go (tag_eq tag opening_tag) refl (sym (ap is_some (get-opened member delta now tag)) ∙ known)
  where
    go : (b : Bool) → tag_eq tag opening_tag ≡ b →
        is_some (cond b (Some (opening_row member now)) None) ≡ true → tag ≡ opening_tag
    go true h k = tag_eq-true tag opening_tag h
    go false h k = absurd (cc)

-- a bank that is not there has nothing
none_there : (tag : Tag) → map.get no_bank.rows tag ≡ None
none_there tag = map.get-empty tag_cmp tag

no_bank_gives : {A : Type 0} (g : Option Row → Option A) (tag : Tag) (x : A) → g None ≡ None →
    g (map.get no_bank.rows tag) ≡ Some x → ⊥
no_bank_gives g tag x none e = let no : None ≡ Some x = sym (ap g (none_there tag) ∙ none) ∙ e in cc

-- the banks of an opened position

pub opened_get : (servers : List ℕ) (member : ℕ) (delta : Option ℕ) (now i : ℕ) →
    (get_or (opened_banks servers member delta now) i no_bank ≡ no_bank)
    ⊎ (get_or (opened_banks servers member delta now) i no_bank ≡ opened_bank (member + i) delta now)
opened_get [] member delta now i = inl refl
opened_get (server ∷ servers) member delta now zero =
    let same : member ≡ member + 0 = omega arith in inr (ap (λ m. opened_bank m delta now) same)
opened_get (server ∷ servers) member delta now (suc i) = go (opened_get servers (suc member) delta now i)
  where
    go : (get_or (opened_banks servers (suc member) delta now) i no_bank ≡ no_bank)
        ⊎ (get_or (opened_banks servers (suc member) delta now) i no_bank ≡ opened_bank (suc member + i) delta now) →
        (get_or (opened_banks servers (suc member) delta now) i no_bank ≡ no_bank)
        ⊎ (get_or (opened_banks servers (suc member) delta now) i no_bank ≡ opened_bank (member + suc i) delta now)
    go (inl none) = inl none
    go (inr here) = let same : suc member + i ≡ member + suc i = omega arith in inr (here ∙ ap (λ m. opened_bank m delta now) same)

pub opened_there : (servers : List ℕ) (member : ℕ) (delta : Option ℕ) (now i : ℕ) → i < length servers →
    get_or (opened_banks servers member delta now) i no_bank ≡ opened_bank (member + i) delta now
opened_there [] member delta now i h = absurd (omega arith)
opened_there (server ∷ servers) member delta now zero h =
    let same : member ≡ member + 0 = omega arith in ap (λ m. opened_bank m delta now) same
opened_there (server ∷ servers) member delta now (suc i) h =
    let same : suc member + i ≡ member + suc i = omega arith in
    let below : i < length servers = omega arith in opened_there servers (suc member) delta now i below ∙ ap
    (λ m. opened_bank m delta now) same

pub opened_length : (servers : List ℕ) (member : ℕ) (delta : Option ℕ) (now : ℕ) →
    length (opened_banks servers member delta now) ≡ length servers
opened_length [] member delta now = refl
opened_length (server ∷ servers) member delta now = ap suc (opened_length servers (suc member) delta now)

-- what they know is the opening tag

pub no_bank_caused : (object : Object) (position : ℕ) → IsCaused object position no_bank
no_bank_caused object position = record {
  finalized = λ tag step e. absurd (no_bank_gives row_finalized tag step refl e);
  arrived = λ tag step e. absurd (no_bank_gives row_arrived tag step refl e);
  pending = λ step e. absurd (cc);
  final = λ step e. absurd (cc);
  retired = λ step e. absurd (cc);
}

pub opened_caused : (object : Object) (position member : ℕ) (delta : Option ℕ) (now : ℕ) →
    IsCaused object position (opened_bank member delta now)
opened_caused object position member delta now = record {
  finalized = λ tag step e. inl ((opened_cases row_finalized member delta now tag step refl e).0);
  arrived = λ tag step e. inl ((opened_cases row_arrived member delta now tag step refl e).0);
  pending = λ step e. absurd (cc);
  final = λ step e. absurd (cc);
  retired = λ step e. absurd (cc);
}

-- none is retired
pub either_unretired : (delta : Option ℕ) (now member : ℕ) (bank : Bank) →
    (bank ≡ no_bank) ⊎ (bank ≡ opened_bank (0 + member) delta now) → bank.retired ≡ None
either_unretired delta now member bank either = grind arith

-- what is so of banks that are not there, and of banks that were just opened

pub no_bank_sound : (fragment : Code) (object : Object) (now position member : ℕ) → BankSound fragment object now position member no_bank
no_bank_sound fragment object now position member = grind (arith, no_bank_caused, no_bank_gives, none_there)

opened_piece : (member : ℕ) (delta : Option ℕ) (now : ℕ) (kept : Piece) → piece_of (opened_bank member delta now) opening_tag ≡ Some kept →
    empty_piece member ≡ kept
opened_piece member delta now kept e = same_Some (empty_piece member) kept (sym (ap piece_of_row (get-opened_here member delta now)) ∙ e)

pub opened_sound : (fragment : Code) → IsCode fragment → (object : Object) (delta : Option ℕ) (now position member : ℕ) →
    BankSound fragment object now position member (opened_bank (0 + member) delta now)
opened_sound fragment code object delta now position member = record {
  caused = opened_caused object position (0 + member) delta now;
  past = opened_before (0 + member) delta now (suc now) (omega arith);
  coded = λ tag known.
      subst (λ t. IsCoded fragment object position member t (piece_of (opened_bank (0 + member) delta now) t))
      (sym (opened_known (0 + member) delta now tag known)) opening;
  next = record { pending = λ s e. absurd (cc); final = λ s e. absurd (cc) };
  collected = opened_collected (0 + member) delta now;
}
  where
    opening : IsCoded fragment object position member opening_tag (piece_of (opened_bank (0 + member) delta now) opening_tag)
    opening = record {
      value = [];
      journaled = inl (refl, refl);
      fits = λ kept e. subst (IsFragment fragment (layout_at object position) member []) (opened_piece (0 + member) delta now kept e)
          (record { point = omega arith; len = refl; bytes = sym (code.empty (layout_at object position).k member) });
    }

pub either_sound : {fragment : Code} → IsCode fragment → (object : Object) (delta : Option ℕ) (now position member : ℕ) (bank : Bank) →
    (bank ≡ no_bank) ⊎ (bank ≡ opened_bank (0 + member) delta now) → BankSound fragment object now position member bank
either_sound {fragment = fragment} code object delta now position member bank (inl none) =
    rw none (no_bank_sound fragment object now position member)
either_sound {fragment = fragment} code object delta now position member bank (inr new) =
    rw new (opened_sound fragment code object delta now position member)

-- An object that was just opened is sound
pub opening_sound : (fragment : Code) → IsCode fragment → (layout : Layout) (delta : Option ℕ) (now : ℕ) → IsLawful layout →
    IsSound fragment (opened_object layout delta now) now
opening_sound fragment code layout delta now lawful =
    sound_of (record {
      lawful = (lawful, tt);
      positions = refl;
      banks = refl;
      members = members;
      opened = opened;
      delta = deltas;
      retired = λ p i h k. unretired p i ∙ sym (unretired p 0);
      leading = λ p h. unretired p 0;
    })
    (record {
      in_turn = λ i j a b p q h. absurd (cc);
      ids = λ i j a b p q e. absurd (cc);
      moves = λ i j a b p q h k l. absurd (cc);
    }) (λ index call at. absurd (cc)) banks tt
  where
    object : Object
    object = opened_object layout delta now

    members : (p : ℕ) → p < 1 → length (get_or object.banks p []) ≡ length (layout_at object p).members
    members zero h = opened_length layout.members 0 delta now
    members (suc p) h = absurd (omega arith)

    opened : (p i : ℕ) → p < 1 → i < length (layout_at object p).members → (step : ℕ) × IsOpenedAt (bank_at object p i) step
    opened zero i h k = (now, rw (opened_there layout.members 0 delta now i k) (opened_at (0 + i) delta now))
    opened (suc p) i h k = absurd (omega arith)

    deltas : (p i : ℕ) → p < 1 → i < length (layout_at object p).members → (bank_at object p i).delta ≡ delta
    deltas zero i h k = ap (λ (bank : Bank). bank.delta) (opened_there layout.members 0 delta now i k)
    deltas (suc p) i h k = absurd (omega arith)

    unretired : (p i : ℕ) → (bank_at object p i).retired ≡ None
    unretired zero i = either_unretired delta now i (get_or (opened_banks layout.members 0 delta now) i no_bank)
        (opened_get layout.members 0 delta now i)
    unretired (suc p) i = refl

    banks : (p i : ℕ) → BankSound fragment object now p i (bank_at object p i)
    banks zero i = either_sound code object delta now zero i (get_or (opened_banks layout.members 0 delta now) i no_bank)
        (opened_get layout.members 0 delta now i)
    banks (suc p) i = no_bank_sound fragment object now (suc p) i
