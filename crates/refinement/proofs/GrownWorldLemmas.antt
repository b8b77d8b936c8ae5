-- The world with one more position, of which only the node that moves objects has heard.
use Rattle.std.proofs.Common.{◌≡◌, ℕ, zero, suc, ◌+◌, ◌<◌, ◌⊎◌, inl, inr, true, length, List, [], ◌∷◌, ◌++◌}
use Rattle.std.proofs.Common.{map, Option, Some, None, is_some, get_or, slice_get, refl, sym, ap, ◌∙◌, arith}
use Rattle.std.proofs.lemmas.List.{get_or_append_left, length-map, map-append}
use Rattle.std.proofs.lemmas.Option.{same_Some, slice_get-get_or, slice_get_past, slice_get_within}
use Rattle.std.proofs.Math.Seq.{get_or-append_seam}
use Rattle.layout.specs.Layout.{Layout, IsLawful}
use Rattle.bank.specs.Bank.{Bank, opened_bank}
use Rattle.bank.specs.Pointer.{status_of}
use Rattle.bank.proofs.RememberedBankLemmas.{remembered-opened}
use Rattle.record.specs.Records.{no_bank, no_layout}
use Rattle.soundness.proofs.ListLemmas.{all_push, all_weaker}
use Rattle.record.specs.Fragments.{Code}
use Rattle.network.specs.Worlds.{ClusterFile, World, member_bank, known_layouts, new_banks}
use Rattle.local_object.specs.Local.{LocalObject, bank_here, bank_or_opened, last_position, layout_here, with_heard}
use Rattle.starts.specs.Starts.{HasFinal, IsStart}
use Rattle.letter.specs.declared.letter.Letter.{Letter}
use Rattle.refinement.specs.Parts.{IsKeptOf, IsPartOf, WasSentAs}
use Rattle.refinement.specs.WellFormed.{HasAsked, IsWellFormed, member_count}
use Rattle.local_object.proofs.HeardPlaceLemmas.{bank_learnt, layout_learnt, layout_new, layout_stays, no_bank_here}
use Rattle.starts.proofs.BankRowLemmas.{new_count}
use Rattle.refinement.proofs.KeptBankLemmas.{kept_as}
use Rattle.refinement.proofs.LetterLemmas.{in_front}
use Rattle.local_object.proofs.LastPositionLemmas.{below_last, last_known}

-- Lists with one more at the end

split_push : {A : Type 0} (xs : List A) (y x : A) (i : ℕ) → slice_get (xs ++ y ∷ []) i ≡ Some x →
    (slice_get xs i ≡ Some x) ⊎ ((i ≡ length xs) × (y ≡ x))
split_push [] y x zero e = inr (refl, same_Some y x e)
split_push [] y x (suc i) e = absurd (cc)
split_push (z ∷ xs) y x zero e = inl e
split_push (z ∷ xs) y x (suc i) e = go (split_push xs y x i e)
  where
    go : (slice_get xs i ≡ Some x) ⊎ ((i ≡ length xs) × (y ≡ x)) → (slice_get xs i ≡ Some x) ⊎ ((suc i ≡ suc (length xs)) × (y ≡ x))
    go (inl there) = inl there
    go (inr here) = inr (ap suc here.0, here.1)

-- a new bank is one that its node opens
pub new_bank : (files : ℕ → ClusterFile) (servers : List ℕ) (first member server : ℕ) → slice_get servers member ≡ Some server →
    get_or (new_banks files servers first) member no_bank ≡ opened_bank (first + member) (files server).delta 0
new_bank files [] first member server e = absurd (cc)
new_bank files (one ∷ servers) first zero server e =
    let same : first ≡ first + 0 = omega arith in
    ap (λ n. opened_bank n (files one).delta 0) same ∙ ap (λ n. opened_bank (first + 0) (files n).delta 0) (same_Some one server e)
new_bank files (one ∷ servers) first (suc member) server e =
    let same : suc first + member ≡ first + suc member = omega arith in
    new_bank files servers (suc first) member server e ∙ ap (λ n. opened_bank n (files server).delta 0) same

-- The world with one more position

module _ (fragment : Code) (world : World) (layout : Layout) (formed : IsWellFormed fragment world) where
  abbrev pub grown : World
  grown = record world {
    later = world.later ++ layout ∷ [];
    banks = world.banks ++ new_banks world.files layout.members 0 ∷ [];
  }

  -- the new position
  abbrev new_position : ℕ
  new_position = suc (length world.later)

  bank_count : length world.banks ≡ new_position
  bank_count =
      sym (length-map world.banks length) ∙ ap length formed.banks ∙ length-map (known_layouts world 0) member_count

  pub grown_formed : IsLawful layout → IsWellFormed fragment grown
  grown_formed lawful =
      let new = new_banks world.files layout.members 0 in record {
        one = formed.one;
        lawful = all_push IsLawful (known_layouts world 0) layout formed.lawful lawful;
        banks = map-append length world.banks (new ∷ [])
            ∙ ap (λ l. l ++ length new ∷ []) formed.banks
            ∙ ap (λ n. map member_count (known_layouts world 0) ++ n ∷ []) (new_count world.files layout.members 0)
            ∙ sym (map-append member_count (known_layouts world 0) (layout ∷ []));
        ids = formed.ids;
        entries = formed.entries;
        asked = all_weaker (HasAsked fragment world) (HasAsked fragment grown) (λ call has. record {
          layout = has.layout;
          at = in_front (known_layouts world 0) (layout ∷ []) call.phase.position has.layout has.at;
          asked = has.asked;
        }) world.calls formed.asked;
      }

  known_still : (node q : ℕ) (other : Layout) → slice_get (known_layouts world node) q ≡ Some other →
      slice_get (known_layouts grown node) q ≡ Some other
  known_still node q other e = in_front (known_layouts world node) (layout ∷ []) q other e

  known_or_new : (node q : ℕ) (other : Layout) → slice_get (known_layouts grown node) q ≡ Some other →
      (slice_get (known_layouts world node) q ≡ Some other) ⊎ ((q ≡ new_position) × (layout ≡ other))
  known_or_new node q other e = split_push (known_layouts world node) layout other q e

  known_new : (node : ℕ) → slice_get (known_layouts grown node) new_position ≡ Some layout
  known_new node = at_last (known_layouts world node)
    where
      at_last : (xs : List Layout) → slice_get (xs ++ layout ∷ []) (length xs) ≡ Some layout
      at_last [] = refl
      at_last (x ∷ xs) = at_last xs

  bank_still : (node q member : ℕ) (other : Layout) → slice_get (known_layouts world node) q ≡ Some other →
      member_bank grown q member ≡ member_bank world q member
  bank_still node q member other at =
      let within = slice_get_within (known_layouts world node) q other at in
      ap (λ row. get_or row member no_bank)
      (get_or_append_left world.banks (new_banks world.files layout.members 0 ∷ []) [] q (omega (arith, bank_count, within)))

  bank_new : (member server : ℕ) → slice_get layout.members member ≡ Some server →
      member_bank grown new_position member ≡ opened_bank member (world.files server).delta 0
  bank_new member server at =
      ap (λ n. get_or (get_or grown.banks n []) member no_bank) (sym bank_count)
      ∙ ap (λ row. get_or row member no_bank) (get_or-append_seam world.banks (new_banks world.files layout.members 0) [] [])
      ∙ new_bank world.files layout.members 0 member server at
      ∙ (let same : 0 + member ≡ member = omega arith in ap (λ n. opened_bank n (world.files server).delta 0) same)

  -- starts and letters are those of the grown world too
  start_grown : (start : ℕ) → IsStart world start → IsStart grown start
  start_grown start is position less =
      let final = is position less in record {
        layout = final.layout;
        at = known_still 0 position final.layout final.at;
        members = final.members;
        quorum = final.quorum;
        final = all_weaker (HasFinal world position) (HasFinal grown position)
            (λ member there. ap (λ (b : Bank). status_of b.pointer) (bank_still 0 position member final.layout final.at) ∙ there)
            final.members final.final;
      }

  pub letter_grown : (letter : Letter) → WasSentAs world letter → WasSentAs grown letter
  letter_grown letter was = record {
    sent = was.sent;
    layout = known_still 0 letter.message.position letter.layout was.layout;
    next = λ other e. known_still 0 (suc letter.message.position) other (was.next other e);
    start = λ start e. let is = was.start start e in record {
      starts = start_grown start.position is.starts;
      layout = known_still 0 start.position start.layout is.layout;
    };
  }

  -- no node has heard of the new position
  unheard : (other : LocalObject) → IsPartOf world other → layout_here other new_position ≡ None
  unheard other part = go (layout_here other new_position) refl
    where
      past : slice_get (known_layouts world other.node) new_position ≡ None
      past = slice_get_past (known_layouts world other.node) new_position (omega arith)

      go : (o : Option Layout) → layout_here other new_position ≡ o → o ≡ None
      go None e = refl
      go (Some known) e = absurd (let wrong = sym (part.layouts new_position known e) ∙ past in cc)

  -- the banks that a node keeps are those of the grown world too
  banks_grown : (other : LocalObject) → IsPartOf world other → (q member : ℕ) (known : Layout) →
      slice_get (known_layouts grown other.node) q ≡ Some known → slice_get known.members member ≡ Some other.node →
      IsKeptOf (member_bank grown q member) (bank_here other q member)
  banks_grown other part q member known at is = go (known_or_new other.node q known at)
    where
      go : (slice_get (known_layouts world other.node) q ≡ Some known) ⊎ ((q ≡ new_position) × (layout ≡ known)) →
          IsKeptOf (member_bank grown q member) (bank_here other q member)
      go (inl old) = kept_as (sym (bank_still other.node q member known old)) refl (part.banks q member known old is)
      go (inr new) =
          kept_as
          (sym (ap (λ n. member_bank grown n member) new.0
          ∙ bank_new member other.node (ap (λ (l : Layout). slice_get l.members member) new.1 ∙ is)
          ∙ ap (λ d. opened_bank member d 0) (sym part.delta)))
          (ap (λ o. bank_or_opened o member other.delta) (sym (no_bank_here other new_position (unheard other part)))
          ∙ ap (λ n. bank_here other n member) (sym new.0))
          (remembered-opened member other.delta 0)

  -- the parts of nodes that do not move objects
  pub other_grown : (other : LocalObject) → IsPartOf world other → (other.node ≡ (world.files other.node).mover → ⊥) → IsPartOf grown other
  other_grown other part no_mover = record {
    delta = part.delta;
    start = start_grown other.start part.start;
    layouts = λ q known e. known_still other.node q known (part.layouts q known e);
    first = part.first;
    banks = banks_grown other part;
    calls = part.calls;
    mover = λ moves. absurd (no_mover moves);
  }

  -- the part of the node that moves objects, which hears of the new position
  pub own_grown : (local : LocalObject) → IsPartOf world local → IsPartOf grown (with_heard local new_position layout)
  own_grown local part = record {
    delta = part.delta;
    start = start_grown local.start part.start;
    layouts = λ q other e. known q other (layout_learnt local new_position layout q other e);
    first = first_still (layout_here local 0) refl part.first;
    banks = λ q member other at is.
        kept_as refl (sym (bank_learnt local new_position layout q member)) (banks_grown local part q member other at is);
    calls = part.calls;
    mover = λ moves q other at. heard moves q other (known_or_new local.node q other at);
  }
    where
      known : (q : ℕ) (other : Layout) → (layout_here local q ≡ Some other) ⊎ ((new_position ≡ q) × (layout ≡ other)) →
          slice_get (known_layouts grown local.node) q ≡ Some other
      known q other (inl old) = known_still local.node q other (part.layouts q other old)
      known q other (inr new) = ap (slice_get (known_layouts grown local.node)) (sym new.0) ∙ known_new local.node ∙ ap Some new.1

      first_still : (o : Option Layout) → layout_here local 0 ≡ o → is_some o ≡ true →
          is_some (layout_here (with_heard local new_position layout) 0) ≡ true
      first_still None e some = absurd (cc)
      first_still (Some other) e some = ap is_some (layout_stays local new_position layout 0 other e)

      heard : local.node ≡ (world.files local.node).mover → (q : ℕ) (other : Layout) →
          (slice_get (known_layouts world local.node) q ≡ Some other) ⊎ ((q ≡ new_position) × (layout ≡ other)) →
          layout_here (with_heard local new_position layout) q ≡ Some other
      heard moves q other (inl old) = layout_stays local new_position layout q other (part.mover moves q other old)
      heard moves q other (inr new) =
          ap (layout_here (with_heard local new_position layout)) new.0 ∙ layout_new local new_position layout (unheard local part)
          ∙ ap Some new.1

  -- the last position that the node has heard of is the last of the world
  pub last_is : (local : LocalObject) → IsPartOf world local → local.node ≡ (world.files local.node).mover →
      last_position local ≡ length world.later
  last_is local part moves =
      let layouts = known_layouts world local.node in
      let at = slice_get-get_or layouts (length world.later) no_layout (omega arith) in
      let heard = below_last local (length world.later) (get_or layouts (length world.later) no_layout)
      (part.mover moves (length world.later) (get_or layouts (length world.later) no_layout) at) in
      let last = last_known local part.first in
      let within : last_position local < suc (length world.later) =
      slice_get_within layouts (last_position local) last.0 (part.layouts (last_position local) last.0 last.1) in
      omega (arith, heard, within)
