-- Letters whose layouts are those that a node has heard of.
use Rattle.std.proofs.Common.{◌≡◌, ℕ, suc, ◌&&◌, Bool, true, false, cond, eqb, eqb-true, List, [], ◌∷◌, ◌++◌, Option, Some, None, refl}
use Rattle.std.proofs.Common.{sym, ap, ap₂, ◌∙◌, nat_eq, arith}
use Rattle.std.proofs.lemmas.Bool.{ne_eqb}
use Rattle.std.specs.Cmp.Lexicographic.{pointwise, same_text}
use Rattle.layout.specs.Layout.{Layout}
use Rattle.letter.specs.declared.letter.Letter.{Letter}
use Rattle.letter.specs.declared.start.Start.{Start}
use Rattle.local_object.specs.Agreement.{agrees, if_there, is_heard, is_not_another, knows_all_of, same_layout, start_passes}
use Rattle.local_object.specs.Outcomes.{layouts_learnt, learnt_from}
use Rattle.local_object.specs.Local.{LocalObject, Place, added_place, heard_start_if, layout_here, layout_in}
use Rattle.local_object.specs.Local.{with_heard, learnt_if, heard_place}
use Rattle.local_object.proofs.HeardPlaceLemmas.{layout_stays}
use Rattle.local_object.proofs.LearntLemmas.{layout_learnt, layout_or, place_new}

both_first : (a b : Bool) → (a && b) ≡ true → a ≡ true
both_first true b e = refl
both_first false b e = absurd (cc)

both_second : (a b : Bool) → (a && b) ≡ true → b ≡ true
both_second true b e = e
both_second false b e = absurd (cc)

pub layouts_same : (heard layout : Layout) → same_layout heard layout ≡ true → heard ≡ layout
layouts_same heard layout e =
    let k = eqb-true heard.k layout.k (both_first (eqb heard.k layout.k) (pointwise nat_eq heard.members layout.members) e) in
    let members = same_text heard.members layout.members
    (sym (both_second (eqb heard.k layout.k) (pointwise nat_eq heard.members layout.members) e)) in
    ap₂ (λ k members. let l : Layout = record { k = k; members = members } in l) k members

known_same : (o : Option Layout) (layout : Layout) → is_heard o layout ≡ true → o ≡ Some layout
known_same None layout e = absurd (cc)
known_same (Some heard) layout e = ap Some (layouts_same heard layout e)

not_another : (o : Option Layout) (layout : Layout) → is_not_another o layout ≡ true → layout_or o layout ≡ layout
not_another None layout e = refl
not_another (Some heard) layout e = layouts_same heard layout e

heard_not_another : (o : Option Layout) (layout : Layout) → is_heard o layout ≡ true → is_not_another o layout ≡ true
heard_not_another None layout e = refl
heard_not_another (Some heard) layout e = e

-- a position of which a node hears has the layout that it had, or else the one that it hears
layout_added : (places : List Place) (o : Option Place) (m : ℕ) (layout : Layout) → heard_place places m ≡ o
    → layout_in (heard_place (added_place places o m layout) m) ≡ Some (layout_or (layout_in o) layout)
layout_added places None m layout is =
    ap layout_in (place_new places m (record { position = m; layout = layout; bank = None }) refl is)
layout_added places (Some p) m layout is = ap layout_in is

other_pushed : (places : List Place) (p : Place) (m : ℕ) → eqb p.position m ≡ false →
    heard_place (places ++ p ∷ []) m ≡ heard_place places m
other_pushed [] p m other = ap (λ b. cond b (Some p) None) other
other_pushed (q ∷ qs) p m other = ap (λ o. cond (eqb q.position m) (Some q) o) (other_pushed qs p m other)

other_added : (places : List Place) (o : Option Place) (n : ℕ) (layout : Layout) (m : ℕ) → eqb n m ≡ false
    → heard_place (added_place places o n layout) m ≡ heard_place places m
other_added places None n layout m other = other_pushed places (record { position = n; layout = layout; bank = None }) m other
other_added places (Some p) n layout m other = refl

not_next : (n : ℕ) → eqb n (suc n) ≡ false
not_next n = ne_eqb n (suc n) (λ e. omega (arith, e))

-- nothing is new of a position that is known
nothing_added : (places : List Place) (o : Option Place) (m : ℕ) (known layout : Layout) → layout_in o ≡ Some known
    → added_place places o m layout ≡ places
nothing_added places None m known layout e = absurd (cc)
nothing_added places (Some p) m known layout e = refl

module _ (local : LocalObject) (letter : Letter) where
  abbrev n : ℕ
  n = letter.message.position

  abbrev first : LocalObject
  first = with_heard local n letter.layout

  abbrev not_other : Bool
  not_other = if_there (is_not_another (layout_here local (suc n))) letter.next

  abbrev not_others : Bool
  not_others = not_other && start_passes is_not_another local letter.start

  abbrev next_heard : Bool
  next_heard = if_there (is_heard (layout_here local (suc n))) letter.next

  abbrev start_known : Bool
  start_known = start_passes is_heard local letter.start

  abbrev are_heard : Bool
  are_heard = next_heard && start_known

  -- what is known of a letter of which all is known
  module _ (known : knows_all_of local letter ≡ true) where
    here_is : is_heard (layout_here local n) letter.layout ≡ true
    here_is = both_first (is_heard (layout_here local n) letter.layout) are_heard known

    next_is : next_heard ≡ true
    next_is = both_first next_heard start_known (both_second (is_heard (layout_here local n) letter.layout) are_heard known)

    start_is : start_known ≡ true
    start_is = both_second next_heard start_known (both_second (is_heard (layout_here local n) letter.layout) are_heard known)

  -- after a letter that agrees, the node has heard of its positions with its layouts
  pub agreed : agrees local letter ≡ true → layout_here (learnt_from local letter) n ≡ Some letter.layout
  agreed e =
      layout_learnt local letter
      ∙ ap Some (not_another (layout_here local n) letter.layout
      (both_first (is_not_another (layout_here local n) letter.layout) not_others e))

  pub agreed_next : agrees local letter ≡ true → (next : Layout) → letter.next ≡ Some next
      → layout_here (learnt_from local letter) (suc n) ≡ Some next
  agreed_next e next is =
      let agrees_too : is_not_another (layout_here local (suc n)) next ≡ true =
      sym (ap (if_there (is_not_another (layout_here local (suc n)))) is)
      ∙ both_first not_other (start_passes is_not_another local letter.start)
      (both_second (is_not_another (layout_here local n) letter.layout) not_others e) in
      let learnt : layout_here (layouts_learnt local letter) (suc n) ≡ Some next =
      ap (λ o. layout_here (learnt_if first (suc n) o) (suc n)) is
      ∙ layout_added first.places (heard_place first.places (suc n)) (suc n) next refl
      ∙ ap (λ o. Some (layout_or (layout_in o) next))
      (other_added local.places (heard_place local.places n) n letter.layout (suc n) (not_next n))
      ∙ ap Some (not_another (layout_here local (suc n)) next agrees_too) in
      told letter.start learnt
    where
      told : (o : Option Start) → layout_here (layouts_learnt local letter) (suc n) ≡ Some next
          → layout_here (heard_start_if (layouts_learnt local letter) o) (suc n) ≡ Some next
      told None learnt = learnt
      told (Some start) learnt = layout_stays (layouts_learnt local letter) start.position start.layout (suc n) next learnt

  pub known_agrees : knows_all_of local letter ≡ true → agrees local letter ≡ true
  known_agrees e =
      ap₂ (λ a b. a && b) (heard_not_another (layout_here local n) letter.layout (here_is e))
      (ap₂ (λ a b. a && b) (go letter.next (next_is e)) (there letter.start (start_is e)))
    where
      go : (o : Option Layout) → if_there (is_heard (layout_here local (suc n))) o ≡ true
          → if_there (is_not_another (layout_here local (suc n))) o ≡ true
      go None e = refl
      go (Some next) e = heard_not_another (layout_here local (suc n)) next e

      there : (o : Option Start) → start_passes is_heard local o ≡ true → start_passes is_not_another local o ≡ true
      there None e = refl
      there (Some start) e = heard_not_another (layout_here local start.position) start.layout e

  -- a letter that is all known teaches no layout
  pub no_layout_new : knows_all_of local letter ≡ true → (learnt_from local letter).places ≡ local.places
  no_layout_new e =
      ap (λ (l : LocalObject). (heard_start_if (learnt_if l (suc n) letter.next) letter.start).places) known_here
      ∙ ap (λ (l : LocalObject). (heard_start_if l letter.start).places) (go letter.next (next_is e))
      ∙ started letter.start (start_is e)
    where
      known_here : first ≡ local
      known_here =
          ap (λ (ps : List Place). record local { places = ps })
          (nothing_added local.places (heard_place local.places n) n letter.layout letter.layout
          (known_same (layout_here local n) letter.layout (here_is e)))

      go : (o : Option Layout) → if_there (is_heard (layout_here local (suc n))) o ≡ true → learnt_if local (suc n) o ≡ local
      go None e = refl
      go (Some next) e =
          ap (λ (ps : List Place). record local { places = ps })
          (nothing_added local.places (heard_place local.places (suc n)) (suc n) next next
          (known_same (layout_here local (suc n)) next e))

      started : (o : Option Start) → start_passes is_heard local o ≡ true → (heard_start_if local o).places ≡ local.places
      started None e = refl
      started (Some start) e =
          nothing_added local.places (heard_place local.places start.position) start.position start.layout start.layout
          (known_same (layout_here local start.position) start.layout e)
