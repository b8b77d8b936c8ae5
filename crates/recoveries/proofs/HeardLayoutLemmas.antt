-- Which layouts a node has heard of, by the tests on the letters that it heeds.
use Rattle.std.proofs.Common.{◌≡◌, ℕ, suc, ◌⊎◌, inl, inr, nat_eq, Bool, true, false, ◌&&◌, eqb, eqb-true, eq-eqb, cond, List, Option, Some}
use Rattle.std.proofs.Common.{None}
use Rattle.std.proofs.Common.{refl, sym, ap, ap₂, ◌∙◌, arith}
use Rattle.std.proofs.lemmas.Option.{same_Some}
use Rattle.std.specs.Bool.{Decides}
use Rattle.std.specs.Cmp.Lexicographic.{pointwise}
use Rattle.std.proofs.lemmas.Bool.Decides.{Decides-eqb}
use Rattle.std.proofs.lemmas.Slice.Eq.{slice_eq-Decides}
use Rattle.layout.specs.Layout.{Layout}
use Rattle.letter.specs.declared.letter.Letter.{Letter}
use Rattle.letter.specs.declared.start.Start.{Start}
use Rattle.local_object.specs.Local.{LocalObject, heard_start_if, layout_here, learnt_if, with_heard}
use Rattle.local_object.specs.Agreement.{agrees, if_there, is_heard, is_not_another, knows_all_of, same_layout, start_passes}
use Rattle.local_object.proofs.HeardPlaceLemmas.{layout_learnt, layout_new, layout_stays}

-- the node has heard of no layout for the position, or of this one
abbrev pub Fits : LocalObject → (position : ℕ) → Layout → Type 0
Fits local position layout =
    (layout_here local position ≡ None) ⊎ (layout_here local position ≡ Some layout)

pub both : (a b : Bool) → (a && b) ≡ true → (a ≡ true) × (b ≡ true)
both true b e = (refl, e)
both false b e = absurd (cc)

members_decided : (xs ys : List ℕ) → Decides (pointwise nat_eq xs ys) (xs ≡ ys)
members_decided xs ys = slice_eq-Decides Decides-eqb xs ys (pointwise nat_eq xs ys) refl

pub layouts_same : (heard layout : Layout) → same_layout heard layout ≡ true → heard ≡ layout
layouts_same heard layout e =
    let is = both (eqb heard.k layout.k) (pointwise nat_eq heard.members layout.members) e in
    ap₂ (λ (k : ℕ) (members : List ℕ). let l : Layout = record { k = k; members = members } in l)
    (eqb-true heard.k layout.k is.0) ((members_decided heard.members layout.members).0 is.1)

-- a layout that was heard of is this one, if it is the same
pub itself_heard : (layout : Layout) → is_heard (Some layout) layout ≡ true
itself_heard layout =
    ap₂ (λ a b. a && b) (eq-eqb layout.k layout.k refl) ((members_decided layout.members layout.members).1 refl)

fits_by : (o : Option Layout) (layout : Layout) → is_not_another o layout ≡ true → (o ≡ None) ⊎ (o ≡ Some layout)
fits_by None layout e = inl refl
fits_by (Some heard) layout e = inr (ap Some (layouts_same heard layout e))

heard_by : (o : Option Layout) (layout : Layout) → is_heard o layout ≡ true → o ≡ Some layout
heard_by None layout e = absurd (cc)
heard_by (Some heard) layout e = ap Some (layouts_same heard layout e)

there_by : (test : Layout → Bool) (o : Option Layout) (layout : Layout) → if_there test o ≡ true → o ≡ Some layout →
    test layout ≡ true
there_by test None layout e is = absurd (cc)
there_by test (Some other) layout e is = ap test (sym (same_Some other layout is)) ∙ e

passes_by : (test : Option Layout → Layout → Bool) (local : LocalObject) (o : Option Start) (start : Start) →
    start_passes test local o ≡ true → o ≡ Some start → test (layout_here local start.position) start.layout ≡ true
passes_by test local None start e is = absurd (cc)
passes_by test local (Some other) start e is =
    ap (λ (s : Start). test (layout_here local s.position) s.layout) (sym (same_Some other start is)) ∙ e

-- the three tests of a letter
three : (a b c : Bool) → (a && (b && c)) ≡ true → (a ≡ true) × (b ≡ true) × (c ≡ true)
three a b c e = let first = both a (b && c) e in let rest = both b c first.1 in (first.0, rest.0, rest.1)

agree_by : (local : LocalObject) (letter : Letter) → agrees local letter ≡ true →
    (is_not_another (layout_here local letter.message.position) letter.layout ≡ true)
    × (if_there (is_not_another (layout_here local (suc letter.message.position))) letter.next ≡ true)
    × (start_passes is_not_another local letter.start ≡ true)
agree_by local letter e =
    three (is_not_another (layout_here local letter.message.position) letter.layout)
    (if_there (is_not_another (layout_here local (suc letter.message.position))) letter.next)
    (start_passes is_not_another local letter.start) e

-- a letter with which the node agrees fits what it has heard of
pub letter_fits : (local : LocalObject) (letter : Letter) → agrees local letter ≡ true →
    Fits local letter.message.position letter.layout
letter_fits local letter e =
    fits_by (layout_here local letter.message.position) letter.layout (agree_by local letter e).0

pub next_fits : (local : LocalObject) (letter : Letter) → agrees local letter ≡ true → (next : Layout) → letter.next ≡ Some next →
    Fits local (suc letter.message.position) next
next_fits local letter e next is =
    let o = layout_here local (suc letter.message.position) in
    fits_by o next (there_by (is_not_another o) letter.next next (agree_by local letter e).1 is)

pub start_fits : (local : LocalObject) (letter : Letter) → agrees local letter ≡ true → (start : Start) → letter.start ≡ Some start →
    Fits local start.position start.layout
start_fits local letter e start is =
    fits_by (layout_here local start.position) start.layout
    (passes_by is_not_another local letter.start start (agree_by local letter e).2 is)

know_by : (local : LocalObject) (letter : Letter) → knows_all_of local letter ≡ true →
    (is_heard (layout_here local letter.message.position) letter.layout ≡ true)
    × (if_there (is_heard (layout_here local (suc letter.message.position))) letter.next ≡ true)
    × (start_passes is_heard local letter.start ≡ true)
know_by local letter e =
    three (is_heard (layout_here local letter.message.position) letter.layout)
    (if_there (is_heard (layout_here local (suc letter.message.position))) letter.next) (start_passes is_heard local letter.start) e

-- the layouts of a letter are heard of, if the node knows all of them
pub letter_heard : (local : LocalObject) (letter : Letter) → knows_all_of local letter ≡ true →
    layout_here local letter.message.position ≡ Some letter.layout
letter_heard local letter e =
    heard_by (layout_here local letter.message.position) letter.layout (know_by local letter e).0

pub next_heard : (local : LocalObject) (letter : Letter) → knows_all_of local letter ≡ true → (next : Layout) → letter.next ≡ Some next →
    layout_here local (suc letter.message.position) ≡ Some next
next_heard local letter e next is =
    let o = layout_here local (suc letter.message.position) in
    heard_by o next (there_by (is_heard o) letter.next next (know_by local letter e).1 is)

pub start_heard : (local : LocalObject) (letter : Letter) → knows_all_of local letter ≡ true → (start : Start) →
    letter.start ≡ Some start → layout_here local start.position ≡ Some start.layout
start_heard local letter e start is =
    heard_by (layout_here local start.position) start.layout
    (passes_by is_heard local letter.start start (know_by local letter e).2 is)

-- the layout of a position after the node hears of one
abbrev pub or_heard : Option Layout → Bool → Layout → Option Layout
or_heard None b layout = cond b (Some layout) None
or_heard (Some known) b layout = Some known

pub layout_after : (local : LocalObject) (p : ℕ) (layout : Layout) (q : ℕ) →
    layout_here (with_heard local p layout) q ≡ or_heard (layout_here local q) (eqb p q) layout
layout_after local p layout q = go (layout_here local q) refl (layout_here (with_heard local p layout) q) refl
  where
    -- where nothing was known, the position is the one that was heard of, or it is still not known
    new : layout_here local q ≡ None → (o : Option Layout) → layout_here (with_heard local p layout) q ≡ o → (b : Bool) → eqb p q ≡ b →
        o ≡ cond b (Some layout) None
    new none o e true t =
        sym e ∙ ap (layout_here (with_heard local p layout)) (sym (eqb-true p q t))
        ∙ layout_new local p layout (ap (layout_here local) (eqb-true p q t) ∙ none)
    new none None e false t = refl
    new none (Some other) e false t = absurd (off (layout_learnt local p layout q other e))
      where
        off : (layout_here local q ≡ Some other) ⊎ ((p ≡ q) × (layout ≡ other)) → ⊥
        off (inl known) = absurd (let wrong : None ≡ Some other = sym none ∙ known in cc)
        off (inr is) = absurd (let wrong : false ≡ true = sym t ∙ eq-eqb p q is.0 in cc)

    go : (known : Option Layout) → layout_here local q ≡ known → (o : Option Layout) → layout_here (with_heard local p layout) q ≡ o →
        o ≡ or_heard known (eqb p q) layout
    go None none o e = new none o e (eqb p q) refl
    go (Some known) is o e = sym e ∙ layout_stays local p layout q known is

-- what fits is known after the node heard of it
pub fits_known : (local : LocalObject) (p : ℕ) (layout : Layout) → Fits local p layout →
    layout_here (with_heard local p layout) p ≡ Some layout
fits_known local p layout (inl none) = layout_new local p layout none
fits_known local p layout (inr known) = layout_stays local p layout p layout known

-- what fits one position fits after the node heard of another one
pub fits_later : (local : LocalObject) (p : ℕ) (layout : Layout) (next : Layout) → Fits local (suc p) next →
    Fits (with_heard local p layout) (suc p) next
fits_later local p layout next fits = go fits
  where
    apart : (o : Option Layout) → or_heard o (eqb p (suc p)) layout ≡ o
    apart (Some known) = refl
    apart None = off (eqb p (suc p)) refl
      where
        off : (b : Bool) → eqb p (suc p) ≡ b → cond b (Some layout) None ≡ None
        off true t = absurd (let same = eqb-true p (suc p) t in omega (arith, same))
        off false t = refl

    same : layout_here (with_heard local p layout) (suc p) ≡ layout_here local (suc p)
    same = layout_after local p layout (suc p) ∙ apart (layout_here local (suc p))

    go : Fits local (suc p) next → Fits (with_heard local p layout) (suc p) next
    go (inl none) = inl (same ∙ none)
    go (inr known) = inr (same ∙ known)

-- What stays known, and what a copy that has not heard of a position tells of the node

pub stays_if : (local : LocalObject) (p : ℕ) (o : Option Layout) (q : ℕ) (layout : Layout) → layout_here local q ≡ Some layout →
    layout_here (learnt_if local p o) q ≡ Some layout
stays_if local p None q layout e = e
stays_if local p (Some other) q layout e = layout_stays local p other q layout e

pub stays_started : (local : LocalObject) (o : Option Start) (q : ℕ) (layout : Layout) → layout_here local q ≡ Some layout →
    layout_here (heard_start_if local o) q ≡ Some layout
stays_started local None q layout e = e
stays_started local (Some start) q layout e = layout_stays local start.position start.layout q layout e

unheard_by : (o : Option Layout) (b : Bool) (layout : Layout) → or_heard o b layout ≡ None → (o ≡ None) × (b ≡ false)
unheard_by None true layout e = absurd (cc)
unheard_by None false layout e = (refl, refl)
unheard_by (Some known) b layout e = absurd (cc)

or_same : (o : Option Layout) (layout : Layout) → or_heard o false layout ≡ o
or_same None layout = refl
or_same (Some known) layout = refl

-- a position that is not known after the copy heard of another one was not known before, and is no other for the node
module _ (local copy : LocalObject) (p : ℕ) (layout : Layout) (q : ℕ) where
  pub unheard : layout_here (with_heard copy p layout) q ≡ None → layout_here copy q ≡ None
  unheard none = (unheard_by (layout_here copy q) (eqb p q) layout (sym (layout_after copy p layout q) ∙ none)).0

  pub fits_still : (other : Layout) → layout_here (with_heard copy p layout) q ≡ None → Fits local q other →
      Fits (with_heard local p layout) q other
  fits_still other none fits = go fits
    where
      same : layout_here (with_heard local p layout) q ≡ layout_here local q
      same =
          layout_after local p layout q
          ∙ ap (λ b. or_heard (layout_here local q) b layout)
          (unheard_by (layout_here copy q) (eqb p q) layout (sym (layout_after copy p layout q) ∙ none)).1
          ∙ or_same (layout_here local q) layout

      go : Fits local q other → Fits (with_heard local p layout) q other
      go (inl unknown) = inl (same ∙ unknown)
      go (inr known) = inr (same ∙ known)

module _ (local copy : LocalObject) (p : ℕ) (q : ℕ) where
  pub unheard_if : (o : Option Layout) → layout_here (learnt_if copy p o) q ≡ None → layout_here copy q ≡ None
  unheard_if None none = none
  unheard_if (Some layout) none = unheard local copy p layout q none

  pub fits_still_if : (o : Option Layout) (other : Layout) → layout_here (learnt_if copy p o) q ≡ None → Fits local q other →
      Fits (learnt_if local p o) q other
  fits_still_if None other none fits = fits
  fits_still_if (Some layout) other none fits = fits_still local copy p layout q other none fits
