-- What stays where a node hears of layouts and of a start, and where a bank is put back.
use Rattle.std.proofs.Common.{◌≡◌, ◌≤◌, ◌^◌, ℕ, suc, Bool, true, false, ◌&&◌, cond, eqb, eqb-true, nat_lt, ltb-true, List, [], ◌∷◌, ◌++◌}
use Rattle.std.proofs.Common.{Option, Some, None, IsSome, refl, sym, subst, ap, ◌∙◌, arith}
use Rattle.std.proofs.lemmas.Bool.{false≢true}
use Rattle.layout.specs.Layout.{Layout}
use Rattle.letter.specs.declared.letter.Letter.{Letter}
use Rattle.letter.specs.declared.start.Start.{Start}
use Rattle.local_object.specs.declared.kept_bank.KeptBank.{KeptBank}
use Rattle.local_object.specs.Outcomes.{layouts_learnt, learnt_from}
use Rattle.local_object.specs.Local.{LocalObject, Place, added_place, bank_here, bank_in, bank_or_opened, layout_here, layout_in}
use Rattle.local_object.specs.Local.{heard_place, heard_start_if, learnt_if, with_bank_here, with_heard}
use Rattle.local_object.proofs.LearntLemmas.{place_learnt_if, place_started}

-- a position of which a node hears has no bank
bank_push : (places : List Place) (p : Place) (n : ℕ) → p.bank ≡ None
    → bank_in (heard_place (places ++ p ∷ []) n) ≡ bank_in (heard_place places n)
bank_push [] p n none = go (eqb p.position n)
  where
    go : (b : Bool) → bank_in (cond b (Some p) None) ≡ None
    go true = none
    go false = refl
bank_push (q ∷ qs) p n none = go (eqb q.position n) (bank_push qs p n none)
  where
    go : (b : Bool) → bank_in (heard_place (qs ++ p ∷ []) n) ≡ bank_in (heard_place qs n)
        → bank_in (cond b (Some q) (heard_place (qs ++ p ∷ []) n)) ≡ bank_in (cond b (Some q) (heard_place qs n))
    go true rest = refl
    go false rest = rest

bank_added : (places : List Place) (o : Option Place) (m : ℕ) (layout : Layout) (n : ℕ)
    → bank_in (heard_place (added_place places o m layout) n) ≡ bank_in (heard_place places n)
bank_added places None m layout n = bank_push places (record { position = m; layout = layout; bank = None }) n refl
bank_added places (Some place) m layout n = refl

bank_learnt_if : (local : LocalObject) (m : ℕ) (next : Option Layout) (n : ℕ)
    → bank_in (heard_place (learnt_if local m next).places n) ≡ bank_in (heard_place local.places n)
bank_learnt_if local m None n = refl
bank_learnt_if local m (Some layout) n = bank_added local.places (heard_place local.places m) m layout n

delta_learnt_if : (local : LocalObject) (m : ℕ) (next : Option Layout) → (learnt_if local m next).delta ≡ local.delta
delta_learnt_if local m None = refl
delta_learnt_if local m (Some layout) = refl

start_learnt_if : (local : LocalObject) (m : ℕ) (next : Option Layout) → (learnt_if local m next).start ≡ local.start
start_learnt_if local m None = refl
start_learnt_if local m (Some layout) = refl

calls_learnt_if : (local : LocalObject) (m : ℕ) (next : Option Layout) → (learnt_if local m next).calls ≡ local.calls
calls_learnt_if local m None = refl
calls_learnt_if local m (Some layout) = refl

node_learnt_if : (local : LocalObject) (m : ℕ) (next : Option Layout) → (learnt_if local m next).node ≡ local.node
node_learnt_if local m None = refl
node_learnt_if local m (Some layout) = refl

-- after the node hears of a start, if it hears of one

bank_started : (local : LocalObject) (o : Option Start) (n : ℕ)
    → bank_in (heard_place (heard_start_if local o).places n) ≡ bank_in (heard_place local.places n)
bank_started local None n = refl
bank_started local (Some start) n = bank_added local.places (heard_place local.places start.position) start.position start.layout n

delta_started : (local : LocalObject) (o : Option Start) → (heard_start_if local o).delta ≡ local.delta
delta_started local None = refl
delta_started local (Some start) = refl

calls_started : (local : LocalObject) (o : Option Start) → (heard_start_if local o).calls ≡ local.calls
calls_started local None = refl
calls_started local (Some start) = refl

node_started : (local : LocalObject) (o : Option Start) → (heard_start_if local o).node ≡ local.node
node_started local None = refl
node_started local (Some start) = refl

later_started : (local : LocalObject) (o : Option Start) → local.start ≤ (heard_start_if local o).start
later_started local None = omega arith
later_started local (Some start) = go (nat_lt local.start start.position) refl (nat_lt start.position (2 ^ 31))
  where
    go : (a : Bool) → nat_lt local.start start.position ≡ a → (b : Bool) → local.start ≤ cond (a && b) start.position local.start
    go true e true = let less = ltb-true local.start start.position e in omega (arith, less)
    go true e false = omega arith
    go false e b = omega arith

layout_of_place : (o : Option Place) (layout : Layout) → layout_in o ≡ Some layout
    → (p : Place) × (o ≡ Some p) × (layout_in (Some p) ≡ Some layout)
layout_of_place None layout e = absurd (cc)
layout_of_place (Some p) layout e = (p, refl, e)

-- what a node keeps after it hears of the layouts in a letter, and of the start that it tells
module _ (local : LocalObject) (letter : Letter) where
  abbrev n : ℕ
  n = letter.message.position

  pub node_heard : (learnt_from local letter).node ≡ local.node
  node_heard =
      node_started (layouts_learnt local letter) letter.start ∙ node_learnt_if (with_heard local n letter.layout) (suc n) letter.next

  pub delta_heard : (learnt_from local letter).delta ≡ local.delta
  delta_heard =
      delta_started (layouts_learnt local letter) letter.start ∙ delta_learnt_if (with_heard local n letter.layout) (suc n) letter.next

  -- the start is not an earlier one
  pub start_heard : local.start ≤ (learnt_from local letter).start
  start_heard =
      subst (λ s. s ≤ (learnt_from local letter).start) (start_learnt_if (with_heard local n letter.layout) (suc n) letter.next)
      (later_started (layouts_learnt local letter) letter.start)

  pub calls_heard : (learnt_from local letter).calls ≡ local.calls
  calls_heard =
      calls_started (layouts_learnt local letter) letter.start ∙ calls_learnt_if (with_heard local n letter.layout) (suc n) letter.next

  pub bank_heard : (m : ℕ) → bank_in (heard_place (learnt_from local letter).places m) ≡ bank_in (heard_place local.places m)
  bank_heard m =
      bank_started (layouts_learnt local letter) letter.start m
      ∙ bank_learnt_if (with_heard local n letter.layout) (suc n) letter.next m
      ∙ bank_added local.places (heard_place local.places n) n letter.layout m

  pub bank_here_heard : (m member : ℕ) → bank_here (learnt_from local letter) m member ≡ bank_here local m member
  bank_here_heard m member =
      ap (λ o. bank_or_opened o member (learnt_from local letter).delta) (bank_heard m)
      ∙ ap (bank_or_opened (bank_in (heard_place local.places m)) member) delta_heard

  pub layout_kept : (m : ℕ) (layout : Layout) → layout_here local m ≡ Some layout → layout_here (learnt_from local letter) m ≡ Some layout
  layout_kept m layout e =
      let p = layout_of_place (heard_place local.places m) layout e in
      let first : heard_place (with_heard local n letter.layout).places m ≡ Some p.0 =
      place_learnt_if local n (Some letter.layout) m p.0 p.1 in
      let second = place_learnt_if (with_heard local n letter.layout) (suc n) letter.next m p.0 first in
      ap layout_in (place_started (layouts_learnt local letter) letter.start m p.0 second) ∙ p.2

-- Banks that are put

pub bank_put_there : (places : List Place) (n : ℕ) (bank : Option KeptBank) → IsSome (heard_place places n)
    → bank_in (heard_place (with_bank_here places n bank) n) ≡ bank
bank_put_there [] n bank known = absurd (false≢true known)
bank_put_there (p ∷ ps) n bank known = go (eqb p.position n) refl known (λ k. bank_put_there ps n bank k)
  where
    go : (b : Bool) → eqb p.position n ≡ b → IsSome (cond b (Some p) (heard_place ps n))
        → (IsSome (heard_place ps n) → bank_in (heard_place (with_bank_here ps n bank) n) ≡ bank)
        → bank_in (heard_place (cond b (record p { bank = bank } ∷ ps) (p ∷ with_bank_here ps n bank)) n) ≡ bank
    go true t known rest = ap (λ b. bank_in (cond b (Some (record p { bank = bank })) (heard_place ps n))) t
    go false t known rest = ap (λ b. bank_in (cond b (Some p) (heard_place (with_bank_here ps n bank) n))) t ∙ rest known

pub bank_put_elsewhere : (places : List Place) (n : ℕ) (bank : Option KeptBank) (m : ℕ) → (m ≡ n → ⊥)
    → bank_in (heard_place (with_bank_here places n bank) m) ≡ bank_in (heard_place places m)
bank_put_elsewhere [] n bank m other = refl
bank_put_elsewhere (p ∷ ps) n bank m other =
    go (eqb p.position n) (eqb p.position m) refl refl (bank_put_elsewhere ps n bank m other)
  where
    go : (a b : Bool) → eqb p.position n ≡ a → eqb p.position m ≡ b
        → bank_in (heard_place (with_bank_here ps n bank) m) ≡ bank_in (heard_place ps m)
        → bank_in (heard_place (cond a (record p { bank = bank } ∷ ps) (p ∷ with_bank_here ps n bank)) m)
        ≡ bank_in (cond b (Some p) (heard_place ps m))
    go true true s t rest = absurd (other (sym (eqb-true p.position m t) ∙ eqb-true p.position n s))
    go true false s t rest = ap (λ b. bank_in (cond b (Some (record p { bank = bank })) (heard_place ps m))) t
    go false true s t rest = ap (λ b. bank_in (cond b (Some p) (heard_place (with_bank_here ps n bank) m))) t
    go false false s t rest = ap (λ b. bank_in (cond b (Some p) (heard_place (with_bank_here ps n bank) m))) t ∙ rest
