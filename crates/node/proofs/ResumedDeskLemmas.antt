-- The calls of a desk beside the open moves of a node's objects, where a move begins or ends, or nothing changes.
use Rattle.std.proofs.Common.{◌≡◌, ℕ, Bool, true, false, cond, eqb, eqb-true, eq-eqb, List, [], Option, None, Some}
use Rattle.std.proofs.Common.{refl, sym, subst, ap, ◌∙◌}
use Rattle.std.proofs.lemmas.Bool.{false≢true}
use Rattle.std.proofs.lemmas.Option.{same_Some}
use Rattle.deeds.specs.Kept.{KeptNode}
use Rattle.deeds.specs.Named.{is_same_name}
use Rattle.deeds.proofs.NameLemmas.{names_decided}
use Rattle.local_object.specs.Local.{LocalObject}
use Rattle.recoveries.specs.Records.{IsKeptUnder, IsSame}
use Rattle.node_clients.specs.declared.open_call.OpenCall.{OpenCall}
use Rattle.node.specs.Recovering.{resumed_move}
use Rattle.node.proofs.OpenObjectLemmas.{HasOnlyMoves, KeepsOpen, is_open, same_keeps}

-- The calls of a desk beside what is open

-- these calls are exactly those of the moves that are open, each under its id
pub record Matches (open_at : (name : List ℕ) → (id : ℕ) → Bool) (calls : (id : ℕ) → Option OpenCall) : Type 0 where
  pub opens : (name : List ℕ) (id : ℕ) → open_at name id ≡ true → calls id ≡ Some (resumed_move name)
  pub there : (name : List ℕ) (id : ℕ) → calls id ≡ Some (resumed_move name) → open_at name id ≡ true
  pub only : (id : ℕ) (call : OpenCall) → calls id ≡ Some call → call ≡ resumed_move call.name

same_matches : (before after : (name : List ℕ) → (id : ℕ) → Bool) (old new : (id : ℕ) → Option OpenCall) →
    ((name : List ℕ) (id : ℕ) → after name id ≡ before name id) → ((id : ℕ) → new id ≡ old id) → Matches before old → Matches after new
same_matches before after old new open_same same is = record {
  opens = λ name id e. same id ∙ is.opens name id (sym (open_same name id) ∙ e);
  there = λ name id e. open_same name id ∙ is.there name id (sym (same id) ∙ e);
  only = λ id call e. is.only id call (sym (same id) ∙ e);
}

abbrev pub name_of_call : Option OpenCall → List ℕ
name_of_call None = []
name_of_call (Some call) = call.name

-- at one name and id a move begins or ends, in the objects and in the desk
module _ (before after : (name : List ℕ) → (id : ℕ) → Bool) (old new : (id : ℕ) → Option OpenCall) (name : List ℕ) (id : ℕ) (b : Bool)
    (apart : (other : List ℕ) (i : ℕ) → (i ≡ id → ⊥) → after other i ≡ before other i)
    (at : (other : List ℕ) → after other id ≡ cond (is_same_name name other) b (before other id))
    (alone : (other : List ℕ) → before other id ≡ true → is_same_name name other ≡ true)
    (here : new id ≡ cond b (Some (resumed_move name)) None) (others : (i : ℕ) → (i ≡ id → ⊥) → new i ≡ old i)
    (is : Matches before old) where
  opens_at : (other : List ℕ) → after other id ≡ true → new id ≡ Some (resumed_move other)
  opens_at other e = go (is_same_name name other) refl b refl (sym (at other) ∙ e)
    where
      go : (s : Bool) → is_same_name name other ≡ s → (c : Bool) → b ≡ c → cond s b (before other id) ≡ true →
          new id ≡ Some (resumed_move other)
      go true f true g opens =
          here ∙ ap (λ c. cond c (Some (resumed_move name)) None) g ∙ ap (λ n. Some (resumed_move n)) ((names_decided name other).0 f)
      go true f false g opens = absurd (false≢true (sym g ∙ opens))
      go false f c g opens = absurd (false≢true (sym f ∙ alone other opens))

  there_at : (other : List ℕ) → new id ≡ Some (resumed_move other) → after other id ≡ true
  there_at other e = go b refl (sym here ∙ e)
    where
      go : (c : Bool) → b ≡ c → cond c (Some (resumed_move name)) None ≡ Some (resumed_move other) → after other id ≡ true
      go true g same =
          at other
          ∙ ap (λ s. cond s b (before other id)) ((names_decided name other).1 (ap name_of_call same)) ∙ g
      go false g same = absurd (cc)

  only_at : (call : OpenCall) → new id ≡ Some call → call ≡ resumed_move call.name
  only_at call e = go b (sym here ∙ e)
    where
      go : (c : Bool) → cond c (Some (resumed_move name)) None ≡ Some call → call ≡ resumed_move call.name
      go true same = subst (λ (call : OpenCall). call ≡ resumed_move call.name) (same_Some (resumed_move name) call same) refl
      go false same = absurd (cc)

  changed_matches : Matches after new
  changed_matches = record { opens = opens; there = there; only = only }
    where
      opens : (other : List ℕ) (i : ℕ) → after other i ≡ true → new i ≡ Some (resumed_move other)
      opens other i e = go (eqb i id) refl
        where
          go : (c : Bool) → eqb i id ≡ c → new i ≡ Some (resumed_move other)
          go true f =
              let same = eqb-true i id f in
              ap new same ∙ opens_at other (sym (ap (after other) same) ∙ e)
          go false f =
              let off : i ≡ id → ⊥ = λ same. false≢true (sym f ∙ eq-eqb i id same) in
              others i off ∙ is.opens other i (sym (apart other i off) ∙ e)

      there : (other : List ℕ) (i : ℕ) → new i ≡ Some (resumed_move other) → after other i ≡ true
      there other i e = go (eqb i id) refl
        where
          go : (c : Bool) → eqb i id ≡ c → after other i ≡ true
          go true f =
              let same = eqb-true i id f in
              ap (after other) same ∙ there_at other (sym (ap new same) ∙ e)
          go false f =
              let off : i ≡ id → ⊥ = λ same. false≢true (sym f ∙ eq-eqb i id same) in
              apart other i off ∙ is.there other i (sym (others i off) ∙ e)

      only : (i : ℕ) (call : OpenCall) → new i ≡ Some call → call ≡ resumed_move call.name
      only i call e = go (eqb i id) refl
        where
          go : (c : Bool) → eqb i id ≡ c → call ≡ resumed_move call.name
          go true f = only_at call (sym (ap new (eqb-true i id f)) ∙ e)
          go false f = is.only i call (sym (others i (λ same. false≢true (sym f ∙ eq-eqb i id same))) ∙ e)

-- What a node keeps, beside the calls of its desk

-- only moves are open, and these calls are exactly theirs
pub record IsResumed (kept : KeptNode) (calls : (id : ℕ) → Option OpenCall) : Type 0 where
  pub moves : (name : List ℕ) → HasOnlyMoves (kept.objects name)
  pub matches : Matches (λ name id. is_open (kept.objects name) id) calls

pub kept_resumed : (a b : KeptNode) (old new : (id : ℕ) → Option OpenCall) →
    ((name : List ℕ) → KeepsOpen (a.objects name) (b.objects name)) →
    ((id : ℕ) → new id ≡ old id) → IsResumed a old → IsResumed b new
kept_resumed a b old new keeps same is = record {
  moves = λ name. (keeps name (is.moves name)).0;
  matches = same_matches (λ name id. is_open (a.objects name) id) (λ name id. is_open (b.objects name) id) old new
      (λ name id. (keeps name (is.moves name)).1 id) same is.matches;
}

pub same_all : (a b : KeptNode) → IsSame a b → (name : List ℕ) → KeepsOpen (a.objects name) (b.objects name)
same_all a b same name = same_keeps (a.objects name) (b.objects name) (ap (λ (l : LocalObject). l.calls) (same.objects name))

pub put_all : (a b : KeptNode) (name : List ℕ) (local : LocalObject) → IsKeptUnder a name local b → KeepsOpen (a.objects name) local →
    (other : List ℕ) → KeepsOpen (a.objects other) (b.objects other)
put_all a b name local put keeps other =
    subst (KeepsOpen (a.objects other)) (sym (put.objects other)) (go (is_same_name name other) refl)
  where
    go : (s : Bool) → is_same_name name other ≡ s → KeepsOpen (a.objects other) (cond s local (a.objects other))
    go true f = subst (λ n. KeepsOpen (a.objects n) local) ((names_decided name other).0 f) keeps
    go false f = λ all. (all, λ id. refl)

-- an object with only moves is put under a name, where a move began or ended
module _ (a b : KeptNode) (old new : (id : ℕ) → Option OpenCall) (name : List ℕ) (id : ℕ) (begun : Bool) (local : LocalObject)
    (put : IsKeptUnder a name local b) (all : HasOnlyMoves local)
    (apart : (i : ℕ) → (i ≡ id → ⊥) → is_open local i ≡ is_open (a.objects name) i) (at : is_open local id ≡ begun)
    (alone : (other : List ℕ) → is_open (a.objects other) id ≡ true → is_same_name name other ≡ true)
    (here : new id ≡ cond begun (Some (resumed_move name)) None) (others : (i : ℕ) → (i ≡ id → ⊥) → new i ≡ old i)
    (is : IsResumed a old) where
  moves_after : (other : List ℕ) → HasOnlyMoves (b.objects other)
  moves_after other = subst HasOnlyMoves (sym (put.objects other)) (go (is_same_name name other))
    where
      go : (s : Bool) → HasOnlyMoves (cond s local (a.objects other))
      go true = all
      go false = is.moves other

  apart_after : (other : List ℕ) (i : ℕ) → (i ≡ id → ⊥) → is_open (b.objects other) i ≡ is_open (a.objects other) i
  apart_after other i off = ap (λ l. is_open l i) (put.objects other) ∙ go (is_same_name name other) refl
    where
      go : (s : Bool) → is_same_name name other ≡ s → is_open (cond s local (a.objects other)) i ≡ is_open (a.objects other) i
      go true f = apart i off ∙ ap (λ n. is_open (a.objects n) i) ((names_decided name other).0 f)
      go false f = refl

  at_after : (other : List ℕ) → is_open (b.objects other) id ≡ cond (is_same_name name other) begun (is_open (a.objects other) id)
  at_after other = ap (λ l. is_open l id) (put.objects other) ∙ go (is_same_name name other)
    where
      go : (s : Bool) → is_open (cond s local (a.objects other)) id ≡ cond s begun (is_open (a.objects other) id)
      go true = at
      go false = refl

  pub put_resumed : IsResumed b new
  put_resumed = record {
    moves = moves_after;
    matches = changed_matches (λ n i. is_open (a.objects n) i) (λ n i. is_open (b.objects n) i) old new name id begun
        apart_after at_after alone here others is.matches;
  }
