-- What the two functions of a box that take it apart and make it again ask for, and what they give.
use Rattle.std.proofs.Common.{◌≡◌, ℕ, List, [], ◌∷◌, ◌++◌, refl, sym, ap, ◌∙◌, subst}
use Rattle.std.specs.Box.Ownership.{box_owns}
use Rattle.std.specs.contracts.boxed.Box.from_raw as from_raw
use Rattle.std.specs.contracts.boxed.Box.into_raw_with_allocator as into_raw
use Rattle.std.proofs.BoxSteps.Form as box
use Rattle.std.proofs.BoxSteps.Form.{Bx}
use Rattle.std.proofs.BoxSteps.Steps.{box_out, box_in}
use Rattle.std.proofs.alloc.Calls.{handle_tells}
use Rattle.std.proofs.cell.Inside.{Good}
use seplogic.Ra.Ura.{Ura}
use mir.Syntax.{Dict}
use mir.Raw.{raw as bare}
use mir.Val.{Val, vptr, vstruct, of_list}
use base.Logic.{SProp, id⊢, never, fst∗}
use base.Fml.{Lft, Share, ftrue, fsep, flft}
use contract.BorrowLft.{◌⊑◌}
use contract.Monad.{Fun, fact}
use prog.Memory.{Memory}
use prog.Routine.{Routine}
use types.Logic.{Logic, sem}
use types.Kit.{Item, Goal, Soaks, Seq, Step, step, ‵, raw, ◌⊛◌, some, later, ◌$◌, move, drop, split, split3, join}
use types.Kit.{fsplit, fjoin, fpick, pick, use1, await, rewrite, feq_i, feq_l}
use denote.RattleType.{RattleType}
use denote.Builtin.{RawPtr}
use denote.Param.{layout}
use denote.Param.Laws.{param_laws}
use denote.RawPtr.{Ptr, block_ptr, null_ptr, ptr_val, in_a_block}
use denote.Steps.{nothing, only, heard}
use denote.Struct.Tuple.{Tuple}
use denote.Triple.Clauses.{Lasts, lasts}
use denote.Triple.Spec.{triple_of}
use denote.Triple.Statement.{Contract}
use Rattle.box_parts.proofs.PartsLemmas.{two, Owned, Parts, parts_good, parts_in}

module _ (E : Bx) {M : Type 1} {𝓤 : Ura M} (𝓛 : Logic 𝓤) (memory : Memory → SProp 𝓤) (returns : Routine → Fun 𝓤)
    (κ₁ κ₂ : Lft) (q₁ q₂ : Share) where
  -- the lifetimes of the value's and the allocator's types
  abbrev pub tokens : Item 𝓤
  tokens = ‵ (flft κ₁ q₁) ⊛ ‵ (flft κ₂ q₂) ⊛ ‵ ftrue

  -- both types outlive the call
  abbrev pub alive : Item 𝓤
  alive = raw (fact 𝓤 (κ₁ ⊑ E.row.lives)) ⊛ raw (fact 𝓤 (κ₂ ⊑ E.al.row.lives)) ⊛ ‵ ftrue

  -- what a box owns whose value lies there
  abbrev pub Held : E.al.row.Denot → Ptr → E.row.Denot → Item 𝓤
  Held a p x = ‵ (Owned (box.R E) (box.P E) (param_laws 1 E.al.row E.al.laws) E.al.g a p x)

  -- the parts of a box, as a type
  abbrev pub Apart : RattleType
  Apart = Parts (box.R E) (box.P E) (param_laws 1 E.al.row E.al.laws) E.al.g

  -- the contract of the function that makes a box again
  abbrev pub Joins : Contract 𝓤
  Joins =
      triple_of 𝓛 (from_raw.signature E.row E.al.row E.al.g E.al.d E.al.drops)
      (from_raw.spec E.row E.al.row E.al.g E.al.d E.al.drops 𝓛 memory returns)

  abbrev pub joins_at : (b o : ℕ) (h : Val) → E.al.row.Denot → E.row.Denot → Joins.Ghost
  joins_at b o h a x =
      (((κ₁, (κ₂, tt)), (q₁, (q₂, tt)), tt, (a, (block_ptr b o, tt)), (h ∷ [], (vptr b o ∷ [], tt))), x)

  module _ {K : Type 0} {Γ : List (Item 𝓤)} {G : Goal 𝓤 𝓛.H} where
    -- a step: who owns what a box would own, and has the allocator, has what the call asks for
    pub joins_asked : K → (b o : ℕ) (h : Val) (a : E.al.row.Denot) (x : E.row.Denot)
        → Step K 𝓛 (raw (Joins.pre (joins_at b o h a x)) ∷ Γ) G
        (tokens ∷ alive ∷ Held a (block_ptr b o) x ∷ ‵ (box.handle E a h) ∷ Γ) G
    joins_asked t b o h a x = step (λ s.
        move t (1 ∷ []) $ split3 t $ move t (2 ∷ []) $ drop t $ move t (1 ∷ 3 ∷ []) $ join t $
        move t (1 ∷ 0 ∷ []) $ join t $ nothing t $
        feq_i t (List Val) (vptr b o ∷ []) (vptr b o ∷ []) refl $ fjoin t $ move t (3 ∷ 0 ∷ []) $ fjoin t $
        move t (2 ∷ 0 ∷ []) $ join t $ join t $ use1 𝓛 (raw (Joins.pre (joins_at b o h a x))) (id⊢ 𝓤 _) $ s)

    -- a step: the call gives a box with the value, and the lifetimes
    pub joins_given : K → Soaks G → (b o : ℕ) (h : Val) (a : E.al.row.Denot) (x : E.row.Denot) (u : Val)
        → ((whole : box.D E) → whole.value ≡ x → Good (layout (box.B E)) u
        → Seq K 𝓛 (‵ ((box.B E).own_val whole (u ∷ [])) ∷ tokens ∷ Γ) G)
        → Seq K 𝓛 (raw (Joins.post (joins_at b o h a x) u) ∷ Γ) G
    joins_given t soaks b o h a x u next =
        let En = from_raw.ended E.row E.al.row E.al.g E.al.d E.al.drops in
        let y = joins_at b o h a x in
        use1 𝓛 (later (some (λ (whole : box.D E). (tokens ⊛ ‵ ((box.B E).own_val whole (u ∷ [])))
        ⊛ some (λ (ls : Lasts En y.0.0 y.0.3). ‵ (lasts En y.0.0 y.0.3 ls)
        ⊛ (raw (fact 𝓤 (whole.value ≡ x)) ⊛ raw (fact 𝓤 (whole.alloc ≡ a))))))) (id⊢ 𝓤 (Joins.post y u)) $
        await t soaks $ pick t (λ whole. split t $ move t (1 ∷ []) $ pick t (λ _. split3 t $ drop t $
        heard t (whole.value ≡ x) (λ same. drop t $ split t $ move t (1 ∷ []) $
        box_out E t whole (u ∷ []) (λ b' o' h' at is fits. box_in E t whole b' o' whole.value at refl $
        rewrite t 0 (λ (us : List Val). ‵ ((box.B E).own_val whole us)) (sym is) refl $
        next whole same (subst (Good (layout (box.B E))) (sym (ap only is)) (parts_good (box.P E) b' o' h' fits))))))

  module _ (dx : Dict) where
    -- the contract of the function that takes a box apart
    abbrev pub Splits : Contract 𝓤
    Splits =
        triple_of 𝓛 (into_raw.signature E.row E.al.row E.al.g E.al.d E.al.drops dx)
        (into_raw.spec E.row E.al.row E.al.g E.al.d E.al.drops dx 𝓛 memory returns)

    abbrev pub splits_at : box.D E → Val → Splits.Ghost
    splits_at whole w = (((κ₁, (κ₂, tt)), (q₁, (q₂, tt)), tt, (whole, tt), (w ∷ [], tt)), tt)

    module _ {K : Type 0} {Γ : List (Item 𝓤)} {G : Goal 𝓤 𝓛.H} where
      -- a step: who has the box has what the call asks for
      pub splits_asked : K → (whole : box.D E) (w : Val)
          → Step K 𝓛 (raw (Splits.pre (splits_at whole w)) ∷ Γ) G
          (tokens ∷ alive ∷ ‵ ((box.B E).own_val whole (w ∷ [])) ∷ Γ) G
      splits_asked t whole w = step (λ s.
          nothing t $ move t (3 ∷ 0 ∷ []) $ fjoin t $ move t (1 ∷ 0 ∷ []) $ join t $ join t $
          use1 𝓛 (raw (Splits.pre (splits_at whole w))) (id⊢ 𝓤 _) $ s)

      -- a step: the pointer and the allocator that the call gives are parts, with the box's value
      pub splits_given : K → Soaks G → (whole : box.D E) (w u : Val)
          → ((b o : ℕ) (h : Val) → u ≡ two (vptr b o) h → Good (layout (box.P E)) h
          → Seq K 𝓛 (‵ (Apart.own_val (record { at = block_ptr b o; alloc = whole.alloc; value = whole.value })
          (two (vptr b o) h ∷ [])) ∷ tokens ∷ Γ) G)
          → Seq K 𝓛 (raw (Splits.post (splits_at whole w) u) ∷ Γ) G
      splits_given t soaks whole w u next =
          let a = whole.alloc in let x = whole.value in let Pair = Tuple (RawPtr ∷ box.P E ∷ []) in
          let LP = param_laws 1 E.al.row E.al.laws in
          use1 𝓛 (later (some (λ (r : Ptr × E.al.row.Denot). (tokens ⊛ ‵ (Pair.own_val r (u ∷ [])))
          ⊛ some (λ (_ : (Unit {0} × (Unit {0} × Unit {0})) × Unit {0}). ‵ (fsep (fsep ftrue (fsep ftrue ftrue)) ftrue)
          ⊛ (raw (fact 𝓤 (r.1 ≡ a)) ⊛ Held a r.0 x))))) (id⊢ 𝓤 (Splits.post (splits_at whole w) u)) $
          await t soaks $ pick t (λ r. split t $ move t (1 ∷ []) $ pick t (λ _. split3 t $ drop t $
          heard t (r.1 ≡ a) (λ same.
          in_a_block t r.0 (λ p. box_owns (E.al.g.dealloc_token a) (box.R E) p x)
          (fst∗ 𝓤 (never 𝓤) (sem 𝓛 (E.al.g.dealloc_token a (bare (layout E.row)) null_ptr))) (λ b o lies.
          move t (1 ∷ []) $ split t $ move t (1 ∷ []) $ fpick t (λ fields. fsplit t $ feq_l t (λ is. fsplit t $
          feq_l t (λ at. fsplit t $ rewrite t 0 (λ (s : E.al.row.Denot). ‵ ((box.P E).own_val s fields.1.0)) same refl $
          handle_tells E.al t a fields.1.0 (λ h alloc fits. move t (3 ∷ 0 ∷ []) $
          parts_in (box.R E) (box.P E) LP E.al.g t b o h a x $ move t (1 ∷ []) $ drop t $
          let first = at ∙ ap (λ (q : Ptr). ptr_val q ∷ []) lies in
          next b o h (ap only (is ∙ (λ i. vstruct (of_list (first i ++ (alloc i ++ []))) ∷ []))) fits))))))))
