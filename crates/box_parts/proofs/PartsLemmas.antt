-- Parts by value: their machine value, and what they own.
use Rattle.std.proofs.Common.{◌≡◌, ℕ, true, List, [], ◌∷◌, ◌++◌, refl, ap, ◌∙◌}
use Rattle.std.specs.declared.alloc.Allocator.{Ghosts}
use Rattle.std.specs.Box.Ownership.{box_owns}
use Rattle.std.proofs.alloc.Calls.{Al, handle_tells}
use Rattle.std.proofs.cell.Inside.{Good}
use Rattle.std.proofs.ResultValues.{and_tt}
use mathlib.Core.Bool.{◌&&◌}
use lib.Dec.{T}
use seplogic.Ra.Ura.{Ura}
use mir.Syntax.{impl, tnil, dnil}
use mir.Raw.{raw as bare}
use mir.Val.{Val, vptr, vstruct, vcons, vnil, of_list, has_ty, WT}
use base.Logic.{never, fst∗}
use base.Fml.{Fml}
use types.Logic.{Logic, sem}
use types.Kit.{Item, Goal, Seq, Step, step, ‵, ◌$◌, move, drop, fsplit, fjoin, fpick, fpack, feq_i, feq_l}
use denote.RattleType.{RattleType, Valss}
use denote.Builtin.{RawPtr}
use denote.RawPtr.{Ptr, block_ptr, null_ptr, ptr_val, in_a_block}
use denote.Memory.{lone}
use denote.Param.{layout}
use denote.Param.Laws.{Laws}
use denote.Steps.{nothing}
use denote.Struct.Struct.{within}
use denote.Struct.Owning.{shape}
use Rattle.box_parts.specs.contracts.parts.Parts as parts

-- the machine value of a struct of two fields
abbrev pub two : Val → Val → Val
two v w = vstruct (vcons v (vcons w vnil))

-- parts have their type as machine values if the allocator has
pub parts_good : (Z : RattleType) (b o : ℕ) (h : Val) → Good (layout Z) h
    → T (has_ty (layout Z) h && true) × WT (two (vptr b o) h)
parts_good Z b o h fits = (and_tt (has_ty (layout Z) h) fits.0, (tt, (fits.1, tt)))

-- where parts point to, and which machine values the allocator and they have
pub record Seen (Z : RattleType) (at : Ptr) (vs : List Val) : Type 0 where
  pub block : ℕ
  pub offset : ℕ
  pub handle : Val
  pub lies : at ≡ block_ptr block offset
  pub is : vs ≡ two (vptr block offset) handle ∷ []
  pub fits : Good (layout Z) handle

-- the machine value of parts that were seen
abbrev pub word : {Z : RattleType} {at : Ptr} {vs : List Val} → Seen Z at vs → Val
word s = two (vptr s.block s.offset) s.handle

-- where their value lies
abbrev pub place : {Z : RattleType} {at : Ptr} {vs : List Val} → Seen Z at vs → Ptr
place s = block_ptr s.block s.offset

module _ (R Z : RattleType) (L : Laws Z) (g : Ghosts Z.Denot) where
  abbrev pub Parts : RattleType
  Parts = parts.the_row R Z g

  -- the allocator's type, with its laws
  abbrev pub allocator : Al
  allocator = record { row = Z; laws = L; g = g; d = impl [] tnil dnil; drops = impl [] tnil dnil }

  -- what a box with these parts owns: its block, and the right to free it
  abbrev pub Owned : Z.Denot → Ptr → R.Denot → Fml
  Owned a p x = box_owns (g.dealloc_token a) R p x

  module _ {M : Type 1} {𝓤 : Ura M} {𝓛 : Logic 𝓤} {K : Type 0} {Γ : List (Item 𝓤)} {G : Goal 𝓤 𝓛.H} where
    -- a step: who has parts, has seen what they are, and has what they own and the allocator
    pub parts_out : K → (p : Parts.Denot) (vs : List Val)
        → ((s : Seen Z p.at vs) → Seq K 𝓛 (‵ (Owned p.alloc (place s) p.value) ∷ ‵ (Z.own_val p.alloc (s.handle ∷ [])) ∷ Γ) G)
        → Seq K 𝓛 (‵ (Parts.own_val p vs) ∷ Γ) G
    parts_out t p vs next =
        let no_null = fst∗ 𝓤 (never 𝓤) (sem 𝓛 (g.dealloc_token p.alloc (bare (lone R.mir)) null_ptr)) in
        fsplit t $ fpick t (λ fields. fsplit t $ feq_l t (λ is. fsplit t $ feq_l t (λ at. fsplit t $
        handle_tells allocator t p.alloc fields.1.0 (λ h alloc fits. move t (1 ∷ []) $ drop t $ move t (1 ∷ []) $
        in_a_block t p.at (λ q. Owned p.alloc q p.value) no_null (λ b o lies.
        let first = at ∙ ap (λ (q : Ptr). ptr_val q ∷ []) lies in next (record {
          block = b;
          offset = o;
          handle = h;
          lies = lies;
          is = is ∙ (λ i. vstruct (of_list (first i ++ (alloc i ++ []))) ∷ []);
          fits = fits;
        }))))))

    -- a step: who owns a block, and has the allocator, has parts
    pub parts_in : K → (b o : ℕ) (h : Val) (a : Z.Denot) (x : R.Denot)
        → Step K 𝓛 (‵ (Parts.own_val (record { at = block_ptr b o; alloc = a; value = x }) (two (vptr b o) h ∷ [])) ∷ Γ) G
        (‵ (Owned a (block_ptr b o) x) ∷ ‵ (Z.own_val a (h ∷ [])) ∷ Γ) G
    parts_in t b o h a x = step (λ s. let v : Val = two (vptr b o) h in let at : List Val = vptr b o ∷ [] in
        nothing t $ move t (2 ∷ 0 ∷ []) $ fjoin t $ feq_i t (List Val) at at refl $ fjoin t $
        feq_i t (List Val) (v ∷ []) (v ∷ []) refl $ fjoin t $
        fpack t (Valss (RawPtr ∷ Z ∷ [])) (within (shape (parts.the_type R Z g)) (block_ptr b o, (a, tt)) (v ∷ []))
        (at, (h ∷ [], tt)) $ fjoin t $ s)
