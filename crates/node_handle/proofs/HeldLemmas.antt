-- The machine value of a handle, and what it owns by value.
use Rattle.std.proofs.Common.{◌≡◌, List, [], ◌∷◌, ◌++◌, refl, ◌∙◌}
use seplogic.Ra.Ura.{Ura}
use mir.Val.{Val, vbool, vstruct, of_list}
use types.Logic.{Logic}
use types.Kit.{Item, Goal, Seq, Step, step, ‵, ◌$◌, drop, fsplit, fjoin, fpick, fpack, feq_i, feq_l}
use denote.RattleType.{RattleType, Valss}
use denote.Builtin.{RawPtr, bool}
use denote.RawPtr.{ptr_val}
use denote.Steps.{nothing}
use denote.Struct.Struct.{within}
use denote.Struct.Owning.{shape}
use Rattle.box_parts.proofs.PartsLemmas.{two}
use Rattle.box_parts.specs.contracts.parts.Parts as parts
use Rattle.std.specs.contracts.alloc.Global.{the_row as heap_row}
use Rattle.std.specs.contracts.impls.GlobalAllocator.TheImpl.{ghosts}
use Rattle.node_handle.specs.Owned.{held_owns}
use Rattle.node_handle.specs.contracts.embedded.Embedded.{the_row as node_row}
use Rattle.node_handle.specs.contracts.held.Held.{the_row as Held, the_type as held_type}

-- the parts of a box with a node
abbrev pub NodeParts : RattleType
NodeParts = parts.the_row node_row heap_row ghosts

abbrev pub held_val : Held.Denot → Val
held_val h = two (ptr_val h.at) (vbool h.is_open)

module _ {M : Type 1} {𝓤 : Ura M} {𝓛 : Logic 𝓤} {K : Type 0} {Γ : List (Item 𝓤)} {G : Goal 𝓤 𝓛.H} where
  -- a step: who owns what a handle owns has the handle
  pub held_in : K → (h : Held.Denot)
      → Step K 𝓛 (‵ (Held.own_val h (held_val h ∷ [])) ∷ Γ) G (‵ (held_owns node_row h.is_open h.at h.value) ∷ Γ) G
  held_in t h = step (λ s.
      nothing t $ feq_i t (List Val) (vbool h.is_open ∷ []) (vbool h.is_open ∷ []) refl $ fjoin t $
      feq_i t (List Val) (ptr_val h.at ∷ []) (ptr_val h.at ∷ []) refl $ fjoin t $
      feq_i t (List Val) (held_val h ∷ []) (held_val h ∷ []) refl $ fjoin t $
      fpack t (Valss (RawPtr ∷ bool ∷ [])) (within (shape held_type) (h.at, (h.is_open, tt)) (held_val h ∷ []))
      (ptr_val h.at ∷ [], (vbool h.is_open ∷ [], tt)) $ fjoin t $ s)

  -- a step: a handle has one machine value, and what it owns
  pub held_out : K → (h : Held.Denot) (vs : List Val)
      → (vs ≡ held_val h ∷ [] → Seq K 𝓛 (‵ (held_owns node_row h.is_open h.at h.value) ∷ Γ) G)
      → Seq K 𝓛 (‵ (Held.own_val h vs) ∷ Γ) G
  held_out t h vs k =
      fsplit t $ fpick t (λ vss. fsplit t $ feq_l t (λ is. fsplit t $ feq_l t (λ at. fsplit t $ feq_l t (λ opened.
      drop t $ k (is ∙ (λ i. vstruct (of_list (at i ++ (opened i ++ []))) ∷ []))))))
