-- If the handle is open, the parts own what it owned. A closed one owns nothing.
use Rattle.std.proofs.Common.{List, [], ◌∷◌, ◌++◌, refl, sym, true, false, Bool, Option, Some, None}
use Rattle.std.proofs.Common.{subst₂, lit<, true≢false}
use Rattle.std.proofs.raw_atomic.Walks.{proved_at}
use Rattle.std.proofs.alloc.Calls.{handle_tells}
use Rattle.std.proofs.alloc.Global.TheLaws.{the_row_laws as heap_laws}
use Rattle.std.proofs.cell.Inside.{Good}
use Rattle.std.proofs.RcSteps.{Some-of, none_of, some_Good, Ptr-Good}
use Rattle.std.specs.contracts.alloc.Global.{the_row as heap_row}
use Rattle.std.specs.contracts.impls.GlobalAllocator.TheImpl.{ghosts}
use Rattle.std.specs.contracts.option.Option.{the_row as OptionOf}
use seplogic.Ra.Ura.{Ura}
use mir.Syntax.{ty_ptr, ty_bool}
use mir.Val.{Val, vptr, vbool, vnil, vcons}
use base.Logic.{SProp, ent, sep, id⊢, never_e}
use base.Fml.{ftrue}
use contract.Running.{Running, MachineTables, tables}
use prog.Model.{Model}
use prog.Wp.{WpFn}
use types.Logic.{Logic, sem}
use types.Kit.{‵, at_ret, ◌⊛◌, ◌$◌, ◌∵◌, !, qed, by, done, move, keep, drop, split, fsplit, join, feq_l}
use types.Kit.{suffices, use0, use1}
use types.Match.{live}
use types.Run.{enter, stop, fld, of_opd, lit, and_then, no_more, first, branches, exec, returns}
use types.ByLocal.{alloc_all, pass_all, free_all, look_at, get, get_in, sets, sets_last, env}
use types.Part.{agg, sub, whole}
use denote.Exit.{yes}
use denote.Param.{layout}
use denote.RattleType.{owns}
use denote.RawPtr.{Ptr, block_ptr, null_ptr, ptr_val}
use denote.Signature.{plain, types_at}
use denote.Steps.{nothing}
use denote.Struct.Struct.{as_fields}
use denote.Triple.Clauses.{Clauses}
use denote.Triple.Statement.{Contract}
use denote.Triple.Walked.{Stays, stay_dropped, Goes-dropped, walk_of, says, ends_at}
use Rattle.box_parts.proofs.PartsLemmas.{two, allocator, parts_good, parts_in}
use Rattle.node_handle.proofs.HeldLemmas.{NodeParts, held_val, held_out}
use Rattle.node_handle.specs.Owned.{held_owns}
use Rattle.node_handle.specs.declared.embedded.Embedded.{Embedded}
use Rattle.node_handle.specs.contracts.embedded.Embedded.{the_row as node_row}
use Rattle.node_handle.specs.contracts.held.Held.{the_row as Held}
use Rattle.node_handle.specs.contracts.held.Held.into_parts as f
use Rattle.node_handle.proofs.held.Held.into_parts.Statement.{statement}
use Rattle.node_handle.proofs.held.Held.into_parts.Code as code

abbrev stayed : Stays f.ended.signature.params f.ended.kept
stayed = (stay_dropped (plain (λ _. Held)) yes, (stay_dropped (plain (λ _. heap_row)) yes, tt))

module _ {M : Type 1} (𝓤 : Ura M) (𝓛 : Logic 𝓤) (𝓜 : Model 𝓤 𝓛.H) (𝓡 : Running 𝓤 𝓛.H 𝓜) (a : heap_row.Denot)
    (vs us : List Val) (hv : Val) (fits : Good (layout heap_row) hv) where
  abbrev c : Clauses 𝓤 f.ended
  c = f.clauses 𝓛 𝓜.mem 𝓡.returns

  abbrev W : Contract 𝓤
  W = walk_of 𝓛 f.ended stayed c

  abbrev 𝓣 : MachineTables 𝓤 𝓛.H 𝓜
  𝓣 = tables 𝓤 𝓛.H 𝓜 𝓡 𝓡.env

  abbrev at : Held.Denot → W.Ghost
  at h = ((tt, tt, tt, (h, (a, tt)), (vs, (us, tt))), tt)

  abbrev Runs : Ptr → Bool → Option Embedded → SProp 𝓤
  Runs p o v =
      WpFn 𝓤 𝓛.H 𝓣.C 𝓣.Λ code.function (two (ptr_val p) (vbool o) ∷ hv ∷ [])
      (W.post (at (record { at = p; is_open = o; value = v })))

  abbrev Had : Ptr → Bool → Option Embedded → SProp 𝓤
  Had p o v = sep 𝓤 (sem 𝓛 (held_owns node_row o p v)) (sem 𝓛 (heap_row.own_val a (hv ∷ [])))

  -- the walk from each form of a handle; the second test of an arm that cannot run is refuted by what is owned
  walk : (p : Ptr) (o : Bool) (v : Option Embedded) → ent 𝓤 (Had p o v) (Runs p o v)
  walk p true None =
      qed 𝓛 (‵ (held_owns node_row true p None) ∷ ‵ (heap_row.own_val a (hv ∷ [])) ∷ []) ∵
      feq_l ! (λ e. absurd (true≢false e))
  walk p false (Some x) =
      qed 𝓛 (‵ (held_owns node_row false p (Some x)) ∷ ‵ (heap_row.own_val a (hv ∷ [])) ∷ []) ∵
      fsplit ! $ feq_l ! (λ e. absurd (true≢false (sym e)))
  walk null_ptr true (Some x) =
      qed 𝓛 (‵ (held_owns node_row true null_ptr (Some x)) ∷ ‵ (heap_row.own_val a (hv ∷ [])) ∷ []) ∵
      fsplit ! $ drop ! $ fsplit ! $ keep ! (0 ∷ []) $ by ! (never_e 𝓤 _)
  walk p false None =
      let h : Held.Denot = record { at = p; is_open = false; value = None } in
      let typed = as_fields (ty_ptr ∷ ty_bool ∷ []) (ptr_val p ∷ vbool false ∷ []) (Ptr-Good p, ((tt, tt), tt)) in
      qed 𝓛 (‵ (held_owns node_row false p None) ∷ ‵ (heap_row.own_val a (hv ∷ [])) ∷ []) ∵ drop ! $ drop ! $
      enter ! _ _ _ _ _ $ alloc_all ! (λ l. pass_all ! refl (typed, (fits, tt)) $
      sets ! (of_opd ! (get_in ! (fld ! refl (stop !)) (sub ! 0 refl (whole !)))) refl (Ptr-Good p) $
      sets ! (of_opd ! (get_in ! (fld ! refl (stop !)) (sub ! 1 refl (whole !)))) refl (tt, tt) $
      sets ! (of_opd ! (get ! refl)) refl (tt, tt) $
      first ! $ branches ! (get ! refl) (λ opened. absurd opened) (λ closed.
      sets_last ! (agg ! (and_then ! (lit ! tt) (no_more !))) refl (tt, (record { fits = lit< tt }, tt)) $
      exec ! 𝓣.C 𝓣.Λ (env code.Mir.locals l) code.Mir.t-5 (at_ret _ (W.post (at h))) $
      sets ! (of_opd ! (get ! refl)) refl (tt, (record { fits = lit< tt }, tt)) $
      returns ! (look_at ! 0 refl) $ free_all ! refl $
      suffices ! _ (ends_at 𝓛 f.ended stayed c (at h) (live 0 vnil) None (tt, (tt, tt)) (tt, (tt, tt))) $ says ! refl $
      use0 𝓛 (‵ ((OptionOf NodeParts).own_val None (live 0 vnil ∷ []))) (none_of 𝓛 NodeParts) $
      nothing ! $ nothing ! $ join ! $ nothing ! $ join ! $ nothing ! $ done !))
  walk (block_ptr b o) true (Some x) =
      let h : Held.Denot = record { at = block_ptr b o; is_open = true; value = Some x } in
      let r : NodeParts.Denot = record { at = block_ptr b o; alloc = a; value = x } in
      let v : Val = two (vptr b o) hv in let good = parts_good heap_row b o hv fits in
      qed 𝓛 (‵ (held_owns node_row true (block_ptr b o) (Some x)) ∷ ‵ (heap_row.own_val a (hv ∷ [])) ∷ []) ∵
      fsplit ! $ drop ! $ parts_in node_row heap_row heap_laws ghosts ! b o hv a x $
      -- [the parts]
      enter ! _ _ _ _ _ $ alloc_all ! (λ l. pass_all ! refl ((tt, (tt, (tt, tt))), (fits, tt)) $
      sets ! (of_opd ! (get_in ! (fld ! refl (stop !)) (sub ! 0 refl (whole !)))) refl (tt, tt) $
      sets ! (of_opd ! (get_in ! (fld ! refl (stop !)) (sub ! 1 refl (whole !)))) refl (tt, tt) $
      sets ! (of_opd ! (get ! refl)) refl (tt, tt) $
      first ! $ branches ! (get ! refl) (λ opened.
      sets ! (of_opd ! (get ! refl)) refl (tt, tt) $
      sets ! (agg ! (and_then ! (get ! refl) (and_then ! (get ! refl) (no_more !)))) refl good $
      sets_last ! (agg ! (and_then ! (lit ! tt) (and_then ! (get ! refl) (no_more !)))) refl
      (some_Good (layout NodeParts) v good) $
      exec ! 𝓣.C 𝓣.Λ (env code.Mir.locals l) code.Mir.t-5 (at_ret _ (W.post (at h))) $
      sets ! (of_opd ! (get ! refl)) refl (some_Good (layout NodeParts) v good) $
      returns ! (look_at ! 0 refl) $ free_all ! refl $
      suffices ! _ (ends_at 𝓛 f.ended stayed c (at h) (live 1 (vcons v vnil)) (Some r) (tt, (tt, tt)) (tt, (tt, tt))) $
      says ! refl $
      use1 𝓛 (‵ ((OptionOf NodeParts).own_val (Some r) (live 1 (vcons v vnil) ∷ []))) (Some-of 𝓛 NodeParts r v) $
      nothing ! $ nothing ! $ join ! $ nothing ! $ join ! $ nothing ! $ done !) (λ closed. absurd closed))

pub into_parts_spec : {M : Type 1} → statement M
into_parts_spec 𝓤 𝓛 𝓜 𝓡 wired =
    let c = f.clauses 𝓛 𝓜.mem 𝓡.returns in let W = walk_of 𝓛 f.ended stayed c in
    let 𝓣 = tables 𝓤 𝓛.H 𝓜 𝓡 𝓡.env in
    proved_at 𝓛 f.ended stayed c 𝓜 𝓡 (
      Goes-dropped 𝓛 0 (plain (λ _. Held)) yes (λ κs x w. refl),
      (Goes-dropped 𝓛 0 (plain (λ _. heap_row)) yes (λ κs x w. refl), tt),
    )
    f.Key.name code.function (code.unfolded 𝓤 𝓛.H 𝓜 𝓡 wired) (λ y are.
    let h = y.0.3.0 in let a = y.0.3.1.0 in
    let Runs : List Val → List Val → SProp 𝓤 =
    λ vs us. WpFn 𝓤 𝓛.H 𝓣.C 𝓣.Λ code.function (vs ++ (us ++ [])) (W.post y) in
    qed 𝓛 ((‵ ftrue ⊛ ‵ (owns (types_at f.signature.params y.0.0) y.0.3 y.0.4)) ∷ ‵ ftrue ∷ []) ∵
    split ! $ drop ! $ fsplit ! $ held_out ! h y.0.4.0 (λ is. move ! (1 ∷ []) $ fsplit ! $
    handle_tells (allocator node_row heap_row heap_laws ghosts) ! a y.0.4.1.0 (λ hv same fits. keep ! (2 ∷ 0 ∷ []) $
    suffices ! (Runs (held_val h ∷ []) (hv ∷ []))
    (subst₂ (λ (vs us : List Val). ent 𝓤 (Runs (held_val h ∷ []) (hv ∷ [])) (Runs vs us)) (sym is) (sym same)
    (id⊢ 𝓤 (Runs (held_val h ∷ []) (hv ∷ [])))) $
    by ! (walk 𝓤 𝓛 𝓜 𝓡 a y.0.4.0 y.0.4.1.0 hv fits h.at h.is_open h.value))))
