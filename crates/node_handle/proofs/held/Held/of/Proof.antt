-- The handle owns what the parts of the box own.
use Rattle.std.proofs.Common.{List, [], ◌∷◌, ◌++◌, refl, sym, true, Bool, Some, subst}
use Rattle.std.proofs.raw_atomic.Walks.{proved_at}
use Rattle.std.proofs.alloc.Global.TheLaws.{the_row_laws as heap_laws}
use Rattle.std.specs.contracts.alloc.Global.{the_row as heap_row}
use Rattle.std.specs.contracts.impls.GlobalAllocator.TheImpl.{ghosts}
use mir.Val.{Val}
use base.Logic.{SProp, ent, id⊢}
use base.Fml.{ftrue}
use contract.Running.{tables}
use prog.Wp.{WpFn}
use types.Kit.{‵, ◌⊛◌, ◌$◌, ◌∵◌, !, qed, done, keep, drop, split, fsplit, fjoin, join, feq_i, suffices}
use types.Run.{enter, stop, fld, of_opd, true_lit, and_then, no_more, returns}
use types.ByLocal.{alloc_all, pass_all, free_all, look_at, get, get_in, sets}
use types.Part.{agg, sub, whole}
use denote.Exit.{yes}
use denote.RattleType.{owns}
use denote.Signature.{plain, types_at}
use denote.Steps.{nothing}
use denote.Triple.Walked.{Stays, stay_dropped, Goes-dropped, walk_of, says, ends_at}
use Rattle.box_parts.proofs.PartsLemmas.{parts_good, parts_out, place, word}
use Rattle.node_handle.proofs.HeldLemmas.{NodeParts, held_val, held_in}
use Rattle.node_handle.specs.contracts.embedded.Embedded.{the_row as node_row}
use Rattle.node_handle.specs.contracts.held.Held.{the_row as Held}
use Rattle.node_handle.specs.contracts.held.Held.of as f
use Rattle.node_handle.proofs.held.Held.of.Statement.{statement}
use Rattle.node_handle.proofs.held.Held.of.Code as code

abbrev stayed : Stays f.ended.signature.params f.ended.kept
stayed = (stay_dropped (plain (λ _. NodeParts)) yes, tt)

pub of_spec : {M : Type 1} → statement M
of_spec 𝓤 𝓛 𝓜 𝓡 wired =
    let c = f.clauses 𝓛 𝓜.mem 𝓡.returns in let W = walk_of 𝓛 f.ended stayed c in
    let 𝓣 = tables 𝓤 𝓛.H 𝓜 𝓡 𝓡.env in
    proved_at 𝓛 f.ended stayed c 𝓜 𝓡 (Goes-dropped 𝓛 0 (plain (λ _. NodeParts)) yes (λ κs x w. refl), tt)
    f.Key.name code.function (code.unfolded 𝓤 𝓛.H 𝓜 𝓡 wired) (λ y are.
    let p = y.0.3.0 in let Runs : List Val → SProp 𝓤 = λ ws. WpFn 𝓤 𝓛.H 𝓣.C 𝓣.Λ code.function ws (W.post y) in
    qed 𝓛 ((‵ ftrue ⊛ ‵ (owns (types_at f.signature.params y.0.0) y.0.3 y.0.4)) ∷ ‵ ftrue ∷ []) ∵
    split ! $ drop ! $ fsplit ! $ parts_out node_row heap_row heap_laws ghosts ! p y.0.4.0 (λ s. let w : Val = word s in
    let opened : Held.Denot = record { at = place s; is_open = true; value = Some p.value } in
    suffices ! (Runs (w ∷ [])) (subst (λ (us : List Val). ent 𝓤 (Runs (w ∷ [])) (Runs us)) (sym (λ i. s.is i ++ []))
    (id⊢ 𝓤 (Runs (w ∷ [])))) $
    -- [the block with the node]
    keep ! (0 ∷ []) $ enter ! _ _ _ _ _ $ alloc_all ! (λ l. pass_all ! refl
    (parts_good heap_row s.block s.offset s.handle s.fits, tt) $
    sets ! (of_opd ! (get_in ! (fld ! refl (stop !)) (sub ! 0 refl (whole !)))) refl (tt, tt) $
    sets ! (of_opd ! (get ! refl)) refl (tt, tt) $
    sets ! (agg ! (and_then ! (get ! refl) (and_then ! (true_lit !) (no_more !)))) refl (tt, (tt, (tt, tt))) $
    returns ! (look_at ! 0 refl) $ free_all ! refl $
    suffices ! _ (ends_at 𝓛 f.ended stayed c y (held_val opened) opened (tt, tt) (tt, tt)) $ says ! refl $
    feq_i ! Bool true true refl $ fjoin ! $ held_in ! opened $
    nothing ! $ nothing ! $ join ! $ nothing ! $ done !)))
