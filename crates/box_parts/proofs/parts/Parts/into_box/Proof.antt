-- What the parts own is what the call that makes a box asks for. The box that it gives is returned.
use Rattle.std.proofs.Common.{List, [], ◌∷◌, ◌++◌, refl, sym, subst}
use Rattle.std.proofs.raw_atomic.Walks.{proved_at}
use Rattle.std.proofs.alloc.Calls.{Goes-blank}
use Rattle.std.proofs.alloc.Shapes.{after}
use Rattle.std.proofs.BoxSteps.Form.{Bx, P, R}
use Rattle.std.proofs.boxed.Box.from_raw.Met.{met}
use mir.Syntax.{Args, Fn, a_type, dcons, dnil}
use mir.Val.{Val}
use mir.MapTy.{inst_fn}
use base.Logic.{SProp, ent, id⊢}
use prog.Wp.{WpFn}
use types.Kit.{‵, at_ret, ◌⊛◌, ◌$◌, ◌∵◌, !, qed, done, move, keep, split, join, fsplit, fjoin, suffices}
use types.Run.{stop, fld, of_opd, no_more, and_then, first, blocks, exec, returns, enter}
use types.ByLocal.{alloc_all, pass_all, free_all, look_at, get, get_in, sets, lands_last, env}
use types.Part.{sub, whole}
use contract.Running.{tables}
use denote.Exit.{no}
use denote.RattleType.{owns}
use denote.Signature.{types_at, plain}
use denote.Steps.{nothing}
use denote.Param.{bounded}
use denote.Param.Laws.{param_laws}
use denote.Triple.Call.{calls_at_last}
use denote.Triple.Table.{framed}
use denote.Triple.Walked.{Stays, stay_dropped, walk_of, says, ends_at}
use Rattle.box_parts.proofs.CallLemmas.{tokens, alive, Joins, joins_at, joins_asked, joins_given}
use Rattle.box_parts.proofs.PartsLemmas.{Parts, parts_good, parts_out, word}
use Rattle.box_parts.specs.contracts.parts.Parts.into_box as f
use Rattle.box_parts.proofs.parts.Parts.into_box.Statement.{statement}
use Rattle.box_parts.proofs.parts.Parts.into_box.Code as code

pub into_box_spec : {M : Type 1} → statement M
into_box_spec 𝓤 𝓛 𝓜 𝓡 wired T A L LA g d dx dd allocator glue glued =
    let E : Bx = record { row = T; laws = L; al = record { row = A; laws = LA; g = g; d = d; drops = dd } } in
    let 𝓣 = tables 𝓤 𝓛.H 𝓜 𝓡 𝓡.env in let En = f.ended T A g d dx dd in
    let c = f.clauses T A g d dx dd 𝓛 𝓜.mem 𝓡.returns in
    let given = plain (λ _. Parts (R E) (P E) (param_laws 1 A LA) g) in
    let stays : Stays En.signature.params En.kept = (stay_dropped given no, tt) in
    let args : Args = bounded (a_type ∷ a_type ∷ []) (T, (A, tt)) (dcons d (dcons dx (dcons dd dnil))) in
    let fn : Fn = inst_fn args code.function in
    let known = met 𝓤 𝓛 𝓜 𝓡 (code.calls-std::boxed::Box::from_raw 𝓡.env wired) T A L LA g d dd allocator glued in
    proved_at 𝓛 En stays c 𝓜 𝓡 (Goes-blank 𝓛 2 given no (λ κs x w. tt), tt)
    (f.Key.name args) fn (code.unfolded 𝓤 𝓛.H 𝓜 𝓡 wired (T, (A, tt)) d dx dd) (λ z are.
    let κs = z.0.0 in let qs = z.0.1 in let p = z.0.3.0 in let Post = (walk_of 𝓛 En stays c).post z in
    let held = tokens E 𝓛 𝓜.mem 𝓡.returns κs.0 κs.1.0 qs.0 qs.1.0 in
    let outlive = alive E 𝓛 𝓜.mem 𝓡.returns κs.0 κs.1.0 qs.0 qs.1.0 in
    qed 𝓛 ((held ⊛ ‵ (owns (types_at En.signature.params κs) z.0.3 z.0.4)) ∷ outlive ∷ []) ∵
    split ! $ move ! (1 ∷ []) $ fsplit ! $ parts_out (R E) (P E) (param_laws 1 A LA) g ! p z.0.4.0 (λ s.
    let b = s.block in let o = s.offset in let h = s.handle in let w : Val = word s in
    let Run : List Val → SProp 𝓤 = λ ws. WpFn 𝓤 𝓛.H 𝓣.C 𝓣.Λ fn ws Post in
    let J = Joins E 𝓛 𝓜.mem 𝓡.returns κs.0 κs.1.0 qs.0 qs.1.0 in
    let y = joins_at E 𝓛 𝓜.mem 𝓡.returns κs.0 κs.1.0 qs.0 qs.1.0 b o h p.alloc p.value in
    keep ! (3 ∷ 4 ∷ 0 ∷ 1 ∷ []) $
    joins_asked E 𝓛 𝓜.mem 𝓡.returns κs.0 κs.1.0 qs.0 qs.1.0 ! b o h p.alloc p.value $
    suffices ! (Run (w ∷ [])) (subst (λ (us : List Val). ent 𝓤 (Run (w ∷ [])) (Run us)) (sym (λ i. s.is i ++ []))
    (id⊢ 𝓤 (Run (w ∷ [])))) $
    enter ! 𝓣.C 𝓣.Λ fn (w ∷ []) Post $ alloc_all ! (λ l. let there = env fn.locals l in
    pass_all ! refl (parts_good (P E) b o h s.fits, tt) $
    -- let Parts { at, alloc } = self
    sets ! (of_opd ! (get_in ! (fld ! refl (stop !)) (sub ! 0 refl (whole !)))) refl (tt, tt) $
    sets ! (of_opd ! (get_in ! (fld ! refl (stop !)) (sub ! 1 refl (whole !)))) refl s.fits $
    -- from_raw(alloc, at)
    first ! $ blocks ! $ sets ! (of_opd ! (get ! refl)) refl s.fits $
    calls_at_last ! (framed 𝓤 𝓛.H 𝓜 𝓣) J known y (and_then ! (get ! refl) (and_then ! (get ! refl) (no_more !))) (λ u.
    joins_given E 𝓛 𝓜.mem 𝓡.returns κs.0 κs.1.0 qs.0 qs.1.0 ! tt b o h p.alloc p.value u (λ made same good.
    lands_last ! refl good $ exec ! 𝓣.C 𝓣.Λ there (after 3 fn.body) (at_ret there Post) $
    sets ! (of_opd ! (get ! refl)) refl good $ returns ! (look_at ! 0 refl) $ free_all ! refl $
    suffices ! _ (ends_at 𝓛 En stays c z u made ((tt, (tt, tt)), tt) (tt, tt)) $ says ! same $
    nothing ! $ nothing ! $ fjoin ! $ join ! $ move ! (1 ∷ 0 ∷ []) $ join ! $ done !)))))
