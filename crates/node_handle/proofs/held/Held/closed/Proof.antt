-- A closed handle owns nothing.
use Rattle.std.proofs.Common.{[], ◌∷◌, refl, false, lit<, Bool, None}
use Rattle.std.proofs.raw_atomic.Walks.{proved}
use base.Fml.{ftrue}
use types.Kit.{‵, raw, ◌$◌, ◌∵◌, !, qed, done, drop, feq_i, suffices}
use types.Run.{enter, false_lit, lit, and_then, no_more, returns}
use types.ByLocal.{alloc_all, pass_all, free_all, look_at, sets}
use types.Part.{agg}
use denote.RawPtr.{null_ptr}
use denote.Steps.{nothing}
use denote.Triple.Entry.{on_entry}
use denote.Triple.Walked.{walk_of, says, ends_at}
use Rattle.node_handle.proofs.HeldLemmas.{held_val, held_in}
use Rattle.node_handle.specs.contracts.held.Held.{the_row as Held}
use Rattle.node_handle.specs.contracts.held.Held.closed as f
use Rattle.node_handle.proofs.held.Held.closed.Statement.{statement}
use Rattle.node_handle.proofs.held.Held.closed.Code as code

pub closed_spec : {M : Type 1} → statement M
closed_spec 𝓤 𝓛 𝓜 𝓡 wired =
    let c = f.clauses 𝓛 𝓜.mem 𝓡.returns in let W = walk_of 𝓛 f.ended tt c in
    proved 𝓛 f.ended tt c 𝓜 𝓡 tt f.Key.name code.function (code.unfolded 𝓤 𝓛.H 𝓜 𝓡 wired)
    (λ κs. tt) (λ κs. tt) (λ κs qs bounds a g are.
    let y : W.Ghost = ((κs, qs, bounds, a, tt), g) in
    let none : Held.Denot = record { at = null_ptr; is_open = false; value = None } in
    qed 𝓛 (raw (on_entry 𝓛 f.signature κs qs a tt) ∷ ‵ ftrue ∷ []) ∵
    enter ! _ _ _ _ _ $ alloc_all ! (λ l. pass_all ! refl tt $
    sets ! (agg ! (and_then ! (lit ! tt) (and_then ! (false_lit !) (no_more !)))) refl
    (tt, (record { fits = lit< tt }, (tt, tt))) $
    returns ! (look_at ! 0 refl) $ free_all ! refl $
    suffices ! _ (ends_at 𝓛 f.ended tt c y (held_val none) none tt tt) $ says ! refl $
    drop ! $ drop ! $ feq_i ! Bool false false refl $ held_in ! none $ nothing ! $ nothing ! $ done !))
