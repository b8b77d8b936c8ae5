-- From each stage of a call there is a way to its end.
use Rattle.std.proofs.Common.{◌≡◌, ℕ, zero, suc, ◌+◌, ◌≤◌, false, cond, eqb}
use Rattle.std.proofs.Common.{List, [], ◌∷◌, Some, refl, sym, subst, arith, le_refl, eq-eqb, ne_eqb}
use Rattle.std.proofs.lemmas.Bool.{cond_both}
use Rattle.tag.specs.declared.tag.Tag.{Tag}
use Rattle.tag.specs.Tag.{opening_tag, later_tag}
use Rattle.bank.specs.declared.status.Status.{Status}
use Rattle.bank.specs.declared.status.Status.TheVariants.{Pending, Final}
use Rattle.bank.specs.declared.kind.Kind.{Kind}
use Rattle.bank.specs.declared.kind.Kind.TheVariants.{Next, Spread, Query, PreWrite, Finalize, Fetch}
use Rattle.mail.specs.Phase.{Phase, begun}
use Rattle.record.specs.declared.call.CallKind.{CallKind}
use Rattle.record.specs.declared.stage.Stage.{Stage}
use Rattle.record.specs.declared.stage.Stage.TheVariants.{ReadBegin, ReadNext, ReadSpread, QueryFrom, FetchAt, PreWriteAt}
use Rattle.record.specs.declared.stage.Stage.TheVariants.{FinalizeAt, AgainNext, AgainSpread, MoveSpread, MoveQuery}
use Rattle.record.specs.declared.stage.Stage.TheVariants.{MoveFetch, MovePreWrite, MoveFinalize, MoveFinal, Ended, Moved}
use Rattle.record.specs.PhaseOrder.{due, after, after_spread, tagged, begun_at}
use Rattle.record.specs.Journals.{stage_tag}
use Rattle.record.proofs.Phases.CourseAndPathLemmas.{IsLast}
use Rattle.record.proofs.Phases.PhasePathLemmas.{IsPath}
use Rattle.record.proofs.Phases.PositionOrderLemmas.{IsOrderly}
use Rattle.record.proofs.Phases.QueryPathLemmas.{later_place, query_last, query_on}

-- each stage comes to an end, by phases without replies

-- a phase that asks this, took no reply and needs no piece
abbrev silent : Kind → (position : ℕ) → Phase
silent kind position = begun 0 0 kind position 0 0 0 0

pub record Finish (kind : CallKind) (number : ℕ) (stage : Stage) : Type 0 where
  pub more : List Phase
  pub end : Stage
  pub tag : Tag
  pub last : IsLast end
  pub tagged : stage_tag end ≡ Some tag
  pub path : IsPath kind number stage more end

finish_by : (kind : CallKind) (number : ℕ) (stage : Stage) (asked : Kind) (position : ℕ) →
    due (begun_at stage position) ≡ Some (asked, position) →
    Finish kind number (after kind number (begun_at stage position) [] false) →
    Finish kind number stage
finish_by kind number stage asked position e rest = record {
  more = silent asked position ∷ rest.more;
  end = rest.end;
  tag = rest.tag;
  last = rest.last;
  tagged = rest.tagged;
  path = (e, rest.path);
}

finish_last : (kind : CallKind) (number : ℕ) (stage : Stage) (tag : Tag) → IsLast stage → stage_tag stage ≡ Some tag →
    Finish kind number stage
finish_last kind number stage tag last tagged = record { more = []; end = stage; tag = tag; last = last; tagged = tagged; path = refl }

finish_same : (kind : CallKind) (number last : ℕ) (tag : Tag) → Finish kind number (AgainNext last last tag)
finish_same kind number last tag =
    finish_by kind number (AgainNext last last tag) Next last refl
    (subst (λ b. Finish kind number (cond b (Ended last tag) (PreWriteAt last tag))) (sym (eq-eqb last last refl))
    (finish_last kind number (Ended last tag) tag refl refl))

finish_put : (kind : CallKind) (number last : ℕ) (tag : Tag) → Finish kind number (PreWriteAt last tag)
finish_put kind number last tag =
    finish_by kind number (PreWriteAt last tag) (PreWrite tag) last refl
    (finish_by kind number (FinalizeAt last tag) (Finalize tag) last refl (finish_same kind number last tag))

finish_again : (kind : CallKind) (number last position : ℕ) (tag : Tag) → Finish kind number (AgainNext last position tag)
finish_again kind number last position tag =
    finish_by kind number (AgainNext last position tag) Next position refl
    (cond_both (eqb position last) (Ended last tag) (PreWriteAt position tag) (λ s. Finish kind number s)
    (λ e. finish_last kind number (Ended last tag) tag refl refl) (λ e. finish_put kind number position tag))

finish_fetch : (kind : CallKind) (number place last : ℕ) (tag : Tag) → Finish kind number (FetchAt place last tag)
finish_fetch kind number place last tag =
    finish_by kind number (FetchAt place last tag) (Fetch tag) place refl
    (cond_both (eqb place last) (AgainNext last last tag) (PreWriteAt last tag) (λ s. Finish kind number s)
    (λ e. finish_same kind number last tag) (λ e. finish_put kind number last tag))

finish_tagged : (kind : CallKind) (number place last : ℕ) (greatest : Tag) → Finish kind number (tagged kind number place last greatest)
finish_tagged kind number place last greatest = grind (arith, finish_fetch, finish_put)

finish_queries : (kind : CallKind) (number count position last : ℕ) (greatest : Tag) (shown_at : ℕ) → position + count ≡ last →
    Finish kind number (QueryFrom position last greatest shown_at)
finish_queries kind number zero position last greatest shown_at e =
    let here : position ≡ last = omega arith in
    finish_by kind number (QueryFrom position last greatest shown_at) Query position refl
    (subst (Finish kind number) (sym (query_last kind number opening_tag position last greatest shown_at here))
    (finish_tagged kind number (later_place opening_tag greatest shown_at position) last (later_tag greatest opening_tag)))
finish_queries kind number (suc count) position last greatest shown_at e =
    finish_by kind number (QueryFrom position last greatest shown_at) Query position refl
    (subst (Finish kind number)
    (sym (query_on kind number opening_tag position last greatest shown_at (ne_eqb position last (λ same. omega arith))))
    (finish_queries kind number count (suc position) last (later_tag greatest opening_tag)
    (later_place opening_tag greatest shown_at position)
    (omega arith)))

count_up : (p l : ℕ) → p ≤ l → (count : ℕ) × (p + count ≡ l)
count_up zero l h = (l, omega arith)
count_up (suc p) zero h = absurd (omega arith)
count_up (suc p) (suc l) h = let rest = count_up p l (omega arith) in let e = rest.1 in (rest.0, omega arith)

finish_query : (kind : CallKind) (number position last : ℕ) (greatest : Tag) (shown_at : ℕ) → position ≤ last →
    Finish kind number (QueryFrom position last greatest shown_at)
finish_query kind number position last greatest shown_at h =
    let up = count_up position last h in finish_queries kind number up.0 position last greatest shown_at up.1

finish_read : (kind : CallKind) (number position finalized : ℕ) → finalized ≤ position →
    Finish kind number (ReadNext position finalized)
finish_read kind number position finalized h =
    finish_by kind number (ReadNext position finalized) Next position refl
    (finish_query kind number finalized position opening_tag finalized h)

finish_spread : (kind : CallKind) (number position finalized : ℕ) (status : Status) → finalized ≤ position →
    Finish kind number (after_spread status position finalized)
finish_spread kind number position finalized status h = grind (arith, finish_read, le_refl)

finish_final : (kind : CallKind) (number position : ℕ) (tag : Tag) → Finish kind number (MoveFinal position tag)
finish_final kind number position tag =
    finish_by kind number (MoveFinal position tag) (Spread Final) position refl (finish_last kind number (Moved position tag) tag refl refl)

finish_finalize : (kind : CallKind) (number position : ℕ) (tag : Tag) → Finish kind number (MoveFinalize position tag)
finish_finalize kind number position tag =
    finish_by kind number (MoveFinalize position tag) (Finalize tag) (suc position) refl (finish_final kind number position tag)

finish_pre_write : (kind : CallKind) (number position : ℕ) (tag : Tag) → Finish kind number (MovePreWrite position tag)
finish_pre_write kind number position tag =
    finish_by kind number (MovePreWrite position tag) (PreWrite tag) (suc position) refl (finish_finalize kind number position tag)

finish_move : (kind : CallKind) (number position : ℕ) (tag : Tag) → Finish kind number (MoveFetch position tag)
finish_move kind number position tag =
    finish_by kind number (MoveFetch position tag) (Fetch tag) position refl (finish_pre_write kind number position tag)

pub finish : (kind : CallKind) (number : ℕ) (stage : Stage) → IsOrderly stage → Finish kind number stage
finish kind number ReadBegin h =
    finish_by kind number ReadBegin Next 0 refl (finish_query kind number 0 0 opening_tag 0 (le_refl 0))
finish kind number (ReadNext position finalized) h = finish_read kind number position finalized h
finish kind number (ReadSpread position finalized status) h =
    finish_by kind number (ReadSpread position finalized status) (Spread status) position refl
    (finish_spread kind number position finalized status h)
finish kind number (QueryFrom position last greatest shown_at) h = finish_query kind number position last greatest shown_at h
finish kind number (FetchAt place last tag) h = finish_fetch kind number place last tag
finish kind number (PreWriteAt last tag) h = finish_put kind number last tag
finish kind number (FinalizeAt last tag) h =
    finish_by kind number (FinalizeAt last tag) (Finalize tag) last refl (finish_same kind number last tag)
finish kind number (AgainNext last position tag) h = finish_again kind number last position tag
finish kind number (AgainSpread last position tag status) h =
    finish_by kind number (AgainSpread last position tag status) (Spread status) position refl
    (finish_again kind number last (suc position) tag)
finish kind number (MoveSpread position) h =
    finish_by kind number (MoveSpread position) (Spread Pending) position refl
    (finish_by kind number (MoveQuery position) Query position refl (finish_move kind number position opening_tag))
finish kind number (MoveQuery position) h =
    finish_by kind number (MoveQuery position) Query position refl (finish_move kind number position opening_tag)
finish kind number (MoveFetch position tag) h = finish_move kind number position tag
finish kind number (MovePreWrite position tag) h = finish_pre_write kind number position tag
finish kind number (MoveFinalize position tag) h = finish_finalize kind number position tag
finish kind number (MoveFinal position tag) h = finish_final kind number position tag
finish kind number (Ended last tag) h = finish_last kind number (Ended last tag) tag refl refl
finish kind number (Moved position tag) h = finish_last kind number (Moved position tag) tag refl refl
