-- Phases as a path from stage to stage.
use Rattle.std.proofs.Common.{◌≡◌, ◌≢◌, ℕ, suc, List, [], ◌∷◌, ◌++◌, arith}
use Rattle.std.proofs.Common.{Option, Some, None, IsSome, refl, sym, subst, ap, ◌∙◌}
use Rattle.std.proofs.lemmas.Option.{some_pair_parts}
use Rattle.tag.specs.declared.tag.Tag.{Tag}
use Rattle.tag.specs.Tag.{opening_tag}
use Rattle.bank.specs.declared.status.Status.{Status}
use Rattle.bank.specs.declared.status.Status.TheVariants.{Unset}
use Rattle.bank.specs.declared.kind.Kind.{Kind}
use Rattle.bank.specs.declared.kind.Kind.TheVariants.{Next, Spread}
use Rattle.mail.specs.Phase.{Phase, lacks_pieces}
use Rattle.record.specs.declared.call.CallKind.{CallKind}
use Rattle.record.specs.declared.stage.Stage.{Stage}
use Rattle.record.specs.declared.stage.Stage.TheVariants.{ReadBegin, ReadNext, ReadSpread, QueryFrom}
use Rattle.record.specs.PhaseOrder.{due, after, after_next, after_spread, passed, stage_after, IsCourse, greatest_status, begun_at}
use Rattle.record.specs.PhaseOrder.{stage_past}
use Rattle.record.specs.Journals.{stage_tag}
use Rattle.record.specs.Grammar.{Asks, finalized_after, IsReading}
use Rattle.record.proofs.Phases.PastFetchLemmas.{IsLateWith, late_after, late_begun}
use Rattle.record.proofs.BegunStageLemmas.{begun_tag}

-- paths

-- the replies of these phases, each of them due, lead from a stage to another
abbrev pub IsPath : CallKind → (number : ℕ) → Stage → List Phase → Stage → Type 0
IsPath kind number stage [] end = stage ≡ end
IsPath kind number stage (phase ∷ phases) end =
    (due (begun_at stage phase.position) ≡ Some (phase.kind, phase.position)) × IsPath kind number
    (after kind number (begun_at stage phase.position) phase.replies (lacks_pieces phase)) phases end

-- the call has its tag at this stage
abbrev pub HasTag : Stage → Type 0
HasTag stage = IsSome (stage_tag stage)

pub untagged : (stage end : Stage) → stage_tag stage ≡ None → HasTag end → stage ≡ end → ⊥
untagged stage end none has same = cc

-- the phases that are complete, and the one that is not
pub record Closed (kind : CallKind) (number : ℕ) (stage : Stage) (phases : List Phase) (end : Stage) : Type 0 where
  pub done : List Phase
  pub open_phase : List Phase
  pub split : phases ≡ done ++ open_phase
  pub middle : Stage
  pub path : IsPath kind number stage done middle
  pub same_tag : stage_tag middle ≡ stage_tag end

pub closed_of : (kind : CallKind) (number : ℕ) (phases : List Phase) (stage : Stage) → IsCourse kind number stage phases →
    Closed kind number stage phases (stage_after kind number stage phases)
closed_of kind number [] stage course = record { done = []; open_phase = []; split = refl; middle = stage; path = refl; same_tag = refl }
closed_of kind number (phase ∷ []) stage course = by_end phase.end refl
  where
    by_end : (o : Option ℕ) → phase.end ≡ o → Closed kind number stage (phase ∷ []) (stage_after kind number stage (phase ∷ []))
    by_end None h =
        record {
          done = [];
          open_phase = phase ∷ [];
          split = refl;
          middle = stage;
          path = refl;
          same_tag = sym (ap (λ o. stage_tag (passed kind number (begun_at stage phase.position) o phase.replies (lacks_pieces phase))) h
              ∙ begun_tag stage phase.position);
        }
    by_end (Some end) h = record {
      done = phase ∷ [];
      open_phase = [];
      split = refl;
      middle = stage_past kind number stage phase;
      path = (course.0, ap (λ o. passed kind number (begun_at stage phase.position) o phase.replies (lacks_pieces phase)) (sym h));
      same_tag = refl;
    }
closed_of kind number (phase ∷ next ∷ later) stage course =
    let ended = course.1.1 in
    let rest = closed_of kind number (next ∷ later) (stage_past kind number stage phase) course.2 in
    record {
      done = phase ∷ rest.done;
      open_phase = rest.open_phase;
      split = ap (λ xs. phase ∷ xs) rest.split;
      middle = rest.middle;
      path = (
        course.0,
        subst (λ o. IsPath kind number (passed kind number (begun_at stage phase.position) o phase.replies (lacks_pieces phase)) rest.done
            rest.middle) ended rest.path,
      );
      same_tag = rest.same_tag;
    }

pub path-append : (kind : CallKind) (number : ℕ) (xs ys : List Phase) (stage middle end : Stage) →
    IsPath kind number stage xs middle → IsPath kind number middle ys end → IsPath kind number stage (xs ++ ys) end
path-append kind number [] ys stage middle end p q = subst (λ s. IsPath kind number s ys end) (sym p) q
path-append kind number (x ∷ xs) ys stage middle end p q =
    (p.0, path-append kind number xs ys (after kind number (begun_at stage x.position) x.replies (lacks_pieces x)) middle end p.1 q)

-- a call that has what it needs keeps its tag
pub path_tag : (kind : CallKind) (number : ℕ) (phases : List Phase) (stage end : Stage) (tag : Tag) → IsLateWith tag stage →
    IsPath kind number stage phases end → stage_tag end ≡ Some tag
path_tag kind number [] stage end tag late path = subst (λ s. stage_tag s ≡ Some tag) path late.1
path_tag kind number (phase ∷ phases) stage end tag late path =
    path_tag kind number phases (after kind number (begun_at stage phase.position) phase.replies (lacks_pieces phase)) end tag
    (late_after kind number (begun_at stage phase.position) phase.replies (lacks_pieces phase) tag
    (late_begun stage phase.position tag late)) path.1

pub asks_of : (k : Kind) (p : ℕ) (phase : Phase) →
    ◌≡◌ {A = Option (Kind × ℕ)} (Some (k, p)) (Some (phase.kind, phase.position)) → Asks phase k p
asks_of k p phase e = let parts = some_pair_parts k phase.kind p phase.position e in (sym parts.0, sym parts.1)

pub due_of : (k : Kind) (p : ℕ) (phase : Phase) → Asks phase k p →
    ◌≡◌ {A = Option (Kind × ℕ)} (Some (k, p)) (Some (phase.kind, phase.position))
due_of k p phase asks = ap (λ x. Some (x, p)) (sym asks.0) ∙ ap (λ q. Some (phase.kind, q)) (sym asks.1)

-- readings

pub next_on : (status : Status) (position finalized : ℕ) → status ≢ Unset →
    after_next status position finalized ≡ ReadSpread position finalized status
next_on status position finalized some = grind arith

pub spread_on : (status : Status) (position finalized : ℕ) →
    after_spread status position finalized ≡ ReadNext (suc position) (finalized_after status position finalized)
spread_on status position finalized = grind arith

pub reading_path : (kind : CallKind) (number : ℕ) (phases : List Phase) (position finalized last to : ℕ) →
    IsReading position finalized phases last to →
    IsPath kind number (ReadNext position finalized) phases (QueryFrom to last opening_tag to)
reading_path kind number [] position finalized last to reading = absurd reading
reading_path kind number (next ∷ []) position finalized last to reading = (
  due_of Next position next reading.0,
  ap (λ s. after_next s position finalized) reading.1
      ∙ (ap (λ p. QueryFrom finalized p opening_tag finalized) (sym reading.2)
      ∙ ap (λ q. QueryFrom q last opening_tag q) (sym reading.3)),
)
reading_path kind number (next ∷ spread ∷ later) position finalized last to reading =
    let status = greatest_status next.replies in
    let rest = reading_path kind number later (suc position) (finalized_after status position finalized) last to reading.3 in (
      due_of Next position next reading.0,
      subst (λ s. IsPath kind number s (spread ∷ later) (QueryFrom to last opening_tag to))
          (sym (next_on status position finalized reading.1)) (
            due_of (Spread status) position spread reading.2,
            subst (λ s. IsPath kind number s later (QueryFrom to last opening_tag to)) (sym (spread_on status position finalized)) rest,
          ),
    )

-- a first reading begins where its first phase does
pub begin_path : (kind : CallKind) (number : ℕ) (first later : List Phase) (start finalized last to : ℕ) (end : Stage) →
    IsReading start finalized first last to → IsPath kind number (ReadNext start start) (first ++ later) end →
    IsPath kind number ReadBegin (first ++ later) end
begin_path kind number first later start finalized last to end reading path = grind arith
