-- Later readings, and the puts between them.
use Rattle.std.proofs.Common.{◌≡◌, ◌≢◌, ℕ, zero, suc, ◌<◌, ◌≤◌, Bool, true, false, cond, eqb, List, []}
use Rattle.std.proofs.Common.{◌∷◌, ◌++◌, length, refl, sym, subst, ap, ◌∙◌, arith, eqb-true, eq-eqb, ne_eqb}
use Rattle.tag.specs.declared.tag.Tag.{Tag}
use Rattle.tag.specs.Tag.{later_tag}
use Rattle.bank.specs.declared.status.Status.{Status}
use Rattle.bank.specs.declared.status.Status.TheVariants.{Unset}
use Rattle.bank.specs.declared.kind.Kind.TheVariants.{Next, Spread, Query, PreWrite, Finalize}
use Rattle.mail.specs.Phase.{Phase}
use Rattle.record.specs.declared.call.CallKind.{CallKind}
use Rattle.record.specs.declared.stage.Stage.{Stage}
use Rattle.record.specs.declared.stage.Stage.TheVariants.{QueryFrom, PreWriteAt, FinalizeAt, AgainNext, AgainSpread, Ended}
use Rattle.record.specs.PhaseOrder.{after_again, tagged, greatest_status, greatest_tag, begun_at}
use Rattle.record.specs.Grammar.{Asks, finalized_after, IsReading, AreQueries, greatest_shown, Round, round_phases, AreRounds}
use Rattle.record.proofs.Phases.CourseAndPathLemmas.{IsLast, not_last, not_end}
use Rattle.record.proofs.Phases.PhasePathLemmas.{IsPath, asks_of, due_of}
use Rattle.record.proofs.Phases.QueryPathLemmas.{place_after, later_place, query_last, query_on}

queries_some : (query : Phase) (queries : List Phase) (position last : ℕ) →
    AreQueries position last (query ∷ queries) → position ≤ last
queries_some query [] position last asked = let e = asked.1 in omega arith
queries_some query (next ∷ later) position last asked = let h = queries_some next later (suc position) last asked.1 in omega arith

pub queries_path :
    (kind : CallKind) (number : ℕ) (query : Phase) (queries : List Phase) (position last : ℕ) (greatest : Tag) (shown_at : ℕ) →
    AreQueries position last (query ∷ queries) → IsPath kind number (QueryFrom position last greatest shown_at) (query ∷ queries)
    (tagged kind number (place_after greatest shown_at position (query ∷ queries)) last (greatest_shown greatest (query ∷ queries)))
queries_path kind number query [] position last greatest shown_at asked = (
  due_of Query position query asked.0,
  query_last kind number (greatest_tag query.replies) position last greatest shown_at
      (let e = asked.1 in omega arith),
)
queries_path kind number query (next ∷ later) position last greatest shown_at asked =
    let found = greatest_tag query.replies in
    let top = later_tag greatest found in
    let place = later_place found greatest shown_at position in
    let less = queries_some next later (suc position) last asked.1 in (
      due_of Query position query asked.0,
      subst (λ s. IsPath kind number s (next ∷ later)
          (tagged kind number (place_after top place (suc position) (next ∷ later)) last (greatest_shown top (next ∷ later))))
          (sym (query_on kind number found position last greatest shown_at (ne_eqb position last (λ e. omega arith))))
          (queries_path kind number next later (suc position) last top place asked.1),
    )

-- rounds

-- a later reading from a position of a call that reads again from another, and the rounds after it
pub record AgainSplit (from position finalized : ℕ) (tag : Tag) (phases : List Phase) : Type 0 where
  pub reading : List Phase
  pub rounds : List Round
  pub split : phases ≡ reading ++ round_phases rounds
  pub last : ℕ
  pub to : ℕ
  pub is_reading : IsReading position finalized reading last to
  pub are_rounds : AreRounds tag from last rounds

-- what a shorter list of phases is
abbrev Shorter : CallKind → (number : ℕ) → List Phase → Stage → Type 0
Shorter kind number phases end = (later : List Phase) → length later < length phases → (from position finalized : ℕ) (tag : Tag) →
    IsPath kind number (AgainNext from position tag) later end → AgainSplit from position finalized tag later

nothing_due : (kind : CallKind) (number : ℕ) (stage end : Stage) (phases : List Phase) →
    ((position : ℕ) → IsLast (begun_at stage position)) → IsPath kind number stage phases end → phases ≡ []
nothing_due kind number stage end [] last path = refl
nothing_due kind number stage end (phase ∷ phases) last path =
    absurd (not_last (begun_at stage phase.position) (phase.kind, phase.position) path.0 (last phase.position))

again_put : (kind : CallKind) (number from position finalized : ℕ) (tag : Tag) (next : Phase) (more : List Phase) (end : Stage) →
    IsLast end → Shorter kind number (next ∷ more) end → Asks next Next position → greatest_status next.replies ≡ Unset →
    position ≢ from → IsPath kind number (PreWriteAt position tag) more end → AgainSplit from position finalized tag (next ∷ more)
again_put kind number from position finalized tag next [] end last again now none other path =
    absurd (not_end (PreWriteAt position tag) end (PreWrite tag, position) refl last path)
again_put kind number from position finalized tag next (pre_write ∷ []) end last again now none other path =
    absurd (not_end (FinalizeAt position tag) end (Finalize tag, position) refl last path.1)
again_put kind number from position finalized tag next (pre_write ∷ finalize ∷ later) end last again now none other path =
    let rest = again later (omega arith) position position position tag path.1.1 in
    record {
      reading = next ∷ [];
      rounds = record { pre_write = pre_write; finalize = finalize; reading = rest.reading; last = rest.last } ∷ rest.rounds;
      split = ap (λ xs. next ∷ pre_write ∷ finalize ∷ xs) rest.split;
      last = position;
      to = finalized;
      is_reading = (now, none, refl, refl);
      are_rounds = (
        other,
        (asks_of (PreWrite tag) position pre_write path.0, asks_of (Finalize tag) position finalize path.1.0, (rest.to, rest.is_reading)),
        rest.are_rounds,
      );
    }

again_unset : (kind : CallKind) (number from position finalized : ℕ) (tag : Tag) (next : Phase) (more : List Phase) (end : Stage) →
    IsLast end → Shorter kind number (next ∷ more) end → Asks next Next position → greatest_status next.replies ≡ Unset →
    (b : Bool) → eqb position from ≡ b → IsPath kind number (cond b (Ended from tag) (PreWriteAt position tag)) more end →
    AgainSplit from position finalized tag (next ∷ more)
again_unset kind number from position finalized tag next more end last again now none true h path = record {
  reading = next ∷ [];
  rounds = [];
  split = ap (λ xs. next ∷ xs) (nothing_due kind number (Ended from tag) end more (λ position. refl) path);
  last = position;
  to = finalized;
  is_reading = (now, none, refl, refl);
  are_rounds = eqb-true position from h;
}
again_unset kind number from position finalized tag next more end last again now none false h path =
    again_put kind number from position finalized tag next more end last again now none
    (λ e. let clash : true ≡ false = sym (eq-eqb position from e) ∙ h in cc) path

again_spread : (kind : CallKind) (number from position finalized : ℕ) (tag : Tag) (next : Phase) (more : List
    Phase) (end : Stage) (status : Status) → IsLast end → Shorter kind number (next ∷ more) end → Asks next Next position →
    greatest_status next.replies ≡ status → status ≢ Unset → IsPath kind number (AgainSpread from position tag status) more end →
    AgainSplit from position finalized tag (next ∷ more)
again_spread kind number from position finalized tag next [] end status last again now e some path =
    absurd (not_end (AgainSpread from position tag status) end (Spread status, position) refl last path)
again_spread kind number from position finalized tag next (spread ∷ later) end status last again now e some path =
    let rest = again later (omega arith) from (suc position) (finalized_after status position finalized) tag path.1 in
    record {
      reading = next ∷ spread ∷ rest.reading;
      rounds = rest.rounds;
      split = ap (λ xs. next ∷ spread ∷ xs) rest.split;
      last = rest.last;
      to = rest.to;
      is_reading = (
        now,
        (λ none. some (sym e ∙ none)),
        subst (λ s. Asks spread (Spread s) position) (sym e) (asks_of (Spread status) position spread path.0),
        subst (λ s. IsReading (suc position) (finalized_after s position finalized) rest.reading rest.last rest.to)
            (sym e) rest.is_reading,
      );
      are_rounds = rest.are_rounds;
    }

again_case : (kind : CallKind) (number from position finalized : ℕ) (tag : Tag) (next : Phase) (more : List
    Phase) (end : Stage) (status : Status) → IsLast end → Shorter kind number (next ∷ more) end → Asks next Next position →
    greatest_status next.replies ≡ status → IsPath kind number (after_again status from position tag) more end →
    AgainSplit from position finalized tag (next ∷ more)
again_case kind number from position finalized tag next more end status last again now e path = grind (arith, again_spread, again_unset)

pub again_split : (kind : CallKind) (number fuel : ℕ) (phases : List Phase) (end : Stage) → length phases ≤ fuel → IsLast end →
    (from position finalized : ℕ) (tag : Tag) →
    IsPath kind number (AgainNext from position tag) phases end → AgainSplit from position finalized tag phases
again_split kind number fuel [] end h last from position finalized tag path =
    absurd (not_end (AgainNext from position tag) end (Next, position) refl last path)
again_split kind number zero (next ∷ more) end h last from position finalized tag path = absurd (omega arith)
again_split kind number (suc fuel) (next ∷ more) end h last from position finalized tag path =
    again_case kind number from position finalized tag next more end (greatest_status next.replies) last
    (λ later less f p m t way. again_split kind number fuel later end (omega arith) last f p m t way)
    (asks_of Next position next path.0) refl path.1
