-- The path of a reading of the sequence.
use Rattle.std.proofs.Common.{◌≡◌, ◌≢◌, ℕ, suc, List, [], ◌∷◌, ◌++◌, refl, sym, subst, ap, ◌∙◌}
use Rattle.tag.specs.Tag.{opening_tag}
use Rattle.bank.specs.declared.status.Status.{Status}
use Rattle.bank.specs.declared.status.Status.TheVariants.{Unset, Pending, Final}
use Rattle.bank.specs.declared.kind.Kind.TheVariants.{Next, Spread}
use Rattle.mail.specs.Phase.{Phase}
use Rattle.record.specs.declared.call.CallKind.{CallKind}
use Rattle.record.specs.declared.stage.Stage.{Stage}
use Rattle.record.specs.declared.stage.Stage.TheVariants.{ReadNext, ReadSpread, QueryFrom}
use Rattle.record.specs.PhaseOrder.{after_next, greatest_status}
use Rattle.record.specs.Grammar.{Asks, finalized_after, IsReading}
use Rattle.record.proofs.Phases.PhasePathLemmas.{IsPath, HasTag, untagged, asks_of, spread_on}

-- the phases of a reading, and those after it
pub record ReadSplit (kind : CallKind) (number position finalized : ℕ) (phases : List Phase) (end : Stage) : Type 0 where
  pub first : List Phase
  pub later : List Phase
  pub split : phases ≡ first ++ later
  pub last : ℕ
  pub to : ℕ
  pub reading : IsReading position finalized first last to
  pub path : IsPath kind number (QueryFrom to last opening_tag to) later end

read_spread : (kind : CallKind) (number position finalized : ℕ) (next : Phase) (later : List Phase) (end : Stage) (status : Status) →
    HasTag end → greatest_status next.replies ≡ status → status ≢ Unset → Asks next Next position →
    ((spread : Phase) (rest : List Phase) → later ≡ spread ∷ rest → (m : ℕ) →
    IsPath kind number (ReadNext (suc position) m) rest end → ReadSplit kind number (suc position) m rest end) →
    IsPath kind number (ReadSpread position finalized status) later end → ReadSplit kind number position finalized (next ∷ later) end
read_spread kind number position finalized next [] end status has e some now again path =
    absurd (untagged (ReadSpread position finalized status) end refl has path)
read_spread kind number position finalized next (spread ∷ rest) end status has e some now again path =
    let split = again spread rest refl (finalized_after status position finalized)
    (subst (λ s. IsPath kind number s rest end) (spread_on status position finalized) path.1) in
    record {
      first = next ∷ spread ∷ split.first;
      later = split.later;
      split = ap (λ xs. next ∷ spread ∷ xs) split.split;
      last = split.last;
      to = split.to;
      reading = (
        now,
        (λ none. some (sym e ∙ none)),
        subst (λ s. Asks spread (Spread s) position) (sym e) (asks_of (Spread status) position spread path.0),
        subst (λ s. IsReading (suc position) (finalized_after s position finalized) split.first split.last split.to) (sym e) split.reading,
      );
      path = split.path;
    }

read_case : (kind : CallKind) (number position finalized : ℕ) (next : Phase) (later : List Phase) (end : Stage) (status : Status) →
    HasTag end → greatest_status next.replies ≡ status → Asks next Next position →
    ((spread : Phase) (rest : List Phase) → later ≡ spread ∷ rest → (m : ℕ) →
    IsPath kind number (ReadNext (suc position) m) rest end → ReadSplit kind number (suc position) m rest end) →
    IsPath kind number (after_next status position finalized) later end → ReadSplit kind number position finalized (next ∷ later) end
read_case kind number position finalized next later end Unset has e now again path = record {
  first = next ∷ [];
  later = later;
  split = refl;
  last = position;
  to = finalized;
  reading = (now, e, refl, refl);
  path = path;
}
read_case kind number position finalized next later end Pending has e now again path =
    read_spread kind number position finalized next later end Pending has e (λ same. cc) now again path
read_case kind number position finalized next later end Final has e now again path =
    read_spread kind number position finalized next later end Final has e (λ same. cc) now again path

pub read_split : (kind : CallKind) (number : ℕ) (phases : List Phase) (position finalized : ℕ) (end : Stage) → HasTag end →
    IsPath kind number (ReadNext position finalized) phases end →
    ReadSplit kind number position finalized phases end
read_split kind number [] position finalized end has path =
    absurd (untagged (ReadNext position finalized) end refl has path)
read_split kind number (next ∷ []) position finalized end has path =
    read_case kind number position finalized next [] end (greatest_status next.replies) has refl (asks_of Next position next path.0)
    (λ spread rest same m p. absurd (cc)) path.1
read_split kind number (next ∷ second ∷ later) position finalized end has path =
    read_case kind number position finalized next (second ∷ later) end (greatest_status next.replies) has refl
    (asks_of Next position next path.0)
    (λ spread rest same m p.
    let tails : rest ≡ later = (let k = same in cc) in
    subst (λ xs. ReadSplit kind number (suc position) m xs end) (sym tails)
    (read_split kind number later (suc position) m end has (subst (λ xs. IsPath kind number (ReadNext (suc position) m) xs end) tails p)))
    path.1
