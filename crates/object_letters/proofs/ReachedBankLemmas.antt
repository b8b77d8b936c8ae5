-- What a newly opened bank becomes by requests at step 0, before any piece is dropped.
use Rattle.std.proofs.Common.{◌≡◌, ℕ, Bool, true, false, cond, List, [], ◌∷◌, Option, Some, None, sym, ap, ◌∙◌, subst, refl, arith}
use Rattle.std.specs.FinMap as map
use Rattle.tag.specs.declared.tag.Tag.{Tag}
use Rattle.tag.specs.Tag.{tag_eq, opening_tag}
use Rattle.tag.proofs.TagOrderLemmas.{tag_cmp_total, eq_by_cmp-tag, tag_eq-same}
use Rattle.piece.specs.declared.piece.Piece.{Piece}
use Rattle.bank.specs.declared.request.Request.{Request}
use Rattle.bank.specs.declared.request.Request.TheVariants as request
use Rattle.bank.specs.declared.row.Label.TheVariants.{PreWritten, Finalized}
use Rattle.bank.specs.declared.row.Row.{Row}
use Rattle.bank.specs.declared.status.Pointer.TheVariants.{Unset}
use Rattle.bank.specs.declared.status.Status.{Status}
use Rattle.bank.specs.declared.status.Status.TheVariants as status
use Rattle.bank.specs.Bank.{Bank, opening_row, opened_bank, with_rows, row_after_pre_write, row_after_finalize}
use Rattle.bank.specs.Pointer.{raised}
use Rattle.bank.specs.Serve.{uncollected_bank}
use Rattle.bank.proofs.RowChangeLemmas.{Table, with_row, all_rows}
use Rattle.object_letters.proofs.LateDroppingLemmas.{uncollected_after}

-- what a bank has recorded for a tag, while no piece is dropped: a piece, that the tag is finalized, or both
pub data Recorded : Type 0 where
  Brought : Piece → Recorded
  Final : Recorded
  Both : Piece → Recorded

-- the row of such a tag
abbrev pub recorded_row : Recorded → Row
recorded_row (Brought p) = record { label = PreWritten 0; arrival = Some (record { piece = Some p; step = 0 }) }
recorded_row Final = record { label = Finalized 0; arrival = None }
recorded_row (Both p) = record { label = Finalized 0; arrival = Some (record { piece = Some p; step = 0 }) }

-- a row, if there is one, is such a row
abbrev pub IsRecorded : Option Row → Type 0
IsRecorded None = Unit {0}
IsRecorded (Some r) = (is : Recorded) × (r ≡ recorded_row is)

-- a bank of such rows
abbrev pub plain_bank : Option ℕ → Table → Status → Bank
plain_bank delta rows s = record { rows = rows; pointer = raised Unset s 0; delta = delta; retired = None }

pub record IsPlain (point : ℕ) (delta : Option ℕ) (w : Bank) : Type 0 where
  pub rows : Table
  pub status : Status
  pub is : w ≡ plain_bank delta rows status
  pub recorded : (t : Tag) → IsRecorded (map.get rows t)
  pub opening : map.get rows opening_tag ≡ Some (opening_row point 0)

finalize_records : (o : Option Row) → IsRecorded o → IsRecorded (Some (row_after_finalize o 0))
finalize_records None is = (Final, refl)
finalize_records (Some r) is = row is.0 is.1
  where
    row : (f : Recorded) → r ≡ recorded_row f → IsRecorded (Some (row_after_finalize (Some r) 0))
    row (Brought p) e = (Both p, ap (λ (r : Row). row_after_finalize (Some r) 0) e)
    row Final e = (Final, ap (λ (r : Row). row_after_finalize (Some r) 0) e)
    row (Both p) e = (Both p, ap (λ (r : Row). row_after_finalize (Some r) 0) e)

pre_write_records : (p : Piece) (o : Option Row) → IsRecorded o → IsRecorded (Some (row_after_pre_write o p 0))
pre_write_records p None is = (Brought p, refl)
pre_write_records p (Some r) is = row is.0 is.1
  where
    row : (f : Recorded) → r ≡ recorded_row f → IsRecorded (Some (row_after_pre_write (Some r) p 0))
    row (Brought q) e = (Brought q, ap (λ (r : Row). row_after_pre_write (Some r) p 0) e)
    row Final e = (Both p, ap (λ (r : Row). row_after_pre_write (Some r) p 0) e)
    row (Both q) e = (Both q, ap (λ (r : Row). row_after_pre_write (Some r) p 0) e)

-- a change of one row
module _ (point : ℕ) (delta : Option ℕ) (w : Bank) (plain : IsPlain point delta w) (tag : Tag) (f : Option Row → Row)
    (records : (o : Option Row) → IsRecorded o → IsRecorded (Some (f o)))
    (leaves : f (Some (opening_row point 0)) ≡ opening_row point 0) where
  row_plain : IsPlain point delta (with_rows w (with_row w.rows tag f))
  row_plain = record {
    rows = with_row plain.rows tag f;
    status = plain.status;
    is = ap (λ (b : Bank). with_rows b (with_row b.rows tag f)) plain.is;
    recorded = all_rows plain.rows tag f (λ _ o. IsRecorded o) (records (map.get plain.rows tag) (plain.recorded tag)) plain.recorded;
    opening = all_rows plain.rows tag f (λ t o. t ≡ opening_tag → o ≡ Some (opening_row point 0))
        (λ is. ap (λ o. Some (f o)) (ap (map.get plain.rows) is ∙ plain.opening) ∙ ap (λ (r : Row). Some r) leaves)
        (λ t is. ap (map.get plain.rows) is ∙ plain.opening) opening_tag refl;
  }

raised_twice : (s t : Status) → (u : Status) × (raised (raised Unset s 0) t 0 ≡ raised Unset u 0)
raised_twice status.Unset t = (t, refl)
raised_twice status.Pending status.Unset = (status.Pending, refl)
raised_twice status.Pending status.Pending = (status.Pending, refl)
raised_twice status.Pending status.Final = (status.Final, refl)
raised_twice status.Final t = (status.Final, refl)

uncollected_plain : (point : ℕ) (delta : Option ℕ) (w : Bank) (q : Request) → IsPlain point delta w
    → IsPlain point delta (uncollected_bank w q 0)
uncollected_plain point delta w request.Next plain = plain
uncollected_plain point delta w (request.Spread s) plain =
    let twice = raised_twice plain.status s in record {
      rows = plain.rows;
      status = twice.0;
      is = ap (λ (b : Bank). uncollected_bank b (request.Spread s) 0) plain.is
          ∙ ap (λ p. let b : Bank = record { rows = plain.rows; pointer = p; delta = delta; retired = None } in b) twice.1;
      recorded = plain.recorded;
      opening = plain.opening;
    }
uncollected_plain point delta w request.Query plain = plain
uncollected_plain point delta w (request.PreWrite tag p) plain =
    row_plain point delta w plain tag (λ o. row_after_pre_write o p 0) (pre_write_records p) refl
uncollected_plain point delta w (request.Finalize tag) plain =
    row_plain point delta w plain tag (λ o. row_after_finalize o 0) finalize_records refl
uncollected_plain point delta w (request.Fetch tag) plain =
    row_plain point delta w plain tag (λ o. row_after_finalize o 0) finalize_records refl

-- what a newly opened bank has of each tag
pub get-opened : (point : ℕ) (delta : Option ℕ) (t : Tag)
    → map.get (opened_bank point delta 0).rows t ≡ cond (tag_eq t opening_tag) (Some (opening_row point 0)) None
get-opened point delta t = grind (arith, eq_by_cmp-tag, map.get-empty, map.get-insert, tag_cmp_total)

pub opened_opening : (point : ℕ) (delta : Option ℕ) → map.get (opened_bank point delta 0).rows opening_tag ≡ Some (opening_row point 0)
opened_opening point delta = get-opened point delta opening_tag
    ∙ ap (λ c. cond c (Some (opening_row point 0)) None) (tag_eq-same opening_tag)

opened_plain : (point : ℕ) (delta : Option ℕ) → IsPlain point delta (opened_bank point delta 0)
opened_plain point delta = record {
  rows = (opened_bank point delta 0).rows;
  status = status.Unset;
  is = refl;
  recorded = λ t. subst IsRecorded (sym (get-opened point delta t)) (either (tag_eq t opening_tag));
  opening = opened_opening point delta;
}
  where
    either : (c : Bool) → IsRecorded (cond c (Some (opening_row point 0)) None)
    either true = (Both (record { point = point; len = 0; bytes = [] }), refl)
    either false = tt

all_plain : (point : ℕ) (delta : Option ℕ) (w : Bank) (qs : List Request) → IsPlain point delta w
    → IsPlain point delta (uncollected_after w qs)
all_plain point delta w [] plain = plain
all_plain point delta w (q ∷ qs) plain = all_plain point delta (uncollected_bank w q 0) qs (uncollected_plain point delta w q plain)

-- whatever a newly opened bank served, it has such rows before any piece is dropped
pub reached_plain : (point : ℕ) (delta : Option ℕ) (qs : List Request)
    → IsPlain point delta (uncollected_after (opened_bank point delta 0) qs)
reached_plain point delta qs = all_plain point delta (opened_bank point delta 0) qs (opened_plain point delta)
