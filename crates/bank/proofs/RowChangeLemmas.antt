-- What each request makes of the steps that a bank keeps: each stays, or comes now where there was none.
use Rattle.std.proofs.Common.{◌≡◌, ℕ, ◌<◌, ◌⊎◌, Bool, true, false, cond, Option, Some, None, is_some, ap, ◌∙◌}
use Rattle.std.proofs.Common.{◌+◌, ◌&&◌, refl, arith}
use Rattle.std.specs.FinMap as map
use Rattle.tag.specs.declared.tag.Tag.{Tag}
use Rattle.tag.specs.Tag.{tag_cmp, tag_eq, tag_lt}
use Rattle.tag.proofs.TagOrderLemmas.{tag_cmp_total, eq_by_cmp-tag, tag_eq-true}
use Rattle.piece.specs.declared.piece.Piece.{Piece}
use Rattle.bank.specs.declared.row.Row.{Row}
use Rattle.bank.specs.Bank.{Bank, row_after_pre_write, row_after_finalize, pre_written, finalized}
use Rattle.bank.specs.Bank.{piece_of, piece_of_row}
use Rattle.bank.specs.Knowledge.{came_by, since, final_step, row_finalized, row_arrived, finalized_at, arrived_at}
use Rattle.bank.specs.Knowledge.{finals_above, finals_above_at}
use Rattle.bank.specs.Facts.{IsEarlier}
use Rattle.bank.proofs.EntryCountLemmas.{one_if, changed_count, same_count}

-- what came before now came by now
pub earlier_by : (o : Option ℕ) (now : ℕ) → IsEarlier o now → came_by o now ≡ is_some o
earlier_by o now earlier = grind arith

-- an event that happened before, or else happens at step `now`, has happened by step `now`
pub since_by : (o : Option ℕ) (now : ℕ) → IsEarlier o now → came_by (since o now) now ≡ true
since_by o now earlier = grind arith

-- a step that a bank keeps stays, or comes now where there was none
abbrev pub Comes : ℕ → Option ℕ → Option ℕ → Type 0
Comes now old new = (new ≡ old) ⊎ (new ≡ since old now)

since_past : (o : Option ℕ) (now step : ℕ) → step < now → came_by (since o now) step ≡ came_by o step
since_past o now step past = grind arith

pub comes_past : (now : ℕ) (old new : Option ℕ) → Comes now old new → (step : ℕ) → step < now → came_by new step ≡ came_by old step
comes_past now old new known step past = grind arith

abbrev pub Table : Type 0
Table = map.FinMap tag_cmp Row

-- the rows after the row of a tag changes
abbrev pub with_row : Table → Tag → (Option Row → Row) → Table
with_row rows tag f = map.insert rows tag (f (map.get rows tag))

module _ (rows : Table) (tag : Tag) (f : Option Row → Row) where
  -- what each tag has then
  pub get-with_row : (t : Tag) → map.get (with_row rows tag f) t ≡ cond (tag_eq t tag) (Some (f (map.get rows tag))) (map.get rows t)
  get-with_row t = grind (arith, eq_by_cmp-tag, map.get-insert, tag_cmp_total)

  -- a step that the change makes, as h says
  changes : {X : Type 0} (g : Option Row → X) (h : X → X) → g (Some (f (map.get rows tag))) ≡ h (g (map.get rows tag)) → (t : Tag)
      → g (map.get (with_row rows tag f) t) ≡ cond (tag_eq t tag) (h (g (map.get rows t))) (g (map.get rows t))
  changes g h made t = grind (arith, get-with_row, tag_eq-true)

  -- a step that it leaves
  leaves : {X : Type 0} (g : Option Row → X) → g (Some (f (map.get rows tag))) ≡ g (map.get rows tag) → (t : Tag)
      → g (map.get (with_row rows tag f) t) ≡ g (map.get rows t)
  leaves {X = X} g kept t = changes g (λ o. o) kept t ∙ both (tag_eq t tag) (g (map.get rows t))
    where
      both : (c : Bool) (o : X) → cond c o o ≡ o
      both true o = refl
      both false o = refl

  -- what holds of each tag with its row holds then, where it holds of the row that is made
  pub all_rows : (P : Tag → Option Row → Type 0) → P tag (Some (f (map.get rows tag))) → ((t : Tag) → P t (map.get rows t)) → (t : Tag)
      → P t (map.get (with_row rows tag f) t)
  all_rows P made all t = grind (arith, get-with_row, tag_eq-true)

finalize_finalizes : (o : Option Row) (now : ℕ) → row_finalized (Some (row_after_finalize o now)) ≡ since (row_finalized o) now
finalize_finalizes o now = grind arith

finalize_leaves : (o : Option Row) (now : ℕ) → piece_of_row (Some (row_after_finalize o now)) ≡ piece_of_row o
finalize_leaves o now = grind arith

finalize_brings : (o : Option Row) (now : ℕ) → row_arrived (Some (row_after_finalize o now)) ≡ row_arrived o
finalize_brings o now = grind arith

pre_write_finalizes : (o : Option Row) (p : Piece) (now : ℕ) → row_finalized (Some (row_after_pre_write o p now)) ≡ row_finalized o
pre_write_finalizes o p now = grind arith

pre_write_brings : (o : Option Row) (p : Piece) (now : ℕ) → row_arrived (Some (row_after_pre_write o p now)) ≡ since (row_arrived o) now
pre_write_brings o p now = grind arith

module _ (b : Bank) (tag : Tag) (now : ℕ) (t : Tag) where
  -- a request to finalize a tag finalizes that tag, and brings no piece
  pub finalized_at-finalized : finalized_at (finalized b tag now) t ≡ cond (tag_eq t tag) (since (finalized_at b t) now) (finalized_at b t)
  finalized_at-finalized = changes b.rows tag (λ o. row_after_finalize o now) row_finalized (λ o. since o now)
      (finalize_finalizes (map.get b.rows tag) now) t

  pub arrived_at-finalized : arrived_at (finalized b tag now) t ≡ arrived_at b t
  arrived_at-finalized = leaves b.rows tag (λ o. row_after_finalize o now) row_arrived (finalize_brings (map.get b.rows tag) now) t

  pub piece_of-finalized : piece_of (finalized b tag now) t ≡ piece_of b t
  piece_of-finalized = leaves b.rows tag (λ o. row_after_finalize o now) piece_of_row (finalize_leaves (map.get b.rows tag) now) t

  pub above-finalized : (step : ℕ) → step < now → finals_above_at (finalized b tag now) t step ≡ finals_above_at b t step
  above-finalized step past =
      same_count (λ o. came_by o step) refl t b.rows tag (row_after_finalize (map.get b.rows tag) now)
      (ap (λ o. came_by o step) (finalize_finalizes (map.get b.rows tag) now)
      ∙ since_past (row_finalized (map.get b.rows tag)) now step past)

  -- a tag that was not final counts from then on
  pub finals-finalized : finals_above (finalized b tag now) t + one_if (tag_lt t tag && is_some (finalized_at b tag))
      ≡ one_if (tag_lt t tag) + finals_above b t
  finals-finalized =
      let all = changed_count is_some refl t b.rows tag (row_after_finalize (map.get b.rows tag) now) in
      let made : one_if (tag_lt t tag && is_some (final_step (row_after_finalize (map.get b.rows tag) now).label))
      ≡ one_if (tag_lt t tag) =
      ap (λ o. one_if (tag_lt t tag && is_some o)) (finalize_finalizes (map.get b.rows tag) now)
      ∙ comes (tag_lt t tag) (row_finalized (map.get b.rows tag)) in
      omega (arith, all, made)
    where
      comes : (c : Bool) (o : Option ℕ) → one_if (c && is_some (since o now)) ≡ one_if c
      comes true None = refl
      comes true (Some came) = refl
      comes false o = refl

  -- a request to pre-write a tag brings a piece of that tag, and finalizes nothing
  pub finalized_at-pre_written : (p : Piece) → finalized_at (pre_written b tag p now) t ≡ finalized_at b t
  finalized_at-pre_written p =
      leaves b.rows tag (λ o. row_after_pre_write o p now) row_finalized (pre_write_finalizes (map.get b.rows tag) p now) t

  pub arrived_at-pre_written : (p : Piece) → arrived_at (pre_written b tag p now) t
      ≡ cond (tag_eq t tag) (since (arrived_at b t) now) (arrived_at b t)
  arrived_at-pre_written p = changes b.rows tag (λ o. row_after_pre_write o p now) row_arrived (λ o. since o now)
      (pre_write_brings (map.get b.rows tag) p now) t

  pub above-pre_written : (p : Piece) (step : ℕ) → finals_above_at (pre_written b tag p now) t step ≡ finals_above_at b t step
  above-pre_written p step =
      same_count (λ o. came_by o step) refl t b.rows tag (row_after_pre_write (map.get b.rows tag) p now)
      (ap (λ o. came_by o step) (pre_write_finalizes (map.get b.rows tag) p now))

  pub finals-pre_written : (p : Piece) → finals_above (pre_written b tag p now) t ≡ finals_above b t
  finals-pre_written p =
      same_count is_some refl t b.rows tag (row_after_pre_write (map.get b.rows tag) p now)
      (ap is_some (pre_write_finalizes (map.get b.rows tag) p now))
