-- The pieces that members told a call, each at the point of its member.
use Rattle.std.proofs.Common.{◌≡◌, ◌&&◌, ℕ, suc, eqb, eqb-true, Bool, true, false, cond, List, [], ◌∷◌, ◌++◌, slice_get}
use Rattle.std.proofs.Common.{Option, Some, None, refl}
use Rattle.std.specs.List.{AllByRecursion}
use Rattle.std.specs.Option.{option_to_list}
use Rattle.tag.specs.declared.tag.Tag.{Tag}
use Rattle.tag.specs.Tag.{tag_eq}
use Rattle.tag.proofs.TagOrderLemmas.{tag_eq-true}
use Rattle.piece.specs.declared.piece.Piece.{Piece}
use Rattle.local_object.specs.declared.report.Report.{Report}
use Rattle.local_object.specs.Pieces.{at_point}
use Rattle.local_object.specs.Reports.{is_of, told_pieces}
use Rattle.local_object.proofs.FetchedLemmas.{all_map}
use Rattle.local_object.proofs.NewObjectLemmas.{both}

-- a report that tells the piece, which is at the point of its member
pub record IsToldOwn (tag : Tag) (id number : ℕ) (reports : List Report) (piece : Piece) : Type 0 where
  pub place : ℕ
  pub report : Report
  pub at : slice_get reports place ≡ Some report
  pub same_call : report.call ≡ id
  pub same_phase : report.phase ≡ number
  pub greatest : report.telling.greatest ≡ tag
  pub told : report.telling.piece ≡ Some piece
  pub same : piece.point ≡ report.member

module _ (tag : Tag) (id number : ℕ) where
  later_own : (r : Report) (reports : List Report) (piece : Piece) → IsToldOwn tag id number reports piece →
      IsToldOwn tag id number (r ∷ reports) piece
  later_own r reports piece own = record {
    place = suc own.place;
    report = own.report;
    at = own.at;
    same_call = own.same_call;
    same_phase = own.same_phase;
    greatest = own.greatest;
    told = own.told;
    same = own.same;
  }

  -- one report more
  module _ (r : Report) (rs : List Report) where
    abbrev All : List Piece → Type 0
    All pieces = AllByRecursion (IsToldOwn tag id number (r ∷ rs)) pieces

    abbrev is_told : Bool
    is_told = is_of id number r && tag_eq r.telling.greatest tag

    module _ (others : All (told_pieces tag id number rs)) where
      by_point : is_told ≡ true → (p : Piece) → r.telling.piece ≡ Some p → (b : Bool) → eqb p.point r.member ≡ b →
          All (option_to_list (cond b (Some p) None) ++ told_pieces tag id number rs)
      by_point is p told true e =
          let parts = both (is_of id number r) (tag_eq r.telling.greatest tag) is in
          let names = both (eqb r.call id) (eqb r.phase number) parts.0 in (
            record {
              place = 0;
              report = r;
              at = refl;
              same_call = eqb-true r.call id names.0;
              same_phase = eqb-true r.phase number names.1;
              greatest = tag_eq-true r.telling.greatest tag parts.1;
              told = told;
              same = eqb-true p.point r.member e;
            },
            others,
          )
      by_point is p told false e = others

      by_piece : is_told ≡ true → (o : Option Piece) → r.telling.piece ≡ o →
          All (option_to_list (at_point r.member o) ++ told_pieces tag id number rs)
      by_piece is None told = others
      by_piece is (Some p) told = by_point is p told (eqb p.point r.member) refl

      by_tag : (b : Bool) → is_told ≡ b →
          All (option_to_list (at_point r.member (cond b r.telling.piece None)) ++ told_pieces tag id number rs)
      by_tag true is = by_piece is r.telling.piece refl
      by_tag false is = others

  pub own_told : (reports : List Report) → AllByRecursion (IsToldOwn tag id number reports) (told_pieces tag id number reports)
  own_told [] = tt
  own_told (r ∷ rs) =
      by_tag r rs
      (all_map (IsToldOwn tag id number rs) (IsToldOwn tag id number (r ∷ rs)) (told_pieces tag id number rs)
      (λ piece own. later_own r rs piece own) (own_told rs)) (is_told r rs) refl
