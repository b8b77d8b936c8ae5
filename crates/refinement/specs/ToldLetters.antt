-- The contracts that docs/trusted.md lists do not depend on this file; other contracts and proofs do.
-- When what letters and reports tell is true in a course of the world.
use Rattle.std.specs.Prelude.{◌≡◌, ℕ, false, List, [], ◌∷◌, Some}
use Rattle.std.specs.List.{AllByRecursion}
use Rattle.mail.specs.declared.message.Message.{Message}
use Rattle.record.specs.Fragments.{Code}
use Rattle.letter.specs.Tellings.{SaysNoMore}
use Rattle.letter.specs.declared.letter.Letter.{Letter}
use Rattle.letter.specs.declared.telling.Telling.{Telling}
use Rattle.local_object.specs.declared.report.Report.{Report}
use Rattle.local_object.specs.Reports.{is_same}
use Rattle.told_queries.specs.Courses.{Course, WasToldIn}

-- the member told this phase of the call at least this, with a reply that it made in a turn of the course
pub record IsTrueTelling (fragment : Code) (course : Course) (call phase member : ℕ) (telling : Telling) : Type 0 where
  pub request : Message
  pub whole : Telling
  pub told : WasToldIn fragment course request whole
  pub less : SaysNoMore telling whole
  pub same_call : request.call ≡ call
  pub same_phase : request.phase ≡ phase
  pub same_member : request.member ≡ member

-- what the letter tells is true, if it tells anything, and is told of a bank of the letter's position
abbrev pub TellsTruth : Code → Course → Letter → Type 0
TellsTruth fragment course letter = (telling : Telling) → letter.told ≡ Some telling → (true_telling :
    IsTrueTelling fragment course letter.message.call letter.message.phase letter.message.member telling)
    × (true_telling.request.position ≡ letter.message.position)

-- what the report says was told
abbrev pub IsTrueReport : Code → Course → Report → Type 0
IsTrueReport fragment course report =
    IsTrueTelling fragment course report.call report.phase report.member report.telling

-- no two of the reports are of the same member, to the same phase of the same call
abbrev pub AreApart : List Report → Type 0
AreApart [] = Unit {0}
AreApart (report ∷ reports) = AllByRecursion (λ other. is_same report other ≡ false) reports × AreApart reports
