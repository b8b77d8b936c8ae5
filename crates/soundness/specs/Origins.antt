-- The contracts that docs/trusted.md lists do not depend on this file; other contracts and proofs do.
-- Where the labels of tags come from.
use Rattle.std.specs.Prelude.{◌≡◌, ◌⊎◌, ℕ, ◌<◌, length, Option, Some, option_map, slice_get}
use Rattle.std.specs.FinMap as map
use Rattle.tag.specs.declared.tag.Tag.{Tag}
use Rattle.tag.specs.Tag.{opening_tag}
use Rattle.layout.specs.Layout.{Layout}
use Rattle.bank.specs.Bank.{Bank}
use Rattle.bank.specs.Serve.{kind_of}
use Rattle.bank.specs.declared.kind.Kind.{Kind}
use Rattle.bank.specs.declared.kind.Kind.TheVariants.{PreWrite, Finalize, Fetch}
use Rattle.bank.specs.declared.request.Request.{Request}
use Rattle.bank.specs.declared.row.Label.{Label}
use Rattle.bank.specs.declared.row.Label.TheVariants.{PreWritten, Finalized}
use Rattle.mail.specs.declared.message.Message.{Message}
use Rattle.mail.specs.declared.message.Body.TheVariants as body
use Rattle.record.specs.Records.{Object, bank_at}
use Rattle.record.specs.Fragments.{Code}
use Rattle.soundness.specs.Sound.{IsPosted}
use Rattle.record.specs.Steps.{Step, stepped}

-- the label of a tag in a bank, with its step, if it has one
abbrev pub label_at : Bank → Tag → Option Label
label_at bank tag = option_map (λ row. row.label) (map.get bank.rows tag)

-- a request of this kind gives the tag this label at step `now`: a pre-write PreWritten, a finalize or fetch Finalized
abbrev pub Gives : Kind → Tag → Label → (now : ℕ) → Type 0
Gives kind tag label now = ((kind ≡ PreWrite tag) × (label ≡ PreWritten now))
    ⊎ (((kind ≡ Finalize tag) ⊎ (kind ≡ Fetch tag)) × (label ≡ Finalized now))

-- the step serves a request at this bank, whose phase began before the step, and the request gives the tag this label
pub record ComesByRequest (object : Object) (step : Step) (now position member : ℕ) (tag : Tag)
    (label : Label) : Type 0 where
  pub place : ℕ
  pub serves : step ≡ Step.Serve place
  pub message : Message
  pub at : slice_get object.mail place ≡ Some message
  pub asked : Request
  pub request : message.body ≡ body.Request asked
  pub same_position : message.position ≡ position
  pub same_member : message.member ≡ member
  pub gives : Gives (kind_of asked) tag label now
  pub posted : IsPosted object message
  pub begun : posted.phase.start < now

-- the step is a move that opens this bank, in which the opening tag is finalized
pub record ComesByOpening (object : Object) (step : Step) (now position : ℕ) (tag : Tag) (label : Label) : Type 0 where
  pub layout : Layout
  pub id : ℕ
  pub moves : step ≡ Step.CallMove id layout
  pub new : position ≡ length object.layouts
  pub opening : tag ≡ opening_tag
  pub finalized : label ≡ Finalized now

-- if the tag has this label after the step, it had it before, or got it by a request or by the opening of the bank
abbrev pub ComesWithIts : Code → Object → Step → (now position member : ℕ) → Tag → Label → Type 0
ComesWithIts fragment object step now position member tag label =
    label_at (bank_at (stepped fragment step now object) position member) tag ≡ Some label →
    (label_at (bank_at object position member) tag ≡ Some label)
    ⊎ (ComesByRequest object step now position member tag label ⊎ ComesByOpening object step now position tag label)
