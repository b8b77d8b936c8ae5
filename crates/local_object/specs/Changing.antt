-- Which letters change more than what the node has heard of, once it serves them; and how many bytes its banks store.
use Rattle.std.specs.Prelude.{◌≡◌, ◌≤◌, ℕ, ◌&&◌, ◌||◌, Bool, false, Option, None, Some, sum_by}
use Rattle.encoder.specs.Fragment.{fragment}
use Rattle.layout.specs.Layout.{Layout}
use Rattle.bank.specs.Bytes.{bank_bytes}
use Rattle.mail.specs.declared.message.Body.{Body}
use Rattle.mail.specs.declared.message.Body.TheVariants as body
use Rattle.letter.specs.declared.letter.Letter.{Letter}
use Rattle.local_object.specs.declared.kept_bank.KeptBank.{KeptBank}
use Rattle.local_object.specs.declared.kept_bank.KeptBank.TheVariants as kept
use Rattle.local_object.specs.ChangedBanks.{changes_kept}
use Rattle.local_object.specs.Doing.{is_served, serve_events}
use Rattle.local_object.specs.Events.{all_done}
use Rattle.local_object.specs.Outcomes.{learnt_from}
use Rattle.local_object.specs.Local.{LocalObject, Place, bank_here, is_later_start_if, layout_here}

-- whether a message with this body is a request that may change a bank
abbrev pub changes_in_body : KeptBank → Body → Bool
changes_in_body bank (body.Request asked) = changes_kept bank asked
changes_in_body bank (body.Reply kind made) = false

-- whether the node serves a letter, which may then change the bank that the node keeps as the member that the letter
-- names, or tells the node of a later start
abbrev pub is_changed_by : LocalObject → Letter → Bool
is_changed_by local letter =
    is_served local letter
    && (changes_in_body (bank_here local letter.message.position letter.message.member) letter.message.body
    || is_later_start_if local letter.start)

-- what the node keeps after a letter came, which it served if it is a request for this node
abbrev pub after_serving : LocalObject → Letter → LocalObject
after_serving local letter = (all_done fragment local (serve_events local letter)).local

-- after a letter came, the node keeps what it kept before, except that it may have heard of layouts in the letter, and
-- of a later start
pub record HasOnlyHeard (before : LocalObject) (letter : Letter) (after : LocalObject) : Type 0 where
  pub node : after.node ≡ before.node
  pub delta : after.delta ≡ before.delta
  pub start : before.start ≤ after.start
  pub calls : after.calls ≡ before.calls
  pub kept : (position : ℕ) (layout : Layout) → layout_here before position ≡ Some layout →
      layout_here after position ≡ Some layout
  pub heard : (position : ℕ) (layout : Layout) → layout_here after position ≡ Some layout →
      layout_here (learnt_from before letter) position ≡ Some layout
  pub banks : (position member : ℕ) → bank_here after position member ≡ bank_here before position member

-- if the node serves the letter, nothing changes but what the node has heard of
abbrev pub IsUnchangedBy : LocalObject → Letter → Type 0
IsUnchangedBy local letter = HasOnlyHeard local letter (after_serving local letter)

-- the number of bytes of all pieces in a bank; a closed one has none
abbrev pub kept_bytes : KeptBank → ℕ
kept_bytes (kept.Open bank) = bank_bytes bank
kept_bytes (kept.Closed closed) = 0

-- the number of bytes of all pieces in a bank, if there is one
abbrev pub bytes_in : Option KeptBank → ℕ
bytes_in None = 0
bytes_in (Some bank) = kept_bytes bank

-- the number of bytes of all pieces in the bank of a place
abbrev pub place_bytes : Place → ℕ
place_bytes place = bytes_in place.bank

-- the number of bytes of all pieces in the banks that the node keeps
abbrev pub bytes_at_places : LocalObject → ℕ
bytes_at_places local = sum_by place_bytes local.places
