-- The contracts that docs/trusted.md lists do not depend on this file; other contracts and proofs do.
-- What the commands print that only show something.
use Rattle.std.specs.Prelude.{◌≡◌, ◌⊎◌, ◌↔◌, ℕ, Bool, false, ◌++◌, List, [], ◌∷◌}
use Rattle.std.specs.Prelude.{Option, Some, None, option_map, is_some, IsTrue}
use Rattle.std.specs.List.{list_all}
use Rattle.tag.specs.Cause.{IsRefusalBy}
use Rattle.tag.specs.declared.refusal.Refusal.{Refusal}
use Rattle.atomicity.specs.Atomic.{IsSequence}
use Rattle.record.specs.Journals.{entries}
use Rattle.atomicity.specs.Sequence.{IsTagSequence}
use Rattle.history.specs.Check.{AreLawfulEntries}
use Rattle.register.specs.Causes.{call_at, number_cause}
use Rattle.register.specs.State.{State}
use Rattle.register.specs.View.{view_at, bank_there}
use Rattle.printing.specs.declared.outcome.Outcome.TheVariants as outcome
use Rattle.printing.specs.Outcome.{outcome_text}
use Rattle.printing.specs.CallLine.{call_text}
use Rattle.printing.specs.MailLines.{mail_text}
use Rattle.printing.specs.BankLine.{bank_text}
use Rattle.printing.specs.HistoryLines.{history_text}
use Rattle.printing.specs.SequenceLine.{sequence_text}
use Rattle.cluster.specs.Cluster.{Cluster, named, if_named}
use Rattle.cluster.specs.Causes.{object_cause}
use Rattle.player.specs.AccountLine.{account_text}

-- a line with its line feed
abbrev pub line_of : List ℕ → List ℕ
line_of text = text ++ 10 ∷ []

-- the line of a refusal
abbrev pub refusal_line : Refusal → List ℕ
refusal_line refusal = line_of (outcome_text (outcome.Refused refusal))

-- there is no cause of refusal and the text is the one to show, or the text is the refusal by its cause
abbrev pub IsShown : (cause : Option Refusal) → (told : Option (List ℕ)) → (text : List ℕ) → Type 0
IsShown cause told text =
    ((cause ≡ None) × (told ≡ Some text))
    ⊎ ((refusal : Refusal) × (cause ≡ Some refusal) × (text ≡ refusal_line refusal))

-- NoObject if no object has this name, and no other refusal
abbrev pub unknown_object : Cluster → (name : List ℕ) → Option Refusal
unknown_object cluster name = object_cause cluster name (λ object. None)

-- the text says how far the call of this number has come, or why it is refused
abbrev pub ShowsCall : Cluster → (name : List ℕ) → (call : ℕ) → (text : List ℕ) → Type 0
ShowsCall cluster name call text =
    IsShown (object_cause cluster name (λ object. number_cause object call))
    (option_map (λ view. line_of (call_text call view)) (if_named cluster name (λ object. view_at object call))) text

-- the text is the mail of the object of this name, or its refusal
abbrev pub ShowsMail : Cluster → (name : List ℕ) → (text : List ℕ) → Type 0
ShowsMail cluster name text =
    IsShown (unknown_object cluster name) (if_named cluster name (λ object. Some (mail_text object.mail))) text

-- the text is the bank of this member at this position, or the refusal of the object
abbrev pub ShowsBank : Cluster → (name : List ℕ) → (position member : ℕ) → (text : List ℕ) → Type 0
ShowsBank cluster name position member text =
    IsShown (unknown_object cluster name)
    (option_map (λ bank. line_of (bank_text bank))
    (if_named cluster name (λ object. bank_there object position member))) text

-- an object has this name, and has no such bank
abbrev pub HasNoBank : Cluster → (name : List ℕ) → (position member : ℕ) → Type 0
HasNoBank cluster name position member =
    (state : State) × (named cluster.objects name ≡ Some state) × (bank_there state.object position member ≡ None)

-- the text is the line of the cluster's accounts
abbrev pub ShowsAccount : Cluster → (text : List ℕ) → Type 0
ShowsAccount cluster text = text ≡ line_of (account_text cluster)

-- the text is the history of the object of this name, or its refusal
abbrev pub ShowsHistory : Cluster → (name : List ℕ) → (text : List ℕ) → Type 0
ShowsHistory cluster name text =
    ((unknown_object cluster name ≡ None)
    × (if_named cluster name (λ object. Some (history_text (entries object))) ≡ Some text))
    ⊎ ((refusal : Refusal) × IsRefusalBy (unknown_object cluster name) refusal × (text ≡ refusal_line refusal))

-- these calls are the sequence that the tags give, which is a register sequence of the object's history
pub record IsSequenceOf (cluster : Cluster) (name calls : List ℕ) : Type 0 where
  pub state : State
  pub there : named cluster.objects name ≡ Some state
  pub by_tags : IsTagSequence state.object calls
  pub sequence : IsSequence (entries state.object) calls

-- the text is a register sequence of the object's calls, or its refusal
abbrev pub ShowsSequence : Cluster → (name : List ℕ) → (text : List ℕ) → Type 0
ShowsSequence cluster name text =
    ((calls : List ℕ) × IsSequenceOf cluster name calls × (text ≡ line_of (sequence_text calls)))
    ⊎ ((refusal : Refusal) × IsRefusalBy (unknown_object cluster name) refusal × (text ≡ refusal_line refusal))

-- an object has this name, and one of these calls is not there
abbrev pub HasNoCall : Cluster → (name calls : List ℕ) → Type 0
HasNoCall cluster name calls =
    (state : State) × (named cluster.objects name ≡ Some state)
    × (list_all (λ call. is_some (call_at state.object call)) calls ≡ false)

-- the answer says whether these calls are a register sequence of the object's history
pub record IsChecked (cluster : Cluster) (name calls : List ℕ) (answer : Bool) : Type 0 where
  pub state : State
  pub there : named cluster.objects name ≡ Some state
  pub says : IsTrue answer ↔ (AreLawfulEntries (entries state.object) × IsSequence (entries state.object) calls)

-- no call is missing, and the text says whether these calls are a register sequence, or why that is refused
abbrev pub ShowsCheck : Cluster → (name calls : List ℕ) → (text : List ℕ) → Type 0
ShowsCheck cluster name calls text = (¬ (HasNoCall cluster name calls))
    × (((answer : Bool) × IsChecked cluster name calls answer
    × (text ≡ line_of (outcome_text (outcome.Checked answer))))
    ⊎ ((refusal : Refusal) × IsRefusalBy (unknown_object cluster name) refusal × (text ≡ refusal_line refusal)))
