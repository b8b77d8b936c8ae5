-- What a call wants next, which says what its caller is to do.
use Rattle.std.specs.Prelude.{◌≡◌, ℕ, Bool, true, false, is_some, if◌then◌else◌}
use Rattle.std.specs.Prelude.{List, [], ◌∷◌, length, Option, Some, None, slice_get}
use Rattle.tag.specs.declared.tag.Tag.{Tag}
use Rattle.layout.specs.Layout.{Layout}
use Rattle.piece.specs.declared.piece.Piece.{Piece}
use Rattle.bank.specs.declared.kind.Kind.{Kind}
use Rattle.bank.specs.declared.kind.Kind.TheVariants.{PreWrite, Fetch}
use Rattle.mail.specs.declared.phase.Taken.{Taken}
use Rattle.mail.specs.Phase.{Phase, lacks_pieces}
use Rattle.record.specs.declared.stage.Want.{Want}
use Rattle.record.specs.declared.stage.Want.TheVariants as want
use Rattle.record.specs.Records.{Call, Object, layout_at}
use Rattle.record.specs.Legal.{due_of}
use Rattle.record.specs.Journals.{tag_of}
use Rattle.record.specs.Fragments.{answer_piece}

-- the current phase: the last one that began, if one has
abbrev pub current_phase : List Phase → Option Phase
current_phase [] = None
current_phase (phase ∷ []) = Some phase
current_phase (phase ∷ next ∷ later) = current_phase (next ∷ later)

-- whether a phase of this kind is a fetch
abbrev pub is_fetch : Kind → Bool
is_fetch (Fetch tag) = true
is_fetch _ = false

-- the length of the value that a piece states, or the other length if there is no piece
abbrev pub len_or : Option Piece → ℕ → ℕ
len_or None other = other
len_or (Some piece) other = piece.len

-- the length of the value that the first piece of these replies states, or 0 if there is no piece
abbrev pub value_len : List Taken → ℕ
value_len [] = 0
value_len (taken ∷ replies) = len_or (answer_piece taken.reply.answer) (value_len replies)

-- what is wanted to begin a phase of this kind: the pieces of the value if it sends them, and otherwise only to advance
abbrev pub want_to_begin : Kind → Layout → Want
want_to_begin (PreWrite tag) layout = want.Supply layout.k (length layout.members)
want_to_begin _ layout = want.Advance

-- what is wanted once the current phase is done: to begin the phase that is due, or to be answered
abbrev pub want_for : Object → Option (Kind × ℕ) → Want
want_for object None = want.Answer
want_for object (Some next) = want_to_begin next.0 (layout_at object next.1)

-- what is wanted after a complete fetch with no settled value: to settle one, or to restart if pieces are lacking
abbrev pub want_of_fetch : Object → Phase → Want
want_of_fetch object phase =
    if lacks_pieces phase then want.Again
    else want.Settle (layout_at object phase.position).k (value_len phase.replies)

-- what a call that is not answered wants: replies, after a fetch a value or a restart, and otherwise what comes next
abbrev pub want_after : Object → Option (Kind × ℕ) → (settled : Option (List ℕ)) → Option Phase → Want
want_after object next settled None = want.Replies
want_after object next settled (Some phase) =
    if is_some phase.end
    then (if is_fetch phase.kind
    then (if is_some settled then want_for object next else want_of_fetch object phase)
    else want_for object next)
    else want.Replies

-- what the call at this index wants
abbrev pub want_of : Object → (index : ℕ) → Call → Want
want_of object index call =
    if is_some call.answered then want.Done
    else want_after object (due_of object index call) call.settled (current_phase call.phases)

-- the tag that a phase of this kind fetches, or the other tag if it is no fetch
abbrev pub fetched_or : Kind → Option Tag → Option Tag
fetched_or (Fetch tag) other = Some tag
fetched_or _ other = other

-- the tag that the current phase fetches, or the other tag if it is no fetch
abbrev pub phase_tag : Option Phase → Option Tag → Option Tag
phase_tag None other = other
phase_tag (Some phase) other = fetched_or phase.kind other

-- the tag that a view of the call shows: while its current phase is a fetch that phase's tag, and otherwise the call's
abbrev pub viewed_tag : Object → (index : ℕ) → Call → Option Tag
viewed_tag object index call = phase_tag (current_phase call.phases) (tag_of object index call)

-- the call is at this index, and this is what it wants
abbrev pub Wants : Object → (index : ℕ) → Call → Want → Type 0
Wants object index call wanted = (slice_get object.calls index ≡ Some call) × (want_of object index call ≡ wanted)
