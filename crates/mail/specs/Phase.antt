-- Phases, and what taking a message does to a phase.
use Rattle.std.specs.Prelude.{◌≡◌, ℕ, ◌+◌, ◌≤◌, ◌==◌, ◌&&◌, Bool, true, false, not, if◌then◌else◌, nat_lt, nat_eq}
use Rattle.std.specs.Prelude.{List, [], ◌∷◌, ◌++◌, length, map, count_by, Option, Some, None, is_some}
use Rattle.std.specs.List.{list_any, IsDistinct}
use Rattle.bank.specs.declared.kind.Kind.{Kind}
use Rattle.bank.specs.declared.reply.Answer.{Answer}
use Rattle.bank.specs.declared.reply.Answer.TheVariants as answer
use Rattle.bank.specs.declared.reply.Reply.{Reply}
use Rattle.mail.specs.declared.message.Message.{Message}
use Rattle.mail.specs.declared.message.Body.{Body}
use Rattle.mail.specs.declared.message.Body.TheVariants as body
use Rattle.mail.specs.declared.phase.Taken.{Taken}
use Rattle.mail.specs.declared.phase.Took.{Took}
use Rattle.mail.specs.declared.phase.Took.TheVariants as took

-- a phase: its call and number, what it asks of a position's members, what it needs, its steps, and the replies it took
pub record Phase : Type 0 where
  pub call : ℕ
  pub number : ℕ
  pub kind : Kind
  pub position : ℕ
  pub members : ℕ
  pub quorum : ℕ
  pub needed : ℕ
  pub start : ℕ
  pub replies : List Taken
  pub end : Option ℕ

-- the step at which the last of these replies was taken, if there is one
abbrev pub last_step : List Taken → Option ℕ
last_step [] = None
last_step (taken ∷ []) = Some taken.step
last_step (taken ∷ next ∷ replies) = last_step (next ∷ replies)

-- the step at which a phase with these replies ended, if it has: that of the take which completed the quorum
abbrev pub end_of : (quorum : ℕ) → List Taken → Option ℕ
end_of quorum replies = if nat_lt (length replies) quorum then None else last_step replies

-- a phase that begins at step `now` and has taken no reply yet
abbrev pub begun : (call number : ℕ) → Kind → (position members quorum needed now : ℕ) → Phase
begun call number kind position members quorum needed now = record {
  call = call;
  number = number;
  kind = kind;
  position = position;
  members = members;
  quorum = quorum;
  needed = needed;
  start = now;
  replies = [];
  end = None;
}

-- the members whose replies were taken
abbrev pub members_of : List Taken → List ℕ
members_of replies = map (λ t. t.member) replies

-- whether a reply of the member is among those taken
abbrev pub has_taken : List Taken → ℕ → Bool
has_taken replies member = list_any (λ t. t.member == member) replies

-- whether an answer carries a piece
abbrev pub has_piece : Answer → Bool
has_piece (answer.Piece (Some piece)) = true
has_piece a = false

-- how many of the replies carry a piece
abbrev pub pieces_in : List Taken → ℕ
pieces_in replies = count_by (λ t. has_piece t.reply.answer) replies

-- whether fewer replies carry a piece than a fetch needs
abbrev pub lacks_pieces : Phase → Bool
lacks_pieces p = nat_lt (pieces_in p.replies) p.needed

-- whether the phase has this call and number, and has not ended
abbrev pub is_current : Phase → ℕ → ℕ → Bool
is_current p call number = call == p.call && (number == p.number && not (is_some p.end))

-- whether one more reply completes the quorum
abbrev pub makes_quorum : Phase → Bool
makes_quorum p = not (nat_lt (length p.replies + 1) p.quorum)

-- the outcome of taking a reply of a member that names this call and phase number
abbrev pub took_reply : Phase → (call number member : ℕ) → Took
took_reply p call number member =
    if is_current p call number
    then (if has_taken p.replies member
    then took.Doubled
    else (if makes_quorum p then took.Complete else took.Recorded))
    else took.Stale

-- the outcome of taking a message with this body: a request is always stale
abbrev pub took_body : Phase → (call number member : ℕ) → Body → Took
took_body p call number member (body.Request q) = took.Stale
took_body p call number member (body.Reply k r) = took_reply p call number member

-- the outcome of taking a message
abbrev pub took_by : Phase → Message → Took
took_by p m = took_body p m.call m.phase m.member m.body

-- the phase with one more reply, taken at step `now`: it ends if this reply completes the quorum
abbrev pub with_reply : Phase → (member : ℕ) → Reply → (now : ℕ) → Phase
with_reply p member r now = record p {
  replies = p.replies ++ record { member = member; reply = r; step = now } ∷ [];
  end = if makes_quorum p then Some now else None;
}

-- the phase after it takes a reply of a member at step `now`: it records the reply, or does not change
abbrev pub after_reply : Phase → (call number member : ℕ) → Reply → (now : ℕ) → Phase
after_reply p call number member r now =
    if is_current p call number then (if has_taken p.replies member then p else with_reply p member r now) else p

-- the phase after it takes a message with this body at step `now`: a request changes nothing
abbrev pub after_body : Phase → (call number member : ℕ) → Body → (now : ℕ) → Phase
after_body p call number member (body.Request q) now = p
after_body p call number member (body.Reply k r) now = after_reply p call number member r now

-- the phase after it takes a message at step `now`
abbrev pub after_take : Phase → Message → (now : ℕ) → Phase
after_take p m now = after_body p m.call m.phase m.member m.body now

-- the invariant of `Phase`: at most one reply of each member, at most those of a quorum, and ended exactly with a
-- quorum
pub record IsRecord (members quorum : ℕ) (replies : List Taken) (end : Option ℕ) : Type 0 where
  pub distinct : IsDistinct nat_eq (members_of replies)
  pub room : (1 ≤ quorum) × (quorum ≤ members)
  pub within : length replies ≤ quorum
  pub ended : is_some end ≡ not (nat_lt (length replies) quorum)
