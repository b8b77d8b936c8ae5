-- A fit object that takes a reply stays fit, and so it is for what it sends and what clients are told.
use Rattle.std.proofs.Common.{◌≡◌, inl, inr, ℕ, suc, ◌+◌, ◌<◌, ◌^◌, ◌&&◌, Bool, true, false, cond, List, [], ◌∷◌, ◌++◌, nat_lt, Option}
use Rattle.std.proofs.Common.{Some, None, is_some, ltb-true, refl, sym, subst, arith}
use Rattle.std.specs.List.{AllByRecursion}
use Rattle.std.specs.Prelude.{IfSome}
use Rattle.std.proofs.lemmas.Bool.{and_parts}
use Rattle.encoder.specs.Fragment.{fragment}
use Rattle.letter.specs.declared.letter.Letter.{Letter}
use Rattle.local_object.specs.Doing.{is_taken}
use Rattle.local_object.specs.Ended.{all_told, early_value_of, told, told_early_if, told_if}
use Rattle.local_object.specs.Events.{LocalEvent, all_done, done_here}
use Rattle.local_object.specs.Local.{LocalObject}
use Rattle.local_object.specs.Querying.{query_events}
use Rattle.local_object.specs.Replies.{GoesOn, IsReplyOutcome, after_taking, taking_events}
use Rattle.local_object.specs.Taking.{IsOutcomeWithAnswers, going_events, grow_events, lead_events, repeats}
use Rattle.local_object.specs.declared.progress.Ended.{Ended}
use Rattle.mail.specs.Message.{is_request}
use Rattle.open_calls.specs.OpenCalls.{NodeCall, open_call}
use Rattle.open_calls.proofs.ListLemmas.{all_append}
use Rattle.open_calls.proofs.OpenCallLemmas.{found}
use Rattle.record.specs.Journals.{entry_value}
use Rattle.record.specs.declared.call.CallKind.{CallKind}
use Rattle.record.specs.declared.call.CallKind.TheVariants as calls
use Rattle.fitting.specs.Calls.{IsFitCall, IsShortValue, WritesShort}
use Rattle.fitting.specs.Events.{HasRoom, HaveRoom}
use Rattle.fitting.specs.Letters.{IsFitLetter}
use Rattle.fitting.specs.Objects.{IsFitObject}
use Rattle.fitting.specs.Outcomes.{IsShortEnded, TakingStaysFit}
use Rattle.fitting.proofs.EarlyLemmas.{early_short}
use Rattle.fitting.proofs.EventLemmas.{event_fit}
use Rattle.fitting.proofs.GoingLemmas.{grow_room, lead_room, leave_fit, query_room, settle_room, then_room}

-- Replies that are taken

-- what clients are told when these events happen to a fit object
told_here : (local : LocalObject) (event : LocalEvent) → IsFitObject local → HasRoom local event →
    AllByRecursion IsShortEnded (told local event)
told_here local (LocalEvent.Answer id) fit room = go (open_call local.calls id) refl
  where
    value : (k : CallKind) (settled : Option (List ℕ)) → WritesShort k → IfSome settled IsShortValue →
        IfSome (entry_value k (Some 0) settled) IsShortValue
    value calls.Read settled written short = short
    value (calls.Write it) settled written short = written
    value calls.Move settled written short = tt

    go : (o : Option NodeCall) → open_call local.calls id ≡ o → AllByRecursion IsShortEnded (told_if o)
    go None e = tt
    go (Some call) e =
        let own = (found (IsFitCall local.places) local.calls id call fit.calls e).0 in
        (value call.kind call.settled own.written own.settled, tt)
told_here local (LocalEvent.BeginRead id) fit room = tt
told_here local (LocalEvent.BeginWrite id value) fit room = tt
told_here local (LocalEvent.BeginMove id layout) fit room = tt
told_here local (LocalEvent.Advance id) fit room = tt
told_here local (LocalEvent.Serve letter) fit room = tt
told_here local (LocalEvent.Take letter) fit room = tt
told_here local (LocalEvent.Settle id value) fit room = tt
told_here local (LocalEvent.GiveUp id) fit room = tt
told_here local (LocalEvent.Close position) fit room = tt
told_here local (LocalEvent.Grow id) fit room = tt
told_here local (LocalEvent.Hear letter) fit room = tt
told_here local (LocalEvent.Redirect letter) fit room = tt
told_here local (LocalEvent.ReadOn id) fit room = tt
told_here local (LocalEvent.BeginAnew id) fit room = tt
told_here local (LocalEvent.Raise position) fit room = tt
told_here local (LocalEvent.Query id) fit room = tt
told_here local (LocalEvent.EndEarly id value) fit room = go (open_call local.calls id) refl
  where
    short : (k : CallKind) → WritesShort k → IfSome (early_value_of k value) IsShortValue
    short calls.Read written = room
    short (calls.Write it) written = written
    short calls.Move written = tt

    go : (o : Option NodeCall) → open_call local.calls id ≡ o → AllByRecursion IsShortEnded (told_early_if o value)
    go None e = tt
    go (Some call) e = (short call.kind (found (IsFitCall local.places) local.calls id call fit.calls e).0.written, tt)

all_told_fit : (local : LocalObject) (events : List LocalEvent) → IsFitObject local → HaveRoom local events →
    AllByRecursion IsShortEnded (all_told fragment local events)
all_told_fit local [] fit room = tt
all_told_fit local (event ∷ events) fit room =
    let next = (done_here fragment local event).local in
    all_append IsShortEnded (told local event) (all_told fragment next events) (told_here local event fit room.0)
    (all_told_fit next events (event_fit local event fit room.0).0 room.1)

-- a fit object, fit letters and short values come of these events, and of what clients are told
answers_fit : (old : LocalObject) (events : List LocalEvent) (new : LocalObject) (sent : List Letter) (ended : List Ended) →
    IsFitObject old → HaveRoom old events → IsOutcomeWithAnswers old events new sent ended →
    IsFitObject new × AllByRecursion IsFitLetter sent × AllByRecursion IsShortEnded ended
answers_fit old events new sent ended fit room done =
    let left = leave_fit old events fit room new sent done.done in
    (left.0, left.1, subst (λ (es : List Ended). AllByRecursion IsShortEnded es) (sym done.told) (all_told_fit old events fit room))

goes_on_room : (old new : LocalObject) (letter : Letter) (sent : List Letter) (ended : List Ended) → IsFitObject old →
    IsFitLetter letter → suc letter.message.position < 2 ^ 32 → (goes : GoesOn old letter new sent ended) →
    HaveRoom old (taking_events old letter ++ goes.settling ++ going_events (repeats old letter)
    (all_done fragment old (taking_events old letter ++ goes.settling)).local letter.message.call)
goes_on_room old new letter sent ended fit is room goes =
    let id = letter.message.call in
    let took = after_taking old letter in
    let asked = query_events took id in
    let taking = taking_events old letter in
    let first = taking ++ goes.settling in
    let again = repeats old letter in
    let settled = (all_done fragment old first).local in
    let taken = (event_fit old (LocalEvent.Take letter) fit (is, room)).0 in
    then_room old first (going_events again settled id) fit
    (then_room old taking goes.settling fit ((is, room), query_room took id taken)
    (λ asked_fit. settle_room (all_done fragment old taking).local id goes.settling goes.settles))
    (λ settled_fit.
    let grown = (all_done fragment settled (grow_events settled id)).local in
    then_room settled (grow_events settled id) (lead_events again grown id) settled_fit (grow_room settled id)
    (λ grown_fit. lead_room again grown id grown_fit))

taken_fit : (b : Bool) (old new : LocalObject) (letter : Letter) (sent : List Letter) (ended : List Ended) → IsFitObject old →
    IsFitLetter letter → (b ≡ true → suc letter.message.position < 2 ^ 32) → IsReplyOutcome b old letter new sent ended →
    IsFitObject new × AllByRecursion IsFitLetter sent × AllByRecursion IsShortEnded ended
taken_fit false old new letter sent ended fit is room taken = answers_fit old [] new sent ended fit tt taken
taken_fit true old new letter sent ended fit is room (inl early) =
    let took = LocalEvent.Take letter in
    let taken = event_fit old took fit (is, room refl) in
    let short = early_short (done_here fragment old took).local letter.message.call early.returned taken.0 early.can in
    answers_fit old (took ∷ LocalEvent.EndEarly letter.message.call early.returned ∷ []) new sent ended fit
    ((is, room refl), (short, tt)) early.done
taken_fit true old new letter sent ended fit is room (inr goes) =
    answers_fit old _ new sent ended fit (goes_on_room old new letter sent ended fit is (room refl) goes) goes.leads

taken_small : (old : LocalObject) (letter : Letter) → is_taken old letter ≡ true → suc letter.message.position < 2 ^ 32
taken_small old letter e = go (is_request letter.message.body) e
  where
    go : (b : Bool) → cond b false (nat_lt (letter.message.position + 1) (2 ^ 32)
        && is_some (open_call old.calls letter.message.call)) ≡ true → suc letter.message.position < 2 ^ 32
    go true e = absurd (cc)
    go false e =
        let parts = and_parts (nat_lt (letter.message.position + 1) (2 ^ 32)) (is_some (open_call old.calls letter.message.call)) e in
        let small = ltb-true (letter.message.position + 1) (2 ^ 32) parts.0 in
        omega (arith, small)

pub taking_fit : TakingStaysFit
taking_fit old new letter sent ended fit is taken =
    taken_fit (is_taken old letter) old new letter sent ended fit is (taken_small old letter) taken
