-- What can be written, and what cannot.
use Rattle.std.proofs.Common.{◌≡◌, ◌<◌, ℕ, Bool, true, false, leb, ltb, not, List, [], ◌∷◌, ◌++◌, length}
use Rattle.std.proofs.Common.{zero, suc, get_or, Result, Ok, Err, IfErr, refl, sym, subst, ap, ◌∙◌, arith}
use Rattle.std.specs.Prelude.{is_some}
use Rattle.std.specs.List.{AllByRecursion, list_all}
use Rattle.std.proofs.lemmas.Bool.{and_from, le-leb, le-ltb, lt-ltb}
use Rattle.frames.specs.Frame.{IsFrame, IsShort}
use Rattle.frames.specs.declared.limits.TheConstants.{LONGEST_STRING, MOST_STRINGS}
use Rattle.tag.specs.declared.limits.TheConstants.{LONGEST_NAME}
use Rattle.mail.specs.declared.message.Body.{Body}
use Rattle.mail.specs.declared.message.Body.TheVariants as body
use Rattle.node_log.specs.Entry.{IsEntry}
use Rattle.node_messages.specs.declared.error.Fault.{Fault}
use Rattle.node_messages.specs.declared.error.MessageError.{MessageError}
use Rattle.node_messages.specs.declared.error.MessageError.TheVariants as message_errors
use Rattle.node_messages.specs.declared.message.NodeMessage.{NodeMessage}
use Rattle.node_messages.specs.Gives.{Agrees}
use Rattle.mail.specs.Message.{names_next}
use Rattle.node_messages.specs.Message.{IsBody, IsMessage, is_fitting}
use Rattle.node_messages.specs.Strings.{strings_of}
use Rattle.node_messages.specs.Writing.{is_frame, same, strings_or_fault}
use Rattle.node_strings.specs.Strings.{Strings}
use Rattle.deeds.specs.CallId.{CallIds}
use Rattle.letter.specs.declared.letter.Letter.{Letter}
use Rattle.local_object.specs.declared.progress.Ended.{Ended}
use Rattle.local_object.specs.Doing.{serve_events}
use Rattle.node_keeper.specs.Doing.{IsOutcomeAt, IsReplyOutcomeAt}
use Rattle.node_keeper.specs.declared.objects.Objects.{Objects}
use Rattle.node_keeper.specs.Objects.{objects_of}
use Rattle.node_strings.specs.Record.{record_strings}
use Rattle.node_strings.specs.declared.record.Record.TheVariants as record_of
use Rattle.node_effects.specs.Errors.{IsUnwritten, WritesOrFails, error_of_message}
use Rattle.letter.specs.declared.letter.NamedLetter.{NamedLetter}
use Rattle.node_effects.proofs.ErrorLemmas.{start_fits}
use Rattle.node_effects.specs.declared.error.NodeError.{NodeError}
use Rattle.node_effects.specs.declared.error.NodeError.TheVariants as errors
use Rattle.node_keeper.specs.Fitting.{IsSendable}
use Rattle.node_keeper.specs.NextIds.{IsNoEpoch}
use Rattle.node_keeper.specs.Delivering.{CanServe, CanTake}
use Rattle.node_keeper.specs.Sendings.{Sending, asked, member_or, reply_sendings, sending}
use Rattle.node_keeper.specs.declared.keeper.Keeper.{Keeper}
use Rattle.open_calls.proofs.ListLemmas.{all_append}
use Rattle.node_keeper.proofs.SendingLemmas.{asked_append}

-- what needs more to be written does not fit either
pub unwritten_more : (part whole : Type 0) → (whole → part) → (error : NodeError) → IsUnwritten part error →
    IsUnwritten whole error
unwritten_more part whole needs errors.NoMemory is = tt
unwritten_more part whole needs errors.NoMoreIds is = absurd is
unwritten_more part whole needs errors.Unwritable is = λ fits. is (needs fits)
unwritten_more part whole needs (errors.Refused refusal) is = absurd is

-- Messages

short_again : (strings : Strings) → AllByRecursion IsShort strings →
    list_all (λ s. leb (length s) LONGEST_STRING) strings ≡ true
short_again [] short = refl
short_again (s ∷ strings) short =
    and_from (leb (length s) LONGEST_STRING) _ (le-leb _ _ short.0) (short_again strings short.1)

frame_again : (strings : Strings) → IsFrame strings → is_frame strings ≡ true
frame_again strings is = and_from (leb (length strings) MOST_STRINGS) _ (le-leb _ _ is.few) (short_again strings is.short)

fits_kind : (b : Body) → IsBody b → is_fitting b ≡ true
fits_kind (body.Request q) fits = refl
fits_kind (body.Reply k r) fits = fits.3

same_bools : (a b : Bool) → a ≡ b → same a b ≡ true
same_bools true b e = sym e
same_bools false b e = ap not (sym e)

message_written : (m : NodeMessage) → IsMessage m → IsFrame (strings_of m) → strings_or_fault m ≡ Ok (strings_of m)
message_written m is frame =
    let name : ltb LONGEST_NAME (length m.named.name) ≡ false = le-ltb LONGEST_NAME (length m.named.name) is.name in
    let member : ltb m.named.letter.message.member (length m.named.letter.layout.members) ≡ true =
    lt-ltb m.named.letter.message.member (length m.named.letter.layout.members) is.member in
    rw (
      name,
      member,
      fits_kind m.named.letter.message.body is.body,
      same_bools (is_some m.named.letter.next) (names_next m.named.letter.message.body) is.named,
      is.role,
      frame_again (strings_of m) frame,
    ) refl

-- a message with a fault is none, or its strings are no frame
pub fault_unframed : (m : NodeMessage) (fault : Fault) → strings_or_fault m ≡ Err fault →
    IsMessage m × IsFrame (strings_of m) → ⊥
fault_unframed m fault e is = let clash : Ok (strings_of m) ≡ Err fault = sym (message_written m is.0 is.1) ∙ e in cc

-- Frames and entries

-- Letters, and records

-- an epoch that does not begin, as the log does not get its entry
pub unlogged_epoch : {T : Type 0} (ids : CallIds) (result : Result T NodeError) →
    WritesOrFails (IsEntry (record_strings record_of.Start)) result → IfErr result (IsNoEpoch ids)
unlogged_epoch ids (Ok x) is = tt
unlogged_epoch ids (Err errors.NoMemory) is = tt
unlogged_epoch ids (Err errors.NoMoreIds) is = absurd is
unlogged_epoch ids (Err errors.Unwritable) is = absurd (is start_fits)
unlogged_epoch ids (Err (errors.Refused refusal)) is = absurd is

-- a message that has no frame
pub message_fails : (m : NodeMessage) (error : MessageError) → Agrees {X = Strings} (Err error) (strings_or_fault m) →
    IsUnwritten (IsMessage m × IsFrame (strings_of m)) (error_of_message error)
message_fails m (message_errors.Fault fault) is = fault_unframed m fault is
message_fails m message_errors.NoMemory is = tt

-- a reply that has no frame
pub serve_unsent : (asker : ℕ) (it : NamedLetter) (keeper : Keeper) (new : Objects) (reply : Letter) →
    IsOutcomeAt keeper.objects it.name (serve_events (objects_of keeper.objects it.name) it.letter) new (reply ∷ []) →
    (error : NodeError) →
    IsUnwritten (IsSendable keeper.ids.node keeper.digest (sending asker (record { name = it.name; letter = reply }))) error →
    IsUnwritten (CanServe asker it keeper) error
serve_unsent asker it keeper new reply done error is =
    unwritten_more _ _ (λ (can : CanServe asker it keeper).
    (subst (λ (ls : List Letter). AllByRecursion (IsSendable keeper.ids.node keeper.digest) (reply_sendings asker it.name ls))
    (sym done.done.letters) can.sent).0) error is

-- a letter that an answer leads to has no frame
pub take_unsent : (it : NamedLetter) (keeper : Keeper) (new : Objects) (letters : List Letter) (ended : List Ended) →
    IsReplyOutcomeAt keeper.objects it.name it.letter new letters ended → (error : NodeError) →
    IsUnwritten (AllByRecursion (IsSendable keeper.ids.node keeper.digest) (asked keeper.ids.node it.name letters)) error →
    IsUnwritten (CanTake it keeper) error
take_unsent it keeper new letters ended taken error is =
    unwritten_more _ _ (λ (can : CanTake it keeper). can.1 new letters ended taken) error is

-- one more letter can be sent
pub sendable_more : (number : ℕ) (digest name : List ℕ) (letters : List Letter) (letter : Letter) →
    AllByRecursion (IsSendable number digest) (asked number name letters) →
    IsSendable number digest (sending (member_or number letter) (record { name = name; letter = letter })) →
    AllByRecursion (IsSendable number digest) (asked number name (letters ++ letter ∷ []))
sendable_more number digest name letters letter all one =
    subst (λ (sends : List Sending). AllByRecursion (IsSendable number digest) sends)
    (sym (asked_append number name letters (letter ∷ [])))
    (all_append (IsSendable number digest) (asked number name letters) (asked number name (letter ∷ [])) all (one, tt))

-- each letter can be sent
sendable_at : (number : ℕ) (digest name : List ℕ) (letters : List Letter) →
    AllByRecursion (IsSendable number digest) (asked number name letters) → (i : ℕ) → i < length letters → (d : Letter) →
    IsSendable number digest (sending (member_or number (get_or letters i d)) (record { name = name; letter = get_or letters i d }))
sendable_at number digest name [] all i within d = absurd (omega arith)
sendable_at number digest name (x ∷ letters) all zero within d = all.0
sendable_at number digest name (x ∷ letters) all (suc i) within d = sendable_at number digest name letters all.1 i (omega arith) d

-- one of the letters cannot be sent
pub one_unsent : (number : ℕ) (digest name : List ℕ) (letters : List Letter) (i : ℕ) (letter : Letter) →
    (i < length letters) × (letter ≡ get_or letters i letter) → (error : NodeError) →
    IsUnwritten (IsSendable number digest (sending (member_or number letter) (record { name = name; letter = letter }))) error →
    IsUnwritten (AllByRecursion (IsSendable number digest) (asked number name letters)) error
one_unsent number digest name letters i letter at error is =
    unwritten_more _ _ (λ (all : AllByRecursion (IsSendable number digest) (asked number name letters)).
    subst (λ l. IsSendable number digest (sending (member_or number l) (record { name = name; letter = l }))) (sym at.1)
    (sendable_at number digest name letters all i at.0 letter)) error is
