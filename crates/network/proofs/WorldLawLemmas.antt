-- What holds of each world that is reached.
use Rattle.std.proofs.Common.{◌≡◌, ℕ, List, Option, Some, None, is_some, true, get_or, [], option_map, inl, inr, arith}
use Rattle.std.proofs.Common.{refl, sym, subst, ap, ◌∙◌, slice_get}
use Rattle.std.specs.FinMap as map
use Rattle.tag.specs.declared.tag.Tag.{Tag}
use Rattle.layout.specs.Layout.{Layout}
use Rattle.piece.specs.declared.piece.Piece.{Piece}
use Rattle.bank.specs.Bank.{piece_of, piece_of_row}
use Rattle.bank.specs.declared.row.Row.{Row}
use Rattle.mail.specs.declared.message.Body.{Body}
use Rattle.mail.specs.declared.message.Body.TheVariants as body
use Rattle.mail.specs.declared.message.Message.{Message}
use Rattle.record.specs.Fragments.{Code, IsCode, IfCoded, IsCoded, IsFragment, body_piece, body_tag}
use Rattle.record.specs.Journals.{IsJournaled, entry_value, operation_of}
use Rattle.record.specs.Records.{Object, bank_at, no_bank, no_layout}
use Rattle.record.specs.Steps.{opened_object}
use Rattle.atomicity.specs.Atomic.{IsAtomic}
use Rattle.std.proofs.lemmas.Option.{same_Some}
use Rattle.record.specs.declared.call.CallKind.{CallKind}
use Rattle.record.specs.declared.call.CallKind.TheVariants.{Read}
use Rattle.record.specs.declared.call.Entry.{Entry}
use Rattle.record.specs.declared.call.Operation.TheVariants as operation
use Rattle.atomicity.proofs.AtomicRunLemmas.{sound_atomic}
use Rattle.soundness.proofs.Values.ReadValueLemmas.{reads_journaled}
use Rattle.soundness.proofs.Values.WrittenTagLemmas.{written_above, written_id}
use Rattle.record.specs.Legal.{IsLegal}
use Rattle.soundness.proofs.ListLemmas.{all_get}
use Rattle.network.specs.Unstamped.{unstamped_body, unstamped_bank}
use Rattle.network.specs.Worlds.{World, member_bank}
use Rattle.network.specs.Events.{Event}
use Rattle.network.specs.Following.{Follows, last_step_after, run_numbered}
use Rattle.network.specs.Followed.{IsFollowed, RunsAreFollowed}
use Rattle.network.specs.Laws.{IsReached, WorldsAreAtomic, WorldsKeepValues, IsPieceOf, IsValueOf}
use Rattle.network.proofs.AnsweredCallLemmas.{answer_followed}
use Rattle.network.proofs.BegunCallLemmas.{read_followed, write_followed}
use Rattle.network.proofs.BegunMoveLemmas.{move_followed}
use Rattle.network.proofs.BegunPhaseLemmas.{advance_followed}
use Rattle.network.proofs.EntryOfCallLemmas.{call_there, entry_there}
use Rattle.network.proofs.OneFileLemmas.{layouts_known}
use Rattle.network.proofs.RestartedNodeLemmas.{give_up_followed, restart_followed}
use Rattle.network.proofs.ServedRequestLemmas.{bank-bare, serve_followed}
use Rattle.network.proofs.SettledValueLemmas.{settle_followed}
use Rattle.network.proofs.StepLemmas.{message_there}
use Rattle.network.proofs.TakenReplyLemmas.{take_followed}
use Rattle.network.proofs.UnstampedBankLemmas.{piece_of-bare}
use Rattle.network.proofs.WorldAtomicLemmas.{atomic_back}
use Rattle.network.proofs.WorldRunLemmas.{runs_followed}
use Rattle.soundness.specs.Sound.{IsSound}

-- each event is followed
each_followed : (event : Event) → IsFollowed event
each_followed (Event.BeginRead node id) = read_followed node id
each_followed (Event.BeginWrite node id value) = write_followed node id value
each_followed (Event.BeginMove node id layout) = move_followed node id layout
each_followed (Event.Advance id) = advance_followed id
each_followed (Event.Serve message) = serve_followed message
each_followed (Event.Take message) = take_followed message
each_followed (Event.Settle id value) = settle_followed id value
each_followed (Event.Answer id) = answer_followed id
each_followed (Event.GiveUp id) = give_up_followed id
each_followed (Event.Restart node banks calls) = restart_followed node banks calls

pub all_runs_followed : RunsAreFollowed
all_runs_followed = runs_followed each_followed

-- a world that is reached follows a sound record
record Mirrored (fragment : Code) (world : World) : Type 0 where
  object : Object
  sound : IsSound fragment object (last_step_after world.now)
  follows : Follows world object

mirrored : (fragment : Code) (world : World) → IsCode fragment → IsReached fragment world → Mirrored fragment world
mirrored fragment world code reached =
    subst (Mirrored fragment) reached.result
    (let led = all_runs_followed fragment reached.files reached.events code reached.one reached.lawful reached.may in record {
      object = run_numbered fragment led.steps (opened_object (reached.files 0).first (reached.files 0).delta 0);
      sound = led.sound;
      follows = led.follows;
    })

pub atomic_worlds : WorldsAreAtomic
atomic_worlds fragment world code reached =
    let m = mirrored fragment world code reached in
    atomic_back world.history (subst IsAtomic m.follows.history (sound_atomic fragment code m.object (last_step_after world.now) m.sound))

-- Entries and values

-- what the journal has for a tag is the tag's value
value_there : (world : World) (object : Object) → IsLegal object → Follows world object → (tag : Tag) (value : List ℕ) →
    IsJournaled object tag value → IsValueOf world tag value
value_there world object legal follows tag value (inl opening) = inl opening
value_there world object legal follows tag value (inr written) =
    let id = written_id object legal tag value written in
    let there = entry_there world object follows written.index written.call written.at in
    let same = there.2 in
    inr (
      written_above object legal tag value written,
      record {
        place = written.index;
        entry = there.0;
        at = there.1;
        same_id = ap (λ (x : Entry). x.call) same ∙ sym id;
        kind = ap (λ (x : Entry). x.kind) same ∙ ap operation_of written.kind;
        writes = ap (λ (x : Entry). x.value) same
            ∙ ap (λ k. entry_value k written.call.answered written.call.settled) written.kind;
      },
    )

-- two entries with one id are one
one_entry : (world : World) (object : Object) → IsLegal object → Follows world object → (p q : ℕ) (a b : Entry) →
    slice_get world.history p ≡ Some a → slice_get world.history q ≡ Some b → a.call ≡ b.call → a ≡ b
one_entry world object legal follows p q a b at there same = grind (arith, call_there, same_Some)

one_value : (world : World) (object : Object) → IsLegal object → Follows world object → (tag : Tag) (v w : List ℕ) →
    IsValueOf world tag v → IsValueOf world tag w → v ≡ w
one_value world object legal follows tag v w known given = grind (arith, one_entry, same_Some)

-- Fragments

known : (o : Option Row) (piece : Piece) → piece_of_row o ≡ Some piece → is_some o ≡ true
known None piece e = absurd (cc)
known (Some row) piece e = refl

tag-bare : (b : Body) → body_tag (unstamped_body b) ≡ body_tag b
tag-bare (body.Request asked) = refl
tag-bare (body.Reply kind made) = refl

piece-bare : (b : Body) → body_piece (unstamped_body b) ≡ body_piece b
piece-bare (body.Request asked) = refl
piece-bare (body.Reply kind made) = refl

-- a piece that is coded is its member's fragment of the journal's value
coded_there : (fragment : Code) (world : World) (object : Object) → IsLegal object → Follows world object → (node position member : ℕ)
    (tag : Tag) (piece : Piece) (o : Option Piece) → o ≡ Some piece → IsCoded fragment object position member tag o →
    IsPieceOf fragment world node position member tag piece
coded_there fragment world object legal follows node position member tag piece o e coded = (
  coded.value,
  value_there world object legal follows tag coded.value coded.journaled,
  subst (λ (l : List Layout). IsFragment fragment (get_or l position no_layout) member coded.value piece)
      (follows.layouts ∙ layouts_known world follows.one node) (coded.fits piece e),
)

-- What reads returned

is_read : (kind : CallKind) → operation_of kind ≡ operation.Read → kind ≡ Read
is_read Read e = refl
is_read _ e = absurd (cc)

some_step : (o p : Option ℕ) → o ≡ option_map last_step_after p → is_some p ≡ true → (step : ℕ) × (o ≡ Some step)
some_step o None e some = absurd (cc)
some_step o (Some step) e some = (last_step_after step, e)

read_there : (fragment : Code) (world : World) (object : Object) → IsCode fragment → IsSound fragment object (last_step_after world.now) →
    Follows world object → (place : ℕ) (entry : Entry) → slice_get world.history place ≡ Some entry → entry.kind ≡ operation.Read →
    is_some entry.answered ≡ true → (tag : Tag) × (value : List ℕ) × (entry.value ≡ Some value) × IsValueOf world tag value
read_there fragment world object code sound follows place entry at reads some =
    let there = call_there world object follows place entry at in
    let call = there.0 in
    let same = there.2 in
    let kind = is_read call.kind (ap (λ (x : Entry). x.kind) same ∙ reads) in
    let answered = some_step call.answered entry.answered (ap (λ (x : Entry). x.answered) same) some in
    let read = reads_journaled fragment object code.determines sound.legal sound.values sound.coded sound.settled place call
    answered.0 there.1 kind answered.1 in (
      read.1,
      read.0,
      sym (ap (λ (x : Entry). x.value) same) ∙ ap (λ k. entry_value k call.answered call.settled) kind
          ∙ ap (λ o. entry_value Read o call.settled) answered.1 ∙ read.2,
      value_there world object sound.legal follows read.1 read.0 read.4,
    )

pub values_kept : WorldsKeepValues
values_kept fragment world code reached =
    let m = mirrored fragment world code reached in
    let object = m.object in
    let follows = m.follows in record {
      unique = one_value world object m.sound.legal follows;
      reads = read_there fragment world object code m.sound follows;
      banks = λ node position member tag piece e.
          let same : member_bank world position member ≡ unstamped_bank (bank_at object position member) =
          ap (λ banks. get_or (get_or banks position []) member no_bank) (sym follows.banks) ∙ bank-bare object.banks position member in
          let there : piece_of (bank_at object position member) tag ≡ Some piece =
          sym (piece_of-bare (bank_at object position member) tag) ∙ ap (λ b. piece_of b tag) (sym same) ∙ e in
          coded_there fragment world object m.sound.legal follows node position member tag piece
          (piece_of (bank_at object position member) tag) there
          (m.sound.coded.banks position member tag (known (map.get (bank_at object position member).rows tag) piece there));
      messages = λ node message tag piece sent tagged carries.
          let there = message_there object.mail sent.0 message (ap (λ l. slice_get l sent.0) follows.sent ∙ sent.1) in
          let original = there.0 in
          let body_is : unstamped_body original.body ≡ message.body = ap (λ (x : Message). x.body) there.2 in
          let coded = all_get (λ x. IfCoded fragment object x.position x.member (body_tag x.body) (body_piece x.body)) object.mail sent.0
          original m.sound.coded.mail there.1 in
          let tag_is : body_tag original.body ≡ Some tag = sym (tag-bare original.body) ∙ ap body_tag body_is ∙ tagged in
          let piece_is : body_piece original.body ≡ Some piece = sym (piece-bare original.body) ∙ ap body_piece body_is ∙ carries in
          let at_original = coded_there fragment world object m.sound.legal follows node original.position original.member tag piece
          (body_piece original.body) piece_is
          (subst (λ o. IfCoded fragment object original.position original.member o (body_piece original.body)) tag_is coded) in
          subst (λ (x : Message). IsPieceOf fragment world node x.position x.member tag piece) there.2 at_original;
    }
