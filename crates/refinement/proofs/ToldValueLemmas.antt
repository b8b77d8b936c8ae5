-- The values of what was told and answered early in a run.
use Rattle.std.proofs.Common.{◌≡◌, ◌⊎◌, ℕ, List, [], ◌∷◌, ◌++◌, Some, inl, inr, append_assoc, get_or, slice_get}
use Rattle.std.proofs.Common.{refl, sym, subst, ap, ◌∙◌}
use Rattle.std.proofs.lemmas.Option.{same_Some}
use Rattle.layout.specs.Layout.{Layout}
use Rattle.piece.specs.declared.piece.Piece.{Piece}
use Rattle.mail.specs.declared.message.Message.{Message}
use Rattle.record.specs.declared.call.CallKind.{CallKind}
use Rattle.record.specs.declared.call.CallKind.TheVariants.{Read}
use Rattle.record.specs.declared.call.Entry.{Entry}
use Rattle.record.specs.declared.call.Operation.TheVariants as operation
use Rattle.record.specs.Fragments.{Code, IsCode, IsCoded, IsFragment}
use Rattle.record.specs.Journals.{operation_of}
use Rattle.record.specs.Records.{Call, no_layout}
use Rattle.network.specs.Worlds.{World, opened_world}
use Rattle.network.specs.Events.{Event, happens, world_after}
use Rattle.network.specs.Laws.{IsPieceOf}
use Rattle.network.specs.Premises.{MayHappenInTurn}
use Rattle.network.proofs.EntryOfCallLemmas.{call_there}
use Rattle.network.proofs.OneFileLemmas.{layouts_known}
use Rattle.early_ends.specs.Told.{IsHeldCall, IsTold, IsToldRead, Told}
use Rattle.letter.specs.declared.telling.Telling.{Telling}
use Rattle.told_replies.specs.EarlyAnswers.{EarlyAnswer, IsEarly}
use Rattle.told_replies.specs.Tellings.{Run, WasTold, world_of}
use Rattle.told_queries.specs.Courses.{Course, run_of}
use Rattle.told_queries.specs.Laws.{IsCourse}
use Rattle.told_replies.proofs.EarlyEndLemmas.{told_answer, told_early}
use Rattle.told_replies.proofs.EarlyValueLemmas.{value_there}
use Rattle.told_replies.proofs.ServedMessageLemmas.{served_for}
use Rattle.told_replies.proofs.TracedRunLemmas.{IsRecorded, Remembers, after_one, may_at, recorded}

read_of : (kind : CallKind) → operation_of kind ≡ operation.Read → kind ≡ Read
read_of Read e = refl
read_of _ e = absurd (cc)

module _ (fragment : Code) (code : IsCode fragment) (course : Course) (reached : IsCourse fragment course) where
  abbrev run : Run
  run = run_of course

  abbrev world : World
  world = world_of fragment run

  traced : IsRecorded fragment run.files run.events
  traced = recorded fragment code run.files run.events reached.one reached.lawful reached.may

  -- a piece that a member told
  module _ (request : Message) (telling : Telling) (told : WasTold fragment run request telling) (piece : Piece)
      (is : telling.piece ≡ Some piece) where
    abbrev served : Event
    served = Event.Serve request

    there_then : Remembers fragment (happens fragment (world_after fragment told.before (opened_world run.files)) served) traced.last
    there_then =
        subst (λ w. Remembers fragment w traced.last) (after_one fragment told.before served (opened_world run.files))
        (traced.each (told.before ++ served ∷ []) told.after (told.served ∙ sym (append_assoc told.before (served ∷ []) told.after)))

    coded : IsCoded fragment traced.last request.position request.member telling.greatest (Some piece)
    coded =
        subst (λ (t : Telling). t.piece ≡ Some piece →
        IsCoded fragment traced.last request.position request.member t.greatest (Some piece)) told.tells
        ((served_for fragment (world_after fragment told.before (opened_world run.files)) request traced.last _ traced.sound
        (may_at fragment told.before served told.after (opened_world run.files)
        (subst (λ events. MayHappenInTurn fragment events (opened_world run.files)) told.served reached.may)).0 there_then).coded piece) is

    pub piece_there : (node : ℕ) → IsPieceOf fragment world node request.position request.member telling.greatest piece
    piece_there node = (
      coded.value,
      value_there world traced.last traced.sound.legal traced.follows telling.greatest coded.value coded.journaled,
      subst (λ (layouts : List Layout). IsFragment fragment (get_or layouts request.position no_layout) request.member coded.value piece)
          (traced.follows.layouts ∙ layouts_known world traced.follows.one node) (coded.fits piece refl),
    )

  -- an early answer to a call whose entry is a read
  module _ (answer : EarlyAnswer) (early : IsEarly fragment run answer) where
    abbrev told : Told
    told = told_answer fragment run.files run.events reached.may traced answer early

    may_be_told : (may : IsTold fragment traced.last told) × (may.call.id ≡ answer.id) × (may.call.kind ≡ early.call.kind)
    may_be_told = told_early fragment run.files run.events reached.may traced answer early

    abbrev recorded_call : Call
    recorded_call = may_be_told.0.call

    at : slice_get traced.last.calls told.index ≡ Some recorded_call
    at = go may_be_told.0.held
      where
        go : IsHeldCall fragment traced.last told recorded_call may_be_told.0.tag
            ⊎ IsToldRead fragment traced.last told recorded_call may_be_told.0.tag →
            slice_get traced.last.calls told.index ≡ Some recorded_call
        go (inl held) = held.made.at
        go (inr read) = read.made.at

    pub reads_early : (place : ℕ) (entry : Entry) → slice_get world.history place ≡ Some entry → answer.id ≡ entry.call →
        entry.kind ≡ operation.Read → early.call.kind ≡ Read
    reads_early place entry there same reads =
        let own = call_there world traced.last traced.follows place entry there in
        let place_is = traced.sound.legal.ids place told.index own.0 recorded_call own.1 at
        (ap (λ (e : Entry). e.call) own.2 ∙ sym same ∙ sym may_be_told.1) in
        let call_is = same_Some own.0 recorded_call (sym own.1 ∙ ap (slice_get traced.last.calls) place_is ∙ at) in
        sym may_be_told.2 ∙ ap (λ (c : Call). c.kind) (sym call_is)
        ∙ read_of own.0.kind (ap (λ (e : Entry). e.kind) own.2 ∙ reads)
