-- The values of tags by the history of all nodes, and the fragments that the nodes keep, send and tell.
use Rattle.std.proofs.Common.{◌≡◌, ◌⊎◌, ℕ, List, [], ◌∷◌, Bool, true, false, cond, eqb, eqb-true, Option, None, Some, IsSome}
use Rattle.std.proofs.Common.{slice_get, refl, sym, subst, ap, ◌∙◌, inl, inr}
use Rattle.std.proofs.lemmas.Option.{get_or_from_slice_get, same_Some}
use Rattle.std.specs.List.{AllByRecursion}
use Rattle.tag.specs.declared.tag.Tag.{Tag}
use Rattle.layout.specs.Layout.{Layout}
use Rattle.piece.specs.declared.piece.Piece.{Piece}
use Rattle.bank.proofs.RememberedReplyLemmas.{piece_left}
use Rattle.record.specs.declared.call.Entry.{Entry}
use Rattle.record.specs.declared.call.Operation.{Operation}
use Rattle.record.specs.declared.call.Operation.TheVariants as operation
use Rattle.record.specs.Fragments.{Code, IsCode, IsFragment}
use Rattle.record.specs.Records.{no_layout}
use Rattle.soundness.proofs.ListLemmas.{all_get}
use Rattle.network.specs.Worlds.{World, known_layouts, member_bank}
use Rattle.network.specs.Laws.{IsPieceOf, IsValueOf, KeepsValues}
use Rattle.network.proofs.WorldLawLemmas.{values_kept}
use Rattle.letter.specs.Tellings.{SaysNoMore}
use Rattle.letter.specs.declared.letter.Letter.{Letter}
use Rattle.letter.specs.declared.telling.Telling.{Telling}
use Rattle.local_object.specs.Local.{bank_here}
use Rattle.told_replies.specs.EarlyAnswers.{EarlyAnswer, IsEarly, as_answered, early_answer_to, early_history, early_value}
use Rattle.told_replies.specs.Tellings.{world_of}
use Rattle.told_queries.specs.Courses.{run_of}
use Rattle.told_replies.proofs.EarlyValueLemmas.{early_reads}
use Rattle.refinement.specs.Laws.{SystemsKeepValues}
use Rattle.refinement.specs.Parts.{WasSentAs}
use Rattle.refinement.specs.Systems.{HasPartsOf, System, WasPosted}
use Rattle.refinement.specs.SystemValues.{IsPieceIn, IsValueIn, KeepsValuesIn}
use Rattle.refinement.specs.ToldLetters.{TellsTruth}
use Rattle.refinement.proofs.EarlyHistoryLemmas.{as_seen, entry_back, entry_seen, seen_id, seen_kind}
use Rattle.refinement.proofs.EarlyRunLemmas.{is_reached, told_in_run}
use Rattle.refinement.proofs.KeptBankLemmas.{piece_of_kept}
use Rattle.refinement.proofs.SystemLawLemmas.{reached_with}
use Rattle.refinement.proofs.SystemPremiseLemmas.{HasRun}
use Rattle.refinement.proofs.ToldValueLemmas.{piece_there, reads_early}

-- The values of tags, with early answers in place

-- a write keeps its value
written_seen : (kind : Operation) → kind ≡ operation.Write → (returned value : Option (List ℕ)) → early_value kind returned value ≡ value
written_seen operation.Read e returned value = absurd (cc)
written_seen operation.Write e returned value = refl
written_seen operation.Move e returned value = refl

write_seen : (o : Option EarlyAnswer) (entry : Entry) → entry.kind ≡ operation.Write → (as_answered o entry).value ≡ entry.value
write_seen None entry e = refl
write_seen (Some answer) entry e = written_seen entry.kind e answer.value entry.value

-- a tag has the same values by the world and by the history with early answers
value_in : (answers : List EarlyAnswer) (world : World) (tag : Tag) (value : List ℕ) → IsValueOf world tag value →
    IsValueIn (early_history answers world.history) tag value
value_in answers world tag value (inl opening) = inl opening
value_in answers world tag value (inr written) =
    let w = written.1 in
    let o = early_answer_to answers w.entry.call in inr (
      written.0,
      record {
        place = w.place;
        entry = as_seen answers w.entry;
        at = entry_seen answers world.history w.place w.entry w.at;
        same_id = seen_id o w.entry ∙ w.same_id;
        kind = seen_kind o w.entry ∙ w.kind;
        writes = write_seen o w.entry w.kind ∙ w.writes;
      },
    )

value_of : (answers : List EarlyAnswer) (world : World) (tag : Tag) (value : List ℕ) →
    IsValueIn (early_history answers world.history) tag value → IsValueOf world tag value
value_of answers world tag value (inl opening) = inl opening
value_of answers world tag value (inr written) =
    let w = written.1 in
    let back = entry_back answers world.history w.place w.entry w.at in
    let o = early_answer_to answers back.0.call in
    let kind = sym (seen_kind o back.0) ∙ ap (λ (e : Entry). e.kind) back.2 ∙ w.kind in inr (
      written.0,
      record {
        place = w.place;
        entry = back.0;
        at = back.1;
        same_id = sym (seen_id o back.0) ∙ ap (λ (e : Entry). e.call) back.2 ∙ w.same_id;
        kind = kind;
        writes = sym (write_seen o back.0 kind) ∙ ap (λ (e : Entry). e.value) back.2 ∙ w.writes;
      },
    )

-- the answer that is found is one of these, and has the id
answer_found : (P : EarlyAnswer → Type 0) (answers : List EarlyAnswer) (id : ℕ) (answer : EarlyAnswer) → AllByRecursion P answers →
    early_answer_to answers id ≡ Some answer → P answer × (answer.id ≡ id)
answer_found P [] id answer all e = absurd (cc)
answer_found P (first ∷ answers) id answer all e =
    go (eqb first.id id) refl e (λ rest. answer_found P answers id answer all.1 rest)
  where
    go : (b : Bool) → eqb first.id id ≡ b → cond b (Some first) (early_answer_to answers id) ≡ Some answer →
        (early_answer_to answers id ≡ Some answer → P answer × (answer.id ≡ id)) → P answer × (answer.id ≡ id)
    go true t is rest =
        let same = same_Some first answer is in
        (subst P same all.0, ap (λ (a : EarlyAnswer). a.id) (sym same) ∙ eqb-true first.id id t)
    go false t is rest = rest is

-- All nodes

module _ (fragment : Code) (code : IsCode fragment) (system : System) (has : HasRun fragment system) where
  abbrev world : World
  world = world_of fragment (run_of has.course)

  abbrev is : HasPartsOf world system
  is = has.is.parts

  keeps : KeepsValues fragment world
  keeps = values_kept fragment world code (is_reached fragment has.course has.reached)

  there : (tag : Tag) (value : List ℕ) → IsValueOf world tag value → IsValueIn system.history tag value
  there tag value of_world =
      subst (λ history. IsValueIn history tag value) has.is.early.same (value_in has.answers world tag value of_world)

  back : (tag : Tag) (value : List ℕ) → IsValueIn system.history tag value → IsValueOf world tag value
  back tag value inside =
      value_of has.answers world tag value (subst (λ history. IsValueIn history tag value) (sym has.is.early.same) inside)

  fits_there : (node position member : ℕ) (layout : Layout) (tag : Tag) (piece : Piece) →
      slice_get (known_layouts world node) position ≡ Some layout → IsPieceOf fragment world node position member tag piece →
      IsPieceIn fragment system.history layout member tag piece
  fits_there node position member layout tag piece at of_world = (
    of_world.0,
    there tag of_world.0 of_world.1,
    subst (λ l. IsFragment fragment l member of_world.0 piece)
        (get_or_from_slice_get (known_layouts world node) position layout no_layout at) of_world.2,
  )

  sent_as : (letter : Letter) → WasPosted system letter → WasSentAs world letter
  sent_as letter posted = all_get (WasSentAs world) system.letters posted.0 letter is.letters posted.1

  -- what a letter tells
  told_whole : (telling whole : Telling) (piece : Piece) → SaysNoMore telling whole → telling.piece ≡ Some piece → whole.piece ≡ Some piece
  told_whole telling whole piece less e = go less.piece
    where
      go : (telling.piece ≡ None) ⊎ (telling.piece ≡ whole.piece) → whole.piece ≡ Some piece
      go (inl none) = absurd (let wrong : None ≡ Some piece = sym none ∙ e in cc)
      go (inr same) = sym same ∙ e

  told_there : (letter : Letter) (telling : Telling) (piece : Piece) → WasPosted system letter → letter.told ≡ Some telling →
      telling.piece ≡ Some piece → IsPieceIn fragment system.history letter.layout letter.message.member telling.greatest piece
  told_there letter telling piece posted tells e =
      let truth = all_get (TellsTruth fragment has.course) system.letters posted.0 letter has.is.told.letters posted.1 telling tells in
      let is_true = truth.0 in
      let there_then = piece_there fragment code has.course has.reached is_true.request is_true.whole
      (told_in_run fragment has.course is_true.request is_true.whole is_true.told) piece
      (told_whole telling is_true.whole piece is_true.less e) 0 in
      fits_there 0 letter.message.position letter.message.member letter.layout telling.greatest piece (sent_as letter posted).layout
      (subst (λ tag. IsPieceOf fragment world 0 letter.message.position letter.message.member tag piece) (sym is_true.less.greatest)
      (subst (λ member. IsPieceOf fragment world 0 letter.message.position member is_true.whole.greatest piece) is_true.same_member
      (subst (λ position. IsPieceOf fragment world 0 position is_true.request.member is_true.whole.greatest piece) truth.1 there_then)))

  -- What reads returned

  -- this entry returned the value of a tag
  abbrev Returns : Entry → Type 0
  Returns entry = (tag : Tag) × (value : List ℕ) × (entry.value ≡ Some value) × IsValueIn system.history tag value

  -- an entry returned a value of a tag, with the answer in place that it may have
  read_there : (place : ℕ) (entry : Entry) → slice_get world.history place ≡ Some entry → (o : Option EarlyAnswer) →
      early_answer_to has.answers entry.call ≡ o → entry.kind ≡ operation.Read → IsSome (as_answered o entry).answered →
      Returns (as_answered o entry)
  read_there place entry at None found kind answered =
      let read = keeps.reads place entry at kind answered in (read.0, read.1, read.2, there read.0 read.1 read.3)
  read_there place entry at (Some answer) found kind answered =
      let is_one = answer_found (IsEarly fragment (run_of has.course)) has.answers entry.call answer has.is.early.early found in
      let read = early_reads fragment world code (is_reached fragment has.course has.reached) answer is_one.0
      (reads_early fragment code has.course has.reached answer is_one.0 place entry at is_one.1 kind) in (
        read.0,
        read.1,
        ap (λ k. early_value k answer.value entry.value) kind ∙ read.2,
        there read.0 read.1 read.3,
      )

  returned : (place : ℕ) (seen : Entry) → slice_get system.history place ≡ Some seen → seen.kind ≡ operation.Read →
      IsSome seen.answered → Returns seen
  returned place seen at kind answered =
      let entry = entry_back has.answers world.history place seen (ap (λ history. slice_get history place) has.is.early.same ∙ at) in
      let o = early_answer_to has.answers entry.0.call in
      subst Returns entry.2 (read_there place entry.0 entry.1 o refl
      (sym (seen_kind o entry.0) ∙ ap (λ (e : Entry). e.kind) entry.2 ∙ kind)
      (subst (λ (e : Entry). IsSome e.answered) (sym entry.2) answered))

  pub kept_in : KeepsValuesIn fragment system
  kept_in = record {
    unique = λ tag v w a b. keeps.unique tag v w (back tag v a) (back tag w b);
    banks = λ node position member layout tag piece known holds has_piece.
        let local = system.objects node in
        let part = is.parts node in
        let at = part.layouts position layout known in
        let same = part.banks position member layout at (holds ∙ ap Some (sym (is.nodes node))) in
        fits_there local.node position member layout tag piece at
        (keeps.banks local.node position member tag piece (piece_left (member_bank world position member) tag piece
        (piece_of_kept (member_bank world position member) (bank_here local position member) tag piece same has_piece)));
    letters = λ letter tag piece posted tagged carries.
        let sent = sent_as letter posted in
        fits_there 0 letter.message.position letter.message.member letter.layout tag piece sent.layout
        (keeps.messages 0 letter.message tag piece sent.sent tagged carries);
    told = told_there;
    reads = returned;
  }

pub systems_kept : SystemsKeepValues
systems_kept fragment system code reached = kept_in fragment code system (reached_with fragment system reached)
