-- What an answer says is what the histories of the objects say.
use Rattle.std.proofs.Common.{◌≡◌, inl, inr, ◌≤◌, ℕ, zero, suc, List, [], ◌∷◌}
use Rattle.std.proofs.Common.{Option, None, Some, is_some, Ok, slice_get, refl, sym, subst, ap, ◌∙◌}
use Rattle.std.proofs.lemmas.Option.{same_Some}
use Rattle.client_commands.specs.Deletion.{Deletion, left_over, name_now}
use Rattle.client_commands.specs.Reading.{command_at}
use Rattle.client_commands.specs.declared.answer.Answer.{Answer}
use Rattle.client_commands.specs.declared.answer.Answer.TheVariants as answers
use Rattle.client_commands.specs.declared.answer.AnswerError.TheVariants.{NoQuorum}
use Rattle.client_commands.specs.declared.command.Command.{Command}
use Rattle.client_commands.specs.declared.command.Command.TheVariants as ask
use Rattle.client_commands.specs.declared.command.Wanted.{Wanted}
use Rattle.client_commands.specs.declared.command.Wanted.TheVariants as wants
use Rattle.cluster_file.specs.File.{FileContents}
use Rattle.deeds.specs.CallId.{CallIds}
use Rattle.deeds.specs.Deeds.{Notice}
use Rattle.node_clients.specs.Answers.{kind_answer, last_answer}
use Rattle.node_clients.specs.Calls.{deletes, deletion_of, rest_of, wanted_by}
use Rattle.node_clients.specs.Connections.{asked}
use Rattle.node_clients.specs.Served.{call_begun}
use Rattle.node_clients.specs.Services.{begun_notices}
use Rattle.node_clients.specs.declared.next.Next.{Next}
use Rattle.node_clients.specs.declared.next.Next.TheVariants as next
use Rattle.node_clients.specs.declared.open_call.OpenCall.{OpenCall}
use Rattle.node_clients.specs.declared.rest.Rest.TheVariants as rests
use Rattle.node_effects.specs.Seen.{all_seen}
use Rattle.record.specs.declared.call.Entry.{Entry}
use Rattle.record.specs.declared.call.Operation.TheVariants as operation
use Rattle.refinement.specs.SeenHistories.{IsBegunAs}
use Rattle.processes.specs.Answers.{IsAnswerTo, IsAnswered, IsCallOf, IsResult, Passed, SeenHistory}
use Rattle.processes.specs.Events.{call_begun as id_begun}
use Rattle.processes.proofs.CommandViewLemmas.{HasReason, IsEndOf, IsNextOf, IsOpenFor, View}
use Rattle.processes.proofs.TalkLemmas.{WereTold, WereWritten}
use Rattle.processes.proofs.FoundCallLemmas.{IsFound, all_same_count, call_of, found, moved_of, written_of}

module _ (seen : List Notice) (histories : (name : List ℕ) → SeenHistory seen name)
    (last : (name : List ℕ) (index time : ℕ) (entry : Entry) (notice : Notice) → slice_get (histories name).calls index ≡ Some entry →
    slice_get seen time ≡ Some notice → id_begun notice ≡ Some entry.call → time ≤ (histories name).of.begins index) where
  module _ (number client : ℕ) (file : FileContents) (told : List Notice) (ids : CallIds) (command : Passed) (to : ℕ)
      (were : WereTold seen to told) where
    abbrev delta : Option ℕ
    delta = file.fixed.delta

    abbrev from : ℕ
    from = command.time

    abbrev view : View
    view = record { seen = seen; told = told; ids = ids }

    abbrev Result : Command → Answer → Type 0
    Result asks answer = IsResult seen histories delta from to asks answer

    abbrev Right : Answer → Type 0
    Right answer = IsAnswerTo seen histories number client file from to (command_at command.strings) answer

    -- The command's call was answered

    module _ (answer : Answer) (end : IsEndOf client view number file command answer) where
      abbrev call : OpenCall
      call = end.call

      is : IsFound seen histories last from to end.open_for.notice end.ended
      is = found seen histories last from to end.open_for.notice end.id told ids end.name end.ended end.open_for.own end.told end.same were

      -- the call as its command began it
      begun_as : (asks : Command) (notice : Notice) → asks ≡ end.open_for.asks → all_seen (begun_notices asks end.id) ≡ notice ∷ [] →
          IsBegunAs is.name notice is.entry
      begun_as asks notice same begins =
          let both : notice ∷ [] ≡ end.open_for.notice ∷ [] =
          sym begins ∙ ap (λ c. all_seen (begun_notices c end.id)) same ∙ end.open_for.begins in
          subst (λ n. IsBegunAs is.name n is.entry) (let e : end.open_for.notice ≡ notice = cc in e) is.begun

      answer_as : (asks : Command) (deletion : Option Deletion) (wanted : Wanted) → asks ≡ end.open_for.asks →
          deletion_of (call_begun client asks) ≡ deletion → wanted_by (call_begun client asks) ≡ wanted →
          answer ≡ last_answer deletion (kind_answer wanted end.ended.kind end.ended.value)
      answer_as asks deletion wanted same del want =
          let begun : call_begun client asks ≡ Some (record call { age = 0 }) =
          ap (call_begun client) same ∙ end.open_for.call_is in
          end.answer_is
          ∙ ap (λ d. last_answer d (kind_answer call.wanted end.ended.kind end.ended.value)) (sym (ap deletion_of begun) ∙ del)
          ∙ ap (λ w. last_answer deletion (kind_answer w end.ended.kind end.ended.value)) (sym (ap wanted_by begun) ∙ want)

      -- nothing is left of the command
      none_left : (asks : Command) → asks ≡ end.open_for.asks → rest_of delta (call_begun client asks) ≡ None
      none_left asks same = ap (rest_of delta) (ap (call_begun client) same ∙ end.open_for.call_is) ∙ end.last

      left_as : (deletion : Deletion) → ask.Delete deletion ≡ end.open_for.asks → left_over delta deletion ≡ None
      left_as deletion same = nothing (left_over delta deletion) (none_left (ask.Delete deletion) same)
        where
          nothing : (found : Option Deletion) → deletes found ≡ None → found ≡ None
          nothing None none = refl
          nothing (Some more) none = absurd (cc)

      no_call : (asks : Command) → asks ≡ end.open_for.asks → call_begun client asks ≡ None → ⊥
      no_call asks same none =
          absurd (let wrong : None ≡ Some (record call { age = 0 }) =
          sym none ∙ ap (call_begun client) same ∙ end.open_for.call_is in cc)

      last_write : (deletion : Deletion) → ask.Delete deletion ≡ end.open_for.asks →
          IsCallOf seen histories (name_now deletion) from to operation.Write (Some [])
      last_write deletion same =
          let begun = begun_as (ask.Delete deletion) (Notice.Writes (name_now deletion) end.id []) same refl in
          call_of seen histories last from to end.open_for.notice end.ended is (name_now deletion) operation.Write (Some []) begun.0
          begun.2 begun.3

      -- the result of a command that came
      result_of : (asks : Command) → asks ≡ end.open_for.asks → Result asks answer
      result_of (ask.Read wanted name) same =
          let begun = begun_as (ask.Read wanted name) (Notice.Reads name end.id) same refl in (
            end.ended.value,
            call_of seen histories last from to end.open_for.notice end.ended is name operation.Read end.ended.value begun.0
                begun.2 is.value,
            answer_as (ask.Read wanted name) None wanted same refl refl
                ∙ ap (λ k. kind_answer wanted k end.ended.value) (sym is.kind ∙ begun.2),
          )
      result_of (ask.Set name value) same =
          let begun = begun_as (ask.Set name value) (Notice.Writes name end.id value) same refl in (
            call_of seen histories last from to end.open_for.notice end.ended is name operation.Write (Some value) begun.0 begun.2 begun.3,
            answer_as (ask.Set name value) None wants.Value same refl refl
                ∙ ap (λ k. kind_answer wants.Value k end.ended.value) (sym is.kind ∙ begun.2),
          )
      result_of (ask.Move name layout) same =
          absurd (let wrong : Some (rests.Confirms name) ≡ None = none_left (ask.Move name layout) same in cc)
      result_of (ask.Delete deletion) same = (
        1,
        written_of seen histories last from to told ids delta zero deletion deletion were refl (last_write deletion same)
            (left_as deletion same),
        answer_as (ask.Delete deletion) (Some deletion) wants.Value same refl refl,
      )
      result_of (ask.Info sections) same = absurd (no_call (ask.Info sections) same refl)
      result_of ask.CountWritten same = absurd (no_call ask.CountWritten same refl)
      result_of (ask.ShowLayout name) same = absurd (no_call (ask.ShowLayout name) same refl)
      result_of (ask.Scan cursor options) same = absurd (no_call (ask.Scan cursor options) same refl)
      result_of (ask.Ping text) same = absurd (no_call (ask.Ping text) same refl)
      result_of (ask.Echo text) same = absurd (no_call (ask.Echo text) same refl)
      result_of ask.ListCommands same = absurd (no_call ask.ListCommands same refl)
      result_of ask.CountCommands same = absurd (no_call ask.CountCommands same refl)
      result_of ask.ClientId same = absurd (no_call ask.ClientId same refl)
      result_of ask.DescribeClient same = absurd (no_call ask.DescribeClient same refl)
      result_of ask.ClientName same = absurd (no_call ask.ClientName same refl)
      result_of ask.Hello same = absurd (no_call ask.Hello same refl)
      result_of ask.Select same = absurd (no_call ask.Select same refl)
      result_of ask.Login same = absurd (no_call ask.Login same refl)
      result_of ask.Quit same = absurd (no_call ask.Quit same refl)

      end_right : (first : Next) → IsNextOf view number file command first → asked first ≡ Ok end.open_for.asks → Right answer
      end_right (next.Came frame) same asks =
          inl (end.open_for.asks, ap command_at (sym same) ∙ asks, inl (result_of end.open_for.asks refl))
      end_right (next.Rest (rests.Deletes deletion)) is_next asks =
          let same : ask.Delete deletion ≡ end.open_for.asks = cc in
          inl (
            ask.Delete is_next.0,
            is_next.2,
            inl (
              suc is_next.1,
              written_of seen histories last from to told ids delta is_next.1 is_next.0 deletion were is_next.3 (last_write deletion same)
                  (left_as deletion same),
              answer_as (ask.Delete deletion) (Some deletion) wants.Value same refl refl
                  ∙ ap (λ n. answers.Number n) (all_same_count view from delta is_next.1 is_next.0 deletion is_next.3),
            ),
          )
      end_right (next.Rest (rests.Confirms name)) is_next asks =
          let same : ask.Read wants.Nothing name ≡ end.open_for.asks = cc in
          let begun = begun_as (ask.Read wants.Nothing name) (Notice.Reads name end.id) same refl in
          let moved = moved_of seen histories last from to told ids name is_next.0 were is_next.3 in
          inl (
            ask.Move name is_next.0,
            is_next.1,
            inl (
              moved.0,
              moved.1,
              answer_as (ask.Read wants.Nothing name) None wants.Nothing same refl refl
                  ∙ ap (λ k. kind_answer wants.Nothing k end.ended.value) (sym is.kind ∙ begun.2),
            ),
          )

    -- Any reason

    late_right : (answer : Answer) (id : ℕ) (its : OpenCall) → IsOpenFor client view number file command id its →
        answer ≡ answers.Error NoQuorum → Right answer
    late_right answer id its is late = go is.first is.is_next is.asked_is
      where
        go : (first : Next) → IsNextOf view number file command first → asked first ≡ Ok is.asks → Right answer
        go (next.Came frame) same asks = inl (is.asks, ap command_at (sym same) ∙ asks, inr (ap is_some is.call_is, late))
        go (next.Rest (rests.Deletes deletion)) is_next asks = inl (ask.Delete is_next.0, is_next.2, inr (refl, late))
        go (next.Rest (rests.Confirms name)) is_next asks = inl (ask.Move name is_next.0, is_next.1, inr (refl, late))

    right : (answer : Answer) → HasReason number client file view command answer → Right answer
    right answer (inl reply) = inr reply
    right answer (inr (inl quit)) = inl (ask.Quit, quit.0, inl quit.1)
    right answer (inr (inr (inl end))) = end_right answer end end.open_for.first end.open_for.is_next end.open_for.asked_is
    right answer (inr (inr (inr late))) = late_right answer late.0 late.1 late.2 late.3

  -- All answers of a connection

  pub answers_all : (number client : ℕ) (file : FileContents) (ids : CallIds) (given : Option FileContents) →
      ((own : FileContents) → given ≡ Some own → file ≡ own) → (answers commands left : List Passed) →
      WereWritten number client file seen ids answers commands left → (place : ℕ) (written : Passed) →
      slice_get answers place ≡ Some written → (command : Passed) × (slice_get commands place ≡ Some command)
      × IsAnswered seen histories number client given command written
  answers_all number client file ids given named [] commands left is place written e = absurd (cc)
  answers_all number client file ids given named (first ∷ rest) [] left is place written e = absurd is
  answers_all number client file ids given named (first ∷ rest) (command ∷ commands) left is zero written e =
      subst (λ w. (other : Passed) × (slice_get (command ∷ commands) 0 ≡ Some other)
      × IsAnswered seen histories number client given other w) (same_Some first written e) (
        command,
        refl,
        record {
          file = file;
          is_given = named;
          answer = is.2.answer;
          sent = is.2.sent;
          right = right number client file is.0 ids command first.time is.1 is.2.answer is.2.reason;
        },
      )
  answers_all number client file ids given named (first ∷ rest) (command ∷ commands) left is (suc place) written e =
      answers_all number client file ids given named rest commands left is.3 place written e
