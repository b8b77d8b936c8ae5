-- What a node that handles a frame keeps of what is known of the connections of its clients.
use Rattle.std.proofs.Common.{◌≡◌, ℕ, false, List, [], ◌∷◌, ◌++◌, length, Some}
use Rattle.std.proofs.Common.{refl, sym, subst, subst₂, ap, ◌∙◌, arith}
use Rattle.std.specs.List.{filter}
use Rattle.std.proofs.lemmas.Option.{same_Some}
use Rattle.deeds.specs.CallId.{CallIds, HasRanges}
use Rattle.deeds.specs.Deeds.{Notice}
use Rattle.deeds.specs.Ids.{IsLater}
use Rattle.node.specs.Handles.{Handles}
use Rattle.node.specs.declared.node.Node.{Node}
use Rattle.node_effects.specs.declared.effects.Effects.{Effects}
use Rattle.node_strings.specs.Arrival.{arrival_at}
use Rattle.node_strings.specs.Strings.{Strings}
use Rattle.recoveries.specs.OwnCalls.{WasGiven}
use Rattle.processes.specs.Answers.{Talk, answers_to, heard_talk}
use Rattle.processes.specs.Events.{is_begun, is_told, noticed_by}
use Rattle.processes.specs.Processes.{WaitingAnswers}
use Rattle.processes.proofs.CommandViewLemmas.{AreReplied, View, Widens, replies_wider}
use Rattle.processes.proofs.GivenIdLemmas.{BeginsAt}
use Rattle.processes.proofs.HandledTalkLemmas.{HaveHandled, node_handled}
use Rattle.processes.proofs.ServiceAnswerLemmas.{HasDeskIf}
use Rattle.processes.proofs.ServiceIdLemmas.{given_then}
use Rattle.processes.proofs.StandingLemmas.{IsAmong, among_first}
use Rattle.processes.proofs.TalkLemmas.{WereWritten, all_pushed, all_told, all_wider, among_both}
use Rattle.processes.proofs.TalkLemmas.{waiting_more, waiting_then, waiting_wider, written_more, written_wider}
use Rattle.processes.proofs.TalkEventLemmas.{AreTalks, desk_wider, told_wider, view_at}
use Rattle.processes.proofs.HeardTalkLemmas.{come_in, heard_answers, heard_commands, heard_file}

pub talks_handled : (number : ℕ) (seen : List Notice) (node after : Node) (answers : List WaitingAnswers) (talks : ℕ → Talk)
    (frame : Strings) (effects : Effects) (behind : ℕ) → Handles node frame effects after → HasRanges node.keeper.ids →
    IsLater node.keeper.ids after.keeper.ids →
    ((place id : ℕ) → BeginsAt (filter is_begun (noticed_by effects)) place id → WasGiven node.keeper.ids id → ⊥) →
    ((client : ℕ) → (heard_talk client (length seen) (arrival_at frame) (talks client)).reused ≡ false) →
    AreTalks number seen (Some node) answers talks →
    AreTalks number (seen ++ filter is_begun (noticed_by effects)) (Some after)
    (answers ++ record { behind = behind; frames = effects.answers.items; told = filter is_told (noticed_by effects) } ∷ [])
    (λ client. heard_talk client (length seen) (arrival_at frame) (talks client))
talks_handled number seen node after answers talks frame effects behind handles within later fresh unused is = record {
  file = is.file;
  ids = after.keeper.ids;
  own = later.node ∙ ap (λ (i : CallIds). i.node) (is.runs node refl).0 ∙ is.own;
  runs = λ other e. (let same = same_Some after other e in (
    ap (λ (n : Node). n.keeper.ids) (sym same),
    ap (λ (n : Node). n.keeper.file) (sym same) ∙ handles.served.file ∙ (is.runs node refl).1,
  ));
  each = λ client. (let step = all.each client in record {
    left = step.left;
    named = λ given e. (is.each client).named given
        (sym (heard_file client (length seen) (arrival_at frame) (talks client)) ∙ e);
    replied = λ small. (let known = (is.each client).replied small in (
      known.0 ++ come_in client (length seen) (arrival_at frame),
      subst₂ (λ ws cs. WereWritten number client is.file now ids ws cs (known.0 ++ come_in client (length seen) (arrival_at frame)))
          (sym (heard_answers client (length seen) (arrival_at frame) (talks client)))
          (sym (heard_commands client (length seen) (arrival_at frame) (talks client)))
          (written_more number client is.file now ids (talks client).answers (talks client).commands known.0
          (come_in client (length seen) (arrival_at frame))
          (written_wider number client is.file seen more is.ids ids given own_fresh (talks client).answers (talks client).commands known.0
          known.1)),
      waiting_then number client is.file now ids now answers last (known.0 ++ come_in client (length seen) (arrival_at frame))
          ((is.each client).left ++ come_in client (length seen) (arrival_at frame)) step.left
          (waiting_more number client is.file now ids now answers known.0 (is.each client).left
          (come_in client (length seen) (arrival_at frame))
          (waiting_wider number client is.file seen more is.ids ids given own_fresh seen now among_now answers known.0
          (is.each client).left known.2))
          (replies_wider then (record { seen = now; told = all_told now answers ++ last.told; ids = ids }) wide number client is.file
          (answers_to client last.frames) ((is.each client).left ++ come_in client (length seen) (arrival_at frame)) step.left
          (subst (λ v. AreReplied number client is.file v (answers_to client last.frames)
          ((is.each client).left ++ come_in client (length seen) (arrival_at frame)) step.left) then_is (step.replied small))),
    ));
    has = λ other e. subst (λ (n : Node). HasDeskIf client number is.file
        (heard_talk client (length seen) (arrival_at frame) (talks client)).ended (view_at now (answers ++ last ∷ []) ids) n.desk step.left)
        (same_Some after other e)
        (subst (λ ns. HasDeskIf client number is.file (heard_talk client (length seen) (arrival_at frame) (talks client)).ended
        (record { seen = now; told = ns; ids = ids }) after.desk step.left) (sym (all_pushed now answers last))
        (desk_wider client number is.file (heard_talk client (length seen) (arrival_at frame) (talks client)).ended then
        (record { seen = now; told = all_told now answers ++ last.told; ids = ids }) after step.left wide
        (subst (λ v. HasDeskIf client number is.file (heard_talk client (length seen) (arrival_at frame) (talks client)).ended v
        after.desk step.left) then_is step.has)));
  });
}
  where
    more : List Notice
    more = filter is_begun (noticed_by effects)

    now : List Notice
    now = seen ++ more

    ids : CallIds
    ids = after.keeper.ids

    last : WaitingAnswers
    last = record { behind = behind; frames = effects.answers.items; told = filter is_told (noticed_by effects) }

    same_ids : node.keeper.ids ≡ is.ids
    same_ids = (is.runs node refl).0

    given : (id : ℕ) → WasGiven is.ids id → WasGiven ids id
    given id was = given_then node.keeper.ids ids id later (subst (λ i. WasGiven i id) (sym same_ids) was)

    own_fresh : (place id : ℕ) → BeginsAt more place id → WasGiven is.ids id → ⊥
    own_fresh place id begins was = fresh place id begins (subst (λ i. WasGiven i id) (sym same_ids) was)

    among_now : (notice : Notice) → IsAmong seen notice → IsAmong now notice
    among_now notice among = among_first seen more notice among

    all : HaveHandled number is.file (view_at seen answers is.ids) (length seen) talks (λ client. (is.each client).left)
        (arrival_at frame) ids after.desk effects.answers.items (noticed_by effects)
    all =
        subst₂ (λ n f. HaveHandled n f (view_at seen answers is.ids) (length seen) talks (λ client. (is.each client).left)
        (arrival_at frame) ids after.desk effects.answers.items (noticed_by effects))
        (ap (λ (i : CallIds). i.node) same_ids ∙ is.own) (is.runs node refl).1
        (node_handled node after frame effects (view_at seen answers is.ids) (length seen) talks (λ client. (is.each client).left)
        handles (sym same_ids) within (omega arith) unused
        (λ client. subst₂ (λ n f. HasDeskIf client n f (talks client).ended (view_at seen answers is.ids) node.desk (is.each client).left)
        (sym (ap (λ (i : CallIds). i.node) same_ids ∙ is.own)) (sym (is.runs node refl).1) ((is.each client).has node refl)))

    then : View
    then = record { seen = now; told = all_told seen answers ++ last.told; ids = ids }

    then_is : all.then ≡ then
    then_is = λ i. record { seen = all.seen i; told = all.told i; ids = all.ids i }

    wide : Widens then (record { seen = now; told = all_told now answers ++ last.told; ids = ids })
    wide = told_wider now (all_told seen answers ++ last.told) (all_told now answers ++ last.told) ids
        (among_both (all_told seen answers) (all_told now answers) last.told (all_wider seen now among_now answers))
