-- What each event keeps of what is known of the connections of a process's clients.
use Rattle.std.proofs.Common.{◌≡◌, ◌<◌, ◌^◌, ℕ, Bool, true, false, ltb-true, List, [], ◌∷◌, ◌++◌, length, Option, None, Some}
use Rattle.std.proofs.Common.{nat_lt, lt-ltb, refl, sym, subst, subst₂, ap, ◌∙◌, arith}
use Rattle.std.proofs.lemmas.Option.{same_Some, slice_get_within}
use Rattle.cluster_file.specs.File.{FileContents}
use Rattle.deeds.specs.CallId.{CallIds}
use Rattle.deeds.specs.Deeds.{Notice}
use Rattle.node.specs.declared.node.Node.{Node}
use Rattle.node_clients.specs.Calls.{call_under}
use Rattle.node_clients.specs.Desk.{connection_of}
use Rattle.node_clients.specs.declared.connections.Connections.{Connections}
use Rattle.indexmap.specs.IndexMap.{get}
use Rattle.node_keeper.specs.declared.keeper.Keeper.{Keeper}
use Rattle.std.specs.Prelude.{nat_eq}
use Rattle.recoveries.specs.OwnCalls.{WasGiven}
use Rattle.processes.specs.Answers.{Passed, Talk, answers_to, passed_at}
use Rattle.processes.specs.Processes.{WaitingAnswers}
use Rattle.processes.proofs.CommandViewLemmas.{View, Widens, replies_wider}
use Rattle.processes.proofs.ConnectionLemmas.{HasCommandsIf, kept_if, no_more_same}
use Rattle.processes.proofs.GivenIdLemmas.{BeginsAt}
use Rattle.processes.proofs.ServiceAnswerLemmas.{HasDeskIf, calls_of}
use Rattle.processes.proofs.StandingLemmas.{IsAmong, among_first}
use Rattle.processes.proofs.TalkLemmas.{AreWaiting, WereTold, WereWritten, all_told, all_wider, view_wider}
use Rattle.processes.proofs.TalkLemmas.{waiting_wider, written_then, written_wider}
use Rattle.processes.proofs.ToldOnlyLemmas.{TellOnly, first_tell}

-- what is known where these answers wait
abbrev pub view_at : (seen : List Notice) → List WaitingAnswers → CallIds → View
view_at seen answers ids = record { seen = seen; told = all_told seen answers; ids = ids }

-- what is known of a client's connection: the answers that were written and those that wait are those to its first
-- commands, in their order, and the node, if it runs, still has to carry out the others
pub record IsTalk (number client : ℕ) (file : FileContents) (ids : CallIds) (seen : List Notice) (running : Option Node)
    (answers : List WaitingAnswers) (talk : Talk) : Type 0 where
  pub left : List Passed
  pub replied : client < 2 ^ 64 → (middle : List Passed)
      × WereWritten number client file seen ids talk.answers talk.commands middle
      × AreWaiting number client file seen ids seen answers middle left
  pub named : (own : FileContents) → talk.file ≡ Some own → file ≡ own
  pub has : (node : Node) → running ≡ Some node →
      HasDeskIf client number file talk.ended (view_at seen answers ids) node.desk left

-- the same of all connections of a process
pub record AreTalks (number : ℕ) (seen : List Notice) (running : Option Node) (answers : List WaitingAnswers)
    (talks : ℕ → Talk) : Type 0 where
  pub file : FileContents
  pub ids : CallIds
  pub own : ids.node ≡ number
  pub runs : (node : Node) → running ≡ Some node → (node.keeper.ids ≡ ids) × (node.keeper.file ≡ file)
  pub each : (client : ℕ) → IsTalk number client file ids seen running answers (talks client)

-- more is told, and nothing else changes
pub told_wider : (seen told now : List Notice) (ids : CallIds) → ((notice : Notice) → IsAmong told notice → IsAmong now notice) →
    Widens (record { seen = seen; told = told; ids = ids }) (record { seen = seen; told = now; ids = ids })
told_wider seen told now ids among = record {
  longer = omega arith;
  at = λ place notice e. e;
  fresh = λ place id notice e begins given. e;
  among = among;
  given = λ id is. is;
}

pub desk_wider : (client number : ℕ) (file : FileContents) (ended : Bool) (old new : View) (node : Node) (left : List Passed) →
    Widens old new → HasDeskIf client number file ended old node.desk left → HasDeskIf client number file ended new node.desk left
desk_wider client number file ended old new node left wide has =
    kept_if client number file ended old new (connection_of node.desk client) (calls_of node.desk) (calls_of node.desk) left wide
    (no_more_same client (calls_of node.desk)) has

module _ (number : ℕ) (seen : List Notice) (running : Option Node) (answers : List WaitingAnswers) (talks : ℕ → Talk)
    (is : AreTalks number seen running answers talks) where
  -- Clients see more of other processes

  module _ (more : List Notice) (fresh : (place id : ℕ) → BeginsAt more place id → WasGiven is.ids id → ⊥) where
    wider : (told now : List Notice) → ((notice : Notice) → IsAmong told notice → IsAmong now notice) →
        Widens (record { seen = seen; told = told; ids = is.ids }) (record { seen = seen ++ more; told = now; ids = is.ids })
    wider told now among = view_wider number 0 is.file seen more is.ids is.ids (λ id given. given) fresh told now among

    pub seen_more : AreTalks number (seen ++ more) running answers talks
    seen_more = record {
      file = is.file;
      ids = is.ids;
      own = is.own;
      runs = is.runs;
      each = λ client. (let talk = is.each client in record {
        left = talk.left;
        named = talk.named;
        replied = λ small. (let known = talk.replied small in (
          known.0,
          written_wider number client is.file seen more is.ids is.ids (λ id given. given) fresh (talks client).answers
              (talks client).commands known.0 known.1,
          waiting_wider number client is.file seen more is.ids is.ids (λ id given. given) fresh seen (seen ++ more)
              (λ notice among. among_first seen more notice among) answers known.0 talk.left known.2,
        ));
        has = λ node e. desk_wider client number is.file (talks client).ended (view_at seen answers is.ids)
            (view_at (seen ++ more) answers is.ids) node talk.left
            (wider (all_told seen answers) (all_told (seen ++ more) answers)
            (all_wider seen (seen ++ more) (λ notice among. among_first seen more notice among) answers))
            (talk.has node e);
      });
    }

  -- The node is told the length of its log

  pub talks_noted : (node after : Node) → running ≡ Some node → after.keeper ≡ node.keeper → after.desk.clients ≡ node.desk.clients →
      after.desk.calls ≡ node.desk.calls → AreTalks number seen (Some after) answers talks
  talks_noted node after runs keeper clients calls = record {
    file = is.file;
    ids = is.ids;
    own = is.own;
    runs = λ other e. (let now = is.runs node runs in let same = same_Some after other e in (
      ap (λ (n : Node). n.keeper.ids) (sym same) ∙ ap (λ (k : Keeper). k.ids) keeper ∙ now.0,
      ap (λ (n : Node). n.keeper.file) (sym same) ∙ ap (λ (k : Keeper). k.file) keeper ∙ now.1,
    ));
    each = λ client. (let talk = is.each client in record {
      left = talk.left;
      named = talk.named;
      replied = talk.replied;
      has = λ other e. subst (λ (n : Node). HasDeskIf client number is.file (talks client).ended (view_at seen answers is.ids) n.desk
          talk.left) (same_Some after other e)
          (subst₂ (λ at cs. HasCommandsIf client number is.file (talks client).ended (view_at seen answers is.ids) at cs talk.left)
          (sym (ap (λ (c : Connections). get nat_eq c.by_number client) clients)) (sym (ap (λ cs id. call_under cs id) calls))
          (talk.has node runs));
    });
  }

  -- The process stops

  pub talks_stopped : AreTalks number seen None [] talks
  talks_stopped = record {
    file = is.file;
    ids = is.ids;
    own = is.own;
    runs = λ node e. absurd (cc);
    each = λ client. go client (nat_lt client (2 ^ 64)) refl;
  }
    where
      go : (client : ℕ) (b : Bool) → nat_lt client (2 ^ 64) ≡ b → IsTalk number client is.file is.ids seen None [] (talks client)
      go client true t =
          let known = (is.each client).replied (ltb-true client (2 ^ 64) t) in
          record {
            left = known.0;
            named = (is.each client).named;
            replied = λ small. (known.0, known.1, refl);
            has = λ node e. absurd (cc);
          }
      go client false t = record {
        left = [];
        named = (is.each client).named;
        replied = λ small. absurd (let wrong : false ≡ true = sym t ∙ lt-ltb client (2 ^ 64) small in cc);
        has = λ node e. absurd (cc);
      }

-- the log is written anew, when no answer waits
pub talks_rewritten : (number : ℕ) (seen : List Notice) (running : Option Node) (answers : List WaitingAnswers) (talks : ℕ → Talk) →
    answers ≡ [] → AreTalks number seen running answers talks → AreTalks number seen running [] talks
talks_rewritten number seen running answers talks none is = subst (λ xs. AreTalks number seen running xs talks) none is

-- The answers that have waited longest are written

-- a talk, when these answers were written after clients had seen this
abbrev pub told_talk : (client : ℕ) → (seen : List Notice) → WaitingAnswers → Talk → Talk
told_talk client seen first talk =
    record talk { answers = talk.answers ++ passed_at (length (seen ++ first.told)) (answers_to client first.frames) }

pub talks_told : (number : ℕ) (seen : List Notice) (running : Option Node) (first : WaitingAnswers) (rest : List WaitingAnswers)
    (talks : ℕ → Talk) → TellOnly (first ∷ rest) → AreTalks number seen running (first ∷ rest) talks →
    AreTalks number (seen ++ first.told) running rest (λ client. told_talk client seen first (talks client))
talks_told number seen running first rest talks only is = record {
  file = is.file;
  ids = is.ids;
  own = is.own;
  runs = is.runs;
  each = λ client. (let talk = is.each client in record {
    left = talk.left;
    named = talk.named;
    replied = λ small. (let known = talk.replied small in (
      known.2.0,
      written_then number client is.file (seen ++ first.told) is.ids (seen ++ first.told) (length (seen ++ first.told)) were
          (talks client).answers (answers_to client first.frames) (talks client).commands known.0 known.2.0
          (written_wider number client is.file seen first.told is.ids is.ids (λ id given. given) fresh (talks client).answers
          (talks client).commands known.0 known.1)
          (replies_wider (record { seen = seen; told = seen ++ first.told; ids = is.ids })
          (record { seen = seen ++ first.told; told = seen ++ first.told; ids = is.ids })
          (wide client (seen ++ first.told)) number client is.file (answers_to client first.frames) known.0 known.2.0 known.2.1),
      waiting_wider number client is.file seen first.told is.ids is.ids (λ id given. given) fresh (seen ++ first.told) (seen ++ first.told)
          (λ notice among. among) rest known.2.0 talk.left known.2.2,
    ));
    has = λ node e. desk_wider client number is.file (talks client).ended (view_at seen (first ∷ rest) is.ids)
        (view_at (seen ++ first.told) rest is.ids) node talk.left (wide client (all_told (seen ++ first.told) rest)) (talk.has node e);
  });
}
  where
    fresh : (place id : ℕ) → BeginsAt first.told place id → WasGiven is.ids id → ⊥
    fresh place id begins given = first_tell (first ∷ rest) only place id begins

    wide : (client : ℕ) (told : List Notice) → Widens (record { seen = seen; told = told; ids = is.ids })
        (record { seen = seen ++ first.told; told = told; ids = is.ids })
    wide client told =
        view_wider number client is.file seen first.told is.ids is.ids (λ id given. given) fresh told told (λ notice among. among)

    were : WereTold (seen ++ first.told) (length (seen ++ first.told)) (seen ++ first.told)
    were notice among = (among.0, among.1, slice_get_within (seen ++ first.told) among.0 notice among.1)
