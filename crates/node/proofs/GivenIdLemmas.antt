-- The ids that are used for services, one after another.
use Rattle.std.proofs.Common.{◌≡◌, ◌^◌, ℕ, Bool, true, false, not, cond, List, [], ◌∷◌, ◌++◌, Option, None, Some, nat_lt}
use Rattle.std.proofs.Common.{refl, sym, subst, ap, ◌∙◌}
use Rattle.std.specs.Prelude.{nat_le}
use Rattle.std.specs.List.{count_by}
use Rattle.cluster_file.specs.File.{FileContents}
use Rattle.layout.specs.Layout.{Layout, quorum_of}
use Rattle.client_commands.specs.declared.answer.Answer.{Answer}
use Rattle.client_commands.specs.declared.answer.Answer.TheVariants as answers
use Rattle.client_commands.specs.declared.answer.AnswerError.{AnswerError}
use Rattle.client_commands.specs.declared.answer.AnswerError.TheVariants as errors
use Rattle.deeds.specs.CallId.{CallIds, after_given, with_next_epoch}
use Rattle.node_strings.specs.declared.heard.Heard.{Heard}
use Rattle.node_clients.specs.Services.{Service}
use Rattle.node_clients.proofs.EndLemmas.{IsEnding}
use Rattle.node_keeper.specs.NextIds.{after_next_id, next_id_of}
use Rattle.node_keeper.proofs.IdLemmas.{begun_node, next_is_node}
use Rattle.node.specs.GivenIds.{UseIds, UsesIdIf, UsesIds, is_refusal}
use Rattle.node.specs.Moves.{first_not_heard, first_stranger, heard_fault, hears, move_fault, moves_objects, not_heard, stranger_or}
use Rattle.node.specs.Moves.{told_fault}

-- The number of the node

pub after_node : (ids : CallIds) → (after_next_id ids).node ≡ ids.node
after_node ids = next_is_node (cond here ids (with_next_epoch ids)) ∙ go here
  where
    here : Bool
    here = nat_lt ids.given (2 ^ 32)

    go : (b : Bool) → (cond b ids (with_next_epoch ids)).node ≡ ids.node
    go true = refl
    go false = begun_node ids

if_node : (refused : Bool) (before after : CallIds) → UsesIdIf refused before after → after.node ≡ before.node
if_node true before after uses = ap (λ (i : CallIds). i.node) uses.2 ∙ after_node before
if_node false before after same = ap (λ (i : CallIds). i.node) same

pub uses_node : (before after : CallIds) (service : Service) → UsesIds before service after → after.node ≡ before.node
uses_node before after (Service.Begins client command id) uses = ap (λ (i : CallIds). i.node) uses.1 ∙ after_node before
uses_node before after (Service.Replies client command answer) uses = if_node (is_refusal answer) before after uses
uses_node before after (Service.Arrives client command) same = ap (λ (i : CallIds). i.node) same
uses_node before after (Service.Leaves client) same = ap (λ (i : CallIds). i.node) same
uses_node before after (Service.Quits client) same = ap (λ (i : CallIds). i.node) same
uses_node before after (Service.Ends name ended answer told) same = ap (λ (i : CallIds). i.node) same
uses_node before after (Service.Passes name ended client rest) same = ap (λ (i : CallIds). i.node) same
uses_node before after (Service.Ages id) same = ap (λ (i : CallIds). i.node) same
uses_node before after (Service.GivesUp id told) same = ap (λ (i : CallIds). i.node) same
uses_node before after (Service.Releases id told) same = ap (λ (i : CallIds). i.node) same

-- Services, one after another

pub one_used : (before after : CallIds) (service : Service) → UsesIds before service after → UseIds before (service ∷ []) after
one_used before after service uses = (after, uses, refl)

pub used_then : (a b c : CallIds) (first second : List Service) → UseIds a first b → UseIds b second c → UseIds a (first ++ second) c
used_then a b c [] second same rest = subst (λ i. UseIds i second c) same rest
used_then a b c (service ∷ first) second uses rest = (uses.0, uses.1, used_then uses.0 b c first second uses.2 rest)

-- the end of a call uses no id
pub ending_uses : (before after : CallIds) (service : Service) → IsEnding service → after ≡ before → UsesIds before service after
ending_uses before after (Service.Ends name ended answer told) ending same = same
ending_uses before after (Service.Passes name ended client rest) ending same = same
ending_uses before after (Service.Arrives client command) ending same = absurd ending
ending_uses before after (Service.Leaves client) ending same = absurd ending
ending_uses before after (Service.Begins client command id) ending same = absurd ending
ending_uses before after (Service.Replies client command answer) ending same = absurd ending
ending_uses before after (Service.Quits client) ending same = absurd ending
ending_uses before after (Service.Ages id) ending same = absurd ending
ending_uses before after (Service.GivesUp id told) ending same = absurd ending
ending_uses before after (Service.Releases id told) ending same = absurd ending

-- Answers

-- an answer that is no refusal uses no id
pub reply_uses_none : (ids : CallIds) (answer : Answer) → is_refusal answer ≡ false → UsesIdIf (is_refusal answer) ids ids
reply_uses_none ids answer none = subst (λ b. UsesIdIf b ids ids) (sym none) refl

-- the fault of a move is no refusal by an object
module _ (error : AnswerError) where
  abbrev IsNone : Option AnswerError → Type 0
  IsNone o = o ≡ Some error → is_refusal (answers.Error error) ≡ false

  not_heard_none : (o : Option ℕ) → IsNone (not_heard o)
  not_heard_none None e = absurd (cc)
  not_heard_none (Some node) e =
      let same : errors.TooFewHeard node ≡ error = cc in subst (λ x. is_refusal (answers.Error x) ≡ false) same refl

  told_none : (number : ℕ) (told : Option Heard) (layout : Layout) → IsNone (told_fault number told layout)
  told_none number None layout e = absurd (cc)
  told_none number (Some heard) layout e = go (nat_le (quorum_of layout) (count_by (hears number heard) layout.members)) e
    where
      go : (b : Bool) → IsNone (cond b None (not_heard (first_not_heard number heard layout)))
      go true e = absurd (cc)
      go false e = not_heard_none (first_not_heard number heard layout) e

  stranger_none : (o : Option ℕ) (other : Option AnswerError) → IsNone other → IsNone (stranger_or o other)
  stranger_none None other none e = none e
  stranger_none (Some node) other none e =
      let same : errors.NoSuchNode node ≡ error = cc in subst (λ x. is_refusal (answers.Error x) ≡ false) same refl

  pub fault_is_none : (number : ℕ) (file : FileContents) (told : Option Heard) (layout : Layout) →
      move_fault number file told layout ≡ Some error → is_refusal (answers.Error error) ≡ false
  fault_is_none number file told layout = go (moves_objects number file)
    where
      go : (b : Bool) → IsNone (cond (not b) (Some errors.NotMover)
          (stranger_or (first_stranger file layout) (told_fault number told layout)))
      go true e = stranger_none (first_stranger file layout) (told_fault number told layout) (told_none number told layout) e
      go false e =
          let same : errors.NotMover ≡ error = cc in subst (λ x. is_refusal (answers.Error x) ≡ false) same refl
