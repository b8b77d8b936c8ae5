-- The letters that come to a node were sent.
use Rattle.std.proofs.Common.{◌≡◌, ℕ, Bool, true, false, cond, List, [], ◌∷◌}
use Rattle.std.proofs.Common.{Option, None, Some, Result, sym, subst, ap, ◌∙◌}
use Rattle.std.specs.List.{AllByRecursion}
use Rattle.deeds.specs.Named.{NamedLetter as Named, IsOneOf}
use Rattle.open_calls.proofs.ListLemmas.{all_at}
use Rattle.node_messages.specs.Reading.{message_from}
use Rattle.node_messages.specs.Strings.{strings_of}
use Rattle.node_messages.specs.declared.error.Fault.{Fault}
use Rattle.node_messages.specs.declared.message.NodeMessage.{NodeMessage}
use Rattle.node_messages.proofs.MessageLemmas.{message_again}
use Rattle.node_strings.specs.Arrival.{node_address}
use Rattle.node_strings.specs.Strings.{Strings}
use Rattle.node_strings.specs.declared.arrival.Arrival.{Arrival}
use Rattle.node_strings.specs.declared.arrival.Arrival.TheVariants as came
use Rattle.node_effects.specs.Seen.{named_of}
use Rattle.node_keeper.specs.Keeping.{heeds, kept_of}
use Rattle.node_keeper.specs.Sendings.{frame_to, message_of}
use Rattle.node_keeper.specs.declared.keeper.Keeper.{Keeper}
use Rattle.node.specs.Frames.{is_admitted, letter_if_any, letter_if_read}
use Rattle.processes.specs.Events.{WasWritten}
use Rattle.processes.specs.Processes.{Processes, SentFrame}
use Rattle.processes.specs.Letters.{IsCarried}

module _ (letters : List Named) (keeper : Keeper) where
  -- a frame with one of the letters gives the node this letter, or none
  frame_letters : (sender : ℕ) (strings : Strings) (address : List ℕ) → IsCarried letters (address ∷ strings) →
      AllByRecursion (IsOneOf letters) (letter_if_read keeper sender (message_from strings))
  frame_letters sender strings address carried =
      subst (λ (r : Result NodeMessage Fault). AllByRecursion (IsOneOf letters) (letter_if_read keeper sender r))
      (sym (ap message_from (same carried.whole) ∙ message_again sent carried.message))
      (admitted (is_admitted keeper sender sent) (heeds (kept_of keeper) (named_of sent.named)))
    where
      sent : NodeMessage
      sent = message_of carried.digest carried.send.it

      same : address ∷ strings ≡ frame_to carried.digest carried.send → strings ≡ strings_of sent
      same e = cc

      admitted : (b c : Bool) →
          AllByRecursion (IsOneOf letters) (cond b (cond c (named_of carried.send.it ∷ []) []) [])
      admitted true true = (carried.one, tt)
      admitted true false = tt
      admitted false c = tt

  -- whatever comes, a node hears only letters that were sent
  pub came_sent : (processes : Processes) (number : ℕ) (o : Option Arrival) → WasWritten processes number o →
      AllByRecursion (λ (it : SentFrame). IsCarried letters it.frame) processes.sent →
      AllByRecursion (IsOneOf letters) (letter_if_any keeper o)
  came_sent processes number None written sent = tt
  came_sent processes number (Some (came.Message sender strings)) written sent =
      frame_letters sender strings (node_address number)
      (all_at (λ (it : SentFrame). IsCarried letters it.frame) processes.sent written.0
      (record { sender = sender; frame = node_address number ∷ strings }) sent written.1)
  came_sent processes number (Some (came.Command client frame)) written sent = tt
  came_sent processes number (Some (came.Left client)) written sent = tt
  came_sent processes number (Some (came.Tick heard)) written sent = tt
