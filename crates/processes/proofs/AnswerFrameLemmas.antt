-- Which frames are answers to a client.
use Rattle.std.proofs.Common.{◌≡◌, ◌<◌, ◌^◌, ℕ, Bool, true, false, cond}
use Rattle.std.proofs.Common.{List, [], ◌∷◌, ◌++◌, refl, sym, subst, ap, codes, decimal}
use Rattle.std.specs.Str.{bytes_eq}
use Rattle.std.proofs.lemmas.Fmt.{decimal_injective}
use Rattle.std.proofs.lemmas.List.{append_cancel_left}
use Rattle.std.proofs.lemmas.Slice.Eq.{bytes_eq-Decides}
use Rattle.client_commands.specs.Answers.{sent_strings}
use Rattle.client_commands.specs.declared.answer.Answer.{Answer}
use Rattle.client_commands.specs.declared.answer.Answer.TheVariants as answers
use Rattle.node_clients.specs.Answers.{answer_frame}
use Rattle.node_strings.specs.Arrival.{client_address}
use Rattle.node_strings.specs.Strings.{Strings}
use Rattle.processes.specs.Answers.{answer_to, answers_to}

sent_some : (answer : Answer) → (first : List ℕ) × (rest : Strings) × (sent_strings answer ≡ first ∷ rest)
sent_some answers.Ok = (_, _, refl)
sent_some answers.Pong = (_, _, refl)
sent_some (answers.Value value) = (_, _, refl)
sent_some answers.Nil = (_, _, refl)
sent_some (answers.Number n) = (_, _, refl)
sent_some answers.NoCommands = (_, _, refl)
sent_some (answers.Page next names) = (_, _, refl)
sent_some (answers.Greeting id) = (_, _, refl)
sent_some (answers.Error error) = (_, _, refl)

same_address : (client : ℕ) → bytes_eq (client_address client) (client_address client) ≡ true
same_address client = (bytes_eq-Decides (client_address client) (client_address client)).1 refl

other_address : (client other : ℕ) → client < 2 ^ 64 → other < 2 ^ 64 → (other ≡ client → ⊥) →
    bytes_eq (client_address other) (client_address client) ≡ false
other_address client other small also differ = go (bytes_eq (client_address other) (client_address client)) refl
  where
    go : (b : Bool) → bytes_eq (client_address other) (client_address client) ≡ b → b ≡ false
    go false e = refl
    go true e =
        let same = (bytes_eq-Decides (client_address other) (client_address client)).0 e in
        absurd (differ (decimal_injective other client also small
        (append_cancel_left (codes "client ") (decimal other) (decimal client) same)))

module _ (client : ℕ) where
  -- behind the client's own address is an answer to it
  mine_behind : (strings : Strings) (first : List ℕ) (rest : Strings) → strings ≡ first ∷ rest →
      answer_to client (client_address client ∷ strings) ≡ strings ∷ []
  mine_behind strings first rest e =
      subst (λ s. answer_to client (client_address client ∷ s) ≡ s ∷ []) (sym e)
      (ap (λ b. cond b ((first ∷ rest) ∷ []) []) (same_address client))

  -- behind another one is none
  none_behind : (address : List ℕ) (strings : Strings) → bytes_eq address (client_address client) ≡ false →
      answer_to client (address ∷ strings) ≡ []
  none_behind address [] e = refl
  none_behind address (first ∷ rest) e = ap (λ b. cond b ((first ∷ rest) ∷ []) []) e

  pub mine_sent : (answer : Answer) → answers_to client (answer_frame client answer ∷ []) ≡ sent_strings answer ∷ []
  mine_sent answer =
      let some = sent_some answer in
      ap (λ xs. xs ++ []) (mine_behind (sent_strings answer) some.0 some.1 some.2)

  pub other_sent : (other : ℕ) (answer : Answer) → client < 2 ^ 64 → other < 2 ^ 64 → (other ≡ client → ⊥) →
      answers_to client (answer_frame other answer ∷ []) ≡ []
  other_sent other answer small also differ =
      ap (λ xs. xs ++ []) (none_behind (client_address other) (sent_strings answer) (other_address client other small also differ))
