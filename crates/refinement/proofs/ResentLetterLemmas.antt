-- A node sends letters again.
use Rattle.std.proofs.Common.{◌≡◌, ℕ, List, Option, Some, None, option_map, slice_get, refl, sym, subst, ap, ◌∙◌}
use Rattle.std.proofs.lemmas.Option.{same_Some, slice_get-map}
use Rattle.mail.specs.declared.message.Message.{Message}
use Rattle.soundness.proofs.ListLemmas.{all_get}
use Rattle.network.specs.Worlds.{known_layouts}
use Rattle.open_calls.proofs.OpenCallLemmas.{found}
use Rattle.letter.specs.declared.letter.Letter.{Letter}
use Rattle.local_object.specs.Events.{pieces_here}
use Rattle.local_object.specs.Outcomes.{letter_of}
use Rattle.local_object.specs.Sent.{asks_piece}
use Rattle.refinement.specs.Laws.{ResentLettersWereSent}
use Rattle.refinement.specs.Parts.{WasSentAs}
use Rattle.refinement.specs.WellFormed.{HasAsked, current_requests}
use Rattle.refinement.proofs.ChangedCallLemmas.{carried}
use Rattle.refinement.proofs.LetterLemmas.{letter_was_sent, requests_speak}
use Rattle.refinement.proofs.LearntPartLemmas.{known_by_all}

-- the message of a letter among those made of messages
message_there : (f : Message → Letter) (messages : List Message) (place : ℕ) (letter : Letter) →
    option_map f (slice_get messages place) ≡ Some letter →
    (message : Message) × (slice_get messages place ≡ Some message) × (f message ≡ letter)
message_there f messages place letter e = go (slice_get messages place) e
  where
    go : (o : Option Message) → option_map f o ≡ Some letter → (message : Message) × (o ≡ Some message) × (f message ≡ letter)
    go None is = absurd (cc)
    go (Some message) is = (message, refl, same_Some (f message) letter is)

pub letters_sent : ResentLettersWereSent
letters_sent fragment world local letter formed part again =
    let call = again.call in
    let layout = again.layout in
    let position = call.phase.position in
    let asks = asks_piece call.kind call.stage in
    let is = carried fragment world local again.id call formed part again.carried in
    let has = (found (HasAsked fragment world) world.calls again.id call formed.asked is.open_there).0 in
    let known = known_by_all world formed.one local.node position layout (part.layouts position layout again.known) in
    let same : has.layout ≡ layout = same_Some has.layout layout (sym has.at ∙ known) in
    let messages = current_requests fragment layout call in
    let there = message_there (letter_of local asks layout) messages again.place letter
    (sym (slice_get-map (letter_of local asks layout) messages again.place) ∙ again.at) in
    let sent = has.asked again.place there.0
    (ap (λ l. slice_get (current_requests fragment l call) again.place) same ∙ there.1) in
    let speaks = all_get (λ (message : Message). slice_get (known_layouts world 0) message.position ≡ Some layout) messages
    again.place there.0
    (requests_speak (λ p. slice_get (known_layouts world 0) p ≡ Some layout) call.id call.phase.number call.phase.kind position
    layout.members 0 (pieces_here fragment layout call) known) there.1 in
    subst (WasSentAs world) there.2
    (letter_was_sent world local asks None layout there.0 sent speaks part.start
    (λ p other e. known_by_all world formed.one local.node p other (part.layouts p other e)))
