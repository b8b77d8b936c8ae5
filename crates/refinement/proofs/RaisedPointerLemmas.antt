-- A node raises the pointer of its bank to final. In the world, it serves a request to do so, which was sent to it.
use Rattle.std.proofs.Common.{◌≡◌, ℕ, false, length, Option, None, Some, IsSome, slice_get, refl, subst, ap}
use Rattle.layout.specs.Layout.{Layout}
use Rattle.bank.specs.declared.reply.Reply.{Reply}
use Rattle.bank.specs.declared.request.Request.{Request}
use Rattle.bank.specs.declared.request.Request.TheVariants as request
use Rattle.bank.specs.declared.status.Status.TheVariants as status
use Rattle.network.specs.Worlds.{World, known_layouts}
use Rattle.network.specs.Events.{Event}
use Rattle.starts.specs.Starts.{WasAskedToRaise, raise_request}
use Rattle.letter.specs.declared.letter.Letter.{Letter}
use Rattle.local_object.specs.declared.kept_bank.KeptBank.{KeptBank}
use Rattle.local_object.specs.declared.kept_bank.KeptBank.TheVariants as kept
use Rattle.local_object.specs.ChangedBanks.{kept_bank}
use Rattle.local_object.specs.KeptBanks.{after_raising, kept_reply}
use Rattle.local_object.specs.Local.{bank_here, bank_in, heard_place, with_bank_here}
use Rattle.local_object.specs.Events.{LocalEvent, handled_here, raised_here}
use Rattle.refinement.specs.Laws.{IsEventOfWorld}
use Rattle.refinement.specs.Parts.{IsPartOf, WasSentAs}
use Rattle.refinement.specs.Refined.{if_replied}
use Rattle.refinement.proofs.LearntPartLemmas.{known_by_all}
use Rattle.refinement.proofs.ServedLetterLemmas.{request_refined}

-- what is asked
abbrev asked : Request
asked = request.Spread status.Final

-- an open bank replies to the request, and a closed one too
raise_replied : (bank : KeptBank) → IsSome (kept_reply bank asked)
raise_replied (kept.Open bank) = refl
raise_replied (kept.Closed closed) = refl

one_event : (reply : Option Reply) (event : Event) → IsSome reply → length (if_replied reply event) ≡ 1
one_event None event some = absurd (cc)
one_event (Some reply) event some = refl

-- what the node keeps of a bank is the same as after it served the request
raised_as_served : (bank : Option KeptBank) (member : ℕ) (delta : Option ℕ) → IsSome bank →
    kept_bank bank member delta asked ≡ after_raising bank
raised_as_served None member delta some = absurd (cc)
raised_as_served (Some bank) member delta some = refl

-- the letter with the request, as it may have been sent
abbrev letter_asking : Layout → (call phase position member : ℕ) → Letter
letter_asking layout call phase position member =
    let message = raise_request call phase position member in
    record { layout = layout; next = None; start = None; asks_piece = false; told = None; message = message }

letter_was_asked : (world : World) (layout : Layout) (position member : ℕ) (was : WasAskedToRaise world position member) →
    slice_get (known_layouts world 0) position ≡ Some layout →
    WasSentAs world (letter_asking layout was.call was.phase position member)
letter_was_asked world layout position member was at = record {
  sent = was.sent;
  layout = at;
  next = λ next e. absurd (cc);
  start = λ start e. absurd (cc);
}

pub raise_has_events : (position : ℕ) → IsEventOfWorld (LocalEvent.Raise position)
raise_has_events position fragment world local formed part may premised =
    let member = may.member in
    let was = premised member may.layout may.known may.server in
    let letter = letter_asking may.layout was.call was.phase position member in
    let at = known_by_all world formed.one local.node position may.layout (part.layouts position may.layout may.known) in
    let served = request_refined fragment world local letter asked formed part
    (letter_was_asked world may.layout position member was at) (may.layout, may.known, may.server) refl in
    let reply = kept_reply (bank_here local position member) asked in
    let same : (handled_here local letter asked).local ≡ raised_here local position =
    ap (λ o. record local { places = with_bank_here local.places position o })
    (raised_as_served (bank_in (heard_place local.places position)) member local.delta may.bank) in record {
      events = if_replied reply (Event.Serve letter.message);
      number = one_event reply (Event.Serve letter.message) (raise_replied (bank_here local position member));
      refined = record {
        may = served.0.may;
        formed = served.0.formed;
        part = subst (IsPartOf _) same served.0.part;
        sent = tt;
        others = served.0.others;
        kept = served.0.kept;
        files = served.0.files;
        now = served.0.now;
      };
      entries = served.1;
    }
