-- A node serves a request.
use Rattle.std.proofs.Common.{◌≡◌, ℕ, suc, ◌<◌, Bool, true, false, eqb, eq-eqb, eqb-true, length, List, [], ◌∷◌, ◌++◌, Option, None, Some}
use Rattle.std.proofs.Common.{IsSome, is_some, get_or, slice_get, refl, sym, subst, ap, ◌∙◌, arith}
use Rattle.std.proofs.lemmas.Option.{same_Some}
use Rattle.layout.specs.Layout.{Layout, IsLawful}
use Rattle.bank.specs.Bank.{Bank}
use Rattle.bank.specs.Serve.{served_bank, reply_to}
use Rattle.bank.specs.declared.reply.Reply.{Reply}
use Rattle.bank.specs.declared.request.Request.{Request}
use Rattle.mail.specs.Message.{answered}
use Rattle.mail.specs.declared.message.Body.TheVariants as body
use Rattle.mail.specs.declared.message.Message.{Message}
use Rattle.soundness.proofs.ListLemmas.{all_get, all_weaker}
use Rattle.record.specs.Fragments.{Code}
use Rattle.network.specs.Worlds.{World, member_bank, known_layouts}
use Rattle.network.specs.Events.{Event, handled_world, served_world, world_after}
use Rattle.letter.specs.declared.letter.Letter.{Letter}
use Rattle.letter.specs.declared.telling.Telling.{Telling}
use Rattle.local_object.specs.declared.kept_bank.KeptBank.{KeptBank}
use Rattle.local_object.specs.ChangedBanks.{kept_bank}
use Rattle.local_object.specs.KeptBanks.{kept_reply}
use Rattle.local_object.specs.Local.{LocalObject, bank_here, bank_in, heard_place, with_bank_here}
use Rattle.local_object.specs.Events.{handled_here, reply_letters}
use Rattle.local_object.specs.Outcomes.{Outcome, letter_of, silent}
use Rattle.local_object.specs.May.{IsAddressed}
use Rattle.local_object.specs.Reports.{told_by}
use Rattle.refinement.specs.Parts.{IsKeptOf, IsPartOf, WasSentAs}
use Rattle.refinement.specs.Refined.{IsRefined, if_replied}
use Rattle.refinement.specs.WellFormed.{HasAsked, IsWellFormed}
use Rattle.starts.proofs.BankRowLemmas.{bank_set_here, bank_set_there, counts_set, has_bank, with_served}
use Rattle.starts.proofs.FinalPointerLemmas.{Keeps, kept_served as final_served}
use Rattle.local_object.proofs.OneMemberLemmas.{one_member}
use Rattle.refinement.proofs.BegunCallLemmas.{ticked}
use Rattle.refinement.proofs.KeptBankLemmas.{kept_as, kept_declined, kept_on, same_as_whole}
use Rattle.refinement.proofs.PartLemmas.{IsKept, refined}
use Rattle.refinement.proofs.StartLemmas.{letter_kept, start_kept}
use Rattle.refinement.proofs.TakenLetterLemmas.{still_kept}
use Rattle.local_object.proofs.UnchangedBankLemmas.{kept_served}
use Rattle.local_object.proofs.ClosingLemmas.{put_back}
use Rattle.local_object.proofs.HeardPlaceLemmas.{bank_with_here, bank_with_there, layout_with}
use Rattle.refinement.proofs.LetterLemmas.{behind, in_front, letter_was_sent}
use Rattle.refinement.proofs.LearntPartLemmas.{known_by_all}

module _ (fragment : Code) (world : World) (local : LocalObject) (letter : Letter) (asked : Request) (formed : IsWellFormed fragment world)
    (part : IsPartOf world local) (was : WasSentAs world letter) (addressed : IsAddressed local letter) where
  -- the layout of the letter's position
  at_position : slice_get (known_layouts world 0) letter.message.position ≡ Some addressed.0
  at_position =
      known_by_all world formed.one local.node letter.message.position addressed.0
      (part.layouts letter.message.position addressed.0 addressed.1)

  within : letter.message.member < length (get_or world.banks letter.message.position [])
  within =
      has_bank world.banks (known_layouts world 0) letter.message.position letter.message.member local.node addressed.0 formed.banks
      at_position addressed.2

  lawful_there : IsLawful addressed.0
  lawful_there = all_get IsLawful (known_layouts world 0) letter.message.position addressed.0 formed.lawful at_position

  -- the layout of a position that is the letter's is that layout
  same_layout : (node q : ℕ) (layout : Layout) → slice_get (known_layouts world node) q ≡ Some layout → letter.message.position ≡ q →
      addressed.0 ≡ layout
  same_layout node q layout at same =
      same_Some addressed.0 layout
      (sym at_position ∙ ap (slice_get (known_layouts world 0)) same ∙ known_by_all world formed.one node q layout at)

  -- the reply of a bank
  abbrev reply_of : Bank → Message
  reply_of bank = answered letter.message (reply_to bank asked 0)

  -- the world after this bank serves the request
  abbrev served_to : Bank → World
  served_to bank = record world {
    banks = with_served world.banks letter.message.position letter.message.member (served_bank bank asked 0);
    sent = world.sent ++ reply_of bank ∷ [];
    now = suc world.now;
  }

  -- what the node keeps of its bank then, if it keeps one
  abbrev kept : Option KeptBank
  kept = kept_bank (bank_in (heard_place local.places letter.message.position)) letter.message.member local.delta asked

  abbrev served_local : LocalObject
  served_local = record local { places = with_bank_here local.places letter.message.position kept }

  abbrev bank : KeptBank
  bank = bank_here local letter.message.position letter.message.member

  -- the world's bank, which the node keeps open or closed
  abbrev whole : Bank
  whole = member_bank world letter.message.position letter.message.member

  -- what the node tells, and the letter with the reply of a bank
  abbrev told : Option Telling
  told = told_by (bank_here served_local letter.message.position letter.message.member) letter.asks_piece

  abbrev reply_letter : Bank → Letter
  reply_letter bank = record (letter_of local false letter.layout (reply_of bank)) { told = told }

  -- final pointers stay
  still_final : Keeps world (served_to whole)
  still_final = final_served world letter.message (body.Request asked)

  kept_of_whole : IsKeptOf whole bank
  kept_of_whole =
      part.banks letter.message.position letter.message.member addressed.0
      (part.layouts letter.message.position addressed.0 addressed.1) addressed.2

  -- the node's own bank is the one that changed, if it answers the request
  own_bank : (reply : Reply) → kept_reply bank asked ≡ Some reply → (q other : ℕ) (layout : Layout) →
      slice_get (known_layouts world local.node) q ≡ Some layout → slice_get layout.members other ≡ Some local.node →
      IsKeptOf (member_bank (served_to whole) q other) (bank_here served_local q other)
  own_bank reply answers q other layout at is = go (eqb letter.message.position q) refl
    where
      here : letter.message.position ≡ q → IsKeptOf (member_bank (served_to whole) q other) (bank_here served_local q other)
      here same =
          let member : letter.message.member ≡ other =
          one_member addressed.0 letter.message.member other local.node lawful_there addressed.2
          (ap (λ (l : Layout). slice_get l.members other) (same_layout local.node q layout at same) ∙ is) in
          kept_as
          (sym (bank_set_here world.banks letter.message.position letter.message.member (served_bank whole asked 0) within)
          ∙ ap (member_bank (served_to whole) letter.message.position) member
          ∙ ap (λ n. member_bank (served_to whole) n other) same)
          (sym (kept_served (bank_in (heard_place local.places letter.message.position)) letter.message.member local.delta asked)
          ∙ sym (bank_with_here local letter.message.position kept letter.message.member (ap is_some addressed.1))
          ∙ ap (bank_here served_local letter.message.position) member
          ∙ ap (λ n. bank_here served_local n other) same)
          (kept_on whole bank asked reply kept_of_whole answers)

      there : (letter.message.position ≡ q → ⊥) → IsKeptOf (member_bank (served_to whole) q other) (bank_here served_local q other)
      there apart =
          kept_as
          (sym (bank_set_there world.banks letter.message.position letter.message.member (served_bank whole asked 0) within
          q other (λ same member. apart same)))
          (sym (bank_with_there local letter.message.position kept q other apart))
          (part.banks q other layout at is)

      go : (b : Bool) → eqb letter.message.position q ≡ b →
          IsKeptOf (member_bank (served_to whole) q other) (bank_here served_local q other)
      go true e = here (eqb-true letter.message.position q e)
      go false e = there (λ same. absurd (let wrong : false ≡ true = sym e ∙ eq-eqb letter.message.position q same in cc))

  served_part : (reply : Reply) → kept_reply bank asked ≡ Some reply → IsPartOf (served_to whole) served_local
  served_part reply answers =
      let position = letter.message.position in record {
        delta = part.delta;
        start = start_kept world (served_to whole) still_final local.start part.start;
        layouts = λ q layout e. part.layouts q layout (sym (layout_with local position kept q) ∙ e);
        first = subst IsSome (sym (layout_with local position kept 0)) part.first;
        banks = own_bank reply answers;
        calls = part.calls;
        mover = λ moves q layout at. layout_with local position kept q ∙ part.mover moves q layout at;
      }

  other_part : (other : LocalObject) → (other.node ≡ local.node → ⊥) → IsPartOf world other → IsPartOf (served_to whole) other
  other_part other apart is = record {
    delta = is.delta;
    start = start_kept world (served_to whole) still_final other.start is.start;
    layouts = is.layouts;
    first = is.first;
    banks = λ q member layout at holds.
        kept_as
        (sym (bank_set_there world.banks letter.message.position letter.message.member (served_bank whole asked 0) within
        q member
        (λ same here. apart (same_Some other.node local.node
        (sym holds ∙ ap (λ (l : Layout). slice_get l.members member) (sym (same_layout other.node q layout at same))
        ∙ ap (slice_get addressed.0.members) (sym here) ∙ addressed.2)))))
        refl (is.banks q member layout at holds);
    calls = is.calls;
    mover = is.mover;
  }

  served_with : (reply : Reply) → kept_reply bank asked ≡ Some reply →
      IsKept fragment world (served_to whole)
      (record { local = served_local; sent = reply_letter whole ∷ [] }) 1 world.history
  served_with reply answers = record {
    formed = record {
      one = formed.one;
      lawful = formed.lawful;
      banks = counts_set world.banks letter.message.position letter.message.member (served_bank whole asked 0) ∙ formed.banks;
      ids = formed.ids;
      entries = formed.entries;
      asked = all_weaker (HasAsked fragment world) (HasAsked fragment (served_to whole)) (λ call has. record {
        layout = has.layout;
        at = has.at;
        asked = λ place message at.
            let was = has.asked place message at in (was.0, in_front world.sent (reply_of whole ∷ []) was.0 message was.1);
      }) world.calls formed.asked;
    };
    part = served_part reply answers;
    sent = (
      letter_was_sent (served_to whole) local false told letter.layout (reply_of whole)
          (behind world.sent (reply_of whole ∷ []) 0 (reply_of whole) refl)
          was.layout (start_kept world (served_to whole) still_final local.start part.start)
          (λ q layout e. known_by_all world formed.one local.node q layout (part.layouts q layout e)),
      tt,
    );
    others = other_part;
    kept = letter_kept world (served_to whole) still_final
        (λ message was. (was.0, in_front world.sent (reply_of whole ∷ []) was.0 message was.1));
    files = refl;
    now = omega arith;
    entries = refl;
  }

  -- after the node served a request, and sent letters
  abbrev answered_here : List Letter → Outcome
  answered_here sent = record { local = served_local; sent = sent }

  served_kept : (reply : Reply) → kept_reply bank asked ≡ Some reply →
      IsKept fragment world (handled_world (ticked world) letter.message asked)
      (answered_here (reply_letters local letter told (Some reply))) 1 world.history
  served_kept reply answers =
      subst (λ r. IsKept fragment world (served_to whole)
      (answered_here (reply_letters local letter told (Some r))) 1 world.history)
      (sym (same_as_whole whole bank asked reply kept_of_whole answers)) (served_with reply answers)

  -- a request that the bank declines changes nothing
  declined_here : kept_reply bank asked ≡ None → served_local ≡ local
  declined_here declines =
      let old = bank_in (heard_place local.places letter.message.position) in
      ap (λ o. record local { places = with_bank_here local.places letter.message.position o })
      (kept_declined old letter.message.member local.delta asked declines)
      ∙ ap (λ ps. record local { places = ps }) (put_back local.places letter.message.position)

  abbrev IsRequestOfWorld : List Event → Outcome → Type 0
  IsRequestOfWorld events outcome =
      IsRefined fragment world events outcome × ((world_after fragment events world).history ≡ world.history)

  pub request_refined : letter.message.body ≡ body.Request asked →
      IsRequestOfWorld (if_replied (kept_reply bank asked) (Event.Serve letter.message)) (handled_here local letter asked)
  request_refined is = go (kept_reply bank asked) refl
    where
      go : (o : Option Reply) → kept_reply bank asked ≡ o →
          IsRequestOfWorld (if_replied o (Event.Serve letter.message)) (answered_here (reply_letters local letter told o))
      go None e =
          refined fragment world [] world (silent local) (answered_here []) world.history refl (ap silent (sym (declined_here e))) tt
          (still_kept fragment world local formed part)
      go (Some reply) e =
          refined fragment world (Event.Serve letter.message ∷ []) (handled_world (ticked world) letter.message asked)
          (answered_here (reply_letters local letter told (Some reply))) (answered_here (reply_letters local letter told (Some reply)))
          world.history (ap (served_world (ticked world) letter.message) (sym is)) refl
          ((asked, is), record { network = was.sent; log = tt; ids = tt }, tt) (served_kept reply e)
