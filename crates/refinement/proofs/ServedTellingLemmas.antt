-- What a node tells with its reply to a request is true in the course.
use Rattle.std.proofs.Common.{◌≡◌, ◌⊎◌, ℕ, Bool, true, false, cond, inl, inr, List, [], ◌∷◌, Option, None, Some}
use Rattle.std.proofs.Common.{refl, sym, subst, ap, ◌∙◌}
use Rattle.std.specs.List.{AllByRecursion}
use Rattle.std.proofs.lemmas.Option.{same_Some}
use Rattle.bank.specs.Bank.{Bank, piece_of}
use Rattle.bank.specs.Floor.{is_forgotten, remembered}
use Rattle.bank.specs.Serve.{greatest_final}
use Rattle.bank.specs.declared.reply.Reply.{Reply}
use Rattle.bank.specs.declared.request.Request.{Request}
use Rattle.bank.proofs.RememberedReplyLemmas.{greatest-remembered, piece_of-remembered}
use Rattle.record.specs.Fragments.{Code}
use Rattle.letter.specs.Tellings.{SaysNoMore, telling_of}
use Rattle.letter.specs.declared.letter.Letter.{Letter}
use Rattle.letter.specs.declared.telling.Telling.{Telling}
use Rattle.network.specs.Events.{Event, happens, world_after}
use Rattle.network.specs.Worlds.{World, member_bank}
use Rattle.local_object.specs.declared.kept_bank.KeptBank.{KeptBank}
use Rattle.local_object.specs.declared.kept_bank.KeptBank.TheVariants as kept
use Rattle.local_object.specs.ChangedBanks.{kept_bank}
use Rattle.local_object.specs.Events.{LocalEvent, done_here, handled_here, reply_letters, served_here}
use Rattle.local_object.specs.KeptBanks.{kept_reply}
use Rattle.local_object.specs.Local.{LocalObject, bank_here, bank_in, heard_place}
use Rattle.local_object.specs.May.{MayHappenHere}
use Rattle.local_object.specs.Outcomes.{learnt_from}
use Rattle.local_object.specs.Reports.{piece_if, telling_if, told_by}
use Rattle.local_object.proofs.HeardLayoutLemmas.{bank_here_heard}
use Rattle.local_object.proofs.HeardPlaceLemmas.{layout_with}
use Rattle.told_replies.specs.Tellings.{world_of}
use Rattle.told_queries.specs.Courses.{Course, Turn, run_of}
use Rattle.refinement.specs.Parts.{IsKeptOf, IsPartOf, WasSentAs}
use Rattle.refinement.specs.Refined.{if_replied, served_events, world_events}
use Rattle.refinement.specs.ToldLetters.{TellsTruth}
use Rattle.refinement.specs.WellFormed.{IsWellFormed}
use Rattle.refinement.proofs.EarlyRunLemmas.{course_longer}
use Rattle.refinement.proofs.ServedRequestLemmas.{serve_refined}

-- What a node tells of a bank

-- the piece of a tag that a bank remembers is the one that it had, or none
left_piece : (whole : Bank) (asks : Bool) →
    (piece_if asks (remembered whole) ≡ None) ⊎ (piece_if asks (remembered whole) ≡ piece_of whole (greatest_final whole))
left_piece whole false = inl refl
left_piece whole true =
    let tag = greatest_final whole in
    let same = ap (piece_of (remembered whole)) (greatest-remembered whole) ∙ piece_of-remembered whole tag in
    go (is_forgotten whole tag) same
  where
    go : (forgotten : Bool) → piece_if true (remembered whole) ≡ cond forgotten None (piece_of whole (greatest_final whole)) →
        (piece_if true (remembered whole) ≡ None) ⊎ (piece_if true (remembered whole) ≡ piece_of whole (greatest_final whole))
    go true e = inl e
    go false e = inr e

-- what is told of a bank that is kept says no more than what the whole bank tells
kept_tells : (whole : Bank) (bank : KeptBank) (asks : Bool) (telling : Telling) → IsKeptOf whole bank →
    told_by bank asks ≡ Some telling → SaysNoMore telling (telling_of whole)
kept_tells whole (kept.Closed closed) asks telling is told = absurd (cc)
kept_tells whole (kept.Open bank) asks telling is told =
    subst (λ t. SaysNoMore t (telling_of whole)) (same_Some (telling_if asks bank) telling told)
    (subst (λ (b : Bank). SaysNoMore (telling_if asks b) (telling_of whole)) is
    (record { status = refl; greatest = greatest-remembered whole; piece = left_piece whole asks }))

-- A node serves a letter

module _ (fragment : Code) (course : Course) (local : LocalObject) (letter : Letter)
    (formed : IsWellFormed fragment (world_of fragment (run_of course))) (part : IsPartOf (world_of fragment (run_of course)) local)
    (may : MayHappenHere fragment local (LocalEvent.Serve letter)) (was : WasSentAs (world_of fragment (run_of course)) letter) where
  abbrev world : World
  world = world_of fragment (run_of course)

  abbrev learnt : LocalObject
  learnt = learnt_from local letter

  abbrev asked : Request
  asked = may.0.0

  abbrev place : ℕ
  place = letter.message.position

  abbrev member : ℕ
  member = letter.message.member

  abbrev after : LocalObject
  after = (handled_here learnt letter asked).local

  -- what the node keeps then is its part of the world after these events
  abbrev IsPartAfter : List Event → LocalObject → Type 0
  IsPartAfter events then = IsPartOf (world_after fragment events world) then

  part_after : (reply : Reply) → kept_reply (bank_here learnt place member) asked ≡ Some reply →
      IsPartAfter (Event.Serve letter.message ∷ []) after
  part_after reply answers =
      let served = serve_refined letter fragment world local formed part may was in
      subst (λ o. IsPartAfter (if_replied o (Event.Serve letter.message)) after)
      (ap (λ bank. kept_reply bank asked) (sym (bank_here_heard local letter place member)) ∙ answers)
      (subst (λ b. IsPartAfter (served_events local letter b) (served_here learnt letter b).local) may.0.1 served.0.part)

  -- so it keeps its bank as the world has it then
  kept_then : (reply : Reply) → kept_reply (bank_here learnt place member) asked ≡ Some reply →
      IsKeptOf (member_bank (happens fragment world (Event.Serve letter.message)) place member)
      (bank_here after place member)
  kept_then reply answers =
      let is = part_after reply answers in
      let bank = kept_bank (bank_in (heard_place learnt.places place)) member learnt.delta asked in
      is.banks place member may.1.0 (is.layouts place may.1.0 (layout_with learnt place bank place ∙ may.1.1)) may.1.2

  -- in a turn about the call of the letter
  module _ (turn : Turn) (about : turn.call ≡ letter.message.call) where
    abbrev Tell : List Letter → Type 0
    Tell letters = AllByRecursion (TellsTruth fragment (course_longer course turn)) letters

    replies_tell : (o : Option Reply) → kept_reply (bank_here learnt place member) asked ≡ o →
        turn.acts ≡ if_replied o (Event.Serve letter.message) →
        Tell (reply_letters learnt letter (told_by (bank_here after place member) letter.asks_piece) o)
    replies_tell None e acts = tt
    replies_tell (Some reply) e acts = (
      λ telling told. (
        record {
          request = letter.message;
          whole = telling_of (member_bank (happens fragment world (Event.Serve letter.message)) place member);
          told = record {
            before = course.turns;
            turn = turn;
            after = [];
            split = refl;
            about = about;
            serves = acts;
            tells = refl;
          };
          less = kept_tells (member_bank (happens fragment world (Event.Serve letter.message)) place member)
              (bank_here after place member) letter.asks_piece telling (kept_then reply e) told;
          same_call = refl;
          same_phase = refl;
          same_member = refl;
        },
        refl,
      ),
      tt,
    )

    pub served_tell : turn.acts ≡ world_events local (LocalEvent.Serve letter) →
        Tell (done_here fragment local (LocalEvent.Serve letter)).sent
    served_tell acts =
        subst (λ b. Tell (served_here learnt letter b).sent) (sym may.0.1)
        (replies_tell (kept_reply (bank_here learnt place member) asked) refl
        (acts ∙ ap (served_events local letter) may.0.1
        ∙ ap (λ bank. if_replied (kept_reply bank asked) (Event.Serve letter.message)) (sym (bank_here_heard local letter place member))))
