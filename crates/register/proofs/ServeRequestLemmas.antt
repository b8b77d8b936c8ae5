-- A member serves a request.
use Rattle.std.proofs.Common.{◌≡◌, ℕ, ◌+◌, ◌-◌, ◌<◌, ◌≤◌, ◌^◌, Bool, true, false, cond, is_some, List, [], length, get_or, set, slice_get}
use Rattle.std.proofs.Common.{Option, Some, None, sym, ap, subst, ◌∙◌, refl, arith}
use Rattle.tag.specs.declared.limits.TheConstants.{LONGEST_VALUE, MOST_BYTES, MOST_MESSAGES, MOST_POSITIONS}
use Rattle.tag.specs.declared.tag.Tag.{Tag}
use Rattle.layout.specs.Layout.{Layout}
use Rattle.encoder.specs.Fragment.{fragment}
use Rattle.piece.specs.declared.piece.Piece.{Piece}
use Rattle.bank.specs.Bank.{Bank, knows, piece_of, piece_of_row}
use Rattle.bank.specs.Bytes.{bank_bytes, added_bytes}
use Rattle.bank.specs.Answer.{answer_bytes}
use Rattle.bank.specs.Collect.{is_outside}
use Rattle.bank.specs.Knowledge.{arrived_at}
use Rattle.bank.specs.Serve.{served_bank, reply_to, answer_to}
use Rattle.bank.specs.declared.request.Request.{Request}
use Rattle.bank.specs.declared.reply.Answer.TheVariants as answer
use Rattle.std.proofs.lemmas.Option.{slice_get_read, slice_get_within, get_or_from_slice_get}
use Rattle.bank.specs.declared.row.Row.{Row}
use Rattle.std.specs.FinMap as finmap
use Rattle.bank.specs.declared.request.Request.TheVariants as request
use Rattle.bank.proofs.BankBytesLemmas.{served_bytes}
use Rattle.mail.specs.declared.message.Message.{Message}
use Rattle.mail.specs.declared.message.Body.TheVariants as body
use Rattle.mail.specs.Message.{request_bytes, answered}
use Rattle.mail.specs.Mail.{mail_bytes, replied, replied_message}
use Rattle.record.specs.Records.{Call, Object, bank_at, no_bank, retired_first}
use Rattle.soundness.specs.Sound.{IsSound}
use Rattle.soundness.proofs.Sound.ServedBankLemmas.{served-retired}
use Rattle.record.specs.Steps.{Step}
use Rattle.register.specs.Position.{Position, layouts_of, banks_of, banks_bytes, all_bytes}
use Rattle.register.specs.State.{Contents, object_of, state_of, made}
use Rattle.register.specs.Kept.{IsKept}
use Rattle.std.proofs.lemmas.List.{map-set}
use Rattle.soundness.proofs.Sound.TakenReplyLemmas.{set_same}
use Rattle.register.proofs.ListLemmas.{same_some, found_map, sum_put}
use Rattle.register.proofs.FirstReadingLemmas.{first_set, member_set}
use Rattle.register.proofs.ListLemmas.{sum_at}
use Rattle.register.proofs.StepInvariantLemmas.{steps_on}
use Rattle.register.proofs.PieceLengthLemmas.{coded_short, reply_has_room, IsShort}
use Rattle.register.proofs.WaitingMessageLemmas.{there}

-- a request adds no more bytes than those of the piece that it brings
added_few : (b : Bank) (q : Request) → added_bytes b q ≤ request_bytes q
added_few b (request.PreWrite tag piece) = go (is_some (arrived_at b tag))
  where
    go : (known : Bool) → cond known 0 (length piece.bytes) ≤ length piece.bytes
    go true = omega arith
    go false = omega arith
added_few b _ = omega arith

pub served_few : (b : Bank) (q : Request) (now : ℕ) → bank_bytes (served_bank b q now) ≤ bank_bytes b + request_bytes q
served_few b q now = let sum = served_bytes b q now in let few = added_few b q in omega (arith, sum, few)

abbrev parts : Option ℕ → List Layout → List (List Bank) → List Message → List Call → Object
parts delta layouts banks mail calls = record { delta = delta; layouts = layouts; banks = banks; mail = mail; calls = calls }

-- the request that waits at a place, and the bank to which it goes, as they were read
pub record IsServing (c : Contents) (place : ℕ) (m : Message) (p : Position) (q : Request) : Type 0 where
  pub kept : IsKept c
  pub waits : slice_get c.mail place ≡ Some m
  pub is : m.body ≡ body.Request q
  pub at : slice_get c.positions m.position ≡ Some p
  pub bank : Bank
  pub held : slice_get p.banks m.member ≡ Some bank

pub position_there : {c : Contents} (place : ℕ) {m : Message} → IsKept c → slice_get c.mail place ≡ Some m → m.position < length c.positions
position_there {c = c} place {m = m} kept waits =
    let t = there c kept place m waits in slice_get_within c.positions m.position t.position t.at

pub serving : {c : Contents} (place : ℕ) {m : Message} {p : Position} {q : Request} → IsKept c → slice_get c.mail place ≡ Some m
    → m.body ≡ body.Request q → p ≡ get_or c.positions m.position p → IsServing c place m p q
serving {c = c} place {m = m} {p = p} kept waits is read =
    let t = there c kept place m waits in
    let at : slice_get c.positions m.position ≡ Some p =
    slice_get_read c.positions (length c.positions) m.position p refl (position_there place kept waits) read in
    record {
      kept = kept;
      waits = waits;
      is = is;
      at = at;
      bank = t.bank;
      held = subst (λ (p : Position). slice_get p.banks m.member ≡ Some t.bank) (same_some t.position p (sym t.at ∙ at)) t.kept;
    }

module _ {c : Contents} {place : ℕ} {m : Message} {p : Position} {q : Request} (s : IsServing c place m p q) where
  abbrev kept : IsKept c
  kept = s.kept

  abbrev waits : slice_get c.mail place ≡ Some m
  waits = s.waits

  abbrev at : slice_get c.positions m.position ≡ Some p
  at = s.at

  abbrev b : Bank
  b = s.bank

  abbrev held : slice_get p.banks m.member ≡ Some b
  held = s.held

  pub member_there : m.member < length p.banks
  member_there = slice_get_within p.banks m.member b held

  -- what the bank stores is part of all that is stored
  pub part_stored : bank_bytes b ≤ c.stored
  part_stored =
      let first = sum_at bank_bytes p.banks m.member b held in
      let second = sum_at banks_bytes (banks_of c.positions) m.position p.banks
      (found_map (λ (p : Position). p.banks) c.positions m.position p at) in
      subst (λ n. bank_bytes b ≤ n) (sym kept.stored) (omega (arith, first, second))

  pub stored_few : c.stored ≤ MOST_BYTES
  stored_few = subst (λ n. n ≤ MOST_BYTES) (sym kept.stored) kept.limits.stored

  pub bytes_few : (other : Bank) → slice_get p.banks m.member ≡ Some other → bank_bytes other < 2 ^ 64
  bytes_few other e = let same = ap bank_bytes (same_some b other (sym held ∙ e)) in let part = part_stored in let few =
      stored_few in omega (arith, same, part, few)

  bank_is : bank_at (state_of c).object m.position m.member ≡ b
  bank_is =
      ap (λ bs. get_or bs m.member no_bank) (get_or_from_slice_get (banks_of c.positions) m.position p.banks []
      (found_map (λ (p : Position). p.banks) c.positions m.position p at))
      ∙ get_or_from_slice_get p.banks m.member b no_bank held

  placed : m.position < length (state_of c).object.layouts
  placed = (there c kept place m waits).placed

  -- the reply has room
  answer_short : answer_bytes (answer_to b q) ≤ LONGEST_VALUE
  answer_short = go q
    where
      kept_short : (tag : Tag) (piece : Option Piece) → piece_of b tag ≡ piece → answer_bytes (answer.Piece piece) ≤ LONGEST_VALUE
      kept_short tag None is = omega arith
      kept_short tag (Some piece) is =
          let coded = kept.sound.coded.banks m.position m.member tag
          (subst (λ (b : Bank). knows b tag ≡ true) (sym bank_is) (known tag piece is)) in
          let short = coded_short (state_of c).object c.last kept.sound m.position m.member placed tag
          (piece_of (bank_at (state_of c).object m.position m.member) tag) coded in
          subst IsShort (ap (λ (b : Bank). piece_of b tag) bank_is ∙ is) short
        where
          known : (tag : Tag) (piece : Piece) → piece_of b tag ≡ Some piece → knows b tag ≡ true
          known tag piece is = go (finmap.get b.rows tag) is
            where
              go : (row : Option Row) → piece_of_row row ≡ Some piece → is_some row ≡ true
              go None is = absurd (cc)
              go (Some row) is = refl

      go : (q : Request) → answer_bytes (answer_to b q) ≤ LONGEST_VALUE
      go (request.Fetch tag) = kept (is_outside b tag)
        where
          kept : (outside : Bool) → answer_bytes (answer.Piece (cond outside None (piece_of b tag))) ≤ LONGEST_VALUE
          kept true = omega arith
          kept false = kept_short tag (piece_of b tag) refl
      go _ = omega arith

  pub reply_room : length c.mail ≤ MOST_MESSAGES → mail_bytes c.mail + answer_bytes (answer_to b q) ≤ MOST_BYTES
  reply_room few = reply_has_room (state_of c).object c.last kept.sound few (answer_bytes (answer_to b q)) answer_short

  -- what the register holds afterwards
  module _ (now : ℕ) {new : Position} (layout : new.layout ≡ p.layout)
      (banks : new.banks ≡ set p.banks m.member (served_bank b q now)) where
    layouts_are : layouts_of (set c.positions m.position new) ≡ layouts_of c.positions
    layouts_are =
        map-set (λ (p : Position). p.layout) c.positions m.position new
        ∙ set_same (layouts_of c.positions) m.position new.layout
        (found_map (λ (p : Position). p.layout) c.positions m.position p at ∙ ap Some (sym layout))

    banks_are : banks_of (set c.positions m.position new)
        ≡ set (banks_of c.positions) m.position (set (get_or (banks_of c.positions) m.position []) m.member (served_bank b q now))
    banks_are =
        let there = found_map (λ (p : Position). p.banks) c.positions m.position p at in
        let held = get_or_from_slice_get (banks_of c.positions) m.position p.banks [] there in
        cc (map-set (λ (p : Position). p.banks) c.positions m.position new, banks, held)

    mail_is : replied c.mail place (reply_to b q now) ≡ set c.mail place (answered m (reply_to b q now))
    mail_is = ap (replied_message c.mail place (reply_to b q now)) waits

    pub serving_is : object_of c.delta (set c.positions m.position new) (replied c.mail place (reply_to b q now)) c.calls
        ≡ (made (Step.Serve place) now (state_of c)).object
    serving_is = cc (layouts_are, banks_are, mail_is, bank_is, s.is, waits)

    -- the base is where it was
    base_is : retired_first (banks_of (set c.positions m.position new)) ≡ retired_first (banks_of c.positions)
    base_is =
        ap retired_first (map-set (λ (p : Position). p.banks) c.positions m.position new)
        ∙ first_set (banks_of c.positions) m.position p.banks new.banks
        (found_map (λ (p : Position). p.banks) c.positions m.position p at)
        (ap (λ (bs : List Bank). (get_or bs 0 no_bank).retired) banks
        ∙ member_set p.banks m.member b (served_bank b q now) held (served-retired b q now))

    -- the bytes that all banks store
    stored_is : c.stored - bank_bytes b + bank_bytes (served_bank b q now) ≡ all_bytes (banks_of (set c.positions m.position new))
    stored_is =
        let inner = sum_put bank_bytes p.banks m.member b (served_bank b q now) held in
        let outer = sum_put banks_bytes (banks_of c.positions) m.position p.banks new.banks
        (found_map (λ (p : Position). p.banks) c.positions m.position p at) in
        let same : banks_bytes new.banks ≡ banks_bytes (set p.banks m.member (served_bank b q now)) = ap banks_bytes banks in
        let list : all_bytes (banks_of (set c.positions m.position new)) ≡ all_bytes (set (banks_of c.positions) m.position new.banks) =
        ap all_bytes (map-set (λ (p : Position). p.banks) c.positions m.position new) in
        let total : c.stored ≡ all_bytes (banks_of c.positions) = kept.stored in
        omega (arith, inner, outer, same, list, total, part_stored)

    pub stored_fits : c.stored + request_bytes q ≤ MOST_BYTES → c.stored - bank_bytes b + bank_bytes (served_bank b q now) ≤ MOST_BYTES
    stored_fits room = let few = served_few b q now in let part = part_stored in omega (arith, few, part, room)

    pub serving_keeps : c.last < now → c.stored + request_bytes q ≤ MOST_BYTES → IsKept (record c {
      positions = set c.positions m.position new;
      mail = replied c.mail place (reply_to b q now);
      stored = c.stored - bank_bytes b + bank_bytes (served_bank b q now);
      last = now;
    })
    serving_keeps after room = record {
      sound = subst (λ o. IsSound fragment o now) (sym serving_is) (steps_on c now (Step.Serve place) after kept (m, (waits, (q, s.is))));
      limits = record {
        positions = subst (λ ls. length ls ≤ MOST_POSITIONS) (sym layouts_are) kept.limits.positions;
        calls = kept.limits.calls;
        phases = kept.limits.phases;
        stored = subst (λ n. n ≤ MOST_BYTES) stored_is (stored_fits room);
      };
      based = kept.based ∙ sym base_is;
      numbered = kept.numbered;
      staged = kept.staged;
      moving = kept.moving;
      stored = stored_is;
    }
