-- What is sound of each phase, call, bank and message, and of the calls and the positions together: a sound record.
use Rattle.std.proofs.lemmas.Grind.{common_steps}
use Rattle.std.proofs.Common.{◌≡◌, ℕ, suc, ◌<◌, ◌≤◌, true, List, [], length, get_or, ◌⊎◌, Some, None, IsSome, slice_get, arith}
use Rattle.std.specs.List.{AllByRecursion}
use Rattle.tag.specs.declared.tag.Tag.{Tag}
use Rattle.tag.specs.Tag.{opening_tag}
use Rattle.layout.specs.Layout.{IsLawful}
use Rattle.bank.specs.Bank.{Bank, knows, piece_of}
use Rattle.bank.specs.Collect.{IsCollected}
use Rattle.bank.specs.Facts.{IsBefore}
use Rattle.bank.specs.declared.kind.Kind.{Kind}
use Rattle.bank.specs.declared.reply.Reply.{Reply}
use Rattle.mail.specs.declared.message.Message.{Message}
use Rattle.mail.specs.declared.message.Body.TheVariants as body
use Rattle.mail.specs.declared.phase.Taken.{Taken}
use Rattle.mail.specs.Phase.{Phase, lacks_pieces}
use Rattle.record.specs.declared.call.CallKind.TheVariants.{Read, Write, Move}
use Rattle.record.specs.Records.{Call, Object, layout_at, bank_at, retired_at, base_at, base_of}
use Rattle.record.specs.Knowledge.{IsTruePhase}
use Rattle.record.specs.PhaseOrder.{IsCourse, BeginAtBase, EndsBefore, due}
use Rattle.record.specs.Legal.{moves_in, first_stage, source_of, stage_of, AreNumbered, BeginsAt, IsLegalCall, IsCaused}
use Rattle.record.specs.Legal.{IsOpenedAt, IsOpenedBy, AreOpened}
use Rattle.record.specs.Journals.{tag_of}
use Rattle.record.specs.Fragments.{Code, IsValue, IsCoded, IfCoded, answer_tag, answer_piece, body_tag, body_piece, IsFetch, IsSettled}
use Rattle.soundness.specs.Sound.{IsPosted, UpTo, IsPhasePast, IsCallPast, HasNext, IsSound}
use Rattle.soundness.proofs.BaseLemmas.{base_now}
use Rattle.soundness.proofs.ListLemmas.{all_get, all_map, all_at}

-- what a reply names is coded
abbrev pub ReplyCoded : Code → Object → Phase → Taken → Type 0
ReplyCoded fragment object phase reply = IfCoded fragment object phase.position reply.member (answer_tag phase.kind reply.reply.answer)
    (answer_piece reply.reply.answer)

-- of a phase
pub record PhaseSound (fragment : Code) (object : Object) (now : ℕ) (phase : Phase) : Type 0 where
  pub truth : IsTruePhase object phase
  pub opened : AreOpened object phase
  pub coded : AllByRecursion (ReplyCoded fragment object phase) phase.replies
  pub past : IsPhasePast now phase

-- of a call
pub record CallSound (fragment : Code) (object : Object) (now index : ℕ) (call : Call) : Type 0 where
  pub numbered : AreNumbered call.id 1 call.phases
  pub begins : BeginsAt call.phases call.called
  pub course : IsCourse call.kind call.id (first_stage call.kind (source_of object index)) call.phases
  pub from_base : BeginAtBase (base_at object) call.kind call.id (first_stage call.kind (source_of object index)) call.phases
  pub answer : (step : ℕ) → call.answered ≡ Some step → (due (stage_of object index call) ≡ None) × EndsBefore call.phases step
  pub phases : (place : ℕ) (phase : Phase) → slice_get call.phases place ≡ Some phase → PhaseSound fragment object now phase
  pub settled : (value : List ℕ) → call.settled ≡ Some value → IsSettled fragment object call value
  pub before_next : (place : ℕ) (phase next : Phase) → slice_get call.phases place ≡ Some phase → IsFetch phase.kind →
      slice_get call.phases (suc place) ≡ Some next → IsSome call.settled ⊎ (lacks_pieces phase ≡ true)
  pub before_answer : call.kind ≡ Read → IsSome call.answered → IsSome call.settled
  pub written : (value : List ℕ) → call.kind ≡ Write value → IsValue value
  pub values : (value : List ℕ) → call.settled ≡ Some value → IsValue value
  pub called : call.called ≤ now
  pub answered : UpTo now call.answered
  pub tag : (tag : Tag) → tag_of object index call ≡ Some tag → tag.number ≤ now

-- of a bank
pub record BankSound (fragment : Code) (object : Object) (now position member : ℕ) (bank : Bank) : Type 0 where
  pub caused : IsCaused object position bank
  pub past : IsBefore bank (suc now)
  pub coded : (tag : Tag) → knows bank tag ≡ true → IsCoded fragment object position member tag (piece_of bank tag)
  pub next : HasNext (length object.layouts) position bank
  pub collected : IsCollected bank

-- of a message
pub record MessageSound (fragment : Code) (object : Object) (now : ℕ) (message : Message) : Type 0 where
  pub posted : IsPosted object message
  pub past : (kind : Kind) (made : Reply) → message.body ≡ body.Reply kind made → made.step ≤ now
  pub coded : IfCoded fragment object message.position message.member (body_tag message.body) (body_piece message.body)

-- of the calls together, which are in the order of their steps, each with an id of its own, and one move after another
pub record CallsInTurn (calls : List Call) : Type 0 where
  pub in_turn : (i j : ℕ) (a b : Call) → slice_get calls i ≡ Some a → slice_get calls j ≡ Some b → i < j → a.called < b.called
  pub ids : (i j : ℕ) (a b : Call) → slice_get calls i ≡ Some a → slice_get calls j ≡ Some b → a.id ≡ b.id → i ≡ j
  pub moves : (i j : ℕ) (a b : Call) → slice_get calls i ≡ Some a → slice_get calls j ≡ Some b → i < j →
      a.kind ≡ Move → b.kind ≡ Move → (step : ℕ) × (a.answered ≡ Some step) × (step < b.called)

-- and of the positions
pub record Sizes (object : Object) : Type 0 where
  pub lawful : AllByRecursion IsLawful object.layouts
  pub positions : length object.layouts ≡ suc (moves_in object.calls)
  pub banks : length object.banks ≡ length object.layouts
  pub members : (position : ℕ) → position < length object.layouts →
      length (get_or object.banks position []) ≡ length (layout_at object position).members
  pub opened : (position member : ℕ) → position < length object.layouts → member < length (layout_at object position).members →
      (step : ℕ) × IsOpenedAt (bank_at object position member) step
  pub delta : (position member : ℕ) → position < length object.layouts → member < length (layout_at object position).members →
      (bank_at object position member).delta ≡ object.delta
  pub retired : (position member : ℕ) → position < length object.layouts → member < length (layout_at object position).members →
      (bank_at object position member).retired ≡ retired_at object position
  pub leading : (position : ℕ) → base_of object ≤ position → retired_at object position ≡ None

legal_call : {fragment : Code} {object : Object} {now index : ℕ} {call : Call} → CallSound fragment object now index call →
    IsLegalCall object index call
legal_call c = record {
  numbered = c.numbered;
  begins = c.begins;
  phases = all_at _ (λ place phase within. (c.phases place phase within).truth);
  course = c.course;
  from_base = c.from_base;
  answer = c.answer;
}

-- together they are a sound record
pub sound_of : {fragment : Code} {object : Object} {now : ℕ} → Sizes object → CallsInTurn object.calls →
    ((index : ℕ) (call : Call) → slice_get object.calls index ≡ Some call → CallSound fragment object now index call) →
    ((position member : ℕ) → BankSound fragment object now position member (bank_at object position member)) →
    AllByRecursion (MessageSound fragment object now) object.mail → IsSound fragment object now
sound_of sizes in_turn calls banks mail = record {
  legal = record {
    layouts = sizes.lawful;
    calls = λ index call at. legal_call (calls index call at);
    in_turn = in_turn.in_turn;
    ids = in_turn.ids;
    moves = in_turn.moves;
    banks = λ position member. (banks position member).caused;
  };
  open_banks = λ index place call phase at within. ((calls index call at).phases place phase within).opened;
  mail = all_map (λ message m. m.posted) _ mail;
  past = record {
    banks = λ position member. (banks position member).past;
    mail = all_map (λ message m. m.past) _ mail;
    calls = all_at _ (λ index call at. let c = calls index call at in
        record { called = c.called; answered = c.answered; phases = all_at _ (λ place phase within. (c.phases place phase within).past) });
    tags = λ index call tag at. (calls index call at).tag tag;
  };
  shape = record {
    positions = sizes.positions;
    banks = sizes.banks;
    members = sizes.members;
    opened = sizes.opened;
    delta = sizes.delta;
    next = λ position member. (banks position member).next;
    collected = λ position member. (banks position member).collected;
    retired = sizes.retired;
    leading = sizes.leading;
  };
  values = record {
    written = λ index call value at. (calls index call at).written value;
    settled = λ index call value at. (calls index call at).values value;
  };
  coded = record {
    banks = λ position member. (banks position member).coded;
    mail = all_map (λ message m. m.coded) _ mail;
    phases = λ index place call phase at within. ((calls index call at).phases place phase within).coded;
  };
  settled = record {
    settled = λ index call value at. (calls index call at).settled value;
    before_next = λ index place call phase next at within fetch. (calls index call at).before_next place phase next within fetch;
    before_answer = λ index call at. (calls index call at).before_answer;
  };
}

-- and it has each of them
module _ {fragment : Code} {object : Object} {now : ℕ} (sound : IsSound fragment object now) where
  pub sizes_of : Sizes object
  sizes_of = grind arith

  pub turns_of : CallsInTurn object.calls
  turns_of = record { in_turn = sound.legal.in_turn; ids = sound.legal.ids; moves = sound.legal.moves }

  pub past_of : (index : ℕ) (call : Call) → slice_get object.calls index ≡ Some call → IsCallPast now call
  past_of index call at = all_get (IsCallPast now) object.calls index call sound.past.calls at

  pub call_of : (index : ℕ) (call : Call) → slice_get object.calls index ≡ Some call → CallSound fragment object now index call
  call_of index call at =
      let legal = sound.legal.calls index call at in
      let past = past_of index call at in
      record {
        numbered = legal.numbered;
        begins = legal.begins;
        course = legal.course;
        from_base = legal.from_base;
        answer = legal.answer;
        phases = λ place phase within. record {
          truth = all_get (IsTruePhase object) call.phases place phase legal.phases within;
          opened = sound.open_banks index place call phase at within;
          coded = sound.coded.phases index place call phase at within;
          past = all_get (IsPhasePast now) call.phases place phase past.phases within;
        };
        settled = λ value. sound.settled.settled index call value at;
        before_next = λ place phase next within fetch. sound.settled.before_next index place call phase next at within fetch;
        before_answer = sound.settled.before_answer index call at;
        written = λ value. sound.values.written index call value at;
        values = λ value. sound.values.settled index call value at;
        called = past.called;
        answered = past.answered;
        tag = λ tag. sound.past.tags index call tag at;
      }

  pub bank_of : (position member : ℕ) → BankSound fragment object now position member (bank_at object position member)
  bank_of position member = record {
    caused = sound.legal.banks position member;
    past = sound.past.banks position member;
    coded = sound.coded.banks position member;
    next = sound.shape.next position member;
    collected = sound.shape.collected position member;
  }

  pub mail_of : AllByRecursion (MessageSound fragment object now) object.mail
  mail_of = all_at _ (λ place message at. record {
    posted = all_get _ _ place message sound.mail at;
    past = all_get _ _ place message sound.past.mail at;
    coded = all_get _ _ place message sound.coded.mail at;
  })

  -- the position of a posted message is there
  pub posted_placed : {message : Message} → IsPosted object message → message.position < length object.layouts
  posted_placed posted = grind (arith, common_steps, call_of)

  -- the base of a later step is that of now
  pub base_later : (later : ℕ) → now < later → base_at object later ≡ base_of object
  base_later later less = base_now object.banks later (λ p at e. let past = (sound.past.banks p 0).retired at e in omega arith)

  -- banks that are open are so by any later step
  pub open_by : (later position member : ℕ) → now < later → position < length object.layouts →
      member < length (layout_at object position).members → IsOpenedBy (bank_at object position member) later
  open_by later position member less placed below =
      let o = sound.shape.opened position member placed below in
      (o.0, o.1, (let past = (sound.past.banks position member).finalized opening_tag o.0 o.1.finalized in omega arith))
