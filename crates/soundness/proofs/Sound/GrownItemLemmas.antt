-- A record that grows keeps its calls, banks and messages sound. So a step owes only the items that it changes.
use Rattle.std.proofs.Common.{◌≡◌, ℕ, ◌<◌, ◌≤◌, ◌⊎◌, Some, sym, ◌∙◌, inl, inr}
use Rattle.std.proofs.Common.{arith, le_of_lt, le_trans, slice_get}
use Rattle.std.specs.List.{AllByRecursion}
use Rattle.bank.specs.Bank.{Bank}
use Rattle.bank.specs.Facts.{IsBefore}
use Rattle.bank.proofs.TrueAnswerLemmas.{grows_past}
use Rattle.mail.specs.declared.message.Message.{Message}
use Rattle.mail.specs.Phase.{Phase}
use Rattle.record.specs.Records.{Call, Object, layout_at, bank_at, base_at}
use Rattle.record.specs.Fragments.{Code, answer_tag, answer_piece, body_tag, body_piece}
use Rattle.soundness.specs.Sound.{IsSound}
use Rattle.soundness.proofs.BaseLemmas.{base_kept}
use Rattle.soundness.proofs.ListLemmas.{all_map, all_both, all_at, none_twice}
use Rattle.soundness.proofs.Sound.ItemLemmas.{PhaseSound, CallSound, BankSound, MessageSound, CallsInTurn, Sizes}
use Rattle.soundness.proofs.Sound.ItemLemmas.{sound_of, call_of, bank_of, mail_of, posted_placed}
use Rattle.soundness.proofs.Sound.PreservedKnowledgeLemmas.{answer_kept}
use Rattle.soundness.proofs.Sound.GrowthLemmas.{Grows, opened_stays, if_coded_grows, reply_grows, settled_grows, caused_grows, coded_grows}
use Rattle.record.specs.Steps.{new_phase}
use Rattle.record.specs.Legal.{AreOpened}
use Rattle.bank.specs.declared.kind.Kind.{Kind}
use Rattle.std.proofs.Common.{le_refl, length}

-- a phase that begins where banks are open is sound
pub new_phase_sound : {fragment : Code} {object : Object} {now call number position : ℕ} {kind : Kind} →
    position < length object.layouts → AreOpened object (new_phase call number kind position (layout_at object position) now) →
    PhaseSound fragment object now (new_phase call number kind position (layout_at object position) now)
new_phase_sound {now = now} placed opened = grind (arith, le_refl, none_twice)

-- what came before a step came before a later one
pub before_later : {s u : ℕ} {bank : Bank} → s ≤ u → IsBefore bank s → IsBefore bank u
before_later h before = grind arith

-- The items of a sound record are sound in a record to which it grew by a later step
module _ {fragment : Code} {step now : ℕ} {old new : Object} (sound : IsSound fragment old step) (less : step < now)
    (grows : Grows now old new) where
  past : step ≤ now
  past = le_of_lt less

  pub phase_grows : {phase : Phase} → PhaseSound fragment old step phase → PhaseSound fragment new now phase
  phase_grows {phase = phase} s =
      let placed = s.truth.placed in
      let same = grows.layouts phase.position placed in
      record {
        truth = record {
          placed = let m = grows.more in omega arith;
          sized = rw same s.truth.sized;
          replies = all_both (λ taken r p. reply_grows grows phase taken placed (let o = r.in_order in omega arith) r) _
              s.truth.replies s.past.replies;
          one_each = s.truth.one_each;
          complete = rw same s.truth.complete;
        };
        opened = λ member below. let o = s.opened member (rw same at below) in
            (o.0, opened_stays (grows.banks phase.position member placed) o.0 o.1, o.2);
        coded = all_map (λ taken c. if_coded_grows grows fragment phase.position taken.member same
            (answer_tag phase.kind taken.reply.answer) (answer_piece taken.reply.answer) c) _ s.coded;
        past = record {
          start = le_trans s.past.start past;
          replies = all_map (λ taken p. le_trans p past) _ s.past.replies;
          end = λ at e. le_trans (s.past.end at e) past;
        };
      }

  pub call_grows : (index : ℕ) (call : Call) → slice_get old.calls index ≡ Some call → CallSound fragment new now index call
  call_grows index call at =
      let c = call_of sound index call at in
      let source = (grows.calls index call at).source in
      record {
        numbered = c.numbered;
        begins = c.begins;
        course = rw source c.course;
        from_base = rw source (base_kept (base_at old) (base_at new) _ _ call.phases _ (all_at _ (λ place phase within.
            grows.base phase.start (let s = (c.phases place phase within).past.start in omega arith))) c.from_base);
        answer = rw source c.answer;
        phases = λ place phase within. phase_grows (c.phases place phase within);
        settled = λ value e.
            let s = c.settled value e in settled_grows grows s (c.phases s.place s.phase s.within).truth.placed;
        before_next = c.before_next;
        before_answer = c.before_answer;
        written = c.written;
        values = c.values;
        called = le_trans c.called past;
        answered = λ when e. le_trans (c.answered when e) past;
        tag = λ tag t. le_trans (c.tag tag (rw source at t)) past;
      }

  pub bank_grows : (position member : ℕ) → layout_at new position ≡ layout_at old position →
      BankSound fragment new now position member (bank_at old position member)
  bank_grows position member same = let b = bank_of sound position member in record {
    caused = caused_grows grows b.caused;
    past = before_later (omega arith) b.past;
    coded = λ tag known. coded_grows grows same (b.coded tag known);
    next = record { pending = λ s e. le_trans (b.next.pending s e) grows.more; final = λ s e. le_trans (b.next.final s e) grows.more };
    collected = b.collected;
  }

  pub message_grows : (message : Message) → MessageSound fragment old step message → MessageSound fragment new now message
  message_grows message m =
      let posted = m.posted in
      let later = grows.calls posted.index posted.call posted.at in
      let there = later.changed.same_phases posted.place posted.phase posted.within in
      let placed = posted_placed sound posted in
      let same = grows.layouts message.position placed in
      record {
        posted = record {
          index = posted.index;
          call = later.other;
          at = later.at;
          same_call = posted.same_call ∙ sym later.changed.same_id;
          place = posted.place;
          phase = there.0;
          within = there.1;
          same_phase = posted.same_phase;
          same_kind = posted.same_kind ∙ sym there.2;
          same_position = posted.same_position ∙ sym there.3;
          member = rw same posted.member;
          reply = λ kind made e. let r = posted.reply kind made e in (
            (let s = there.4 in let a = r.0 in omega arith),
            answer_kept now _ _ made.step kind made.answer (grows_past _ _ now (grows.banks message.position message.member placed))
                (let p = m.past kind made e in omega arith) r.1,
          );
        };
        past = λ kind made e. le_trans (m.past kind made e) past;
        coded = if_coded_grows grows fragment message.position message.member same (body_tag message.body) (body_piece message.body)
            m.coded;
      }

  pub mail_grows : AllByRecursion (MessageSound fragment new now) old.mail
  mail_grows = all_map message_grows _ (mail_of sound)

  -- so the new record is sound, where each item that changed is
  pub grown_sound : Sizes new → CallsInTurn new.calls →
      ((i : ℕ) (c : Call) → slice_get new.calls i ≡ Some c → (slice_get old.calls i ≡ Some c) ⊎ CallSound fragment new now i c) →
      ((p i : ℕ) → ((bank_at new p i ≡ bank_at old p i) × (layout_at new p ≡ layout_at old p))
      ⊎ BankSound fragment new now p i (bank_at new p i)) →
      AllByRecursion (MessageSound fragment new now) new.mail → IsSound fragment new now
  grown_sound sizes turns calls banks mail =
      sound_of sizes turns (λ i c e. call_here i c (calls i c e)) (λ p i. bank_here p i (banks p i)) mail
    where
      call_here : (i : ℕ) (c : Call) → (slice_get old.calls i ≡ Some c) ⊎ CallSound fragment new now i c → CallSound fragment new now i c
      call_here i c (inl at) = call_grows i c at
      call_here i c (inr fresh) = fresh

      bank_here : (p i : ℕ) → ((bank_at new p i ≡ bank_at old p i) × (layout_at new p ≡ layout_at old p))
          ⊎ BankSound fragment new now p i (bank_at new p i) → BankSound fragment new now p i (bank_at new p i)
      bank_here p i (inl stays) = rw stays.0 (bank_grows p i stays.1)
      bank_here p i (inr fresh) = fresh
