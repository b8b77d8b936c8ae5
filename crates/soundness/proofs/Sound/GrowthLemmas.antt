-- How a record grows by a step, and what then stays so.
use Rattle.std.proofs.Common.{◌≡◌, ℕ, ◌<◌, ◌≤◌, ◌⊎◌, List, [], length, get_or, Option, Some, ◌∙◌, inl, inr}
use Rattle.std.proofs.Common.{arith, le_refl, slice_get}
use Rattle.tag.specs.declared.tag.Tag.{Tag}
use Rattle.piece.specs.declared.piece.Piece.{Piece}
use Rattle.bank.specs.Bank.{Bank}
use Rattle.bank.specs.declared.kind.Kind.{Kind}
use Rattle.bank.proofs.MonotoneLemmas.{Grows as BankGrows}
use Rattle.bank.proofs.RowChangeLemmas.{comes_past}
use Rattle.bank.proofs.TrueAnswerLemmas.{grows_past}
use Rattle.mail.specs.declared.message.Message.{Message}
use Rattle.mail.specs.declared.phase.Taken.{Taken}
use Rattle.mail.specs.Phase.{Phase}
use Rattle.record.specs.Records.{Call, Object, layout_at, bank_at, no_bank, base_at}
use Rattle.record.specs.declared.call.CallKind.TheVariants.{Write}
use Rattle.record.specs.Knowledge.{IsTrueReply}
use Rattle.record.specs.Legal.{moves_in, source_of, HasBegun, IsMovedOut, IsCaused, IsOpenedAt}
use Rattle.record.specs.Journals.{tag_of, IsJournaled}
use Rattle.record.specs.Fragments.{Code, IsCoded, IfCoded, HasPieces, IsSettled}
use Rattle.soundness.proofs.BaseLemmas.{base_same}
use Rattle.soundness.proofs.ListLemmas.{all_map}
use Rattle.soundness.proofs.Sound.ChangedCallLemmas.{Changed, Others}
use Rattle.soundness.proofs.Sound.ItemLemmas.{Sizes}
use Rattle.soundness.proofs.Sound.PreservedKnowledgeLemmas.{answer_kept}

-- what follows on each side of an alternative
pub sides : {A B C D : Type 0} → (A → C) → (B → D) → A ⊎ B → C ⊎ D
sides f g either = grind arith

-- a bank that stays as it is
pub bank_stays : (now : ℕ) (bank : Bank) → BankGrows now bank bank
bank_stays now bank = grind arith

-- a bank stays opened since its step
pub opened_stays : {now : ℕ} {old new : Bank} → BankGrows now old new → (step : ℕ) → IsOpenedAt old step → IsOpenedAt new step
opened_stays grows step opened = grind arith

-- a call is there later too; a write with the tag that it had
pub record Later (old new : Object) (index : ℕ) (call : Call) : Type 0 where
  pub other : Call
  pub at : slice_get new.calls index ≡ Some other
  pub changed : Changed call other
  pub source : source_of new index ≡ source_of old index
  pub tagged : (value : List ℕ) → call.kind ≡ Write value → (tag : Tag) → tag_of old index call ≡ Some tag →
      tag_of new index other ≡ Some tag

pub unchanged : {old new : Object} (index : ℕ) (call : Call) → slice_get new.calls index ≡ Some call →
    source_of new index ≡ source_of old index → Later old new index call
unchanged index call at source = grind arith

-- layouts, earlier bases and calls stay, and banks only add steps
pub record Grows (now : ℕ) (old new : Object) : Type 0 where
  pub more : length old.layouts ≤ length new.layouts
  pub layouts : (p : ℕ) → p < length old.layouts → layout_at new p ≡ layout_at old p
  pub banks : (p i : ℕ) → p < length old.layouts → BankGrows now (bank_at old p i) (bank_at new p i)
  pub base : (step : ℕ) → step < now → base_at new step ≡ base_at old step
  pub calls : (index : ℕ) (call : Call) → slice_get old.calls index ≡ Some call → Later old new index call

-- a change of mail and calls
pub calls_grow : (now : ℕ) (object : Object) (mail : List Message) (calls : List Call) →
    ((index : ℕ) (call : Call) → slice_get object.calls index ≡ Some call → Later object (Others object mail calls) index call) →
    Grows now object (Others object mail calls)
calls_grow now object mail calls later = grind arith

pub sizes_same : {object : Object} (mail : List Message) (calls : List Call) → moves_in calls ≡ moves_in object.calls →
    Sizes object → Sizes (Others object mail calls)
sizes_same mail calls same sizes = grind arith

-- a change of mail and banks
pub banks_grow : (now : ℕ) (object : Object) (mail : List Message) (banks : List (List Bank)) →
    ((p i : ℕ) → BankGrows now (bank_at object p i) (get_or (get_or banks p []) i no_bank)) →
    Grows now object (record object { mail = mail; banks = banks })
banks_grow now object mail banks grow = grind (arith, base_same, comes_past, le_refl, unchanged)

-- Facts of a record that also hold of each record to which it grew
module _ {now : ℕ} {old new : Object} (grows : Grows now old new) where
  pub begun_grows : (kind : Kind) (position step : ℕ) → HasBegun old kind position step → HasBegun new kind position step
  begun_grows kind position step b =
      let later = grows.calls b.index b.call b.at in
      let there = later.changed.same_phases b.place b.phase b.within in
      record {
        index = b.index;
        call = later.other;
        at = later.at;
        place = b.place;
        phase = there.0;
        within = there.1;
        same_kind = there.2 ∙ b.same_kind;
        same_position = there.3 ∙ b.same_position;
        before = let s = there.4 in let h = b.before in omega arith;
      }

  pub moved_grows : (position answered : ℕ) → IsMovedOut old position answered → IsMovedOut new position answered
  moved_grows position answered m = let later = grows.calls m.index m.call m.at in record {
    index = m.index;
    call = later.other;
    at = later.at;
    kind = later.changed.same_kind ∙ m.kind;
    source = later.source ∙ m.source;
    was = later.changed.same_answer answered m.was;
  }

  pub caused_grows : {position : ℕ} {bank : Bank} → IsCaused old position bank → IsCaused new position bank
  caused_grows {position = p} caused = grind (arith, begun_grows, moved_grows, sides)

  journaled_grows : (tag : Tag) (value : List ℕ) → IsJournaled old tag value → IsJournaled new tag value
  journaled_grows tag value (inl opening) = inl opening
  journaled_grows tag value (inr w) = let later = grows.calls w.index w.call w.at in inr (record {
    index = w.index;
    call = later.other;
    at = later.at;
    kind = later.changed.same_kind ∙ w.kind;
    tagged = later.tagged value w.kind tag w.tagged;
  })

  pub coded_grows : {fragment : Code} {position member : ℕ} {tag : Tag} {piece : Option Piece} →
      layout_at new position ≡ layout_at old position → IsCoded fragment old position member tag piece →
      IsCoded fragment new position member tag piece
  coded_grows {tag = tag} same coded = grind (arith, journaled_grows)

  pub if_coded_grows : (fragment : Code) (position member : ℕ) → layout_at new position ≡ layout_at old position →
      (tag : Option Tag) (piece : Option Piece) → IfCoded fragment old position member tag piece →
      IfCoded fragment new position member tag piece
  if_coded_grows fragment position member same tag piece coded = grind (arith, coded_grows)

  pub reply_grows : (phase : Phase) (taken : Taken) → phase.position < length old.layouts → taken.reply.step < now →
      IsTrueReply old phase taken → IsTrueReply new phase taken
  reply_grows phase taken placed early r = record {
    within = rw (grows.layouts phase.position placed) r.within;
    after_start = r.after_start;
    in_order = r.in_order;
    says = answer_kept now _ _ taken.reply.step phase.kind taken.reply.answer
        (grows_past _ _ now (grows.banks phase.position taken.member placed)) early r.says;
  }

  pieces_grow : {fragment : Code} {phase : Phase} {value : List ℕ} → phase.position < length old.layouts →
      HasPieces fragment old phase value → HasPieces fragment new phase value
  pieces_grow {phase = phase} placed has = grind (arith, all_map)

  pub settled_grows : {fragment : Code} {call : Call} {value : List ℕ} (s : IsSettled fragment old call value) →
      s.phase.position < length old.layouts → IsSettled fragment new call value
  settled_grows s placed = grind (arith, pieces_grow)
