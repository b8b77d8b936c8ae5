-- A new call, with or without a new position, keeps a record sound.
use Rattle.std.proofs.Common.{◌≡◌, ℕ, zero, suc, ◌<◌, ◌≤◌, ◌⊎◌, List, [], ◌∷◌, ◌++◌, length, get_or, Some}
use Rattle.std.proofs.Common.{None, refl, sym, subst, subst₂, ap, ◌∙◌, inl, inr, arith, le_refl, le_of_lt, slice_get}
use Rattle.std.proofs.lemmas.Option.{same_Some, slice_get_within}
use Rattle.layout.specs.Layout.{Layout}
use Rattle.bank.specs.Bank.{Bank, empty_piece}
use Rattle.bank.specs.declared.kind.Kind.{Kind}
use Rattle.mail.specs.Phase.{Phase}
use Rattle.record.specs.declared.call.CallKind.{CallKind}
use Rattle.record.specs.declared.call.CallKind.TheVariants.{Write, Move}
use Rattle.record.specs.Records.{Call, Object, IsNewId, layout_at, bank_at, no_layout, base_at}
use Rattle.record.specs.PhaseOrder.{begun_at, due}
use Rattle.record.specs.declared.stage.Stage.TheVariants.{ReadBegin}
use Rattle.record.specs.Legal.{moves_in, first_stage, source_of, IsOpenedBy}
use Rattle.record.specs.Fragments.{Code, IsValue, kind_tag}
use Rattle.record.specs.Preconditions.{NoOpenMove}
use Rattle.record.specs.Sending.{requests}
use Rattle.record.specs.Steps.{new_phase}
use Rattle.soundness.specs.Sound.{IsSound}
use Rattle.soundness.proofs.BaseLemmas.{RetiredSame, bases_same}
use Rattle.record.proofs.BegunStageLemmas.{begun_tag}
use Rattle.soundness.proofs.ListLemmas.{get_push}
use Rattle.soundness.proofs.Sound.GrowthLemmas.{Grows, bank_stays, unchanged}
use Rattle.soundness.proofs.Sound.GrownItemLemmas.{new_phase_sound, mail_grows, grown_sound}
use Rattle.soundness.proofs.Sound.ItemLemmas.{PhaseSound, CallSound, BankSound, CallsInTurn, Sizes, call_of, open_by}
use Rattle.soundness.proofs.Sound.MailSoundLemmas.{request_sound, all_requests, all_append}
use Rattle.soundness.proofs.Sound.NewCallLemmas.{moves_push, take_all, first_untagged, begun, answered_past, none_coded}
use Rattle.soundness.proofs.Sound.NewPhaseSoundLemmas.{get_pushed, get_last}

-- the record with one more call, which begins its first phase, and with these layouts and banks
abbrev pub added : Object → List Layout → List (List Bank) → (id : ℕ) → CallKind → (now : ℕ) → Kind → (position : ℕ) → Object
added object layouts banks id kind now asked position =
    let layout = get_or layouts position no_layout in
    record object {
      layouts = layouts;
      banks = banks;
      calls = object.calls ++ begun kind id now asked position layout ∷ [];
      mail = object.mail ++ requests id 1 asked position layout.members 0 empty_piece;
    }

-- what a wider record has of the old one, and its further banks, which are sound
pub record Wider (fragment : Code) (now : ℕ) (old new : Object) : Type 0 where
  pub more : length old.layouts ≤ length new.layouts
  pub same_layouts : (p : ℕ) → p < length old.layouts → layout_at new p ≡ layout_at old p
  pub same_banks : (p i : ℕ) → p < length old.layouts → bank_at new p i ≡ bank_at old p i
  pub same_retired : RetiredSame old new
  pub further : (p i : ℕ) → length old.layouts ≤ p → BankSound fragment new now p i (bank_at new p i)

pub added_sound : {fragment : Code} {object : Object} {step now : ℕ} → IsSound fragment object step → step < now →
    (layouts : List Layout) (banks : List (List Bank)) (id : ℕ) → IsNewId object id →
    (kind : CallKind) (asked : Kind) (position : ℕ) →
    Wider fragment now object (added object layouts banks id kind now asked position) →
    Sizes (added object layouts banks id kind now asked position) →
    due (begun_at (first_stage kind (moves_in object.calls)) position) ≡ Some (asked, position) →
    (first_stage kind (moves_in object.calls) ≡ ReadBegin →
    position ≡ base_at (added object layouts banks id kind now asked position) now) →
    position < length object.layouts → kind_tag asked ≡ None → ((value : List ℕ) → kind ≡ Write value → IsValue value) →
    (kind ≡ Move → NoOpenMove object) → IsSound fragment (added object layouts banks id kind now asked position) now
added_sound {fragment = fragment} {object = object} {step = step} {now = now} sound less layouts banks id is_new kind asked position wide
    sizes is_due at_base placed untagged bytes no_open =
    grown_sound sound less grows sizes turns (λ i c e. calls i c (get_pushed object.calls call c i e)) (λ p i. further p i (below_or p))
    (all_append _ object.mail (requests id 1 asked position layout.members 0 empty_piece) (mail_grows sound less grows)
    (all_requests _ id 1 asked position empty_piece layout.members 0 (length layout.members) (omega arith)
    (λ member below. request_sound index phase empty_piece member (get_last object.calls call) refl refl refl below
    (none_coded fragment new position member asked untagged))))
  where
    new : Object
    new = added object layouts banks id kind now asked position

    index : ℕ
    index = length object.calls

    layout : Layout
    layout = layout_at new position

    phase : Phase
    phase = new_phase id 1 asked position layout now

    call : Call
    call = begun kind id now asked position layout

    below_or : (p : ℕ) → (p < length object.layouts) ⊎ (length object.layouts ≤ p)
    below_or p = grind arith

    source_last : source_of new index ≡ moves_in object.calls
    source_last = moves_push object.calls call index (le_refl index) ∙ take_all object.calls

    grows : Grows now object new
    grows = record {
      more = wide.more;
      layouts = wide.same_layouts;
      banks = λ p i h. rw (wide.same_banks p i h) (bank_stays now (bank_at object p i));
      base = λ s early. bases_same object new wide.same_retired s;
      calls = λ i c e. unchanged i c (get_push object.calls call c i e)
          (moves_push object.calls call i (le_of_lt (slice_get_within object.calls i c e)));
    }

    opened : (member : ℕ) → member < length layout.members → IsOpenedBy (bank_at new position member) now
    opened member below =
        rw (wide.same_banks position member placed) (open_by sound now position member less placed
        (rw (wide.same_layouts position placed) at below))

    phases : (place : ℕ) (p : Phase) → slice_get (phase ∷ []) place ≡ Some p → PhaseSound fragment new now p
    phases zero p e =
        subst (PhaseSound fragment new now) (same_Some phase p e) (new_phase_sound (let m = wide.more in omega arith) opened)
    phases (suc place) p e = absurd (cc)

    call_sound : CallSound fragment new now index call
    call_sound = record {
      numbered = (refl, refl, tt);
      begins = refl;
      course = (rw source_last is_due, tt, tt);
      from_base = (rw source_last at_base, tt);
      answer = λ s a. absurd (cc);
      phases = phases;
      settled = λ value s. absurd (cc);
      before_next = λ place p next within fetch after. absurd (cc);
      before_answer = λ k a. absurd (cc);
      written = bytes;
      values = λ value s. absurd (cc);
      called = le_refl now;
      answered = λ at e. absurd (cc);
      tag = λ tag t. absurd (let no : None ≡ Some tag = sym (begun_tag (first_stage kind (source_of new index)) position
          ∙ first_untagged kind (source_of new index)) ∙ t in cc);
    }

    calls : (i : ℕ) (c : Call) → (slice_get object.calls i ≡ Some c) ⊎ ((i ≡ index) × (call ≡ c)) →
        (slice_get object.calls i ≡ Some c) ⊎ CallSound fragment new now i c
    calls i c (inl there) = inl there
    calls i c (inr here) = inr (subst₂ (λ k d. CallSound fragment new now k d) (sym here.0) here.1 call_sound)

    in_turn : (i j : ℕ) (a b : Call) → (slice_get object.calls i ≡ Some a) ⊎ ((i ≡ index) × (call ≡ a)) →
        (slice_get object.calls j ≡ Some b) ⊎ ((j ≡ index) × (call ≡ b)) → i < j → a.called < b.called
    in_turn i j a b (inl p) (inl q) h = sound.legal.in_turn i j a b p q h
    in_turn i j a b (inl p) (inr q) h =
        subst (λ (d : Call). a.called < d.called) q.1 (let past = (call_of sound i a p).called in omega arith)
    in_turn i j a b (inr p) (inl q) h = absurd (let w = slice_get_within object.calls j b q in let s = p.0 in omega arith)
    in_turn i j a b (inr p) (inr q) h = absurd (let s = p.0 in let t = q.0 in omega arith)

    ids : (i j : ℕ) (a b : Call) → (slice_get object.calls i ≡ Some a) ⊎ ((i ≡ index) × (call ≡ a)) →
        (slice_get object.calls j ≡ Some b) ⊎ ((j ≡ index) × (call ≡ b)) → a.id ≡ b.id → i ≡ j
    ids i j a b (inl p) (inl q) e = sound.legal.ids i j a b p q e
    ids i j a b (inl p) (inr q) e = absurd (is_new i a p (e ∙ sym (ap (λ (d : Call). d.id) q.1)))
    ids i j a b (inr p) (inl q) e = absurd (is_new j b q (sym e ∙ sym (ap (λ (d : Call). d.id) p.1)))
    ids i j a b (inr p) (inr q) e = p.0 ∙ sym q.0

    moves : (i j : ℕ) (a b : Call) → (slice_get object.calls i ≡ Some a) ⊎ ((i ≡ index) × (call ≡ a)) →
        (slice_get object.calls j ≡ Some b) ⊎ ((j ≡ index) × (call ≡ b)) → i < j →
        a.kind ≡ Move → b.kind ≡ Move → (s : ℕ) × (a.answered ≡ Some s) × (s < b.called)
    moves i j a b (inl p) (inl q) h k l = sound.legal.moves i j a b p q h k l
    moves i j a b (inl p) (inr q) h k l =
        subst (λ (d : Call). (s : ℕ) × (a.answered ≡ Some s) × (s < d.called)) q.1
        (answered_past sound less i a p a.answered refl (no_open (ap (λ (d : Call). d.kind) q.1 ∙ l) i a p k))
    moves i j a b (inr p) (inl q) h k l = absurd (let w = slice_get_within object.calls j b q in let s = p.0 in omega arith)
    moves i j a b (inr p) (inr q) h k l = absurd (let s = p.0 in let t = q.0 in omega arith)

    turns : CallsInTurn new.calls
    turns = record {
      in_turn = λ i j a b p q h. in_turn i j a b (get_pushed object.calls call a i p) (get_pushed object.calls call b j q) h;
      ids = λ i j a b p q e. ids i j a b (get_pushed object.calls call a i p) (get_pushed object.calls call b j q) e;
      moves = λ i j a b p q h k l. moves i j a b (get_pushed object.calls call a i p) (get_pushed object.calls call b j q) h k l;
    }

    further : (p i : ℕ) → (p < length object.layouts) ⊎ (length object.layouts ≤ p) →
        ((bank_at new p i ≡ bank_at object p i) × (layout_at new p ≡ layout_at object p)) ⊎ BankSound fragment new now p i (bank_at new p i)
    further p i (inl h) = inl (wide.same_banks p i h, wide.same_layouts p h)
    further p i (inr h) = inr (wide.further p i h)
