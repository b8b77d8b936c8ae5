-- A call settles a value that was decoded from pieces of its current phase.
use Rattle.std.proofs.Common.{◌≡◌, ℕ, pred, ◌<◌, ◌≤◌, nat_eq, Bool, true, false, List, [], ◌∷◌, length}
use Rattle.std.proofs.Common.{get_or, set, Option, Some, None, sym, ap, subst, ◌∙◌, refl, arith}
use Rattle.std.proofs.lemmas.Option.{same_Some}
use Rattle.std.specs.List.{AllByRecursion, list_all}
use Rattle.std.proofs.lemmas.Bool.{eqb-true}
use Rattle.std.proofs.lemmas.Bool.Decides.{Decides-eqb}
use Rattle.std.proofs.lemmas.Map.Made.{IsDistinct-from_AllPairs}
use Rattle.tag.specs.declared.limits.TheConstants.{MOST_PHASES, MOST_STEPS}
use Rattle.tag.specs.declared.refusal.Refusal.{Refusal}
use Rattle.tag.specs.declared.refusal.Refusal.TheVariants.{WrongCode, Full}
use Rattle.bank.specs.declared.reply.Answer.TheVariants as answer
use Rattle.encoder.specs.Fragment.{fragment}
use Rattle.piece.specs.declared.piece.Piece.{Piece}
use Rattle.decoder.specs.Decoded.{Decoding, IsDecoded}
use Rattle.decoder.specs.Pieces.{points_of}
use Rattle.mail.specs.declared.phase.Taken.{Taken}
use Rattle.mail.specs.Phase.{Phase}
use Rattle.record.specs.Records.{Call, Object, layout_at}
use Rattle.record.specs.Fragments.{answer_piece, answer_tag, IsFetch, IfCoded, HasPiece}
use Rattle.record.specs.Preconditions.{MayStep}
use Rattle.soundness.specs.Sound.{IsSound}
use Rattle.record.specs.Steps.{Step, stepped, settled_object}
use Rattle.record.specs.declared.stage.Want.{Want}
use Rattle.record.specs.Wants.{current_phase, value_len}
use Rattle.record.specs.declared.stage.Want.TheVariants as want
use Rattle.soundness.proofs.Sound.WantCaseLemmas.{Unsettled, last_at}
use Rattle.soundness.proofs.Sound.WantPreconditionLemmas.{unsettled_of}
use Rattle.register.specs.Causes.{settle_cause, unless, if_step, if_settle, is_decoded_in}
use Rattle.register.specs.Coding.{is_recorded, is_decoded_from}
use Rattle.register.specs.Kept.{IsKept}
use Rattle.register.specs.State.{Contents, State, state_of, made}
use Rattle.register.specs.Tracked.{Tracked, calls_of}
use Rattle.register.proofs.FoundCallLemmas.{IsFound, IsWanting, at, at_place, place, same, caused, later}
use Rattle.register.proofs.StepInvariantLemmas.{steps_on, call_kept, open_moves_set}
use Rattle.soundness.proofs.ListLemmas.{all_get}
use Rattle.std.proofs.lemmas.List.{map-set}
use Rattle.register.proofs.ListLemmas.{length_map}
use Rattle.register.proofs.RoomLemmas.{step_within, step_past}
use Rattle.register.proofs.RecordedPieceLemmas.{IsTaken, all_by, both_left, both_right, is_answer, point_is, settle_k}
use Rattle.register.proofs.RecordedPieceLemmas.{settles_with}
use Rattle.register.proofs.RecordedPieceLemmas.{taken_of}

module _ {c : Contents} {number index : ℕ} {t : Tracked} {w : Want} (wanted : IsWanting c number index t w) (decoded : Decoding) where
  abbrev pub object : Object
  object = (state_of c).object

  cause_with : (now : ℕ) (decodes : Bool) → is_decoded_in object (current_phase t.call.phases) decoded ≡ decodes
      → settle_cause now object number decoded ≡ if_settle w (unless decodes WrongCode (if_step now None))
  cause_with now decodes e =
      caused wanted.found _
      ∙ ap (λ v. if_settle v
      (unless (is_decoded_in object (current_phase t.call.phases) decoded) WrongCode (if_step now None))) wanted.wants
      ∙ ap (λ d. if_settle w (unless d WrongCode (if_step now None))) e

  -- one that does not want to settle is refused by what it wants
  pub settle_refused : (now : ℕ) (refusal : Refusal) → ((later : Option Refusal) → if_settle w later ≡ Some refusal)
      → settle_cause now object number decoded ≡ Some refusal
  settle_refused now refusal refused = cause_with now _ refl ∙ refused _

-- a call that is to settle a value, by its current phase
module _ {c : Contents} {number index : ℕ} {t : Tracked} {k len : ℕ} (wanted : IsWanting c number index t (want.Settle k len))
    {phase : Phase} (current : current_phase t.call.phases ≡ Some phase) where
  pub k_is : k ≡ (layout_at (state_of c).object phase.position).k
  k_is =
      let unsettled = unsettled_of (state_of c).object (pred number) t.call k len wanted.wants in
      settle_k k len (layout_at (state_of c).object phase.position).k (value_len phase.replies)
      (sym wanted.wants ∙ settles_with (state_of c).object (pred number) t.call phase current unsettled)

  module _ (decoded : Decoding) (now : ℕ) where
    decoded_with : (decodes : Bool) → is_decoded_from k phase.replies decoded ≡ decodes
        → settle_cause now (state_of c).object number decoded ≡ unless decodes WrongCode (if_step now None)
    decoded_with decodes e =
        cause_with wanted decoded now decodes
        (ap (λ p. is_decoded_in (state_of c).object p decoded) current ∙ ap (λ k. is_decoded_from k phase.replies decoded) (sym k_is) ∙ e)

    pub settle_wrong : is_decoded_from k phase.replies decoded ≡ false
        → settle_cause now (state_of c).object number decoded ≡ Some WrongCode
    settle_wrong wrong = decoded_with false wrong

    -- past the limit of steps
    pub settle_past : is_decoded_from k phase.replies decoded ≡ true → MOST_STEPS < now
        → settle_cause now (state_of c).object number decoded ≡ Some Full
    settle_past right past = decoded_with true right ∙ step_past now None past

    pub settle_none : is_decoded_from k phase.replies decoded ≡ true → now ≤ MOST_STEPS
        → settle_cause now (state_of c).object number decoded ≡ None
    settle_none right within = decoded_with true right ∙ step_within now None within

-- the call once it settled the value
abbrev pub settled_tracked : Tracked → List ℕ → Tracked
settled_tracked t value = record { call = record t.call { settled = Some value }; stage = t.stage }

-- what is read again of the call, with the value that it settles
pub settled_as : {c : Contents} {number index : ℕ} {t old new : Tracked} {value given : List ℕ} → IsFound c number index t
    → old ≡ get_or c.calls index old → new ≡ record { call = record old.call { settled = Some given }; stage = old.stage } → given ≡ value
    → new ≡ settled_tracked t value
settled_as {t = t} {given = given} f read is given_is =
    is ∙ ap (λ (u : Tracked). settled_tracked u given) (sym (same f read)) ∙ ap (settled_tracked t) given_is

-- what the test said
pub told : (k : ℕ) (decoded : Decoding) {replies those : List Taken} {b : Bool} → b ≡ is_decoded_from k those decoded → those ≡ replies
    → b ≡ is_decoded_from k replies decoded
told k decoded is replies_are = is ∙ ap (λ rs. is_decoded_from k rs decoded) replies_are

module _ {c : Contents} {number index : ℕ} {t : Tracked} (found : IsFound c number index t) (value : List ℕ) (now : ℕ) where
  settled_is : state_of (record c { calls = set c.calls index (settled_tracked t value); last = now })
      ≡ made (Step.Settle (pred number) value) now (state_of c)
  settled_is =
      ap (λ calls. state_with calls) (map-set (λ (t : Tracked). t.call) c.calls index (settled_tracked t value))
      ∙ sym (ap (λ (o : Object). state_at o) step_is)
    where
      state_with : List Call → State
      state_with calls = record { object = record (state_of c).object { calls = calls }; last = now }

      state_at : Object → State
      state_at o = record { object = o; last = now }

      step_is : stepped fragment (Step.Settle (pred number) value) now (state_of c).object
          ≡ settled_object (state_of c).object index t.call value
      step_is = cc (at_place found, place found)

  module _ {new : Tracked} (made_is : new ≡ settled_tracked t value) where
    pub settle_is : state_of (record c { calls = set c.calls index new; last = now })
        ≡ made (Step.Settle (pred number) value) now (state_of c)
    settle_is = ap (λ (u : Tracked). state_of (record c { calls = set c.calls index u; last = now })) made_is ∙ settled_is

    pub settle_kept : {s : State} → state_of c ≡ s → s.last < now → MayStep fragment (state_of c).object (Step.Settle (pred number) value)
        → IsKept (record c { calls = set c.calls index new; last = now })
    settle_kept view after may =
        subst (λ (u : Tracked). IsKept (record c { calls = set c.calls index u; last = now })) (sym made_is)
        (call_kept c index now t (settled_tracked t value) c.mail c.is_moving found.kept found.there refl refl
        (found.kept.staged index t found.there)
        (all_get (λ (call : Call). length call.phases ≤ MOST_PHASES) (calls_of c.calls) index t.call found.kept.limits.phases (at found))
        (found.kept.moving ∙ sym (open_moves_set c.calls index t (settled_tracked t value) found.there refl refl))
        (subst (λ (s : State). IsSound fragment s.object now) (sym settled_is)
        (steps_on c now (Step.Settle (pred number) value) (later c view after) found.kept may)))

module _ {c : Contents} {number index : ℕ} {t : Tracked} {k len : ℕ} (wanted : IsWanting c number index t (want.Settle k len))
    {phase : Phase} (current : current_phase t.call.phases ≡ Some phase) (decoded : Decoding) (is : IsDecoded decoded)
    (right : is_decoded_from k phase.replies decoded ≡ true) where
  abbrev found : IsFound c number index t
  found = wanted.found

  abbrev pub o : Object
  o = (state_of c).object

  decoded_k : decoded.k ≡ (layout_at o phase.position).k
  decoded_k = eqb-true decoded.k k (both_left _ _ right) ∙ k_is wanted current

  has_piece_of : (p : Piece) → is_recorded phase.replies p ≡ true → p.len ≡ length decoded.value
      → fragment decoded.value decoded.k p.point ≡ p.bytes
      → HasPiece fragment o phase decoded.value p.point
  has_piece_of p recorded size bytes = record {
    place = taken.place;
    reply = taken.reply;
    within = taken.within;
    same_member = sym (point_is o phase.position taken.reply.member fetch.0 phase.kind taken.reply.reply.answer p fetch.1 answered coded);
    piece = p;
    same_piece = answered;
    is_fragment = record { point = refl; len = size; bytes = sym bytes ∙ ap (λ k. fragment decoded.value k p.point) decoded_k };
  }
    where
      taken : IsTaken phase.replies p
      taken = taken_of phase.replies p recorded

      answered : taken.reply.reply.answer ≡ answer.Piece (Some p)
      answered = is_answer taken.reply.reply.answer p taken.brought

      unsettled : Unsettled t.call false
      unsettled = unsettled_of o (pred number) t.call k len wanted.wants

      fetch : IsFetch phase.kind
      fetch = subst (λ (p : Phase). IsFetch p.kind) (same_Some unsettled.phase phase (sym unsettled.current ∙ current)) unsettled.fetch

      coded : IfCoded fragment o phase.position taken.reply.member (answer_tag phase.kind taken.reply.reply.answer)
          (answer_piece taken.reply.reply.answer)
      coded = all_get (λ (taken : Taken). IfCoded fragment o phase.position taken.member (answer_tag phase.kind taken.reply.answer)
          (answer_piece taken.reply.answer))
          phase.replies taken.place taken.reply
          (let last = last_at t.call.phases phase current in found.kept.sound.coded.phases index last.place t.call phase
          (at found) last.within)
          taken.within

  has_pieces_of : (ps : List Piece) → list_all (is_recorded phase.replies) ps ≡ true
      → AllByRecursion (λ (p : Piece). p.len ≡ length decoded.value) ps
      → AllByRecursion (λ (p : Piece). fragment decoded.value decoded.k p.point ≡ p.bytes) ps
      → AllByRecursion (HasPiece fragment o phase decoded.value) (points_of ps)
  has_pieces_of [] recorded lens bytes = tt
  has_pieces_of (p ∷ ps) recorded lens bytes =
      (has_piece_of p (both_left _ _ recorded) lens.0 bytes.0, has_pieces_of ps (both_right _ _ recorded) lens.1 bytes.1)

  pub may_settle : MayStep fragment o (Step.Settle (pred number) decoded.value)
  may_settle = record {
    call = t.call;
    k = k;
    len = len;
    wants = (at_place found, wanted.wants);
    phase = phase;
    current = current;
    pieces = record {
      members = points_of decoded.pieces;
      distinct = IsDistinct-from_AllPairs {eq = nat_eq} Decides-eqb (points_of decoded.pieces) is.lawful.distinct;
      enough = let e : (layout_at o phase.position).k ≡ length (points_of decoded.pieces) =
          sym decoded_k ∙ sym is.lawful.count ∙ sym (length_map (λ (p : Piece). p.point) decoded.pieces) in omega (arith, e);
      pieces = has_pieces_of decoded.pieces (both_right _ _ right) (all_by _ decoded.pieces is.lawful.lens)
          (all_by _ decoded.pieces is.interpolated.fragments);
    };
    is_value = (all_by (λ b. b < 256) decoded.value is.interpolated.bytes, is.lawful.longest);
  }
