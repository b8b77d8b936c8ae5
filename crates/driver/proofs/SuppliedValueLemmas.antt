-- What a call sends can be coded, and is what it is to be supplied with.
use Rattle.std.proofs.Common.{◌≡◌, ℕ, pred, ◌<◌, ◌≤◌, ◌&&◌, Bool, true, is_some, List, [], ◌∷◌}
use Rattle.std.proofs.Common.{length, Option, Some, None, option_map, slice_get, sym, ap, subst, ◌∙◌, refl, arith}
use Rattle.std.proofs.lemmas.Bool.{eq-eqb}
use Rattle.tag.specs.declared.limits.TheConstants.{LONGEST_VALUE}
use Rattle.tag.specs.declared.refusal.Refusal.{Refusal}
use Rattle.tag.specs.declared.refusal.Refusal.TheVariants.{NotNow, WrongCode}
use Rattle.encoder.specs.Coded.{Coding}
use Rattle.encoder.specs.Coded as coded
use Rattle.encoder.specs.Fragment.{fragment}
use Rattle.bank.specs.declared.kind.Kind.{Kind}
use Rattle.record.specs.declared.call.CallKind.{CallKind}
use Rattle.record.specs.declared.call.CallKind.TheVariants.{Write}
use Rattle.record.specs.Records.{Call, Object, layout_at}
use Rattle.record.specs.Knowledge.{IsTruePhase}
use Rattle.record.specs.Legal.{due_of}
use Rattle.soundness.specs.Sound.{IsSound}
use Rattle.record.specs.Sending.{sent_value, value_or_empty}
use Rattle.record.specs.Wants.{current_phase, want_of}
use Rattle.record.specs.declared.stage.Want.{Want}
use Rattle.record.specs.declared.stage.Want.TheVariants as want
use Rattle.soundness.proofs.Sound.DuePositionLemmas.{due_there}
use Rattle.soundness.proofs.ListLemmas.{all_get}
use Rattle.soundness.proofs.Quorums.QuorumMeetingLemmas.{lawful_at}
use Rattle.soundness.proofs.Sound.WantCaseLemmas.{last_at}
use Rattle.register.specs.Causes.{call_at, if_call, unless, supply_cause, supplied_cause, supplying_cause}
use Rattle.register.specs.Causes.{supply_room_cause, value_cause}
use Rattle.register.specs.Coding.{bytes_eq, pieces_position, pieces_due, is_coded_for}
use Rattle.register.specs.View.{coding_at, coding_of, to_code}
use Rattle.register.proofs.SentPieceLemmas.{sending_of}
use Rattle.driver.proofs.WantLemmas.{place_of_call}

due_position : (object : Object) (last index position : ℕ) (call : Call) → IsSound fragment object last
    → slice_get object.calls index ≡ Some call
    → (o : Option (Kind × ℕ)) → due_of object index call ≡ o → option_map (λ (n : Kind × ℕ). n.1) o ≡ Some position
    → position < length object.layouts
due_position object last index position call sound at None is e = absurd (cc)
due_position object last index position call sound at (Some next) is e =
    let same : next.1 ≡ position = cc in
    subst (λ p. p < length object.layouts) same (due_there object sound.legal sound.shape index call at next.0 next.1 is)

sent_there : (object : Object) (last index position : ℕ) (call : Call) → IsSound fragment object last
    → slice_get object.calls index ≡ Some call
    → pieces_due object index call ≡ Some position → position < length object.layouts
sent_there object last index position call sound at = go (want_of object index call)
  where
    go : (w : Want) → pieces_position w (due_of object index call) (current_phase call.phases) ≡ Some position
        → position < length object.layouts
    go (want.Supply k n) e = due_position object last index position call sound at (due_of object index call) refl e
    go want.Replies e =
        let s = sending_of (current_phase call.phases) position e in
        let l = last_at call.phases s.phase s.is in
        subst (λ p. p < length object.layouts) s.same
        (all_get (IsTruePhase object) call.phases l.place s.phase (sound.legal.calls index call at).phases l.within).placed
    go _ e = absurd (cc)

sent_short : (object : Object) (last index : ℕ) (call : Call) → IsSound fragment object last → slice_get object.calls index ≡ Some call
    → length (value_or_empty (sent_value call.kind call.settled)) ≤ LONGEST_VALUE
sent_short object last index call sound at = go call.kind refl
  where
    settled : (o : Option (List ℕ)) → call.settled ≡ o → length (value_or_empty o) ≤ LONGEST_VALUE
    settled None e = omega arith
    settled (Some value) e = (sound.values.settled index call value at e).1

    go : (kind : CallKind) → call.kind ≡ kind → length (value_or_empty (sent_value kind call.settled)) ≤ LONGEST_VALUE
    go (Write value) e = (sound.values.written index call value at e).1
    go _ e = settled call.settled refl

-- what is to be coded, with k and n
pub record Sends (object : Object) (number k n : ℕ) (value : List ℕ) : Type 0 where
  pub call : Call
  pub at : call_at object number ≡ Some call
  pub position : ℕ
  pub due_at : pieces_due object (pred number) call ≡ Some position
  pub value_is : value_or_empty (sent_value call.kind call.settled) ≡ value
  pub k_is : (layout_at object position).k ≡ k
  pub n_is : length (layout_at object position).members ≡ n

pub sends : (object : Object) (number k n : ℕ) (value : List ℕ) → coding_at object number ≡ Some (value, k, n)
    → Sends object number k n value
sends object number k n value e = go (call_at object number) refl e
  where
    parts : (call : Call) (position : ℕ) → Some (to_code object call position) ≡ Some (value, k, n)
        → (value_or_empty (sent_value call.kind call.settled) ≡ value) × ((layout_at object position).k ≡ k)
        × (length (layout_at object position).members ≡ n)
    parts call position e = (ap first e, ap second e, ap third e)
      where
        first : Option (List ℕ × ℕ × ℕ) → List ℕ
        first None = []
        first (Some t) = t.0

        second : Option (List ℕ × ℕ × ℕ) → ℕ
        second None = 0
        second (Some t) = t.1

        third : Option (List ℕ × ℕ × ℕ) → ℕ
        third None = 0
        third (Some t) = t.2

    at_position : (call : Call) → call_at object number ≡ Some call → (o : Option ℕ) → pieces_due object (pred number) call ≡ o
        → option_map (to_code object call) o ≡ Some (value, k, n) → Sends object number k n value
    at_position call is None none e = absurd (cc)
    at_position call is (Some position) some e =
        let p = parts call position e in
        record { call = call; at = is; position = position; due_at = some; value_is = p.0; k_is = p.1; n_is = p.2 }

    go : (o : Option Call) → call_at object number ≡ o → coding_of object number o ≡ Some (value, k, n) → Sends object number k n value
    go None is e = absurd (cc)
    go (Some call) is e = at_position call is (pieces_due object (pred number) call) refl e

-- it can be coded
pub codable : (object : Object) (last number k n : ℕ) (value : List ℕ) → IsSound fragment object last
    → coding_at object number ≡ Some (value, k, n) → coded.IsCodable k n value
codable object last number k n value sound e =
    let s = sends object number k n value e in
    let at = place_of_call object number s.call s.at in
    let lawful =
    lawful_at object s.position sound.legal.layouts (sent_there object last (pred number) s.position s.call sound at s.due_at) in
    let short = sent_short object last (pred number) s.call sound at in
    let some = lawful.some in
    let enough = lawful.enough in
    let few = lawful.few in
    let k_is = s.k_is in
    let n_is = s.n_is in
    record {
      some = omega (arith, some, k_is);
      within = omega (arith, enough, k_is, n_is);
      most = omega (arith, few, n_is);
      longest = subst (λ (v : List ℕ). length v ≤ LONGEST_VALUE) s.value_is short;
    }

pub bytes_same : (xs : List ℕ) → bytes_eq xs xs ≡ true
bytes_same [] = refl
bytes_same (x ∷ xs) = ap (λ b. b && bytes_eq xs xs) (eq-eqb x x refl) ∙ bytes_same xs

pub all_three : (a b c : Bool) → a ≡ true → b ≡ true → c ≡ true → (a && (b && c)) ≡ true
all_three true true true p q r = refl
all_three _ _ _ p q r = absurd (cc)

pub supply_is : (object : Object) (number k n now : ℕ) (value : List ℕ) → coding_at object number ≡ Some (value, k, n)
    → supply_cause now object number (record { k = k; n = n; value = value }) ≡ supplying_cause now object number
supply_is object number k n now value e =
    ap (λ o. if_call o (λ call. supplied_cause now object (pred number) call given (pieces_due object (pred number) call))) s.at
    ∙ ap (supplied_cause now object (pred number) s.call given) s.due_at
    ∙ ap (λ b. unless b WrongCode (supply_room_cause now object (pred number) s.call)) right
    ∙ sym (ap (λ (o : Option ℕ). unless (is_some o) NotNow (supply_room_cause now object (pred number) s.call)) s.due_at)
    ∙ sym (ap
    (λ o. if_call o
    (λ call. unless (is_some (pieces_due object (pred number) call)) NotNow (supply_room_cause now object (pred number) call))) s.at)
  where
    s : Sends object number k n value
    s = sends object number k n value e

    given : Coding
    given = record { k = k; n = n; value = value }

    right : is_coded_for (layout_at object s.position) (value_or_empty (sent_value s.call.kind s.call.settled)) given ≡ true
    right =
        all_three _ _ _ (ap (bytes_eq value) s.value_is ∙ bytes_same value) (eq-eqb k (layout_at object s.position).k (sym s.k_is))
        (eq-eqb n (length (layout_at object s.position).members) (sym s.n_is))

-- a refusal to return the value that a call is to send is also the refusal to supply the call with this value
pub value_refused : (object : Object) (number now : ℕ) (refusal : Refusal) → value_cause object number ≡ Some refusal
    → supplying_cause now object number ≡ Some refusal
value_refused object number now refusal = go (call_at object number)
  where
    due : (call : Call) (o : Option ℕ) → unless (is_some o) NotNow None ≡ Some refusal
        → unless (is_some o) NotNow (supply_room_cause now object (pred number) call) ≡ Some refusal
    due call None e = e
    due call (Some position) e = absurd (cc)

    go : (o : Option Call) → if_call o (λ call. unless (is_some (pieces_due object (pred number) call)) NotNow None) ≡ Some refusal
        → if_call o
        (λ call. unless (is_some (pieces_due object (pred number) call)) NotNow
        (supply_room_cause now object (pred number) call)) ≡ Some refusal
    go None e = e
    go (Some call) e = due call (pieces_due object (pred number) call) e
