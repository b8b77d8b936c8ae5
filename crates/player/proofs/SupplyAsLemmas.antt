-- A call that is supplied with these bytes, where they are its own, and where they are not.
use Rattle.std.proofs.Common.{◌≡◌, ℕ, pred, ◌≤◌, ◌<◌, Bool, true, false, List, length, Option, Some, None, option_map}
use Rattle.std.proofs.Common.{nat_lt, ◌&&◌, ◌||◌, ◌==◌, if◌then◌else◌, refl, sym, ap, ap₂, ◌∙◌, arith}
use Rattle.std.specs.Cmp.Lexicographic.{same_text}
use Rattle.std.proofs.lemmas.Bool.Decides.{nat_tests}
use Rattle.tag.specs.declared.limits.TheConstants.{LONGEST_VALUE, MOST_MEMBERS}
use Rattle.tag.specs.declared.refusal.Refusal.{Refusal}
use Rattle.tag.specs.declared.refusal.Refusal.TheVariants.{BadLayout, TooLong, WrongCode}
use Rattle.bank.specs.declared.kind.Kind.{Kind}
use Rattle.encoder.specs.Fragment.{fragment}
use Rattle.encoder.specs.Coded.{Coding, IsCodable, encode_cause}
use Rattle.record.specs.declared.stage.Want.{Want}
use Rattle.record.specs.declared.stage.Want.TheVariants as want
use Rattle.record.specs.Records.{Object}
use Rattle.record.specs.Legal.{due_of}
use Rattle.soundness.specs.Sound.{IsSound}
use Rattle.record.specs.Sending.{sent_value, value_or_empty}
use Rattle.record.specs.Wants.{current_phase}
use Rattle.soundness.proofs.Sound.SentPieceLemmas.{supply_counts}
use Rattle.register.proofs.RoomLemmas.{is_lt, not_lt}
use Rattle.register.specs.Causes.{if_call, unless, supply_cause, supplied_cause, supply_room_cause}
use Rattle.register.specs.Causes.{supplying_cause}
use Rattle.register.specs.Coding.{bytes_eq, pieces_due, pieces_position}
use Rattle.register.specs.State.{State}
use Rattle.register.specs.View.{want_at, value_of, value_at, coding_at, coding_of, to_code}
use Rattle.cluster.specs.Cluster.{Cluster, named}
use Rattle.cluster.specs.Causes.{next, object_cause}
use Rattle.driver.specs.Driver.{wanted}
use Rattle.driver.proofs.NamedObjectLemmas.{read_there, cause_there}
use Rattle.driver.proofs.SuppliedValueLemmas.{Sends, sends, codable, supply_is}
use Rattle.driver.proofs.WantLemmas.{wants_at}
use Rattle.player.specs.CodingCommands.{first_cause_of, coding_cause, coding_for, supplying_as_cause}

module _ (object : Object) (number k n : ℕ) (wants : want_at object number ≡ Some (want.Supply k n)) where
  -- the value that the call sends
  abbrev pub own : List ℕ
  own = value_or_empty (value_at object number)

  -- it is to be coded with this k and n
  pub coding_is : coding_at object number ≡ Some (own, k, n)
  coding_is =
      let w = wants_at object number (want.Supply k n) wants in
      let counts = supply_counts object (pred number) w.call k n w.wants in
      ap (coding_of object number) w.at
      ∙ ap (λ v. option_map (to_code object w.call)
      (pieces_position v (due_of object (pred number) w.call) (current_phase w.call.phases))) w.wants
      ∙ ap (λ (o : Option (Kind × ℕ)). option_map (to_code object w.call) (option_map (λ (m : Kind × ℕ). m.1) o)) counts.2
      ∙ same _ _ _ _ _ _ (sym (ap (λ o. value_or_empty (value_of o)) w.at)) counts.3 counts.4
    where
      coding : List ℕ → ℕ → ℕ → Option (List ℕ × ℕ × ℕ)
      coding v a c = Some (v, a, c)

      same : (v u : List ℕ) (a b c d : ℕ) → v ≡ u → b ≡ a → d ≡ c → coding v a c ≡ coding u b d
      same v u a b c d e f g = cc

  -- other bytes are the wrong code
  pub wrong_is : (now : ℕ) (value : List ℕ) → (value ≡ own → ⊥)
      → supply_cause now object number (record { k = k; n = n; value = value }) ≡ Some WrongCode
  wrong_is now value other =
      ap (λ o. if_call o (λ call. supplied_cause now object (pred number) call given (pieces_due object (pred number) call))) s.at
      ∙ ap (supplied_cause now object (pred number) s.call given) s.due_at
      ∙ ap (λ b. unless b WrongCode (supply_room_cause now object (pred number) s.call)) (apart (bytes_eq value sent) _ refl)
    where
      s : Sends object number k n own
      s = sends object number k n own coding_is

      given : Coding
      given = record { k = k; n = n; value = value }

      sent : List ℕ
      sent = value_or_empty (sent_value s.call.kind s.call.settled)

      apart : (b rest : Bool) → bytes_eq value sent ≡ b → (b && rest) ≡ false
      apart false rest e = refl
      apart true rest e = absurd (other (same_text value sent (sym e) ∙ s.value_is))

-- a lawful k and n leave only the length to refuse
pub length_decides : (k n len : ℕ) (value : List ℕ) → IsCodable k n value
    → encode_cause k n len ≡ (if nat_lt LONGEST_VALUE len then Some TooLong else None)
length_decides k n len value lawful =
    let some = lawful.some in
    let some_is : (k == 0) ≡ false = grind (arith, nat_tests, some) in
    ap₂ (λ (c d : Bool). if c || d || nat_lt MOST_MEMBERS n then Some BadLayout else by_length) some_is (not_lt n k lawful.within)
    ∙ ap (λ (b : Bool). if b then Some BadLayout else by_length) (not_lt MOST_MEMBERS n lawful.most)
  where
    by_length : Option Refusal
    by_length = if nat_lt LONGEST_VALUE len then Some TooLong else None

module _ (cluster : Cluster) (name : List ℕ) (call : ℕ) (value : List ℕ) where
  abbrev cause : Object → Option Refusal
  cause object = supplying_as_cause cluster call value object

  module _ (state : State) (there : named cluster.objects name ≡ Some state) where
    abbrev here : Object
    here = state.object

    cause_is : (w : Want) → wanted cluster name call ≡ Some w → object_cause cluster name cause
        ≡ first_cause_of (coding_cause value (Some w)) (supply_cause (next cluster) here call (coding_for value (Some w)))
    cause_is w e =
        cause_there cluster name state cause there
        ∙ ap (λ o. first_cause_of (coding_cause value o) (supply_cause (next cluster) here call (coding_for value o)))
        (sym (read_there cluster name state (λ object. want_at object call) there) ∙ e)

    module _ (k n : ℕ) (sound : IsSound fragment here state.last) (e : wanted cluster name call ≡ Some (want.Supply k n)) where
      wants : want_at here call ≡ Some (want.Supply k n)
      wants = sym (read_there cluster name state (λ object. want_at object call) there) ∙ e

      code_is : encode_cause k n (length value) ≡ (if nat_lt LONGEST_VALUE (length value) then Some TooLong else None)
      code_is =
          length_decides k n (length value) (own here call k n wants)
          (codable here state.last call k n (own here call k n wants) sound (coding_is here call k n wants))

      by_length : (b : Bool) → nat_lt LONGEST_VALUE (length value) ≡ b → object_cause cluster name cause
          ≡ first_cause_of (if b then Some TooLong else None)
          (supply_cause (next cluster) here call (record { k = k; n = n; value = value }))
      by_length b is =
          cause_is (want.Supply k n) e
          ∙ ap (λ c. first_cause_of c (supply_cause (next cluster) here call (record { k = k; n = n; value = value })))
          (code_is ∙ ap (λ b. if b then Some TooLong else None) is)

      pub too_long : LONGEST_VALUE < length value → object_cause cluster name cause ≡ Some TooLong
      too_long long = by_length true (is_lt LONGEST_VALUE (length value) long)

      pub other_value : length value ≤ LONGEST_VALUE → (value ≡ value_or_empty (value_at here call) → ⊥)
          → object_cause cluster name cause ≡ Some WrongCode
      other_value short other =
          by_length false (not_lt LONGEST_VALUE (length value) short) ∙ wrong_is here call k n wants (next cluster) value other

      pub own_value : length value ≤ LONGEST_VALUE → value ≡ value_or_empty (value_at here call)
          → object_cause cluster name cause ≡ object_cause cluster name (λ object. supplying_cause (next cluster) object call)
      own_value short same =
          by_length false (not_lt LONGEST_VALUE (length value) short)
          ∙ supply_is here call k n (next cluster) value
          (coding_is here call k n wants ∙ ap (λ (v : List ℕ). Some (v, k, n)) (sym same))
          ∙ sym (cause_there cluster name state (λ object. supplying_cause (next cluster) object call) there)
