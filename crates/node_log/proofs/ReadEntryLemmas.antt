-- What `ReadsEntry` says of reading an entry, from what is known of the parts: a head, a body, and what follows.
use Rattle.std.proofs.Common.{◌≡◌, ℕ, ◌+◌, ◌-◌, ◌<◌, ◌≤◌, List, ◌++◌, length, take, inl, inr}
use Rattle.std.proofs.Common.{Option, Some, None, Result, Ok, Err, refl, sym, ap, ◌∙◌, subst, append_assoc, arith, length-append, take_all}
use Rattle.std.specs.Io.KnownBytes.{Consumes, IsAtEnd, prepend_known}
use Rattle.std.proofs.lemmas.List.{get_or_past, get_or-append_right, get_or-append-add, length-take}
use Rattle.frames.specs.Frame.{IsFrame}
use Rattle.node_log.specs.Entry.{IsHead, length_in, digest_in, digest_of, head_of, log_entry_bytes}
use Rattle.node_log.specs.Reading.{HasLogEntry, HasHead, behind_head, body_length, body_at, AreZerosFrom, StopsInBody}
use Rattle.node_log.specs.Reading.{IsEnd, IsDamaged, HadLeft, ReadsEntry, ReadsThis}
use Rattle.node_log.specs.Parts.{IsBodyOf, IsDamagedBody, IsUnread, EndsOrIsDamaged}
use Rattle.node_log.specs.declared.error.Damage.{Damage}
use Rattle.node_log.specs.declared.error.Damage.TheVariants.{WrongHead, WrongDigest, NoFrame}
use Rattle.node_log.specs.declared.error.LogError.{LogError}
use Rattle.node_log.specs.declared.error.LogError.TheVariants as errors
use Rattle.node_log.proofs.HeadLemmas.{front, behind}
use Rattle.node_log.proofs.ZeroLemmas.{Known}
use Rattle.node_log.proofs.EntryLemmas.{parts, not_damaged, one_entry, entry_is_whole}

-- what was read
abbrev pub Read : Type 0
Read = Result (Option (List (List ℕ))) LogError

module _ (chain : ℕ) where
  -- ---- bytes that end early

  no_entry_in : (bytes : List ℕ) → (HasHead chain bytes → length bytes < 16 + body_length bytes) → HasLogEntry chain bytes → ⊥
  no_entry_in bytes short has =
      let p = entry_is_whole chain bytes has in
      let q = short p.0 in
      let r = p.1 in omega arith

  past : (place : ℕ) (bytes : List ℕ) → length bytes ≤ place → AreZerosFrom place bytes
  past place bytes short i h = get_or_past bytes i 0 (omega arith)

  no_head_in : (bytes : List ℕ) → length bytes < 16 → HasHead chain bytes → ⊥
  no_head_in bytes short head =
      let whole = head.whole in omega (arith, ap length (take_all 16 bytes (omega arith)))

  pub ends_in_head : (bytes : List ℕ) → length bytes < 16 → IsEnd chain bytes
  ends_in_head bytes short = (
    no_entry_in bytes (λ head. absurd (no_head_in bytes short head)),
    inl (no_head_in bytes short, past 15 bytes (omega arith)),
  )

  pub ends_in_body : (head ys : List ℕ) → IsHead chain head → length ys < length_in head → IsEnd chain (head ++ ys)
  ends_in_body head ys is short =
      let bytes = head ++ ys in
      let whole = is.whole in
      let first : take 16 (head ++ ys) ≡ head = front 16 head ys is.whole in
      let has : HasHead chain (head ++ ys) = subst (IsHead chain) (sym first) is in
      let long : body_length (head ++ ys) ≡ length_in head = ap length_in first in
      let all = length-append head ys in (
        no_entry_in bytes (λ _. omega arith),
        inr (has, past (16 + (body_length bytes - 1)) bytes (omega arith)),
      )

  pub read_short_head : (old new : Known) (head : List ℕ) (count : ℕ) → Consumes old new (take count head) → count < 16 → IsAtEnd new
      → HadLeft (IsEnd chain) old
  read_short_head None new head count took short end = tt
  read_short_head (Some xs) None head count took short end = absurd took
  read_short_head (Some xs) (Some ys) head count took short end =
      ends_in_head xs (omega (arith, ap length took, ap length end, length-append (take count head) ys, length-take count head))

  pub read_short_body : (old new : Known) (head body : List ℕ) → IsHead chain head → length body < length_in head
      → Consumes old new body → IsAtEnd new → HadLeft (IsEnd chain) (prepend_known head old)
  read_short_body None new head body is short took end = tt
  read_short_body (Some xs) None head body is short took end = absurd took
  read_short_body (Some xs) (Some ys) head body is short took end =
      ends_in_body head xs is (omega (arith, ap length took, ap length end, length-append body ys))

  -- bytes that cannot be read
  pub unread : (old new : Known) (error : LogError) → IsUnread error → ReadsEntry chain old new (Err error)
  unread old new (errors.Damaged damage) is = absurd is
  unread old new errors.NoMemory is = tt
  unread old new (errors.Failed error) is = tt

  -- ---- a part of no entry

  zeros_here : (place : ℕ) (xs ys : List ℕ) → xs ≡ ys → AreZerosFrom place xs → AreZerosFrom place ys
  zeros_here place xs ys e zeros = subst (AreZerosFrom place) e zeros

  -- zeros of what stands behind a front
  zeros_behind : (front ys : List ℕ) (place : ℕ) → AreZerosFrom place ys → AreZerosFrom (length front + place) (front ++ ys)
  zeros_behind front ys place zeros i h =
      get_or-append_right front ys (length front) i 0 refl (omega arith) ∙ zeros (i - length front) (omega arith)

  zeros_of_rest : (front ys : List ℕ) (place : ℕ) → AreZerosFrom (length front + place) (front ++ ys) → AreZerosFrom place ys
  zeros_of_rest front ys place zeros i h = sym (get_or-append-add front ys i 0) ∙ zeros (length front + i) (omega arith)

  pub read_wrong_head : (old mid new : Known) (head : List ℕ) (r : Read) → length head ≡ 16 → (IsHead chain head → ⊥)
      → Consumes old mid head → EndsOrIsDamaged head WrongHead mid r → ReadsEntry chain old new r
  read_wrong_head old mid new head (Ok (Some strings)) whole wrong took made = absurd made
  read_wrong_head None mid new head (Ok None) whole wrong took made = tt
  read_wrong_head (Some xs) None new head (Ok None) whole wrong took made = absurd took
  read_wrong_head (Some xs) (Some ys) new head (Ok None) whole wrong took made =
      let first : take 16 xs ≡ head = ap (take 16) took ∙ front 16 head ys whole in
      let none : HasHead chain xs → ⊥ = λ has. wrong (subst (IsHead chain) first has) in
      let place : length head - 1 ≡ 15 = omega arith in (
        (λ has. none (entry_is_whole chain xs has).0),
        inl (none, zeros_here 15 (head ++ ys) xs (sym took) (subst (λ (n : ℕ). AreZerosFrom n (head ++ ys)) place made)),
      )
  read_wrong_head None mid new head (Err (errors.Damaged found)) whole wrong took made = tt
  read_wrong_head (Some xs) None new head (Err (errors.Damaged found)) whole wrong took made = absurd took
  read_wrong_head (Some xs) (Some ys) new head (Err (errors.Damaged found)) whole wrong took made =
      let first : take 16 xs ≡ head = ap (take 16) took ∙ front 16 head ys whole in
      let place : length head - 1 ≡ 15 = omega arith in
      subst (IsDamaged chain xs) (sym made.0) (
        (λ has. wrong (subst (IsHead chain) first has)),
        (λ zeros. made.1 (subst (λ (n : ℕ). AreZerosFrom n (head ++ ys)) (sym place) (zeros_here 15 xs (head ++ ys) took zeros))),
      )
  read_wrong_head old mid new head (Err errors.NoMemory) whole wrong took made = tt
  read_wrong_head old mid new head (Err (errors.Failed error)) whole wrong took made = tt

  -- the parts chain of a head, a whole body and what follows
  record Whole (head body ys : List ℕ) : Type 0 where
    first : take 16 (head ++ (body ++ ys)) ≡ head
    has_head : HasHead chain (head ++ (body ++ ys))
    at_body : body_at (head ++ (body ++ ys)) ≡ body
    place : 16 + (body_length (head ++ (body ++ ys)) - 1) ≡ length head + (length body - 1)

  whole_of : (head body ys : List ℕ) → IsHead chain head → length body ≡ length_in head → Whole head body ys
  whole_of head body ys is long =
      let bytes = head ++ (body ++ ys) in
      let first : take 16 (head ++ (body ++ ys)) ≡ head = front 16 head (body ++ ys) is.whole in
      let says : body_length (head ++ (body ++ ys)) ≡ length body = ap length_in first ∙ sym long in
      let whole = is.whole in
      record {
        first = first;
        has_head = subst (IsHead chain) (sym first) is;
        at_body = ap (λ (n : ℕ). take n (behind_head bytes)) says ∙ ap (take (length body)) (behind 16 head (body ++ ys) is.whole)
            ∙ front (length body) body ys refl;
        place = omega arith;
      }

  no_entry_of : (head body ys : List ℕ) (damage : Damage) → Whole head body ys → IsDamagedBody head body damage
      → HasLogEntry chain (head ++ (body ++ ys)) → ⊥
  no_entry_of head body ys WrongHead whole wrong has = absurd wrong
  no_entry_of head body ys WrongDigest whole wrong has =
      let (strings, rest, lawful, is) = has in
      let p = parts chain (head ++ (body ++ ys)) strings rest lawful is in
      wrong (ap digest_of (sym whole.at_body ∙ p.body) ∙ sym p.digest ∙ ap digest_in whole.first)
  no_entry_of head body ys NoFrame whole wrong has =
      let (strings, rest, lawful, is) = has in
      let p = parts chain (head ++ (body ++ ys)) strings rest lawful is in
      wrong.1 strings lawful (sym whole.at_body ∙ p.body)

  damaged_body : (head body ys : List ℕ) (damage : Damage) → Whole head body ys → IsDamagedBody head body damage
      → (StopsInBody (head ++ (body ++ ys)) → ⊥) → IsDamaged chain (head ++ (body ++ ys)) damage
  damaged_body head body ys WrongHead whole wrong stops = absurd wrong
  damaged_body head body ys WrongDigest whole wrong stops =
      (whole.has_head, (λ same. wrong (ap digest_of (sym whole.at_body) ∙ same ∙ ap digest_in whole.first)), stops)
  damaged_body head body ys NoFrame whole wrong stops = (
    whole.has_head,
    ap digest_of whole.at_body ∙ wrong.0 ∙ sym (ap digest_in whole.first),
    (λ strings lawful is. wrong.1 strings lawful (sym whole.at_body ∙ is)),
    stops,
  )

  pub read_wrong_body : (old mid new : Known) (head body : List ℕ) (damage : Damage) (r : Read) → IsHead chain head
      → length body ≡ length_in head → IsDamagedBody head body damage → Consumes old mid body → EndsOrIsDamaged body damage mid r
      → ReadsEntry chain (prepend_known head old) new r
  read_wrong_body old mid new head body damage (Ok (Some strings)) is long wrong took made = absurd made
  read_wrong_body None mid new head body damage (Ok None) is long wrong took made = tt
  read_wrong_body (Some xs) None new head body damage (Ok None) is long wrong took made = absurd took
  read_wrong_body (Some xs) (Some ys) new head body damage (Ok None) is long wrong took made =
      let whole = whole_of head body ys is long in
      subst (λ (t : List ℕ). IsEnd chain (head ++ t)) (sym took) (
        no_entry_of head body ys damage whole wrong,
        inr (
          whole.has_head,
          subst (λ (n : ℕ). AreZerosFrom n (head ++ (body ++ ys))) (sym whole.place)
              (zeros_behind head (body ++ ys) (length body - 1) made),
        ),
      )
  read_wrong_body None mid new head body damage (Err (errors.Damaged found)) is long wrong took made = tt
  read_wrong_body (Some xs) None new head body damage (Err (errors.Damaged found)) is long wrong took made = absurd took
  read_wrong_body (Some xs) (Some ys) new head body damage (Err (errors.Damaged found)) is long wrong took made =
      let whole = whole_of head body ys is long in
      subst (λ (t : List ℕ). IsDamaged chain (head ++ t) found) (sym took) (subst (IsDamaged chain (head ++ (body ++ ys))) (sym made.0)
      (damaged_body head body ys damage whole wrong
      (λ zeros. made.1 (zeros_of_rest head (body ++ ys) (length body - 1)
      (subst (λ (n : ℕ). AreZerosFrom n (head ++ (body ++ ys))) whole.place zeros)))))
  read_wrong_body old mid new head body damage (Err errors.NoMemory) is long wrong took made = tt
  read_wrong_body old mid new head body damage (Err (errors.Failed error)) is long wrong took made = tt

  -- ---- a whole entry

  pub read_whole : (old new : Known) (head body : List ℕ) (strings : List (List ℕ)) → IsBodyOf chain head body strings
      → Consumes old new body → ReadsEntry chain (prepend_known head old) new (Ok (Some strings))
  read_whole None new head body strings is took = (is.lawful, tt)
  read_whole (Some xs) None head body strings is took = absurd took
  read_whole (Some xs) (Some ys) head body strings is took = (
    is.lawful,
    ap (λ (t : List ℕ). head ++ t) took
        ∙ sym (append_assoc head body ys)
        ∙ ap (λ (h : List ℕ). (h ++ body) ++ ys) is.is_head
        ∙ ap (λ (b : List ℕ). (head_of chain b ++ b) ++ ys) is.is_frame,
  )

  -- what is read of a head and what follows, once the head was taken
  pub read_on : (old mid new : Known) (head : List ℕ) (r : Read) → Consumes old mid head → ReadsEntry chain (prepend_known head mid) new r
      → ReadsEntry chain old new r
  read_on None mid new head (Ok (Some strings)) took made = (made.0, tt)
  read_on None mid new head (Ok None) took made = tt
  read_on None mid new head (Err (errors.Damaged damage)) took made = tt
  read_on None mid new head (Err errors.NoMemory) took made = tt
  read_on None mid new head (Err (errors.Failed error)) took made = tt
  read_on (Some xs) None new head r took made = absurd took
  read_on (Some xs) (Some ys) new head r took made = subst (λ (t : List ℕ). ReadsEntry chain (Some t) new r) (sym took) made

  -- ---- an entry that stands at the front

  pub reads_this : (old new : Known) (r : Read) → ReadsEntry chain old new r → (strings : List (List ℕ)) (rest : List ℕ) → IsFrame strings
      → old ≡ Some (log_entry_bytes chain strings ++ rest) → ReadsThis strings rest new r
  reads_this old new r made strings rest lawful is =
      here new r (subst (λ (o : Known). ReadsEntry chain o new r) is made)
    where
      here : (new : Known) (r : Read) → ReadsEntry chain (Some (log_entry_bytes chain strings ++ rest)) new r → ReadsThis strings rest new r
      here None (Ok (Some found)) made = absurd made.1
      here (Some ys) (Ok (Some found)) made =
          let same = one_entry chain strings found rest ys lawful made.0 made.1 in
          (sym same.0, ap (λ (t : List ℕ). Some t) (sym same.1))
      here new (Ok None) made = made.0 (strings, rest, lawful, refl)
      here new (Err (errors.Damaged damage)) made = not_damaged chain strings rest lawful damage made
      here new (Err errors.NoMemory) made = tt
      here new (Err (errors.Failed error)) made = tt
