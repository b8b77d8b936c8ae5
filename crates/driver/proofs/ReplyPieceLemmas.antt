-- The pieces that replies bring are the members' pieces of one value, each at its point.
use Rattle.std.proofs.Common.{◌≡◌, ℕ, zero, suc, ◌<◌, ◌≤◌, ◌==◌, nat_eq, Bool, true, false, cond, is_some, List, [], ◌∷◌, ◌++◌}
use Rattle.std.proofs.Common.{length, take, Option, Some, None, IsSome, slice_get, inl, inr, sym, ap, subst, ◌∙◌, refl}
use Rattle.std.proofs.Common.{arith}
use Rattle.std.specs.List.{AllByRecursion, IsDistinct}
use Rattle.std.proofs.lemmas.Bool.{eqb-true, eq-eqb}
use Rattle.tag.specs.declared.tag.Tag.{Tag}
use Rattle.encoder.specs.Fragment.{fragment, piece_at_point}
use Rattle.piece.specs.declared.piece.Piece.{Piece}
use Rattle.bank.specs.declared.kind.Kind.TheVariants.{Fetch}
use Rattle.bank.specs.declared.reply.Answer.{Answer}
use Rattle.bank.specs.declared.reply.Answer.TheVariants as answer
use Rattle.mail.specs.declared.phase.Taken.{Taken}
use Rattle.mail.specs.Phase.{members_of}
use Rattle.record.specs.Records.{Object, layout_at}
use Rattle.record.specs.Fragments.{IsValue, IfCoded, answer_piece, answer_tag}
use Rattle.record.specs.Journals.{IsJournaled}
use Rattle.soundness.specs.Sound.{IsSound}
use Rattle.record.specs.Wants.{value_len, len_or}
use Rattle.register.specs.Coding.{piece_by, piece_list, pieces_below}

-- a reply that brought a piece brought the member's piece of the value
abbrev pub Brought : (value : List ℕ) → (k : ℕ) → Taken → Type 0
Brought value k t = (piece : Piece) → answer_piece t.reply.answer ≡ Some piece → piece ≡ piece_at_point value k t.member

-- a piece is the value's at its point, which is below n
abbrev pub IsPieceOfValueBelow : (value : List ℕ) → (k n : ℕ) → Piece → Type 0
IsPieceOfValueBelow value k n piece = (piece ≡ piece_at_point value k piece.point) × (piece.point < n)

pub by_member : (value : List ℕ) (k : ℕ) (replies : List Taken) (member : ℕ) (piece : Piece) → AllByRecursion (Brought value k) replies
    → piece_by replies member ≡ Some piece
    → piece ≡ piece_at_point value k member
by_member value k [] member piece all e = absurd (cc)
by_member value k (t ∷ replies) member piece all e = go (by_member value k replies member piece all.1) (t.member == member) refl
  where
    go : (piece_by replies member ≡ Some piece → piece ≡ piece_at_point value k member) → (b : Bool) → (t.member == member) ≡ b
        → piece ≡ piece_at_point value k member
    go rest true same =
        all.0 piece (sym (ap (λ b. cond b (answer_piece t.reply.answer) (piece_by replies member)) same) ∙ e)
        ∙ ap (piece_at_point value k) (eqb-true t.member member same)
    go rest false apart = rest (sym (ap (λ b. cond b (answer_piece t.reply.answer) (piece_by replies member)) apart) ∙ e)

is_of : (value : List ℕ) (k member : ℕ) (piece : Piece) → piece ≡ piece_at_point value k member
    → IsPieceOfValueBelow value k (suc member) piece
is_of value k member piece e =
    let point : piece.point ≡ member = ap (λ (p : Piece). p.point) e in
    (e ∙ ap (piece_at_point value k) (sym point), omega (arith, point))

all_listed : (P : Piece → Type 0) (o : Option Piece) → ((piece : Piece) → o ≡ Some piece → P piece) → AllByRecursion P (piece_list o)
all_listed P None each = tt
all_listed P (Some piece) each = (each piece refl, tt)

pub all_both : (P : Piece → Type 0) (xs ys : List Piece) → AllByRecursion P xs → AllByRecursion P ys → AllByRecursion P (xs ++ ys)
all_both P [] ys a b = b
all_both P (x ∷ xs) ys a b = (a.0, all_both P xs ys a.1 b)

all_wider : (value : List ℕ) (k n : ℕ) (xs : List Piece) → AllByRecursion (IsPieceOfValueBelow value k n) xs
    → AllByRecursion (IsPieceOfValueBelow value k (suc n)) xs
all_wider value k n [] all = tt
all_wider value k n (x ∷ xs) all = ((all.0.0, (let less = all.0.1 in omega (arith, less))), all_wider value k n xs all.1)

pub all_take : (P : Piece → Type 0) (k : ℕ) (xs : List Piece) → AllByRecursion P xs → AllByRecursion P (take k xs)
all_take P (suc k) (x ∷ xs) all = (all.0, all_take P k xs all.1)
all_take P _ _ all = tt

pub take_length : (k : ℕ) (xs : List Piece) → k ≤ length xs → length (take k xs) ≡ k
take_length zero xs within = refl
take_length (suc k) [] within = absurd (omega (arith, within))
take_length (suc k) (x ∷ xs) within = ap suc (take_length k xs (omega (arith, within)))

pub all_below : (value : List ℕ) (k : ℕ) (replies : List Taken) (n : ℕ) → AllByRecursion (Brought value k) replies
    → AllByRecursion (IsPieceOfValueBelow value k n) (pieces_below replies n)
all_below value k replies zero all = tt
all_below value k replies (suc n) all =
    all_both (IsPieceOfValueBelow value k (suc n)) (pieces_below replies n) (piece_list (piece_by replies n))
    (all_wider value k n (pieces_below replies n) (all_below value k replies n all))
    (all_listed (IsPieceOfValueBelow value k (suc n)) (piece_by replies n)
    (λ piece e. is_of value k n piece (by_member value k replies n piece all e)))

-- a member that replied a piece brought it
pub first_reply : (replies : List Taken) (place : ℕ) (t : Taken) → IsDistinct nat_eq (members_of replies) → slice_get replies place ≡ Some t
    → piece_by replies t.member ≡ answer_piece t.reply.answer
unfolding IsDistinct
first_reply [] place t distinct within = absurd (cc)
first_reply (first ∷ replies) zero t distinct within =
    let same : first ≡ t = cc in
    cc (eq-eqb first.member t.member (ap (λ (t : Taken). t.member) same), same)
first_reply (first ∷ replies) (suc place) t distinct within =
    ap (λ b. cond b (answer_piece first.reply.answer) (piece_by replies t.member)) (apart_of replies place t distinct.0 within)
    ∙ first_reply replies place t distinct.1 within
  where
    apart_of : (replies : List Taken) (place : ℕ) (t : Taken) → AllByRecursion (λ y. nat_eq first.member y ≡ false) (members_of replies)
        → slice_get replies place ≡ Some t
        → nat_eq first.member t.member ≡ false
    apart_of [] place t all within = absurd (cc)
    apart_of (r ∷ replies) zero t all within = let same : r ≡ t =
        cc in subst (λ (t : Taken). nat_eq first.member t.member ≡ false) same all.0
    apart_of (r ∷ replies) (suc place) t all within = apart_of replies place t all.1 within

pub len_is : (value : List ℕ) (k : ℕ) (replies : List Taken) (place : ℕ) (t : Taken) (piece : Piece)
    → AllByRecursion (Brought value k) replies
    → slice_get replies place ≡ Some t → answer_piece t.reply.answer ≡ Some piece → value_len replies ≡ length value
len_is value k [] place t piece all within e = absurd (cc)
len_is value k (first ∷ replies) place t piece all within e =
    go (λ place within. len_is value k replies place t piece all.1 within e) (answer_piece first.reply.answer) refl place within
  where
    go : ((place : ℕ) → slice_get replies place ≡ Some t → value_len replies ≡ length value) → (o : Option Piece)
        → answer_piece first.reply.answer ≡ o → (place : ℕ) → slice_get (first ∷ replies) place ≡ Some t
        → len_or o (value_len replies) ≡ length value
    go rest (Some other) is place within = ap (λ (p : Piece). p.len) (all.0 other is)
    go rest None is zero within = absurd (let same : first ≡ t = cc in let f = ap (λ (t : Taken). answer_piece t.reply.answer) same in cc)
    go rest None is (suc place) within = rest place within

-- the pieces that a reply brings by the code are of the value
pub brought_of : (object : Object) (position : ℕ) (tag : Tag) (value : List ℕ) (t : Taken)
    → ((v : List ℕ) → IsJournaled object tag v → v ≡ value)
    → IfCoded fragment object position t.member (answer_tag (Fetch tag) t.reply.answer) (answer_piece t.reply.answer)
    → Brought value (layout_at object position).k t
brought_of object position tag value t unique coded piece e = go t.reply.answer e coded
  where
    go : (a : Answer) → answer_piece a ≡ Some piece → IfCoded fragment object position t.member (answer_tag (Fetch tag) a) (answer_piece a)
        → piece ≡ piece_at_point value (layout_at object position).k t.member
    go (answer.Piece o) e coded =
        let fits = coded.fits piece e in
        let same = unique coded.value coded.journaled in
        λ i. record {
          point = fits.point i;
          len = (fits.len ∙ ap length same) i;
          bytes = (fits.bytes ∙ ap (λ (v : List ℕ). fragment v (layout_at object position).k t.member) same) i;
        }
    go _ e coded = absurd (cc)

pub some_is : (o : Option Piece) → IsSome o → is_some o ≡ true
some_is None some = absurd (cc)
some_is (Some piece) some = refl

pub piece_there : (o : Option Piece) → IsSome o → (piece : Piece) × (o ≡ Some piece)
piece_there None some = absurd (cc)
piece_there (Some piece) some = (piece, refl)

pub coded_value : (object : Object) (position member : ℕ) (tag : Tag) (a : Answer) (piece : Piece) → answer_piece a ≡ Some piece
    → IfCoded fragment object position member (answer_tag (Fetch tag) a) (answer_piece a) → (value : List ℕ) × IsJournaled object tag value
coded_value object position member tag (answer.Piece o) piece e coded = (coded.value, coded.journaled)
coded_value object position member tag _ piece e coded = absurd (cc)

pub journaled_value : (object : Object) (last : ℕ) (tag : Tag) (value : List ℕ) → IsSound fragment object last
    → IsJournaled object tag value
    → IsValue value
journaled_value object last tag value sound (inl opening) = subst (λ v. IsValue v) (sym opening.1) (tt, omega arith)
journaled_value object last tag value sound (inr written) = sound.values.written written.index written.call value written.at written.kind

pub all_weaker : {X : Type 0} (P Q : X → Type 0) (xs : List X) → ((x : X) → P x → Q x) → AllByRecursion P xs → AllByRecursion Q xs
all_weaker P Q [] each all = tt
all_weaker P Q (x ∷ xs) each all = (each x all.0, all_weaker P Q xs each all.1)
