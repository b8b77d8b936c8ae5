-- A value that was decoded from pieces of a call's replies may be settled.
use Rattle.std.proofs.Common.{◌≡◌, ℕ, zero, suc, ◌<◌, nat_eq, eqb, eqb-true, Bool, true, false, cond, List, [], ◌∷◌, ◌++◌, length, take}
use Rattle.std.proofs.Common.{slice_get, Option, Some, None, MatchOption, refl, sym, ap, ◌∙◌, arith}
use Rattle.std.specs.List.{All, AllByRecursion}
use Rattle.std.specs.Option.{option_to_list}
use Rattle.std.proofs.lemmas.Bool.Decides.{Decides-eqb}
use Rattle.std.proofs.lemmas.Map.Made.{IsDistinct-from_AllPairs}
use Rattle.bank.specs.declared.reply.Answer.{Answer}
use Rattle.bank.specs.declared.reply.Answer.TheVariants as answer
use Rattle.encoder.specs.Fragment.{fragment}
use Rattle.piece.specs.declared.piece.Piece.{Piece}
use Rattle.decoder.specs.Pieces.{AreLawful, HaveNoValue, IsInterpolated, points_of}
use Rattle.decoder.specs.Decoded.{IsDecoded}
use Rattle.std.proofs.Common.{◌⊎◌, inl, inr, subst}
use Rattle.std.proofs.lemmas.Option.{none-some, same_Some}
use Rattle.layout.specs.Layout.{Layout}
use Rattle.mail.specs.declared.phase.Taken.{Taken}
use Rattle.record.specs.Fragments.{answer_piece, HasPiece, HasPieces}
use Rattle.record.specs.Records.{Object, layout_at}
use Rattle.call.specs.Call.{OpenCall as Machine}
use Rattle.open_calls.specs.OpenCalls.{NodeCall}
use Rattle.local_object.specs.declared.report.Report.{Report}
use Rattle.local_object.specs.Codes.{at_node}
use Rattle.local_object.specs.Going.{IsFetchedValue}
use Rattle.local_object.specs.Local.{Place, layout_in, heard_place}
use Rattle.local_object.specs.May.{IsFetchedHere}
use Rattle.local_object.specs.Pieces.{at_point, first_pieces, own_pieces}
use Rattle.local_object.proofs.NextLemmas.{IsSettling, fetching_of}

-- by index, and by recursion
pub all_by : {X : Type 0} (P : X → Type 0) (xs : List X) → All P xs → AllByRecursion P xs
all_by P [] all = tt
all_by P (x ∷ xs) all = (all 0 x (omega arith), all_by P xs (λ i d h. all (suc i) d (omega (arith, h))))

pub all_take : {X : Type 0} (P : X → Type 0) (k : ℕ) (xs : List X) → AllByRecursion P xs → AllByRecursion P (take k xs)
all_take P zero xs all = tt
all_take P (suc k) [] all = tt
all_take P (suc k) (x ∷ xs) all = (all.0, all_take P k xs all.1)

pub all_map : {X : Type 0} (P Q : X → Type 0) (xs : List X) → ((x : X) → P x → Q x) → AllByRecursion P xs → AllByRecursion Q xs
all_map P Q [] f all = tt
all_map P Q (x ∷ xs) f all = (f x all.0, all_map P Q xs f all.1)

pub length_points : (pieces : List Piece) → length (points_of pieces) ≡ length pieces
length_points [] = refl
length_points (p ∷ ps) = ap suc (length_points ps)

-- a reply that carries the piece at the point of its member
record IsOwn (replies : List Taken) (piece : Piece) : Type 0 where
  pub place : ℕ
  pub reply : Taken
  pub within : slice_get replies place ≡ Some reply
  pub same : piece.point ≡ reply.member
  pub carried : answer_piece reply.reply.answer ≡ Some piece

later_own : (r : Taken) (replies : List Taken) (piece : Piece) → IsOwn replies piece → IsOwn (r ∷ replies) piece
later_own r replies piece own =
    record { place = suc own.place; reply = own.reply; within = own.within; same = own.same; carried = own.carried }

own_all : (replies : List Taken) → AllByRecursion (IsOwn replies) (own_pieces replies)
own_all [] = tt
own_all (r ∷ rs) =
    go (answer_piece r.reply.answer) refl
    (all_map (IsOwn rs) (IsOwn (r ∷ rs)) (own_pieces rs) (λ piece own. later_own r rs piece own) (own_all rs))
  where
    go : (o : Option Piece) → answer_piece r.reply.answer ≡ o → AllByRecursion (IsOwn (r ∷ rs)) (own_pieces rs)
        → AllByRecursion (IsOwn (r ∷ rs)) (option_to_list (at_point r.member o) ++ own_pieces rs)
    go None carries rest = rest
    go (Some p) carries rest = at (eqb p.point r.member) refl
      where
        at : (b : Bool) → eqb p.point r.member ≡ b
            → AllByRecursion (IsOwn (r ∷ rs)) (option_to_list (cond b (Some p) None) ++ own_pieces rs)
        at true t = (record { place = 0; reply = r; within = refl; same = eqb-true p.point r.member t; carried = carries }, rest)
        at false t = rest

is_answer : (a : Answer) (piece : Piece) → answer_piece a ≡ Some piece → a ≡ answer.Piece (Some piece)
is_answer (answer.Piece o) piece e = ap answer.Piece e
is_answer answer.Done piece e = absurd (cc)
is_answer (answer.Pointer status) piece e = absurd (cc)
is_answer (answer.Greatest tag) piece e = absurd (cc)

module _ (places : List Place) (call : Machine) (value : List ℕ) (is : IsFetchedValue places call value) (object : Object)
    (same : layout_at object call.phase.position ≡ is.layout) where
  abbrev replies : List Taken
  replies = call.phase.replies

  has_piece : (p : Piece) → IsOwn replies p → p.len ≡ length value → fragment value is.layout.k p.point ≡ p.bytes
      → HasPiece fragment object call.phase value p.point
  has_piece p own size bytes = record {
    place = own.place;
    reply = own.reply;
    within = own.within;
    same_member = sym own.same;
    piece = p;
    same_piece = is_answer own.reply.reply.answer p own.carried;
    is_fragment = record {
      point = refl;
      len = size;
      bytes = sym bytes ∙ ap (λ (l : Layout). fragment value l.k p.point) (sym same);
    };
  }

  all_pieces : (ps : List Piece) → AllByRecursion (IsOwn replies) ps → AllByRecursion (λ (p : Piece). p.len ≡ length value) ps
      → AllByRecursion (λ (p : Piece). fragment value is.layout.k p.point ≡ p.bytes) ps
      → AllByRecursion (HasPiece fragment object call.phase value) (points_of ps)
  all_pieces [] own lens bytes = tt
  all_pieces (p ∷ ps) own lens bytes = (has_piece p own.0 lens.0 bytes.0, all_pieces ps own.1 lens.1 bytes.1)

  pub has_pieces : HasPieces fragment object call.phase value
  has_pieces =
      let pieces = first_pieces is.layout.k replies in record {
        members = points_of pieces;
        distinct = IsDistinct-from_AllPairs {eq = nat_eq} Decides-eqb (points_of pieces) is.decoded.lawful.distinct;
        enough = let e : (layout_at object call.phase.position).k ≡ length (points_of pieces) =
            ap (λ (l : Layout). l.k) same ∙ sym is.decoded.lawful.count ∙ sym (length_points pieces) in omega (arith, e);
        pieces = all_pieces pieces (all_take (IsOwn replies) is.layout.k (own_pieces replies) (own_all replies))
            (all_by _ pieces is.decoded.lawful.lens) (all_by _ pieces is.decoded.interpolated.fragments);
      }

pub may_settle_here : (owner node : ℕ) (delta : Option ℕ) (start : ℕ) (reports : List Report) (places : List Place) (calls : List NodeCall)
    (call : Machine) (value : List ℕ) → IsSettling call false → IsFetchedValue places call value
    → IsFetchedHere fragment (record { node = owner; delta = delta; start = start; places = places; reports = reports; calls = calls })
    (at_node node call) value
may_settle_here owner node delta start reports places calls call value settling is =
    let fetching = fetching_of call false settling in record {
      complete = settling.complete;
      fetch = fetching.0;
      unsettled = fetching.1;
      enough = settling.lacking;
      layout = is.layout;
      known = is.known;
      pieces = λ object same. has_pieces places call value is object same;
      is_value = (all_by (λ b. b < 256) value is.decoded.interpolated.bytes, is.decoded.lawful.longest);
    }

-- where these pieces do not decode

first_len : (pieces : List Piece) (piece : Piece) (len : ℕ) → slice_get pieces 0 ≡ Some piece
    → AllByRecursion (λ (p : Piece). p.len ≡ len) pieces → piece.len ≡ len
first_len [] piece len at all = absurd (cc)
first_len (p ∷ ps) piece len at all = subst (λ (q : Piece). q.len ≡ len) (same_Some p piece at) all.0

-- no value is decoded from no piece
pub none_decoded : (k : ℕ) (pieces : List Piece) (value : List ℕ) → pieces ≡ []
    → IsDecoded (record { k = k; pieces = pieces; value = value }) → ⊥
none_decoded k pieces value none is =
    let count = is.lawful.count in
    let some = is.lawful.some in
    let empty : length pieces ≡ 0 = ap length none in
    absurd (omega arith)

pub not_decoded : (k len : ℕ) (pieces : List Piece) (piece : Piece) (value : List ℕ) → slice_get pieces 0 ≡ Some piece → len ≡ piece.len
    → ((¬ AreLawful k len pieces) ⊎ HaveNoValue k len pieces)
    → IsDecoded (record { k = k; pieces = pieces; value = value }) → ⊥
not_decoded k len pieces piece value at same bad is =
    let e : length value ≡ len = sym (first_len pieces piece (length value) at (all_by _ pieces is.lawful.lens)) ∙ sym same in
    go bad (subst (λ n. AreLawful k n pieces) e is.lawful) (subst (λ n. IsInterpolated k n pieces value) e is.interpolated)
  where
    go : ((¬ AreLawful k len pieces) ⊎ HaveNoValue k len pieces) → AreLawful k len pieces → IsInterpolated k len pieces value → ⊥
    go (inl not) lawful interpolated = not lawful
    go (inr none) lawful interpolated = none value interpolated

-- a value is fetched by the layout that is known
pub fetched_by : (places : List Place) (call : Machine) (layout : Layout) (value : List ℕ)
    → layout_in (heard_place places call.phase.position) ≡ Some layout → IsFetchedValue places call value
    → IsDecoded (record { k = layout.k; pieces = first_pieces layout.k call.phase.replies; value = value })
fetched_by places call layout value known is =
    subst (λ (l : Layout). IsDecoded (record { k = l.k; pieces = first_pieces l.k call.phase.replies; value = value }))
    (same_Some is.layout layout (sym is.known ∙ known)) is.decoded

pub none_fetched : (places : List Place) (call : Machine) (value : List ℕ) → layout_in (heard_place places call.phase.position) ≡ None
    → IsFetchedValue places call value → ⊥
none_fetched places call value none is = none-some is.layout (sym none ∙ is.known)

pub empty_of : (pieces : List Piece) → None ≡ slice_get pieces 0 → pieces ≡ []
empty_of [] none = refl
empty_of (p ∷ ps) none = absurd (cc)

pub decoded_as : {k l : ℕ} {ps qs : List Piece} {value : List ℕ} → k ≡ l → ps ≡ qs
    → IsDecoded (record { k = k; pieces = ps; value = value }) → IsDecoded (record { k = l; pieces = qs; value = value })
decoded_as {l = l} {ps = ps} {value = value} same pieces is =
    subst (λ (qs : List Piece). IsDecoded (record { k = l; pieces = qs; value = value })) pieces
    (subst (λ k. IsDecoded (record { k = k; pieces = ps; value = value })) same is)

-- facts of an optional value, by weaker ones
pub match_weaker : {X : Type 0} {P Q : Type 0} {R S : X → Type 0} (o : Option X) → (P → Q) → ((x : X) → R x → S x)
    → MatchOption o P R → MatchOption o Q S
match_weaker None f g h = f h
match_weaker (Some x) f g h = g x h
