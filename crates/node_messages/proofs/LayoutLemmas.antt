-- The layouts and the start that are read are those that were written, and what was written is read again.
use Rattle.std.proofs.Common.{◌≡◌, ℕ, ◌<◌, ◌≤◌, ◌^◌, Bool, true, false, ltb, List, [], ◌∷◌, ◌++◌, length, take, drop}
use Rattle.std.proofs.Common.{Option, Some, None, Ok, refl, sym, ap, ap₂, subst, ◌∙◌, arith, drop_at, length-append, take_all}
use Rattle.std.proofs.Common.{take-append-drop}
use Rattle.std.specs.Prelude.{IfSome, is_some}
use Rattle.std.specs.Int.{w32, to_be_bytes, from_be_bytes}
use Rattle.std.specs.Str.{bytes_eq}
use Rattle.std.proofs.lemmas.Bool.{ltb-false, le-ltb}
use Rattle.std.proofs.lemmas.Slice.Eq.{bytes_eq-Decides}
use Rattle.std.proofs.lemmas.List.{append-nil, length-take-le, take-append-le}
use Rattle.layout.specs.Layout.{Layout, IsLawful}
use Rattle.letter.specs.declared.start.Start.{Start}
use Rattle.words.specs.Parts.{and_then}
use Rattle.words.proofs.PartLemmas.{bind_ok, guarded, guarded_above, ok_is}
use Rattle.node_strings.specs.Layouts.{checked_layout}
use Rattle.node_strings.proofs.LayoutLemmas.{checked_ok, checked_again}
use Rattle.node_messages.specs.declared.error.Fault.TheVariants.{BadLayout}
use Rattle.node_messages.specs.declared.layouts.Layouts.{Layouts}
use Rattle.node_messages.specs.Head.{layout_bytes, next_bytes, start_bytes}
use Rattle.node_messages.specs.Layouts.{first_byte, first_members, first_layout, first_next, first_number, first_position}
use Rattle.node_messages.specs.Layouts.{first_start, whole_head, last_start, layouts_from}
use Rattle.node_messages.specs.Message.{IsStart}
use Rattle.node_messages.proofs.NumberLemmas.{short_below, short_again}

byte_ok : (bytes : List ℕ) (x : ℕ × List ℕ) → first_byte bytes ≡ Ok x → bytes ≡ x.0 ∷ x.1
unfolding first_byte
byte_ok [] x e = absurd cc
byte_ok (b ∷ rest) x e = ap (λ (p : ℕ × List ℕ). p.0 ∷ p.1) (ok_is (b, rest) x e)

-- these are the bytes of a lawful layout, and others after them
abbrev IsFront : List ℕ → Layout × List ℕ → Type 0
IsFront bytes x = (bytes ≡ layout_bytes x.0 ++ x.1) × IsLawful x.0

members_ok : (n k : ℕ) (bytes : List ℕ) (x : Layout × List ℕ) → first_members n k bytes ≡ Ok x → IsFront (n ∷ k ∷ bytes) x
unfolding first_members
members_ok n k bytes x e =
    let it : Layout = record { k = k; members = take n bytes } in
    let g = guarded_above (ltb (length bytes) n) BadLayout
    (and_then (checked_layout BadLayout it) (λ layout. Ok (layout, drop n bytes))) x e in
    let c = bind_ok (checked_layout BadLayout it) (λ layout. Ok (layout, drop n bytes)) x g.1 in
    let l = checked_ok BadLayout it c.0 c.1 in
    let enough : n ≤ length bytes = ltb-false (length bytes) n g.0 in
    let whole : n ∷ k ∷ bytes ≡ layout_bytes it ++ drop n bytes =
    ap₂ (λ (m : ℕ) (b : List ℕ). m ∷ k ∷ b) (sym (length-take-le n bytes enough)) (sym (take-append-drop n bytes)) in
    subst (IsFront (n ∷ k ∷ bytes)) (ap (λ (l : Layout). (l, drop n bytes)) l.0 ∙ ok_is (c.0, drop n bytes) x c.2) (whole, l.1)

pub layout_ok : (bytes : List ℕ) (x : Layout × List ℕ) → first_layout bytes ≡ Ok x → (bytes ≡ layout_bytes x.0 ++ x.1) × IsLawful x.0
unfolding first_layout
layout_ok bytes x e =
    let n = bind_ok (first_byte bytes) (λ n. and_then (first_byte n.1) (λ k. first_members n.0 k.0 k.1)) x e in
    let k = bind_ok (first_byte n.0.1) (λ k. first_members n.0.0 k.0 k.1) x n.2 in
    let l = members_ok n.0.0 k.0.0 k.0.1 x k.2 in
    (byte_ok bytes n.0 n.1 ∙ ap (λ (b : List ℕ). n.0.0 ∷ b) (byte_ok n.0.1 k.0 k.1) ∙ l.0, l.1)

front : (a b : List ℕ) → take (length a) (a ++ b) ≡ a
front a b = take-append-le (length a) a b (omega arith) ∙ take_all (length a) a (omega arith)

members_by : (n k : ℕ) (bytes members rest : List ℕ) (layout : Layout) → ltb (length bytes) n ≡ false → take n bytes ≡ members
    → drop n bytes ≡ rest → checked_layout BadLayout (record { k = k; members = members }) ≡ Ok layout
    → first_members n k bytes ≡ Ok (layout, rest)
unfolding first_members
members_by n k bytes members rest layout enough is_members is_rest lawful = rw (enough, is_members, is_rest, lawful) refl

pub layout_again : (layout : Layout) (rest : List ℕ) → IsLawful layout → first_layout (layout_bytes layout ++ rest) ≡ Ok (layout, rest)
unfolding first_layout first_byte
layout_again layout rest lawful =
    let members = layout.members in
    let enough : ltb (length (members ++ rest)) (length members) ≡ false =
    le-ltb (length (members ++ rest)) (length members) (omega (arith, length-append members rest)) in
    members_by (length members) layout.k (members ++ rest) members rest layout enough (front members rest)
    (drop_at members rest (length members) refl) (checked_again BadLayout layout lawful)

-- these are the bytes of the next layout, if there is one, and others after them
abbrev IsNextFront : Bool → List ℕ → Option Layout × List ℕ → Type 0
IsNextFront named bytes x = (bytes ≡ next_bytes x.0 ++ x.1) × (is_some x.0 ≡ named) × IfSome x.0 IsLawful

next_ok : (named : Bool) (bytes : List ℕ) (x : Option Layout × List ℕ) → first_next named bytes ≡ Ok x → IsNextFront named bytes x
unfolding first_next
next_ok true bytes x e =
    let a = bind_ok (first_layout bytes) (λ layout. Ok (Some layout.0, layout.1)) x e in
    let l = layout_ok bytes a.0 a.1 in
    subst (IsNextFront true bytes) (ok_is (Some a.0.0, a.0.1) x a.2) (l.0, refl, l.1)
next_ok false bytes x e = subst (IsNextFront false bytes) (ok_is (None, bytes) x e) (refl, refl, tt)

next_again : (next : Option Layout) (rest : List ℕ) → IfSome next IsLawful
    → first_next (is_some next) (next_bytes next ++ rest) ≡ Ok (next, rest)
unfolding first_next
next_again None rest lawful = refl
next_again (Some layout) rest lawful = rw (layout_again layout rest lawful) refl

-- ---- the start

-- these are the bytes of a position, and others after them
abbrev IsPositionFront : List ℕ → ℕ × List ℕ → Type 0
IsPositionFront bytes x = (bytes ≡ to_be_bytes w32 x.0 ++ x.1) × (x.0 < 2 ^ 32)

position_ok : (bytes : List ℕ) (x : ℕ × List ℕ) → first_position bytes ≡ Ok x → IsPositionFront bytes x
unfolding first_position
position_ok bytes x e =
    let n = first_number bytes in
    let g = guarded (bytes_eq (to_be_bytes w32 n) (take 4 bytes)) (Ok (n, drop 4 bytes)) BadLayout x e in
    let same : to_be_bytes w32 n ≡ take 4 bytes = (bytes_eq-Decides (to_be_bytes w32 n) (take 4 bytes)).0 g.0 in
    let whole : bytes ≡ to_be_bytes w32 n ++ drop 4 bytes =
    sym (take-append-drop 4 bytes) ∙ ap (λ (b : List ℕ). b ++ drop 4 bytes) (sym same) in
    subst (IsPositionFront bytes) (ok_is (n, drop 4 bytes) x g.1) (whole, short_below (from_be_bytes w32 (take 4 bytes)))

position_by : (bytes rest : List ℕ) (n : ℕ) → first_number bytes ≡ n → take 4 bytes ≡ to_be_bytes w32 n → drop 4 bytes ≡ rest
    → first_position bytes ≡ Ok (n, rest)
unfolding first_position
position_by bytes rest n is_number is_front is_rest =
    rw (is_number, is_front, is_rest, (bytes_eq-Decides (to_be_bytes w32 n) (to_be_bytes w32 n)).1 refl) refl

position_again : (n : ℕ) (rest : List ℕ) → n < 2 ^ 32 → first_position (to_be_bytes w32 n ++ rest) ≡ Ok (n, rest)
position_again n rest small = position_by (to_be_bytes w32 n ++ rest) rest n (short_again n small) refl refl

-- these are the bytes of a start, and others after them
abbrev IsStartFront : List ℕ → Start × List ℕ → Type 0
IsStartFront bytes x = (bytes ≡ to_be_bytes w32 x.0.position ++ (layout_bytes x.0.layout ++ x.1)) × IsStart x.0

abbrev start_of : ℕ → Layout → Start
start_of position layout = record { position = position; layout = layout }

start_ok : (bytes : List ℕ) (x : Start × List ℕ) → first_start bytes ≡ Ok x → IsStartFront bytes x
unfolding first_start
start_ok bytes x e =
    let p = bind_ok (first_position bytes) (λ position. and_then (first_layout position.1) (λ layout.
    Ok (start_of position.0 layout.0, layout.1))) x e in
    let l = bind_ok (first_layout p.0.1) (λ layout. Ok (start_of p.0.0 layout.0, layout.1)) x p.2 in
    let position = position_ok bytes p.0 p.1 in
    let layout = layout_ok p.0.1 l.0 l.1 in
    subst (IsStartFront bytes) (ok_is (start_of p.0.0 l.0.0, l.0.1) x l.2)
    (position.0 ∙ ap (λ (b : List ℕ). to_be_bytes w32 p.0.0 ++ b) layout.0, (position.1, layout.1))

start_again : (start : Start) (rest : List ℕ) → IsStart start
    → first_start (to_be_bytes w32 start.position ++ (layout_bytes start.layout ++ rest)) ≡ Ok (start, rest)
unfolding first_start
start_again start rest is =
    rw (
      position_again start.position (layout_bytes start.layout ++ rest) is.0,
      layout_again start.layout rest is.1,
    ) refl

-- these are the bytes of a start, if there is one
abbrev IsLastStart : List ℕ → Option Start → Type 0
IsLastStart bytes x = (bytes ≡ start_bytes x) × IfSome x IsStart

ended : (start : Start) (rest : List ℕ) (x : Option Start) → whole_head start rest ≡ Ok x → (rest ≡ []) × (Some start ≡ x)
ended start [] x e = (refl, ok_is (Some start) x e)
ended start (b ∷ rest) x e = absurd cc

last_ok : (bytes : List ℕ) (x : Option Start) → last_start bytes ≡ Ok x → IsLastStart bytes x
unfolding last_start
last_ok [] x e = subst (IsLastStart []) (ok_is None x e) (refl, tt)
last_ok (b ∷ more) x e =
    let a = bind_ok (first_start (b ∷ more)) (λ start. whole_head start.0 start.1) x e in
    let end = ended a.0.0 a.0.1 x a.2 in
    let s = start_ok (b ∷ more) a.0 a.1 in
    let layout = layout_bytes a.0.0.layout in
    let last : layout ++ a.0.1 ≡ layout = ap (λ (r : List ℕ). layout ++ r) end.0 ∙ append-nil layout in
    subst (IsLastStart (b ∷ more)) end.1
    (s.0 ∙ ap (λ (r : List ℕ). to_be_bytes w32 a.0.0.position ++ r) last, s.1)

last_again : (start : Option Start) → IfSome start IsStart → last_start (start_bytes start) ≡ Ok start
unfolding last_start
last_again None is = refl
last_again (Some start) is =
    let whole : first_start (start_bytes (Some start)) ≡ Ok (start, []) =
    ap (λ (b : List ℕ). first_start (to_be_bytes w32 start.position ++ b)) (sym (append-nil (layout_bytes start.layout)))
    ∙ start_again start [] is in
    ap (λ r. and_then r (λ start. whole_head start.0 start.1)) whole

-- ---- the layouts and the start

-- these are the bytes of lawful layouts, and of a start if there is one
abbrev pub AreBytesOf : Bool → List ℕ → Layouts → Type 0
AreBytesOf named bytes x = (bytes ≡ layout_bytes x.layout ++ (next_bytes x.next ++ start_bytes x.start)) × IsLawful x.layout
    × (is_some x.next ≡ named) × IfSome x.next IsLawful × IfSome x.start IsStart

abbrev layouts_of : Layout → Option Layout → Option Start → Layouts
layouts_of layout next start = record { layout = layout; next = next; start = start }

pub layouts_ok : (named : Bool) (bytes : List ℕ) (x : Layouts) → layouts_from named bytes ≡ Ok x → AreBytesOf named bytes x
unfolding layouts_from
layouts_ok named bytes x e =
    let a = bind_ok (first_layout bytes) (λ layout. and_then (first_next named layout.1) (λ next. and_then (last_start next.1)
    (λ start. Ok (layouts_of layout.0 next.0 start)))) x e in
    let b = bind_ok (first_next named a.0.1) (λ next. and_then (last_start next.1) (λ start. Ok (layouts_of a.0.0 next.0 start)))
    x a.2 in
    let c = bind_ok (last_start b.0.1) (λ start. Ok (layouts_of a.0.0 b.0.0 start)) x b.2 in
    let l = layout_ok bytes a.0 a.1 in
    let n = next_ok named a.0.1 b.0 b.1 in
    let s = last_ok b.0.1 c.0 c.1 in
    let last : a.0.1 ≡ next_bytes b.0.0 ++ start_bytes c.0 = n.0 ∙ ap (λ (r : List ℕ). next_bytes b.0.0 ++ r) s.0 in
    subst (AreBytesOf named bytes) (ok_is (layouts_of a.0.0 b.0.0 c.0) x c.2)
    (l.0 ∙ ap (λ (r : List ℕ). layout_bytes a.0.0 ++ r) last, l.1, n.1, n.2, s.1)

pub layouts_again : (layout : Layout) (next : Option Layout) (start : Option Start) → IsLawful layout → IfSome next IsLawful
    → IfSome start IsStart
    → layouts_from (is_some next) (layout_bytes layout ++ (next_bytes next ++ start_bytes start)) ≡ Ok (layouts_of layout next start)
unfolding layouts_from
layouts_again layout next start lawful next_lawful is =
    rw (
      layout_again layout (next_bytes next ++ start_bytes start) lawful,
      next_again next (start_bytes start) next_lawful,
      last_again start is,
    ) refl
