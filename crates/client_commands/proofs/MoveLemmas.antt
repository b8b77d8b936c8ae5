-- The layout of a MOVE that is read is the one that was written, and what was written is read again.
use Rattle.std.proofs.Common.{◌≡◌, ℕ, ◌≤◌, false, cond, ◌||◌, ltb, eqb, List, [], ◌∷◌, ◌++◌, map, length, get_or}
use Rattle.std.proofs.Common.{Result, Ok, Err, refl, ap, subst, ◌∙◌, arith}
use Rattle.std.specs.Fmt.{decimal}
use Rattle.std.proofs.lemmas.Bool.{ltb-false, le-ltb, ne_eqb, or_from}
use Rattle.std.proofs.lemmas.List.{length-map}
use Rattle.tag.specs.declared.limits.TheConstants.{LONGEST_NAME, MOST_MEMBERS}
use Rattle.layout.specs.Layout.{Layout, IsLawful}
use Rattle.words.specs.Parts.{and_then}
use Rattle.node_strings.specs.Strings.{Strings}
use Rattle.node_strings.specs.Layouts.{checked_layout}
use Rattle.client_commands.specs.Layouts.{small_number, small_numbers, move_layout, layout_from}
use Rattle.client_commands.specs.Command.{IsShortName, AreNodes, layout_strings}
use Rattle.client_commands.specs.declared.command.CommandName.TheVariants as of
use Rattle.client_commands.specs.declared.fault.CommandFault.{CommandFault}
use Rattle.client_commands.specs.declared.fault.CommandFault.TheVariants.{WrongCount, NameTooLong, BadNumber, OutOfRange, BadLayout}
use Rattle.words.proofs.PartLemmas.{bind_ok, guarded_above, ok_is}
use Rattle.node_strings.proofs.LayoutLemmas.{checked_ok, checked_again}
use Rattle.node_strings.proofs.NumberLemmas.{number_ok as up_to_ok, number_again as up_to_again}

-- ---- numbers

number_ok : (string : List ℕ) (n : ℕ) → small_number string ≡ Ok n → (string ≡ decimal n) × (n ≤ 255)
number_ok string n e = up_to_ok BadNumber OutOfRange 255 string n (omega arith) (omega arith) e

number_again : (n : ℕ) → n ≤ 255 → small_number (decimal n) ≡ Ok n
number_again n le = up_to_again BadNumber OutOfRange 255 n le (omega arith)

pub numbers_ok : (strings : Strings) (ns : List ℕ) → small_numbers strings ≡ Ok ns → (strings ≡ map decimal ns) × AreNodes ns
numbers_ok [] ns e = subst (λ (ms : List ℕ). ([] ≡ map decimal ms) × AreNodes ms) (ok_is [] ns e) (refl, tt)
numbers_ok (string ∷ strings) ns e =
    let a = bind_ok (small_number string) (λ (n : ℕ). and_then (small_numbers strings) (λ (ms : List ℕ). Ok (n ∷ ms))) ns e in
    let b = bind_ok (small_numbers strings) (λ (ms : List ℕ). Ok (a.0 ∷ ms)) ns a.2 in
    let first = number_ok string a.0 a.1 in
    let others = numbers_ok strings b.0 b.1 in
    subst (λ (ms : List ℕ). (string ∷ strings ≡ map decimal ms) × AreNodes ms) (ok_is (a.0 ∷ b.0) ns b.2)
    (ap (λ (s : List ℕ). s ∷ strings) first.0 ∙ ap (λ (ss : Strings). decimal a.0 ∷ ss) others.0, (first.1, others.1))

cons_again : (first : Result ℕ CommandFault) (others : Result (List ℕ) CommandFault) (n : ℕ) (ns : List ℕ) → first ≡ Ok n → others ≡ Ok ns
    → and_then first (λ (k : ℕ). and_then others (λ (ms : List ℕ). Ok (k ∷ ms))) ≡ Ok (n ∷ ns)
cons_again first others n ns e f = rw (e, f) refl

pub numbers_again : (ns : List ℕ) → AreNodes ns → small_numbers (map decimal ns) ≡ Ok ns
numbers_again [] nodes = refl
numbers_again (n ∷ ns) nodes =
    cons_again (small_number (decimal n)) (small_numbers (map decimal ns)) n ns (number_again n nodes.0) (numbers_again ns nodes.1)

-- ---- as a loop reads numbers

-- what is read of the strings, with these numbers in front
abbrev pub behind : List ℕ → Result (List ℕ) CommandFault → Result (List ℕ) CommandFault
behind ns read = and_then read (λ (ms : List ℕ). Ok (ns ++ ms))

-- ---- layouts

abbrev LayoutIs : List ℕ → Strings → Layout → Type 0
LayoutIs name strings layout = (strings ≡ layout_strings layout) × IsShortName name × IsLawful layout × AreNodes layout.members

layout_of_ok : (name k : List ℕ) (nodes : Strings) (l : Layout) → move_layout name k nodes ≡ Ok l → LayoutIs name (k ∷ nodes) l
unfolding move_layout
layout_of_ok name k nodes l e =
    let after_k : ℕ → Result Layout CommandFault =
    λ (n : ℕ). and_then (small_numbers nodes) (λ (ms : List ℕ). checked_layout BadLayout (record { k = n; members = ms })) in
    let after_name = and_then (small_number k) after_k in
    let a = guarded_above (eqb (length nodes) 0 || ltb MOST_MEMBERS (length nodes)) (WrongCount of.Move)
    (cond (ltb LONGEST_NAME (length name)) (Err NameTooLong) after_name) l e in
    let b = guarded_above (ltb LONGEST_NAME (length name)) NameTooLong after_name l a.1 in
    let c = bind_ok (small_number k) after_k l b.1 in
    let d = bind_ok (small_numbers nodes) (λ (ms : List ℕ). checked_layout BadLayout (record { k = c.0; members = ms })) l c.2 in
    let found : Layout = record { k = c.0; members = d.0 } in
    let f = checked_ok BadLayout found l d.2 in
    let first = number_ok k c.0 c.1 in
    let others = numbers_ok nodes d.0 d.1 in
    subst (LayoutIs name (k ∷ nodes)) f.0 (
      ap (λ (s : List ℕ). s ∷ nodes) first.0 ∙ ap (λ (ss : Strings). decimal c.0 ∷ ss) others.0,
      ltb-false LONGEST_NAME (length name) b.0,
      f.1,
      others.1,
    )

-- the arguments are a name and the strings of a layout
abbrev pub MoveIs : Strings → Layout → Type 0
MoveIs arguments layout = (arguments ≡ get_or arguments 0 [] ∷ layout_strings layout) × IsShortName (get_or arguments 0 [])
    × IsLawful layout × AreNodes layout.members

pub layout_from_ok : (arguments : Strings) (l : Layout) → layout_from arguments ≡ Ok l → MoveIs arguments l
unfolding layout_from
layout_from_ok [] l e = absurd cc
layout_from_ok (name ∷ []) l e = absurd cc
layout_from_ok (name ∷ k ∷ nodes) l e =
    let h = layout_of_ok name k nodes l e in
    (ap (λ (s : Strings). name ∷ s) h.0, h.1, h.2, h.3)

count_again : (n k : ℕ) → 1 ≤ k → k ≤ n → n ≤ MOST_MEMBERS → (eqb n 0 || ltb MOST_MEMBERS n) ≡ false
count_again n k some enough few = or_from (eqb n 0) (ltb MOST_MEMBERS n) (ne_eqb n 0 (λ e. omega arith)) (le-ltb MOST_MEMBERS n few)

layout_of_again : (name : List ℕ) (k : ℕ) (members : List ℕ) → IsShortName name → IsLawful (record { k = k; members = members })
    → AreNodes members → move_layout name (decimal k) (map decimal members) ≡ Ok (record { k = k; members = members })
unfolding move_layout
layout_of_again name k members name_of_word lawful nodes =
    let some : 1 ≤ k = lawful.some in
    let enough : k ≤ length members = lawful.enough in
    let few : length members ≤ MOST_MEMBERS = lawful.few in
    let small : k ≤ 255 = omega arith in
    rw (
      length-map members decimal,
      count_again (length members) k some enough few,
      le-ltb LONGEST_NAME (length name) name_of_word,
      number_again k small,
      numbers_again members nodes,
      checked_again BadLayout (record { k = k; members = members }) lawful,
    ) refl

pub layout_from_again : (name : List ℕ) (l : Layout) → IsShortName name → IsLawful l → AreNodes l.members
    → layout_from (name ∷ layout_strings l) ≡ Ok l
unfolding layout_from
layout_from_again name l name_of_word lawful nodes = layout_of_again name l.k l.members name_of_word lawful nodes
