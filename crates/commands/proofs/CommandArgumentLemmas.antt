-- What each command reads of the words behind it.
use Rattle.std.proofs.Common.{◌≡◌, ◌∙◌, ℕ, ◌<◌, ◌≤◌, List, [], ◌∷◌, ◌++◌, length, Bool, true, false}
use Rattle.std.proofs.Common.{Some, None, codes, refl, ap, ap₂, append_assoc, append-nil, sym}
use Rattle.std.proofs.Common.{arith}
use Rattle.std.specs.Prelude.{fold, get_or, unwrap_or, if◌then◌else◌}
use Rattle.clap.proofs.OnLiterals.{clap_on_literals}
use Rattle.clap.specs.Faults.{level_fault, settle_fault}
use Rattle.clap.specs.Faults.{defaults_fault, check_fault, walk_fault}
use Rattle.clap.specs.Kinds.{Kinds, or_else, range_kinds, values_kinds}
use Rattle.clap.specs.declared.builder.value_parser.ValueParser.TheVariants as vp
use Rattle.clap.specs.Lexer.{usize_max}
use Rattle.clap.specs.Simple.{Shape}
use Rattle.clap.specs.Walk.{Text, Walk, nothing_held}
use Rattle.clap.specs.Walk.{rows_after, settled, finished, walk, walked}
use Rattle.clap.specs.Walk.{all_of, first_of, positional}
use Rattle.clap.specs.declared.error.kind.ErrorKind.TheVariants.{MissingRequiredArgument, TooFewValues, TooManyValues}
use Rattle.clap.specs.declared.error.kind.ErrorKind.TheVariants.{UnknownArgument}
use Rattle.std.proofs.lemmas.Bool.{le-ltb}
use Rattle.commands.proofs.KnownCommandLemmas.{form}

abbrev pub fragments_shape : Shape
fragments_shape = get_or form.subs 0 form.top

abbrev pub decode_shape : Shape
decode_shape = get_or form.subs 1 form.top

abbrev pub run_shape : Shape
run_shape = get_or form.subs 2 form.top

abbrev pub soak_shape : Shape
soak_shape = get_or form.subs 3 form.top

pub fragments-rows : (a b c : Text) → let rows = rows_after fragments_shape.rules [] (codes "--" ∷ a ∷ b ∷ c ∷ []) in
    (first_of (codes "K") rows ≡ Some a) × (first_of (codes "N") rows ≡ Some b) × (first_of (codes "HEX") rows ≡ Some c)
unfolding clap_on_literals
fragments-rows a b c = (refl, refl, refl)

pub fragments-takes : (a b c : Text) → level_fault fragments_shape [] nothing_held (codes "--" ∷ a ∷ b ∷ c ∷ []) false [] ≡ []
unfolding clap_on_literals
fragments-takes a b c = refl

pub fragments-lacks : (rest : List Text) → length rest < 3
    → level_fault fragments_shape [] nothing_held (codes "--" ∷ rest) false [] ≡ MissingRequiredArgument ∷ []
unfolding clap_on_literals
fragments-lacks [] few = refl
fragments-lacks (a ∷ []) few = refl
fragments-lacks (a ∷ b ∷ []) few = refl
fragments-lacks (a ∷ b ∷ c ∷ rest) few = absurd (omega arith)

pub fragments-strays : (a b c d : Text) (rest : List Text)
    → level_fault fragments_shape [] nothing_held (codes "--" ∷ a ∷ b ∷ c ∷ d ∷ rest) false [] ≡ UnknownArgument ∷ []
unfolding clap_on_literals
fragments-strays a b c d rest = refl

pub decode-lacks : (rest : List Text) → length rest < 2
    → level_fault decode_shape [] nothing_held (codes "--" ∷ rest) false [] ≡ MissingRequiredArgument ∷ []
unfolding clap_on_literals
decode-lacks [] few = refl
decode-lacks (a ∷ []) few = refl
decode-lacks (a ∷ b ∷ rest) few = absurd (omega arith)

-- the walk of `decode` among the pieces
abbrev among : Text → Text → List Text → Walk
among a b ps = record {
  held = record { rows = rows_after decode_shape.rules [] (codes "--" ∷ a ∷ b ∷ []); pending = Some (codes "POINT:HEX", ps); skip = 0 };
  waiting = positional;
  position = 3;
  is_trailing = true;
  stopped = None;
}

walk-among : (a b : Text) (ps rest : List Text) → fold (walked decode_shape.rules []) (among a b ps) rest ≡ among a b (ps ++ rest)
unfolding clap_on_literals
walk-among a b ps [] = ap (among a b) (sym (append-nil ps))
walk-among a b ps (p ∷ rest) = walk-among a b (ps ++ p ∷ []) rest ∙ ap (among a b) (append_assoc ps (p ∷ []) rest)

walk-decode : (a b p : Text) (rest : List Text)
    → walk decode_shape.rules [] nothing_held (codes "--" ∷ a ∷ b ∷ p ∷ rest) ≡ among a b (p ∷ rest)
unfolding clap_on_literals
walk-decode a b p rest = walk-among a b (p ∷ []) rest

pub decode-rows : (a b : Text) (rest : List Text) → let rows = rows_after decode_shape.rules [] (codes "--" ∷ a ∷ b ∷ rest) in
    (first_of (codes "K") rows ≡ Some a) × (first_of (codes "LEN") rows ≡ Some b) × (unwrap_or (all_of (codes "POINT:HEX") rows) [] ≡ rest)
unfolding clap_on_literals
decode-rows a b [] = (refl, refl, refl)
decode-rows a b (p ∷ rest) =
    let e = ap (λ (w : Walk). finished decode_shape.rules w.held) (walk-decode a b p rest) in
    (ap (first_of (codes "K")) e, ap (first_of (codes "LEN")) e, ap (λ rows. unwrap_or (all_of (codes "POINT:HEX") rows) []) e)

-- each word among the pieces is taken
fault-among : (a b : Text) (ps rest : List Text) → walk_fault decode_shape [] (among a b ps) rest ≡ []
unfolding clap_on_literals
fault-among a b ps [] = refl
fault-among a b ps (p ∷ rest) = fault-among a b (ps ++ p ∷ []) rest

values_kinds-texts : (again : Bool) (vs : List Text) → values_kinds again vp.String vs ≡ []
values_kinds-texts again [] = refl
values_kinds-texts again (v ∷ vs) = values_kinds-texts again vs

range_kinds-any : (n : ℕ) → n ≤ usize_max → range_kinds 0 usize_max n ≡ []
range_kinds-any n fits =
    ap₂ (λ few many. if few then TooFewValues ∷ [] else if many then TooManyValues ∷ [] else [])
    (le-ltb n 0 (omega arith)) (le-ltb usize_max n fits)

-- the faults at the end of the words of `decode`
abbrev decode_end : Walk → Kinds
decode_end w = or_else (settle_fault decode_shape.rules decode_shape.args_override_self w.held)
    (or_else (defaults_fault (settled decode_shape.rules w.held).rows decode_shape.rules)
    (check_fault decode_shape (finished decode_shape.rules w.held) false))

decode_end-among : (a b p : Text) (rest : List Text) → length (p ∷ rest) ≤ usize_max → decode_end (among a b (p ∷ rest)) ≡ []
unfolding clap_on_literals
decode_end-among a b p rest fits =
    ap₂ (λ (r v : Kinds). or_else (or_else r v) []) (range_kinds-any (length (p ∷ rest)) fits) (values_kinds-texts false (p ∷ rest))

pub decode-takes : (a b : Text) (rest : List Text) → length rest ≤ usize_max
    → level_fault decode_shape [] nothing_held (codes "--" ∷ a ∷ b ∷ rest) false [] ≡ []
unfolding clap_on_literals
decode-takes a b [] fits = refl
decode-takes a b (p ∷ rest) fits =
    ap₂ (λ (w : Walk) (ks : Kinds). or_else ks (decode_end w)) (walk-decode a b p rest) (fault-among a b (p ∷ []) rest)
    ∙ decode_end-among a b p rest fits

pub run-rows : (file : Text) → first_of (codes "FILE") (rows_after run_shape.rules [] (codes "--" ∷ file ∷ [])) ≡ Some file
unfolding clap_on_literals
run-rows file = refl

pub run-takes : (file : Text) → level_fault run_shape [] nothing_held (codes "--" ∷ file ∷ []) false [] ≡ []
unfolding clap_on_literals
run-takes file = refl

pub run-lacks : level_fault run_shape [] nothing_held (codes "--" ∷ []) false [] ≡ MissingRequiredArgument ∷ []
unfolding clap_on_literals
run-lacks = refl

pub run-strays : (a b : Text) (rest : List Text)
    → level_fault run_shape [] nothing_held (codes "--" ∷ a ∷ b ∷ rest) false [] ≡ UnknownArgument ∷ []
unfolding clap_on_literals
run-strays a b rest = refl

pub soak-rows : (a b c d : Text) → let rows = rows_after soak_shape.rules [] (codes "--" ∷ a ∷ b ∷ c ∷ d ∷ []) in
    (first_of (codes "CLIENTS") rows ≡ Some a) × (first_of (codes "CALLS") rows ≡ Some b) × (first_of (codes "MOVES") rows ≡ Some c)
    × (first_of (codes "CHOICES") rows ≡ Some d)
unfolding clap_on_literals
soak-rows a b c d = (refl, refl, refl, refl)

pub soak-takes : (a b c d : Text) → level_fault soak_shape [] nothing_held (codes "--" ∷ a ∷ b ∷ c ∷ d ∷ []) false [] ≡ []
unfolding clap_on_literals
soak-takes a b c d = refl

pub soak-lacks : (rest : List Text) → length rest < 4
    → level_fault soak_shape [] nothing_held (codes "--" ∷ rest) false [] ≡ MissingRequiredArgument ∷ []
unfolding clap_on_literals
soak-lacks [] few = refl
soak-lacks (a ∷ []) few = refl
soak-lacks (a ∷ b ∷ []) few = refl
soak-lacks (a ∷ b ∷ c ∷ []) few = refl
soak-lacks (a ∷ b ∷ c ∷ d ∷ rest) few = absurd (omega arith)

pub soak-strays : (a b c d e : Text) (rest : List Text)
    → level_fault soak_shape [] nothing_held (codes "--" ∷ a ∷ b ∷ c ∷ d ∷ e ∷ rest) false [] ≡ UnknownArgument ∷ []
unfolding clap_on_literals
soak-strays a b c d e rest = refl
