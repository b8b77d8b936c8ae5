-- What `clap` reads from words whose first is no command.
use Rattle.std.proofs.Common.{◌≡◌, ◌∙◌, ℕ, zero, suc, List, [], ◌∷◌, length, Bool, true, false}
use Rattle.std.proofs.Common.{Option, Some, None, codes, refl, ap, ap₂}
use Rattle.std.proofs.Common.{cond}
use Rattle.std.specs.Prelude.{find, slice_get, fold, option_map, ⊤, if◌then◌else◌, ◌||◌}
use Rattle.std.specs.Str.{bytes_eq, chars}
use Rattle.clap.proofs.OnLiterals.{clap_on_literals}
use Rattle.clap.specs.Lexer.{long_of, short_of}
use Rattle.clap.specs.Simple.{entered, names_of, subcommand_of}
use Rattle.clap.specs.Walk.{Held, Outcome, Step, Text, Walk, answers_to, bundle_met, nothing_held}
use Rattle.clap.specs.Walk.{subcommand_or_other, walk_from, walked}
use Rattle.clap.specs.Walk.{idle, next, trailing, subcommand, value, done, waits, plain}
use Rattle.clap.specs.Walk.{refused, bundle, bundle_step, after_flag, short_or_plain, long_or_other, after_step}
use Rattle.commands.specs.CommandLine.{cas_form}
use Rattle.commands.proofs.KnownCommandLemmas.{form}

-- a step that enters no command and waits for nothing
abbrev IsNoStep : Step → Type 0
IsNoStep (next waiting) = ⊥
IsNoStep (trailing position) = position ≡ 1
IsNoStep (subcommand name) = ⊥
IsNoStep value = ⊤

-- what a flag word comes to where no flag is known
abbrev IsNoFlag : Outcome → Type 0
IsNoFlag done = ⊥
IsNoFlag (waits id) = ⊥
IsNoFlag plain = ⊤
IsNoFlag refused = ⊤

bundle_step-none : (o : Option ℕ) (flags : Text) (skip : ℕ) (h : Held) (go : Text → ℕ → Outcome → Held → Held × Outcome)
    → ((fs : Text) (k : ℕ) (g : Held) → IsNoFlag (go fs k plain g).1) → IsNoFlag (bundle_step [] o flags skip plain h go).1
bundle_step-none None flags skip h go each = tt
bundle_step-none (Some x) flags zero h go each = tt
bundle_step-none (Some x) flags (suc skip) h go each = each _ skip h

bundle_met-none : (k : ℕ) (flags : Text) (skip : ℕ) (h : Held) → IsNoFlag (bundle_met [] k flags skip plain h).1
unfolding bundle_met
bundle_met-none zero flags skip h = tt
bundle_met-none (suc k) flags skip h = bundle_step-none (slice_get (chars flags) 0) flags skip h (bundle_met [] k) (bundle_met-none k)

after_flag-none : (word : Text) (h : Held) (o : Outcome) → IsNoFlag o → IsNoStep (after_flag [] idle word h o).1
after_flag-none word h done none = absurd none
after_flag-none word h (waits id) none = absurd none
after_flag-none word h plain none = tt
after_flag-none word h refused none = tt

short_or_plain-none : (word : Text) (flags : Option Text) (h : Held) → IsNoStep (short_or_plain [] idle word flags h).1
short_or_plain-none word None h = tt
short_or_plain-none word (Some flags) h =
    after_flag-none word (bundle [] flags h).0 (bundle [] flags h).1 (bundle_met-none (length flags) flags h.skip (record h { skip = 0 }))

long_or_other-none : (word : Text) (long : Option (Text × Option Text)) (h : Held) → IsNoStep (long_or_other [] idle word long h).1
long_or_other-none word None h = short_or_plain-none word (short_of word) h
long_or_other-none word (Some p) h = tt

other-none : (word : Text) (h : Held) (dashes : Bool)
    → IsNoStep (if dashes then (h, trailing 1) else long_or_other [] idle word (long_of word) h).1
other-none word h true = refl
other-none word h false = long_or_other-none word (long_of word) h

-- the walk behind a word that enters no command
after_step-none : (word : Text) (h : Held) (step : Step) → IsNoStep step
    → (g : Held) × (t : Bool) × (after_step [] word (walk_from nothing_held) h step ≡ record (walk_from g) { is_trailing = t })
after_step-none word h (next waiting) none = absurd none
after_step-none word h (trailing position) none = (h, true, ap (λ p. record (walk_from h) { position = p; is_trailing = true }) none)
after_step-none word h (subcommand name) none = absurd none
after_step-none word h value none = (h, false, refl)

-- behind `--` no word enters a command
walk-trailing : (g : Held) (rest : List Text)
    → (fold (walked [] (names_of form)) (record (walk_from g) { is_trailing = true }) rest).stopped ≡ None
unfolding clap_on_literals
walk-trailing g [] = refl
walk-trailing g (word ∷ rest) = walk-trailing g rest

walk-dashes : (g : Held) (t : Bool) (rest : List Text)
    → (fold (walked [] (names_of form)) (record (walk_from g) { is_trailing = t }) (codes "--" ∷ rest)).stopped ≡ None
unfolding clap_on_literals
walk-dashes g true rest = walk-trailing g rest
walk-dashes g false rest = walk-trailing g rest

-- words of another command enter none
pub subcommand_of-unknown : (name : Text) (rest : List Text) → bytes_eq (codes "fragments") name ≡ false
    → bytes_eq (codes "decode") name ≡ false
    → bytes_eq (codes "run") name ≡ false → bytes_eq (codes "soak") name ≡ false
    → subcommand_of cas_form (codes "cas" ∷ name ∷ codes "--" ∷ rest) ≡ None
unfolding clap_on_literals
subcommand_of-unknown name rest not_fragments not_decode not_run not_soak =
    let none : find (answers_to name) (names_of form) ≡ None =
    ap₂ (λ p q. cond (p || false) (Some (codes "fragments", [])) (cond (q || false) (Some (codes "decode", []))
    (cond (bytes_eq (codes "run") name || false) (Some (codes "run", []))
    (cond (bytes_eq (codes "soak") name || false) (Some (codes "soak", [])) None))))
    not_fragments not_decode
    ∙ ap₂ (λ p q. cond (p || false) (Some (codes "run", [])) (cond (q || false) (Some (codes "soak", [])) None)) not_run not_soak in
    let met = after_step-none name _ _ (other-none name nothing_held (bytes_eq name (codes "--"))) in
    let first : walked [] (names_of form) (walk_from nothing_held) name ≡ record (walk_from met.0) { is_trailing = met.1 } =
    ap (λ (o : Option (Text × List Text)).
    let m = subcommand_or_other [] (option_map (λ s. s.0) o) idle 1 name nothing_held in
    after_step [] name (walk_from nothing_held) m.0 m.1) none ∙ met.2 in
    ap (entered form)
    (ap (λ (w : Walk). (fold (walked [] (names_of form)) w (codes "--" ∷ rest)).stopped) first ∙ walk-dashes met.0 met.1 rest)
