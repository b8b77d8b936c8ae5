-- What `clap` reads from the words behind a command that it knows.
use Rattle.std.proofs.Common.{◌≡◌, ◌∙◌, List, [], ◌∷◌, Bool, true, false}
use Rattle.std.proofs.Common.{Option, Some, codes, refl, ap, ap₂, sym}
use Rattle.std.proofs.Common.{is_some}
use Rattle.std.specs.Prelude.{find, fold, option_map}
use Rattle.std.specs.Option.{option_map_or}
use Rattle.clap.proofs.OnLiterals.{clap_on_literals}
use Rattle.clap.proofs.WalkLemmas.{walk_stopped}
use Rattle.clap.proofs.FaultLemmas.{stopped_fault}
use Rattle.clap.specs.Faults.{entered_fault, fault_of, level_fault, settle_fault}
use Rattle.clap.specs.Faults.{defaults_fault, check_fault, turn_fault, walk_fault}
use Rattle.clap.specs.Kinds.{Kinds, or_else}
use Rattle.clap.specs.Simple.{App, Shape, built, entered, label_of, names_of, rows_at, subcommand_of}
use Rattle.clap.specs.Walk.{Text, Walk, answers_to, nothing_held}
use Rattle.clap.specs.Walk.{rows_after, settled, finished, walk, walk_from, walked}
use Rattle.commands.specs.CommandLine.{cas_form}

-- the form as `clap` builds it
abbrev pub form : App
form = built cas_form

or_else-none : (ks : Kinds) → or_else ks [] ≡ ks
or_else-none [] = refl
or_else-none (k ∷ ks) = refl

-- ---- the words behind a command

-- the faults at the end of the words, for the whole command line
abbrev end_fault : Walk → Bool → Kinds
end_fault w has = or_else (settle_fault form.top.rules form.top.args_override_self w.held)
    (or_else (defaults_fault (settled form.top.rules w.held).rows form.top.rules)
    (check_fault form.top (finished form.top.rules w.held) has))

end_fault-none : (stop : Option (Text × List Text)) → end_fault (record (walk_from nothing_held) { stopped = stop }) true ≡ []
unfolding clap_on_literals
end_fault-none stop = refl

module _ (name : Text) (s : Shape)
    (met : walked form.top.rules (names_of form) (walk_from nothing_held) name
    ≡ record (walk_from nothing_held) { stopped = Some (name, []) })
    (lawful : turn_fault form.top (names_of form) (walk_from nothing_held) name ≡ [])
    (found : find (λ (t : Shape). answers_to name (label_of t)) form.subs ≡ Some s) where
  walk-known : (rest : List Text) → walk form.top.rules (names_of form) nothing_held (name ∷ rest)
      ≡ record (walk_from nothing_held) { stopped = Some (name, rest) }
  walk-known rest =
      ap (λ (w : Walk). fold (walked form.top.rules (names_of form)) w rest) met
      ∙ sym (walk_stopped form.top.rules (names_of form) (walk_from nothing_held) name [] rest)

  -- the rows of the words are those of the command
  pub subcommand_of-known : (rest : List Text)
      → subcommand_of cas_form (codes "cas" ∷ name ∷ rest) ≡ Some (s.name, rows_after s.rules [] rest)
  subcommand_of-known rest =
      ap (λ (w : Walk). entered form w.stopped) (walk-known rest)
      ∙ ap (option_map (λ (t : Shape). rows_at t rest)) found

  walk_fault-known : (rest : List Text) → walk_fault form.top (names_of form) (walk_from nothing_held) (name ∷ rest) ≡ []
  unfolding walk_fault
  walk_fault-known rest =
      ap₂ or_else lawful (ap (λ (w : Walk). walk_fault form.top (names_of form) w rest) met
      ∙ stopped_fault form.top (names_of form) (walk_from nothing_held) (name, []) rest)

  -- and so are their faults
  pub fault_of-known : (rest : List Text)
      → fault_of cas_form (codes "cas" ∷ name ∷ rest) ≡ level_fault s [] nothing_held rest false []
  fault_of-known rest =
      ap₂ (λ (w : Walk) (ks : Kinds). or_else ks (or_else (entered_fault form w.stopped)
      (end_fault w (is_some (entered form w.stopped)))))
      (walk-known rest) (walk_fault-known rest)
      ∙ ap (λ (o : Option Shape). or_else (option_map_or (λ (t : Shape). level_fault t [] nothing_held rest false []) o [])
      (end_fault (record (walk_from nothing_held) { stopped = Some (name, rest) })
      (is_some (option_map (λ (t : Shape). rows_at t rest) o)))) found
      ∙ ap (or_else (level_fault s [] nothing_held rest false [])) (end_fault-none (Some (name, rest)))
      ∙ or_else-none (level_fault s [] nothing_held rest false [])
