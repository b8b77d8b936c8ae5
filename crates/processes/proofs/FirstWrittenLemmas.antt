-- The first outputs of a round are written by events of the process.
use Rattle.std.proofs.Common.{◌≡◌, ◌≤◌, ◌+◌, ◌⊎◌, inl, inr, ℕ, List, [], ◌∷◌, ◌++◌, length}
use Rattle.std.proofs.Common.{refl, sym, subst, ap, ◌∙◌, append-nil, length-append, arith}
use Rattle.std.proofs.lemmas.Grind.{flat_map-append}
use Rattle.deeds.specs.Kept.{FileOfNames}
use Rattle.node_strings.specs.Strings.{Strings}
use Rattle.node_effects.specs.Work.{entries_in, send_all}
use Rattle.node_effects.specs.declared.effects.Effects.{Effects}
use Rattle.node_effects.specs.declared.output.Output.{Output}
use Rattle.node_store.specs.Outputs.{all_logged, all_sent, effects_outputs, logged_of}
use Rattle.node_store.specs.Serving.{LoopEvent, Handles, Notes, all_outputs}
use Rattle.processes.specs.Processes.{Process, Processes, WaitingAnswers}
use Rattle.processes.proofs.HandledRoundLemmas.{answers_behind, effects_logged, logged_entries, waiting_answers}
use Rattle.processes.proofs.LeadLemmas.{leads_nowhere}
use Rattle.processes.proofs.WrittenEventLemmas.{Writes, WritesAtLeast, at_least, at_least_then, frames_front, sends_all, writes_frame}
use Rattle.processes.proofs.WrittenRoundLemmas.{HaveAllFrames, HaveFrames, IsPart, parted}

-- the entries of two lists of outputs
pub entries_both : (xs ys : List Output) → length (all_logged (xs ++ ys)) ≡ length (all_logged xs) + length (all_logged ys)
entries_both xs ys =
    ap (λ (es : List Strings). length es) (flat_map-append logged_of xs ys) ∙ length-append (all_logged xs) (all_logged ys)

module _ (names : FileOfNames) (number : ℕ) where
  -- the first outputs are first ones of those of one frame
  pub writes_within : (effects : Effects) (n : ℕ) (first more : List Output) (rest : List WaitingAnswers) (from : Processes) →
      effects_outputs effects ≡ first ++ more → HaveFrames (from.at number).frames n effects.outputs.items →
      (from.at number).answers ≡ answers_behind (n + length (entries_in effects.outputs.items)) effects ∷ rest →
      n + length (all_logged first) ≤ (from.at number).synced → WritesAtLeast names number from first
  writes_within effects n first more rest from same have waits fits =
      go (parted effects.outputs.items (send_all effects.answers.items) first more same)
    where
      go : IsPart effects.outputs.items (send_all effects.answers.items) first more → WritesAtLeast names number from first
      go (inl is) =
          let outputs = effects.outputs.items in
          let long = ap (λ (os : List Output). length (all_logged os)) is.1 ∙ entries_both outputs is.0 in
          let entries = ap (λ (es : List Strings). length es) (logged_entries outputs) in
          at_least names number from first more (all_sent (effects_outputs effects)) rest (ap all_sent same)
          (writes_frame names number effects n rest from have waits (omega (arith, fits, long, entries)))
      go (inr is) =
          at_least names number from first [] (all_sent first) (from.at number).answers
          (ap all_sent (sym (append-nil first)))
          (sends_all names number first n from
          (frames_front (from.at number).frames n first is.0
          (subst (λ (os : List Output). HaveFrames (from.at number).frames n os) is.1 have)) fits)

  pub writes_front : (events : List LoopEvent) (n : ℕ) (first rest : List Output) (from : Processes) →
      all_outputs events ≡ first ++ rest → HaveAllFrames (from.at number).frames n events →
      (from.at number).answers ≡ waiting_answers n events → n + length (all_logged first) ≤ (from.at number).synced →
      WritesAtLeast names number from first
  writes_front [] n [] rest from same have waits fits = record {
    to = from;
    written = [];
    back = [];
    leads = leads_nowhere names number from;
    all = refl;
    log = refl;
    synced = refl;
  }
  writes_front [] n (x ∷ first) rest from same have waits fits = absurd (cc)
  writes_front (Notes bytes ∷ events) n first rest from same have waits fits =
      writes_front events n first rest from same have waits fits
  writes_front (Handles frame effects ∷ events) n first rest from same have waits fits =
      go (parted (effects_outputs effects) (all_outputs events) first rest same)
      (λ more rest to. writes_front events (n + length (entries_in effects.outputs.items)) more rest to)
    where
      all : ℕ
      all = n + length (entries_in effects.outputs.items)

      later : List WaitingAnswers
      later = waiting_answers all events

      -- what was written of the events behind the first one
      WritesRest : Type 0
      WritesRest = (more rest : List Output) (to : Processes) → all_outputs events ≡ more ++ rest →
          HaveAllFrames (to.at number).frames all events → (to.at number).answers ≡ later →
          all + length (all_logged more) ≤ (to.at number).synced → WritesAtLeast names number to more

      go : IsPart (effects_outputs effects) (all_outputs events) first rest → WritesRest → WritesAtLeast names number from first
      go (inl is) others =
          let long = ap (λ (os : List Output). length (all_logged os)) is.1 ∙ entries_both (effects_outputs effects) is.0
          ∙ ap (λ (es : List Strings). length es + length (all_logged is.0)) (effects_logged effects) in
          let fits-all : all + length (all_logged is.0) ≤ (from.at number).synced = omega (arith, fits, long) in
          let one = writes_frame names number effects n later from have.0 waits (omega (arith, fits-all)) in
          at_least_then names number from (effects_outputs effects) is.0 first later one is.1
          (others is.0 rest one.to is.2
          (subst (λ (p : Process). HaveAllFrames p.frames all events) (sym one.process) have.1)
          (ap (λ (p : Process). p.answers) one.process)
          (subst (λ (p : Process). all + length (all_logged is.0) ≤ p.synced) (sym one.process) fits-all))
      go (inr is) others = writes_within effects n first is.0 later from is.1 have.0 waits fits
