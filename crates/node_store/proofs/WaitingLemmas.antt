-- Outputs that wait in a batch.
use Rattle.std.proofs.Common.{◌≡◌, ℕ, List, [], ◌∷◌, ◌++◌, Result, Ok, Err, OnOk, Bool, true, false, ◌==◌, length}
use Rattle.std.proofs.Common.{arith, eqb-true, eq-eqb}
use Rattle.std.proofs.Common.{sym, ap, subst, ◌∙◌, refl, append_assoc, append-nil}
use Rattle.std.proofs.lemmas.Grind.{flat_map-append}
use Rattle.frames.specs.Frame.{frame_bytes}
use Rattle.node_log.specs.Entry.{chain_after, chain_behind, log_entry_bytes}
use Rattle.node_effects.specs.declared.output.Output.{Output}
use Rattle.node_effects.specs.declared.output.Output.TheVariants as output
use Rattle.node_store.specs.Outputs.{Gathers, HasGathered, all_logged, all_sent}
use Rattle.node_store.specs.Outputs.{bytes_logged, logged_of, sent_of}
use Rattle.node_store.specs.declared.batch.Batch.{Batch}
use Rattle.node_store.proofs.GrowthLemmas.{bytes_push}
use Rattle.node_store.proofs.LogBytesLemmas.{Entries, chain_all_then, logged_push, logged_then, no_entries}

none_before : (xs ys : List ℕ) → xs ++ ys ≡ [] → xs ≡ []
none_before [] ys e = refl
none_before (x ∷ xs) ys e = absurd (cc)

-- bytes are none exactly if they are 0
pub no_bytes : (xs : List ℕ) (len : ℕ) → len ≡ length xs → (len == 0) ≡ true → xs ≡ []
no_bytes [] len is e = refl
no_bytes (x ∷ xs) len is e =
    let zero : len ≡ 0 = eqb-true len 0 e in absurd (omega (arith, zero, is))

pub some_bytes : (xs : List ℕ) (len : ℕ) → len ≡ length xs → (len == 0) ≡ false → xs ≡ [] → ⊥
some_bytes [] len is e none = not_both (eq-eqb len 0 is) e
  where
    not_both : {b : Bool} → b ≡ true → b ≡ false → ⊥
    not_both t f = cc
some_bytes (x ∷ xs) len is e none = cc

pub gathers_none : (batch : Batch) → Gathers batch batch []
gathers_none batch chain prior has = subst (HasGathered chain batch) (sym (append-nil prior)) has

pub gathers_then : (a b c : Batch) (xs ys : List Output) → Gathers a b xs → Gathers b c ys → Gathers a c (xs ++ ys)
gathers_then a b c xs ys p q chain prior has =
    subst (HasGathered chain c) (append_assoc prior xs ys) (q chain (prior ++ xs) (p chain prior has))

-- an entry is added
pub gathers_entry : (a b : Batch) (entry : List (List ℕ)) → b.early ≡ a.early
    → b.log ≡ a.log ++ log_entry_bytes a.chain.state entry → b.output ≡ a.output
    → b.chain.state ≡ chain_after a.chain.state entry → Gathers a b (output.Log entry ∷ [])
gathers_entry a b entry early log late chained chain prior has =
    let one : Output = output.Log entry in record {
      first = has.first;
      rest = has.rest ++ one ∷ [];
      all = ap (λ (t : List Output). t ++ one ∷ []) has.all ∙ append_assoc has.first has.rest (one ∷ []);
      unlogged = has.unlogged;
      early = early ∙ has.early;
      log = log ∙ ap (λ (t : List ℕ). t ++ log_entry_bytes a.chain.state entry) has.log
          ∙ ap (λ (c : ℕ). bytes_logged chain has.rest ++ log_entry_bytes c entry) has.chain_now
          ∙ sym (logged_push chain has.rest entry);
      chain_now = chained ∙ ap (λ (c : ℕ). chain_after c entry) has.chain_now ∙ sym (chain_all_then chain has.rest (one ∷ []));
      late = late ∙ has.late ∙ sym (bytes_push sent_of has.rest one ∙ append-nil (all_sent has.rest));
      none = λ is. late ∙ has.none (none_before a.log (log_entry_bytes a.chain.state entry) (sym log ∙ is));
    }

-- a frame is added that no entry precedes
pub gathers_early : (a b : Batch) (frame : List (List ℕ)) → a.log ≡ []
    → b.early ≡ a.early ++ frame_bytes frame → b.log ≡ a.log → b.output ≡ a.output
    → b.chain.state ≡ a.chain.state → Gathers a b (output.Send frame ∷ [])
gathers_early a b frame empty early log late same chain prior has =
    let one : Output = output.Send frame in
    let unlogged : all_logged has.rest ≡ [] = no_entries chain (all_logged has.rest) (sym has.log ∙ empty) in
    let unsent : all_sent has.rest ≡ [] = sym has.late ∙ has.none empty in
    let none : b.output ≡ [] = late ∙ has.none empty in record {
      first = prior ++ one ∷ [];
      rest = [];
      all = sym (append-nil (prior ++ one ∷ []));
      unlogged = flat_map-append logged_of prior (one ∷ []) ∙ append-nil (all_logged prior) ∙ ap all_logged has.all
          ∙ flat_map-append logged_of has.first has.rest ∙ ap (λ (t : Entries). t ++ all_logged has.rest) has.unlogged ∙ unlogged;
      early = early ∙ ap (λ (t : List ℕ). t ++ frame_bytes frame) (has.early ∙ sym (append-nil (all_sent has.first))
          ∙ ap (λ (t : List ℕ). all_sent has.first ++ t) (sym unsent) ∙ sym (flat_map-append sent_of has.first has.rest)
          ∙ ap all_sent (sym has.all)) ∙ sym (bytes_push sent_of prior one);
      log = log ∙ empty;
      chain_now = same ∙ has.chain_now ∙ ap (λ (es : Entries). chain_behind chain es) unlogged;
      late = none;
      none = λ is. none;
    }

-- a frame is added behind an entry
pub gathers_late : (a b : Batch) (frame : List (List ℕ)) → (a.log ≡ [] → ⊥) → b.early ≡ a.early
    → b.log ≡ a.log → b.output ≡ a.output ++ frame_bytes frame → b.chain.state ≡ a.chain.state
    → Gathers a b (output.Send frame ∷ [])
gathers_late a b frame some early log late same chain prior has =
    let one : Output = output.Send frame in record {
      first = has.first;
      rest = has.rest ++ one ∷ [];
      all = ap (λ (t : List Output). t ++ one ∷ []) has.all ∙ append_assoc has.first has.rest (one ∷ []);
      unlogged = has.unlogged;
      early = early ∙ has.early;
      log = log ∙ has.log ∙ sym (logged_then chain has.rest (one ∷ []) ∙ append-nil (bytes_logged chain has.rest));
      chain_now = same ∙ has.chain_now ∙ sym (chain_all_then chain has.rest (one ∷ []));
      late = late ∙ ap (λ (t : List ℕ). t ++ frame_bytes frame) has.late ∙ sym (bytes_push sent_of has.rest one);
      none = λ is. absurd (some (sym log ∙ is));
    }

-- the same, if the bytes could be added
pub early_added : {E : Type 0} (result : Result (Unit {0}) E) (a b : Batch) (frame : List (List ℕ)) → a.log ≡ []
    → OnOk result (b.early ≡ a.early ++ frame_bytes frame) → b.log ≡ a.log → b.output ≡ a.output
    → b.chain.state ≡ a.chain.state → OnOk result (Gathers a b (output.Send frame ∷ []))
early_added (Ok done) a b frame empty wrote log late same = gathers_early a b frame empty wrote log late same
early_added (Err error) a b frame empty wrote log late same = tt

pub late_added : {E : Type 0} (result : Result (Unit {0}) E) (a b : Batch) (frame : List (List ℕ)) → (a.log ≡ [] → ⊥)
    → OnOk result (b.output ≡ a.output ++ frame_bytes frame) → b.early ≡ a.early
    → b.log ≡ a.log → b.chain.state ≡ a.chain.state → OnOk result (Gathers a b (output.Send frame ∷ []))
late_added (Ok done) a b frame some wrote early log same = gathers_late a b frame some early log wrote same
late_added (Err error) a b frame some wrote early log same = tt
