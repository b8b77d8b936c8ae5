-- Outputs that are written.
use Rattle.std.proofs.Common.{◌≡◌, ℕ, List, [], ◌++◌, Result, Err}
use Rattle.std.proofs.Common.{sym, ap, subst, ◌∙◌, refl, append_assoc, append-nil}
use Rattle.std.specs.Io.KnownBytes.{Appends}
use Rattle.std.proofs.lemmas.Grind.{flat_map-append}
use Rattle.frames.specs.Writing.{Writes}
use Rattle.node_log.specs.Entry.{chain_behind}
use Rattle.node_effects.specs.declared.output.Output.{Output}
use Rattle.node_store.specs.Recovery.{log_bytes}
use Rattle.node_store.specs.Outputs.{AppendsPart, HasGathered, WritesAll, WritesFirst, all_logged, all_sent}
use Rattle.node_store.specs.Outputs.{bytes_logged, chain_after_all, logged_of, sent_of}
use Rattle.node_store.specs.declared.batch.Batch.{Batch}
use Rattle.node_store.proofs.GrowthLemmas.{Known, appends_none, appends_then}
use Rattle.node_store.proofs.LogBytesLemmas.{Entries, logged_then}

-- ---- what is written

-- a write that failed, and what it says
abbrev pub failed : {E : Type 0} → E → Result (Unit {0}) E
failed cause = Err cause

-- all of the bytes are kept
all_kept : (kept keeps : Known) (bytes : List ℕ) → Appends kept keeps bytes → AppendsPart kept keeps bytes bytes
all_kept kept keeps bytes appended = (
  [],
  [],
  sym (append-nil bytes) ∙ sym (append-nil (bytes ++ [])),
  subst (Appends kept keeps) (sym (append-nil bytes)) appended,
)

module _ (chain : ℕ) (batch : Batch) (outputs : List Output) (has : HasGathered chain batch outputs) where
  entries_are : all_logged outputs ≡ all_logged has.rest
  entries_are = ap all_logged has.all ∙ flat_map-append logged_of has.first has.rest
      ∙ ap (λ (t : Entries). t ++ all_logged has.rest) has.unlogged

  all_logged_is : bytes_logged chain outputs ≡ batch.log
  all_logged_is = ap (λ (es : Entries). log_bytes chain es) entries_are ∙ sym has.log

  -- none of the first outputs has an entry
  none_logged : bytes_logged chain has.first ≡ []
  none_logged = ap (λ (es : Entries). log_bytes chain es) has.unlogged

  -- the chain behind all entries
  pub chain_is : batch.chain.state ≡ chain_after_all chain outputs
  chain_is = has.chain_now ∙ sym (ap (λ (es : Entries). chain_behind chain es) entries_are)

  all_sent_is : all_sent outputs ≡ batch.early ++ batch.output
  all_sent_is = ap all_sent has.all ∙ flat_map-append sent_of has.first has.rest
      ∙ ap (λ (t : List ℕ). t ++ all_sent has.rest) (sym has.early)
      ∙ ap (λ (t : List ℕ). batch.early ++ t) (sym has.late)

  -- the first frames cannot be written
  pub early_unsent : {E : Type 0} (kept held holds : Known) (cause : E) → Writes held holds (failed cause) batch.early
      → WritesFirst chain kept kept held holds outputs
  early_unsent kept held holds cause wrote = (
    has.first,
    has.rest,
    has.all,
    subst (λ (t : List ℕ). AppendsPart kept kept t (bytes_logged chain outputs)) (sym none_logged)
        ([], bytes_logged chain outputs, refl, appends_none kept),
    (wrote.0, wrote.1, sym has.early ∙ wrote.2, wrote.3),
  )

  -- the log cannot be written
  pub unlogged_first : {E : Type 0} (kept keeps held holds : Known) (cause : E) → Appends held holds batch.early
      → Writes kept keeps (failed cause) batch.log → WritesFirst chain kept keeps held holds outputs
  unlogged_first kept keeps held holds cause wrote logged = (
    has.first,
    has.rest,
    has.all,
    subst (λ (t : List ℕ). AppendsPart kept keeps t (bytes_logged chain outputs)) (sym none_logged)
        (logged.0, logged.1, all_logged_is ∙ logged.2, logged.3),
    (batch.early, [], sym has.early ∙ sym (append-nil batch.early), wrote),
  )

  -- the other frames cannot be written
  pub late_unsent : {E : Type 0} (kept keeps held middle holds : Known) (cause : E) → Appends held middle batch.early
      → Appends kept keeps batch.log → Writes middle holds (failed cause) batch.output
      → WritesFirst chain kept keeps held holds outputs
  late_unsent kept keeps held middle holds cause early logged wrote = (
    outputs,
    [],
    sym (append-nil outputs),
    all_kept kept keeps (bytes_logged chain outputs) (subst (Appends kept keeps) (sym all_logged_is) logged),
    (
      batch.early ++ wrote.0,
      wrote.1,
      all_sent_is ∙ ap (λ (t : List ℕ). batch.early ++ t) wrote.2 ∙ sym (append_assoc batch.early wrote.0 wrote.1),
      appends_then held middle holds batch.early wrote.0 early wrote.3,
    ),
  )

  -- all is written
  pub all_written : (kept keeps held middle holds : Known) → Appends held middle batch.early
      → Appends kept keeps batch.log → Appends middle holds batch.output → WritesAll chain kept keeps held holds outputs
  all_written kept keeps held middle holds early logged late = (
    subst (Appends kept keeps) (sym all_logged_is) logged,
    subst (Appends held holds) (sym all_sent_is)
        (appends_then held middle holds batch.early batch.output early late),
  )

-- ---- one thing behind another

pub written_none : (chain : ℕ) (kept held : Known) → WritesAll chain kept kept held held []
written_none chain kept held = (appends_none kept, appends_none held)

pub written_then : (chain : ℕ) (xs ys : List Output) (k0 k1 k2 h0 h1 h2 : Known) → WritesAll chain k0 k1 h0 h1 xs
    → WritesAll (chain_after_all chain xs) k1 k2 h1 h2 ys → WritesAll chain k0 k2 h0 h2 (xs ++ ys)
written_then chain xs ys k0 k1 k2 h0 h1 h2 p q = (
  subst (Appends k0 k2) (sym (logged_then chain xs ys))
      (appends_then k0 k1 k2 (bytes_logged chain xs) (bytes_logged (chain_after_all chain xs) ys) p.0 q.0),
  subst (Appends h0 h2) (sym (flat_map-append sent_of xs ys)) (appends_then h0 h1 h2 (all_sent xs) (all_sent ys) p.1 q.1),
)

-- nothing was written yet
pub unwritten : (chain : ℕ) (kept held : Known) (outputs : List Output) → WritesFirst chain kept kept held held outputs
unwritten chain kept held outputs =
    ([], outputs, refl, ([], bytes_logged chain outputs, refl, appends_none kept), ([], [], refl, appends_none held))

-- all was written
pub written_first : (chain : ℕ) (kept keeps held holds : Known) (outputs : List Output)
    → WritesAll chain kept keeps held holds outputs → WritesFirst chain kept keeps held holds outputs
written_first chain kept keeps held holds outputs p = (
  outputs,
  [],
  sym (append-nil outputs),
  all_kept kept keeps (bytes_logged chain outputs) p.0,
  (all_sent outputs, [], sym (append-nil (all_sent outputs)), p.1),
)

-- some outputs were written, and then the first ones of others
pub first_then : (chain : ℕ) (xs ys : List Output) (k0 k1 k2 h0 h1 h2 : Known) → WritesAll chain k0 k1 h0 h1 xs
    → WritesFirst (chain_after_all chain xs) k1 k2 h1 h2 ys → WritesFirst chain k0 k2 h0 h2 (xs ++ ys)
first_then chain xs ys k0 k1 k2 h0 h1 h2 p q =
    let (first, rest, all, least, front) = q in
    let next = bytes_logged (chain_after_all chain xs) first in (
      xs ++ first,
      rest,
      ap (λ (t : List Output). xs ++ t) all ∙ sym (append_assoc xs first rest),
      subst (λ (t : List ℕ). AppendsPart k0 k2 t (bytes_logged chain (xs ++ ys))) (sym (logged_then chain xs first)) (
        least.0,
        least.1,
        logged_then chain xs ys ∙ ap (λ (t : List ℕ). bytes_logged chain xs ++ t) least.2
            ∙ sym (append_assoc (bytes_logged chain xs) (next ++ least.0) least.1)
            ∙ ap (λ (t : List ℕ). t ++ least.1) (sym (append_assoc (bytes_logged chain xs) next least.0)),
        subst (Appends k0 k2) (sym (append_assoc (bytes_logged chain xs) next least.0))
            (appends_then k0 k1 k2 (bytes_logged chain xs) (next ++ least.0) p.0 least.3),
      ),
      (
        all_sent xs ++ front.0,
        front.1,
        flat_map-append sent_of xs first ∙ ap (λ (t : List ℕ). all_sent xs ++ t) front.2
            ∙ sym (append_assoc (all_sent xs) front.0 front.1),
        appends_then h0 h1 h2 (all_sent xs) front.0 p.1 front.3,
      ),
    )
