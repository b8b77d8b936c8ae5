-- Entries that are written to a log in parts.
use Rattle.std.proofs.Common.{◌≡◌, ℕ, ◌+◌, ◌<◌, List, [], ◌++◌, length, get_or, take, sym, ap, subst, ◌∙◌}
use Rattle.std.proofs.Common.{append_assoc, append-nil, length-append}
use Rattle.std.specs.Io.KnownBytes.{Appends, Keeps}
use Rattle.node_log.specs.Entry.{chain_behind, log_entry_bytes}
use Rattle.node_store.specs.Recovery.{log_bytes}
use Rattle.node_store.proofs.GrowthLemmas.{Known, appends_then, appends_kept}
use Rattle.node_store.proofs.LogBytesLemmas.{bytes_more}

-- of these bytes, so many were written, and the others are in the part that waits
abbrev pub AreWritten : Known → Known → (part : List ℕ) → (count : ℕ) → List ℕ → Type 0
AreWritten old new part count bytes =
    (done : List ℕ) × (bytes ≡ done ++ part) × Appends old new done × (count ≡ length done)

-- one more entry waits
pub one_waits : (first chain : ℕ) (old new : Known) (part more : List ℕ) (count : ℕ) (entries : List (List (List ℕ))) (i : ℕ)
    (d entry : List (List ℕ)) → i < length entries → entry ≡ get_or entries i d → chain ≡ chain_behind first (take i entries)
    → more ≡ part ++ log_entry_bytes chain entry
    → AreWritten old new part count (log_bytes first (take i entries))
    → AreWritten old new more count (log_bytes first (take (i + 1) entries))
one_waits first chain old new part more count entries i d entry below is chained grown (done, all, appends, counted) = (
  done,
  bytes_more first entries i d entry below is
      ∙ ap (λ (c : ℕ). log_bytes first (take i entries) ++ log_entry_bytes c entry) (sym chained)
      ∙ ap (λ (t : List ℕ). t ++ log_entry_bytes chain entry) all
      ∙ append_assoc done part (log_entry_bytes chain entry)
      ∙ ap (λ (t : List ℕ). done ++ t) (sym grown),
  appends,
  counted,
)

-- the part that waited is written
pub part_written : (old mid new : Known) (part left bytes : List ℕ) (count end : ℕ) → AreWritten old mid part count bytes
    → Appends mid new part → left ≡ [] → end ≡ count + length part → AreWritten old new left end bytes
part_written old mid new part left bytes count end (done, all, appends, counted) more empty counts = (
  done ++ part,
  all ∙ sym (append-nil (done ++ part)) ∙ ap (λ (t : List ℕ). done ++ part ++ t) (sym empty),
  appends_then old mid new done part appends more,
  counts ∙ ap (λ (n : ℕ). n + length part) counted ∙ sym (length-append done part),
)

-- nothing waits any more, and the log was synced
pub all_written : (old mid new : Known) (left bytes : List ℕ) (count : ℕ) → AreWritten old mid left count bytes → left ≡ []
    → Keeps mid new → Appends old new bytes × (count ≡ length bytes)
all_written old mid new left bytes count (done, all, appends, counted) empty kept =
    let same : bytes ≡ done = all ∙ ap (λ (t : List ℕ). done ++ t) empty ∙ append-nil done in (
      subst (Appends old new) (sym same) (appends_kept old mid new done appends kept),
      counted ∙ ap length (sym same),
    )

-- the same of a log, a part and a count that are the same
pub same_written : (old log mid : Known) (part waits bytes : List ℕ) (count end : ℕ) → log ≡ mid → part ≡ waits → count ≡ end
    → AreWritten old mid waits end bytes → AreWritten old log part count bytes
same_written old log mid part waits bytes count end is_log is_part is_count h =
    subst (λ (x : Known). AreWritten old x part count bytes) (sym is_log)
    (subst (λ (x : List ℕ). AreWritten old mid x count bytes) (sym is_part)
    (subst (λ (x : ℕ). AreWritten old mid waits x bytes) (sym is_count) h))
