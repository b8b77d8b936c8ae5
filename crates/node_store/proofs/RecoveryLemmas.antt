-- A machine that carries out one entry after another.
use Rattle.std.proofs.Common.{◌≡◌, ℕ, ◌+◌, List, [], ◌∷◌, ◌++◌, length, Option, Some, None, Ok, Err}
use Rattle.std.proofs.Common.{sym, ap, subst, ◌∙◌, refl, length-append}
use Rattle.std.specs.List.{FoldsTo, AllByRecursion}
use Rattle.std.specs.Io.KnownBytes.{Consumes}
use Rattle.node_log.specs.Entry.{chain_after, chain_behind, first_chain, log_entry_bytes}
use Rattle.node_log.specs.Reading.{HadLeft, IsEnd}
use Rattle.node_store.specs.Recovery.{IsWholeEntry, log_bytes, IsEntryAt, StopsFor}
use Rattle.node_store.specs.Recovery.{HasReadNext, HasRecovered}
use Rattle.node_store.specs.declared.error.StoreError.{StoreError}
use Rattle.node_store.specs.declared.end.LogEnd.{LogEnd}
use Rattle.node_store.proofs.GrowthLemmas.{Known, consumes_then, consumes_none, left_behind, all_push, folds_then}
use Rattle.node_store.proofs.LogBytesLemmas.{bytes_push, chain_push}

-- the entry stands at the front of what the reader had
pub entry_at : (chain : ℕ) (P : List (List ℕ) → Type 0) (entry : List (List ℕ)) (had left : Known) → IsWholeEntry entry
    → P entry → Consumes had left (log_entry_bytes chain entry) → HadLeft (IsEntryAt chain P) had
entry_at chain P entry None left whole holds took = tt
entry_at chain P entry (Some xs) None whole holds took = absurd took
entry_at chain P entry (Some xs) (Some ys) whole holds took = (entry, ys, whole, took, holds)

module _ {M : Type 0} (carries_out : M → List (List ℕ) → M → Type 0) where
  -- the entries that the machine has carried out so far
  abbrev pub IsSoFar : M → M → Known → Known → LogEnd → Type 0
  IsSoFar old new had left at =
      (entries : List (List (List ℕ))) × AllByRecursion IsWholeEntry entries × FoldsTo carries_out old entries new
      × (at.length ≡ length (log_bytes first_chain entries)) × (at.chain.state ≡ chain_behind first_chain entries)
      × Consumes had left (log_bytes first_chain entries)

  pub so_far_none : (old : M) (had : Known) (at : LogEnd) → at.length ≡ 0 → at.chain.state ≡ first_chain
      → IsSoFar old old had had at
  so_far_none old had at none begins = ([], tt, refl, none, begins, consumes_none had)

  pub so_far_more : (old mid new : M) (had left next : Known) (at end : LogEnd) → IsSoFar old mid had left at
      → HasReadNext carries_out at mid new left next (Ok (Some end)) → IsSoFar old new had next end
  so_far_more old mid new had left next at end p q =
      let (entries, whole, folds, bytes, chained, took) = p in
      let (entry, is_whole, carried, took_more, past) = q in
      let begun = chain_behind first_chain entries in
      let push : log_bytes first_chain (entries ++ entry ∷ [])
      ≡ log_bytes first_chain entries ++ log_entry_bytes (chain_behind first_chain entries) entry =
      bytes_push first_chain entries entry in (
        entries ++ entry ∷ [],
        all_push IsWholeEntry entries entry whole is_whole,
        folds_then carries_out old entries mid (entry ∷ []) new folds (new, carried, refl),
        past.long ∙ ap (λ (n : ℕ). n + length (log_entry_bytes at.chain.state entry)) bytes
            ∙ ap (λ (c : ℕ). length (log_bytes first_chain entries) + length (log_entry_bytes c entry)) chained
            ∙ sym (length-append (log_bytes first_chain entries) (log_entry_bytes begun entry)) ∙ ap length (sym push),
        past.chained ∙ ap (λ (c : ℕ). chain_after c entry) chained ∙ sym (chain_push first_chain entries entry),
        subst (Consumes had next) (sym push)
            (consumes_then had left next (log_bytes first_chain entries) (log_entry_bytes begun entry) took
            (subst (λ (c : ℕ). Consumes left next (log_entry_bytes c entry)) chained took_more)),
      )

  pub read_as : (at : LogEnd) (old new : M) (had left : Known) (found end : Option LogEnd) → found ≡ end
      → HasReadNext carries_out at old new had left (Ok found) → HasReadNext carries_out at old new had left (Ok end)
  read_as at old new had left found end same p =
      subst (λ (o : Option LogEnd). HasReadNext carries_out at old new had left (Ok o)) same p

  -- behind the entries so far, the log ends
  pub so_far_end : (old mid new : M) (had left next : Known) (at : LogEnd) → IsSoFar old mid had left at
      → HasReadNext carries_out at mid new left next (Ok None) → HasRecovered carries_out old new had (Ok at)
  so_far_end old mid new had left next at p q =
      let (entries, whole, folds, bytes, chained, took) = p in (
        entries,
        (
          whole,
          subst (FoldsTo carries_out old entries) q.0 folds,
          bytes,
          left_behind (IsEnd (chain_behind first_chain entries)) had left (log_bytes first_chain entries) took
              (subst (λ (c : ℕ). HadLeft (IsEnd c) left) chained q.1),
        ),
        chained,
      )

  -- behind the entries so far, reading stops
  pub so_far_stop : (old mid new last : M) (had left next : Known) (at : LogEnd) (error : StoreError)
      → IsSoFar old mid had left at → HasReadNext carries_out at mid new left next (Err error)
      → HasRecovered carries_out old last had (Err error)
  so_far_stop old mid new last had left next at error p q =
      let (entries, whole, folds, bytes, chained, took) = p in
      let begun = chain_behind first_chain entries in (
        entries,
        mid,
        (
          whole,
          folds,
          q.0 ∙ bytes,
          left_behind (StopsFor error.at error.fault begun) had left (log_bytes first_chain entries) took
              (subst (λ (n : ℕ). HadLeft (StopsFor n error.fault begun) left) (sym q.0)
              (subst (λ (c : ℕ). HadLeft (StopsFor at.length error.fault c) left) chained q.1)),
        ),
      )
