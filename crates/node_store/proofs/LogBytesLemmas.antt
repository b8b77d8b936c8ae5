-- The bytes of entries that follow each other, and the chain behind them.
use Rattle.std.proofs.Common.{◌≡◌, ℕ, ◌+◌, ◌<◌, ◌^◌, List, [], ◌∷◌, ◌++◌, length, get_or, take}
use Rattle.std.proofs.Common.{refl, sym, ap, ◌∙◌, append_assoc, append-nil, arith, length-append}
use Rattle.std.proofs.lemmas.Grind.{flat_map-append}
use Rattle.std.proofs.lemmas.List.{take_more}
use Rattle.frames.specs.Frame.{frame_bytes}
use Rattle.node_log.specs.Entry.{chain_after, chain_behind, head_of, log_entry_bytes}
use Rattle.node_log.proofs.HeadLemmas.{length-head}
use Rattle.node_log.proofs.MovedLemmas.{chain_after_lt}
use Rattle.node_effects.specs.declared.output.Output.{Output}
use Rattle.node_effects.specs.declared.output.Output.TheVariants as output
use Rattle.node_store.specs.Recovery.{log_bytes}
use Rattle.node_store.specs.Outputs.{all_logged, bytes_logged, chain_after_all, logged_of}

-- entries, each as its strings
abbrev pub Entries : Type 0
Entries = List (List (List ℕ))

pub chain_then : (chain : ℕ) (xs ys : Entries) → chain_behind chain (xs ++ ys) ≡ chain_behind (chain_behind chain xs) ys
chain_then chain [] ys = refl
chain_then chain (x ∷ xs) ys = chain_then (chain_after chain x) xs ys

pub bytes_then : (chain : ℕ) (xs ys : Entries)
    → log_bytes chain (xs ++ ys) ≡ log_bytes chain xs ++ log_bytes (chain_behind chain xs) ys
bytes_then chain [] ys = refl
bytes_then chain (x ∷ xs) ys =
    let next = chain_after chain x in
    ap (λ (t : List ℕ). log_entry_bytes chain x ++ t) (bytes_then next xs ys)
    ∙ sym (append_assoc (log_entry_bytes chain x) (log_bytes next xs) (log_bytes (chain_behind next xs) ys))

-- a last entry
pub chain_push : (chain : ℕ) (xs : Entries) (x : List (List ℕ))
    → chain_behind chain (xs ++ x ∷ []) ≡ chain_after (chain_behind chain xs) x
chain_push chain xs x = chain_then chain xs (x ∷ [])

pub bytes_push : (chain : ℕ) (xs : Entries) (x : List (List ℕ))
    → log_bytes chain (xs ++ x ∷ []) ≡ log_bytes chain xs ++ log_entry_bytes (chain_behind chain xs) x
bytes_push chain xs x =
    bytes_then chain xs (x ∷ [])
    ∙ ap (λ (t : List ℕ). log_bytes chain xs ++ t) (append-nil (log_entry_bytes (chain_behind chain xs) x))

-- one more of some entries
pub chain_more : (chain : ℕ) (xs : Entries) (i : ℕ) (d x : List (List ℕ)) → i < length xs → x ≡ get_or xs i d
    → chain_behind chain (take (i + 1) xs) ≡ chain_after (chain_behind chain (take i xs)) x
chain_more chain xs i d x lt is =
    ap (λ (ys : Entries). chain_behind chain ys) (take_more xs i d lt)
    ∙ chain_push chain (take i xs) (get_or xs i d)
    ∙ ap (λ (y : List (List ℕ)). chain_after (chain_behind chain (take i xs)) y) (sym is)

pub bytes_more : (chain : ℕ) (xs : Entries) (i : ℕ) (d x : List (List ℕ)) → i < length xs → x ≡ get_or xs i d
    → log_bytes chain (take (i + 1) xs) ≡ log_bytes chain (take i xs) ++ log_entry_bytes (chain_behind chain (take i xs)) x
bytes_more chain xs i d x lt is =
    ap (λ (ys : Entries). log_bytes chain ys) (take_more xs i d lt)
    ∙ bytes_push chain (take i xs) (get_or xs i d)
    ∙ ap (λ (y : List (List ℕ)). log_bytes chain (take i xs) ++ log_entry_bytes (chain_behind chain (take i xs)) y) (sym is)

-- one more entry was appended to some bytes
pub entry_pushed : (first chain next : ℕ) (before bytes more : List ℕ) (xs : Entries) (i : ℕ) (d x : List (List ℕ))
    → i < length xs → x ≡ get_or xs i d → more ≡ bytes ++ log_entry_bytes chain x → next ≡ chain_after chain x
    → (bytes ≡ before ++ log_bytes first (take i xs)) × (chain ≡ chain_behind first (take i xs))
    → (more ≡ before ++ log_bytes first (take (i + 1) xs)) × (next ≡ chain_behind first (take (i + 1) xs))
entry_pushed first chain next before bytes more xs i d x lt is grown passed (has, chained) =
    let done = log_bytes first (take i xs) in
    let behind = chain_behind first (take i xs) in (
      grown ∙ ap (λ (t : List ℕ). t ++ log_entry_bytes chain x) has
          ∙ ap (λ (c : ℕ). (before ++ done) ++ log_entry_bytes c x) chained
          ∙ append_assoc before done (log_entry_bytes behind x)
          ∙ ap (λ (t : List ℕ). before ++ t) (sym (bytes_more first xs i d x lt is)),
      passed ∙ ap (λ (c : ℕ). chain_after c x) chained ∙ sym (chain_more first xs i d x lt is),
    )

-- an entry has a byte
pub has_bytes : (chain : ℕ) (x : List (List ℕ)) → 0 < length (log_entry_bytes chain x)
has_bytes chain x =
    let body = frame_bytes x in
    omega (arith, length-append (head_of chain body) body, length-head chain body)

-- entries without bytes are none
pub no_entries : (chain : ℕ) (xs : Entries) → log_bytes chain xs ≡ [] → xs ≡ []
no_entries chain [] none = refl
no_entries chain (x ∷ xs) none =
    let len = ap length none in
    let some = has_bytes chain x in
    absurd (omega (arith, len, some, length-append (log_entry_bytes chain x) (log_bytes (chain_after chain x) xs)))

pub chain_behind_lt : (chain : ℕ) (xs : Entries) → chain < 2 ^ 32 → chain_behind chain xs < 2 ^ 32
chain_behind_lt chain [] small = small
chain_behind_lt chain (x ∷ xs) small = chain_behind_lt (chain_after chain x) xs (chain_after_lt chain x small)

-- ---- the entries among outputs

pub chain_all_then : (chain : ℕ) (xs ys : List Output)
    → chain_after_all chain (xs ++ ys) ≡ chain_after_all (chain_after_all chain xs) ys
chain_all_then chain xs ys =
    ap (λ (es : Entries). chain_behind chain es) (flat_map-append logged_of xs ys)
    ∙ chain_then chain (all_logged xs) (all_logged ys)

pub logged_then : (chain : ℕ) (xs ys : List Output)
    → bytes_logged chain (xs ++ ys) ≡ bytes_logged chain xs ++ bytes_logged (chain_after_all chain xs) ys
logged_then chain xs ys =
    ap (λ (es : Entries). log_bytes chain es) (flat_map-append logged_of xs ys)
    ∙ bytes_then chain (all_logged xs) (all_logged ys)

pub logged_push : (chain : ℕ) (xs : List Output) (entry : List (List ℕ))
    → bytes_logged chain (xs ++ output.Log entry ∷ []) ≡ bytes_logged chain xs ++ log_entry_bytes (chain_after_all chain xs) entry
logged_push chain xs entry =
    logged_then chain xs (output.Log entry ∷ [])
    ∙ ap (λ (t : List ℕ). bytes_logged chain xs ++ t) (append-nil (log_entry_bytes (chain_after_all chain xs) entry))
