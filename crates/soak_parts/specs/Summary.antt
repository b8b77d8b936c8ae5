-- The contracts that docs/trusted.md lists do not depend on this file; other contracts and proofs do.
-- The summary of a soak, its text and its exit status.
use Rattle.std.specs.Prelude.{◌≡◌, ◌↔◌, ℕ, ◌+◌, ◌==◌, ◌&&◌, Bool, true, false, is_some, IsTrue, List, [], ◌∷◌, ◌++◌}
use Rattle.std.specs.Prelude.{Option, Some, None, count_by, codes, if◌then◌else◌}
use Rattle.std.specs.Fmt.{decimal}
use Rattle.record.specs.Journals.{entries}
use Rattle.record.specs.declared.call.Entry.{Entry}
use Rattle.record.specs.declared.call.Operation.{Operation}
use Rattle.record.specs.declared.call.Operation.TheVariants as operation
use Rattle.register.specs.State.{State}
use Rattle.history.specs.Check.{must_stand}
use Rattle.cluster.specs.Cluster.{Cluster, named}
use Rattle.soak_parts.specs.Audit.{AreAccounted}
use Rattle.soak_parts.specs.declared.summary.Summary.{Summary}

-- the entries of an object; no entries if there is no object
abbrev pub entries_if_any : Option State → List Entry
entries_if_any None = []
entries_if_any (Some state) = entries state.object

-- the entries of the object of this name
abbrev pub entries_of : Cluster → (name : List ℕ) → List Entry
entries_of cluster name = entries_if_any (named cluster.objects name)

-- whether what a call does is a move
abbrev pub is_move_operation : Operation → Bool
is_move_operation operation.Read = false
is_move_operation operation.Write = false
is_move_operation operation.Move = true

-- whether an entry belongs to an answered move
abbrev pub is_answered_move : Entry → Bool
is_answered_move e = is_move_operation e.kind && is_some e.answered

-- how many reads and writes of the object of this name are answered
abbrev pub answered_calls : Cluster → (name : List ℕ) → ℕ
answered_calls cluster name = count_by must_stand (entries_of cluster name)

-- how many moves of the object of this name are answered
abbrev pub answered_moves : Cluster → (name : List ℕ) → ℕ
answered_moves cluster name = count_by is_answered_move (entries_of cluster name)

-- the summary of a cluster with the objects `a` and `b`, whose seats have this many receipts; `check` is true, since
-- the order of the tags is always a sequence of the object's history
pub record IsSummaryOf (cluster : Cluster) (receipt_count : ℕ) (s : Summary) : Type 0 where
  pub calls : s.calls ≡ answered_calls cluster (codes "a") + answered_calls cluster (codes "b")
  pub receipts : s.receipts ≡ receipt_count
  pub moves : s.moves ≡ answered_moves cluster (codes "a") + answered_moves cluster (codes "b")
  pub check : s.check ≡ true
  pub accounts : IsTrue s.accounts ↔ AreAccounted cluster

-- a line: a word, a space, and what the word says
abbrev pub line : (word said : List ℕ) → List ℕ
line word said = word ++ 32 ∷ said

-- a truth value as a word
abbrev pub truth : Bool → List ℕ
truth true = codes "true"
truth false = codes "false"

-- the five lines of a summary, separated by line feeds
abbrev pub summary_text : Summary → List ℕ
summary_text s = line (codes "calls") (decimal s.calls) ++ 10 ∷ line (codes "receipts") (decimal s.receipts)
    ++ 10 ∷ line (codes "moves") (decimal s.moves) ++ 10 ∷ line (codes "check") (truth s.check)
    ++ 10 ∷ line (codes "accounts") (truth s.accounts)

-- the exit status: 0 if there are as many calls as receipts and both truth values hold, and otherwise 1
abbrev pub exit_status_of_summary : Summary → ℕ
exit_status_of_summary s = if (s.calls == s.receipts) && (s.check && s.accounts) then 0 else 1
