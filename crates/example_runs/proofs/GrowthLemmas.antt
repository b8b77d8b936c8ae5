-- A log that grows by some entries, and then by more.
use Rattle.std.proofs.Common.{◌≡◌, ◌<◌, ◌+◌, ℕ, List, [], ◌∷◌, ◌++◌, length, get_or, take}
use Rattle.std.proofs.Common.{refl, sym, subst, ap, ◌∙◌, append_assoc}
use Rattle.std.proofs.lemmas.List.{take_more}
use Rattle.node_effects.proofs.GrowthLemmas.{entries_append}
use Rattle.node_effects.specs.Work.{entries_in}
use Rattle.node_effects.specs.declared.output.Output.{Output}
use Rattle.node_effects.specs.declared.output.Output.TheVariants as output
use Rattle.node_log.specs.Entry.{chain_behind}
use Rattle.node_store.specs.Recovery.{log_bytes}
use Rattle.node_store.proofs.LogBytesLemmas.{bytes_then, chain_then}
use Rattle.node_strings.specs.Strings.{Strings}
use Rattle.processes.specs.Processes.{SentFrame}
use Rattle.example_runs.specs.Members.{HasGrown, frames_from}
use Rattle.example_runs.specs.declared.members.Member.{Member}

pub grown_then : (first old new : Member) (xs ys : List Strings) → HasGrown xs first old → HasGrown ys old new →
    HasGrown (xs ++ ys) first new
grown_then first old new xs ys grew more =
    let chain = first.chain.state in
    let before = first.log.items in record {
      log = more.log ∙ ap (λ (b : List ℕ). b ++ log_bytes old.chain.state ys) grew.log
          ∙ ap (λ (c : ℕ). (before ++ log_bytes chain xs) ++ log_bytes c ys) grew.chain
          ∙ append_assoc before (log_bytes chain xs) (log_bytes (chain_behind chain xs) ys)
          ∙ ap (λ (b : List ℕ). before ++ b) (sym (bytes_then chain xs ys));
      chain = more.chain ∙ ap (λ (c : ℕ). chain_behind c ys) grew.chain ∙ sym (chain_then chain xs ys);
      node = more.node ∙ grew.node;
    }

-- one more of some entries
pub grown_more : (first old new : Member) (xs : List Strings) (i : ℕ) (d x : Strings) → i < length xs → x ≡ get_or xs i d →
    HasGrown (take i xs) first old → HasGrown (x ∷ []) old new → HasGrown (take (i + 1) xs) first new
grown_more first old new xs i d x less is grew more =
    subst (λ (es : List Strings). HasGrown es first new)
    (ap (λ (y : Strings). take i xs ++ y ∷ []) is ∙ sym (take_more xs i d less))
    (grown_then first old new (take i xs) (x ∷ []) grew more)

frames_append : (sender : ℕ) (xs ys : List Output) →
    frames_from sender (xs ++ ys) ≡ frames_from sender xs ++ frames_from sender ys
frames_append sender [] ys = refl
frames_append sender (output.Log entry ∷ xs) ys = frames_append sender xs ys
frames_append sender (output.Send frame ∷ xs) ys =
    ap (λ (ss : List SentFrame). record { sender = sender; frame = frame } ∷ ss) (frames_append sender xs ys)

-- more outputs were carried out
pub carried_more : (sender : ℕ) (first old new : Member) (sent had has : List SentFrame) (xs ys : List Output) →
    HasGrown (entries_in xs) first old × (had ≡ sent ++ frames_from sender xs) → HasGrown (entries_in ys) old new →
    has ≡ had ++ frames_from sender ys →
    HasGrown (entries_in (xs ++ ys)) first new × (has ≡ sent ++ frames_from sender (xs ++ ys))
carried_more sender first old new sent had has xs ys (grew, wrote) more writes = (
  subst (λ (es : List Strings). HasGrown es first new) (sym (entries_append xs ys))
      (grown_then first old new (entries_in xs) (entries_in ys) grew more),
  writes ∙ ap (λ (ss : List SentFrame). ss ++ frames_from sender ys) wrote
      ∙ append_assoc sent (frames_from sender xs) (frames_from sender ys)
      ∙ ap (λ (ss : List SentFrame). sent ++ ss) (sym (frames_append sender xs ys)),
)
