-- Answers to commands, one after another.
use Rattle.std.proofs.Common.{◌≡◌, ℕ, zero, suc, List, [], ◌∷◌, ◌++◌}
use Rattle.std.proofs.Common.{Option, Some, refl, sym, subst, ap, ◌∙◌}
use Rattle.client_commands.specs.Deletion.{Deletion, left_over, name_now}
use Rattle.cluster_file.specs.File.{FileContents}
use Rattle.node_strings.specs.Strings.{Strings}
use Rattle.processes.specs.Answers.{Passed}
use Rattle.processes.proofs.CommandViewLemmas.{AreReplied, View, WroteOnce, Wrote}

pub replied_then : (number client : ℕ) (file : FileContents) (view : View) (first second : List Strings) (a b c : List Passed) →
    AreReplied number client file view first a b → AreReplied number client file view second b c →
    AreReplied number client file view (first ++ second) a c
replied_then number client file view [] second a b c same rest =
    subst (λ xs. AreReplied number client file view second xs c) (sym same) rest
replied_then number client file view (strings ∷ first) second [] b c is rest = absurd is
replied_then number client file view (strings ∷ first) second (command ∷ a) b c is rest =
    (is.0, replied_then number client file view first second a b c is.1 rest)

-- a command that came in later is left
pub replied_more : (number client : ℕ) (file : FileContents) (view : View) (all : List Strings) (before after more : List Passed) →
    AreReplied number client file view all before after → AreReplied number client file view all (before ++ more) (after ++ more)
replied_more number client file view [] before after more same = ap (λ xs. xs ++ more) same
replied_more number client file view (strings ∷ rest) [] after more is = absurd is
replied_more number client file view (strings ∷ rest) (command ∷ before) after more is =
    (is.0, replied_more number client file view rest before after more is.1)

-- a further write of a DEL
pub wrote_then : (view : View) (from : ℕ) (delta : Option ℕ) (count : ℕ) (first now rest : Deletion) →
    Wrote view from delta count first now →
    WroteOnce view from (name_now now) → left_over delta now ≡ Some rest → Wrote view from delta (suc count) first rest
wrote_then view from delta zero first now rest same once left =
    (subst (λ d. WroteOnce view from (name_now d)) (sym same) once, rest, ap (left_over delta) same ∙ left, refl)
wrote_then view from delta (suc count) first now rest is once left =
    (is.0, is.1, is.2, wrote_then view from delta count is.1 now rest is.3 once left)
