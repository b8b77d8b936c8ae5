-- What steps keep: knowledge of earlier steps, and true replies.
use Rattle.std.proofs.Common.{◌≡◌, ℕ, suc, ◌<◌, ◌≤◌, false, List, [], ◌∷◌}
use Rattle.std.proofs.Common.{◌++◌, length, Option, Some, arith}
use Rattle.std.proofs.lemmas.List.{map_push, length_push}
use Rattle.std.specs.List.{AllByRecursion}
use Rattle.layout.specs.Quorum.{has}
use Rattle.layout.specs.Layout.{quorum_of}
use Rattle.layout.proofs.DistinctMemberLemmas.{distinct_push}
use Rattle.bank.specs.declared.kind.Kind.{Kind}
use Rattle.bank.specs.declared.reply.Answer.{Answer}
use Rattle.bank.specs.Bank.{Bank}
use Rattle.bank.specs.Knowledge.{IsTrueAnswer}
use Rattle.bank.specs.Facts.{SameBefore}
use Rattle.mail.specs.declared.phase.Taken.{Taken}
use Rattle.mail.specs.Phase.{Phase, members_of}
use Rattle.record.specs.Records.{Object, layout_at}
use Rattle.record.specs.Knowledge.{IsTrueReply, IsTruePhase}
use Rattle.bank.specs.declared.reply.Answer.TheVariants as answer
use Rattle.soundness.proofs.ListLemmas.{all_push, all_map}

-- what was answered stays true
pub answer_kept : (now : ℕ) (old new : Bank) (made : ℕ) (kind : Kind) (answer : Answer) → SameBefore old new now → made < now →
    IsTrueAnswer old made kind answer → IsTrueAnswer new made kind answer
answer_kept now old new made kind answer agree h says = grind arith

grown_reply : (object : Object) (phase : Phase) (replies : List Taken) (end : Option ℕ) (reply : Taken) →
    IsTrueReply object phase reply → IsTrueReply object (record phase { replies = replies; end = end }) reply
grown_reply object phase replies end reply r = grind arith

-- recorded: the phase stays open, or has its quorum now
pub phase_takes : (object : Object) (phase : Phase) (reply : Taken) (end : Option ℕ) → IsTruePhase object phase →
    IsTrueReply object phase reply → has (members_of phase.replies) reply.member ≡ false →
    AllByRecursion (λ other. other.step ≤ reply.step) phase.replies → ((at : ℕ) → end ≡ Some at →
    (at ≡ reply.step) × (quorum_of (layout_at object phase.position) ≤ suc (length phase.replies))) →
    IsTruePhase object (record phase { replies = phase.replies ++ reply ∷ []; end = end })
phase_takes object phase reply end truth r fresh earlier completes =
    grind (arith, all_map, all_push, distinct_push, grown_reply, length_push, map_push)
