-- The reply to a request fits, and so does what it tells.
use Rattle.std.proofs.Common.{◌≡◌, ℕ, ◌<◌, ◌^◌, Bool, true, false, cond, Option, Some, None, IsSome, refl, arith}
use Rattle.std.specs.Prelude.{IfSome, is_some}
use Rattle.bank.specs.Bank.{Bank, piece_of}
use Rattle.bank.specs.Pointer.{status_of}
use Rattle.bank.specs.Serve.{answer_to, greatest_final, kind_of, reply_to}
use Rattle.bank.specs.declared.reply.Answer.{Answer}
use Rattle.bank.specs.declared.reply.Answer.TheVariants as answer
use Rattle.bank.specs.declared.reply.Reply.{Reply}
use Rattle.bank.specs.declared.request.Request.{Request}
use Rattle.bank.specs.declared.request.Request.TheVariants as request
use Rattle.closed_bank.specs.ClosedBank.{ClosedBank}
use Rattle.closed_bank.specs.Serve.{closed_reply}
use Rattle.layout.specs.Layout.{Layout}
use Rattle.local_object.specs.KeptBanks.{kept_reply}
use Rattle.local_object.specs.Outcomes.{next_in_answer}
use Rattle.local_object.specs.Reports.{told_by}
use Rattle.local_object.specs.declared.kept_bank.KeptBank.{KeptBank}
use Rattle.local_object.specs.declared.kept_bank.KeptBank.TheVariants as kept
use Rattle.mail.specs.Message.{answer_names_next, status_names_next}
use Rattle.node_messages.specs.Message.{IsKind, IsRequest, IsTag}
use Rattle.fitting.specs.Letters.{IsFitLayout, IsFitPiece, IsFitTelling}
use Rattle.fitting.specs.Objects.{IsFitBank, IsFitKept, kept_status}
use Rattle.fitting.proofs.BankLemmas.{IsFitAnswer, answer_fit, greatest_fit, piece_fit}
use Rattle.fitting.proofs.RequestLemmas.{pointed_fit, pointed_there}

-- the answer to a request fits, and it says that there is a next position only if the bank does
pub record IsFitReply (asked : Request) (says : Bool) (made : Reply) : Type 0 where
  pub step : made.step < 2 ^ 64
  pub fit : IsFitAnswer asked made.answer
  pub next : answer_names_next made.answer ≡ true → says ≡ true

open_reply : (bank : Bank) (asked : Request) → IsFitBank bank →
    IsFitReply asked (status_names_next (status_of bank.pointer)) (reply_to bank asked 0)
open_reply bank asked fit = record { step = omega arith; fit = answer_fit bank asked fit; next = go asked }
  where
    go : (q : Request) → answer_names_next (answer_to bank q) ≡ true → status_names_next (status_of bank.pointer) ≡ true
    go request.Next e = e
    go (request.Spread said) e = absurd (cc)
    go request.Query e = absurd (cc)
    go (request.PreWrite tag piece) e = absurd (cc)
    go (request.Finalize tag) e = absurd (cc)
    go (request.Fetch tag) e = absurd (cc)

closed_fit : (closed : ClosedBank) (asked : Request) → IsTag closed.greatest → IfSome (closed_reply closed asked 0) (IsFitReply asked true)
closed_fit closed request.Next fit =
    record { step = omega arith; fit = record { numbers = tt; answers = refl; short = omega arith }; next = λ e. refl }
closed_fit closed (request.Spread said) fit =
    record { step = omega arith; fit = record { numbers = tt; answers = refl; short = omega arith }; next = λ e. refl }
closed_fit closed request.Query fit =
    record { step = omega arith; fit = record { numbers = fit; answers = refl; short = omega arith }; next = λ e. refl }
closed_fit closed (request.PreWrite tag piece) fit =
    record { step = omega arith; fit = record { numbers = tt; answers = refl; short = omega arith }; next = λ e. refl }
closed_fit closed (request.Finalize tag) fit =
    record { step = omega arith; fit = record { numbers = tt; answers = refl; short = omega arith }; next = λ e. refl }
closed_fit closed (request.Fetch tag) fit = tt

pub reply_fit : (bank : KeptBank) (asked : Request) → IsFitKept bank →
    IfSome (kept_reply bank asked) (IsFitReply asked (status_names_next (kept_status bank)))
reply_fit (kept.Open bank) asked fit = open_reply bank asked fit
reply_fit (kept.Closed closed) asked fit = closed_fit closed asked fit

pub kind_fit : (asked : Request) → IsRequest asked → IsKind (kind_of asked)
kind_fit request.Next is = tt
kind_fit (request.Spread said) is = tt
kind_fit request.Query is = tt
kind_fit (request.PreWrite tag piece) is = is.0
kind_fit (request.Finalize tag) is = is
kind_fit (request.Fetch tag) is = is

pub answer_next : (made : Answer) (o : Option Layout) → (answer_names_next made ≡ true → IsSome o) →
    is_some (next_in_answer made o) ≡ answer_names_next made
answer_next answer.Done o known = refl
answer_next (answer.Pointer said) o known = pointed_there said o known
answer_next (answer.Greatest tag) o known = refl
answer_next (answer.Piece piece) o known = refl

pub answer_lawful : (made : Answer) (o : Option Layout) → IfSome o IsFitLayout → IfSome (next_in_answer made o) IsFitLayout
answer_lawful answer.Done o fit = tt
answer_lawful (answer.Pointer said) o fit = pointed_fit said o fit
answer_lawful (answer.Greatest tag) o fit = tt
answer_lawful (answer.Piece piece) o fit = tt

-- what is told of a fit bank
pub told_fit : (bank : KeptBank) (asks : Bool) → IsFitKept bank → IfSome (told_by bank asks) IsFitTelling
told_fit (kept.Open bank) asks fit = record { greatest = greatest_fit bank fit; piece = go asks }
  where
    go : (b : Bool) → IfSome (cond b (piece_of bank (greatest_final bank)) None) IsFitPiece
    go true = piece_fit bank (greatest_final bank) fit
    go false = tt
told_fit (kept.Closed closed) asks fit = tt
