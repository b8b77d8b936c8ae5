-- What a node keeps of a bank of the world, open or closed.
use Rattle.std.proofs.Common.{◌≡◌, ℕ, Option, None, Some, IsSome, option_map}
use Rattle.std.proofs.Common.{refl, sym, ap, subst, ◌∙◌}
use Rattle.std.proofs.lemmas.Option.{same_Some}
use Rattle.tag.specs.declared.tag.Tag.{Tag}
use Rattle.piece.specs.declared.piece.Piece.{Piece}
use Rattle.bank.specs.Bank.{Bank, piece_of}
use Rattle.bank.specs.Floor.{remembered}
use Rattle.bank.specs.Serve.{reply_to, served_bank}
use Rattle.bank.specs.declared.reply.Answer.{Answer}
use Rattle.bank.specs.declared.reply.Reply.{Reply}
use Rattle.bank.specs.declared.request.Request.{Request}
use Rattle.bank.proofs.RememberedReplyLemmas.{reply-remembered}
use Rattle.bank.proofs.RememberedStepLemmas.{remembered-served}
use Rattle.closed_bank.specs.ClosedBank.{ClosedBank, closed_of}
use Rattle.closed_bank.specs.Serve.{closed_answer, reply_at}
use Rattle.closed_bank.proofs.ClosedBankLemmas.{closed-remembered, closes_for, declined_same, same_reply, stays_closed}
use Rattle.local_object.specs.declared.kept_bank.KeptBank.{KeptBank}
use Rattle.local_object.specs.declared.kept_bank.KeptBank.TheVariants as kept
use Rattle.local_object.specs.ChangedBanks.{bank_after, kept_after, kept_bank}
use Rattle.local_object.specs.KeptBanks.{after_closing, closed_or, closing, kept_reply}
use Rattle.local_object.specs.Local.{Place, bank_in, bank_or_opened}
use Rattle.refinement.specs.Parts.{IsKeptOf}
use Rattle.refinement.specs.SystemValues.{kept_piece}

-- the same, of other descriptions of both
pub kept_as : {whole other : Bank} {bank new : KeptBank} → whole ≡ other → bank ≡ new → IsKeptOf whole bank → IsKeptOf other new
kept_as {other = other} {bank = bank} same is kept =
    subst (IsKeptOf other) is (subst (λ (w : Bank). IsKeptOf w bank) same kept)

-- What is served

some_answer : (o : Option Answer) (reply : Reply) → option_map (reply_at 0) o ≡ Some reply → IsSome o
some_answer None reply e = absurd (cc)
some_answer (Some told) reply e = refl

no_answer : (o : Option Answer) → option_map (reply_at 0) o ≡ None → o ≡ None
no_answer None e = refl
no_answer (Some told) e = absurd (cc)

-- the reply is that of the whole bank
pub same_as_whole : (whole : Bank) (bank : KeptBank) (asked : Request) (reply : Reply) → IsKeptOf whole bank →
    kept_reply bank asked ≡ Some reply → reply ≡ reply_to whole asked 0
same_as_whole whole (kept.Open bank) asked reply is e =
    sym (same_Some (reply_to bank asked 0) reply e) ∙ ap (λ b. reply_to b asked 0) (sym is) ∙ reply-remembered whole asked 0
same_as_whole whole (kept.Closed closed) asked reply is e = same_reply whole closed is asked 0 reply e

-- and it is kept of the whole bank again
pub kept_on : (whole : Bank) (bank : KeptBank) (asked : Request) (reply : Reply) → IsKeptOf whole bank →
    kept_reply bank asked ≡ Some reply → IsKeptOf (served_bank whole asked 0) (kept_after bank asked)
kept_on whole (kept.Open bank) asked reply is e = sym (remembered-served whole asked 0) ∙ ap (λ b. bank_after b asked) is
kept_on whole (kept.Closed closed) asked reply is e =
    stays_closed whole closed is asked 0 (some_answer (closed_answer closed asked) reply e)

-- what declines a request stays as it is
pub kept_declined : (bank : Option KeptBank) (member : ℕ) (delta : Option ℕ) (asked : Request) →
    kept_reply (bank_or_opened bank member delta) asked ≡ None → kept_bank bank member delta asked ≡ bank
kept_declined None member delta asked e = absurd (cc)
kept_declined (Some (kept.Open bank)) member delta asked e = absurd (cc)
kept_declined (Some (kept.Closed closed)) member delta asked e =
    ap (λ c. Some (kept.Closed c)) (declined_same closed asked (no_answer (closed_answer closed asked) e))

-- What is closed

-- a bank that a node closes is kept of the whole one
pub kept_closed : (whole : Bank) (bank : Option KeptBank) (member : ℕ) (delta : Option ℕ) → IsSome (closing bank) →
    IsKeptOf whole (bank_or_opened bank member delta) → IsKeptOf whole (bank_or_opened (after_closing bank) member delta)
kept_closed whole None member delta can is = absurd (cc)
kept_closed whole (Some (kept.Closed closed)) member delta can is = absurd (cc)
kept_closed whole (Some (kept.Open bank)) member delta can is = go (closed_of bank) refl can
  where
    go : (o : Option ClosedBank) → closed_of bank ≡ o → IsSome o →
        IsKeptOf whole (bank_or_opened (closed_or o (Some (kept.Open bank))) member delta)
    go None e some = absurd (cc)
    go (Some closed) e some =
        (closes_for whole closed).0 (sym (closed-remembered whole) ∙ ap closed_of is ∙ e)

-- where a node can close a bank, it has heard of the position
pub closing_known : (o : Option Place) → IsSome (closing (bank_in o)) → IsSome o
closing_known None can = absurd (cc)
closing_known (Some place) can = refl

-- its pieces are those of the whole bank
pub piece_of_kept : (whole : Bank) (bank : KeptBank) (tag : Tag) (piece : Piece) → IsKeptOf whole bank →
    kept_piece bank tag ≡ Some piece → piece_of (remembered whole) tag ≡ Some piece
piece_of_kept whole (kept.Open bank) tag piece is has = ap (λ (b : Bank). piece_of b tag) is ∙ has
piece_of_kept whole (kept.Closed closed) tag piece is has = absurd (cc)
