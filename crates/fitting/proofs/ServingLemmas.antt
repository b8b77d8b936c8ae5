-- A fit object that serves a request stays fit, and its reply is fit.
use Rattle.std.proofs.Common.{◌≡◌, ◌⊎◌, inl, inr, ℕ, suc, ◌<◌, ◌≤◌, ◌^◌, Bool, true, false, cond, Option, Some, None, IsSome, refl, sym}
use Rattle.std.proofs.Common.{subst, ap, ◌∙◌, arith}
use Rattle.std.specs.List.{AllByRecursion}
use Rattle.std.specs.Prelude.{IfSome, is_some}
use Rattle.bank.specs.Bank.{Bank, opened_bank}
use Rattle.bank.specs.Pointer.{raised, status_of}
use Rattle.bank.specs.declared.reply.Reply.{Reply}
use Rattle.bank.specs.declared.request.Request.{Request}
use Rattle.bank.specs.declared.request.Request.TheVariants as request
use Rattle.bank.specs.declared.status.Pointer.{Pointer}
use Rattle.bank.specs.declared.status.Pointer.TheVariants as pointer
use Rattle.bank.specs.declared.status.Status.{Status}
use Rattle.bank.specs.declared.status.Status.TheVariants as status
use Rattle.closed_bank.specs.Serve.{closed_after}
use Rattle.frames.specs.declared.limits.TheConstants.{LONGEST_STRING}
use Rattle.letter.specs.declared.letter.Letter.{Letter}
use Rattle.letter.specs.declared.telling.Telling.{Telling}
use Rattle.local_object.specs.ChangedBanks.{bank_after, changes_bank, kept_after, kept_bank}
use Rattle.local_object.specs.Events.{handled_here, reply_letters, served_here}
use Rattle.local_object.specs.KeptBanks.{kept_reply}
use Rattle.local_object.specs.Local.{LocalObject, bank_here, bank_in, bank_or_opened, heard_place, layout_here, with_bank_here}
use Rattle.local_object.specs.Outcomes.{learnt_from, letter_of}
use Rattle.local_object.specs.Reports.{told_by}
use Rattle.local_object.specs.declared.kept_bank.KeptBank.{KeptBank}
use Rattle.local_object.specs.declared.kept_bank.KeptBank.TheVariants as kept
use Rattle.mail.specs.Message.{answered, body_bytes, body_kind, names_next, request_names_next, status_names_next}
use Rattle.mail.specs.declared.message.Body.{Body}
use Rattle.mail.specs.declared.message.Body.TheVariants as body
use Rattle.node_messages.specs.Message.{IsBody, IsKind, IsRequest, IsTag, is_answer_to}
use Rattle.tag.specs.declared.limits.TheConstants.{MOST_MEMBERS}
use Rattle.fitting.specs.Letters.{IsFitLetter, IsFitTelling}
use Rattle.fitting.specs.Objects.{IsFitKept, IsFitObject, kept_status, says_next}
use Rattle.fitting.proofs.BankLemmas.{IsFitRequest, after_fit, later_fit, opened_fit}
use Rattle.fitting.proofs.PlaceLemmas.{learnt_fit, learnt_next, put_fit}
use Rattle.fitting.proofs.KnownLemmas.{known_fit, place_bank, says_known}
use Rattle.fitting.proofs.ReplyLemmas.{IsFitReply, answer_lawful, answer_next, kind_fit, reply_fit, told_fit}
use Rattle.fitting.proofs.RequestLemmas.{knows_fit, starts_fit}
use Rattle.fitting.proofs.CallLemmas.{IsFitOutcome}

-- Requests that are served

pointer_says : (p : Pointer) (said : Status) → status_names_next (status_of (raised p said 0)) ≡ true →
    (status_names_next (status_of p) ≡ true) ⊎ (status_names_next said ≡ true)
pointer_says pointer.Unset status.Unset e = absurd (cc)
pointer_says pointer.Unset status.Pending e = inr refl
pointer_says pointer.Unset status.Final e = inr refl
pointer_says (pointer.Pending since) said e = inl refl
pointer_says (pointer.Final pending since) said e = inl refl

bank_says : (bank : Bank) (asked : Request) → status_names_next (status_of (bank_after bank asked).pointer) ≡ true →
    (status_names_next (status_of bank.pointer) ≡ true) ⊎ (request_names_next asked ≡ true)
bank_says bank request.Next e = inl e
bank_says bank (request.Spread said) e = pointer_says bank.pointer said e
bank_says bank request.Query e = inl e
bank_says bank (request.PreWrite tag piece) e = inl e
bank_says bank (request.Finalize tag) e = inl e
bank_says bank (request.Fetch tag) e = inl e

module _ (member : ℕ) (delta : Option ℕ) (small : member < 2 ^ 8) (asked : Request) (is : IsFitRequest asked) where
  kept_fit : (bank : KeptBank) → IsFitKept bank → IsFitKept (kept_after bank asked)
  kept_fit (kept.Open bank) fit = after_fit bank asked fit is
  kept_fit (kept.Closed closed) fit = go asked is
    where
      go : (q : Request) → IsFitRequest q → IsTag (closed_after closed q).greatest
      go request.Next is = fit
      go (request.Spread said) is = fit
      go request.Query is = fit
      go (request.PreWrite tag piece) is = fit
      go (request.Finalize tag) is = later_fit closed.greatest tag fit is.0
      go (request.Fetch tag) is = fit

  abbrev opened : Bank
  opened = opened_bank member delta 0

  bank_fit : (old : Option KeptBank) → IfSome old IsFitKept → IfSome (kept_bank old member delta asked) IsFitKept
  bank_fit None fit = go (changes_bank opened asked)
    where
      go : (b : Bool) → IfSome (cond b (Some (kept.Open (bank_after opened asked))) None) IsFitKept
      go true = after_fit opened asked (opened_fit member delta small) is
      go false = tt
  bank_fit (Some bank) fit = kept_fit bank fit

  new_says : (old : Option KeptBank) → says_next (kept_bank old member delta asked) ≡ true →
      (says_next old ≡ true) ⊎ (request_names_next asked ≡ true)
  new_says None e = go (changes_bank opened asked) e
    where
      go : (b : Bool) → says_next (cond b (Some (kept.Open (bank_after opened asked))) None) ≡ true →
          (false ≡ true) ⊎ (request_names_next asked ≡ true)
      go true e = bank_says opened asked e
      go false e = absurd (cc)
  new_says (Some (kept.Open bank)) e = bank_says bank asked e
  new_says (Some (kept.Closed closed)) e = inl refl

  -- the bank that answers
  here_fit : (old : Option KeptBank) → IfSome old IsFitKept → IsFitKept (bank_or_opened old member delta)
  here_fit None fit = opened_fit member delta small
  here_fit (Some bank) fit = fit

  here_says : (old : Option KeptBank) → status_names_next (kept_status (bank_or_opened old member delta)) ≡ true → says_next old ≡ true
  here_says None e = absurd (cc)
  here_says (Some bank) e = e

module _ (local : LocalObject) (letter : Letter) (asked : Request) (here : letter.message.body ≡ body.Request asked)
    (room : suc letter.message.position < 2 ^ 32) (is : IsFitLetter letter) (fit : IsFitObject local) where
  abbrev heard : LocalObject
  heard = learnt_from local letter

  abbrev q : ℕ
  q = letter.message.position

  abbrev member : ℕ
  member = letter.message.member

  abbrev old : Option KeptBank
  old = bank_in (heard_place heard.places q)

  heard_is : IsFitObject heard
  heard_is = learnt_fit local letter is room fit

  asked_is : IsRequest asked
  asked_is = subst IsBody here is.body

  asked_fit : IsFitRequest asked
  asked_fit = (asked_is, subst (λ b. body_bytes b ≤ LONGEST_STRING) here is.short)

  member_small : member < 2 ^ 8
  member_small =
      let most : MOST_MEMBERS ≡ 255 = refl in
      let few = is.layout.lawful.few in
      let within = is.member in
      omega (arith, most, few, within)

  told_next : request_names_next asked ≡ true → IsSome (layout_here heard (suc q))
  told_next names = learnt_next local letter (is.named ∙ ap names_next here ∙ names)

  known_next : (says_next old ≡ true) ⊎ (request_names_next asked ≡ true) → IsSome (layout_here heard (suc q))
  known_next (inl says) = says_known heard heard_is q says
  known_next (inr names) = told_next names

  letter_fit : (told : Option Telling) → IfSome told IsFitTelling → (made : Reply) →
      IsFitReply asked (status_names_next (kept_status (bank_or_opened old member heard.delta))) made →
      IsFitLetter (record (letter_of heard false letter.layout (answered letter.message made)) { told = told })
  letter_fit told telling made fits = record {
    layout = is.layout;
    call = is.call;
    phase = is.phase;
    position = is.position;
    member = is.member;
    body = (
      subst (λ b. IsKind (body_kind b)) (sym here) (kind_fit asked asked_is),
      fits.step,
      fits.fit.numbers,
      ap (λ b. is_answer_to (body_kind b) made.answer) here ∙ fits.fit.answers,
    );
    named = answer_next made.answer (layout_here heard (suc q))
        (λ names. says_known heard heard_is q (here_says member heard.delta member_small asked asked_fit old (fits.next names)));
    next = answer_lawful made.answer (layout_here heard (suc q)) (known_fit heard heard_is (suc q));
    start = starts_fit heard (knows_fit heard heard_is);
    short = fits.fit.short;
    role = refl;
    told = telling;
  }

  replies_fit : (told : Option Telling) → IfSome told IsFitTelling → (o : Option Reply) →
      IfSome o (IsFitReply asked (status_names_next (kept_status (bank_or_opened old member heard.delta)))) →
      AllByRecursion IsFitLetter (reply_letters heard letter told o)
  replies_fit told telling None fits = tt
  replies_fit told telling (Some made) fits = (letter_fit told telling made fits, tt)

  -- what the node keeps after it served the request
  abbrev after : LocalObject
  after = record heard { places = with_bank_here heard.places q (kept_bank old member heard.delta asked) }

  after_is : IsFitObject after
  after_is =
      put_fit heard q (kept_bank old member heard.delta asked)
      (bank_fit member heard.delta member_small asked asked_fit old (place_bank heard heard_is q))
      (λ says. known_next (new_says member heard.delta member_small asked asked_fit old says)) heard_is

  -- what the reply tells is what the bank is then
  telling_fit : IfSome (told_by (bank_here after q member) letter.asks_piece) IsFitTelling
  telling_fit =
      told_fit (bank_here after q member) letter.asks_piece
      (here_fit member heard.delta member_small asked asked_fit (bank_in (heard_place after.places q)) (place_bank after after_is q))

  handled_fit : IsFitOutcome (handled_here heard letter asked)
  handled_fit =
      let kept_is = place_bank heard heard_is q in record {
        local = after_is;
        sent = replies_fit (told_by (bank_here after q member) letter.asks_piece) telling_fit
            (kept_reply (bank_here heard q member) asked)
            (reply_fit (bank_or_opened old member heard.delta) asked
            (here_fit member heard.delta member_small asked asked_fit old kept_is));
      }

pub served_fit : (local : LocalObject) (letter : Letter) → suc letter.message.position < 2 ^ 32 → IsFitLetter letter → IsFitObject local →
    (b : Body) → letter.message.body ≡ b → IsFitOutcome (served_here (learnt_from local letter) letter b)
served_fit local letter room is fit (body.Request asked) here = handled_fit local letter asked here room is fit
served_fit local letter room is fit (body.Reply k made) here = record { local = learnt_fit local letter is room fit; sent = tt }
