-- Serving a request keeps a record sound.
use Rattle.std.proofs.Common.{◌≡◌, ℕ, ◌<◌, ◌⊎◌, [], length, set, get_or, slice_set}
use Rattle.std.proofs.Common.{Some, refl, sym, subst, subst₂, ap, ◌∙◌, inl, inr, arith, slice_get}
use Rattle.std.proofs.lemmas.List.{length-set}
use Rattle.bank.specs.Bank.{Bank}
use Rattle.bank.specs.Facts.{IsBefore}
use Rattle.bank.specs.Knowledge.{IsTrueAnswer}
use Rattle.bank.specs.Serve.{kind_of, served_bank, answer_to, reply_to}
use Rattle.bank.specs.declared.reply.Reply.{Reply}
use Rattle.bank.specs.declared.request.Request.{Request}
use Rattle.bank.proofs.MonotoneLemmas.{Grows as BankGrows, served_grows}
use Rattle.bank.proofs.PieceRetentionLemmas.{served_collected}
use Rattle.mail.specs.Message.{body_kind, answered}
use Rattle.mail.specs.declared.message.Message.{Message}
use Rattle.mail.specs.declared.message.Body.TheVariants as body
use Rattle.record.specs.Records.{Object, layout_at, bank_at}
use Rattle.record.specs.Legal.{HasBegun, IsOpenedAt}
use Rattle.record.specs.Fragments.{Code, IfCoded, request_tag, request_piece, answer_tag, answer_piece, body_tag, body_piece}
use Rattle.record.specs.Steps.{with_bank, handled_object}
use Rattle.soundness.specs.Sound.{IsPosted, IsSound}
use Rattle.soundness.proofs.BaseLemmas.{leading_same}
use Rattle.soundness.proofs.ListLemmas.{all_get, all_set}
use Rattle.soundness.proofs.Sound.DuePositionLemmas.{spread_there}
use Rattle.soundness.proofs.Sound.GrowthLemmas.{Grows, bank_stays, opened_stays, banks_grow, begun_grows}
use Rattle.soundness.proofs.Sound.GrownItemLemmas.{before_later}
use Rattle.soundness.proofs.Sound.GrownItemLemmas.{bank_grows, message_grows, mail_grows, grown_sound}
use Rattle.soundness.proofs.Sound.ItemLemmas.{BankSound, MessageSound, Sizes, sizes_of, turns_of, call_of, bank_of, mail_of, posted_placed}
use Rattle.soundness.proofs.Sound.KnownSinceLemmas.{bank_at_set, bank_here, members_kept}
use Rattle.soundness.proofs.Sound.ServedBankLemmas.{served-retired, served_past, served_next, served_true, served_coded, answer_coded}
use Rattle.soundness.proofs.Sound.ServedCauseLemmas.{served_caused}
use Rattle.soundness.proofs.Sound.StagePositionLemmas.{KindPlaced}

-- the bank of the message's member serves what is asked, and its reply stands in the request's place
pub served_sound : {fragment : Code} {object : Object} {step now : ℕ} (place : ℕ) → IsSound fragment object step → step < now →
    (message : Message) (asked : Request) → slice_get object.mail place ≡ Some message → message.body ≡ body.Request asked →
    IsSound fragment (handled_object object place message asked now) now
served_sound {fragment = fragment} {object = object} {step = step} {now = now} place sound less message asked at is =
    grown_sound sound less grows (record {
      lawful = sizes.lawful;
      positions = sizes.positions;
      banks = length-set object.banks position (set (get_or object.banks position []) member served) ∙ sizes.banks;
      members = λ p h. members_kept object position member served p ∙ sizes.members p h;
      opened = λ p i h k. let o = sizes.opened p i h k in (o.0, opened_stays (grew p i) o.0 o.1);
      delta = λ p i h k. (grew p i).delta ∙ sizes.delta p i h k;
      retired = λ p i h k. same_retired p i ∙ sizes.retired p i h k ∙ sym (same_retired p 0);
      leading = leading_same object new (λ p. same_retired p 0) sizes.leading;
    }) (turns_of sound) (λ i c e. inl e) (λ p i. banks p i (cases p i))
    (all_set _ object.mail place (answered message (reply_to old asked now)) (mail_grows sound less grows) reply_sound)
  where
    position : ℕ
    position = message.position

    member : ℕ
    member = message.member

    old : Bank
    old = bank_at object position member

    served : Bank
    served = served_bank old asked now

    new : Object
    new = handled_object object place message asked now

    sizes : Sizes object
    sizes = sizes_of sound

    sent : MessageSound fragment object step message
    sent = all_get _ object.mail place message (mail_of sound) at

    posted : IsPosted object message
    posted = sent.posted

    placed : position < length object.layouts
    placed = posted_placed sound posted

    kind_is : body_kind message.body ≡ kind_of asked
    kind_is = ap body_kind is

    started : posted.phase.start < now
    started =
        let past = ((call_of sound posted.index posted.call posted.at).phases posted.place posted.phase posted.within).past.start in
        omega arith

    begun : HasBegun object (kind_of asked) position now
    begun = record {
      index = posted.index;
      call = posted.call;
      at = posted.at;
      place = posted.place;
      phase = posted.phase;
      within = posted.within;
      same_kind = sym posted.same_kind ∙ kind_is;
      same_position = sym posted.same_position;
      before = started;
    }

    Cases : (p i : ℕ) → Type 0
    Cases p i = (bank_at new p i ≡ bank_at object p i) ⊎ ((p ≡ position) × (i ≡ member) × (bank_at new p i ≡ served))

    cases : (p i : ℕ) → Cases p i
    cases p i = bank_at_set object position member served p i

    grew : (p i : ℕ) → BankGrows now (bank_at object p i) (bank_at new p i)
    grew p i = go (cases p i)
      where
        go : Cases p i → BankGrows now (bank_at object p i) (bank_at new p i)
        go (inl same) = rw same (bank_stays now (bank_at object p i))
        go (inr here) = rw (here.2, here.0, here.1) (served_grows old asked now)

    same_retired : (p i : ℕ) → (bank_at new p i).retired ≡ (bank_at object p i).retired
    same_retired p i = go (cases p i)
      where
        go : Cases p i → (bank_at new p i).retired ≡ (bank_at object p i).retired
        go (inl same) = ap (λ (bank : Bank). bank.retired) same
        go (inr here) = rw (here.2, here.0, here.1) (served-retired old asked now)

    grows : Grows now object new
    grows = banks_grow now object (slice_set object.mail place (answered message (reply_to old asked now)))
        (with_bank object position member served).banks grew

    was : BankSound fragment new now position member old
    was = bank_grows sound less grows position member refl

    asked_coded : IfCoded fragment new position member (request_tag asked) (request_piece asked)
    asked_coded = subst (λ b. IfCoded fragment new position member (body_tag b) (body_piece b)) is
        (message_grows sound less grows message sent).coded

    kind_there : KindPlaced (length object.layouts) (kind_of asked) position
    kind_there = subst₂ (λ k p. KindPlaced (length object.layouts) k p) (sym posted.same_kind ∙ kind_is) (sym posted.same_position)
        (spread_there object sound.legal sound.shape posted.index posted.call posted.at posted.place posted.phase posted.within)

    before : IsBefore old now
    before = before_later less (bank_of sound position member).past

    served_is_sound : BankSound fragment new now position member served
    served_is_sound = record {
      caused = served_caused new position now asked old (begun_grows grows (kind_of asked) position now begun) was.caused;
      past = served_past old asked now before;
      coded = served_coded fragment new position member old asked now asked_coded was.coded;
      next = served_next (length object.layouts) position old asked now kind_there was.next;
      collected = served_collected old asked now was.collected;
    }

    banks : (p i : ℕ) → Cases p i → ((bank_at new p i ≡ bank_at object p i) × (layout_at new p ≡ layout_at object p))
        ⊎ BankSound fragment new now p i (bank_at new p i)
    banks p i (inl same) = inl (same, refl)
    banks p i (inr here) = inr (rw (here.2, here.0, here.1) served_is_sound)

    opened_old : (opened : ℕ) × IsOpenedAt old opened
    opened_old = sizes.opened position member placed posted.member

    true_now : IsTrueAnswer (bank_at new position member) now (body_kind message.body) (answer_to old asked)
    true_now =
        let here : bank_at new position member ≡ served = bank_here object position member served
        (let b = sizes.banks in let p = placed in omega arith)
        (let m = sizes.members position placed in let below = posted.member in omega arith) in
        rw (here, kind_is) (served_true old asked now opened_old.0 before opened_old.1 was.collected)

    reply_sound : MessageSound fragment new now (answered message (reply_to old asked now))
    reply_sound = record {
      posted = record {
        index = posted.index;
        call = posted.call;
        at = posted.at;
        same_call = posted.same_call;
        place = posted.place;
        phase = posted.phase;
        within = posted.within;
        same_phase = posted.same_phase;
        same_kind = posted.same_kind;
        same_position = posted.same_position;
        member = posted.member;
        reply = λ k m e.
            let same_kind : body_kind message.body ≡ k = cc in
            let same_made : reply_to old asked now ≡ m = cc in
            subst₂ (λ k (m : Reply). (posted.phase.start < m.step) × IsTrueAnswer (bank_at new position member) m.step k m.answer)
            same_kind same_made (started, true_now);
      };
      past = λ k m e. let same_made : reply_to old asked now ≡ m = cc in
          let same_step : now ≡ m.step = ap (λ (r : Reply). r.step) same_made in omega arith;
      coded = subst (λ k. IfCoded fragment new position member (answer_tag k (answer_to old asked)) (answer_piece (answer_to old asked)))
          (sym kind_is) (answer_coded fragment new position member old asked opened_old.0 opened_old.1 asked_coded was.coded);
    }
