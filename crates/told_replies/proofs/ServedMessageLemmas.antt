-- What a member told as it served a request, the last record of the run still says.
use Rattle.std.proofs.Common.{◌≡◌, ℕ, suc, ◌<◌, ◌≤◌, false, [], ◌∷◌, ◌++◌, length, Some, slice_get}
use Rattle.std.proofs.Common.{refl, sym, subst, ap, ◌∙◌, inl, inr, arith}
use Rattle.tag.specs.declared.tag.Tag.{Tag}
use Rattle.tag.specs.Tag.{tag_lt}
use Rattle.layout.specs.Layout.{Layout}
use Rattle.piece.specs.declared.piece.Piece.{Piece}
use Rattle.bank.specs.Bank.{Bank}
use Rattle.bank.specs.Knowledge.{HasFinalized, IsTrueAnswer, finalized_at, pointer_at}
use Rattle.bank.specs.Serve.{reply_to}
use Rattle.bank.specs.declared.kind.Kind.{Kind}
use Rattle.bank.specs.declared.reply.Reply.{Reply}
use Rattle.mail.specs.Message.{answered, body_kind}
use Rattle.mail.specs.Phase.{Phase}
use Rattle.mail.specs.declared.message.Body.{Body}
use Rattle.mail.specs.declared.message.Body.TheVariants as body
use Rattle.mail.specs.declared.message.Message.{Message}
use Rattle.record.specs.Fragments.{Code, IsCoded}
use Rattle.record.specs.Records.{Call, Object, bank_at, layout_at}
use Rattle.soundness.specs.Sound.{IsPosted, IsSound}
use Rattle.soundness.proofs.ListLemmas.{all_get}
use Rattle.soundness.proofs.Quorums.ReplyTruthLemmas.{came_by_later, true_fetch, true_fin}
use Rattle.soundness.proofs.Sound.ItemLemmas.{posted_placed}
use Rattle.network.specs.Events.{Event, MayHappen, happens, served_world}
use Rattle.network.specs.Following.{last_step_after}
use Rattle.network.specs.Unstamped.{unstamped_body, unstamped_message}
use Rattle.network.specs.Worlds.{World, member_bank}
use Rattle.network.proofs.StepLemmas.{get_end, message_there}
use Rattle.letter.specs.Tellings.{telling_of}
use Rattle.letter.specs.declared.telling.Telling.{Telling}
use Rattle.told_replies.specs.EarlyAnswers.{Finalizes}
use Rattle.told_replies.proofs.GrownPhaseLemmas.{IsLaterOf, grown_at}
use Rattle.told_replies.proofs.KeptPastLemmas.{IsStillAt}
use Rattle.told_replies.proofs.PastBankLemmas.{past_finalized, past_greatest, past_none, past_piece, past_status}
use Rattle.told_replies.proofs.TracedRunLemmas.{Remembers}

-- a member served the request with these numbers by this step, for a phase of a call, and told this with its reply
pub record IsServedFor (fragment : Code) (last : Object) (id number position member step : ℕ) (telling : Telling) : Type 0 where
  pub index : ℕ
  pub call : Call
  pub at : slice_get last.calls index ≡ Some call
  pub same_call : id ≡ call.id
  pub place : ℕ
  pub phase : Phase
  pub within : slice_get call.phases place ≡ Some phase
  pub same_phase : number ≡ suc place
  pub same_position : position ≡ phase.position
  pub started : phase.start ≤ step
  pub below : member < length (layout_at last position).members
  pub status : pointer_at (bank_at last position member) step ≡ telling.status
  pub greatest : HasFinalized (bank_at last position member) telling.greatest step
  pub none : (other : Tag) → HasFinalized (bank_at last position member) other step → tag_lt telling.greatest other ≡ false
  pub puts : (tag : Tag) → Finalizes phase.kind tag → HasFinalized (bank_at last position member) tag step
  pub coded : (piece : Piece) → telling.piece ≡ Some piece → IsCoded fragment last position member telling.greatest (Some piece)

-- the reply that is in the mail of the record of that time
replied_for : (fragment : Code) (world : World) (last : Object) (now : ℕ) → IsSound fragment last now →
    (there : Remembers fragment world last) (original : Message) (place : ℕ) → slice_get there.object.mail place ≡ Some original →
    (kind : Kind) (made : Reply) → original.body ≡ body.Reply kind made →
    IsServedFor fragment last original.call original.phase original.position original.member (last_step_after world.now)
    (telling_of (member_bank world original.position original.member))
replied_for fragment world last now sound there original place at kind made is = record {
  index = posted.index;
  call = still.other;
  at = still.at;
  same_call = posted.same_call ∙ sym still.same_id;
  place = posted.place;
  phase = grown.0;
  within = grown.1;
  same_phase = posted.same_phase;
  same_position = posted.same_position ∙ sym grown.2.same_position;
  started = (let a = says.0 in let b = past in let c = grown.2.same_start in omega arith);
  below = subst (λ (layout : Layout). member < length layout.members) (sym (there.kept.layouts position placed)) posted.member;
  status = past_status fragment world last now sound there position member placed posted.member;
  greatest = past_greatest fragment world last now sound there position member placed posted.member;
  none = past_none fragment world last now sound there position member placed posted.member;
  puts = λ tag puts.
      past_finalized fragment world last now sound there position member placed posted.member tag
      (came_by_later (finalized_at bank tag) made.step (last_step_after world.now) past (truly tag puts));
  coded = past_piece fragment world last now sound there position member placed posted.member;
}
  where
    position : ℕ
    position = original.position

    member : ℕ
    member = original.member

    bank : Bank
    bank = bank_at there.object position member

    posted : IsPosted there.object original
    posted = all_get (IsPosted there.object) there.object.mail place original there.sound.mail at

    placed : position < length there.object.layouts
    placed = posted_placed there.sound posted

    still : IsStillAt last.calls posted.index posted.call
    still = there.kept.calls posted.index posted.call posted.at

    grown : (later : Phase) × (slice_get still.other.phases posted.place ≡ Some later) × IsLaterOf posted.phase later
    grown = grown_at posted.call.phases still.other.phases posted.place posted.phase still.grown posted.within

    says : (posted.phase.start < made.step) × IsTrueAnswer bank made.step kind made.answer
    says = posted.reply kind made is

    past : made.step ≤ last_step_after world.now
    past =
        all_get (λ (m : Message). (k : Kind) (r : Reply) → m.body ≡ body.Reply k r → r.step ≤ last_step_after world.now)
        there.object.mail place original there.sound.past.mail at kind made is

    same_kind : kind ≡ grown.0.kind
    same_kind = ap body_kind (sym is) ∙ posted.same_kind ∙ sym grown.2.same_kind

    truly : (tag : Tag) → Finalizes grown.0.kind tag → HasFinalized bank tag made.step
    truly tag (inl e) =
        true_fin tag bank made.step made.answer (subst (λ k. IsTrueAnswer bank made.step k made.answer) (same_kind ∙ e) says.1)
    truly tag (inr e) =
        true_fetch tag bank made.step made.answer (subst (λ k. IsTrueAnswer bank made.step k made.answer) (same_kind ∙ e) says.1)

-- the body of a message that is a reply without its stamp
reply_body : (b : Body) (kind : Kind) (made : Reply) → unstamped_body b ≡ body.Reply kind made →
    (k : Kind) × (r : Reply) × (b ≡ body.Reply k r)
reply_body (body.Request asked) kind made e = absurd (cc)
reply_body (body.Reply k r) kind made e = (k, r, refl)

-- a member that serves a request
pub served_for : (fragment : Code) (world : World) (request : Message) (last : Object) (now : ℕ) → IsSound fragment last now →
    MayHappen fragment world (Event.Serve request) → Remembers fragment (happens fragment world (Event.Serve request)) last →
    IsServedFor fragment last request.call request.phase request.position request.member
    (last_step_after (happens fragment world (Event.Serve request)).now)
    (telling_of (member_bank (happens fragment world (Event.Serve request)) request.position request.member))
served_for fragment world request last now sound may there =
    subst (λ (m : Message). IsServedFor fragment last m.call m.phase m.position m.member (last_step_after new.now)
    (telling_of (member_bank new m.position m.member))) found.2
    (replied_for fragment new last now sound there found.0 (length world.sent) found.1 is.0 is.1 is.2)
  where
    new : World
    new = happens fragment world (Event.Serve request)

    made : Reply
    made = reply_to (member_bank world request.position request.member) may.0 0

    reply : Message
    reply = answered request made

    sent_is : new.sent ≡ world.sent ++ reply ∷ []
    sent_is = ap (λ b. (served_world (record world { now = suc world.now }) request b).sent) may.1

    found : (original : Message) × (slice_get there.object.mail (length world.sent) ≡ Some original) × (unstamped_message original ≡ reply)
    found =
        message_there there.object.mail (length world.sent) reply
        (ap (λ l. slice_get l (length world.sent)) (there.follows.sent ∙ sent_is) ∙ get_end world.sent reply)

    is : (k : Kind) × (r : Reply) × (found.0.body ≡ body.Reply k r)
    is = reply_body found.0.body (body_kind request.body) made (ap (λ (m : Message). m.body) found.2)
