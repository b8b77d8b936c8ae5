-- After lawful takes, a phase that ended has replies of a quorum.
use Rattle.std.proofs.Common.{◌≡◌, ℕ, ◌<◌, ◌≤◌, Bool, true, false, List, [], ◌∷◌, ◌++◌, Option, Some, None, is_some, unwrap_or, sym, ap}
use Rattle.std.proofs.Common.{◌∙◌, subst, refl, arith}
use Rattle.std.specs.Prelude.{if◌then◌else◌}
use Rattle.std.specs.List.{All, Contains, IsDistinct}
use Rattle.std.proofs.lemmas.Bool.Decides.{nat_tests}
use Rattle.std.proofs.lemmas.List.{length-map}
use Rattle.std.proofs.lemmas.List.Elements.{All-push, All-nil, All-weaker, All-map, All-head, All-tail, All-contains_itself}
use Rattle.std.proofs.lemmas.List.Elements.{recursion_from_All}
use Rattle.bank.specs.declared.kind.Kind.{Kind}
use Rattle.bank.specs.declared.reply.Reply.{Reply}
use Rattle.mail.specs.declared.message.Message.{Message}
use Rattle.mail.specs.declared.message.Body.{Body}
use Rattle.mail.specs.declared.message.Body.TheVariants as body
use Rattle.mail.specs.declared.phase.Taken.{Taken}
use Rattle.mail.specs.Phase.{Phase, IsRecord, is_current, has_taken, makes_quorum, members_of, with_reply, after_reply, after_body}
use Rattle.mail.specs.Phase.{after_take}
use Rattle.mail.specs.Complete.{Take, Rise, IsNew, IsReply, IsTimelyIfReply, CameBy, IsComplete, after_takes}
use Rattle.mail.proofs.TakenReplyLemmas.{record_more, is_some-if}

-- all replies came by step s
abbrev AllCame : Phase → List Take → ℕ → List Taken → Type 0
AllCame b takes s replies = All (CameBy b takes s) replies

-- what lawful takes keep of the phase p, by step s: it differs from the new phase b in its replies and its end alone
record Holds (b : Phase) (takes : List Take) (s : ℕ) (p : Phase) : Type 0 where
  same : p ≡ record b { replies = p.replies; end = p.end }
  kept : IsRecord p.members p.quorum p.replies p.end
  each : AllCame b takes s p.replies
  by_end : (end : ℕ) → p.end ≡ Some end → AllCame b takes end p.replies

module _ (b : Phase) (takes : List Take) where
  came_later : (s u : ℕ) (replies : List Taken) → s ≤ u → AllCame b takes s replies → AllCame b takes u replies
  came_later s u replies le all =
      All-weaker (CameBy b takes s) (CameBy b takes u) (λ taken came. record {
        message = came.message;
        among = came.among;
        reply = came.reply;
        member = came.member;
        timely = came.timely;
        by_end = let by = came.by_end in omega arith;
      }) replies all

  -- a phase that ends, ends now
  ended_now : (now : ℕ) (replies : List Taken) → AllCame b takes now replies → (c : Bool) (end : ℕ) →
      (if c then Some now else None) ≡ Some end → AllCame b takes end replies
  ended_now now replies all true end e = let same : now ≡ end = ap (λ o. unwrap_or o 0) e in came_later now end replies (omega arith) all
  ended_now now replies all false end e = absurd (cc)

  module _ (s : ℕ) (p : Phase) (holds : Holds b takes s p) (m : Message) (now : ℕ) (rises : s < now)
      (lawful : IsTimelyIfReply b (m, now)) (among : Contains takes (m, now)) where
    later : Holds b takes now p
    later = record {
      same = holds.same;
      kept = holds.kept;
      each = came_later s now p.replies (omega arith) holds.each;
      by_end = holds.by_end;
    }

    recorded : (r : Reply) → IsReply b m r → is_some p.end ≡ false → has_taken p.replies m.member ≡ false →
        Holds b takes now (with_reply p m.member r now)
    recorded r reply unended missing =
        let t : Taken = record { member = m.member; reply = r; step = now } in
        let end : Option ℕ = if makes_quorum p then Some now else None in
        let came : CameBy b takes now t =
        record { message = m; among = among; reply = reply; member = refl; timely = lawful r reply; by_end = omega arith } in
        let all = All-push (CameBy b takes now) p.replies t (came_later s now p.replies (omega arith) holds.each) came in
        record {
          same = ap (λ (q : Phase). record q { replies = p.replies ++ t ∷ []; end = end }) holds.same;
          kept = record_more p.members p.quorum p.replies p.end end t holds.kept unended missing (is_some-if (makes_quorum p) now);
          each = all;
          by_end = ended_now now (p.replies ++ t ∷ []) all (makes_quorum p);
        }

    -- a reply that finds the phase current names its call and number
    reply_of : (k : Kind) (r : Reply) → m.body ≡ body.Reply k r → is_current p m.call m.phase ≡ true → IsReply b m r
    reply_of k r is current = record {
      call = let c : m.call ≡ p.call = grind (arith, nat_tests) in c ∙ ap (λ (q : Phase). q.call) holds.same;
      number = let n : m.phase ≡ p.number = grind (arith, nat_tests) in n ∙ ap (λ (q : Phase). q.number) holds.same;
      kind = k;
      is = is;
    }

    after_one : (k : Kind) (r : Reply) → m.body ≡ body.Reply k r → Holds b takes now (after_reply p m.call m.phase m.member r now)
    after_one k r is =
        elim (is_current p m.call m.phase) as (λ c. is_current p m.call m.phase ≡ c →
        Holds b takes now (if c then (if has_taken p.replies m.member then p else with_reply p m.member r now) else p)) [
          | true ↦ λ current.
              elim (has_taken p.replies m.member) as (λ h. has_taken p.replies m.member ≡ h →
              Holds b takes now (if h then p else with_reply p m.member r now)) [
                | true ↦ λ _. later
                | false ↦ λ missing. recorded r (reply_of k r is current) (grind (arith, nat_tests)) missing
              ] refl
          | false ↦ λ _. later
        ] refl

    after_any : (c : Body) → m.body ≡ c → Holds b takes now (after_body p m.call m.phase m.member c now)
    after_any (body.Request q) is = later
    after_any (body.Reply k r) is = after_one k r is

  after_all : (s : ℕ) (p : Phase) (ts : List Take) → Holds b takes s p → Rise s ts → All (IsTimelyIfReply b) ts → All (Contains takes) ts →
      (last : ℕ) × Holds b takes last (after_takes p ts)
  after_all s p [] holds rise lawful among = (s, holds)
  after_all s p (t ∷ ts) holds rise lawful among =
      after_all t.1 (after_take p t.0 t.1) ts
      (after_any s p holds t.0 t.1 rise.0 (All-head (IsTimelyIfReply b) t ts lawful) (All-head (Contains takes) t ts among) t.0.body refl)
      rise.1 (All-tail (IsTimelyIfReply b) t ts lawful) (All-tail (Contains takes) t ts among)

  complete : (s end : ℕ) (p : Phase) → Holds b takes s p → p.end ≡ Some end → IsComplete b takes end p.replies
  complete s end p holds ended =
      let members_is : p.members ≡ b.members = ap (λ (q : Phase). q.members) holds.same in
      let quorum_is : p.quorum ≡ b.quorum = ap (λ (q : Phase). q.quorum) holds.same in
      let all = holds.by_end end ended in
      let below : All (λ t. t.member < b.members) p.replies = All-weaker (CameBy b takes end) (λ t. t.member < b.members)
      (λ t came. subst (λ i. i < b.members) came.member came.timely.member) p.replies all in
      record {
        quorum = record {
          distinct = holds.kept.distinct;
          within = recursion_from_All (λ i. i < b.members) (members_of p.replies)
              (All-map (λ i. i < b.members) (λ (t : Taken). t.member) p.replies below);
          enough = grind (arith, nat_tests, holds.kept.ended, ap is_some ended, quorum_is, length-map p.replies (λ (t : Taken). t.member));
        };
        each = all;
      }

pub complete_means_quorum : (p : Phase) (takes : List Take) (end : ℕ) → IsNew p → Rise p.start takes → All (IsTimelyIfReply p) takes
    → (after_takes p takes).end ≡ Some end → IsComplete p takes end (after_takes p takes).replies
unfolding IsDistinct
complete_means_quorum p takes end new rise lawful ended =
    let start : Holds p takes p.start p = record {
      same = refl;
      kept = rw (new.untaken, new.unended)
          (record { distinct = tt; room = (new.some, new.within); within = omega arith; ended = grind (arith, nat_tests, new.some) });
      each = subst (λ replies. All (CameBy p takes p.start) replies) (sym new.untaken) (All-nil (CameBy p takes p.start));
      by_end = λ end e. absurd (let never : None ≡ Some end = sym new.unended ∙ e in cc);
    } in
    let all = after_all p takes p.start p takes start rise lawful (All-contains_itself takes) in
    complete p takes all.0 end (after_takes p takes) all.1 ended
