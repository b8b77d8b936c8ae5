-- A phase that lacks replies gathers those of a quorum, whose members all answer the same.
use Rattle.std.proofs.Common.{◌≡◌, ◌⊎◌, inl, inr, ℕ, ◌+◌, ◌*◌, ◌-◌, ◌<◌, ◌≤◌, ◌||◌, Bool, true, false, cond, List, [], ◌∷◌, ◌++◌, length}
use Rattle.std.proofs.Common.{Option, Some, None, nat_eq, nat_lt, not, refl, sym, ap, ◌∙◌, subst, eqb-true, arith}
use Rattle.std.specs.Cmp.{nat_eq_equiv}
use Rattle.std.specs.List.{AllByRecursion, IsDistinct, list_any}
use Rattle.std.proofs.lemmas.Bool.Decides.{nat_tests}
use Rattle.std.proofs.lemmas.List.{length-append, length-map, map-append}
use Rattle.std.proofs.lemmas.List.Folds.{list_any-append}
use Rattle.std.proofs.lemmas.Map.Made.{length-le_from_is_member}
use Rattle.piece.specs.declared.piece.Piece.{Piece}
use Rattle.bank.specs.Serve.{answer_to, served_bank}
use Rattle.bank.specs.declared.reply.Answer.{Answer}
use Rattle.bank.specs.declared.request.Request.{Request}
use Rattle.bank.specs.declared.status.Status.{Status}
use Rattle.bank.specs.declared.status.Status.TheVariants as status
use Rattle.mail.specs.Phase.{has_taken, makes_quorum, members_of}
use Rattle.mail.specs.declared.message.Message.{Message}
use Rattle.mail.specs.declared.phase.Taken.{Taken}
use Rattle.record.specs.Fragments.{Code}
use Rattle.record.specs.PhaseOrder.{greatest_status, later_status, shown_status}
use Rattle.record.specs.Sending.{request_to}
use Rattle.open_calls.specs.OpenCalls.{NodeCall, open_call}
use Rattle.network.specs.Worlds.{World, known_layout, member_bank}
use Rattle.starts.specs.Reading.{HasSent, LeadsTo, world_with}
use Rattle.starts.proofs.LeadingLemmas.{found_changed, leads_within, sent_there, then_leads}
use Rattle.starts.proofs.ServedReplyLemmas.{request_sent, serve_and_take}

-- What replies show

later_final : (s : Status) → later_status s status.Final ≡ status.Final
later_final status.Unset = refl
later_final status.Pending = refl
later_final status.Final = refl

shown_last : (replies : List Taken) (taken : Taken) → shown_status taken.reply.answer ≡ status.Final →
    greatest_status (replies ++ taken ∷ []) ≡ status.Final
shown_last [] taken shows = ap (λ s. later_status s status.Unset) shows
shown_last (first ∷ replies) taken shows =
    ap (later_status (shown_status first.reply.answer)) (shown_last replies taken shows)
    ∙ later_final (shown_status first.reply.answer)

-- Which members still have to reply

-- each of all members is still to be asked, or its reply was taken
abbrev Covers : (all todo : List ℕ) → List Taken → Type 0
Covers all todo replies = (m : ℕ) → list_any (nat_eq m) all ≡ true →
    (list_any (nat_eq m) todo ≡ true) ⊎ (list_any (nat_eq m) (members_of replies) ≡ true)

taken_is : (replies : List Taken) (m : ℕ) → has_taken replies m ≡ true → list_any (nat_eq m) (members_of replies) ≡ true
taken_is [] m has = absurd (cc)
taken_is (taken ∷ replies) m has = grind (arith, nat_tests, taken_is replies m)

-- if nobody is still to be asked, there are as many replies as members
enough : (all : List ℕ) (replies : List Taken) → IsDistinct nat_eq all → Covers all [] replies → length all ≤ length replies
enough all replies distinct covers =
    let within = length-le_from_is_member nat_eq_equiv all (members_of replies) distinct (λ q there. taken q (covers q there)) in
    let same : length (members_of replies) ≡ length replies = length-map replies (λ (t : Taken). t.member) in omega arith
  where
    taken : (q : ℕ) → (list_any (nat_eq q) [] ≡ true) ⊎ (list_any (nat_eq q) (members_of replies) ≡ true) →
        list_any (nat_eq q) (members_of replies) ≡ true
    taken q (inl none) = absurd (cc)
    taken q (inr there) = there

-- one that has replied need not be asked
covers_rest : (all ms : List ℕ) (m : ℕ) (replies : List Taken) → list_any (nat_eq m) (members_of replies) ≡ true →
    Covers all (m ∷ ms) replies → Covers all ms replies
covers_rest all ms m replies taken covers q there = pick (nat_eq q m) refl (covers q there)
  where
    pick : (b : Bool) → nat_eq q m ≡ b →
        ((b || list_any (nat_eq q) ms) ≡ true) ⊎ (list_any (nat_eq q) (members_of replies) ≡ true) →
        (list_any (nat_eq q) ms ≡ true) ⊎ (list_any (nat_eq q) (members_of replies) ≡ true)
    pick true same it = inr (ap (λ k. list_any (nat_eq k) (members_of replies)) (eqb-true q m same) ∙ taken)
    pick false other it = it

covers_more : (all ms : List ℕ) (replies : List Taken) (taken : Taken) → Covers all (taken.member ∷ ms) replies →
    Covers all ms (replies ++ taken ∷ [])
covers_more all ms replies taken covers =
    covers_rest all ms taken.member (replies ++ taken ∷ []) (members taken.member ∙ last) (λ q there. pick q (covers q there))
  where
    members : (q : ℕ) → list_any (nat_eq q) (members_of (replies ++ taken ∷ []))
        ≡ (list_any (nat_eq q) (members_of replies) || (nat_eq q taken.member || false))
    members q = ap (list_any (nat_eq q)) (map-append (λ (t : Taken). t.member) replies (taken ∷ []))
        ∙ list_any-append (nat_eq q) (members_of replies) (taken.member ∷ [])

    last : (list_any (nat_eq taken.member) (members_of replies) || (nat_eq taken.member taken.member || false)) ≡ true
    last = grind (arith, nat_tests)

    pick : (q : ℕ) → (list_any (nat_eq q) (taken.member ∷ ms) ≡ true) ⊎ (list_any (nat_eq q) (members_of replies) ≡ true) →
        (list_any (nat_eq q) (taken.member ∷ ms) ≡ true) ⊎ (list_any (nat_eq q) (members_of (replies ++ taken ∷ [])) ≡ true)
    pick q (inl todo) = inl todo
    pick q (inr there) = inr (members q ∙ ap (λ b. b || (nat_eq q taken.member || false)) there)

-- The events

-- the call asks this, and lacks a quorum of replies
pub record IsAsking (asked : Request) (world : World) (call : NodeCall) : Type 0 where
  pub found : open_call world.calls call.id ≡ Some call
  pub own : call.phase.call ≡ call.id
  pub unended : call.phase.end ≡ None
  pub few : length call.phase.replies < call.phase.quorum
  pub request : (piece : Piece) → request_to call.phase.kind piece ≡ asked
  pub sent : HasSent world call

-- the member of a position answers so when this is asked, and its bank does not change by that
pub record Tells (asked : Request) (told : Answer) (world : World) (node position member : ℕ) : Type 0 where
  pub within : member < length (known_layout world node position).members
  pub same : served_bank (member_bank world position member) asked 0 ≡ member_bank world position member
  pub answers : answer_to (member_bank world position member) asked ≡ told

-- the call with these replies, which are a quorum or not
abbrev pub with_replies : NodeCall → List Taken → Option ℕ → NodeCall
with_replies call replies end = record call { phase = record call.phase { replies = replies; end = end } }

-- the most events by which a call gathers the replies that it lacks
abbrev pub most_to_gather : NodeCall → ℕ
most_to_gather call = 2 * (call.phase.quorum - length call.phase.replies)

-- events lead to the call with a quorum of replies, of which the last tells this
pub record Gathered (fragment : Code) (told : Answer) (world : World) (call : NodeCall) : Type 0 where
  pub replies : List Taken
  pub leads : LeadsTo fragment world (with_replies call replies (Some 0)) (most_to_gather call)
  pub shows : shown_status told ≡ status.Final → greatest_status replies ≡ status.Final

-- the reply of a member
abbrev told_by : Answer → (member : ℕ) → Taken
told_by told member = record { member = member; reply = record { step = 0; answer = told }; step = 0 }

-- members of a world answer the same where calls and messages alone have changed
pub tells_there : (asked : Request) (told : Answer) (world : World) (call : NodeCall) (sent : List Message) (now node position : ℕ)
    (ms : List ℕ) → AllByRecursion (Tells asked told world node position) ms →
    AllByRecursion (Tells asked told (world_with world call sent now) node position) ms
tells_there asked told world call sent now node position [] each = tt
tells_there asked told world call sent now node position (m ∷ ms) each = (
  record { within = each.0.within; same = each.0.same; answers = each.0.answers },
  tells_there asked told world call sent now node position ms each.1,
)

-- where one more reply is no quorum yet, there is still one to come
still_few : (have quorum : ℕ) → not (nat_lt (have + 1) quorum) ≡ false → have + 1 < quorum
still_few have quorum is = grind (arith, nat_tests)

at_least_two : (have quorum : ℕ) → have < quorum → 2 ≤ 2 * (quorum - have)
at_least_two have quorum few = omega (arith, few)

-- with one more reply, a call lacks one reply less
two_fewer : (replies : List Taken) (taken : Taken) (quorum : ℕ) → length replies < quorum →
    2 + 2 * (quorum - length (replies ++ taken ∷ [])) ≤ 2 * (quorum - length replies)
two_fewer replies taken quorum few = let e = length-append replies (taken ∷ []) in omega (arith, e, few)

module _ (fragment : Code) (asked : Request) (told : Answer) (all : List ℕ) (m : ℕ) (ms : List ℕ) where
  -- a call that asks gathers the replies of those of these members that are still to be asked
  abbrev Gathers : List ℕ → Type 0
  Gathers todo = (world : World) (call : NodeCall) → IsAsking asked world call →
      AllByRecursion (Tells asked told world call.node call.phase.position) todo → call.phase.quorum ≤ length all →
      Covers all todo call.phase.replies → Gathered fragment told world call

  -- the call with one more reply
  abbrev one_more : NodeCall → NodeCall
  one_more call = with_replies call (call.phase.replies ++ told_by told m ∷ []) None

  -- one member is asked first
  gather_first : Gathers ms → Gathers (m ∷ ms)
  gather_first others world call asks tells quorum covers =
      pick (has_taken call.phase.replies m) refl (makes_quorum call.phase) refl
    where
      first : has_taken call.phase.replies m ≡ false → (b : Bool) → makes_quorum call.phase ≡ b →
          LeadsTo fragment world (with_replies call (call.phase.replies ++ told_by told m ∷ []) (cond b (Some 0) None)) 2
      first apart b is =
          subst (λ c. LeadsTo fragment world (with_replies call (call.phase.replies ++ told_by told m ∷ []) (cond c (Some 0) None)) 2) is
          (serve_and_take fragment world call asked told m asks.found asks.own asks.unended apart asks.sent
          (request_sent world call asked m asks.sent tells.0.within asks.request) tells.0.same tells.0.answers)

      still_asks : makes_quorum call.phase ≡ false → (one : LeadsTo fragment world (one_more call) 2) →
          IsAsking asked (world_with world (one_more call) one.sent one.now) (one_more call)
      still_asks is one = record {
        found = found_changed world.calls call (one_more call) asks.found;
        own = asks.own;
        unended = refl;
        few = subst (λ n. n < call.phase.quorum) (sym (length-append call.phase.replies (told_by told m ∷ [])))
            (still_few (length call.phase.replies) call.phase.quorum is);
        request = asks.request;
        sent = sent_there fragment world (one_more call) 2 one;
      }

      pick : (taken : Bool) → has_taken call.phase.replies m ≡ taken → (whole : Bool) → makes_quorum call.phase ≡ whole →
          Gathered fragment told world call
      pick true there whole is =
          others world call asks tells.1 quorum (covers_rest all ms m call.phase.replies (taken_is call.phase.replies m there) covers)
      pick false apart true is = record {
        replies = call.phase.replies ++ told_by told m ∷ [];
        leads = leads_within fragment world (with_replies call (call.phase.replies ++ told_by told m ∷ []) (Some 0)) 2
            (most_to_gather call) (at_least_two (length call.phase.replies) call.phase.quorum asks.few) (first apart true is);
        shows = shown_last call.phase.replies (told_by told m);
      }
      pick false apart false is =
          let one = first apart false is in
          let rest = others (world_with world (one_more call) one.sent one.now) (one_more call) (still_asks is one)
          (tells_there asked told world (one_more call) one.sent one.now call.node call.phase.position ms tells.1) quorum
          (covers_more all ms call.phase.replies (told_by told m) covers) in record {
            replies = rest.replies;
            leads = leads_within fragment world (with_replies call rest.replies (Some 0)) (2 + most_to_gather (one_more call))
                (most_to_gather call) (two_fewer call.phase.replies (told_by told m) call.phase.quorum asks.few)
                (then_leads fragment world (one_more call) (with_replies call rest.replies (Some 0)) 2
                (most_to_gather (one_more call)) refl one rest.leads);
            shows = rest.shows;
          }

pub gather : (fragment : Code) (asked : Request) (told : Answer) (all todo : List ℕ) → IsDistinct nat_eq all →
    (world : World) (call : NodeCall) → IsAsking asked world call →
    AllByRecursion (Tells asked told world call.node call.phase.position) todo → call.phase.quorum ≤ length all →
    Covers all todo call.phase.replies → Gathered fragment told world call
gather fragment asked told all [] distinct world call asks tells quorum covers =
    let many = enough all call.phase.replies distinct covers in
    let few : length call.phase.replies < call.phase.quorum = asks.few in absurd (omega arith)
gather fragment asked told all (m ∷ ms) distinct world call asks tells quorum covers =
    gather_first fragment asked told all m ms (gather fragment asked told all ms distinct) world call asks tells quorum covers
