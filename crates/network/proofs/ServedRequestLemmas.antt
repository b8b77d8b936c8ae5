-- A world in which a node serves a request still follows the record, which serves a copy of the request.
use Rattle.std.proofs.Common.{◌≡◌, ℕ, zero, suc, List, [], ◌∷◌, ◌++◌, length, map, set, get_or, None}
use Rattle.std.proofs.Common.{refl, sym, subst, ap, ◌∙◌, slice_get}
use Rattle.std.proofs.lemmas.List.{map-append, map-set, length-map}
use Rattle.std.proofs.Math.ListN.{get_or-map}
use Rattle.std.proofs.Math.Seq.{set-append_seam}
use Rattle.std.specs.FinMap as map
use Rattle.tag.specs.Tag.{tag_cmp}
use Rattle.bank.specs.declared.kind.Kind.{Kind}
use Rattle.bank.specs.declared.reply.Answer.{Answer}
use Rattle.bank.specs.declared.request.Request.{Request}
use Rattle.bank.specs.declared.row.Row.{Row}
use Rattle.bank.specs.declared.status.Pointer.TheVariants as pointer
use Rattle.bank.specs.Bank.{Bank}
use Rattle.bank.specs.Serve.{served_bank, answer_to, reply_to}
use Rattle.mail.specs.declared.message.Body.{Body}
use Rattle.mail.specs.declared.message.Body.TheVariants as body
use Rattle.mail.specs.declared.message.Message.{Message}
use Rattle.mail.specs.Message.{answered, body_kind}
use Rattle.record.specs.Records.{Object, no_bank, bank_at}
use Rattle.record.specs.Steps.{Step, stepped, on_message, served_by, handled_object, repeated_object}
use Rattle.soundness.proofs.ListLemmas.{all_weaker}
use Rattle.soundness.proofs.Sound.ServedBankLemmas.{served-retired}
use Rattle.network.specs.Unstamped.{unstamped_bank, unstamped_body, unstamped_message}
use Rattle.network.specs.Worlds.{World, member_bank}
use Rattle.network.specs.Events.{Event, handled_world, served_world}
use Rattle.network.specs.Following.{Follows, LeadsOn, IsOpenIn, last_step_after}
use Rattle.network.specs.Followed.{IsFollowed}
use Rattle.network.proofs.ChangedCallLemmas.{still_open}
use Rattle.network.proofs.StepLemmas.{copy_and_step, get_end, message_there}
use Rattle.network.proofs.UnstampedBankLemmas.{answer-bare, served-bare}
use Rattle.network.proofs.UnstampedRowLemmas.{bare, entries-bare}
use Rattle.network.proofs.UnstampedPhaseLemmas.{kind-bare}

-- Banks by position and member

pub bare_empty : bare map.empty ≡ map.empty
bare_empty = map.empty_of_len (bare map.empty)
    (map.len-entries (bare map.empty) ∙ ap length (entries-bare map.empty) ∙ length-map (map.entries map.empty) _
    ∙ sym (map.len-entries (map.empty {X = Row} {R = tag_cmp})) ∙ map.len-empty tag_cmp Row)

no_bank-bare : unstamped_bank no_bank ≡ no_bank
no_bank-bare = ap (λ rows. let b : Bank = record { rows = rows; pointer = pointer.Unset; delta = None; retired = None } in b) bare_empty

-- the banks of all positions, without stamps
abbrev pub all_bare : List (List Bank) → List (List Bank)
all_bare banks = map (map unstamped_bank) banks

pub bank-bare : (banks : List (List Bank)) (position member : ℕ) →
    get_or (get_or (all_bare banks) position []) member no_bank ≡ unstamped_bank (get_or (get_or banks position []) member no_bank)
bank-bare banks position member =
    ap (λ l. get_or l member no_bank) (get_or-map (map unstamped_bank) banks position [])
    ∙ ap (get_or (map unstamped_bank (get_or banks position [])) member) (sym no_bank-bare)
    ∙ get_or-map unstamped_bank (get_or banks position []) member no_bank

set-bare : (banks : List (List Bank)) (position member : ℕ) (new : Bank) →
    all_bare (set banks position (set (get_or banks position []) member new))
    ≡ set (all_bare banks) position (set (get_or (all_bare banks) position []) member (unstamped_bank new))
set-bare banks position member new =
    map-set (map unstamped_bank) banks position (set (get_or banks position []) member new)
    ∙ ap (set (all_bare banks) position)
    (map-set unstamped_bank (get_or banks position []) member new
    ∙ ap (λ l. set l member (unstamped_bank new)) (sym (get_or-map (map unstamped_bank) banks position [])))

retired_set : (banks : List (List Bank)) (position member : ℕ) (new : Bank) →
    new.retired ≡ (get_or (get_or banks position []) member no_bank).retired →
    (get_or (get_or (set banks position (set (get_or banks position []) member new)) 0 []) 0 no_bank).retired
    ≡ (get_or (get_or banks 0 []) 0 no_bank).retired
retired_set [] position member new same = refl
retired_set ([] ∷ later) zero member new same = refl
retired_set ((bank ∷ banks) ∷ later) zero zero new same = same
retired_set ((bank ∷ banks) ∷ later) zero (suc member) new same = refl
retired_set (banks ∷ later) (suc position) member new same = refl

-- The event

body_request : (b : Body) (asked : Request) → unstamped_body b ≡ body.Request asked → b ≡ body.Request asked
body_request (body.Request other) asked e = e
body_request (body.Reply kind made) asked e = absurd (cc)

-- a message with this kind and answer as a reply without its stamp
abbrev replied : Message → Kind → Answer → Message
replied message kind answer = record message { body = body.Reply kind (record { step = 0; answer = answer }) }

-- the record after it serves the copy at the end of the mail
abbrev served_copy : Object → Message → Request → ℕ → Object
served_copy object original asked now =
    handled_object (repeated_object object original) (length object.mail) original asked now

served_follow : (world : World) (object : Object) (original : Message) (asked : Request) (now : ℕ) → Follows world object →
    Follows (handled_world (record world { now = suc world.now }) (unstamped_message original) asked)
    (served_copy object original asked now)
served_follow world object original asked now follows =
    let position = original.position in
    let member = original.member in
    let bank = bank_at object position member in
    let new = served_copy object original asked now in
    let bank_same : unstamped_bank bank ≡ member_bank world position member =
    sym (bank-bare object.banks position member)
    ∙ ap (λ banks. get_or (get_or banks position []) member no_bank) follows.banks in
    let served_same : unstamped_bank (served_bank bank asked now) ≡ served_bank (member_bank world position member) asked 0 =
    served-bare bank asked now ∙ ap (λ b. served_bank b asked 0) bank_same in
    let answer_same : answer_to bank asked ≡ answer_to (member_bank world position member) asked =
    sym (answer-bare bank asked) ∙ ap (λ b. answer_to b asked) bank_same in record {
      one = follows.one;
      delta = follows.delta;
      layouts = follows.layouts;
      banks = set-bare object.banks position member (served_bank bank asked now)
          ∙ ap (λ b. set (all_bare object.banks) position (set (get_or (all_bare object.banks) position []) member b)) served_same
          ∙ ap (λ banks.
          set banks position (set (get_or banks position []) member (served_bank (member_bank world position member) asked 0)))
          follows.banks;
      sent = ap (map unstamped_message) (set-append_seam object.mail original [] (answered original (reply_to bank asked now)))
          ∙ map-append unstamped_message object.mail (answered original (reply_to bank asked now) ∷ [])
          ∙ ap (λ sent. sent ++ replied original (body_kind original.body) (answer_to bank asked) ∷ []) follows.sent
          ∙ ap (λ kind. world.sent ++ replied original kind (answer_to bank asked) ∷ []) (sym (kind-bare original.body))
          ∙ ap (λ answer. world.sent ++ replied original (body_kind (unstamped_body original.body)) answer ∷ []) answer_same;
      history = follows.history;
      calls = all_weaker (IsOpenIn object) (IsOpenIn new) (still_open object object.layouts new.banks new.mail) world.calls
          follows.calls;
      moves = λ index call at kind none. let move = follows.moves index call at kind none in
          record { carried = move.carried; found = move.found; kind = move.kind; node = move.node };
      kept = retired_set object.banks position member (served_bank bank asked now) (served-retired bank asked now) ∙ follows.kept;
    }

pub serve_followed : (message : Message) → IsFollowed (Event.Serve message)
serve_followed message fragment world object code sound follows may premised =
    let now = last_step_after (suc world.now) in
    let ticked : World = record world { now = suc world.now } in
    let there = message_there object.mail premised.network.0 message
    (ap (λ sent. slice_get sent premised.network.0) follows.sent ∙ premised.network.1) in
    let original = there.0 in
    let asked = may.0 in
    let request = body_request original.body asked (ap (λ (m : Message). m.body) there.2 ∙ may.1) in
    let copied = repeated_object object original in
    let at_end = get_end object.mail original in
    let is : stepped fragment (Step.Serve (length object.mail)) now copied ≡ served_copy object original asked now =
    ap (λ o. on_message copied o (λ m. served_by copied (length object.mail) m m.body now)) at_end
    ∙ ap (λ b. served_by copied (length object.mail) original b now) request in
    let led : LeadsOn fragment object (last_step_after world.now) (handled_world ticked (unstamped_message original) asked) =
    copy_and_step fragment object world.now premised.network.0 original (Step.Serve (length object.mail))
    (served_copy object original asked now) (handled_world ticked (unstamped_message original) asked) code refl sound there.1
    (original, (at_end, (asked, request))) is (served_follow world object original asked now follows) in
    subst (λ b. LeadsOn fragment object (last_step_after world.now) (served_world ticked message b)) (sym may.1)
    (subst (λ m. LeadsOn fragment object (last_step_after world.now) (handled_world ticked m asked)) there.2 led)
