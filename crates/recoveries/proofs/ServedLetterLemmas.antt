-- A node serves a letter: its copy serves it too, or need not.
use Rattle.std.proofs.Common.{◌≡◌, ℕ, suc, ◌+◌, ◌^◌, Bool, true, false, ◌&&◌, cond, eqb-true, nat_lt, [], ◌∷◌, ◌++◌, Option, Some, None}
use Rattle.std.proofs.Common.{is_some, slice_get, refl, sym, subst, ap, ◌∙◌, arith}
use Rattle.std.proofs.lemmas.Option.{same_Some}
use Rattle.std.specs.List.{filter, list_any}
use Rattle.bank.specs.declared.request.Request.{Request}
use Rattle.mail.specs.declared.message.Body.{Body}
use Rattle.mail.specs.declared.message.Body.TheVariants as body
use Rattle.encoder.specs.Fragment.{fragment}
use Rattle.layout.specs.Layout.{Layout, IsLawful}
use Rattle.letter.specs.declared.letter.Letter.{Letter}
use Rattle.local_object.specs.Agreement.{agrees, knows_all_of}
use Rattle.local_object.specs.declared.kept_bank.KeptBank.{KeptBank}
use Rattle.local_object.specs.ChangedBanks.{kept_after, kept_bank}
use Rattle.local_object.specs.Changing.{IsUnchangedBy, after_serving}
use Rattle.local_object.specs.Doing.{is_askable, is_member, is_sent_back, is_served, names_node, serve_events, stray_events}
use Rattle.mail.specs.Message.{is_request}
use Rattle.local_object.specs.Events.{LocalEvent, all_done, served_here}
use Rattle.local_object.specs.Outcomes.{layouts_learnt, learnt_from}
use Rattle.local_object.specs.Local.{LocalObject, bank_here, bank_in, bank_or_opened, heard_place, layout_here, with_heard}
use Rattle.local_object.specs.Restarts.{IsKeptHere}
use Rattle.open_calls.specs.OpenCalls.{NodeCallsDiffer}
use Rattle.local_object.proofs.OneMemberLemmas.{one_member}
use Rattle.local_object.proofs.UnchangedBankLemmas.{kept_served}
use Rattle.local_object.proofs.HeardLayoutLemmas.{calls_heard, node_heard}
use Rattle.recoveries.proofs.HeardLayoutLemmas.{Fits, both, fits_known, letter_fits, stays_if, stays_started}
use Rattle.recoveries.proofs.HeardLetterLemmas.{letter_alone, letter_fitting}
use Rattle.recoveries.proofs.KeptPlaceLemmas.{bank_kept, both_banks, fits_copy}
use Rattle.recoveries.proofs.KeptCallLemmas.{IsObjectCopy, moves_call}

-- after the node hears of the layouts in a letter, it knows that of the letter's position
from_letter : (local : LocalObject) (letter : Letter) → Fits local letter.message.position letter.layout →
    layout_here (learnt_from local letter) letter.message.position ≡ Some letter.layout
from_letter local letter fits =
    let position = letter.message.position in
    stays_started (layouts_learnt local letter) letter.start position letter.layout
    (stays_if (with_heard local position letter.layout) (suc position) letter.next position letter.layout
    (fits_known local position letter.layout fits))

-- what the node keeps after a request that it does not serve
stray_is : (local : LocalObject) (letter : Letter) →
    (all_done fragment local (stray_events local letter)).local ≡ cond (is_some letter.start) (learnt_from local letter) local
stray_is local letter = go (is_some letter.start) (is_sent_back local letter)
  where
    go : (told back : Bool) → (all_done fragment local
        (cond told (LocalEvent.Hear letter ∷ []) [] ++ cond back (LocalEvent.Redirect letter ∷ []) [])).local
        ≡ cond told (learnt_from local letter) local
    go true true = refl
    go true false = refl
    go false true = refl
    go false false = refl

named_by : (o : Option ℕ) (node : ℕ) → names_node o node ≡ true → o ≡ Some node
named_by None node e = absurd (cc)
named_by (Some server) node e = ap Some (eqb-true server node e)

module _ (moves : Type 0) (local copy : LocalObject) (is : IsObjectCopy moves local copy) (letter : Letter)
    (agreed : agrees local letter ≡ true) (lawful : IsLawful letter.layout) where
  abbrev first : LocalObject
  first = learnt_from local letter

  abbrev second : LocalObject
  second = learnt_from copy letter

  -- the bank that one of them keeps at the letter's position after it served a request
  abbrev kept_by : LocalObject → Request → Option KeptBank
  kept_by it asked = kept_bank (bank_in (heard_place it.places letter.message.position)) letter.message.member it.delta asked

  known_first : layout_here first letter.message.position ≡ Some letter.layout
  known_first = from_letter local letter (letter_fits local letter agreed)

  known_second : layout_here second letter.message.position ≡ Some letter.layout
  known_second =
      from_letter copy letter
      (fits_copy moves local copy is.kept letter.message.position letter.layout (letter_fits local letter agreed))

  same_served : is_served copy letter ≡ is_served local letter
  same_served =
      ap (λ o. is_request letter.message.body && (nat_lt (letter.message.position + 1) (2 ^ 32)
      && is_member o letter.message.member copy.node)) (known_second ∙ sym known_first)
      ∙ ap (λ n. is_request letter.message.body && (nat_lt (letter.message.position + 1) (2 ^ 32)
      && is_member (layout_here first letter.message.position) letter.message.member n)) is.kept.node

  -- a letter that is served names the node
  addressed : is_served local letter ≡ true → slice_get letter.layout.members letter.message.member ≡ Some local.node
  addressed e =
      let asks = is_request letter.message.body in
      let room = nat_lt (letter.message.position + 1) (2 ^ 32) in
      let member = is_member (layout_here first letter.message.position) letter.message.member local.node in
      named_by (slice_get letter.layout.members letter.message.member) local.node
      (ap (λ o. is_member o letter.message.member local.node) (sym known_first)
      ∙ (both room member (both asks (room && member) e).1).1)

  learnt_both : IsObjectCopy moves first second
  learnt_both = record {
    kept = letter_fitting moves local copy is.kept letter agreed;
    distinct = subst NodeCallsDiffer (sym (calls_heard local letter)) is.distinct;
    mover = λ moving. is.mover (ap (list_any moves_call) (sym (calls_heard local letter)) ∙ moving);
  }

  -- the copy's bank is the node's
  one_bank : is_served local letter ≡ true → bank_here second letter.message.position letter.message.member
      ≡ bank_here first letter.message.position letter.message.member
  one_bank e =
      learnt_both.kept.banks letter.message.position letter.message.member letter.layout known_first
      (addressed e ∙ ap Some (sym (node_heard local letter)))

  -- the bank that the copy keeps is the one that the node keeps
  one_kept : is_served local letter ≡ true → (asked : Request) (member : ℕ) (layout : Layout) →
      layout_here first letter.message.position ≡ Some layout → slice_get layout.members member ≡ Some first.node →
      bank_or_opened (kept_by second asked) member second.delta ≡ bank_or_opened (kept_by first asked) member first.delta
  one_kept e asked member layout at holds =
      let position = letter.message.position in
      let same : letter.message.member ≡ member =
      one_member letter.layout letter.message.member member local.node lawful (addressed e)
      (ap (λ (l : Layout). slice_get l.members member) (same_Some letter.layout layout (sym known_first ∙ at)) ∙ holds
      ∙ ap Some (node_heard local letter)) in
      subst (λ m. bank_or_opened (kept_by second asked) m second.delta ≡ bank_or_opened (kept_by first asked) m first.delta) same
      (kept_served (bank_in (heard_place second.places position)) letter.message.member second.delta asked
      ∙ ap (λ b. kept_after b asked) (one_bank e)
      ∙ sym (kept_served (bank_in (heard_place first.places position)) letter.message.member first.delta asked))

  served_both : is_served local letter ≡ true → (b : Body) →
      IsObjectCopy moves (served_here first letter b).local (served_here second letter b).local
  served_both e (body.Reply kind made) = learnt_both
  served_both e (body.Request asked) = record {
    kept = both_banks moves first second learnt_both.kept letter.message.position (kept_by first asked) (kept_by second asked)
        (ap is_some known_second) (one_kept e asked);
    distinct = learnt_both.distinct;
    mover = learnt_both.mover;
  }

  -- both hear of a request that neither serves, or neither does
  stray_both : IsObjectCopy moves
      (all_done fragment local (stray_events local letter)).local (all_done fragment copy (stray_events copy letter)).local
  stray_both =
      subst (λ l. IsObjectCopy moves l (all_done fragment copy (stray_events copy letter)).local) (sym (stray_is local letter))
      (subst (IsObjectCopy moves (cond (is_some letter.start) first local)) (sym (stray_is copy letter)) (go (is_some letter.start)))
    where
      go : (told : Bool) → IsObjectCopy moves (cond told first local) (cond told second copy)
      go true = learnt_both
      go false = is

  -- what one of them does, by whether it serves the letter
  abbrev does : Bool → LocalObject → LocalObject
  does served it =
      (all_done fragment it (cond served (LocalEvent.Serve letter ∷ []) (cond (is_askable letter) (stray_events it letter) []))).local

  -- both serve the letter, or neither does
  pub both_serve : IsObjectCopy moves
      (all_done fragment local (serve_events local letter)).local (all_done fragment copy (serve_events copy letter)).local
  both_serve =
      subst (λ b. IsObjectCopy moves (does (is_served local letter) local) (does b copy)) (sym same_served)
      (go (is_served local letter) refl)
    where
      unserved : (asks : Bool) → IsObjectCopy moves (all_done fragment local (cond asks (stray_events local letter) [])).local
          (all_done fragment copy (cond asks (stray_events copy letter) [])).local
      unserved true = stray_both
      unserved false = is

      go : (b : Bool) → is_served local letter ≡ b → IsObjectCopy moves (does b local) (does b copy)
      go true e = served_both e letter.message.body
      go false e = unserved (is_askable letter)

  -- Nothing but what was heard of

  module _ (knows : moves → knows_all_of local letter ≡ true) (only : IsUnchangedBy local letter) where
    abbrev after : LocalObject
    after = after_serving local letter

    still_kept : IsKeptHere moves after copy
    still_kept = record {
      node = is.kept.node ∙ sym only.node;
      delta = is.kept.delta ∙ sym only.delta;
      start = let order = is.kept.start in let later = only.start in omega (arith, order, later);
      layouts = λ q layout at. only.kept q layout (is.kept.layouts q layout at);
      first = is.kept.first;
      banks = λ q member layout at holds.
          bank_kept moves local copy is.kept q member
          (λ known there. ap (λ (l : Layout). slice_get l.members member)
          (same_Some known layout (sym (only.kept q known there) ∙ at)) ∙ holds ∙ ap Some only.node)
          ∙ sym (only.banks q member);
      reports = is.kept.reports;
      calls = is.kept.calls ∙ ap (filter moves_call) (sym only.calls);
      mover = λ here q layout at.
          (letter_alone moves local copy is.kept letter knows).mover here q layout (only.heard q layout at);
    }

    pub serves_alone : IsObjectCopy moves after copy
    serves_alone = record {
      kept = still_kept;
      distinct = subst NodeCallsDiffer (sym only.calls) is.distinct;
      mover = λ moving. is.mover (ap (list_any moves_call) (sym only.calls) ∙ moving);
    }
