-- What a copy of an object keeps after it serves letters to one place.
use Rattle.std.proofs.Common.{◌≡◌, ℕ, suc, ◌+◌, ◌<◌, ◌≤◌, ◌^◌, ◌⊎◌, inl, inr, true, cond, ◌&&◌, eq-eqb, List, [], ◌∷◌, map}
use Rattle.std.proofs.Common.{Option, Some, None, IsSome, is_some, slice_get, refl, sym, subst, ap, ◌∙◌}
use Rattle.std.specs.List.{filter}
use Rattle.std.proofs.lemmas.Bool.{lt-ltb}
use Rattle.std.proofs.lemmas.Option.{same_Some}
use Rattle.layout.specs.Layout.{Layout}
use Rattle.encoder.specs.Fragment.{fragment}
use Rattle.bank.specs.Bank.{Bank}
use Rattle.bank.specs.declared.request.Request.{Request}
use Rattle.bank.specs.declared.request.Request.TheVariants as request
use Rattle.bank.specs.declared.status.Status.TheVariants.{Unset, Pending, Final}
use Rattle.object_letters.specs.Reached.{after_requests}
use Rattle.record.specs.Legal.{is_move}
use Rattle.letter.specs.declared.letter.Letter.{Letter}
use Rattle.letter.specs.declared.start.Start.{Start}
use Rattle.local_object.specs.declared.kept_bank.KeptBank.{KeptBank}
use Rattle.local_object.specs.declared.kept_bank.KeptBank.TheVariants as kept
use Rattle.local_object.specs.ChangedBanks.{bank_after, kept_after, kept_bank}
use Rattle.local_object.specs.Distinct.{KnowsStart}
use Rattle.local_object.specs.Doing.{is_askable, is_member, is_served, names_node, stray_events}
use Rattle.local_object.specs.Events.{LocalEvent, all_done, served_here}
use Rattle.local_object.specs.Outcomes.{layouts_learnt, learnt_from, next_in_request}
use Rattle.local_object.specs.Local.{LocalObject, Place, bank_here, bank_in, heard_place, heard_start_if, layout_here, with_heard}
use Rattle.local_object.specs.Local.{learnt_if, told_start, with_bank_here}
use Rattle.local_object.proofs.UnchangedBankLemmas.{kept_served}
use Rattle.local_object.proofs.HeardPlaceLemmas.{bank_learnt, bank_with_here, bank_with_there, layout_learnt, layout_new, layout_stays}
use Rattle.local_object.proofs.HeardPlaceLemmas.{layout_with}
use Rattle.object_letters.specs.Letters.{after_letter, after_letters, letter_to, start_after}
use Rattle.object_letters.proofs.ToldStartLemmas.{bank_started, layout_started, same_start, start_told, told_is, told_order}

-- the copy is as a restart has to keep the object, but for its banks
pub record IsTowards (moves : Type 0) (local copy : LocalObject) : Type 0 where
  pub node : copy.node ≡ local.node
  pub delta : copy.delta ≡ local.delta
  pub start : copy.start ≤ local.start
  pub reports : copy.reports ≡ []
  pub layouts : (q : ℕ) (layout : Layout) → layout_here copy q ≡ Some layout → layout_here local q ≡ Some layout
  pub first : IsSome (layout_here copy 0)
  pub calls : copy.calls ≡ filter (λ call. is_move call.kind) local.calls
  pub mover : moves → (q : ℕ) (layout : Layout) → layout_here local q ≡ Some layout → layout_here copy q ≡ Some layout

-- Layouts are heard of

known_still : (copy : LocalObject) (p : ℕ) (layout : Layout) (q : ℕ) → IsSome (layout_here copy q)
    → IsSome (layout_here (with_heard copy p layout) q)
known_still copy p layout q known = go (layout_here copy q) refl known
  where
    go : (o : Option Layout) → layout_here copy q ≡ o → IsSome o → IsSome (layout_here (with_heard copy p layout) q)
    go None e some = absurd (cc)
    go (Some other) e some = ap is_some (layout_stays copy p layout q other e)

now_known : (copy : LocalObject) (p : ℕ) (layout : Layout) → ((other : Layout) → layout_here copy p ≡ Some other → other ≡ layout)
    → layout_here (with_heard copy p layout) p ≡ Some layout
now_known copy p layout fits = go (layout_here copy p) refl
  where
    go : (o : Option Layout) → layout_here copy p ≡ o → layout_here (with_heard copy p layout) p ≡ Some layout
    go None e = layout_new copy p layout e
    go (Some other) e = layout_stays copy p layout p other e ∙ ap (λ (l : Layout). Some l) (fits other e)

stays_if : (copy : LocalObject) (p : ℕ) (o : Option Layout) (q : ℕ) (layout : Layout) → layout_here copy q ≡ Some layout
    → layout_here (learnt_if copy p o) q ≡ Some layout
stays_if copy p None q layout e = e
stays_if copy p (Some other) q layout e = layout_stays copy p other q layout e

bank_if : (copy : LocalObject) (p : ℕ) (o : Option Layout) (q member : ℕ)
    → bank_here (learnt_if copy p o) q member ≡ bank_here copy q member
bank_if copy p None q member = refl
bank_if copy p (Some layout) q member = bank_learnt copy p layout q member

-- the next layout in a request's letter is the one that was given
next_known : (asked : Request) (o : Option Layout) (layout : Layout) → next_in_request asked o ≡ Some layout → o ≡ Some layout
next_known request.Next o layout e = absurd (cc)
next_known (request.Spread Unset) o layout e = absurd (cc)
next_known (request.Spread Pending) o layout e = e
next_known (request.Spread Final) o layout e = e
next_known request.Query o layout e = absurd (cc)
next_known (request.PreWrite tag piece) o layout e = absurd (cc)
next_known (request.Finalize tag) o layout e = absurd (cc)
next_known (request.Fetch tag) o layout e = absurd (cc)

module _ (moves : Type 0) (local : LocalObject) where
  heard : (copy : LocalObject) (p : ℕ) (layout : Layout) → layout_here local p ≡ Some layout → IsTowards moves local copy
      → IsTowards moves local (with_heard copy p layout)
  heard copy p layout known towards = record {
    node = towards.node;
    delta = towards.delta;
    start = towards.start;
    reports = towards.reports;
    layouts = λ q other e. within q other (layout_learnt copy p layout q other e);
    first = known_still copy p layout 0 towards.first;
    calls = towards.calls;
    mover = λ here q other e. layout_stays copy p layout q other (towards.mover here q other e);
  }
    where
      within : (q : ℕ) (other : Layout) → (layout_here copy q ≡ Some other) ⊎ ((p ≡ q) × (layout ≡ other))
          → layout_here local q ≡ Some other
      within q other (inl is) = towards.layouts q other is
      within q other (inr new) = ap (layout_here local) (sym new.0) ∙ known ∙ ap (λ (l : Layout). Some l) new.1

  heard_if : (copy : LocalObject) (p : ℕ) (o : Option Layout) → ((layout : Layout) → o ≡ Some layout → layout_here local p ≡ Some layout)
      → IsTowards moves local copy → IsTowards moves local (learnt_if copy p o)
  heard_if copy p None known towards = towards
  heard_if copy p (Some layout) known towards = heard copy p layout (known layout refl) towards

  heard_start_too : (copy : LocalObject) → IsTowards moves local copy → IsTowards moves local (heard_start_if copy (told_start local))
  heard_start_too copy towards = go (told_start local) refl
    where
      go : (o : Option Start) → told_start local ≡ o → IsTowards moves local (heard_start_if copy o)
      go None e = towards
      go (Some start) e =
          let is = told_is local start e in
          let heard = heard copy start.position start.layout (ap (layout_here local) is.0 ∙ is.1) towards in record {
            node = heard.node;
            delta = heard.delta;
            start = told_order copy start local.start towards.start is.0;
            reports = heard.reports;
            layouts = heard.layouts;
            first = heard.first;
            calls = heard.calls;
            mover = heard.mover;
          }

  pub put : (copy : LocalObject) (p : ℕ) (bank : Option KeptBank) → IsTowards moves local copy
      → IsTowards moves local (record copy { places = with_bank_here copy.places p bank })
  put copy p bank towards = record {
    node = towards.node;
    delta = towards.delta;
    start = towards.start;
    reports = towards.reports;
    layouts = λ q layout e. towards.layouts q layout (sym (layout_with copy p bank q) ∙ e);
    first = subst IsSome (sym (layout_with copy p bank 0)) towards.first;
    calls = towards.calls;
    mover = λ here q layout e. layout_with copy p bank q ∙ towards.mover here q layout e;
  }

-- One letter

module _ (moves : Type 0) (local : LocalObject) (place : Place) (member : ℕ)
    (known : layout_here local place.position ≡ Some place.layout)
    (named : slice_get place.layout.members member ≡ Some local.node) (room : place.position + 1 < 2 ^ 32) where
  module _ (copy : LocalObject) (towards : IsTowards moves local copy) (asked : Request) where
    abbrev p : ℕ
    p = place.position

    abbrev letter : Letter
    letter = letter_to local place member asked

    abbrev learnt : LocalObject
    learnt = layouts_learnt copy letter

    abbrev told : LocalObject
    told = learnt_from copy letter

    told_known : layout_here told p ≡ Some place.layout
    told_known = layout_started learnt (told_start local) p place.layout
        (stays_if (with_heard copy p place.layout) (suc p) letter.next p place.layout
        (now_known copy p place.layout (λ other e. same_Some other place.layout (sym (towards.layouts p other e) ∙ known))))

    learnt_towards : IsTowards moves local learnt
    learnt_towards = heard_if moves local (with_heard copy p place.layout) (suc p) letter.next
        (λ layout e. next_known asked (layout_here local (suc p)) layout e) (heard moves local copy p place.layout known towards)

    told_towards : IsTowards moves local told
    told_towards = heard_start_too moves local learnt learnt_towards

    told_bank : (q other : ℕ) → bank_here told q other ≡ bank_here copy q other
    told_bank q other =
        bank_started learnt (told_start local) q other
        ∙ bank_if (with_heard copy p place.layout) (suc p) letter.next q other ∙ bank_learnt copy p place.layout q other

    is_to_copy : is_served copy letter ≡ true
    is_to_copy =
        ap (λ b. b && is_member (layout_here told p) member copy.node) (lt-ltb (p + 1) (2 ^ 32) room)
        ∙ ap (λ o. is_member o member copy.node) told_known
        ∙ ap (λ o. names_node o copy.node) named
        ∙ eq-eqb local.node copy.node (sym towards.node)

    after_is : after_letter copy letter ≡ (served_here told letter letter.message.body).local
    after_is =
        ap (λ b. (all_done fragment copy (cond b (LocalEvent.Serve letter ∷ [])
        (cond (is_askable letter) (stray_events copy letter) []))).local) is_to_copy

    abbrev served : Option KeptBank
    served = kept_bank (bank_in (heard_place told.places p)) member told.delta asked

    step_towards : IsTowards moves local (after_letter copy letter)
    step_towards = subst (IsTowards moves local) (sym after_is) (put moves local told p served told_towards)

    -- the copy has the start that the letter tells
    step_start : KnowsStart local.places local.start → (after_letter copy letter).start ≡ local.start
    step_start knows = ap (λ (c : LocalObject). c.start) after_is ∙ start_told local knows learnt learnt_towards.start

    step_bank : bank_here (after_letter copy letter) p member ≡ kept_after (bank_here copy p member) asked
    step_bank =
        ap (λ (c : LocalObject). bank_here c p member) after_is
        ∙ bank_with_here told p served member (ap is_some told_known)
        ∙ kept_served (bank_in (heard_place told.places p)) member told.delta asked
        ∙ ap (λ (b : KeptBank). kept_after b asked) (told_bank p member)

    step_others : (q other : ℕ) → (p ≡ q → ⊥) → bank_here (after_letter copy letter) q other ≡ bank_here copy q other
    step_others q other apart =
        ap (λ (c : LocalObject). bank_here c q other) after_is
        ∙ bank_with_there told p served q other apart
        ∙ told_bank q other

  -- All letters to the place

  pub record IsServed (copy : LocalObject) (qs : List Request) : Type 0 where
    pub towards : IsTowards moves local (after_letters copy (map (letter_to local place member) qs))
    pub start : KnowsStart local.places local.start → (after_letters copy (map (letter_to local place member) qs)).start
        ≡ start_after (map (letter_to local place member) qs) copy.start local.start
    pub bank : (b : Bank) → bank_here copy place.position member ≡ kept.Open b
        → bank_here (after_letters copy (map (letter_to local place member) qs)) place.position member
        ≡ kept.Open (after_requests b qs)
    pub others : (q other : ℕ) → (place.position ≡ q → ⊥)
        → bank_here (after_letters copy (map (letter_to local place member) qs)) q other ≡ bank_here copy q other

  pub all_served : (copy : LocalObject) → IsTowards moves local copy → (qs : List Request) → IsServed copy qs
  all_served copy towards [] = record { towards = towards; start = λ knows. refl; bank = λ b e. e; others = λ q other apart. refl }
  all_served copy towards (asked ∷ qs) =
      let middle = after_letter copy (letter_to local place member asked) in
      let rest = all_served middle (step_towards copy towards asked) qs in record {
        towards = rest.towards;
        start = λ knows. rest.start knows ∙ same_start (map (letter_to local place member) qs) middle.start local.start
            (step_start copy towards asked knows);
        bank = λ b e.
            rest.bank (bank_after b asked) (step_bank copy towards asked ∙ ap (λ (k : KeptBank). kept_after k asked) e);
        others = λ q other apart. rest.others q other apart ∙ step_others copy towards asked q other apart;
      }
