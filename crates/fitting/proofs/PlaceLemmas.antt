-- What a node keeps for positions stays fit as it hears of positions, and as banks change.
use Rattle.std.proofs.Common.{◌≡◌, ℕ, suc, ◌<◌, ◌^◌, Bool, true, false, cond, eqb, eqb-true, List, [], ◌∷◌, Option, Some, None, IsSome}
use Rattle.std.proofs.Common.{eq-eqb, option_map, refl, sym, subst, arith}
use Rattle.std.specs.List.{AllByRecursion}
use Rattle.std.specs.Prelude.{IfSome}
use Rattle.bank.specs.declared.kind.Kind.{Kind}
use Rattle.bank.specs.declared.kind.Kind.TheVariants as kind
use Rattle.bank.specs.declared.status.Status.TheVariants as status
use Rattle.layout.specs.Layout.{Layout}
use Rattle.letter.specs.declared.letter.Letter.{Letter}
use Rattle.letter.specs.declared.start.Start.{Start}
use Rattle.local_object.specs.Local.{LocalObject, Place, added_place, heard_place, layout_here, layout_in, learnt_if, heard_start}
use Rattle.local_object.specs.Local.{heard_start_if, is_later_start, new_local, with_bank_here, with_heard}
use Rattle.local_object.specs.Outcomes.{layouts_learnt, learnt_from}
use Rattle.local_object.specs.Starting.{first_number}
use Rattle.local_object.specs.Taking.{knows_next}
use Rattle.local_object.specs.declared.kept_bank.KeptBank.{KeptBank}
use Rattle.local_object.proofs.HeardPlaceLemmas.{place_with, with_new}
use Rattle.local_object.proofs.StartLemmas.{later_small}
use Rattle.open_calls.specs.OpenCalls.{NodeCall}
use Rattle.open_calls.proofs.ListLemmas.{all_weaker}
use Rattle.fitting.specs.Calls.{IsFitCall}
use Rattle.fitting.specs.Letters.{IsFitLayout, IsFitLetter, IsFitStart}
use Rattle.fitting.specs.Objects.{IsFitKept, IsFitObject, IsFitPlace, says_next}
use Rattle.fitting.proofs.ListLemmas.{all_push, new_place, or_new, place_heard}

-- What a node knows

-- who knows the layout of a position by the one list knows one by the other
abbrev pub KnowsMore : (old new : List Place) → Type 0
KnowsMore old new = (q : ℕ) → IsSome (layout_in (heard_place old q)) → IsSome (layout_in (heard_place new q))

pub knows_more : (old new : List Place) → KnowsMore old new → (k : Kind) (q : ℕ) → knows_next old k q ≡ true →
    knows_next new k q ≡ true
knows_more old new more kind.Next q e = refl
knows_more old new more (kind.Spread status.Unset) q e = refl
knows_more old new more (kind.Spread status.Pending) q e = more (suc q) e
knows_more old new more (kind.Spread status.Final) q e = more (suc q) e
knows_more old new more kind.Query q e = refl
knows_more old new more (kind.PreWrite tag) q e = refl
knows_more old new more (kind.Finalize tag) q e = refl
knows_more old new more (kind.Fetch tag) q e = refl

call_more : (old new : List Place) → KnowsMore old new → (call : NodeCall) → IsFitCall old call → IsFitCall new call
call_more old new more call fit = record {
  id = fit.id;
  written = fit.written;
  settled = fit.settled;
  stage = fit.stage;
  number = fit.number;
  kind = fit.kind;
  next = knows_more old new more call.phase.kind call.phase.position fit.next;
  replies = fit.replies;
}

pub calls_more : (old new : List Place) → KnowsMore old new → (calls : List NodeCall) →
    AllByRecursion (IsFitCall old) calls → AllByRecursion (IsFitCall new) calls
calls_more old new more calls fit = all_weaker (IsFitCall old) (IsFitCall new) (call_more old new more) calls fit

place_more : (old new : List Place) → KnowsMore old new → (place : Place) → IsFitPlace old place → IsFitPlace new place
place_more old new more place fit = record {
  position = fit.position;
  layout = fit.layout;
  bank = fit.bank;
  next = λ says. more (suc place.position) (fit.next says);
}

places_more : (old new : List Place) → KnowsMore old new → (places : List Place) →
    AllByRecursion (IsFitPlace old) places → AllByRecursion (IsFitPlace new) places
places_more old new more places fit = all_weaker (IsFitPlace old) (IsFitPlace new) (place_more old new more) places fit

-- The node hears of a position

module _ (local : LocalObject) (p : ℕ) (layout : Layout) where
  heard_more : KnowsMore local.places (with_heard local p layout).places
  heard_more q known =
      subst (λ (o : Option Place). IsSome (layout_in o)) (sym (place_heard local p layout q)) (go (heard_place local.places q) known)
    where
      go : (o : Option Place) → IsSome (layout_in o) →
          IsSome (layout_in (or_new o (cond (eqb p q) (Some (new_place p layout)) None)))
      go None known = absurd (cc)
      go (Some place) known = known

  pub heard_known : IsSome (layout_here (with_heard local p layout) p)
  heard_known = subst (λ (o : Option Place). IsSome (layout_in o)) (sym (place_heard local p layout p)) (go (heard_place local.places p))
    where
      go : (o : Option Place) →
          IsSome (layout_in (or_new o (cond (eqb p p) (Some (new_place p layout)) None)))
      go None = subst (λ b. IsSome (layout_in (cond b (Some (new_place p layout)) None)))
          (sym (eq-eqb p p refl)) refl
      go (Some place) = refl

  abbrev more_places : List Place
  more_places = (with_heard local p layout).places

  added_fit : (o : Option Place) → p < 2 ^ 32 → IsFitLayout layout → AllByRecursion (IsFitPlace more_places) local.places →
      AllByRecursion (IsFitPlace more_places) (added_place local.places o p layout)
  added_fit None small lawful places =
      all_push (IsFitPlace more_places) local.places (new_place p layout) places
      (record { position = small; layout = lawful; bank = tt; next = λ says. absurd (cc) })
  added_fit (Some place) small lawful places = places

  pub heard_fit : p < 2 ^ 32 → IsFitLayout layout → IsFitObject local → IsFitObject (with_heard local p layout)
  heard_fit small lawful fit = record {
    start = fit.start;
    places = added_fit (heard_place local.places p) small lawful
        (places_more local.places more_places heard_more local.places fit.places);
    calls = calls_more local.places more_places heard_more local.calls fit.calls;
    reports = fit.reports;
  }

heard_if : (local : LocalObject) (p : ℕ) (o : Option Layout) → p < 2 ^ 32 → IfSome o IsFitLayout → IsFitObject local →
    IsFitObject (learnt_if local p o)
heard_if local p None small lawful fit = fit
heard_if local p (Some layout) small lawful fit = heard_fit local p layout small lawful fit

-- The node hears of a start

pub start_fit : (local : LocalObject) (start : Start) → IsFitStart start → IsFitObject local → IsFitObject (heard_start local start)
start_fit local start is fit = record {
  start = go (is_later_start local start) refl;
  places = heard.places;
  calls = heard.calls;
  reports = heard.reports;
}
  where
    heard : IsFitObject (with_heard local start.position start.layout)
    heard = heard_fit local start.position start.layout is.position is.layout fit

    go : (b : Bool) → is_later_start local start ≡ b → first_number (cond b start.position local.start) < 2 ^ 32
    go true e = let small = later_small local start e in omega (arith, small)
    go false e = fit.start

starts_fit : (local : LocalObject) (o : Option Start) → IfSome o IsFitStart → IsFitObject local → IsFitObject (heard_start_if local o)
starts_fit local None is fit = fit
starts_fit local (Some start) is fit = start_fit local start is fit

start_known : (local : LocalObject) (o : Option Start) (q : ℕ) → IsSome (layout_here local q) →
    IsSome (layout_here (heard_start_if local o) q)
start_known local None q known = known
start_known local (Some start) q known = heard_more local start.position start.layout q known

-- the layouts in a letter, and the start that it tells
pub learnt_fit : (local : LocalObject) (letter : Letter) → IsFitLetter letter → suc letter.message.position < 2 ^ 32 →
    IsFitObject local → IsFitObject (learnt_from local letter)
learnt_fit local letter is room fit =
    starts_fit (layouts_learnt local letter) letter.start is.start
    (heard_if (with_heard local letter.message.position letter.layout) (suc letter.message.position) letter.next room is.next
    (heard_fit local letter.message.position letter.layout is.position is.layout fit))

-- the node then knows the next position, if the letter has its layout
pub learnt_next : (local : LocalObject) (letter : Letter) → IsSome letter.next →
    IsSome (layout_here (learnt_from local letter) (suc letter.message.position))
learnt_next local letter some =
    start_known (layouts_learnt local letter) letter.start (suc letter.message.position) (go letter.next some)
  where
    first : LocalObject
    first = with_heard local letter.message.position letter.layout

    go : (o : Option Layout) → IsSome o →
        IsSome (layout_here (learnt_if first (suc letter.message.position) o) (suc letter.message.position))
    go None some = absurd (cc)
    go (Some layout) some = heard_known first (suc letter.message.position) layout

-- A bank changes

put_places : (new : List Place) (p : ℕ) (bank : Option KeptBank) → IfSome bank IsFitKept →
    (says_next bank ≡ true → IsSome (layout_in (heard_place new (suc p)))) → (places : List Place) →
    AllByRecursion (IsFitPlace new) places → AllByRecursion (IsFitPlace new) (with_bank_here places p bank)
put_places new p bank fit known [] all = tt
put_places new p bank fit known (place ∷ places) all =
    go (eqb place.position p) refl (put_places new p bank fit known places all.1)
  where
    go : (b : Bool) → eqb place.position p ≡ b → AllByRecursion (IsFitPlace new) (with_bank_here places p bank) →
        AllByRecursion (IsFitPlace new) (cond b (record place { bank = bank } ∷ places) (place ∷ with_bank_here places p bank))
    go true e rest = (
      record {
        position = all.0.position;
        layout = all.0.layout;
        bank = fit;
        next = λ says. subst (λ n. IsSome (layout_in (heard_place new (suc n)))) (sym (eqb-true place.position p e)) (known says);
      },
      all.1,
    )
    go false e rest = (all.0, rest)

module _ (local : LocalObject) (p : ℕ) (bank : Option KeptBank) where
  abbrev put : LocalObject
  put = record local { places = with_bank_here local.places p bank }

  put_more : KnowsMore local.places put.places
  put_more q known =
      subst (λ (o : Option Place). IsSome (layout_in o)) (sym (place_with local.places p bank q))
      (go (eqb p q) (heard_place local.places q) known)
    where
      go : (b : Bool) (o : Option Place) → IsSome (layout_in o) → IsSome (layout_in (option_map (with_new bank b) o))
      go b None known = absurd (cc)
      go true (Some place) known = known
      go false (Some place) known = known

  pub put_fit : IfSome bank IsFitKept → (says_next bank ≡ true → IsSome (layout_here local (suc p))) → IsFitObject local →
      IsFitObject (record local { places = with_bank_here local.places p bank })
  put_fit kept here fit = record {
    start = fit.start;
    places = put_places put.places p bank kept (λ says. put_more (suc p) (here says)) local.places
        (places_more local.places put.places put_more local.places fit.places);
    calls = calls_more local.places put.places put_more local.calls fit.calls;
    reports = fit.reports;
  }

-- A new object

pub new_fit : (node : ℕ) (delta : Option ℕ) (first : Layout) → IsFitLayout first → IsFitObject (new_local node delta first)
new_fit node delta first lawful = record {
  start = omega arith;
  places = (record { position = omega arith; layout = lawful; bank = tt; next = λ says. absurd (cc) }, tt);
  calls = tt;
  reports = tt;
}
