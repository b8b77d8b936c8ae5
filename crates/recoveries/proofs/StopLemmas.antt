-- A node that stops in the middle of what it does.
use Rattle.std.proofs.Common.{◌≡◌, ◌⊎◌, inl, inr, List, [], ◌∷◌, ◌++◌, map, refl, sym, subst, ap, ◌∙◌}
use Rattle.std.proofs.lemmas.List.{append-nil, append_assoc}
use Rattle.record.specs.Fragments.{Code}
use Rattle.deeds.specs.Deeds.{Notice}
use Rattle.deeds.specs.Handled.{IsHandled}
use Rattle.deeds.specs.Kept.{KeptNode}
use Rattle.deeds.specs.Named.{NamedLetter}
use Rattle.deeds.proofs.HandledLemmas.{both_handled, more_handled, nothing_handled}
use Rattle.recoveries.specs.Copies.{IsLogged}
use Rattle.recoveries.specs.Records.{LogRecord}
use Rattle.recoveries.specs.Stops.{IsOnTheWay, MoreIsSafe, OneRecordIsSafe, Output, StoppedNodesRestart, TwoAreSafe}
use Rattle.recoveries.specs.Stops.{UnloggedIsSafe, logged_first, logged_in, sent_in}
use Rattle.recoveries.proofs.LoggedLemmas.{same_unlogged}
use Rattle.recoveries.proofs.NodeCopyLemmas.{same_self}
use Rattle.recoveries.proofs.RunLemmas.{more_recorded, recovered_restarted, two_logged}

-- Records and letters

pub sent_append : (xs ys : List Output) → sent_in (xs ++ ys) ≡ sent_in xs ++ sent_in ys
sent_append [] ys = refl
sent_append (Output.Logs it ∷ xs) ys = sent_append xs ys
sent_append (Output.Sends letter ∷ xs) ys = ap (λ zs. letter ∷ zs) (sent_append xs ys)

pub logged_append : (xs ys : List Output) → logged_in (xs ++ ys) ≡ logged_in xs ++ logged_in ys
logged_append [] ys = refl
logged_append (Output.Logs it ∷ xs) ys = ap (λ zs. it ∷ zs) (logged_append xs ys)
logged_append (Output.Sends letter ∷ xs) ys = logged_append xs ys

-- letters alone
abbrev letters_alone : List NamedLetter → List Output
letters_alone sent = map (λ letter. Output.Sends letter) sent

sent_alone : (sent : List NamedLetter) → sent_in (letters_alone sent) ≡ sent
sent_alone [] = refl
sent_alone (letter ∷ sent) = ap (λ zs. letter ∷ zs) (sent_alone sent)

logged_alone : (sent : List NamedLetter) → logged_in (letters_alone sent) ≡ []
logged_alone [] = refl
logged_alone (letter ∷ sent) = logged_alone sent

-- First parts

head_same : {A : Type 0} (a b : A) (xs ys : List A) → a ∷ xs ≡ b ∷ ys → (a ≡ b) × (xs ≡ ys)
head_same a b xs ys e = (cc, cc)

-- a first part of letters alone is letters alone
record IsFrontOf (sent : List NamedLetter) (first : List Output) : Type 0 where
  pub part : List NamedLetter
  pub left : List NamedLetter
  pub sent_is : part ++ left ≡ sent
  pub first_is : first ≡ letters_alone part

front_of : (sent : List NamedLetter) (first rest : List Output) → letters_alone sent ≡ first ++ rest → IsFrontOf sent first
front_of sent [] rest e = record { part = []; left = sent; sent_is = refl; first_is = refl }
front_of [] (output ∷ first) rest e = absurd (cc)
front_of (letter ∷ sent) (output ∷ first) rest e =
    let same = head_same (Output.Sends letter) output (letters_alone sent) (first ++ rest) e in
    let front = front_of sent first rest same.1 in record {
      part = letter ∷ front.part;
      left = front.left;
      sent_is = ap (λ xs. letter ∷ xs) front.sent_is;
      first_is = ap (λ x. x ∷ first) (sym same.0) ∙ ap (λ xs. Output.Sends letter ∷ xs) front.first_is;
    }

-- a first part of two lists is one of the first list, or that list and a first part of the second
record IsBeyond {A : Type 0} (outputs more first rest : List A) : Type 0 where
  pub later : List A
  pub first_is : first ≡ outputs ++ later
  pub more_is : more ≡ later ++ rest

record IsWithin {A : Type 0} (outputs first : List A) : Type 0 where
  pub left : List A
  pub outputs_are : outputs ≡ first ++ left

first_of_two : {A : Type 0} (outputs more first rest : List A) → outputs ++ more ≡ first ++ rest →
    IsWithin outputs first ⊎ IsBeyond outputs more first rest
first_of_two [] more first rest e = inr (record { later = first; first_is = refl; more_is = e })
first_of_two (r ∷ outputs) more [] rest e = inl (record { left = r ∷ outputs; outputs_are = refl })
first_of_two {A} (r ∷ outputs) more (s ∷ first) rest e =
    let same = head_same r s (outputs ++ more) (first ++ rest) e in
    go same.0 (first_of_two outputs more first rest same.1)
  where
    go : r ≡ s → IsWithin outputs first ⊎ IsBeyond outputs more first rest →
        IsWithin (r ∷ outputs) (s ∷ first) ⊎ IsBeyond (r ∷ outputs) more (s ∷ first) rest
    go is (inl within) = inl (record {
      left = within.left;
      outputs_are = ap (λ x. x ∷ outputs) is ∙ ap (λ xs. s ∷ xs) within.outputs_are;
    })
    go is (inr beyond) = inr (record {
      later = beyond.later;
      first_is = ap (λ x. x ∷ first) (sym is) ∙ ap (λ xs. r ∷ xs) beyond.first_is;
      more_is = beyond.more_is;
    })

-- The laws

-- the node did all, and these are the records that it needs and some of the letters that it sent
behind_all : (fragment : Code) (old new : KeptNode) (got sent left : List NamedLetter) (notices : List Notice)
    (records : List LogRecord) (first : List Output) → IsHandled fragment old got new sent notices →
    IsLogged old records new → logged_in first ≡ records → sent_in first ++ left ≡ sent →
    IsOnTheWay fragment old got first notices
behind_all fragment old new got sent left notices records first handled logged needs letters = record {
  middle = new;
  more = left;
  notices = notices;
  unseen = [];
  handled = subst (λ xs. IsHandled fragment old got new xs notices) (sym letters) handled;
  logged = subst (λ rs. IsLogged old rs new) (sym needs) logged;
  first_seen = sym (append-nil notices);
}

-- clients may see more later on
seeing_more : (fragment : Code) (old : KeptNode) (got : List NamedLetter) (first : List Output) (seen later : List Notice) →
    IsOnTheWay fragment old got first seen → IsOnTheWay fragment old got first (seen ++ later)
seeing_more fragment old got first seen later way = record {
  middle = way.middle;
  more = way.more;
  notices = way.notices;
  unseen = way.unseen ++ later;
  handled = way.handled;
  logged = way.logged;
  first_seen = ap (λ xs. xs ++ later) way.first_seen ∙ append_assoc way.notices way.unseen later;
}

pub unlogged_safe : UnloggedIsSafe
unlogged_safe fragment old new got sent notices handled logged = record {
  handled = subst (λ xs. IsHandled fragment old got new xs notices) (sym (sent_alone sent)) handled;
  logged = subst (λ rs. IsLogged old rs new) (sym (logged_alone sent)) logged;
  stops = λ first rest e.
      let front = front_of sent first rest e in
      behind_all fragment old new got sent front.left notices [] first handled logged
      (ap logged_in front.first_is ∙ logged_alone front.part)
      (ap (λ xs. xs ++ front.left) (ap sent_in front.first_is ∙ sent_alone front.part) ∙ front.sent_is);
}

pub one_safe : OneRecordIsSafe
one_safe fragment old new got sent notices one later handled logged = record {
  handled = subst (λ xs. IsHandled fragment old got new xs notices) (sym (sent_alone sent)) handled;
  logged = subst (λ rs. IsLogged old (one ∷ rs) new) (sym (logged_alone sent)) logged;
  stops = go;
}
  where
    go : (first rest : List Output) → logged_first (one ∷ []) sent ≡ first ++ rest → IsOnTheWay fragment old got first notices
    go [] rest e = record {
      middle = old;
      more = [];
      notices = [];
      unseen = notices;
      handled = nothing_handled fragment old got old.ids later;
      logged = same_unlogged old old (same_self old);
      first_seen = refl;
    }
    go (output ∷ first) rest e =
        let same = head_same (Output.Logs one) output (letters_alone sent) (first ++ rest) e in
        let front = front_of sent first rest same.1 in
        subst (λ x. IsOnTheWay fragment old got (x ∷ first) notices) same.0
        (behind_all fragment old new got sent front.left notices (one ∷ []) (Output.Logs one ∷ first) handled logged
        (ap (λ rs. one ∷ rs) (ap logged_in front.first_is ∙ logged_alone front.part))
        (ap (λ xs. xs ++ front.left) (ap sent_in front.first_is ∙ sent_alone front.part) ∙ front.sent_is))

pub two_safe : TwoAreSafe
two_safe fragment old middle new got outputs more seen later one other = record {
  handled = subst (λ xs. IsHandled fragment old got new xs (seen ++ later)) (sym (sent_append outputs more))
      (both_handled fragment old got middle (sent_in outputs) seen new (sent_in more) later one.handled other.handled);
  logged = subst (λ rs. IsLogged old rs new) (sym (logged_append outputs more))
      (two_logged old middle new (logged_in outputs) (logged_in more) one.logged other.logged);
  stops = λ part rest e. go part rest (first_of_two outputs more part rest e);
}
  where
    go : (part rest : List Output) → IsWithin outputs part ⊎ IsBeyond outputs more part rest →
        IsOnTheWay fragment old got part (seen ++ later)
    go part rest (inl within) =
        seeing_more fragment old got part seen later (one.stops part within.left within.outputs_are)
    go part rest (inr beyond) =
        let there = other.stops beyond.later rest beyond.more_is in
        let letters : sent_in (outputs ++ beyond.later) ++ there.more ≡ sent_in outputs ++ (sent_in beyond.later ++ there.more) =
        ap (λ xs. xs ++ there.more) (sent_append outputs beyond.later)
        ∙ append_assoc (sent_in outputs) (sent_in beyond.later) there.more in
        subst (λ xs. IsOnTheWay fragment old got xs (seen ++ later)) (sym beyond.first_is) (record {
          middle = there.middle;
          more = there.more;
          notices = seen ++ there.notices;
          unseen = there.unseen;
          handled = subst (λ xs. IsHandled fragment old got there.middle xs (seen ++ there.notices)) (sym letters)
              (both_handled fragment old got middle (sent_in outputs) seen there.middle (sent_in beyond.later ++ there.more)
              there.notices one.handled there.handled);
          logged = subst (λ rs. IsLogged old rs there.middle) (sym (logged_append outputs beyond.later))
              (two_logged old middle there.middle (logged_in outputs) (logged_in beyond.later) one.logged there.logged);
          first_seen = ap (λ xs. seen ++ xs) there.first_seen ∙ sym (append_assoc seen there.notices there.unseen);
        })

pub more_safe : MoreIsSafe
more_safe fragment old new got more outputs notices each safe = record {
  handled = more_handled fragment old got more new (sent_in outputs) notices each safe.handled;
  logged = safe.logged;
  stops = λ first rest e. let there = safe.stops first rest e in record {
    middle = there.middle;
    more = there.more;
    notices = there.notices;
    unseen = there.unseen;
    handled = more_handled fragment old got more there.middle (sent_in first ++ there.more) there.notices each there.handled;
    logged = there.logged;
    first_seen = there.first_seen;
  };
}

pub stopped_restarted : StoppedNodesRestart
stopped_restarted fragment begin old copy after got records first seen recorded way recovers started =
    let then = more_recorded begin old way.middle records (logged_in first) recorded way.logged in
    let again = recovered_restarted begin way.middle copy after (records ++ logged_in first) then recovers started in
    (way.middle, way.more, way.notices, way.unseen, way.first_seen, way.handled, again.0, again.1)
