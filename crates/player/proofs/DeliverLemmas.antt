-- What is handled leaves the messages before it as they are.
use Rattle.std.proofs.Common.{◌≡◌, ◌⊎◌, ℕ, zero, suc, ◌+◌, ◌<◌, ◌≤◌, false, List, [], ◌∷◌, drop, get_or, length, MatchOption}
use Rattle.std.proofs.Common.{Bool, true, cond, Option, Some, None, refl, sym, ap, ◌∙◌, subst, inl, inr, arith}
use Rattle.std.specs.Prelude.{option_map, slice_get, slice_set}
use Rattle.std.specs.List.{remove}
use Rattle.std.proofs.lemmas.Option.{slice_get_cases}
use Rattle.encoder.specs.Fragment.{fragment}
use Rattle.mail.specs.declared.message.Message.{Message}
use Rattle.mail.specs.declared.message.Body.{Body}
use Rattle.mail.specs.declared.message.Body.TheVariants as body
use Rattle.record.specs.Records.{Object, no_layout}
use Rattle.record.specs.Steps.{on_message, served_by, taken_by}
use Rattle.record.specs.Steps as object
use Rattle.register.specs.State.{State, made}
use Rattle.cluster.specs.Cluster.{Cluster, named, if_named, is_up}
use Rattle.cluster.specs.Steps.{with_step}
use Rattle.cluster.specs.Causes.{can_handle, handled_at}
use Rattle.driver.specs.declared.messages.Handled.{Handled}
use Rattle.driver.specs.declared.messages.Handled.TheVariants as handled
use Rattle.driver.specs.declared.choices.Filter.TheVariants as filter
use Rattle.driver.specs.Choices.{step_of_handled, places_passing, choices_from, handled_result_at as handling_at}
use Rattle.driver.proofs.NamedObjectLemmas.{read_there, is_there, named_changed}
use Rattle.player.specs.Deliver.{can_handle_at, Delivers, IsFirst, NoneBefore, HasNoneToHandle}
use Rattle.player.specs.Deliver.Delivers.{then_handles}

-- a change at a place, and what stands before it
set_before : {A : Type 0} (xs : List A) (i j : ℕ) (x : A) → j < i → slice_get (slice_set xs i x) j ≡ slice_get xs j
set_before [] i j x less = refl
set_before (y ∷ ys) zero j x less = absurd (omega (arith, less))
set_before (y ∷ ys) (suc i) zero x less = refl
set_before (y ∷ ys) (suc i) (suc j) x less = set_before ys i j x (omega (arith, less))

removed_before : {A : Type 0} (xs : List A) (i j : ℕ) → j < i → slice_get (remove xs i) j ≡ slice_get xs j
removed_before [] zero j less = refl
removed_before [] (suc i) j less = refl
removed_before (y ∷ ys) zero j less = absurd (omega (arith, less))
removed_before (y ∷ ys) (suc i) zero less = refl
removed_before (y ∷ ys) (suc i) (suc j) less = removed_before ys i j (omega (arith, less))

module _ (o : Object) (place now : ℕ) where
  served_mail : (message : Message) (b : Body) (j : ℕ) → j < place →
      slice_get (served_by o place message b now).mail j ≡ slice_get o.mail j
  served_mail message (body.Request asked) j less = set_before o.mail place j _ less
  served_mail message (body.Reply kind reply) j less = refl

  taken_mail : (message : Message) (b : Body) (j : ℕ) → j < place →
      slice_get (taken_by o place message b now).mail j ≡ slice_get o.mail j
  taken_mail message (body.Request asked) j less = refl
  taken_mail message (body.Reply kind reply) j less = removed_before o.mail place j less

  served_layouts : (message : Message) (b : Body) → (served_by o place message b now).layouts ≡ o.layouts
  served_layouts message (body.Request asked) = refl
  served_layouts message (body.Reply kind reply) = refl

  taken_layouts : (message : Message) (b : Body) → (taken_by o place message b now).layouts ≡ o.layouts
  taken_layouts message (body.Request asked) = refl
  taken_layouts message (body.Reply kind reply) = refl

  mail_before : (h : Handled) (j : ℕ) → j < place →
      slice_get (object.stepped fragment (step_of_handled place h) now o).mail j ≡ slice_get o.mail j
  mail_before handled.Served j less = go (slice_get o.mail place)
    where
      go : (found : Option Message) →
          slice_get (on_message o found (λ message. served_by o place message message.body now)).mail j ≡ slice_get o.mail j
      go None = refl
      go (Some message) = served_mail message message.body j less
  mail_before (handled.Taken took) j less = go (slice_get o.mail place)
    where
      go : (found : Option Message) →
          slice_get (on_message o found (λ message. taken_by o place message message.body now)).mail j ≡ slice_get o.mail j
      go None = refl
      go (Some message) = taken_mail message message.body j less

  layouts_kept : (h : Handled) → (object.stepped fragment (step_of_handled place h) now o).layouts ≡ o.layouts
  layouts_kept handled.Served = go (slice_get o.mail place)
    where
      go : (found : Option Message) → (on_message o found (λ message. served_by o place message message.body now)).layouts ≡ o.layouts
      go None = refl
      go (Some message) = served_layouts message message.body
  layouts_kept (handled.Taken took) = go (slice_get o.mail place)
    where
      go : (found : Option Message) → (on_message o found (λ message. taken_by o place message message.body now)).layouts ≡ o.layouts
      go None = refl
      go (Some message) = taken_layouts message message.body

-- a server that was up is up
up_kept : (old new : Cluster) → new.servers ≡ old.servers → (server : Option ℕ) → is_up new server ≡ is_up old server
up_kept old new same None = refl
up_kept old new same (Some server) = ap (λ up. get_or up server false) same

-- a message that could be handled can be handled
handled_kept : (old new : Cluster) (before after : Object) → new.servers ≡ old.servers → after.layouts ≡ before.layouts →
    (message : Message) (b : Body) → can_handle new after message b ≡ can_handle old before message b
handled_kept old new before after servers layouts message (body.Request asked) =
    ap (λ ls. is_up new (slice_get (get_or ls message.position no_layout).members message.member)) layouts
    ∙ up_kept old new servers (slice_get (get_or before.layouts message.position no_layout).members message.member)
handled_kept old new before after servers layouts message (body.Reply kind reply) = refl

found_kept : (old new : Cluster) (before after : Object) → new.servers ≡ old.servers → after.layouts ≡ before.layouts →
    (found : Option Message) → option_map (λ (m : Message). can_handle new after m m.body) found
    ≡ option_map (λ (m : Message). can_handle old before m m.body) found
found_kept old new before after servers layouts None = refl
found_kept old new before after servers layouts (Some message) =
    ap Some (handled_kept old new before after servers layouts message message.body)

-- what could not be handled before the handled message still can't
pub still_none : (cluster : Cluster) (name : List ℕ) (place : ℕ) (h : Handled) → NoneBefore cluster name place
    → NoneBefore (with_step cluster name (step_of_handled place h)) name place
still_none cluster name place h none earlier less =
    let new = with_step cluster name (step_of_handled place h) in
    let now = suc cluster.counter in
    let w = is_there cluster name (handled_at cluster earlier) false (none earlier less) in
    let before = w.0.object in
    let after = object.stepped fragment (step_of_handled place h) now before in
    let mails = mail_before before place now h earlier less in
    let layouts = layouts_kept before place now h in
    read_there new name (made (step_of_handled place h) now w.0) (handled_at new earlier)
    (named_changed cluster.objects name (made (step_of_handled place h) now) w.0 w.1)
    ∙ ap (option_map (λ (m : Message). can_handle new after m m.body)) mails
    ∙ found_kept cluster new before after refl layouts (slice_get before.mail earlier)
    ∙ w.2

-- where none of all the messages can be handled, none can
pub idle : (cluster : Cluster) (name : List ℕ) (state : State) (count : ℕ) → named cluster.objects name ≡ Some state →
    length state.object.mail ≤ count → NoneBefore cluster name count → HasNoneToHandle cluster name
idle cluster name state count there few none place able = go (slice_get_cases state.object.mail place).1
  where
    go : ((x : Message) × (place < length state.object.mail)
        × (slice_get state.object.mail place ≡ Some x) × (get_or state.object.mail place x ≡ x))
        ⊎ ((length state.object.mail ≤ place) × (slice_get state.object.mail place ≡ None)) → ⊥
    go (inl w) = let at = none place (omega (arith, few, w.1)) in cc
    go (inr w) =
        let at : can_handle_at cluster name place ≡ None =
        read_there cluster name state (handled_at cluster place) there
        ∙ ap (option_map (λ (m : Message). can_handle cluster state.object m m.body)) w.1 in
        cc

-- one more message is handled
pub handles : (name : List ℕ) (old cluster new : Cluster) (count place : ℕ) (h : Handled) →
    Delivers name old count cluster → IsFirst cluster name place → if_named cluster name (handling_at place) ≡ Some h →
    new ≡ with_step cluster name (step_of_handled place h) → Delivers name old (count + 1) new
handles name old cluster new count place h delivers first is made =
    let more : suc count ≡ count + 1 = omega arith in
    subst (λ x. Delivers name old (count + 1) x) (sym made)
    (subst (λ n. Delivers name old n (with_step cluster name (step_of_handled place h))) more (then_handles place h delivers first is))

pub still_none_in : (cluster new : Cluster) (name : List ℕ) (place : ℕ) (h : Handled) →
    new ≡ with_step cluster name (step_of_handled place h) → NoneBefore cluster name place → NoneBefore new name place
still_none_in cluster new name place h made none = subst (λ x. NoneBefore x name place) (sym made) (still_none cluster name place h none)

-- The first message that can be handled

drop_cons : {A : Type 0} (xs : List A) (i : ℕ) (x : A) (ys : List A) → drop i xs ≡ x ∷ ys
    → (slice_get xs i ≡ Some x) × (drop (suc i) xs ≡ ys)
drop_cons [] zero x ys e = absurd (cc)
drop_cons [] (suc i) x ys e = absurd (cc)
drop_cons (z ∷ zs) zero x ys e = (let same : Some z ≡ Some x = cc in same, let rest : zs ≡ ys = cc in rest)
drop_cons (z ∷ zs) (suc i) x ys e = drop_cons zs i x ys e

drop_none : {A : Type 0} (xs : List A) (i : ℕ) → drop i xs ≡ [] → length xs ≤ i
drop_none [] i e = omega arith
drop_none (x ∷ xs) zero e = absurd (cc)
drop_none (x ∷ xs) (suc i) e = let rest = drop_none xs i e in omega (arith, rest)

module _ (cluster : Cluster) (name : List ℕ) (state : State) (there : named cluster.objects name ≡ Some state) where
  abbrev able : Message → Bool
  able m = can_handle cluster state.object m m.body

  abbrev IsFound : Option ℕ → Type 0
  IsFound answer = MatchOption answer (HasNoneToHandle cluster name) (IsFirst cluster name)

  able_at : (place : ℕ) (m : Message) (b : Bool) → slice_get state.object.mail place ≡ Some m → able m ≡ b
      → can_handle_at cluster name place ≡ Some b
  able_at place m b at is =
      read_there cluster name state (handled_at cluster place) there ∙ ap (option_map able) at ∙ ap Some is

  none_next : (place : ℕ) → can_handle_at cluster name place ≡ Some false → NoneBefore cluster name place
      → NoneBefore cluster name (suc place)
  none_next place here none earlier less = go (nat_lt_or_same earlier place (omega (arith, less)))
    where
      nat_lt_or_same : (a b : ℕ) → a ≤ b → (a < b) ⊎ (b ≡ a)
      nat_lt_or_same zero zero low = inr refl
      nat_lt_or_same zero (suc b) low = inl (omega arith)
      nat_lt_or_same (suc a) zero low = absurd (omega (arith, low))
      nat_lt_or_same (suc a) (suc b) low =
          elim (nat_lt_or_same a b (omega (arith, low))) [
            | inl less ↦ inl (omega (arith, less))
            | inr same ↦ inr (ap suc same)
          ]

      go : (earlier < place) ⊎ (place ≡ earlier) → can_handle_at cluster name earlier ≡ Some false
      go (inl less) = none earlier less
      go (inr same) = subst (λ n. can_handle_at cluster name n ≡ Some false) same here

  found_in : (ms : List Message) (from : ℕ) (answer : Option ℕ) → drop from state.object.mail ≡ ms
      → NoneBefore cluster name from → answer ≡ slice_get (places_passing able from ms) 0 → IsFound answer
  found_in [] from answer rest none is =
      subst IsFound (sym is) (idle cluster name state from there (drop_none state.object.mail from rest) none)
  found_in (m ∷ ms) from answer rest none is =
      let at = drop_cons state.object.mail from m ms rest in
      go at.0 (λ none is. found_in ms (suc from) answer at.1 none is) (able m) refl is
    where
      go : slice_get state.object.mail from ≡ Some m
          → (NoneBefore cluster name (suc from) → answer ≡ slice_get (places_passing able (suc from) ms) 0 → IsFound answer)
          → (b : Bool) → able m ≡ b
          → answer ≡ slice_get (cond b (from ∷ places_passing able (suc from) ms) (places_passing able (suc from) ms)) 0 → IsFound answer
      go at later true passes is =
          subst IsFound (sym is) (record { here = able_at from m true at passes; none_before = none })
      go at later false passes is = later (none_next from (able_at from m false at passes) none) is

  -- the place that is looked for from a place on
  pub found : (from : ℕ) (answer : Option ℕ) → NoneBefore cluster name from
      → answer ≡ slice_get (choices_from cluster state.object filter.All from) 0 → IsFound answer
  found from answer none is = found_in (drop from state.object.mail) from answer refl none is
