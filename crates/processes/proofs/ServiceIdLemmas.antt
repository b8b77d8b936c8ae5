-- The calls that services begin have ids that no call had before, and which frames are answers to a client.
use Rattle.std.proofs.Common.{◌≡◌, ◌⊎◌, inl, inr, ◌+◌, ◌^◌, ℕ, zero, suc, Bool, true, false, cond, eqb, ltb-true}
use Rattle.std.proofs.Common.{List, [], ◌∷◌, ◌++◌, length, None, Some, is_some, nat_lt, slice_get, refl, sym, subst, ap, ◌∙◌, arith}
use Rattle.std.specs.List.{filter}
use Rattle.std.proofs.lemmas.List.{length-append}
use Rattle.std.proofs.lemmas.Option.{same_Some}
use Rattle.client_commands.specs.declared.command.Command.{Command}
use Rattle.client_commands.specs.declared.command.Command.TheVariants as ask
use Rattle.deeds.specs.CallId.{CallIds, HasRanges, after_given, with_next_epoch}
use Rattle.deeds.specs.Deeds.{Notice}
use Rattle.deeds.specs.Ids.{IsLater, IsNextId}
use Rattle.deeds.proofs.IdLemmas.{later_same, later_then, next_later}
use Rattle.deeds.proofs.UsedIdLemmas.{IsUsed, next_unused, with_ids}
use Rattle.node.specs.GivenIds.{UsesIdIf, UsesIds, is_refusal}
use Rattle.node_clients.specs.Served.{call_begun}
use Rattle.node_clients.specs.Services.{Service, begun_notices, service_notices}
use Rattle.node_clients.specs.declared.open_call.OpenCall.{OpenCall}
use Rattle.node_effects.specs.Seen.{all_seen}
use Rattle.node_keeper.specs.NextIds.{after_next_id, next_id_of}
use Rattle.node_keeper.proofs.IdLemmas.{begun_later}
use Rattle.recoveries.specs.OwnCalls.{WasGiven}
use Rattle.refinement.proofs.PlaceLemmas.{get_first, get_split}
use Rattle.processes.specs.Events.{call_begun as id_begun, is_begun, is_told}
use Rattle.processes.proofs.CommandViewLemmas.{View, Widens}
use Rattle.processes.proofs.GivenIdLemmas.{BeginsAt}
use Rattle.processes.proofs.StandingLemmas.{among_first}

-- Ids

next_from : (before : CallIds) → HasRanges before →
    IsLater before (cond (nat_lt before.given (2 ^ 32)) before (with_next_epoch before))
next_from before within = go (nat_lt before.given (2 ^ 32))
  where
    epoch : (b : Bool) → nat_lt (suc before.epoch) (2 ^ 24) ≡ b → IsLater before (with_next_epoch before)
    epoch true t = begun_later before (ltb-true (suc before.epoch) (2 ^ 24) t)
    epoch false t =
        subst (λ ids. IsLater before ids)
        (sym (ap (λ b. cond b (record before { epoch = suc before.epoch; given = 0 }) before) t)) (later_same before within)

    go : (b : Bool) → IsLater before (cond b before (with_next_epoch before))
    go true = later_same before within
    go false = epoch (nat_lt (suc before.epoch) (2 ^ 24)) refl

pub next_of : (before after : CallIds) (id : ℕ) → HasRanges before → next_id_of before ≡ Some id → after ≡ after_next_id before →
    IsNextId before id after
next_of before after id within next left = record {
  now = cond (nat_lt before.given (2 ^ 32)) before (with_next_epoch before);
  reached = next_from before within;
  next = next;
  left = sym left;
}

-- an id that is given next was not given before, and was given afterwards
pub was_not : (before after : CallIds) (id : ℕ) → IsNextId before id after → WasGiven before id → ⊥
was_not before after id is given =
    let used : IsUsed (with_ids (λ other. before) before.node before) id =
    record { now = given.now; within = given.within; next = given.next; later = go (eqb given.now.node before.node) } in
    next_unused (λ other. before) before.node before after id id refl is used refl
  where
    go : (b : Bool) → IsLater (after_given given.now) (cond b before before)
    go true = given.later
    go false = given.later

pub is_given : (before after : CallIds) (id : ℕ) → IsNextId before id after → WasGiven after id
is_given before after id is = record {
  now = is.now;
  within = is.reached.within;
  next = is.next;
  later = subst (λ ids. IsLater ids after) (sym is.left) (later_same after (next_later before after id is).within);
}

pub given_then : (before after : CallIds) (id : ℕ) → IsLater before after → WasGiven before id → WasGiven after id
given_then before after id later is = record {
  now = is.now;
  within = is.within;
  next = is.next;
  later = later_then (after_given is.now) before after is.later later;
}

same_later : (before after : CallIds) → HasRanges before → after ≡ before → IsLater before after
same_later before after within same = subst (λ ids. IsLater before ids) (sym same) (later_same before within)

pub uses_later : (before after : CallIds) (service : Service) → HasRanges before → UsesIds before service after → IsLater before after
uses_later before after (Service.Begins client command id) within uses =
    next_later before after id (next_of before after id within uses.0 uses.1)
uses_later before after (Service.Replies client command answer) within uses = go (is_refusal answer) uses
  where
    go : (b : Bool) → UsesIdIf b before after → IsLater before after
    go true uses = next_later before after uses.0 (next_of before after uses.0 within uses.1 uses.2)
    go false same = same_later before after within same
uses_later before after (Service.Arrives client command) within same = same_later before after within same
uses_later before after (Service.Leaves client) within same = same_later before after within same
uses_later before after (Service.Quits client) within same = same_later before after within same
uses_later before after (Service.Ends name ended answer told) within same = same_later before after within same
uses_later before after (Service.Passes name ended client rest) within same = same_later before after within same
uses_later before after (Service.Ages id) within same = same_later before after within same
uses_later before after (Service.GivesUp id told) within same = same_later before after within same
uses_later before after (Service.Releases id told) within same = same_later before after within same

-- The calls that commands begin

-- a command begins this call, as this notice says
pub record IsCalling (client : ℕ) (command : Command) (id : ℕ) : Type 0 where
  pub notice : Notice
  pub begins : all_seen (begun_notices command id) ≡ notice ∷ []
  pub is_id : id_begun notice ≡ Some id
  pub call : OpenCall
  pub call_is : call_begun client command ≡ Some call
  pub young : call.age ≡ 0
  pub mine : call.client ≡ Some client

-- or it begins none
pub record IsNotCalling (client : ℕ) (command : Command) (id : ℕ) : Type 0 where
  pub begins : all_seen (begun_notices command id) ≡ []
  pub call_is : call_begun client command ≡ None

pub calling_or_not : (client : ℕ) (command : Command) (id : ℕ) → IsCalling client command id ⊎ IsNotCalling client command id
calling_or_not client (ask.Read wanted name) id =
    inl (record { notice = Notice.Reads name id; begins = refl; is_id = refl; call = _; call_is = refl; young = refl; mine = refl })
calling_or_not client (ask.Set name value) id =
    inl (record { notice = Notice.Writes name id value; begins = refl; is_id = refl; call = _; call_is = refl; young = refl; mine = refl })
calling_or_not client (ask.Move name layout) id =
    inl (record { notice = Notice.Moves name id layout; begins = refl; is_id = refl; call = _; call_is = refl; young = refl; mine = refl })
calling_or_not client (ask.Delete deletion) id =
    inl (record { notice = Notice.Writes _ id []; begins = refl; is_id = refl; call = _; call_is = refl; young = refl; mine = refl })
calling_or_not client (ask.Info sections) id = inr (record { begins = refl; call_is = refl })
calling_or_not client ask.CountWritten id = inr (record { begins = refl; call_is = refl })
calling_or_not client (ask.ShowLayout name) id = inr (record { begins = refl; call_is = refl })
calling_or_not client (ask.Scan cursor options) id = inr (record { begins = refl; call_is = refl })
calling_or_not client (ask.Ping text) id = inr (record { begins = refl; call_is = refl })
calling_or_not client (ask.Echo text) id = inr (record { begins = refl; call_is = refl })
calling_or_not client ask.ListCommands id = inr (record { begins = refl; call_is = refl })
calling_or_not client ask.CountCommands id = inr (record { begins = refl; call_is = refl })
calling_or_not client ask.ClientId id = inr (record { begins = refl; call_is = refl })
calling_or_not client ask.DescribeClient id = inr (record { begins = refl; call_is = refl })
calling_or_not client ask.ClientName id = inr (record { begins = refl; call_is = refl })
calling_or_not client ask.Hello id = inr (record { begins = refl; call_is = refl })
calling_or_not client ask.Select id = inr (record { begins = refl; call_is = refl })
calling_or_not client ask.Login id = inr (record { begins = refl; call_is = refl })
calling_or_not client ask.Quit id = inr (record { begins = refl; call_is = refl })

-- Views

-- what is known after a service, when the node has given these ids
abbrev pub view_after : View → Service → CallIds → View
view_after view service ids = record {
  seen = view.seen ++ filter is_begun (all_seen (service_notices service));
  told = view.told ++ filter is_told (all_seen (service_notices service));
  ids = ids;
}

-- just this notice says that a call began
pub begun_alone : (client : ℕ) (command : Command) (id : ℕ) → (is : IsCalling client command id) →
    filter is_begun (all_seen (begun_notices command id)) ≡ is.notice ∷ []
begun_alone client command id is =
    ap (filter is_begun) is.begins ∙ ap (λ b. cond b (is.notice ∷ []) []) (ap is_some is.is_id)

begun_id : (client : ℕ) (command : Command) (id place other : ℕ) →
    BeginsAt (filter is_begun (all_seen (begun_notices command id))) place other → other ≡ id
begun_id client command id place other begins = go (calling_or_not client command id)
  where
    go : IsCalling client command id ⊎ IsNotCalling client command id → other ≡ id
    go (inr is) =
        let at : slice_get [] place ≡ Some begins.0 =
        subst (λ ns. slice_get (filter is_begun ns) place ≡ Some begins.0) is.begins begins.1 in absurd (cc)
    go (inl is) =
        one place (subst (λ ns. slice_get ns place ≡ Some begins.0) (begun_alone client command id is) begins.1)
      where
        one : (place : ℕ) → slice_get (is.notice ∷ []) place ≡ Some begins.0 → other ≡ id
        one zero e = same_Some other id (sym begins.2 ∙ ap id_begun (sym (same_Some is.notice begins.0 e)) ∙ is.is_id)
        one (suc place) e = absurd (cc)

-- a call that a service begins has the next id
service_next : (before after : CallIds) (service : Service) (place id : ℕ) → HasRanges before → UsesIds before service after →
    BeginsAt (filter is_begun (all_seen (service_notices service))) place id → IsNextId before id after
service_next before after (Service.Begins client command given) place id within uses begins =
    subst (λ n. IsNextId before n after) (sym (begun_id client command given place id begins))
    (next_of before after given within uses.0 uses.1)
service_next before after (Service.Ends name ended answer told) place id within uses begins = absurd (let at = begins.1 in cc)
service_next before after (Service.Passes name ended client rest) place id within uses begins = absurd (let at = begins.1 in cc)
service_next before after (Service.Replies client command answer) place id within uses begins = absurd (let at = begins.1 in cc)
service_next before after (Service.Arrives client command) place id within uses begins = absurd (let at = begins.1 in cc)
service_next before after (Service.Leaves client) place id within uses begins = absurd (let at = begins.1 in cc)
service_next before after (Service.Quits client) place id within uses begins = absurd (let at = begins.1 in cc)
service_next before after (Service.Ages id) place other within uses begins = absurd (let at = begins.1 in cc)
service_next before after (Service.GivesUp id told) place other within uses begins = absurd (let at = begins.1 in cc)
service_next before after (Service.Releases id told) place other within uses begins = absurd (let at = begins.1 in cc)

pub service_widens : (view : View) (after : CallIds) (service : Service) → HasRanges view.ids → UsesIds view.ids service after →
    Widens view (view_after view service after)
service_widens view after service within uses = record {
  longer = let e = length-append view.seen more in omega arith;
  at = λ place notice e. get_first view.seen more place notice e;
  fresh = λ place id notice e begins given. go place id notice begins given (get_split view.seen more place notice e);
  among = λ notice is. among_first view.told (filter is_told (all_seen (service_notices service))) notice is;
  given = λ id is. given_then view.ids after id (uses_later view.ids after service within uses) is;
}
  where
    more : List Notice
    more = filter is_begun (all_seen (service_notices service))

    go : (place id : ℕ) (notice : Notice) → id_begun notice ≡ Some id → WasGiven view.ids id →
        (slice_get view.seen place ≡ Some notice)
        ⊎ ((k : ℕ) × (place ≡ length view.seen + k) × (slice_get more k ≡ Some notice)) → slice_get view.seen place ≡ Some notice
    go place id notice begins given (inl is) = is
    go place id notice begins given (inr is) =
        absurd (was_not view.ids after id (service_next view.ids after service is.0 id within uses (notice, is.2, begins)) given)
