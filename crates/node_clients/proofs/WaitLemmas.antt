-- No command waits that may be carried out, but on connections that are due.
use Rattle.std.proofs.Common.{◌≡◌, ◌≢◌, inl, inr, ℕ, Bool, true, false, cond, nat_eq, eqb, List, [], ◌∷◌, ◌++◌}
use Rattle.std.proofs.Common.{Option, None, Some, is_some, refl, sym, subst, ap, ◌∙◌}
use Rattle.std.proofs.lemmas.Bool.{false≢true}
use Rattle.std.proofs.lemmas.Bool.Decides.{Decides-eqb}
use Rattle.std.proofs.lemmas.List.{append-nil, append_assoc}
use Rattle.std.specs.List.{AllByRecursion}
use Rattle.indexmap.specs.IndexMap.{get}
use Rattle.node_clients.specs.Connections.{doing, gives_next_of, has_next}
use Rattle.node_clients.specs.declared.connection.Connection.{Connection}
use Rattle.node_clients.specs.declared.connection.State.{State}
use Rattle.node_clients.specs.declared.connection.State.TheVariants.{Busy, Idle, Quit}
use Rattle.node_clients.specs.declared.connections.Connections.{Connections}
use Rattle.node_clients.specs.declared.next.Next.{Next}
use Rattle.node_clients.specs.Calls.{waiting_for}
use Rattle.node_clients.specs.Desk.{IsDue, IsIdleFor, NoneWaits, is_connected, listener}
use Rattle.node_clients.specs.Served.{AreServicesDone, IsArrived, IsServiceDone}
use Rattle.node_clients.specs.Services.{Service, all_dues, service_dues, told_clients}
use Rattle.node_clients.specs.declared.desk.Desk.{Desk}

due_before : (xs ys : List ℕ) (client : ℕ) → IsDue xs client → IsDue (xs ++ ys) client
due_before [] ys client is = absurd is
due_before (x ∷ xs) ys client (inl same) = inl same
due_before (x ∷ xs) ys client (inr later) = inr (due_before xs ys client later)

due_after : (xs ys : List ℕ) (client : ℕ) → IsDue ys client → IsDue (xs ++ ys) client
due_after [] ys client is = is
due_after (x ∷ xs) ys client is = inr (due_after xs ys client is)

-- one connection changes, and is due where it gives its next command
one_waits : (a b : Connections) (client : ℕ) (due more : List ℕ) →
    ((other : ℕ) → other ≢ client → get nat_eq b.by_number other ≡ get nat_eq a.by_number other) →
    (has_next (get nat_eq b.by_number client) ≡ true → IsDue (due ++ more) client) →
    ((other : ℕ) → other ≢ client → has_next (get nat_eq a.by_number other) ≡ true → IsDue due other) →
    NoneWaits b (due ++ more)
one_waits a b client due more others itself waits other next = go (eqb other client) refl
  where
    go : (t : Bool) → eqb other client ≡ t → IsDue (due ++ more) other
    go true e =
        let same : other ≡ client = (Decides-eqb other client).0 e in
        subst (λ n. IsDue (due ++ more) n) (sym same)
        (itself (subst (λ n. has_next (get nat_eq b.by_number n) ≡ true) same next))
    go false e =
        let apart : other ≢ client = λ same. false≢true (sym e ∙ (Decides-eqb other client).1 same) in
        due_before due more other
        (waits other apart (subst (λ c. has_next c ≡ true) (others other apart) next))

-- what is done with the next command of this client
abbrev pub IsOfCommand : (client : ℕ) → Service → Type 0
IsOfCommand client (Service.Begins other command id) = other ≡ client
IsOfCommand client (Service.Replies other command answer) = other ≡ client
IsOfCommand client (Service.Quits other) = other ≡ client
IsOfCommand client service = ⊥

-- anything but that a command comes
abbrev pub IsNoArrival : Service → Type 0
IsNoArrival (Service.Arrives client command) = ⊥
IsNoArrival service = Unit {0}

-- connections that are busy, that have quit, or that are not there give no next command
busy_gives_none : (connection : Option Connection) → doing connection ≡ Busy → has_next connection ≡ true → ⊥
busy_gives_none None state next = absurd (cc)
busy_gives_none (Some connection) state next = go connection.state connection.waiting.items state next
  where
    go : (s : State) (waiting : List Next) → s ≡ Busy → gives_next_of s waiting ≡ true → ⊥
    go Busy waiting e next = absurd (false≢true next)
    go Quit waiting e next = absurd (false≢true next)
    go Idle waiting e next = absurd (cc)

quit_gives_none : (connection : Option Connection) → doing connection ≡ Quit → has_next connection ≡ true → ⊥
quit_gives_none None state next = absurd (cc)
quit_gives_none (Some connection) state next = go connection.state connection.waiting.items state next
  where
    go : (s : State) (waiting : List Next) → s ≡ Quit → gives_next_of s waiting ≡ true → ⊥
    go Busy waiting e next = absurd (false≢true next)
    go Quit waiting e next = absurd (false≢true next)
    go Idle waiting e next = absurd (cc)

gone_gives_none : (connection : Option Connection) → is_some connection ≡ false → has_next connection ≡ true → ⊥
gone_gives_none None gone next = absurd (false≢true next)
gone_gives_none (Some connection) gone next = absurd (cc)

same_waits : (a b : Connections) (due : List ℕ) → b ≡ a → NoneWaits a due → NoneWaits b (due ++ [])
same_waits a b due same waits =
    subst (λ c. NoneWaits c (due ++ [])) (sym same) (λ client next. due_before due [] client (waits client next))

-- the client that waits, if one does and its connection is there, is idle again and due
told_waits : (a : Desk) (b : Connections) (who : Option ℕ) (due : List ℕ) → IsIdleFor a.clients who b →
    NoneWaits a.clients due → NoneWaits b (due ++ told_clients (listener a who))
told_waits a b None due same waits = same_waits a.clients b due same waits
told_waits a b (Some client) due idle waits = go (is_connected a client) refl
  where
    go : (t : Bool) → is_connected a client ≡ t → NoneWaits b (due ++ told_clients (cond t (Some client) None))
    go true e =
        one_waits a.clients b client due (client ∷ []) idle.others (λ next. due_after due (client ∷ []) client (inl refl))
        (λ other apart next. waits other next)
    go false e =
        one_waits a.clients b client due [] idle.others
        (λ next. absurd (gone_gives_none (get nat_eq b.by_number client) (idle.stays ∙ e) next))
        (λ other apart next. waits other next)

-- all others that give their next command are due
abbrev pub OthersWait : Connections → (client : ℕ) → (due : List ℕ) → Type 0
OthersWait clients client due =
    (other : ℕ) → other ≢ client → has_next (get nat_eq clients.by_number other) ≡ true → IsDue due other

-- the next command of a client was carried out: it began a call, was answered, or ended the connection
pub command_waits : (ticks : ℕ) (delta : Option ℕ) (a b : Desk) (client : ℕ) (service : Service) (due : List ℕ) →
    IsOfCommand client service →
    IsServiceDone ticks delta a service b → OthersWait a.clients client due → NoneWaits b.clients (due ++ service_dues service)
command_waits ticks delta a b client (Service.Begins other command id) due of done waits =
    let taken = done.2 in
    subst (λ c. NoneWaits c (due ++ [])) (sym done.4.clients)
    (subst (λ n. OthersWait a.clients n due → NoneWaits taken.clients (due ++ [])) of
    (λ rest. one_waits a.clients taken.clients other due [] done.3.others
    (λ next. absurd (busy_gives_none (get nat_eq taken.clients.by_number other) done.3.taken.2 next)) rest) waits)
command_waits ticks delta a b client (Service.Replies other command answer) due of done waits =
    subst (λ n. OthersWait a.clients n due → NoneWaits b.clients (due ++ (other ∷ []))) of
    (λ rest. one_waits a.clients b.clients other due (other ∷ [])
    (λ n apart. done.2.idle.others n apart ∙ done.1.others n apart)
    (λ next. due_after due (other ∷ []) other (inl refl)) rest) waits
command_waits ticks delta a b client (Service.Quits other) due of done waits =
    subst (λ n. OthersWait a.clients n due → NoneWaits b.clients (due ++ [])) of
    (λ rest. one_waits a.clients b.clients other due []
    (λ n apart. done.4.others n apart ∙ done.3.others n apart)
    (λ next. absurd (quit_gives_none (get nat_eq b.clients.by_number other) done.4.state next)) rest) waits
command_waits ticks delta a b client (Service.Arrives other command) due of done waits = absurd of
command_waits ticks delta a b client (Service.Leaves other) due of done waits = absurd of
command_waits ticks delta a b client (Service.Ends name ended answer told) due of done waits = absurd of
command_waits ticks delta a b client (Service.Passes name ended other rest) due of done waits = absurd of
command_waits ticks delta a b client (Service.Ages id) due of done waits = absurd of
command_waits ticks delta a b client (Service.GivesUp id told) due of done waits = absurd of
command_waits ticks delta a b client (Service.Releases id told) due of done waits = absurd of

-- a command comes: its connection is due
pub arrival_waits : (a b : Desk) (client : ℕ) (command : List (List ℕ)) (due : List ℕ) → IsArrived a client command b →
    NoneWaits a.clients due → NoneWaits b.clients (client ∷ due)
arrival_waits a b client command due arrived waits =
    subst (λ xs. NoneWaits b.clients (client ∷ xs)) (append-nil due)
    (one_waits a.clients b.clients client (client ∷ due) [] arrived.others (λ next. inl refl)
    (λ other apart next. inr (waits other next)))

-- whatever happens but that a command comes: what waited was due, or is due now
pub service_waits : (ticks : ℕ) (delta : Option ℕ) (a b : Desk) (service : Service) (due : List ℕ) → IsNoArrival service →
    IsServiceDone ticks delta a service b → NoneWaits a.clients due → NoneWaits b.clients (due ++ service_dues service)
service_waits ticks delta a b (Service.Arrives client command) due none done waits = absurd none
service_waits ticks delta a b (Service.Leaves client) due none done waits =
    one_waits a.clients b.clients client due [] done.others
    (λ next. absurd (gone_gives_none (get nat_eq b.clients.by_number client) (ap is_some done.gone) next))
    (λ other apart next. waits other next)
service_waits ticks delta a b (Service.Begins client command id) due none done waits =
    command_waits ticks delta a b client (Service.Begins client command id) due refl done (λ other apart next. waits other next)
service_waits ticks delta a b (Service.Replies client command answer) due none done waits =
    command_waits ticks delta a b client (Service.Replies client command answer) due refl done (λ other apart next. waits other next)
service_waits ticks delta a b (Service.Quits client) due none done waits =
    command_waits ticks delta a b client (Service.Quits client) due refl done (λ other apart next. waits other next)
service_waits ticks delta a b (Service.Ends name ended answer told) due none done waits =
    subst (λ n. NoneWaits b.clients (due ++ told_clients n)) (sym done.2.who)
    (told_waits a b.clients (waiting_for a.calls ended.id) due done.2.idle waits)
service_waits ticks delta a b (Service.Passes name ended client rest) due none done waits =
    one_waits a.clients b.clients client due (client ∷ []) done.back.others
    (λ next. due_after due (client ∷ []) client (inl refl)) (λ other apart next. waits other next)
service_waits ticks delta a b (Service.Ages id) due none done waits = same_waits a.clients b.clients due done.1.clients waits
service_waits ticks delta a b (Service.GivesUp id told) due none done waits =
    let older = done.2 in
    subst (λ n. NoneWaits b.clients (due ++ told_clients n)) (sym done.4.who)
    (told_waits older b.clients (waiting_for older.calls id) due done.4.idle
    (subst (λ c. NoneWaits c due) (sym done.3.clients) waits))
service_waits ticks delta a b (Service.Releases id told) due none done waits =
    let older = done.2 in
    subst (λ n. NoneWaits b.clients (due ++ told_clients n)) (sym done.4.who)
    (told_waits older b.clients (waiting_for older.calls id) due done.4.idle
    (subst (λ c. NoneWaits c due) (sym done.3.clients) waits))

-- the same of several things, one after another
pub services_wait : (ticks : ℕ) (delta : Option ℕ) (a b : Desk) (services : List Service) (due : List ℕ) →
    AllByRecursion IsNoArrival services → AreServicesDone ticks delta a services b → NoneWaits a.clients due →
    NoneWaits b.clients (due ++ all_dues services)
services_wait ticks delta a b [] due none done waits =
    same_waits a.clients b.clients due (ap (λ (d : Desk). d.clients) done) waits
services_wait ticks delta a b (service ∷ services) due none done waits =
    subst (λ xs. NoneWaits b.clients xs) (append_assoc due (service_dues service) (all_dues services))
    (services_wait ticks delta done.0 b services (due ++ service_dues service) none.1 done.2
    (service_waits ticks delta a done.0 service due none.0 done.1 waits))
