-- What a node does for its clients, one thing after another.
use Rattle.std.proofs.Common.{◌≡◌, ℕ, Bool, true, false, cond, List, [], ◌∷◌, ◌++◌, Option, None, Some, is_some}
use Rattle.std.proofs.Common.{refl, sym, subst, ap, ◌∙◌}
use Rattle.std.proofs.lemmas.List.{append-nil, append_assoc}
use Rattle.node_clients.specs.Connections.{doing}
use Rattle.node_clients.specs.declared.connection.Connection.{Connection}
use Rattle.node_clients.specs.declared.connection.State.TheVariants.{Busy}
use Rattle.client_commands.specs.declared.answer.Answer.{Answer}
use Rattle.node_effects.specs.declared.work.Work.{Work}
use Rattle.node_clients.specs.Desk.{growth_for, is_connected, listener}
use Rattle.node_clients.specs.Answers.{answer_growth}
use Rattle.node_clients.specs.Served.{AreServicesDone, HasServed, IsServiceDone}
use Rattle.node_clients.specs.Services.{Service, all_dues, all_frames, all_notices, told_clients, told_frames}
use Rattle.node_clients.specs.Services.{service_dues, service_frames, service_notices}
use Rattle.node_clients.specs.declared.desk.Desk.{Desk}

-- one thing after another, and then more
pub served_then : (ticks : ℕ) (delta : Option ℕ) (a b c : Desk) (first second : List Service) → AreServicesDone ticks delta a first b →
    AreServicesDone ticks delta b second c → AreServicesDone ticks delta a (first ++ second) c
served_then ticks delta a b c [] second same rest = subst (λ d. AreServicesDone ticks delta d second c) same rest
served_then ticks delta a b c (service ∷ first) second done rest =
    (done.0, done.1, served_then ticks delta done.0 b c first second done.2 rest)

pub frames_append : (first second : List Service) → all_frames (first ++ second) ≡ all_frames first ++ all_frames second
frames_append [] second = refl
frames_append (service ∷ first) second =
    ap (λ xs. service_frames service ++ xs) (frames_append first second)
    ∙ sym (append_assoc (service_frames service) (all_frames first) (all_frames second))

dues_append : (first second : List Service) → all_dues (first ++ second) ≡ all_dues first ++ all_dues second
dues_append [] second = refl
dues_append (service ∷ first) second =
    ap (λ xs. service_dues service ++ xs) (dues_append first second)
    ∙ sym (append_assoc (service_dues service) (all_dues first) (all_dues second))

pub notices_append : (first second : List Service) → all_notices (first ++ second) ≡ all_notices first ++ all_notices second
notices_append [] second = refl
notices_append (service ∷ first) second =
    ap (λ xs. service_notices service ++ xs) (notices_append first second)
    ∙ sym (append_assoc (service_notices service) (all_notices first) (all_notices second))

more_grown : {A : Type 0} (u v w x y z : List A) → v ≡ u ++ x → w ≡ v ++ y → z ≡ x ++ y → w ≡ u ++ z
more_grown u v w x y z first second both =
    second ∙ ap (λ xs. xs ++ y) first ∙ append_assoc u x y ∙ ap (λ xs. u ++ xs) (sym both)

-- the same, with what there is to do
pub has_served_then : (ticks : ℕ) (delta : Option ℕ) (a b c : Desk) (u v w : Work) (first second : List Service) →
    HasServed ticks delta a u first b v → HasServed ticks delta b v second c w → HasServed ticks delta a u (first ++ second) c w
has_served_then ticks delta a b c u v w first second f s = record {
  served = served_then ticks delta a b c first second f.served s.served;
  told = more_grown u.to_clients.items v.to_clients.items w.to_clients.items (all_frames first) (all_frames second)
      (all_frames (first ++ second)) f.told s.told (frames_append first second);
  due = more_grown u.due.items v.due.items w.due.items (all_dues first) (all_dues second) (all_dues (first ++ second))
      f.due s.due (dues_append first second);
  notices = more_grown u.notices.items v.notices.items w.notices.items (all_notices first) (all_notices second)
      (all_notices (first ++ second)) f.notices s.notices (notices_append first second);
}

-- one thing happens
pub one_served : (ticks : ℕ) (delta : Option ℕ) (a b : Desk) (u v : Work) (service : Service) → IsServiceDone ticks delta a service b →
    v.to_clients.items ≡ u.to_clients.items ++ service_frames service → v.due.items ≡ u.due.items ++ service_dues service →
    v.notices.items ≡ u.notices.items ++ service_notices service → HasServed ticks delta a u (service ∷ []) b v
one_served ticks delta a b u v service served told due notices = record {
  served = (b, served, refl);
  told = told ∙ ap (λ xs. u.to_clients.items ++ xs) (sym (append-nil (service_frames service)));
  due = due ∙ ap (λ xs. u.due.items ++ xs) (sym (append-nil (service_dues service)));
  notices = notices ∙ ap (λ xs. u.notices.items ++ xs) (sym (append-nil (service_notices service)));
}

-- whoever is told is the client that waits, if one does and its connection is there
pub growth_frames : (desk : Desk) (client : Option ℕ) (answer : Answer) →
    (growth_for desk client answer).to_clients ≡ told_frames (listener desk client) answer
growth_frames desk None answer = refl
growth_frames desk (Some client) answer = go (is_connected desk client)
  where
    go : (b : Bool) → (answer_growth b client answer).to_clients ≡ told_frames (cond b (Some client) None) answer
    go true = refl
    go false = refl

pub growth_dues : (desk : Desk) (client : Option ℕ) (answer : Answer) →
    (growth_for desk client answer).due ≡ told_clients (listener desk client)
growth_dues desk None answer = refl
growth_dues desk (Some client) answer = go (is_connected desk client)
  where
    go : (b : Bool) → (answer_growth b client answer).due ≡ told_clients (cond b (Some client) None)
    go true = refl
    go false = refl

pub growth_notices : (desk : Desk) (client : Option ℕ) (answer : Answer) → (growth_for desk client answer).notices ≡ []
growth_notices desk None answer = refl
growth_notices desk (Some client) answer = go (is_connected desk client)
  where
    go : (b : Bool) → (answer_growth b client answer).notices ≡ []
    go true = refl
    go false = refl

-- a busy connection is there
pub busy_is_there : (connection : Option Connection) → doing connection ≡ Busy → is_some connection ≡ true
busy_is_there None e = absurd (cc)
busy_is_there (Some connection) e = refl
