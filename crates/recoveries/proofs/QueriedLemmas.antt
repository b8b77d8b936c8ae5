-- A first reading that stands for its query: a node does so alone, for a read or a write, and never for a move.
use Rattle.std.proofs.Common.{◌≡◌, ℕ, Bool, true, false, ◌&&◌, not, cond, [], ◌∷◌, Option, Some, None, refl, sym, subst, ap, ◌∙◌}
use Rattle.encoder.specs.Fragment.{fragment}
use Rattle.layout.specs.Layout.{Layout}
use Rattle.letter.specs.declared.letter.Letter.{Letter}
use Rattle.open_calls.specs.OpenCalls.{NodeCall, open_call}
use Rattle.open_calls.specs.Queries.{queried}
use Rattle.local_object.specs.Events.{LocalEvent, all_done, done_here, queried_here}
use Rattle.local_object.specs.Local.{LocalObject, layout_here}
use Rattle.local_object.specs.Outcomes.{on_open_call}
use Rattle.local_object.specs.Querying.{query_by, query_events, stands_for_query}
use Rattle.local_object.specs.Reports.{tags_told}
use Rattle.recoveries.proofs.KeptCallLemmas.{IsObjectCopy, found_id, moves_call, with_client}
use Rattle.recoveries.proofs.TwinLemmas.{found_new}

-- what a node keeps after the first reading of the call with this id stood for its query, if it does
abbrev pub queried_by : LocalObject → (id : ℕ) → LocalObject
queried_by local id = (all_done fragment local (query_events local id)).local

-- what it keeps after it took a letter, and the first reading of the call then stood for its query, if it does
abbrev pub after_reply : LocalObject → Letter → LocalObject
after_reply local letter = queried_by (done_here fragment local (LocalEvent.Take letter)).local letter.message.call

-- A move

not_standing : (move reads told : Bool) → move ≡ true → ((not move && reads) && told) ≡ false
not_standing true reads told e = refl
not_standing false reads told e = absurd (cc)

pub no_move_query : (local : LocalObject) (id : ℕ) (call : NodeCall) → open_call local.calls id ≡ Some call →
    moves_call call ≡ true → queried_by local id ≡ local
no_move_query local id call found move =
    let stands : stands_for_query local call ≡ false = not_standing (moves_call call) _ _ move in
    ap (λ o. (all_done fragment local (query_by local o)).local) found
    ∙ ap (λ b. (all_done fragment local (cond b (LocalEvent.Query call.id ∷ []) [])).local) stands

-- A read or a write

-- a read or a write with this id is open, and nothing changes that the copy has
pub record HasClient (moves : Type 0) (local copy : LocalObject) (id : ℕ) : Type 0 where
  pub call : NodeCall
  pub found : open_call local.calls id ≡ Some call
  pub client : moves_call call ≡ false
  pub is : IsObjectCopy moves local copy

module _ (moves : Type 0) (local copy : LocalObject) (is : IsObjectCopy moves local copy) (id : ℕ) (call : NodeCall)
    (found : open_call local.calls id ≡ Some call) (client : moves_call call ≡ false) where
  unchanged : HasClient moves local copy id
  unchanged = record { call = call; found = found; client = client; is = is }

  queried_alone : (o : Option Layout) → HasClient moves (queried_here local call o).local copy id
  queried_alone None = unchanged
  queried_alone (Some layout) =
      let new : NodeCall = queried call layout (tags_told layout call.id call.phase.number local.reports) in record {
        call = new;
        found = found_new local.calls id call new found refl;
        client = client;
        is = with_client moves local copy is id call new local.reports found client refl client;
      }

  by_query : HasClient moves (done_here fragment local (LocalEvent.Query id)).local copy id
  by_query =
      subst (λ o. HasClient moves (on_open_call local o
      (λ call. queried_here local call (layout_here local call.phase.position))).local copy id) (sym found)
      (queried_alone (layout_here local call.phase.position))

  pub client_queries : HasClient moves (queried_by local id) copy id
  client_queries =
      subst (λ o. HasClient moves (all_done fragment local (query_by local o)).local copy id) (sym found)
      (go (stands_for_query local call))
    where
      go : (b : Bool) → HasClient moves (all_done fragment local (cond b (LocalEvent.Query call.id ∷ []) [])).local copy id
      go true =
          subst (λ i. HasClient moves (done_here fragment local (LocalEvent.Query i)).local copy id)
          (sym (found_id local.calls id call found)) by_query
      go false = unchanged
