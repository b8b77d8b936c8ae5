-- What each step adds to what a server stores, and what it frees.
use Rattle.std.proofs.Common.{◌≡◌, ℕ, ◌+◌, Option, Some, None, refl, arith, slice_get, map, get_or, []}
use Rattle.mail.specs.declared.message.Message.{Message}
use Rattle.mail.specs.declared.message.Body.{Body}
use Rattle.record.specs.Records.{Object, base_of, layout_at}
use Rattle.record.specs.Fragments.{Code}
use Rattle.record.specs.Accounts.{stored, some_bytes, stored_by_body, stored_by, freed_by_body, freed_by}
use Rattle.record.specs.Steps.{served_by, Step, on_message, stepped}
use Rattle.soundness.specs.Sound.{IsPosted, IsSound}
use Rattle.mail.specs.declared.message.Body.TheVariants as body
use Rattle.soundness.proofs.Accounting.StoredBytesLemmas.{stored-served, stored-left, stored-moving, stored-set}
use Rattle.soundness.proofs.ListLemmas.{all_get}
use Rattle.soundness.proofs.Sound.DuePositionLemmas.{base_there}
use Rattle.soundness.proofs.Sound.ItemLemmas.{posted_placed}
use Rattle.soundness.proofs.Sound.LeftBankLemmas.{banks_left}
use Rattle.bank.specs.Collect.{retired_bank}
use Rattle.soundness.proofs.Accounting.RetiredBytesLemmas.{position-retired}

-- Each step, by its name

-- A step adds to what a server stores the bytes that its bank adds where it serves a request, takes off those that it frees,
-- and nothing else
pub stored-changed : (fragment : Code) (object : Object) (step now : ℕ) (s : Step) (server : ℕ) → IsSound fragment object step →
    stored (stepped fragment s now object) server + freed_by object s now server ≡ stored object server + stored_by object s server
stored-changed fragment object step now (Step.CallMove id layout) server sound =
    let e = stored-moving object server id layout now sound.shape.banks in omega arith
stored-changed fragment object step now (Step.Serve place) server sound = found (slice_get object.mail place) refl
  where
    by_body : (message : Message) → IsPosted object message → (b : Body) →
        stored (served_by object place message b now) server + freed_by_body object message b now server
        ≡ stored object server + stored_by_body object message b server
    by_body message posted (body.Reply kind made) = refl
    by_body message posted (body.Request asked) =
        let placed = posted_placed sound posted in
        let sizes = sound.shape.members message.position placed in
        let members = posted.member in
        stored-served object message.position message.member asked now server placed
        (let b = sound.shape.banks in let p = placed in omega arith) posted.member
        (let s = sizes in let m = members in omega arith)

    found : (o : Option Message) → slice_get object.mail place ≡ o →
        stored (on_message object o (λ message. served_by object place message message.body now)) server
        + some_bytes o (λ message. freed_by_body object message message.body now server)
        ≡ stored object server + some_bytes o (λ message. stored_by_body object message message.body server)
    found None at = refl
    found (Some message) at = by_body message (all_get (IsPosted object) object.mail place message sound.mail at) message.body
stored-changed fragment object step now Step.Retire server sound =
    let base = base_of object in
    let below = base_there object sound.legal sound.shape in
    let row = map (λ bank. retired_bank bank now) (get_or object.banks base []) in
    let set = stored-set server object.layouts object.banks base row below (let b = sound.shape.banks in omega arith) in
    let none = position-retired server (layout_at object base).members (get_or object.banks base []) now in
    omega arith
stored-changed fragment object step now s server sound =
    let e = stored-left object server (stepped fragment s now object) (banks_left fragment object now s tt) in omega arith
