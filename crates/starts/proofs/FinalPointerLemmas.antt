-- A pointer that is final stays final, whatever happens.
use Rattle.std.proofs.Common.{◌≡◌, ℕ, zero, suc, List, [], ◌∷◌, ◌++◌, get_or, set, Option, Some, None, slice_get, refl, ap, ◌∙◌}
use Rattle.std.proofs.Common.{arith}
use Rattle.layout.specs.Layout.{Layout}
use Rattle.bank.specs.Bank.{Bank}
use Rattle.bank.specs.Pointer.{raised, status_of}
use Rattle.bank.specs.Serve.{served_bank}
use Rattle.bank.specs.declared.kind.Kind.{Kind}
use Rattle.bank.specs.declared.request.Request.{Request}
use Rattle.bank.specs.declared.request.Request.TheVariants as request
use Rattle.bank.specs.declared.status.Pointer.{Pointer}
use Rattle.bank.specs.declared.status.Status.{Status}
use Rattle.bank.specs.declared.status.Status.TheVariants as status
use Rattle.mail.specs.declared.message.Body.{Body}
use Rattle.mail.specs.declared.message.Body.TheVariants as body
use Rattle.mail.specs.declared.message.Message.{Message}
use Rattle.record.specs.Fragments.{Code}
use Rattle.record.specs.Records.{no_bank}
use Rattle.open_calls.specs.OpenCalls.{NodeCall, due_phase, open_call, taking_open, with_open}
use Rattle.open_calls.proofs.ListLemmas.{all_weaker}
use Rattle.network.specs.Worlds.{World, known_layouts}
use Rattle.network.specs.Events.{Event, MayHappen, advanced_world, answered_world, happens, on_open, served_world, world_after}
use Rattle.network.specs.Premises.{IsPremised, MayHappenInTurn}
use Rattle.starts.specs.Starts.{HasFinal, IsFinalAt}

-- Banks

-- the pointer of the bank is final
abbrev pub IsFinal : Bank → Type 0
IsFinal bank = status_of bank.pointer ≡ status.Final

raised_final : (p : Pointer) (s : Status) (now : ℕ) → status_of p ≡ status.Final → status_of (raised p s now) ≡ status.Final
raised_final p s now final = grind arith

served_final : (bank : Bank) (asked : Request) (now : ℕ) → IsFinal bank → IsFinal (served_bank bank asked now)
served_final bank request.Next now final = final
served_final bank (request.Spread s) now final = raised_final bank.pointer s now final
served_final bank request.Query now final = final
served_final bank (request.PreWrite tag piece) now final = final
served_final bank (request.Finalize tag) now final = final
served_final bank (request.Fetch tag) now final = final

-- a bank of a list, where one is exchanged for one that is final if the old one was
final_set : (banks : List Bank) (place other : ℕ) (new : Bank) → (IsFinal (get_or banks place no_bank) → IsFinal new) →
    IsFinal (get_or banks other no_bank) → IsFinal (get_or (set banks place new) other no_bank)
final_set [] place other new keeps final = final
final_set (bank ∷ banks) zero zero new keeps final = keeps final
final_set (bank ∷ banks) zero (suc other) new keeps final = final
final_set (bank ∷ banks) (suc place) zero new keeps final = final
final_set (bank ∷ banks) (suc place) (suc other) new keeps final = final_set banks place other new keeps final

-- the bank of a member of a position
abbrev pub bank_in : List (List Bank) → (position member : ℕ) → Bank
bank_in banks position member = get_or (get_or banks position []) member no_bank

final_set_in : (banks : List (List Bank)) (position member other member2 : ℕ) (new : Bank) →
    (IsFinal (bank_in banks position member) → IsFinal new) → IsFinal (bank_in banks other member2) →
    IsFinal (bank_in (set banks position (set (get_or banks position []) member new)) other member2)
final_set_in [] position member other member2 new keeps final = final
final_set_in (first ∷ later) zero member zero member2 new keeps final = final_set first member member2 new keeps final
final_set_in (first ∷ later) zero member (suc other) member2 new keeps final = final
final_set_in (first ∷ later) (suc position) member zero member2 new keeps final = final
final_set_in (first ∷ later) (suc position) member (suc other) member2 new keeps final =
    final_set_in later position member other member2 new keeps final

-- more positions change no bank; one that does not exist has no final pointer
final_more : (banks more : List (List Bank)) (position member : ℕ) → IsFinal (bank_in banks position member) →
    IsFinal (bank_in (banks ++ more) position member)
final_more [] more position member final = absurd (cc)
final_more (first ∷ later) more zero member final = final
final_more (first ∷ later) more (suc position) member final = final_more later more position member final

-- Worlds

pub get_more : {A : Type 0} (xs ys : List A) (i : ℕ) (x : A) → slice_get xs i ≡ Some x → slice_get (xs ++ ys) i ≡ Some x
get_more [] ys i x at = absurd (cc)
get_more (y ∷ xs) ys zero x at = at
get_more (y ∷ xs) ys (suc i) x at = get_more xs ys i x at

-- a world that keeps what is final in another, and its layouts
pub record Keeps (world new : World) : Type 0 where
  pub files : new.files ≡ world.files
  pub layouts : (position : ℕ) (layout : Layout) → slice_get world.later position ≡ Some layout →
      slice_get new.later position ≡ Some layout
  pub final : (position member : ℕ) → HasFinal world position member → HasFinal new position member

pub kept_same : (world new : World) → new.files ≡ world.files → new.later ≡ world.later → new.banks ≡ world.banks → Keeps world new
kept_same world new files later banks = record {
  files = files;
  layouts = λ position layout at. ap (λ l. slice_get l position) later ∙ at;
  final = λ position member final. ap (λ b. status_of (bank_in b position member).pointer) banks ∙ final;
}

-- what changes only an open call and messages
kept_open : (world base : World) (o : Option NodeCall) (change : NodeCall → World) → Keeps world base →
    ((call : NodeCall) → Keeps world (change call)) → Keeps world (on_open base o change)
kept_open world base None change none some = none
kept_open world base (Some call) change none some = some call

-- the world one event later
abbrev pub ticked : World → World
ticked world = record world { now = suc world.now }

pub kept_served : (world : World) (message : Message) (b : Body) → Keeps world (served_world (ticked world) message b)
kept_served world message (body.Reply kind made) = kept_same world (ticked world) refl refl refl
kept_served world message (body.Request asked) = record {
  files = refl;
  layouts = λ position layout at. at;
  final = λ position member final. final_set_in world.banks message.position message.member position member
      (served_bank (bank_in world.banks message.position message.member) asked 0)
      (served_final (bank_in world.banks message.position message.member) asked 0) final;
}

pub kept_advanced : (fragment : Code) (world : World) (call : NodeCall) (o : Option (Kind × ℕ)) →
    Keeps world (advanced_world fragment (ticked world) call o)
kept_advanced fragment world call None = kept_same world (ticked world) refl refl refl
kept_advanced fragment world call (Some next) =
    kept_same world (advanced_world fragment (ticked world) call (Some next)) refl refl refl

pub kept : (fragment : Code) (world : World) (event : Event) → MayHappen fragment world event → IsPremised world event →
    Keeps world (happens fragment world event)
kept fragment world (Event.BeginRead node id) may premised =
    kept_same world (happens fragment world (Event.BeginRead node id)) refl refl refl
kept fragment world (Event.BeginWrite node id value) may premised =
    kept_same world (happens fragment world (Event.BeginWrite node id value)) refl refl refl
kept fragment world (Event.BeginMove node id layout) may premised = record {
  files = refl;
  layouts = λ position l at. get_more world.later (layout ∷ []) position l at;
  final = λ position member final.
      final_more world.banks _ position member final;
}
kept fragment world (Event.Advance id) may premised =
    kept_open world (ticked world) (open_call world.calls id) (λ call. advanced_world fragment (ticked world) call (due_phase call))
    (kept_same world (ticked world) refl refl refl) (λ call. kept_advanced fragment world call (due_phase call))
kept fragment world (Event.Serve message) may premised = kept_served world message message.body
kept fragment world (Event.Take message) may premised =
    kept_open world (ticked world) (open_call world.calls message.call)
    (λ call. record (ticked world) { calls = with_open (taking_open message call) world.calls })
    (kept_same world (ticked world) refl refl refl)
    (λ call. kept_same world (record (ticked world) { calls = with_open (taking_open message call) world.calls }) refl refl refl)
kept fragment world (Event.Settle id value) may premised =
    kept_open world (ticked world) (open_call world.calls id)
    (λ call. record (ticked world) { calls = with_open (record call { settled = Some value }) world.calls })
    (kept_same world (ticked world) refl refl refl)
    (λ call. kept_same world (record (ticked world) { calls = with_open (record call { settled = Some value }) world.calls })
    refl refl refl)
kept fragment world (Event.Answer id) may premised =
    kept_open world (ticked world) (open_call world.calls id) (λ call. answered_world (ticked world) call)
    (kept_same world (ticked world) refl refl refl)
    (λ call. kept_same world (answered_world (ticked world) call) refl refl refl)
kept fragment world (Event.GiveUp id) may premised =
    kept_same world (happens fragment world (Event.GiveUp id)) refl refl refl
kept fragment world (Event.Restart node banks calls) may premised =
    kept_same world (happens fragment world (Event.Restart node banks calls)) refl refl premised.log.0

-- Positions that are final

pub layouts_grow : (world new : World) → Keeps world new → (position : ℕ) (layout : Layout) →
    slice_get (known_layouts world 0) position ≡ Some layout → slice_get (known_layouts new 0) position ≡ Some layout
layouts_grow world new keeps zero layout at = ap (λ files. Some (files 0).first) keeps.files ∙ at
layouts_grow world new keeps (suc position) layout at = keeps.layouts position layout at

final_kept : (world new : World) → Keeps world new → (position : ℕ) → IsFinalAt world position → IsFinalAt new position
final_kept world new keeps position is = record {
  layout = is.layout;
  at = layouts_grow world new keeps position is.layout is.at;
  members = is.members;
  quorum = is.quorum;
  final = all_weaker (HasFinal world position) (HasFinal new position) (keeps.final position) is.members is.final;
}

pub finals_stay_final : (fragment : Code) (world : World) (events : List Event) (position : ℕ) →
    MayHappenInTurn fragment events world → IsFinalAt world position → IsFinalAt (world_after fragment events world) position
finals_stay_final fragment world [] position may is = is
finals_stay_final fragment world (event ∷ events) position may is =
    finals_stay_final fragment (happens fragment world event) events position may.2
    (final_kept world (happens fragment world event) (kept fragment world event may.0 may.1) position is)
