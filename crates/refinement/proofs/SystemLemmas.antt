-- All nodes, each by what it keeps, have a world that a course reaches.
use Rattle.std.proofs.Common.{◌≡◌, ℕ, zero, suc, ◌+◌, ◌<◌, cond, List, [], ◌∷◌}
use Rattle.std.proofs.Common.{Some, None, slice_get, refl, sym, ap, ◌∙◌, arith}
use Rattle.std.proofs.lemmas.Option.{same_Some}
use Rattle.layout.specs.Layout.{Layout, IsLawful}
use Rattle.bank.specs.Bank.{opened_bank}
use Rattle.bank.specs.Floor.{remembered}
use Rattle.bank.proofs.RememberedBankLemmas.{remembered-opened}
use Rattle.record.specs.Fragments.{Code}
use Rattle.network.specs.Worlds.{ClusterFile, member_bank, known_layouts, opened_world}
use Rattle.network.specs.Premises.{IsOneFile}
use Rattle.local_object.specs.Local.{LocalObject, Place, bank_here, layout_here, layout_in, new_local}
use Rattle.refinement.specs.Parts.{IsKeptOf, IsPartOf}
use Rattle.refinement.specs.Systems.{MayRunIn, System, SystemEvent, opened_system, system_after}
use Rattle.refinement.specs.Systems.{system_run}
use Rattle.refinement.specs.WellFormed.{IsWellFormed}
use Rattle.open_calls.proofs.CallsOfNodeLemmas.{differs}
use Rattle.refinement.proofs.SystemEventLemmas.{one_event}
use Rattle.refinement.proofs.SystemPremiseLemmas.{HasRun}
use Rattle.starts.proofs.BankRowLemmas.{new_count}
use Rattle.refinement.proofs.GrownWorldLemmas.{new_bank}

all_events : (fragment : Code) (events : List SystemEvent) (system : System) → HasRun fragment system →
    MayRunIn fragment events system → HasRun fragment (system_run fragment events system)
all_events fragment [] system has may = has
all_events fragment (event ∷ events) system has may =
    all_events fragment events (system_after fragment system event) (one_event fragment system has event may.0) may.1

-- The first world

module _ (files : ℕ → ClusterFile) (one : IsOneFile files) where
  opened_formed : (fragment : Code) → IsLawful (files 0).first → IsWellFormed fragment (opened_world files)
  opened_formed fragment lawful = record {
    one = one;
    lawful = (lawful, tt);
    banks = ap (λ n. n ∷ []) (new_count files (files 0).first.members 0);
    ids = tt;
    entries = tt;
    asked = tt;
  }

  abbrev opened_local : ℕ → LocalObject
  opened_local node = new_local node (files node).delta (files node).first

  unheard_later : (node q : ℕ) → layout_here (opened_local node) (suc q) ≡ None
  unheard_later node q =
      let first : Place = record { position = 0; layout = (files node).first; bank = None } in
      ap (λ b. layout_in (cond b (Some first) None)) (differs 0 (suc q) (λ same. absurd (omega arith)))

  none_before : (position : ℕ) → position < 0 → ⊥
  none_before position less = absurd (omega (arith, less))

  opened_part : (node : ℕ) → IsPartOf (opened_world files) (opened_local node)
  opened_part node = record {
    delta = refl;
    start = λ position less. absurd (none_before position less);
    layouts = layouts;
    first = refl;
    banks = banks;
    calls = refl;
    mover = λ moves. mover;
  }
    where
      layouts : (q : ℕ) (layout : Layout) → layout_here (opened_local node) q ≡ Some layout →
          slice_get (known_layouts (opened_world files) node) q ≡ Some layout
      layouts zero layout e = e
      layouts (suc q) layout e = absurd (let wrong : None ≡ Some layout = sym (unheard_later node q) ∙ e in cc)

      banks : (q member : ℕ) (layout : Layout) → slice_get (known_layouts (opened_world files) node) q ≡ Some layout →
          slice_get layout.members member ≡ Some node →
          IsKeptOf (member_bank (opened_world files) q member) (bank_here (opened_local node) q member)
      banks zero member layout at holds =
          let same : 0 + member ≡ member = omega arith in
          let there : slice_get (files 0).first.members member ≡ Some node =
          ap (λ (file : ClusterFile). slice_get file.first.members member) (sym (one node))
          ∙ ap (λ (l : Layout). slice_get l.members member) (same_Some (files node).first layout at) ∙ holds in
          ap remembered (new_bank files (files 0).first.members 0 member node there)
          ∙ ap (λ n. remembered (opened_bank n (files node).delta 0)) same ∙ remembered-opened member (files node).delta 0
      banks (suc q) member layout at holds = absurd (cc)

      mover : (q : ℕ) (layout : Layout) → slice_get (known_layouts (opened_world files) node) q ≡ Some layout →
          layout_here (opened_local node) q ≡ Some layout
      mover zero layout e = e
      mover (suc q) layout e = absurd (cc)

  opened_has : (fragment : Code) → IsLawful (files 0).first → HasRun fragment (opened_system files)
  opened_has fragment lawful = record {
    course = record { files = files; turns = [] };
    answers = [];
    reached = record { one = one; lawful = lawful; may = tt };
    formed = opened_formed fragment lawful;
    is = record {
      parts = record { files = refl; nodes = λ node. refl; parts = opened_part; letters = tt; now = refl };
      told = record { letters = tt; reports = λ node. tt; apart = λ node. tt };
      early = record { early = tt; ended = tt; used = λ id unused. refl; same = refl };
      rooms = λ node. tt;
    };
  }

  pub from_opened : (fragment : Code) (events : List SystemEvent) → IsLawful (files 0).first →
      MayRunIn fragment events (opened_system files) → HasRun fragment (system_run fragment events (opened_system files))
  from_opened fragment events lawful may =
      all_events fragment events (opened_system files) (opened_has fragment lawful) may
