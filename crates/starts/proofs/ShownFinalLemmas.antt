-- A call that has spread a final pointer to a quorum shows that the pointer of its position is final there.
use Rattle.std.proofs.Common.{◌≡◌, ℕ, zero, suc, ◌<◌, ◌≤◌, List, [], ◌∷◌, length, get_or, Some, slice_get, refl, sym, subst, arith}
use Rattle.std.proofs.lemmas.List.{length-map}
use Rattle.std.specs.List.{AllByRecursion}
use Rattle.layout.specs.Layout.{Layout, quorum_of}
use Rattle.mail.specs.Phase.{members_of}
use Rattle.mail.specs.declared.phase.Taken.{Taken}
use Rattle.record.specs.Records.{no_layout}
use Rattle.open_calls.proofs.OpenCallLemmas.{found}
use Rattle.network.specs.Worlds.{known_layout, known_layouts}
use Rattle.starts.specs.Laws.{CompleteSpreadsAreFinal}
use Rattle.starts.specs.Starts.{HasFinal}
use Rattle.starts.proofs.TrueReplyLemmas.{IsTrueCall, IsTrueTaken}
use Rattle.starts.proofs.TrueWorldLemmas.{reached_true}

-- a layout with a member is one of the list
layout_there : (layouts : List Layout) (position member : ℕ) → member < length (get_or layouts position no_layout).members →
    slice_get layouts position ≡ Some (get_or layouts position no_layout)
layout_there [] position member within = let none : member < 0 = within in absurd (omega (arith, none))
layout_there (layout ∷ layouts) zero member within = refl
layout_there (layout ∷ layouts) (suc position) member within = layout_there layouts position member within

-- what holds of each member that replied
members_all : (P : Taken → Type 0) (Q : ℕ → Type 0) → ((taken : Taken) → P taken → Q taken.member) → (replies : List Taken) →
    AllByRecursion P replies → AllByRecursion Q (members_of replies)
members_all P Q each [] all = tt
members_all P Q each (taken ∷ replies) all = (each taken all.0, members_all P Q each replies all.1)

pub spreads_show_final : CompleteSpreadsAreFinal
spreads_show_final fragment world id call reached open_there kind ended =
    let truth = reached_true fragment world reached in
    let here = (found (IsTrueCall world) world.calls id call truth.calls open_there).0 in
    let phase = call.phase in
    let layout = known_layout world 0 phase.position in
    let whole = here.replies.complete ended in record {
      layout = layout;
      at = layout_there (known_layouts world 0) phase.position whole.member whole.within;
      members = members_of phase.replies;
      quorum = record {
        distinct = here.replies.distinct;
        within = members_all (IsTrueTaken world phase) (λ i. i < length layout.members) (λ taken told. told.within) phase.replies
            here.replies.each;
        enough = subst (λ n. quorum_of layout ≤ n) (sym (length-map phase.replies (λ (t : Taken). t.member))) whole.enough;
      };
      final = members_all (IsTrueTaken world phase) (HasFinal world phase.position) (λ taken told. told.final kind) phase.replies
          here.replies.each;
    }
