-- A world that is reached follows a record in which each tag is held that replies told an open call to be held.
use Rattle.std.proofs.Common.{[], subst}
use Rattle.record.specs.Fragments.{Code}
use Rattle.open_calls.proofs.OpenCallLemmas.{found}
use Rattle.network.specs.Worlds.{World, opened_world}
use Rattle.network.specs.Events.{world_after}
use Rattle.network.specs.Following.{IsOpenIn, last_step_after}
use Rattle.network.specs.Laws.{IsReached}
use Rattle.early_ends.specs.Held.{IsHeld}
use Rattle.told_replies.specs.Laws.{HoldsWhatWasTold, ToldTagsAreHeld, run_to}
use Rattle.told_replies.proofs.GrownPhaseLemmas.{nothing_after}
use Rattle.told_replies.proofs.KeptPastLemmas.{past_same}
use Rattle.told_replies.proofs.ShownMemberLemmas.{carried, told_held}
use Rattle.told_replies.proofs.TracedRunLemmas.{IsRecorded, Remembers, recorded}

-- the last record of a run is that of its last world
abbrev at_the_end : (fragment : Code) (world : World) (reached : IsReached fragment world) →
    (traced : IsRecorded fragment reached.files reached.events) →
    Remembers fragment (world_after fragment reached.events (opened_world reached.files)) traced.last
at_the_end fragment world reached traced = record {
  object = traced.last;
  sound = traced.sound;
  follows = traced.follows;
  kept = past_same _ traced.last;
}

pub told_tags_held : ToldTagsAreHeld
told_tags_held fragment world code reached =
    subst (λ w. HoldsWhatWasTold fragment (run_to fragment world reached) w) reached.result (record {
      object = traced.last;
      sound = traced.sound;
      follows = traced.follows;
      holds = λ id call tag carries told.
          let is = (found (IsOpenIn traced.last) last.calls id call traced.follows.calls carries).0 in
          let there = at_the_end fragment world reached traced in
          let split = nothing_after reached.events in
          let place = carried fragment reached.files reached.events reached.may traced reached.events [] split there call is in
          record {
            carried = is;
            held = subst (λ start. IsHeld traced.last call.phase.position tag start (last_step_after last.now))
                place.is_later.same_start
                (told_held fragment reached.files reached.events reached.may traced reached.events [] split there call is tag told);
          };
    })
  where
    last : World
    last = world_after fragment reached.events (opened_world reached.files)

    traced : IsRecorded fragment reached.files reached.events
    traced = recorded fragment code reached.files reached.events reached.one reached.lawful reached.may
