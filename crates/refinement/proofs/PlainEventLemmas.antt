-- Each event at a node is at most one event of the world, unless only the number of events is known.
use Rattle.local_object.specs.Events.{LocalEvent}
use Rattle.refinement.specs.Laws.{PlainEventsAreWorldEvents}
use Rattle.refinement.proofs.AdvancedCallLemmas.{advance_refined}
use Rattle.refinement.proofs.BegunMoveLemmas.{move_refined}
use Rattle.refinement.proofs.ClosedPlaceLemmas.{close_refined}
use Rattle.refinement.proofs.GrownStartLemmas.{grow_refined}
use Rattle.refinement.proofs.LeftCallLemmas.{answer_refined, give_up_refined}
use Rattle.refinement.proofs.ServedRequestLemmas.{serve_refined}
use Rattle.refinement.proofs.SettledValueLemmas.{settle_refined}
use Rattle.refinement.proofs.StrayLetterLemmas.{hear_refined, redirect_refined}
use Rattle.refinement.proofs.TakenLetterLemmas.{take_refined}

pub each_plain : PlainEventsAreWorldEvents
each_plain (LocalEvent.BeginRead id) plain = absurd (cc)
each_plain (LocalEvent.BeginWrite id value) plain = absurd (cc)
each_plain (LocalEvent.BeginMove id layout) plain = move_refined id layout
each_plain (LocalEvent.Advance id) plain = advance_refined id
each_plain (LocalEvent.Serve letter) plain = serve_refined letter
each_plain (LocalEvent.Take letter) plain = take_refined letter
each_plain (LocalEvent.Settle id value) plain = settle_refined id value
each_plain (LocalEvent.Answer id) plain = answer_refined id
each_plain (LocalEvent.GiveUp id) plain = give_up_refined id
each_plain (LocalEvent.Close position) plain = close_refined position
each_plain (LocalEvent.Grow id) plain = grow_refined id
each_plain (LocalEvent.Hear letter) plain = hear_refined letter
each_plain (LocalEvent.Redirect letter) plain = redirect_refined letter
each_plain (LocalEvent.ReadOn id) plain = absurd (cc)
each_plain (LocalEvent.BeginAnew id) plain = absurd (cc)
each_plain (LocalEvent.Raise position) plain = absurd (cc)
each_plain (LocalEvent.EndEarly id value) plain = absurd (cc)
each_plain (LocalEvent.Query id) plain = absurd (cc)
