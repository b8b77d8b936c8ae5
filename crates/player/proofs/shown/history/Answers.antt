use Rattle.std.proofs.Common.{Some, inl, ap}
use Rattle.record.specs.Journals.{entries}
use Rattle.printing.specs.HistoryLines.{history_text}
use Rattle.player.proofs.PrintedLineLemmas.{prints_as, read_as}
use Rattle.player.proofs.shown.history.Goals as goal

pub returns-in-Ok : goal.returns-in-Ok
returns-in-Ok g c =
    prints_as _ _ _ _ _ _ (inl (c.in-Ok.ensures.cause, read_as _ entries history_text _ c.in-Ok.ensures.entries))
    (c.print.ensures _ (ap (λ es. Some (history_text es)) c.deref.ensures.value))
