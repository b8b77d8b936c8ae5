use Rattle.std.proofs.Common.{inl, refl, ap}
use Rattle.std.specs.Prelude.{option_map}
use Rattle.call.specs.declared.receipt.CallView.{CallView}
use Rattle.printing.specs.CallLine.{call_text}
use Rattle.player.specs.Shown.{line_of}
use Rattle.player.proofs.PrintedLineLemmas.{prints_as}
use Rattle.player.proofs.shown.call.Goals as goal

pub returns-in-Ok : goal.returns-in-Ok
returns-in-Ok g c =
    prints_as _ _ _ _ _ _
    (inl (c.in-Ok.ensures.cause, ap (option_map (λ (view : CallView). line_of (call_text c.args.call view))) c.in-Ok.ensures.view))
    (c.print_line.ensures _ refl)
