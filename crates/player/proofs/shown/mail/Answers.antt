use Rattle.std.proofs.Common.{Some, inl, inr, refl, ap}
use Rattle.printing.specs.MailLines.{mail_text}
use Rattle.cluster.specs.Cluster.{if_some}
use Rattle.player.proofs.PrintedLineLemmas.{prints_as}
use Rattle.player.proofs.shown.mail.Goals as goal

pub returns-in-Ok : goal.returns-in-Ok
returns-in-Ok g c =
    prints_as _ _ _ _ _ _
    (inl (c.in-Ok.ensures.cause, ap (λ o. if_some o (λ object. Some (mail_text object.mail))) c.in-Ok.ensures.object))
    (c.print.ensures _ (ap (λ m. Some (mail_text m)) c.mail_view.ensures))

pub returns-in-Err : goal.returns-in-Err
returns-in-Err g c = prints_as _ _ _ _ _ _ (inr (_, c.in-Err.ensures.cause, refl)) c.refuse.ensures
