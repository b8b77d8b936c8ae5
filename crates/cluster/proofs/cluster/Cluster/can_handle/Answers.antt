use Rattle.std.proofs.Common.{◌≡◌, ◌≤◌, length, slice_get, List, Some, ap, sym, ◌∙◌, arith}
use Rattle.mail.specs.declared.message.Message.{Message}
use Rattle.cluster.specs.Causes.{place_cause, handled_at}
use Rattle.cluster.specs.Cluster.{Cluster}
use Rattle.cluster.proofs.FoundObjectLemmas.{IsFound, read_found, cause_found, none_at}
use Rattle.cluster.proofs.RequestRoomLemmas.{handled_is, place_past, place_there}
use Rattle.cluster.proofs.cluster.Cluster.can_handle.Goals as goal

pub returns-in_default-clause-cause : goal.returns-in_default-clause-cause
returns-in_default-clause-cause c = none_at c.args.self.now c.args.name.now (place_cause c.args.place) c.in_default.ensures

pub returns-then-len-place-clause-cause : goal.returns-then-len-place-clause-cause
returns-then-len-place-clause-cause c =
    let found : IsFound c.args.self.now c.args.name.now c.register_at-register.result.now =
    record { here = c.register_at-register.ensures } in
    let mail = c.mail_view-mail.result.now in
    let past : length mail ≤ c.args.place = omega (arith, c.len.ensures.value, c.if-len-place.true) in
    cause_found found (place_cause c.args.place)
    ∙ place_past c.register_at-register.result.now.object c.args.place mail c.mail_view-mail.ensures past

pub returns : goal.returns
returns c =
    let found : IsFound c.args.self.now c.args.name.now c.register_at-register.result.now =
    record { here = c.register_at-register.ensures } in
    let object = c.register_at-register.result.now.object in
    let m = c.at.result.now in
    let waits : slice_get object.mail c.args.place
    ≡ Some m = ap (λ (ms : List Message). slice_get ms c.args.place) (sym c.mail_view-mail.ensures) ∙ c.at.ensures in
    let is = c.is_handled.ensures c.args.self.now (sym (ap (λ (k : Cluster). k.servers) c.self.view_is)) in
    record {
      value = read_found found (handled_at c.args.self.now c.args.place)
          ∙ handled_is c.args.self.now object c.args.place m c.is_handled.result waits is;
      cause = cause_found found (place_cause c.args.place) ∙ place_there object c.args.place m waits;
    }
