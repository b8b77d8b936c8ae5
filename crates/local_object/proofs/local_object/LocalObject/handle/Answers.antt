use Rattle.std.proofs.Common.{ap, sym, ◌∙◌}
use Rattle.letter.specs.declared.letter.Letter.{Letter}
use Rattle.local_object.specs.Codes.{carried}
use Rattle.local_object.specs.Events.{served_here}
use Rattle.local_object.specs.Local.{LocalObject}
use Rattle.local_object.proofs.ServeLemmas.{handled_sent}
use Rattle.local_object.proofs.local_object.LocalObject.handle.Goals as goal

pub returns-clause-sent : goal.returns-clause-sent
returns-clause-sent c =
    let o = c.self.inside in
    let letter = c.args.letter in
    let local : LocalObject = record {
      node = o.node;
      delta = o.delta;
      start = o.start;
      places = o.places;
      reports = o.reports;
      calls = carried o.node o.calls;
    } in
    handled_sent local letter c.in-Request.request c.in-Request.is c.serve.new.self
    c.kind.result c.in-Some.reply c.in_ok-told.told c.with_told.result c.in_ok-reply.ensures.places c.kind.ensures
    (sym c.in-Some.is ∙ c.in_ok-reply.ensures.reply) c.in_ok-told.ensures.told
    (c.with_told.ensures
    ∙ ap (λ (l : Letter). record l { told = c.in_ok-told.told }) c.in_ok-letter.ensures.letter)
    ∙ ap (λ (l : LocalObject). (served_here l letter letter.message.body).sent) c.self.view_is
