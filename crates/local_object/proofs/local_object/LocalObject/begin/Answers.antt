use Rattle.std.proofs.Common.{◌≡◌, Option, length, map, sym, subst, ap, ◌∙◌}
use Rattle.layout.specs.Layout.{Layout}
use Rattle.record.specs.PhaseOrder.{begun_at}
use Rattle.call.specs.Call.{OpenCall as Machine}
use Rattle.open_calls.specs.OpenCalls.{open_call}
use Rattle.local_object.specs.Distinct.{HaveOtherIds}
use Rattle.local_object.specs.Codes.{carried}
use Rattle.local_object.specs.Outcomes.{begun_here, is_read}
use Rattle.local_object.specs.Letters.{letter_in}
use Rattle.local_object.specs.Local.{LocalObject, heard_place, layout_here, layout_in}
use Rattle.local_object.proofs.BeginLemmas.{others_of}
use Rattle.local_object.proofs.local_object.LocalObject.begin.Goals as goal

pub add-requires : goal.add-requires
add-requires c =
    subst (λ id. HaveOtherIds id c.self.inside.calls) (sym (ap (λ (call : Machine). call.id) c.in_ok-call.ensures.call))
    (others_of c.self.inside.node c.self.inside.calls c.args.ask.call
    (ap (λ (l : LocalObject). open_call l.calls c.args.ask.call) c.self.view_is ∙ c.requires.new))

pub returns-clause-letters : goal.returns-clause-letters
returns-clause-letters c =
    let o = c.self.inside in
    let layout = c.in-Some.layout.now in
    let local : LocalObject =
    record { node = o.node; delta = o.delta; start = o.start; places = o.places; reports = o.reports; calls = carried o.node o.calls } in
    let begun = λ (l : LocalObject) (there : Option Layout). (begun_here l c.args.ask.call c.args.kind
    (begun_at c.args.stage c.args.ask.position) c.args.ask.kind c.args.ask.number c.args.ask.position there).sent in
    let number : length layout.members ≡ c.n.result = sym (c.n.ensures.value ∙ ap (λ (l : Layout). length l.members) c.layout.ensures) in
    c.in_ok-letters.ensures.letters
    ∙ ap (λ b. map (letter_in o.places o.start b layout) c.in_ok-messages.messages.items) c.is_read-asks_piece.ensures
    ∙ ap (map (letter_in o.places o.start (is_read c.args.kind) layout)) (c.in_ok-messages.ensures.requests layout.members number)
    ∙ ap (begun local) (c.in-Some.ensures ∙ ap (λ n. layout_in (heard_place o.places n)) c.from.ensures)
    ∙ ap (λ (l : LocalObject). begun l (layout_here l c.args.ask.position)) c.self.view_is
