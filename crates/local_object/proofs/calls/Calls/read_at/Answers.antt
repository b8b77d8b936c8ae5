use Rattle.std.proofs.Common.{◌≡◌, List, Some, length, slice_get, sym, ap, ◌∙◌}
use Rattle.std.proofs.lemmas.Option.{slice_get_read}
use Rattle.call.specs.Call.{OpenCall as Machine}
use Rattle.local_object.specs.Anew.{reading_machine}
use Rattle.local_object.proofs.CarriedCallLemmas.{begun_is, put_distinct, put_is}
use Rattle.local_object.proofs.calls.Calls.read_at.Goals as goal

pub invariant_of-self : goal.invariant_of-self
invariant_of-self c =
    let items = c.self.inside.calls.items in
    let read = c.index.result.now in
    let there : slice_get c.args.self.now c.args.index ≡ Some read =
    ap (λ (calls : List Machine). slice_get calls c.args.index) (sym c.self.view_is)
    ∙ slice_get_read items (length c.args.self.now) c.args.index read (ap length (sym c.self.view_is)) c.requires.within c.index.ensures in
    record {
      distinct = put_distinct items c.args.self.now c.args.index read c.in_ok-self-inside.field-0 c.self.view_is c.requires.within
          c.index.ensures
          (ap (λ (call : Machine). call.id) c.in_ok-self-inside.ensures.call ∙ c.requires.named read there) c.self.invariant.distinct;
    }

pub returns-clause-read : goal.returns-clause-read
returns-clause-read c = λ call at.
    let items = c.self.inside.calls.items in
    let read = c.index.result.now in
    let there : slice_get c.args.self.now c.args.index ≡ Some read =
    ap (λ (calls : List Machine). slice_get calls c.args.index) (sym c.self.view_is)
    ∙ slice_get_read items (length c.args.self.now) c.args.index read (ap length (sym c.self.view_is)) c.requires.within c.index.ensures in
    put_is (λ (m : Machine). reading_machine m c.args.ask.number c.args.ask.position c.args.layout.now) items c.args.self.now c.args.index
    read c.in_ok-self-inside.field-0 call c.self.view_is c.index.ensures
    (c.in_ok-self-inside.ensures.call
    ∙ begun_is read c.args.ask.call c.args.ask.number c.in_ok-kind.kind c.args.ask.kind c.args.ask.position c.args.layout.now
    (c.requires.named read there) c.in_ok-kind.ensures.kind c.requires.kind (c.requires.unsettled read there)) at
