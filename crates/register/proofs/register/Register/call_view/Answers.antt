use Rattle.std.proofs.Common.{length, Some, sym, ap, ◌∙◌, refl, arith}
use Rattle.record.specs.Journals.{stage_tag}
use Rattle.record.specs.Wants.{fetched_or}
use Rattle.register.proofs.CallViewLemmas.{replies_few, view_is}
use Rattle.register.proofs.FoundCallLemmas.{is_found, wanting, below_those, few_those, caused}
use Rattle.register.proofs.register.Register.call_view.Goals as goal

pub overflow_cast-result : goal.overflow_cast-result
overflow_cast-result c =
    let f = is_found c.self.invariant c.in_ok-index.ensures.place c.deref.ensures.value c.index-tracked.ensures in
    omega (arith, replies_few f (sym c.current-phase.ensures), ap length c.replies.ensures)

pub want_of-requires : goal.want_of-requires
want_of-requires c =
    let f = is_found c.self.invariant c.in_ok-index.ensures.place c.deref.ensures.value c.index-tracked.ensures in
    record { count = few_those c.self.invariant c.deref-2.ensures.value; below = below_those f c.deref-2.ensures.value }

pub returns : goal.returns
returns c =
    let f = is_found c.self.invariant c.in_ok-index.ensures.place c.deref.ensures.value c.index-tracked.ensures in
    let w = wanting f c.want_of.ensures c.deref-2.ensures.value refl in
    record {
      view = rw (← c.self.view_is)
          (view_is f (sym c.current-phase.ensures) w
          ∙ (λ j. Some (record {
            kind = sym c.operation.ensures j;
            number = sym c.number.ensures j;
            phase = sym c.kind.ensures j;
            position = sym c.position.ensures j;
            replies = length (sym c.replies.ensures j);
            quorum = sym c.quorum.ensures j;
            tag = sym (c.viewed_tag.ensures ∙ (λ i. fetched_or (c.kind-2.ensures i) (stage_tag (c.stage.ensures i)))) j;
            want = c.want_of.result;
          })));
      cause = rw (← c.self.view_is) (caused f _);
    }
