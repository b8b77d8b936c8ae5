use Rattle.std.proofs.Common.{None, refl}
use Rattle.register.proofs.FoundCallLemmas.{is_found, wanting, below_those, few_those, caused, want_at_is}
use Rattle.register.proofs.register.Register.want.Goals as goal

pub want_of-requires : goal.want_of-requires
want_of-requires c =
    let f = is_found c.self.invariant c.in_ok-index.ensures.place c.deref.ensures.value c.index.ensures in
    record { below = below_those f c.deref-2.ensures.value; count = few_those c.self.invariant c.deref-2.ensures.value }

pub returns : goal.returns
returns c =
    let f = is_found c.self.invariant c.in_ok-index.ensures.place c.deref.ensures.value c.index.ensures in
    record {
      want = rw (← c.self.view_is) (want_at_is (wanting f c.want_of.ensures c.deref-2.ensures.value refl));
      cause = rw (← c.self.view_is) (caused f (λ call. None));
    }
