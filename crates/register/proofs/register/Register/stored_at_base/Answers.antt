use Rattle.std.proofs.Common.{ap, ◌∙◌, arith}
use Rattle.register.proofs.StepInvariantLemmas.{base_within}
use Rattle.register.proofs.StoredBytesLemmas.{base_stored, layout_at_lawful, part_of}
use Rattle.register.specs.State.{State}
use Rattle.record.specs.Accounts.{base_bytes_of}
use Rattle.register.proofs.register.Register.stored_at_base.Goals as goal

pub index-requires : goal.index-requires
index-requires c = let within = base_within _ c.self.invariant in omega (arith, within)

pub stored-requires : goal.stored-requires
stored-requires c =
    let within = base_within _ c.self.invariant in
    let part = part_of c.args.server c.self.inside.positions.items c.self.inside.base c.index.result.now within c.index.ensures
    c.self.invariant.limits.stored in
    record {
      lawful = layout_at_lawful c.self.inside.positions.items c.self.inside.base c.index.result.now within c.index.ensures
          c.self.invariant.sound.legal.layouts;
      room = omega (arith, part);
    }

pub returns : goal.returns
returns c =
    let within = base_within _ c.self.invariant in
    let part = part_of c.args.server c.self.inside.positions.items c.self.inside.base c.index.result.now within c.index.ensures
    c.self.invariant.limits.stored in
    let is = c.stored.ensures in
    record {
      value = c.stored.ensures ∙ base_stored _ c.args.server c.index.result.now c.self.invariant within c.index.ensures
          ∙ ap (λ (s : State). base_bytes_of s.object c.args.server) c.self.view_is;
      within = omega (arith, part, is);
    }
