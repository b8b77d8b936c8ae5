use Rattle.std.proofs.Common.{true, false, ◌≤◌, ◌<◌, length, refl, sym, ◌∙◌, arith}
use Rattle.tag.specs.declared.limits.TheConstants.{MOST_OBJECTS}
use Rattle.register.proofs.ListLemmas.{found}
use Rattle.cluster.proofs.CreationLemmas.{is_named, length_objects, name_taken, no_layout_here, long_name}
use Rattle.cluster.proofs.CreationLemmas.{no_step_for_object, many_objects, may_create}
use Rattle.cluster.proofs.LookupLemmas.{objects_of}
use Rattle.cluster.proofs.MoveRefusalLemmas.{IsLayout}
use Rattle.cluster.proofs.cluster.Cluster.may_create.Goals as goal
use Rattle.cluster.proofs.cluster.Cluster.may_create.Goals.{then-self-ge-MOST_STEPS-via-then-self-ge-MOST_STEPS}
use Rattle.cluster.proofs.cluster.Cluster.may_create.Goals.{then-self-ge-MOST_STEPS-via-else-self-ge-MOST_STEPS+then-len-ge-MOST_OBJECTS}

pub returns-then-is_some : goal.returns-then-is_some
returns-then-is_some c = record {
  cause = name_taken c.self.view_is c.args.name.now c.args.id
      (is_named c.self.inside.objects.entries c.args.name.now true
      (sym c.get_index_of.ensures.found ∙ sym c.is_some.ensures ∙ c.if-is_some.true));
}

pub returns-then-id-len : goal.returns-then-id-len
returns-then-id-len c =
    let fresh = is_named c.self.inside.objects.entries c.args.name.now false
    (sym c.get_index_of.ensures.found ∙ sym c.is_some.ensures ∙ c.if-is_some.false) in
    let past : length c.self.inside.layouts.items ≤ c.args.id = omega (arith, c.len.ensures, c.if-id-len.true) in
    record { cause = no_layout_here c.self.view_is c.args.name.now c.args.id fresh refl past }

pub returns-then-name-gt-LONGEST_NAME : goal.returns-then-name-gt-LONGEST_NAME
returns-then-name-gt-LONGEST_NAME c =
    let fresh = is_named c.self.inside.objects.entries c.args.name.now false
    (sym c.get_index_of.ensures.found ∙ sym c.is_some.ensures ∙ c.if-is_some.false) in
    let within : c.args.id < length c.self.inside.layouts.items = omega (arith, c.len.ensures, c.if-id-len.false) in
    let there = found c.self.inside.layouts.items c.args.id within in
    let layout : IsLayout c.self.inside.layouts.items c.args.id there.0 = record { here = there.1 } in
    record { cause = long_name c.self.view_is c.args.name.now c.args.id layout fresh c.if-name-gt-LONGEST_NAME.true }

pub returns-then-self-ge-MOST_STEPS : goal.returns-then-self-ge-MOST_STEPS
returns-then-self-ge-MOST_STEPS c =
    let fresh = is_named c.self.inside.objects.entries c.args.name.now false
    (sym c.get_index_of.ensures.found ∙ sym c.is_some.ensures ∙ c.if-is_some.false) in
    let within : c.args.id < length c.self.inside.layouts.items = omega (arith, c.len.ensures, c.if-id-len.false) in
    let there = found c.self.inside.layouts.items c.args.id within in
    let layout : IsLayout c.self.inside.layouts.items c.args.id there.0 = record { here = there.1 } in
    elim c.then-self-ge-MOST_STEPS.branch [
      | then-self-ge-MOST_STEPS-via-then-self-ge-MOST_STEPS w ↦ record {
        cause = no_step_for_object c.self.view_is c.args.name.now c.args.id layout fresh c.if-name-gt-LONGEST_NAME.false
            w.if-self-ge-MOST_STEPS.true;
      }
      | then-self-ge-MOST_STEPS-via-else-self-ge-MOST_STEPS+then-len-ge-MOST_OBJECTS w ↦
          let many : MOST_OBJECTS ≤ length (objects_of c.self.inside.objects.entries) =
          omega (
            arith,
            length_objects c.self.inside.objects.entries,
            w.len-else-self-ge-MOST_STEPS.ensures.len,
            w.if-len-ge-MOST_OBJECTS.true,
          ) in
          record {
            cause = many_objects c.self.view_is c.args.name.now c.args.id layout fresh c.if-name-gt-LONGEST_NAME.false
                w.if-self-ge-MOST_STEPS.false many;
          }
    ]

pub returns : goal.returns
returns c =
    let fresh = is_named c.self.inside.objects.entries c.args.name.now false
    (sym c.get_index_of.ensures.found ∙ sym c.is_some.ensures ∙ c.if-is_some.false) in
    let within : c.args.id < length c.self.inside.layouts.items = omega (arith, c.len.ensures, c.if-id-len.false) in
    let there = found c.self.inside.layouts.items c.args.id within in
    let layout : IsLayout c.self.inside.layouts.items c.args.id there.0 = record { here = there.1 } in
    let few : length (objects_of c.self.inside.objects.entries) < MOST_OBJECTS =
    omega (
      arith,
      length_objects c.self.inside.objects.entries,
      c.len-else-self-ge-MOST_STEPS.ensures.len,
      c.if-len-ge-MOST_OBJECTS.false,
    ) in
    record {
      cause = may_create c.self.view_is c.args.name.now c.args.id layout fresh c.if-name-gt-LONGEST_NAME.false
          c.if-self-ge-MOST_STEPS.false few;
    }
