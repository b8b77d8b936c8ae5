use Rattle.std.proofs.Common.{◌≡◌, ◌+◌, suc, length, take, get_or, set, refl, sym, ap, ◌∙◌, arith, add-one}
use Rattle.std.proofs.lemmas.Option.{slice_get_read}
use Rattle.bank.specs.Bytes.{bank_bytes}
use Rattle.bank.specs.Collect.{retired_bank}
use Rattle.register.specs.Position.{banks_bytes}
use Rattle.register.proofs.EmptiedBankLemmas.{dropped_so_far, next_is, next_dropped, next_freed, first_least, all_dropped, all_freed}
use Rattle.register.proofs.position.retire_all.Goals as goal

pub loop-member-preserved : goal.loop-member-preserved
loop-member-preserved c =
    let old = c.args.banks.now in
    let i = c.loop-member.member in
    let bank = c.index-banks-member.result in
    let read : bank ≡ get_or old i bank =
    c.index-banks-member.is ∙ ap (λ bs. get_or bs i bank) c.loop-member.invariant.dropped
    ∙ next_is (λ bank. retired_bank bank c.args.now) old i bank in
    let at = slice_get_read old (length old) i bank refl c.loop-member-test.true read in
    let most = first_least old (suc i) in
    let more = next_freed old i bank at in
    let few = c.requires.room in
    let same = ap bank_bytes c.index-banks-member.is in
    let freed = c.retire-freed.ensures.freed (omega (arith, most, more, few, same)) ∙ sym same in
    let so_far = c.loop-member.invariant.freed in
    record {
      dropped = ap (λ bs. set bs i c.retire-freed.new.self) c.loop-member.invariant.dropped
          ∙ ap (set (dropped_so_far (λ bank. retired_bank bank c.args.now) old i) i)
          (c.retire-freed.ensures.bank ∙ sym (ap (λ bank. retired_bank bank c.args.now) c.index-banks-member.is))
          ∙ next_dropped (λ bank. retired_bank bank c.args.now) old i bank at
          ∙ ap (dropped_so_far (λ bank. retired_bank bank c.args.now) old) (sym (add-one i));
      freed = ap (λ n. n + c.retire-freed.result) so_far ∙ ap (λ n. banks_bytes (take i old) + n) freed ∙ sym more
          ∙ ap (λ n. banks_bytes (take n old)) (sym (add-one i));
    }

pub overflow_add-freed : goal.overflow_add-freed
overflow_add-freed c =
    let old = c.args.banks.now in
    let i = c.loop-member.member in
    let bank = c.index-banks-member.result in
    let read : bank ≡ get_or old i bank =
    c.index-banks-member.is ∙ ap (λ bs. get_or bs i bank) c.loop-member.invariant.dropped
    ∙ next_is (λ bank. retired_bank bank c.args.now) old i bank in
    let at = slice_get_read old (length old) i bank refl c.loop-member-test.true read in
    let most = first_least old (suc i) in
    let more = next_freed old i bank at in
    let few = c.requires.room in
    let same = ap bank_bytes c.index-banks-member.is in
    let freed = c.retire-freed.ensures.freed (omega (arith, most, more, few, same)) ∙ sym same in
    omega (arith, c.loop-member.invariant.freed, freed, most, more, few)

pub returns : goal.returns
returns c =
    let old = c.args.banks.now in
    let end : c.loop-member.member ≡ length old = omega (arith, c.loop-member-test.false, c.loop-member.auto.member-end) in
    record {
      banks = c.loop-member.invariant.dropped ∙ ap (dropped_so_far (λ bank. retired_bank bank c.args.now) old) end
          ∙ all_dropped (λ bank. retired_bank bank c.args.now) old;
      freed = c.loop-member.invariant.freed ∙ ap (λ n. banks_bytes (take n old)) end ∙ all_freed old;
    }
