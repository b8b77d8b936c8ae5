use Rattle.std.proofs.Common.{List, ℕ, ◌/◌, ◌%◌, ◌∙◌, ap, sym, get_or, arith, bit_xor}
use Rattle.std.proofs.lemmas.Nat.{xor_lt}
use Rattle.node_log.specs.declared.tables.TheConstants.{BY_ONE}
use Rattle.node_log.specs.Folding.{by_bytes}
use Rattle.node_log.proofs.ShiftLemmas.{after_byte_split}
use Rattle.node_log.proofs.TableLemmas.{looked_up, one}
use Rattle.node_log.proofs.states.after_byte.Goals as goal

pub returns : goal.returns
unfolding by_bytes
returns c =
    let s = c.args.state in
    let b = c.args.byte in
    ap (bit_xor (s / 256))
    (looked_up BY_ONE 0 one c.shifted.result _ (bit_xor (s % 256) b) c.shifted.ensures
    (ap (λ (l : List ℕ). bit_xor (get_or l 0 0) b) c.to_le_bytes-low.ensures)
    (xor_lt 8 (s % 256) b (omega arith) (omega (arith, c.ranges.byte.fits))))
    ∙ sym (after_byte_split s b)
