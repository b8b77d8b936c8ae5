use Rattle.std.proofs.Common.{ℕ, List, Vec, Global, arith, sym, length, ◌≡◌}
use Rattle.std.proofs.lemmas.List.{take_at}
use Rattle.frames.proofs.ReadByteLemmas.{bytes_cut, bytes_filled}
use Rattle.frames.proofs.input.read_bytes.Goals as goal

-- the bytes of a vector
abbrev items : Vec ℕ Global → List ℕ
items bytes = bytes.items

pub returns-then-count-len-clause-exact : goal.returns-then-count-len-clause-exact
returns-then-count-len-clause-exact g c =
    bytes_cut items c.args.len c.in-Ok.count _ _ c.read_full.new.buf
    (omega (arith, c.if-count-len.true, c.len.ensures, c.in_ok-bytes.ensures.len)) c.in-Ok.ensures.bytes
    (c.in-Ok.ensures.end (omega (arith, c.if-count-len.true, c.len.ensures, c.in-Ok.ensures.same, c.deref_mut.ensures.len)))

pub returns-else-count-len-clause-exact : goal.returns-else-count-len-clause-exact
returns-else-count-len-clause-exact g c =
    let all : length c.read_full.new.buf ≡ c.in_ok-bytes.bytes.len = omega (arith, c.in-Ok.ensures.same, c.deref_mut.ensures.len) in
    bytes_filled (λ (b : List ℕ). b) c.args.len c.in-Ok.count _ _ c.read_full.new.buf _
    (omega (arith, all, c.in_ok-bytes.ensures.len))
    (omega (arith, c.if-count-len.false, c.len.ensures, c.in_ok-bytes.ensures.len))
    (sym (take_at c.read_full.new.buf _ c.in_ok-bytes.bytes.len all)) c.in-Ok.ensures.bytes
