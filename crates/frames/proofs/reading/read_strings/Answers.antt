use Rattle.std.proofs.Common.{List, ℕ, Vec, Global}
use Rattle.std.proofs.lemmas.Result.{err_from_is_err_and}
use Rattle.frames.proofs.ReadStringLemmas.{strings_none, strings_pushed, strings_err, strings_done}
use Rattle.frames.proofs.reading.read_strings.Goals as goal

-- the strings of a vector
abbrev items : Vec (List ℕ) Global → List (List ℕ)
items strings = strings.items

pub loop-init : goal.loop-init
loop-init g c = strings_none c.args.count c.in_ok-strings.strings.items _ c.in_ok-strings.ensures.items

pub returns-in_err-string-clause-exact : goal.returns-in_err-string-clause-exact
returns-in_err-string-clause-exact g c =
    let p = err_from_is_err_and c.from_residual-in_err-string.result c.from_residual-in_err-string.ensures.1 in
    rw (p.1, p.2) (strings_err items c.args.count c.loop.strings.items c.loop.counter _ _ _ c.in_err-string.field-0.0
    c.loop-test.true c.loop.invariant.2 c.in_err-string.ensures.exact)

pub loop-preserved : goal.loop-preserved
loop-preserved g c =
    strings_pushed c.args.count c.loop.counter c.loop.strings.items c.push.new.self.items c.in_ok-string.string _ _ _
    c.in_ok-push.ensures.items c.loop-test.true c.loop.invariant.0 c.loop.invariant.1 c.in_ok-string.ensures.short
    c.loop.invariant.2 c.in_ok-string.ensures.exact

pub returns-clause-exact : goal.returns-clause-exact
returns-clause-exact g c =
    strings_done (λ (l : List (List ℕ)). l) c.args.count c.loop.strings.items c.loop.counter _ _ c.loop-test.false c.loop.invariant.2
