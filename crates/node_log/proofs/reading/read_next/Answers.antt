use Rattle.std.proofs.Common.{rules, subst, arith, take_all}
use Rattle.std.specs.Io.KnownBytes.{Consumes}
use Rattle.node_log.proofs.ReadEntryLemmas.{read_short_head, read_on, read_wrong_head}
use Rattle.node_log.proofs.reading.read_next.Goals as goal

pub returns-then-count-lt-HEAD_LENGTH : goal.returns-then-count-lt-HEAD_LENGTH
returns-then-count-lt-HEAD_LENGTH g c =
    read_short_head c.args.chain.state _ _ c.read_full.new.buf c.in_ok-count.count c.in_ok-count.ensures.bytes (search rules) (search rules)

pub returns-in-Some : goal.returns-in-Some
returns-in-Some g c =
    let left = g.R.Read.remaining in
    let old = left c.args.reader.now in
    let mid = left c.read_full.new.reader in
    let buf = c.read_full.new.buf in
    let count = c.in_ok-count.count in
    let all = take_all count buf (omega (arith, c.read_full.ensures.same, c.if-count-lt-HEAD_LENGTH.false)) in
    read_on c.args.chain.state old mid (left c.read_body.new.reader) buf c.read_body.result
    (subst (Consumes old mid) all c.in_ok-count.ensures.bytes)
    c.read_body.ensures

pub returns-in-None : goal.returns-in-None
returns-in-None g c =
    let left = g.R.Read.remaining in
    let old = left c.args.reader.now in
    let mid = left c.read_full.new.reader in
    let buf = c.read_full.new.buf in
    let count = c.in_ok-count.count in
    let all = take_all count buf (omega (arith, c.read_full.ensures.same, c.if-count-lt-HEAD_LENGTH.false)) in
    read_wrong_head c.args.chain.state old mid (left c.end_or_damage.new.reader) buf c.end_or_damage.result c.read_full.ensures.same
    c.in-None.ensures
    (subst (Consumes old mid) all c.in_ok-count.ensures.bytes) c.end_or_damage.ensures
