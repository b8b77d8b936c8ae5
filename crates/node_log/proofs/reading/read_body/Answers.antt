use Rattle.std.proofs.Common.{◌≡◌, ◌<◌, ◌∙◌, subst, arith, List, ℕ, length}
use Rattle.std.specs.Io.KnownBytes.{prepend_known}
use Rattle.std.proofs.lemmas.Result.{err_from_is_err_and}
use Rattle.node_log.specs.Parts.{IsBodyOf, IsDamagedBody, EndsOrIsDamaged}
use Rattle.node_log.proofs.ReadEntryLemmas.{read_short_body, read_whole, read_wrong_body, unread}
use Rattle.node_log.proofs.reading.read_body.Goals as goal

pub returns-in_err-body : goal.returns-in_err-body
returns-in_err-body g c =
    let p = err_from_is_err_and c.from_residual.result c.from_residual.ensures.1 in
    let left = g.R.Read.remaining in
    rw (p.1, p.2) (unread c.args.chain.state (prepend_known c.args.head.now (left c.args.reader.now))
    (left c.read_up_to.new.reader) c.in_err-body.field-0.0 c.in_err-body.ensures.fails)

pub returns-then-len-length : goal.returns-then-len-length
returns-then-len-length g c =
    let body = c.in_ok-body.body in
    let short : length c.in_ok-body.body.items < c.args.length =
    omega (arith, c.if-len-length.true, c.len.ensures, c.in_ok-body.body.ok.0) in
    read_short_body c.args.chain.state _ _ c.args.head.now body.items c.requires.head
    (subst (λ (n : ℕ). length body.items < n) c.requires.length short) c.in_ok-body.ensures.bytes (c.in_ok-body.ensures.end short)

pub returns-in-Ok : goal.returns-in-Ok
returns-in-Ok g c =
    let left = g.R.Read.remaining in
    let head = c.args.head.now in
    let chain = c.args.chain.state in
    read_whole chain (left c.args.reader.now) (left c.read_up_to.new.reader) head c.in_ok-body.body.items c.in-Ok.entry
    (subst (λ (b : List ℕ). IsBodyOf chain head b c.in-Ok.entry) c.deref.ensures.value c.in-Ok.ensures) c.in_ok-body.ensures.bytes

pub returns-in-Err-Damaged : goal.returns-in-Err-Damaged
returns-in-Err-Damaged g c =
    let left = g.R.Read.remaining in
    let mid = left c.read_up_to.new.reader in
    let head = c.args.head.now in
    let body = c.in_ok-body.body.items in
    let damage = c.in-Err-Damaged.damage in
    let result = c.end_or_damage.result in
    let long : length c.in_ok-body.body.items ≡ c.args.length =
    omega (arith, c.if-len-length.false, c.len.ensures, c.in_ok-body.body.ok.0, c.in_ok-body.ensures.fits) in
    let wrong = rw c.in-Err-Damaged.field-0-is at c.in-Err-Damaged.ensures in
    read_wrong_body c.args.chain.state (left c.args.reader.now) mid (left c.end_or_damage.new.reader) head body damage result
    c.requires.head (long ∙ c.requires.length)
    (subst (λ (b : List ℕ). IsDamagedBody head b damage) c.deref.ensures.value wrong)
    c.in_ok-body.ensures.bytes
    (subst (λ (b : List ℕ). EndsOrIsDamaged b damage mid result) c.deref-in-Err-Damaged.ensures.value c.end_or_damage.ensures)
