use Rattle.std.proofs.Common.{◌≡◌, ℕ, List, [], ◌∷◌, ◌++◌, length, codes, arith, rules, sym, ap, ap₂}
use Rattle.std.proofs.Output.{has_written_append, has_written_of_eq}
use Rattle.std.specs.Fmt.{HasWritten, decimal}
use Rattle.std.specs.List.{flat_map, range_with_len}
use Rattle.cluster.specs.Accounts.{waiting_bytes, stored_all}
use Rattle.printing.specs.Words.{in_words}
use Rattle.player.specs.AccountLine.{server_text}
use Rattle.player.proofs.RangeTextLemmas.{flat_map-range_more}
use Rattle.player.proofs.account_line.AccountLineDisplay.fmt.Goals as goal

-- what all servers store, and what waits in messages
abbrev totals_text : (stored mailed : ℕ) → List ℕ
totals_text stored mailed = in_words (codes "stored" ∷ decimal stored ∷ codes "mailed" ∷ decimal mailed ∷ [])

pub loop-server-preserved : goal.loop-server-preserved
loop-server-preserved g c = λ plain.
    let server = c.loop-server.server-counter in
    has_written_of_eq _ _ _ _ _ (sym (flat_map-range_more (server_text c.args.self.now.0.now) server))
    (has_written_append _ _ _ _ _ _ (c.loop-server.invariant plain)
    (has_written_of_eq _ _ _ _ _
    (ap (λ (bytes : ℕ). codes " " ++ decimal server ++ (codes ":" ++ decimal bytes)) c.stored.ensures) (search rules)))

pub returns-clause-writes : goal.returns-clause-writes
returns-clause-writes g c = λ plain _.
    let cluster = c.args.self.now.0.now in
    let totals = totals_text (stored_all cluster) (waiting_bytes cluster) in
    let head : HasWritten g.W.Write.write_str_gives c.args.f.now totals c.write.new.self =
    has_written_of_eq _ _ _ _ _ (ap₂ (λ (s m : ℕ). totals_text s m) c.stored_all.ensures.value c.mailed.ensures.value) (search rules) in
    let all : c.loop-server.server-counter ≡ length cluster.servers = omega (arith, c.servers-server-end.ensures) in
    has_written_of_eq _ _ _ _ _ (ap (λ (n : ℕ). totals ++ flat_map (server_text cluster) (range_with_len 0 n)) all)
    (has_written_append _ _ _ _ _ _ head (c.loop-server.invariant head.plain))
