use Rattle.std.proofs.Common.{ℕ, ◌+◌, ◌*◌, ◌^◌, ap, ◌∙◌, w64}
use Rattle.std.specs.Int.{to_be_bytes}
use Rattle.node_log.specs.Entry.{form}
use Rattle.node_log.proofs.HeadLemmas.{described_is}
use Rattle.node_log.proofs.head.described.Goals as goal

pub returns : goal.returns
returns c =
    λ body long same.
    described_is body c.to_be_bytes.result c.args.digest
    (c.to_be_bytes.ensures ∙ ap (λ (n : ℕ). to_be_bytes w64 (form * 2 ^ 56 + n)) long) same
