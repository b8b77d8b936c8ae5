-- Two quorums of a lawful layout have a member in common.
use Rattle.std.proofs.Common.{◌≡◌, ℕ, true, List}
use Rattle.layout.specs.Layout.{Layout, IsLawful}
use Rattle.layout.specs.Quorum.{has, IsQuorum, Share}
use Rattle.layout.proofs.QuorumLemmas as layouts

-- any two quorums of a layout share k members
pub quorums_share : (layout : Layout) (xs ys : List ℕ) → IsLawful layout → IsQuorum layout xs → IsQuorum layout ys →
    Share xs ys layout.k
quorums_share layout xs ys lawful p q = layouts.quorums_share layout xs ys p q

pub quorums_meet : (layout : Layout) (xs ys : List ℕ) → IsLawful layout → IsQuorum layout xs → IsQuorum layout ys →
    (i : ℕ) × (has xs i ≡ true) × (has ys i ≡ true)
quorums_meet layout xs ys lawful p q = layouts.quorums_meet layout xs ys lawful.some p q
