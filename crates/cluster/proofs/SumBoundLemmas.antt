-- How large a server's part of the objects' sums is, and what waits for one object.
use Rattle.std.proofs.Common.{◌≡◌, ℕ, zero, suc, ◌+◌, ◌*◌, ◌≤◌, ◌<◌, List, [], ◌∷◌, length, ap, arith}
use Rattle.std.specs.List.{AllByRecursion}
use Rattle.std.proofs.lemmas.List.Sums.{sum_by-cons}
use Rattle.tag.specs.declared.limits.TheConstants.{LONGEST_VALUE, MOST_MESSAGES}
use Rattle.encoder.specs.Fragment.{fragment}
use Rattle.mail.specs.declared.message.Message.{Message}
use Rattle.mail.specs.Message.{message_bytes}
use Rattle.mail.specs.Mail.{mail_bytes}
use Rattle.record.specs.Accounts.{member_sum}
use Rattle.record.specs.Accounts as of
use Rattle.record.specs.Records.{Object}
use Rattle.soundness.specs.Sound.{IsSound}
use Rattle.register.proofs.PieceLengthLemmas.{mail_short}
use Rattle.cluster.specs.Accounts.{object_sum}
use Rattle.cluster.specs.Cluster.{Cluster}
use Rattle.cluster.specs.Kept.{IsKeptCluster}
use Rattle.cluster.proofs.ServerTotalLemmas.{objects_total}

-- one server's part of what all servers store
member_past : (f : ℕ → ℕ) (from ahead count : ℕ) → ahead < count → f (from + ahead) ≤ member_sum f from count
member_past f from ahead zero high = absurd (omega (arith, high))
member_past f from zero (suc count) high = let here : f (from + 0) ≡ f from = ap f (omega arith) in omega (arith, here)
member_past f from (suc ahead) (suc count) high =
    let rest = member_past f (suc from) ahead count (omega (arith, high)) in
    let here : f (from + suc ahead) ≡ f (suc from + ahead) = ap f (omega arith) in
    omega (arith, rest, here)

pub member_part : (f : ℕ → ℕ) (member count : ℕ) → member < count → f member ≤ member_sum f 0 count
member_part f member count high =
    let part = member_past f 0 member count high in
    let here : f (0 + member) ≡ f member = ap f (omega arith) in
    omega (arith, part, here)

pub stored_part : {cluster : Cluster} {bytes count : ℕ} → IsKeptCluster cluster bytes count → (server : ℕ) →
    server < length cluster.servers → object_sum (λ o. of.stored o.state.object server) cluster.objects ≤ bytes
stored_part {cluster} kept server there =
    let part = member_part (λ s. object_sum (λ o. of.stored o.state.object s) cluster.objects) server (length cluster.servers) there in
    let all = objects_total (length cluster.servers) cluster.counter cluster.objects kept.objects in
    omega (arith, part, all, kept.stored)

-- what waits for one object
bytes_few : (messages : List Message) → AllByRecursion (λ m. message_bytes m ≤ LONGEST_VALUE) messages →
    mail_bytes messages ≤ length messages * LONGEST_VALUE
bytes_few [] short = omega arith
bytes_few (m ∷ ms) short =
    omega (arith, sum_by-cons message_bytes m ms, bytes_few ms short.1, short.0)

pub waiting_few : (object : Object) (step : ℕ) → IsSound fragment object step → length object.mail ≤ MOST_MESSAGES →
    mail_bytes object.mail ≤ MOST_MESSAGES * LONGEST_VALUE
waiting_few object step sound few =
    omega (arith, bytes_few object.mail (mail_short object step sound), few)
