-- Where only messages of other calls stand, none is a choice.
use Rattle.std.proofs.Common.{◌≡◌, ◌≢◌, ℕ, zero, suc, ◌+◌, ◌==◌, ◌&&◌, Bool, true, false, cond, List, [], ◌∷◌}
use Rattle.std.proofs.Common.{drop, refl, sym, ap, ◌∙◌, arith}
use Rattle.std.proofs.lemmas.Bool.{eqb-true}
use Rattle.mail.specs.Bounds.{AreOthers}
use Rattle.mail.specs.declared.message.Message.{Message}
use Rattle.record.specs.Records.{Object}
use Rattle.cluster.specs.Cluster.{Cluster}
use Rattle.cluster.specs.Causes.{can_handle}
use Rattle.driver.specs.Choices.{places_passing, is_choice, choices}

-- the places of the call's messages are behind them
module _ (test : Message → Bool) (call : ℕ) (own : (m : Message) → m.call ≢ call → test m ≡ false) where
  places_behind : (from base : ℕ) (mail : List Message) → AreOthers call from mail
      → places_passing test base mail ≡ places_passing test (base + from) (drop from mail)
  places_behind zero base mail others = ap (λ n. places_passing test n mail) (let e : base ≡ base + 0 = omega arith in e)
  places_behind (suc from) base [] others = absurd others
  places_behind (suc from) base (m ∷ mail) others =
      ap (λ b. cond b (base ∷ places_passing test (suc base) mail) (places_passing test (suc base) mail)) (own m others.0)
      ∙ places_behind from (suc base) mail others.1
      ∙ ap (λ n. places_passing test n (drop from mail)) (let e : suc base + from ≡ base + suc from = omega arith in e)

not_choice : (cluster : Cluster) (call : ℕ) (object : Object) (m : Message) → m.call ≢ call → is_choice cluster call object m ≡ false
not_choice cluster call object m other = go (m.call == call) refl
  where
    go : (b : Bool) → (m.call == call) ≡ b → (b && can_handle cluster object m m.body) ≡ false
    go true e = absurd (other (eqb-true m.call call e))
    go false e = refl

pub choices_behind : (cluster : Cluster) (call from : ℕ) (object : Object) → AreOthers call from object.mail
    → places_passing (is_choice cluster call object) from (drop from object.mail) ≡ choices cluster call object
choices_behind cluster call from object others =
    ap (λ n. places_passing (is_choice cluster call object) n (drop from object.mail)) (let e : from ≡ 0 + from = omega arith in e)
    ∙ sym (places_behind (is_choice cluster call object) call (not_choice cluster call object) from 0 object.mail others)
