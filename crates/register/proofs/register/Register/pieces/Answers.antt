use Rattle.std.proofs.Common.{[], ◌≡◌, ℕ, suc, ◌+◌, length, take, None, Some, sym, ap, subst, ◌∙◌, inl, refl, arith, rules, Vec, Global}
use Rattle.std.proofs.Common.{vec_len}
use Rattle.piece.specs.declared.piece.Piece.{Piece}
use Rattle.register.specs.Coding.{pieces_below, piece_by}
use Rattle.register.proofs.FoundCallLemmas.{is_found, wanting, below_those, few_those, current_again, not_settle}
use Rattle.register.proofs.LeastPointLemmas.{take_none, least_pushed, least_full, pieces_cause_is, pieces_are}
use Rattle.register.proofs.ListLemmas.{length_push}
use Rattle.register.proofs.SentPieceLemmas.{for_memory}
use Rattle.register.proofs.register.Register.pieces.Goals as goal
use Rattle.register.proofs.register.Register.pieces.Goals.{then-len-from+in_ok-clone+in_ok-push, else-len-from}

pub want_of-requires : goal.want_of-requires
want_of-requires c =
    let f = is_found c.self.invariant c.in_ok-index.ensures.place c.deref.ensures.value c.index.ensures in
    record { count = few_those c.self.invariant c.deref-2.ensures.value; below = below_those f c.deref-2.ensures.value }

pub returns-in_default : goal.returns-in_default
returns-in_default c =
    let f = is_found c.self.invariant c.in_ok-index.ensures.place c.deref.ensures.value c.index.ensures in
    let w = wanting f c.want_of.ensures c.deref-2.ensures.value refl in
    record {
      pieces = tt;
      cause = inl (rw (← c.self.view_is)
          (pieces_cause_is w ∙ not_settle c.want_of.result None c.in_default.not-Settle c.in_default.not-Again));
    }

pub returns-in-Again : goal.returns-in-Again
returns-in-Again c =
    let f = is_found c.self.invariant c.in_ok-index.ensures.place c.deref.ensures.value c.index.ensures in
    let w = wanting f c.want_of.ensures c.deref-2.ensures.value c.in-Again.is in
    record { pieces = tt; cause = inl (rw (← c.self.view_is) (pieces_cause_is w)) }

pub returns-in_err-pieces-clause-cause : goal.returns-in_err-pieces-clause-cause
returns-in_err-pieces-clause-cause c =
    let f = is_found c.self.invariant c.in_ok-index.ensures.place c.deref.ensures.value c.index.ensures in
    let w = wanting f c.want_of.ensures c.deref-2.ensures.value c.in-Settle.is in
    for_memory _ c.from_residual-in_err-pieces.result (rw (← c.self.view_is) (pieces_cause_is w)) (search rules)

pub loop-member-init : goal.loop-member-init
loop-member-init c = (
  c.in_ok-pieces.ensures.items ∙ sym (take_none {X = Piece} c.in-Settle.k [] refl),
  c.in_ok-pieces.ensures.len
      ∙ sym (ap length c.in_ok-pieces.ensures.items),
)

pub returns-in_err-clone-clause-cause : goal.returns-in_err-clone-clause-cause
returns-in_err-clone-clause-cause c =
    let f = is_found c.self.invariant c.in_ok-index.ensures.place c.deref.ensures.value c.index.ensures in
    let w = wanting f c.want_of.ensures c.deref-2.ensures.value c.in-Settle.is in
    for_memory _ c.from_residual-in_err-clone.result (rw (← c.self.view_is) (pieces_cause_is w)) (search rules)

pub returns-in_err-push-clause-cause : goal.returns-in_err-push-clause-cause
returns-in_err-push-clause-cause c =
    let f = is_found c.self.invariant c.in_ok-index.ensures.place c.deref.ensures.value c.index.ensures in
    let w = wanting f c.want_of.ensures c.deref-2.ensures.value c.in-Settle.is in
    for_memory _ c.from_residual-in_err-push.result (rw (← c.self.view_is) (pieces_cause_is w)) (search rules)

pub loop-member-preserved : goal.loop-member-preserved
loop-member-preserved c =
    let member = c.loop-member.member in
    let k = c.in-Settle.k in
    let replies = c.current-phase.result.now.replies in
    let old = c.loop-member.pieces in
    let one : suc member ≡ member + 1 = omega arith in
    let Kept : Vec Piece Global → ℕ → Type 0 = λ v m. (v.items ≡ take k (pieces_below replies m)) × (vec_len v ≡ length v.items) in
    subst (λ m. Kept c.if-len-from.pieces m) one
    (elim c.if-len-from.branch [
      | then-len-from+in_ok-clone+in_ok-push w ↦
          subst (λ v. Kept v (suc member)) (sym w.pieces-is) (
            w.in_ok-push.ensures.items
                ∙ least_pushed k member replies old.items w.in_ok-clone.field-0 c.loop-member.invariant.0
                (omega (arith, c.loop-member.invariant.1, w.if-len-from.true, c.len.ensures, c.from-in-loop-member.ensures))
                ((λ j. Some (record {
                  point = w.in_ok-clone.ensures.cases.0 j;
                  len = w.in_ok-clone.ensures.cases.1.0 j;
                  bytes = w.in_ok-clone.ensures.cases.1.1 j;
                }))
                ∙ c.in-Some.ensures ∙ ap (λ rs. piece_by rs member) c.replies.ensures),
            (let pushed : length w.push.new.self.items ≡ suc (length old.items) =
                ap length w.in_ok-push.ensures.items ∙ length_push old.items w.in_ok-clone.field-0 in
                omega (arith, pushed, w.in_ok-push.ensures.len, c.loop-member.invariant.1)),
          )
      | else-len-from w ↦
          subst (λ v. Kept v (suc member)) (sym w.pieces-is) (
            least_full k member replies old.items c.loop-member.invariant.0
                (omega (arith, c.loop-member.invariant.1, w.if-len-from.false, c.len.ensures, c.from-in-loop-member.ensures)),
            c.loop-member.invariant.1,
          )
    ])

pub returns : goal.returns
returns c =
    let f = is_found c.self.invariant c.in_ok-index.ensures.place c.deref.ensures.value c.index.ensures in
    let w = wanting f c.want_of.ensures c.deref-2.ensures.value c.in-Settle.is in
    let members = c.current-phase.result.now.members in
    let end : c.loop-member.member ≡ members =
    omega (arith, c.loop-member-test.false, c.loop-member.auto.member-end, c.members-member-end.ensures) in
    record {
      pieces = rw (← c.self.view_is)
          (c.loop-member.invariant.0 ∙ ap (λ n. take c.in-Settle.k (pieces_below c.current-phase.result.now.replies n)) end
          ∙ sym (pieces_are w (current_again f c.index-2.ensures c.current-phase.ensures)));
      cause = rw (← c.self.view_is) (pieces_cause_is (wanting f c.want_of.ensures c.deref-2.ensures.value c.in-Settle.is));
    }
