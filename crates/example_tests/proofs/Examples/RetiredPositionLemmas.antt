-- A write, a move to another server, the first position retired, and a read from the second.
use Rattle.std.proofs.Common.{◌≡◌, ℕ, zero, suc, sym, ◌∙◌, List, [], ◌∷◌, ◌++◌, Some, refl, ap, arith}
use Rattle.bank.specs.declared.kind.Kind.TheVariants.{Query, Fetch}
use Rattle.bank.specs.declared.reply.Answer.TheVariants as answer
use Rattle.record.specs.Records.{IsNewId, Object}
use Rattle.record.specs.Preconditions.{MaySettle}
use Rattle.record.specs.Steps.{Step, run}
use Rattle.record.specs.Steps.Step.{CallRead, Advance, Settle, AnswerCall, Serve, Take, Retire}
use Rattle.example_tests.specs.RecordExamples.{whole, retire_entries}
use Rattle.example_tests.proofs.Examples.RunPartLemmas.{Goes, Leads, also, goes_on, heard, hears, id_or, letter}
use Rattle.example_tests.proofs.Examples.RunPartLemmas.{reply_of, settles}
use Rattle.example_tests.proofs.Examples.StoredBankLemmas.{first_tag, stored_greatest, stored_piece}
use Rattle.example_tests.proofs.Examples.WriteAndReadLemmas.{start}
use Rattle.example_tests.proofs.Examples.WriteMoveReadLemmas.{moved, moves, to_move}

-- the old position is retired, and the read asks the new one
abbrev to_base_query : List Step
to_base_query = Retire ∷ CallRead 3 ∷ Serve 0 ∷ Take 0 ∷ Advance 2 ∷ Serve 0 ∷ []

abbrev to_base_fetch : List Step
to_base_fetch = Take 0 ∷ Advance 2 ∷ Serve 0 ∷ []

abbrev to_base_end : List Step
to_base_end = Take 0 ∷ Settle 2 (65 ∷ []) ∷ Advance 2 ∷ Serve 0 ∷ Take 0 ∷ AnswerCall 2 ∷ []

abbrev base_found : Object
base_found = heard to_base_query 39 moved (reply_of 3 2 1 Query 44 (answer.Greatest first_tag))

abbrev base_letter : Object
base_letter = heard to_base_fetch 45 base_found (reply_of 3 3 1 (Fetch first_tag) 47 (answer.Piece (Some (letter 0))))

both_none : (a b : ℕ) → a ≡ 0 → b ≡ 0 → a ≡ b
both_none a b e f = e ∙ sym f

-- the calls have the ids 1 and 2
retired_new : IsNewId (run whole (Retire ∷ []) 39 moved) 3
retired_new zero call at same = absurd (let e : 1 ≡ call.id = ap (λ o. id_or o) at in omega (arith, e, same))
retired_new (suc zero) call at same = absurd (let e : 2 ≡ call.id = ap (λ o. id_or o) at in omega (arith, e, same))
retired_new (suc (suc index)) call at same = absurd (cc)

base_asks : Leads to_base_query 39 moved base_found
base_asks =
    hears to_base_query 39 moved (reply_of 3 2 1 Query 44 (answer.Greatest first_tag))
    (ap (λ tag. reply_of 3 2 1 Query 44 (answer.Greatest tag)) (stored_greatest 0 19 30 33))
    (also (38, record { index = 1; call = _; at = refl; kind = refl; source = both_none _ _ refl refl; was = refl })
    (also retired_new (also (_, (refl, (_, refl))) (also (_, (refl, (_, _, refl))) (also (_, (refl, refl))
    (also (_, (refl, (_, refl))) tt))))))

base_fetches : Leads to_base_fetch 45 base_found base_letter
base_fetches =
    hears to_base_fetch 45 base_found (reply_of 3 3 1 (Fetch first_tag) 47 (answer.Piece (Some (letter 0))))
    (ap (λ piece. reply_of 3 3 1 (Fetch first_tag) 47 (answer.Piece piece)) (stored_piece 0 19 30 33))
    (also (_, (refl, (_, _, refl))) (also (_, (refl, refl)) (also (_, (refl, (_, refl))) tt)))

base_settles : MaySettle whole (run whole (Take 0 ∷ []) 48 base_letter) 2 (65 ∷ [])
base_settles = settles (run whole (Take 0 ∷ []) 48 base_letter) 2 (refl, refl) refl refl refl

base_ends : Goes to_base_end 48 base_letter retire_entries
base_ends = record {
  gives = refl;
  may =
      also (_, (refl, (_, _, refl))) (also base_settles (also (_, (refl, refl)) (also (_, (refl, (_, refl))) (also (_, (refl, (_, _, refl)))
      (also (_, (refl, refl)) tt)))));
}

pub base_goes : Goes (to_move ++ (to_base_query ++ (to_base_fetch ++ to_base_end))) 3 start retire_entries
base_goes = goes_on moves (goes_on base_asks (goes_on base_fetches base_ends refl) refl) refl
