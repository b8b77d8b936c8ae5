-- A write and a read with one member.
use Rattle.std.proofs.Common.{◌≡◌, zero, suc, inl, List, [], ◌∷◌, ◌++◌, Some, None, refl, ap, arith}
use Rattle.tag.specs.Tag.{opening_tag}
use Rattle.bank.specs.declared.kind.Kind.TheVariants.{Query, Fetch}
use Rattle.bank.specs.declared.reply.Answer.TheVariants as answer
use Rattle.record.specs.Records.{IsNewId, Object}
use Rattle.record.specs.Preconditions.{MaySettle}
use Rattle.record.specs.Steps.{Step, run, opened_object}
use Rattle.record.specs.Steps.Step.{CallRead, CallWrite, Advance, Supply, Settle, AnswerCall, Serve, Take}
use Rattle.example_tests.specs.RecordExamples.{whole, one_member, script_entries}
use Rattle.example_tests.proofs.Examples.RunPartLemmas.{Goes, Leads, also, goes_on, heard, hears, id_or, leads_on, letter}
use Rattle.example_tests.proofs.Examples.RunPartLemmas.{letter_is_value, none_new, reply_of, settles}
use Rattle.example_tests.proofs.Examples.StoredBankLemmas.{first_tag, opened_greatest, stored_greatest, stored_piece}

-- The steps: each part but the last of a call ends where the bank answers a query or a fetch

abbrev to_query : List Step
to_query = CallWrite 1 (65 ∷ []) ∷ Serve 0 ∷ Take 0 ∷ Advance 0 ∷ Serve 0 ∷ []

abbrev to_answer : List Step
to_answer =
    Take 0 ∷ Supply 0 ∷ Serve 0 ∷ Take 0 ∷ Advance 0 ∷ Serve 0 ∷ Take 0 ∷ Advance 0 ∷ Serve 0 ∷ Take 0 ∷ AnswerCall 0 ∷ []

abbrev pub to_write : List Step
to_write = to_query ++ to_answer

abbrev to_next_query : List Step
to_next_query = CallRead 2 ∷ Serve 0 ∷ Take 0 ∷ Advance 1 ∷ Serve 0 ∷ []

abbrev to_fetch : List Step
to_fetch = Take 0 ∷ Advance 1 ∷ Serve 0 ∷ []

abbrev to_end : List Step
to_end = Take 0 ∷ Settle 1 (65 ∷ []) ∷ Advance 1 ∷ Serve 0 ∷ Take 0 ∷ AnswerCall 1 ∷ []

abbrev pub parts : List Step
parts = to_write ++ (to_next_query ++ (to_fetch ++ to_end))

-- The write

abbrev pub start : Object
start = opened_object one_member None 2

abbrev found : Object
found = heard to_query 3 start (reply_of 1 2 0 Query 7 (answer.Greatest opening_tag))

abbrev pub answered : Object
answered = run whole to_answer 8 found

asks : Leads to_query 3 start found
asks =
    hears to_query 3 start (reply_of 1 2 0 Query 7 (answer.Greatest opening_tag))
    (ap (λ tag. reply_of 1 2 0 Query 7 (answer.Greatest tag)) (opened_greatest 0 2))
    (also (none_new 1, letter_is_value) (also (_, (refl, (_, refl))) (also (_, (refl, (_, _, refl))) (also (_, (refl, refl))
    (also (_, (refl, (_, refl))) tt)))))

answers : Leads to_answer 8 found answered
answers = record {
  gives = refl;
  may =
      also (_, (refl, (_, _, refl))) (also record { call = _; takes = inl (_, _, (refl, refl)) } (also (_, (refl, (_, refl)))
      (also (_, (refl, (_, _, refl))) (also (_, (refl, refl)) (also (_, (refl, (_, refl))) (also (_, (refl, (_, _, refl)))
      (also (_, (refl, refl)) (also (_, (refl, (_, refl))) (also (_, (refl, (_, _, refl))) (also (_, (refl, refl)) tt))))))))));
}

pub writes : Leads to_write 3 start answered
writes = leads_on asks answers refl

-- the only call has the id 1
pub answered_new : IsNewId answered 2
answered_new zero call at same = absurd (let e : 1 ≡ call.id = ap (λ o. id_or o) at in omega (arith, e, same))
answered_new (suc index) call at same = absurd (cc)

-- The read

abbrev found_again : Object
found_again = heard to_next_query 19 answered (reply_of 2 2 0 Query 23 (answer.Greatest first_tag))

abbrev fetched : Object
fetched = heard to_fetch 24 found_again (reply_of 2 3 0 (Fetch first_tag) 26 (answer.Piece (Some (letter 0))))

asks_again : Leads to_next_query 19 answered found_again
asks_again =
    hears to_next_query 19 answered (reply_of 2 2 0 Query 23 (answer.Greatest first_tag))
    (ap (λ tag. reply_of 2 2 0 Query 23 (answer.Greatest tag)) (stored_greatest 0 2 10 13))
    (also answered_new (also (_, (refl, (_, refl))) (also (_, (refl, (_, _, refl))) (also (_, (refl, refl))
    (also (_, (refl, (_, refl))) tt)))))

fetches : Leads to_fetch 24 found_again fetched
fetches =
    hears to_fetch 24 found_again (reply_of 2 3 0 (Fetch first_tag) 26 (answer.Piece (Some (letter 0))))
    (ap (λ piece. reply_of 2 3 0 (Fetch first_tag) 26 (answer.Piece piece)) (stored_piece 0 2 10 13))
    (also (_, (refl, (_, _, refl))) (also (_, (refl, refl)) (also (_, (refl, (_, refl))) tt)))

settles_letter : MaySettle whole (run whole (Take 0 ∷ []) 27 fetched) 1 (65 ∷ [])
settles_letter = settles (run whole (Take 0 ∷ []) 27 fetched) 1 (refl, refl) refl refl refl

ends : Goes to_end 27 fetched script_entries
ends = record {
  gives = refl;
  may =
      also (_, (refl, (_, _, refl))) (also settles_letter (also (_, (refl, refl)) (also (_, (refl, (_, refl)))
      (also (_, (refl, (_, _, refl))) (also (_, (refl, refl)) tt)))));
}

pub goes : Goes parts 3 start script_entries
goes = goes_on writes (goes_on asks_again (goes_on fetches ends refl) refl) refl
