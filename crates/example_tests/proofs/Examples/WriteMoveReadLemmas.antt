-- A write, a move to another server, and a read, which follows the pointer to the new position.
use Rattle.std.proofs.Common.{◌≡◌, Bool, Option, zero, false, inl, suc, ◌≤◌, true}
use Rattle.std.proofs.Common.{List, [], ◌∷◌, ◌++◌, Some, None, refl, ap, ◌∙◌, arith}
use Rattle.layout.specs.Layout.{IsLawful}
use Rattle.bank.specs.declared.kind.Kind.TheVariants.{Query, Fetch}
use Rattle.bank.specs.declared.reply.Answer.TheVariants as answer
use Rattle.record.specs.Records.{Call, IsNewId, Object}
use Rattle.record.specs.Legal.{is_move}
use Rattle.record.specs.Preconditions.{MaySettle, NoOpenMove}
use Rattle.record.specs.Steps.{Step, run}
use Rattle.record.specs.Steps.Step.{CallRead, CallMove, Advance, Supply, Settle, AnswerCall, Serve, Take}
use Rattle.example_tests.specs.RecordExamples.{whole, one_member, other_member, move_entries}
use Rattle.example_tests.proofs.Examples.RunPartLemmas.{Goes, Leads, also, goes_on, heard, hears, id_or, leads_on, letter}
use Rattle.example_tests.proofs.Examples.RunPartLemmas.{one_distinct, other_distinct, reply_of, settles}
use Rattle.example_tests.proofs.Examples.StoredBankLemmas.{first_tag, stored_greatest, stored_piece}
use Rattle.example_tests.proofs.Examples.WriteAndReadLemmas.{answered, answered_new, start, to_write, writes}

-- The steps

abbrev to_move_query : List Step
to_move_query = CallMove 2 other_member ∷ Serve 0 ∷ Take 0 ∷ Advance 1 ∷ Serve 0 ∷ []

abbrev to_move_fetch : List Step
to_move_fetch = Take 0 ∷ Advance 1 ∷ Serve 0 ∷ []

-- the move puts the value into the new position and is answered
abbrev to_move_answer : List Step
to_move_answer =
    Take 0 ∷ Settle 1 (65 ∷ []) ∷ Supply 1 ∷ Serve 0 ∷ Take 0 ∷ Advance 1 ∷ Serve 0 ∷ Take 0 ∷ Advance 1 ∷ Serve 0
    ∷ Take 0 ∷ AnswerCall 1 ∷ []

abbrev pub to_move : List Step
to_move = to_write ++ (to_move_query ++ (to_move_fetch ++ to_move_answer))

-- the read finds the final pointer, and asks at the new position
abbrev to_read_query : List Step
to_read_query =
    CallRead 3 ∷ Serve 0 ∷ Take 0 ∷ Advance 2 ∷ Serve 0 ∷ Take 0 ∷ Advance 2 ∷ Serve 0 ∷ Take 0
    ∷ Advance 2 ∷ Serve 0 ∷ []

abbrev to_read_fetch : List Step
to_read_fetch = Take 0 ∷ Advance 2 ∷ Serve 0 ∷ []

abbrev to_read_end : List Step
to_read_end = Take 0 ∷ Settle 2 (65 ∷ []) ∷ Advance 2 ∷ Serve 0 ∷ Take 0 ∷ AnswerCall 2 ∷ []

abbrev pub move_parts : List Step
move_parts = to_move ++ (to_read_query ++ (to_read_fetch ++ to_read_end))

-- The move

abbrev move_found : Object
move_found = heard to_move_query 19 answered (reply_of 2 2 0 Query 23 (answer.Greatest first_tag))

abbrev move_letter : Object
move_letter = heard to_move_fetch 24 move_found (reply_of 2 3 0 (Fetch first_tag) 26 (answer.Piece (Some (letter 0))))

abbrev pub moved : Object
moved = run whole to_move_answer 27 move_letter

pub other_lawful : IsLawful other_member
other_lawful =
    record { some = omega arith; enough = omega arith; few = (let few : 1 ≤ 255 = omega arith in few); distinct = other_distinct }

-- whether there is a call, and it is a move
abbrev is_moving : Option Call → Bool
is_moving None = false
is_moving (Some call) = is_move call.kind

-- the only call is no move
no_open : NoOpenMove answered
no_open zero call at is = absurd (let clash : false ≡ true = ap is_moving at ∙ ap is_move is in cc)
no_open (suc index) call at is = absurd (cc)

moves_ask : Leads to_move_query 19 answered move_found
moves_ask =
    hears to_move_query 19 answered (reply_of 2 2 0 Query 23 (answer.Greatest first_tag))
    (ap (λ tag. reply_of 2 2 0 Query 23 (answer.Greatest tag)) (stored_greatest 0 2 10 13))
    (also (answered_new, other_lawful, no_open) (also (_, (refl, (_, refl))) (also (_, (refl, (_, _, refl))) (also (_, (refl, refl))
    (also (_, (refl, (_, refl))) tt)))))

moves_fetch : Leads to_move_fetch 24 move_found move_letter
moves_fetch =
    hears to_move_fetch 24 move_found (reply_of 2 3 0 (Fetch first_tag) 26 (answer.Piece (Some (letter 0))))
    (ap (λ piece. reply_of 2 3 0 (Fetch first_tag) 26 (answer.Piece piece)) (stored_piece 0 2 10 13))
    (also (_, (refl, (_, _, refl))) (also (_, (refl, refl)) (also (_, (refl, (_, refl))) tt)))

moves_settle : MaySettle whole (run whole (Take 0 ∷ []) 27 move_letter) 1 (65 ∷ [])
moves_settle = settles (run whole (Take 0 ∷ []) 27 move_letter) 1 (refl, refl) refl refl refl

move_answers : Leads to_move_answer 27 move_letter moved
move_answers = record {
  gives = refl;
  may =
      also (_, (refl, (_, _, refl))) (also moves_settle (also record { call = _; takes = inl (_, _, (refl, refl)) }
      (also (_, (refl, (_, refl))) (also (_, (refl, (_, _, refl))) (also (_, (refl, refl)) (also (_, (refl, (_, refl)))
      (also (_, (refl, (_, _, refl))) (also (_, (refl, refl)) (also (_, (refl, (_, refl))) (also (_, (refl, (_, _, refl)))
      (also (_, (refl, refl)) tt)))))))))));
}

pub moves : Leads to_move 3 start moved
moves = leads_on writes (leads_on moves_ask (leads_on moves_fetch move_answers refl) refl) refl

-- the calls have the ids 1 and 2
moved_new : IsNewId moved 3
moved_new zero call at same = absurd (let e : 1 ≡ call.id = ap (λ o. id_or o) at in omega (arith, e, same))
moved_new (suc zero) call at same = absurd (let e : 2 ≡ call.id = ap (λ o. id_or o) at in omega (arith, e, same))
moved_new (suc (suc index)) call at same = absurd (cc)

-- The read

abbrev read_found : Object
read_found = heard to_read_query 39 moved (reply_of 3 4 1 Query 49 (answer.Greatest first_tag))

abbrev read_letter : Object
read_letter = heard to_read_fetch 50 read_found (reply_of 3 5 1 (Fetch first_tag) 52 (answer.Piece (Some (letter 0))))

reads_ask : Leads to_read_query 39 moved read_found
reads_ask =
    hears to_read_query 39 moved (reply_of 3 4 1 Query 49 (answer.Greatest first_tag))
    (ap (λ tag. reply_of 3 4 1 Query 49 (answer.Greatest tag)) (stored_greatest 0 19 30 33))
    (also moved_new (also (_, (refl, (_, refl))) (also (_, (refl, (_, _, refl))) (also (_, (refl, refl))
    (also (_, (refl, (_, refl))) (also (_, (refl, (_, _, refl))) (also (_, (refl, refl)) (also (_, (refl, (_, refl)))
    (also (_, (refl, (_, _, refl))) (also (_, (refl, refl)) (also (_, (refl, (_, refl))) tt)))))))))))

reads_fetch : Leads to_read_fetch 50 read_found read_letter
reads_fetch =
    hears to_read_fetch 50 read_found (reply_of 3 5 1 (Fetch first_tag) 52 (answer.Piece (Some (letter 0))))
    (ap (λ piece. reply_of 3 5 1 (Fetch first_tag) 52 (answer.Piece piece)) (stored_piece 0 19 30 33))
    (also (_, (refl, (_, _, refl))) (also (_, (refl, refl)) (also (_, (refl, (_, refl))) tt)))

reads_settle : MaySettle whole (run whole (Take 0 ∷ []) 53 read_letter) 2 (65 ∷ [])
reads_settle = settles (run whole (Take 0 ∷ []) 53 read_letter) 2 (refl, refl) refl refl refl

reads_end : Goes to_read_end 53 read_letter move_entries
reads_end = record {
  gives = refl;
  may =
      also (_, (refl, (_, _, refl))) (also reads_settle (also (_, (refl, refl)) (also (_, (refl, (_, refl))) (also (_, (refl, (_, _, refl)))
      (also (_, (refl, refl)) tt)))));
}

pub move_goes : Goes move_parts 3 start move_entries
move_goes = goes_on moves (goes_on reads_ask (goes_on reads_fetch reads_end refl) refl) refl

pub one_lawful : IsLawful one_member
one_lawful = record { some = omega arith; enough = omega arith; few = (let few : 1 ≤ 255 = omega arith in few); distinct = one_distinct }
