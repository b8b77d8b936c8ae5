-- A read whose fetch lacks pieces, and that begins anew.
use Rattle.std.proofs.Common.{◌≡◌, zero, suc, inl, List, [], ◌∷◌, ◌++◌, Some, None, refl, ap, arith}
use Rattle.std.specs.FinMap as finmap
use Rattle.tag.specs.declared.tag.Tag.{Tag}
use Rattle.tag.specs.Tag.{opening_tag}
use Rattle.bank.specs.Bank.{Bank, opened_bank, opening_row, pre_written, finalized}
use Rattle.bank.specs.Collect.{collected, fetched_piece}
use Rattle.bank.specs.Serve.{greatest_final}
use Rattle.bank.specs.declared.kind.Kind.TheVariants.{Query, Fetch}
use Rattle.bank.specs.declared.reply.Answer.TheVariants as answer
use Rattle.bank.proofs.EntryOrderLemmas.{Rows}
use Rattle.record.specs.Records.{IsNewId, Object}
use Rattle.example_tests.specs.RecordExamples.{whole, one_member, anew_entries}
use Rattle.record.specs.Preconditions.{MaySettle}
use Rattle.record.specs.Steps.{Step, run, opened_object}
use Rattle.record.specs.Steps.Step.{CallRead, CallWrite, Advance, Again, Supply, Settle, AnswerCall, Serve, Take}
use Rattle.example_tests.proofs.Examples.BankRowLemmas.{opened_entries, after_pre_write, pre_written_entries, after_finalize}
use Rattle.example_tests.proofs.Examples.BankRowLemmas.{finalized_entries}
use Rattle.example_tests.proofs.Examples.BankRowLemmas.{greatest_from, fetched_from}
use Rattle.example_tests.proofs.Examples.RunPartLemmas.{Goes, Leads, also, goes_on, heard, hears, id_or, leads_on, letter}
use Rattle.example_tests.proofs.Examples.RunPartLemmas.{letter_is_value, none_new, reply_of, settles}

-- The bank, with delta 0

abbrev second_tag : Tag
second_tag = record { number = 1; call = 2 }

abbrev new_bank : Bank
new_bank = opened_bank 0 (Some 0) 2

abbrev wrote_bank : Bank
wrote_bank = collected (pre_written new_bank second_tag (letter 0) 16)

abbrev final_bank : Bank
final_bank = collected (finalized wrote_bank second_tag 19)

abbrev asked_bank : Bank
asked_bank = collected (finalized final_bank opening_tag 26)

abbrev new_rows : Rows
new_rows = (opening_tag, opening_row 0 2) ∷ []

abbrev wrote_rows : Rows
wrote_rows = after_pre_write (Some 0) new_rows second_tag (letter 0) 16

abbrev final_rows : Rows
final_rows = after_finalize (Some 0) wrote_rows second_tag 19

abbrev asked_rows : Rows
asked_rows = after_finalize (Some 0) final_rows opening_tag 26

new_entries : finmap.entries new_bank.rows ≡ new_rows
new_entries = opened_entries 0 (Some 0) 2

final_entries : finmap.entries final_bank.rows ≡ final_rows
final_entries =
    finalized_entries wrote_bank wrote_rows second_tag 19 refl
    (pre_written_entries new_bank new_rows second_tag (letter 0) 16 refl new_entries)

asked_entries : finmap.entries asked_bank.rows ≡ asked_rows
asked_entries = finalized_entries final_bank final_rows opening_tag 26 refl final_entries

new_greatest : greatest_final new_bank ≡ opening_tag
new_greatest = greatest_from new_bank new_rows new_entries

-- the piece of the opening tag is gone
opening_gone : fetched_piece final_bank opening_tag ≡ None
opening_gone = fetched_from final_bank final_rows opening_tag refl final_entries

asked_greatest : greatest_final asked_bank ≡ second_tag
asked_greatest = greatest_from asked_bank asked_rows asked_entries

second_there : fetched_piece asked_bank second_tag ≡ Some (letter 0)
second_there = fetched_from asked_bank asked_rows second_tag refl asked_entries

-- The parts of the run

abbrev to_ask : List Step
to_ask = CallRead 5 ∷ Serve 0 ∷ Take 0 ∷ Advance 0 ∷ Serve 0 ∷ []

abbrev to_write : List Step
to_write = Take 0 ∷ CallWrite 2 (65 ∷ []) ∷ Serve 0 ∷ Take 0 ∷ Advance 1 ∷ Serve 0 ∷ []

abbrev to_lose : List Step
to_lose =
    Take 0 ∷ Supply 1 ∷ Serve 0 ∷ Take 0 ∷ Advance 1 ∷ Serve 0 ∷ Take 0 ∷ Advance 1 ∷ Serve 0 ∷ Take 0 ∷ AnswerCall 1
    ∷ Advance 0 ∷ Serve 0 ∷ []

abbrev to_lack : List Step
to_lack = Take 0 ∷ []

abbrev to_ask_anew : List Step
to_ask_anew = Again 0 ∷ Serve 0 ∷ Take 0 ∷ Advance 0 ∷ Serve 0 ∷ []

abbrev to_fetch_anew : List Step
to_fetch_anew = Take 0 ∷ Advance 0 ∷ Serve 0 ∷ []

abbrev to_end : List Step
to_end = Take 0 ∷ Settle 0 (65 ∷ []) ∷ Advance 0 ∷ Serve 0 ∷ Take 0 ∷ AnswerCall 0 ∷ []

abbrev pub lacking_parts : List Step
lacking_parts = to_ask ++ (to_write ++ (to_lose ++ to_lack))

abbrev pub anew_parts : List Step
anew_parts = to_ask_anew ++ (to_fetch_anew ++ to_end)

abbrev pub start : Object
start = opened_object one_member (Some 0) 2

abbrev found : Object
found = heard to_ask 3 start (reply_of 5 2 0 Query 7 (answer.Greatest opening_tag))

-- the only call has the id 5
asked_new : IsNewId (run whole (Take 0 ∷ []) 8 found) 2
asked_new zero call at same = absurd (let e : 5 ≡ call.id = ap (λ o. id_or o) at in omega (arith, e, same))
asked_new (suc index) call at same = absurd (cc)

abbrev write_found : Object
write_found = heard to_write 8 found (reply_of 2 2 0 Query 13 (answer.Greatest opening_tag))

abbrev nothing_there : Object
nothing_there = heard to_lose 14 write_found (reply_of 5 3 0 (Fetch opening_tag) 26 (answer.Piece None))

-- the read's fetch is complete, and lacks pieces
abbrev pub lacking : Object
lacking = run whole to_lack 27 nothing_there

abbrev found_anew : Object
found_anew = heard to_ask_anew 28 lacking (reply_of 5 5 0 Query 32 (answer.Greatest second_tag))

abbrev letter_there : Object
letter_there = heard to_fetch_anew 33 found_anew (reply_of 5 6 0 (Fetch second_tag) 35 (answer.Piece (Some (letter 0))))

asks : Leads to_ask 3 start found
asks =
    hears to_ask 3 start (reply_of 5 2 0 Query 7 (answer.Greatest opening_tag))
    (ap (λ tag. reply_of 5 2 0 Query 7 (answer.Greatest tag)) new_greatest)
    (also (none_new 5) (also (_, (refl, (_, refl))) (also (_, (refl, (_, _, refl))) (also (_, (refl, refl))
    (also (_, (refl, (_, refl))) tt)))))

writes : Leads to_write 8 found write_found
writes =
    hears to_write 8 found (reply_of 2 2 0 Query 13 (answer.Greatest opening_tag))
    (ap (λ tag. reply_of 2 2 0 Query 13 (answer.Greatest tag)) new_greatest)
    (also (_, (refl, (_, _, refl))) (also (asked_new, letter_is_value) (also (_, (refl, (_, refl)))
    (also (_, (refl, (_, _, refl))) (also (_, (refl, refl)) (also (_, (refl, (_, refl))) tt))))))

loses : Leads to_lose 14 write_found nothing_there
loses =
    hears to_lose 14 write_found (reply_of 5 3 0 (Fetch opening_tag) 26 (answer.Piece None))
    (ap (λ piece. reply_of 5 3 0 (Fetch opening_tag) 26 (answer.Piece piece)) opening_gone)
    (also (_, (refl, (_, _, refl))) (also record { call = _; takes = inl (_, _, (refl, refl)) } (also (_, (refl, (_, refl)))
    (also (_, (refl, (_, _, refl))) (also (_, (refl, refl)) (also (_, (refl, (_, refl))) (also (_, (refl, (_, _, refl)))
    (also (_, (refl, refl)) (also (_, (refl, (_, refl))) (also (_, (refl, (_, _, refl))) (also (_, (refl, refl))
    (also (_, (refl, refl)) (also (_, (refl, (_, refl))) tt)))))))))))))

lacks : Leads to_lack 27 nothing_there lacking
lacks = record { gives = refl; may = also (_, (refl, (_, _, refl))) tt }

asks_anew : Leads to_ask_anew 28 lacking found_anew
asks_anew =
    hears to_ask_anew 28 lacking (reply_of 5 5 0 Query 32 (answer.Greatest second_tag))
    (ap (λ tag. reply_of 5 5 0 Query 32 (answer.Greatest tag)) asked_greatest)
    (also (_, (refl, refl)) (also (_, (refl, (_, refl))) (also (_, (refl, (_, _, refl))) (also (_, (refl, refl))
    (also (_, (refl, (_, refl))) tt)))))

fetches_anew : Leads to_fetch_anew 33 found_anew letter_there
fetches_anew =
    hears to_fetch_anew 33 found_anew (reply_of 5 6 0 (Fetch second_tag) 35 (answer.Piece (Some (letter 0))))
    (ap (λ piece. reply_of 5 6 0 (Fetch second_tag) 35 (answer.Piece piece)) second_there)
    (also (_, (refl, (_, _, refl))) (also (_, (refl, refl)) (also (_, (refl, (_, refl))) tt)))

settles_letter : MaySettle whole (run whole (Take 0 ∷ []) 36 letter_there) 0 (65 ∷ [])
settles_letter = settles (run whole (Take 0 ∷ []) 36 letter_there) 0 (refl, refl) refl refl refl

ends : Goes to_end 36 letter_there anew_entries
ends = record {
  gives = refl;
  may =
      also (_, (refl, (_, _, refl))) (also settles_letter (also (_, (refl, refl)) (also (_, (refl, (_, refl)))
      (also (_, (refl, (_, _, refl))) (also (_, (refl, refl)) tt)))));
}

-- up to the fetch that lacks pieces
pub comes_to_lack : Leads lacking_parts 3 start lacking
comes_to_lack = leads_on asks (leads_on writes (leads_on loses lacks refl) refl) refl

pub anew_goes : Goes (lacking_parts ++ anew_parts) 3 start anew_entries
anew_goes = goes_on comes_to_lack (goes_on asks_anew (goes_on fetches_anew ends refl) refl) refl
