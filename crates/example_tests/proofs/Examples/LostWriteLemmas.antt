-- A run in which a move loses a write that was answered once a quorum held its tag.
use Rattle.std.proofs.Common.{◌≡◌, ℕ, zero, suc, ◌⊎◌, true, inl, inr, List, [], ◌∷◌, ◌++◌, take, length, Some, None}
use Rattle.std.proofs.Common.{refl, sym, subst, ap, arith, slice_get}
use Rattle.std.specs.Prelude.{unwrap_or}
use Rattle.tag.specs.Tag.{opening_tag}
use Rattle.layout.specs.Quorum.{IsQuorum}
use Rattle.bank.specs.Bank.{Bank, empty_piece}
use Rattle.bank.specs.Knowledge.{HasFinalized, came_by, finalized_at}
use Rattle.bank.specs.declared.kind.Kind.TheVariants.{Query, Fetch}
use Rattle.bank.specs.declared.reply.Answer.TheVariants as answer
use Rattle.bank.specs.declared.request.Request.TheVariants as request
use Rattle.mail.specs.Phase.{Phase, begun}
use Rattle.record.specs.declared.call.CallKind.TheVariants.{Read}
use Rattle.record.specs.declared.stage.Stage.TheVariants.{FinalizeAt}
use Rattle.record.specs.Records.{Call, bank_at}
use Rattle.record.specs.Steps.{new_call, run}
use Rattle.soundness.specs.Sound.{IsSound}
use Rattle.soundness.proofs.Sound.RunSoundLemmas.{opened_run_sound}
use Rattle.atomicity.specs.Atomic.{IsAtomic, MayStand, entry_at}
use Rattle.early_ends.specs.Held.{HasHeld}
use Rattle.early_ends.specs.Told.{told_entries}
use Rattle.example_tests.specs.EarlyEnd.{IsHeldByQuorum, early_answer, losing_script, lost_entries, lost_tag, three_members, three_opened}
use Rattle.example_tests.specs.RecordExamples.{whole}
use Rattle.example_tests.proofs.Examples.LostWriteStepLemmas.{ask, reply_from, late_finalize, to_query, to_second_reply}
use Rattle.example_tests.proofs.Examples.LostWriteStepLemmas.{to_move_query, to_move_reply, to_fetch, to_second_piece}
use Rattle.example_tests.proofs.Examples.LostWriteStepLemmas.{to_moved, to_read_query, to_read_fetch, to_read_end, asked}
use Rattle.example_tests.proofs.Examples.LostWriteStepLemmas.{told, move_asked, move_told, fetched, fetched_twice, moved}
use Rattle.example_tests.proofs.Examples.LostWriteStepLemmas.{read_asked, read_fetched, ended, told_new, no_open}
use Rattle.example_tests.proofs.Examples.LostWriteStepLemmas.{moved_new, move_settles, read_settles, three_lawful}
use Rattle.example_tests.proofs.Examples.LostWriteStepLemmas.{two_distinct}
use Rattle.example_tests.proofs.Examples.MissedWriteLemmas.{missed_at}
use Rattle.example_tests.proofs.Examples.RunPartLemmas.{Leads, also, hears}
use Rattle.example_tests.proofs.Examples.RunPartLemmas.{leads_on, letter_is_value, none_new, whole_is_code}
use Rattle.example_tests.proofs.Examples.StoredBankLemmas.{fetched_since, kept_greatest, kept_piece, opened_greatest, stored_opening}
use Rattle.example_tests.proofs.Examples.StoredBankLemmas.{written_greatest}
use Rattle.example_tests.proofs.Examples.WriteMoveReadLemmas.{other_lawful}

-- Each part may be made

part_1 : Leads to_query 3 three_opened asked
part_1 =
    hears to_query 3 three_opened
    (reply_from 0 1 2 0 Query 11 (answer.Greatest opening_tag) ∷ ask 1 1 2 0 request.Query ∷ [])
    (ap (λ tag. reply_from 0 1 2 0 Query 11 (answer.Greatest tag) ∷ ask 1 1 2 0 request.Query ∷ [])
    (opened_greatest 0 2))
    (also (none_new 1, letter_is_value) (also (_, refl) (also (_, (refl, (_, refl))) (also (_, (refl, (_, _, refl)))
    (also (_, (refl, (_, refl))) (also (_, (refl, (_, _, refl))) (also (_, (refl, refl)) (also (_, refl)
    (also (_, (refl, (_, refl))) tt)))))))))

part_2 : Leads to_second_reply 12 asked told
part_2 =
    hears to_second_reply 12 asked
    (reply_from 1 1 2 0 Query 13 (answer.Greatest opening_tag) ∷ [])
    (ap (λ tag. reply_from 1 1 2 0 Query 13 (answer.Greatest tag) ∷ [])
    (opened_greatest 1 2))
    (also (_, (refl, (_, _, refl))) (also (_, (refl, (_, refl))) tt))

part_3 : Leads to_move_query 14 told move_asked
part_3 =
    hears to_move_query 14 told
    (late_finalize ∷ reply_from 1 2 2 0 Query 33 (answer.Greatest opening_tag) ∷ ask 2 2 2 0 request.Query ∷ [])
    (ap (λ tag. late_finalize ∷ reply_from 1 2 2 0 Query 33 (answer.Greatest tag) ∷ ask 2 2 2 0 request.Query ∷ [])
    (written_greatest 1 2 19 37))
    (also (_, (refl, (_, _, refl))) (also record { call = _; takes = inl (_, _, (refl, refl)) } (also (_, refl)
    (also (_, (refl, (_, refl))) (also (_, (refl, (_, _, refl))) (also (_, (refl, (_, refl))) (also (_, (refl, (_, _, refl)))
    (also (_, (refl, refl)) (also (_, refl) (also (_, (refl, (_, refl))) (also (_, (refl, (_, _, refl)))
    (also (told_new, other_lawful, no_open) (also (_, refl) (also (_, (refl, (_, refl))) (also (_, (refl, (_, _, refl)))
    (also (_, (refl, (_, refl))) (also (_, (refl, (_, _, refl))) (also (_, (refl, refl)) (also (_, refl)
    (also (_, (refl, (_, refl))) tt))))))))))))))))))))

part_4 : Leads to_move_reply 34 move_asked move_told
part_4 =
    hears to_move_reply 34 move_asked
    (late_finalize ∷ reply_from 2 2 2 0 Query 35 (answer.Greatest opening_tag) ∷ [])
    (ap (λ tag. late_finalize ∷ reply_from 2 2 2 0 Query 35 (answer.Greatest tag) ∷ [])
    (opened_greatest 2 2))
    (also (_, (refl, (_, _, refl))) (also (_, (refl, (_, refl))) tt))

part_5 : Leads to_fetch 36 move_told fetched
part_5 =
    hears to_fetch 36 move_told
    (reply_from 0 2 3 0 (Fetch opening_tag) 41 (answer.Piece (Some (empty_piece 0))) ∷ ask 1 2 3 0 (request.Fetch opening_tag) ∷ [])
    (ap (λ piece. reply_from 0 2 3 0 (Fetch opening_tag) 41 (answer.Piece piece) ∷ ask 1 2 3 0 (request.Fetch opening_tag) ∷ [])
    (stored_opening 0 2 17 23))
    (also (_, (refl, (_, _, refl))) (also (_, (refl, (_, refl))) (also (_, (refl, (_, _, refl))) (also (_, (refl, refl))
    (also (_, refl) (also (_, (refl, (_, refl))) tt))))))

part_6 : Leads to_second_piece 42 fetched fetched_twice
part_6 =
    hears to_second_piece 42 fetched
    (reply_from 1 2 3 0 (Fetch opening_tag) 43 (answer.Piece (Some (empty_piece 1))) ∷ [])
    (ap (λ piece. reply_from 1 2 3 0 (Fetch opening_tag) 43 (answer.Piece piece) ∷ [])
    (stored_opening 1 2 19 37))
    (also (_, (refl, (_, _, refl))) (also (_, (refl, (_, refl))) tt))

part_7 : Leads to_moved 44 fetched_twice moved
part_7 = record {
  gives = refl;
  may =
      also (_, (refl, (_, _, refl))) (also move_settles (also record { call = _; takes = inl (_, _, (refl, refl)) }
      (also (_, (refl, (_, refl))) (also (_, (refl, (_, _, refl))) (also (_, (refl, refl)) (also (_, (refl, (_, refl)))
      (also (_, (refl, (_, _, refl))) (also (_, (refl, refl)) (also (_, refl) (also (_, (refl, (_, refl)))
      (also (_, (refl, (_, _, refl))) (also (_, (refl, (_, refl))) (also (_, (refl, (_, _, refl))) (also (_, (refl, refl))
      tt))))))))))))));
}

part_8 : Leads to_read_query 59 moved read_asked
part_8 =
    hears to_read_query 59 moved
    (reply_from 0 3 4 1 Query 75 (answer.Greatest opening_tag) ∷ [])
    (ap (λ tag. reply_from 0 3 4 1 Query 75 (answer.Greatest tag) ∷ [])
    (kept_greatest 0 25 47 50))
    (also moved_new (also (_, refl) (also (_, (refl, (_, refl))) (also (_, (refl, (_, _, refl))) (also (_, (refl, (_, refl)))
    (also (_, (refl, (_, _, refl))) (also (_, (refl, refl)) (also (_, refl) (also (_, (refl, (_, refl)))
    (also (_, (refl, (_, _, refl))) (also (_, (refl, (_, refl))) (also (_, (refl, (_, _, refl))) (also (_, (refl, refl))
    (also (_, (refl, (_, refl))) (also (_, (refl, (_, _, refl))) (also (_, (refl, refl)) (also (_, (refl, (_, refl)))
    tt)))))))))))))))))

part_9 : Leads to_read_fetch 76 read_asked read_fetched
part_9 =
    hears to_read_fetch 76 read_asked
    (reply_from 0 3 5 1 (Fetch opening_tag) 78 (answer.Piece (Some (empty_piece 0))) ∷ [])
    (ap (λ piece. reply_from 0 3 5 1 (Fetch opening_tag) 78 (answer.Piece piece) ∷ [])
    (kept_piece 0 25 47 50))
    (also (_, (refl, (_, _, refl))) (also (_, (refl, refl)) (also (_, (refl, (_, refl))) tt)))

part_10 : Leads to_read_end 79 read_fetched ended
part_10 = record {
  gives = refl;
  may =
      also (_, (refl, (_, _, refl))) (also read_settles (also (_, (refl, refl)) (also (_, (refl, (_, refl)))
      (also (_, (refl, (_, _, refl))) (also (_, (refl, refl)) tt)))));
}

rest_leads : Leads (to_move_reply ++ (to_fetch ++ (to_second_piece ++ (to_moved ++ (to_read_query ++ (to_read_fetch ++ to_read_end)))))) 34
    move_asked ended
rest_leads =
    leads_on part_4 (leads_on part_5 (leads_on part_6 (leads_on part_7 (leads_on part_8 (leads_on part_9 part_10 refl) refl) refl) refl)
    refl) refl

pub loses : Leads losing_script 3 three_opened ended
loses = leads_on part_1 (leads_on part_2 (leads_on part_3 rest_leads refl) refl) refl

-- What it leaves

pub loses_gives : told_entries (run whole losing_script 3 three_opened) (early_answer ∷ []) ≡ lost_entries
loses_gives = ap (λ object. told_entries object (early_answer ∷ [])) loses.gives

-- the write
abbrev write_call : Call
write_call = unwrap_or (slice_get ended.calls 0) (new_call 0 Read 0)

-- its last phase
abbrev finalize : Phase
finalize = unwrap_or (slice_get write_call.phases 3) (begun 0 0 Query 0 0 0 0 0)

-- four phases are three and the last
last_of_four : (phases : List Phase) → length phases ≡ 4 →
    phases ≡ take 3 phases ++ unwrap_or (slice_get phases 3) (begun 0 0 Query 0 0 0 0 0) ∷ []
last_of_four (a ∷ b ∷ c ∷ d ∷ []) four = refl
last_of_four _ four = absurd (omega arith)

finalized_by : (bank : Bank) (came step : ℕ) → finalized_at bank lost_tag ≡ Some came → came_by (Some came) step ≡ true →
    HasFinalized bank lost_tag step
finalized_by bank came step e by = subst (λ o. came_by o step ≡ true) (sym e) by

first_held : HasHeld (bank_at ended 0 0) lost_tag 21 38
first_held = record {
  step = 23;
  from = omega arith;
  by = omega arith;
  finalized = finalized_by (bank_at ended 0 0) 23 23 (fetched_since 0 2 17 23 41) refl;
  unset = refl;
}

second_held : HasHeld (bank_at ended 0 1) lost_tag 21 38
second_held = record {
  step = 37;
  from = omega arith;
  by = omega arith;
  finalized = finalized_by (bank_at ended 0 1) 37 37 (fetched_since 1 2 19 37 43) refl;
  unset = refl;
}

two_are_a_quorum : IsQuorum three_members (0 ∷ 1 ∷ [])
two_are_a_quorum = record { distinct = two_distinct; within = (omega arith, (omega arith, tt)); enough = omega arith }

held_at_end : IsHeldByQuorum ended early_answer lost_tag
held_at_end = record {
  call = write_call;
  value = 65 ∷ [];
  writes = refl;
  stage = FinalizeAt 0 lost_tag;
  phase = finalize;
  made = record {
    at = refl;
    earlier = take 3 write_call.phases;
    later = [];
    phases = last_of_four write_call.phases refl;
    due_at = refl;
  };
  last = 0;
  has_last = refl;
  tagged = refl;
  members = 0 ∷ 1 ∷ [];
  quorum = two_are_a_quorum;
  each = (first_held, (second_held, tt));
}

pub loses_held : IsHeldByQuorum (run whole losing_script 3 three_opened) early_answer lost_tag
loses_held = subst (λ object. IsHeldByQuorum object early_answer lost_tag) (sym loses.gives) held_at_end

pub loses_sound : IsSound whole (run whole losing_script 3 three_opened) 84
loses_sound = opened_run_sound whole whole_is_code three_members None 2 losing_script three_lawful loses.may

pub lost_is_refused : IsAtomic lost_entries → ⊥
lost_is_refused =
    missed_at lost_entries 1 3 (record { kind = refl; value = refl; answered = refl })
    (record { kind = refl; value = refl; answered = refl }) (38, refl, omega arith) only
  where
    only : (number : ℕ) → MayStand (entry_at lost_entries number) → (number ≡ 1) ⊎ (number ≡ 3)
    only zero stand = absurd (stand.0 refl)
    only (suc zero) stand = inl refl
    only (suc (suc zero)) stand = absurd (stand.0 refl)
    only (suc (suc (suc zero))) stand = inr refl
    only (suc (suc (suc (suc index)))) stand = absurd (stand.0 refl)
