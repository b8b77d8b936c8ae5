use Rattle.bank.proofs.ForgottenCountLemmas.{get-remembered}
use Rattle.bank.proofs.RememberedBankLemmas.{bytes-remembered, before-remembered, remembered-collected, collected_left}
use Rattle.bank.proofs.RememberedReplyLemmas.{piece_left}
use Rattle.bank.proofs.remembered_banks_leave_out_rows.Goals as goal

pub returns-clause-rows : goal.returns-clause-rows
returns-clause-rows c = get-remembered

pub returns-clause-pieces : goal.returns-clause-pieces
returns-clause-pieces c = piece_left

pub returns-clause-bytes : goal.returns-clause-bytes
returns-clause-bytes c = bytes-remembered

pub returns-clause-order : goal.returns-clause-order
returns-clause-order c = before-remembered

pub returns-clause-dropped : goal.returns-clause-dropped
returns-clause-dropped c = remembered-collected

pub returns-clause-kept : goal.returns-clause-kept
returns-clause-kept c = collected_left
