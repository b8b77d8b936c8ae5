-- The steps of a run in which a move loses a write, the record after each part of them, and what they ask for.
use Rattle.std.proofs.Common.{◌≡◌, ℕ, zero, suc, ◌≤◌, Bool, true, false, nat_eq}
use Rattle.std.proofs.Common.{List, [], ◌∷◌, take, Option, Some, None}
use Rattle.std.proofs.Common.{refl, ap, ◌∙◌, arith}
use Rattle.std.specs.List.{IsDistinct}
use Rattle.tag.specs.Tag.{opening_tag}
use Rattle.layout.specs.Layout.{IsLawful}
use Rattle.bank.specs.Bank.{empty_piece}
use Rattle.bank.specs.declared.kind.Kind.{Kind}
use Rattle.bank.specs.declared.kind.Kind.TheVariants.{Query, Fetch}
use Rattle.bank.specs.declared.reply.Answer.{Answer}
use Rattle.bank.specs.declared.reply.Answer.TheVariants as answer
use Rattle.bank.specs.declared.request.Request.{Request}
use Rattle.bank.specs.declared.request.Request.TheVariants as request
use Rattle.mail.specs.declared.message.Body.TheVariants as body
use Rattle.mail.specs.declared.message.Message.{Message}
use Rattle.record.specs.Fragments.{IsValue}
use Rattle.record.specs.Legal.{is_move}
use Rattle.record.specs.Preconditions.{MaySettle, NoOpenMove}
use Rattle.record.specs.Records.{Call, IsNewId, Object}
use Rattle.record.specs.Steps.{Step, run}
use Rattle.record.specs.Steps.Step.{CallRead, CallWrite, CallMove, Advance, Supply, Settle, AnswerCall, Serve, Take, Lose}
use Rattle.tag.specs.declared.limits.TheConstants.{LONGEST_VALUE}
use Rattle.example_tests.specs.EarlyEnd.{lost_tag, three_members, three_opened}
use Rattle.example_tests.specs.RecordExamples.{other_member, whole}
use Rattle.example_tests.proofs.Examples.RunPartLemmas.{heard, id_or}
use Rattle.example_tests.proofs.Examples.RunPartLemmas.{settles_with}

-- Messages

-- a request of a phase to a member
abbrev pub ask : (member call phase position : ℕ) → Request → Message
ask member call phase position asked =
    record { call = call; phase = phase; position = position; member = member; body = body.Request asked }

-- the reply of a member to a phase
abbrev pub reply_from : (member call phase position : ℕ) → Kind → (step : ℕ) → Answer → Message
reply_from member call phase position kind step said = record {
  call = call;
  phase = phase;
  position = position;
  member = member;
  body = body.Reply kind (record { step = step; answer = said });
}

-- the write's request to member 1 to finalize its tag, which comes late
abbrev pub late_finalize : Message
late_finalize = ask 1 1 4 0 (request.Finalize lost_tag)

-- The steps, in parts: each but the last ends where a bank answers a query or a fetch, or the move is answered

abbrev pub to_query : List Step
to_query =
    CallWrite 1 (65 ∷ []) ∷ Lose 2 ∷ Serve 0 ∷ Take 0 ∷ Serve 0 ∷ Take 0 ∷ Advance 0 ∷ Lose 2 ∷ Serve 0 ∷ []

abbrev pub to_second_reply : List Step
to_second_reply =
    Take 0 ∷ Serve 0 ∷ []

abbrev pub to_move_query : List Step
to_move_query =
    Take 0 ∷ Supply 0 ∷ Lose 2 ∷ Serve 0 ∷ Take 0 ∷ Serve 0 ∷ Take 0 ∷ Advance 0 ∷ Lose 2 ∷ Serve 0 ∷ Take 0
    ∷ CallMove 2 other_member ∷ Lose 2 ∷ Serve 1 ∷ Take 1 ∷ Serve 1 ∷ Take 1 ∷ Advance 1 ∷ Lose 1 ∷ Serve 1 ∷ []

abbrev pub to_move_reply : List Step
to_move_reply =
    Take 1 ∷ Serve 1 ∷ []

abbrev pub to_fetch : List Step
to_fetch =
    Take 1 ∷ Serve 0 ∷ Take 0 ∷ Advance 1 ∷ Lose 2 ∷ Serve 0 ∷ []

abbrev pub to_second_piece : List Step
to_second_piece =
    Take 0 ∷ Serve 0 ∷ []

abbrev pub to_moved : List Step
to_moved =
    Take 0 ∷ Settle 1 [] ∷ Supply 1 ∷ Serve 0 ∷ Take 0 ∷ Advance 1 ∷ Serve 0 ∷ Take 0 ∷ Advance 1 ∷ Lose 2 ∷ Serve 0
    ∷ Take 0 ∷ Serve 0 ∷ Take 0 ∷ AnswerCall 1 ∷ []

abbrev pub to_read_query : List Step
to_read_query =
    CallRead 3 ∷ Lose 2 ∷ Serve 0 ∷ Take 0 ∷ Serve 0 ∷ Take 0 ∷ Advance 2 ∷ Lose 2 ∷ Serve 0 ∷ Take 0 ∷ Serve 0
    ∷ Take 0 ∷ Advance 2 ∷ Serve 0 ∷ Take 0 ∷ Advance 2 ∷ Serve 0 ∷ []

abbrev pub to_read_fetch : List Step
to_read_fetch =
    Take 0 ∷ Advance 2 ∷ Serve 0 ∷ []

abbrev pub to_read_end : List Step
to_read_end =
    Take 0 ∷ Settle 2 [] ∷ Advance 2 ∷ Serve 0 ∷ Take 0 ∷ AnswerCall 2 ∷ []

-- The record after each part

abbrev pub asked : Object
asked = heard to_query 3 three_opened
    (reply_from 0 1 2 0 Query 11 (answer.Greatest opening_tag) ∷ ask 1 1 2 0 request.Query ∷ [])

abbrev pub told : Object
told = heard to_second_reply 12 asked
    (reply_from 1 1 2 0 Query 13 (answer.Greatest opening_tag) ∷ [])

abbrev pub move_asked : Object
move_asked = heard to_move_query 14 told
    (late_finalize ∷ reply_from 1 2 2 0 Query 33 (answer.Greatest opening_tag) ∷ ask 2 2 2 0 request.Query ∷ [])

abbrev pub move_told : Object
move_told = heard to_move_reply 34 move_asked
    (late_finalize ∷ reply_from 2 2 2 0 Query 35 (answer.Greatest opening_tag) ∷ [])

abbrev pub fetched : Object
fetched = heard to_fetch 36 move_told
    (reply_from 0 2 3 0 (Fetch opening_tag) 41 (answer.Piece (Some (empty_piece 0))) ∷ ask 1 2 3 0 (request.Fetch opening_tag) ∷ [])

abbrev pub fetched_twice : Object
fetched_twice = heard to_second_piece 42 fetched
    (reply_from 1 2 3 0 (Fetch opening_tag) 43 (answer.Piece (Some (empty_piece 1))) ∷ [])

abbrev pub moved : Object
moved = run whole to_moved 44 fetched_twice

abbrev pub read_asked : Object
read_asked = heard to_read_query 59 moved
    (reply_from 0 3 4 1 Query 75 (answer.Greatest opening_tag) ∷ [])

abbrev pub read_fetched : Object
read_fetched = heard to_read_fetch 76 read_asked
    (reply_from 0 3 5 1 (Fetch opening_tag) 78 (answer.Piece (Some (empty_piece 0))) ∷ [])

abbrev pub ended : Object
ended = run whole to_read_end 79 read_fetched

-- What the steps ask for

three_distinct : IsDistinct nat_eq (0 ∷ 1 ∷ 2 ∷ [])
unfolding IsDistinct
three_distinct = ((refl, (refl, tt)), ((refl, tt), (tt, tt)))

pub two_distinct : IsDistinct nat_eq (0 ∷ 1 ∷ [])
unfolding IsDistinct
two_distinct = ((refl, tt), (tt, tt))

pub three_lawful : IsLawful three_members
three_lawful =
    record { some = omega arith; enough = omega arith; few = (let few : 3 ≤ 255 = omega arith in few); distinct = three_distinct }

empty_is_value : IsValue []
empty_is_value = (tt, (let least : 0 ≤ LONGEST_VALUE = omega arith in least))

-- the record as the move begins
abbrev pub before_move : Object
before_move = run whole (take 11 to_move_query) 14 told

pub told_new : IsNewId before_move 2
told_new zero call at same = absurd (let e : 1 ≡ call.id = ap (λ o. id_or o) at in omega (arith, e, same))
told_new (suc index) call at same = absurd (cc)

-- whether there is a call, and it is a move
abbrev pub is_moving : Option Call → Bool
is_moving None = false
is_moving (Some call) = is_move call.kind

pub no_open : NoOpenMove before_move
no_open zero call at is = absurd (let clash : false ≡ true = ap is_moving at ∙ ap is_move is in cc)
no_open (suc index) call at is = absurd (cc)

pub moved_new : IsNewId moved 3
moved_new zero call at same = absurd (let e : 1 ≡ call.id = ap (λ o. id_or o) at in omega (arith, e, same))
moved_new (suc zero) call at same = absurd (let e : 2 ≡ call.id = ap (λ o. id_or o) at in omega (arith, e, same))
moved_new (suc (suc index)) call at same = absurd (cc)

pub move_settles : MaySettle whole (run whole (Take 0 ∷ []) 44 fetched_twice) 1 []
move_settles = settles_with (run whole (Take 0 ∷ []) 44 fetched_twice) 1 [] empty_is_value (refl, refl) refl refl refl

pub read_settles : MaySettle whole (run whole (Take 0 ∷ []) 79 read_fetched) 2 []
read_settles = settles_with (run whole (Take 0 ∷ []) 79 read_fetched) 2 [] empty_is_value (refl, refl) refl refl refl
