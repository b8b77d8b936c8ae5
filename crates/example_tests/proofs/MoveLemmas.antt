-- A move while a write is under way: the write begins, the move begins and ends, and the write goes on.
use Rattle.std.proofs.Common.{◌≡◌, ◌≤◌, [], ◌∷◌, ◌++◌, Some, inl, refl, ap, arith}
use Rattle.tag.specs.Tag.{opening_tag}
use Rattle.layout.specs.Layout.{IsLawful}
use Rattle.bank.specs.Bank.{empty_piece}
use Rattle.bank.specs.declared.reply.Answer.TheVariants.{Done, Greatest, Piece, Pointer}
use Rattle.bank.specs.declared.request.Request.TheVariants as request
use Rattle.bank.specs.declared.status.Status.TheVariants.{Unset, Pending, Final}
use Rattle.network.specs.Worlds.{World}
use Rattle.network.specs.Events.{Event, happens, world_after}
use Rattle.network.specs.Premises.{MayHappenInTurn}
use Rattle.example_tests.specs.RecordExamples.{whole}
use Rattle.example_tests.specs.Scripts.{letter, to_keep}
use Rattle.example_tests.specs.Moving.{at_first, second_node, move_while_writing, write_beginning, move_beginning, move_ending}
use Rattle.example_tests.specs.Moving.{write_at_first, write_moved, write_at_second}
use Rattle.example_tests.proofs.KeptRowLemmas.{opened_greatest, opened_piece}
use Rattle.example_tests.proofs.EventRunLemmas.{empty_is_value, fetched_once, letter_is_value, may_append, one_distinct}
use Rattle.example_tests.proofs.EventRunLemmas.{other_id, ready, ready_settled}
use Rattle.example_tests.proofs.PhaseLemmas.{by_one, call_ends, call_runs, finalize, next, query}

second_lawful : IsLawful second_node
second_lawful =
    record { some = omega arith; enough = omega arith; few = (let few : 1 ≤ 255 = omega arith in few); distinct = one_distinct 1 }

abbrev after_begun : World
after_begun = world_after whole write_beginning at_first

abbrev after_moving : World
after_moving = world_after whole move_beginning after_begun

abbrev after_move : World
after_move = world_after whole move_ending after_moving

begins : MayHappenInTurn whole write_beginning at_first
begins =
    call_runs (Event.BeginWrite 0 7 letter) 7 (by_one next 0 (Pointer Unset)) (by_one query 0 (Greatest opening_tag) ∷ []) at_first
    letter_is_value (record { network = tt; log = tt; ids = tt }) ((0, refl), refl, tt)
    ((_, refl, inl (ready _ refl refl, refl)), ((2, refl), ap Greatest (opened_greatest 0), tt), tt)

moves : MayHappenInTurn whole move_beginning after_begun
moves =
    call_runs (Event.BeginMove 1 3 second_node) 3 (by_one (λ member. request.Spread Pending) 0 Done)
    (by_one query 0 (Greatest opening_tag) ∷ by_one (λ member. request.Fetch opening_tag) 0 (Piece (Some (empty_piece 0))) ∷ [])
    after_begun (second_lawful, refl, (λ same. absurd (let clash : 0 ≡ 1 = same in omega arith), tt))
    (record { network = tt; log = tt; ids = other_id }) ((4, refl), refl, tt) (
      (_, refl, inl (ready _ refl refl, refl)),
      ((6, refl), ap Greatest (opened_greatest 0), tt),
      ((_, refl, inl (ready _ refl refl, refl)), ((8, refl), ap Piece (opened_piece 0), tt), tt),
    )

move_ends : MayHappenInTurn whole move_ending after_moving
move_ends = (
  (_, refl, fetched_once 0 refl (_, refl) refl refl refl refl empty_is_value),
  record { network = tt; log = tt; ids = tt },
  call_ends 3 4
      (by_one (λ member. request.PreWrite opening_tag (empty_piece member)) 1 Done
      ∷ by_one (λ member. request.Finalize opening_tag) 1 Done ∷ by_one (λ member. request.Spread Final) 0 Done ∷ [])
      (happens whole after_moving (Event.Settle 3 [])) (
        (_, refl, inl (ready_settled _ refl refl, refl)),
        ((10, refl), refl, tt),
        (
          (_, refl, inl (ready _ refl refl, refl)),
          ((12, refl), refl, tt),
          ((_, refl, inl (ready _ refl refl, refl)), ((14, refl), refl, tt), tt),
        ),
      )
      (_, refl, ready _ refl refl, refl),
)

-- the write keeps its value at position 0, finds the move, and keeps it at position 1 too
ends : MayHappenInTurn whole (write_at_first ++ (write_moved ++ write_at_second)) after_move
ends =
    call_ends 7 3
    (by_one to_keep 0 Done ∷ by_one finalize 0 Done ∷ by_one next 0 (Pointer Final) ∷ by_one (λ member. request.Spread Final) 0 Done
    ∷ by_one next 1 (Pointer Unset) ∷ by_one to_keep 1 Done ∷ by_one finalize 1 Done ∷ by_one next 1 (Pointer Unset) ∷ []) after_move (
      (_, refl, inl (ready _ refl refl, refl)),
      ((16, refl), refl, tt),
      (
        (_, refl, inl (ready _ refl refl, refl)),
        ((18, refl), refl, tt),
        (
          (_, refl, inl (ready _ refl refl, refl)),
          ((20, refl), refl, tt),
          (
            (_, refl, inl (ready _ refl refl, refl)),
            ((22, refl), refl, tt),
            (
              (_, refl, inl (ready _ refl refl, refl)),
              ((24, refl), refl, tt),
              (
                (_, refl, inl (ready _ refl refl, refl)),
                ((26, refl), refl, tt),
                (
                  (_, refl, inl (ready _ refl refl, refl)),
                  ((28, refl), refl, tt),
                  (
                    (_, refl, inl (ready _ refl refl, refl)),
                    ((30, refl), refl, tt),
                    tt,
                  ),
                ),
              ),
            ),
          ),
        ),
      ),
    )
    (_, refl, ready _ refl refl, refl)

pub every_event : MayHappenInTurn whole move_while_writing at_first
every_event =
    may_append write_beginning (move_beginning ++ (move_ending ++ (write_at_first ++ (write_moved ++ write_at_second)))) at_first begins
    (may_append move_beginning (move_ending ++ (write_at_first ++ (write_moved ++ write_at_second))) after_begun moves
    (may_append move_ending (write_at_first ++ (write_moved ++ write_at_second)) after_moving move_ends ends))
