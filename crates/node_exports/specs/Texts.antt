-- The contracts that docs/trusted.md lists do not depend on this file; other contracts and proofs do.
-- The texts of answers.
use Rattle.std.specs.Prelude.{◌==◌, ℕ, List, codes, if◌then◌else◌}

-- the text of an answer: its number and a name
abbrev pub answer_name : ℕ → List ℕ
answer_name answer =
    if answer == 0 then codes "0 Done" else (
    if answer == 1 then codes "1 NoMemory" else (
    if answer == 2 then codes "2 BadFile" else (
    if answer == 3 then codes "3 NoNode" else (
    if answer == 4 then codes "4 OldForm" else (
    if answer == 5 then codes "5 BadLog" else (
    if answer == 6 then codes "6 NoMoreIds" else (
    if answer == 7 then codes "7 NoFrame" else (
    if answer == 8 then codes "8 Stopped" else (
    if answer == 9 then codes "9 Failed" else (
    if answer == 10 then codes "10 NotOpen" else (
    if answer == 11 then codes "11 IsOpen" else (
    if answer == 12 then codes "12 BadBuffer" else (
    if answer == 13 then codes "13 NoTask" else (
    codes "Unknown"))))))))))))))
