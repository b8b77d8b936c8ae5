-- What a DEL has to do, name after name and write after write.
use Rattle.std.specs.Prelude.{ℕ, ◌+◌, ◌-◌, Bool, false, List, [], length, get_or, nat_lt, if◌then◌else◌}
use Rattle.std.specs.Prelude.{Option, None, Some}

-- a DEL: its names, how many of them are deleted, from the first on, and how many times the empty value was written to
-- the name behind these
pub record Deletion : Type 0 where
  pub names : List (List ℕ)
  pub done : ℕ
  pub made : ℕ

-- a DEL of these names, of which nothing is done yet
abbrev pub whole_deletion : (names : List (List ℕ)) → Deletion
whole_deletion names = record { names = names; done = 0; made = 0 }

-- the name to which a DEL writes the empty value next
abbrev pub name_now : Deletion → List ℕ
name_now deletion = get_or deletion.names deletion.done []

-- how many names a DEL has
abbrev pub count_of : Deletion → ℕ
count_of deletion = length deletion.names

-- whether the empty value is written to the same name once more, if it was written so many times before the last time:
-- it is written delta + 1 times, and once if there is no delta
abbrev pub is_written_again : (delta : Option ℕ) → (made : ℕ) → Bool
is_written_again None made = false
is_written_again (Some delta) made = nat_lt made delta

-- what is left of a DEL when its next write has ended: more writes of the same name, or else the names behind it, or
-- else nothing
abbrev pub left_over : (delta : Option ℕ) → Deletion → Option Deletion
left_over delta deletion =
    if is_written_again delta deletion.made then Some (record deletion { made = deletion.made + 1 })
    else (if nat_lt 1 (length deletion.names - deletion.done)
    then Some (record deletion { done = deletion.done + 1; made = 0 })
    else None)
