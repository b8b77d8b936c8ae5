use Rattle.example_tests.proofs.Examples.LostWriteLemmas.{loses, loses_gives, loses_held, loses_sound, lost_is_refused}
use Rattle.example_tests.proofs.early.a_quorum_is_not_enough.Goals as goal

pub returns-clause-may : goal.returns-clause-may
returns-clause-may c = loses.may

pub returns-clause-sound : goal.returns-clause-sound
returns-clause-sound c = loses_sound

pub returns-clause-held : goal.returns-clause-held
returns-clause-held c = loses_held

pub returns-clause-gives : goal.returns-clause-gives
returns-clause-gives c = loses_gives

pub returns-clause-not_atomic : goal.returns-clause-not_atomic
returns-clause-not_atomic c = lost_is_refused
