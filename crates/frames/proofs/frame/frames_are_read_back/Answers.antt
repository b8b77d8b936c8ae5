use Rattle.frames.proofs.CutFrameLemmas.{cut_frame}
use Rattle.frames.proofs.FrameRoundTripLemmas.{frame_again, frame_ok, one_frame}
use Rattle.frames.proofs.frame.frames_are_read_back.Goals as goal

pub returns-clause-written : goal.returns-clause-written
returns-clause-written c = frame_again

pub returns-clause-read : goal.returns-clause-read
returns-clause-read c = frame_ok

pub returns-clause-one : goal.returns-clause-one
returns-clause-one c = one_frame

pub returns-clause-cut : goal.returns-clause-cut
returns-clause-cut c = cut_frame
