use Rattle.std.proofs.Common.{refl}
use Rattle.std.specs.Fmt.{digits}
use Rattle.tag.specs.declared.refusal.Refusal.TheVariants as refusal
use Rattle.coding_exports.proofs.RefusalTextLemmas.{has_text}
use Rattle.coding_exports.proofs.text.answer_text.Goals as goal

pub returns-in-1-clause-refusal : goal.returns-in-1-clause-refusal
unfolding digits
returns-in-1-clause-refusal c = has_text refusal.NoMemory c.in-1.is refl

pub returns-in-2-clause-refusal : goal.returns-in-2-clause-refusal
unfolding digits
returns-in-2-clause-refusal c = has_text refusal.BadLayout c.in-2.is refl

pub returns-in-3-clause-refusal : goal.returns-in-3-clause-refusal
unfolding digits
returns-in-3-clause-refusal c = has_text refusal.NoObject c.in-3.is refl

pub returns-in-4-clause-refusal : goal.returns-in-4-clause-refusal
unfolding digits
returns-in-4-clause-refusal c = has_text refusal.ObjectExists c.in-4.is refl

pub returns-in-5-clause-refusal : goal.returns-in-5-clause-refusal
unfolding digits
returns-in-5-clause-refusal c = has_text refusal.TooLong c.in-5.is refl

pub returns-in-6-clause-refusal : goal.returns-in-6-clause-refusal
unfolding digits
returns-in-6-clause-refusal c = has_text refusal.NoCall c.in-6.is refl

pub returns-in-7-clause-refusal : goal.returns-in-7-clause-refusal
unfolding digits
returns-in-7-clause-refusal c = has_text refusal.NotNow c.in-7.is refl

pub returns-in-8-clause-refusal : goal.returns-in-8-clause-refusal
unfolding digits
returns-in-8-clause-refusal c = has_text refusal.NoMessage c.in-8.is refl

pub returns-in-9-clause-refusal : goal.returns-in-9-clause-refusal
unfolding digits
returns-in-9-clause-refusal c = has_text refusal.Down c.in-9.is refl

pub returns-in-10-clause-refusal : goal.returns-in-10-clause-refusal
unfolding digits
returns-in-10-clause-refusal c = has_text refusal.WrongCode c.in-10.is refl

pub returns-in-11-clause-refusal : goal.returns-in-11-clause-refusal
unfolding digits
returns-in-11-clause-refusal c = has_text refusal.MovePending c.in-11.is refl

pub returns-in-12-clause-refusal : goal.returns-in-12-clause-refusal
unfolding digits
returns-in-12-clause-refusal c = has_text refusal.Full c.in-12.is refl

pub returns-in-13-clause-refusal : goal.returns-in-13-clause-refusal
unfolding digits
returns-in-13-clause-refusal c = has_text refusal.Stuck c.in-13.is refl

pub returns-in-14-clause-refusal : goal.returns-in-14-clause-refusal
unfolding digits
returns-in-14-clause-refusal c = has_text refusal.GaveUp c.in-14.is refl

pub returns-in-15-clause-refusal : goal.returns-in-15-clause-refusal
unfolding digits
returns-in-15-clause-refusal c = has_text refusal.BadPieces c.in-15.is refl

pub returns-in-16-clause-refusal : goal.returns-in-16-clause-refusal
unfolding digits
returns-in-16-clause-refusal c = has_text refusal.Collected c.in-16.is refl

pub returns-in-17-clause-refusal : goal.returns-in-17-clause-refusal
unfolding digits
returns-in-17-clause-refusal c = has_text refusal.Stranger c.in-17.is refl
