use Rattle.told_replies.proofs.ToldTagLemmas.{told_tags_held}
use Rattle.told_replies.proofs.told_tags_are_held.Goals as goal

pub returns : goal.returns
returns c = told_tags_held
