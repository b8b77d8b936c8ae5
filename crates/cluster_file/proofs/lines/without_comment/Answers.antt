use Rattle.std.proofs.Common.{sym, ◌∙◌}
use Rattle.cluster_file.proofs.LineLemmas.{before_comment, no_comment}
use Rattle.cluster_file.proofs.lines.without_comment.Goals as goal

pub returns-in-Some : goal.returns-in-Some
returns-in-Some c = before_comment _ _ (sym c.comment_of.ensures ∙ c.in-Some.is)

pub returns-in-None : goal.returns-in-None
returns-in-None c = no_comment _ (sym c.comment_of.ensures ∙ c.in-None.is)
