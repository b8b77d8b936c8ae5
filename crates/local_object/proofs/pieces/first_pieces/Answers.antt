use Rattle.std.proofs.Common.{◌≡◌, ◌+◌, ◌++◌, take, ap, sym, ◌∙◌, add-one}
use Rattle.std.specs.Option.{option_to_list}
use Rattle.local_object.specs.Pieces.{own_piece, own_pieces}
use Rattle.local_object.proofs.PieceLemmas.{own_more}
use Rattle.local_object.proofs.pieces.first_pieces.Goals as goal

pub loop-taken-preserved : goal.loop-taken-preserved
loop-taken-preserved c =
    let replies = c.args.replies.now in
    let i = c.loop-taken.taken-index in
    let more : own_pieces (take (i + 1) replies) ≡ own_pieces (take i replies) ++ option_to_list (own_piece c.taken-item.result) =
    rw add-one (own_more replies i c.taken-item.result c.loop-taken-test.true c.taken-item.is) in
    c.in_ok-add_own.ensures.added (own_pieces (take i replies)) c.loop-taken.invariant ∙ sym (ap (take c.args.k) more)
