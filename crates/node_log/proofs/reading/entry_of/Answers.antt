use Rattle.std.proofs.Common.{sym, subst, rules, ap, ◌∙◌}
use Rattle.node_log.specs.Entry.{described}
use Rattle.node_log.specs.Parts.{IsBodyOf}
use Rattle.node_log.proofs.HeadLemmas.{head_is_of, says_of}
use Rattle.node_log.proofs.reading.entry_of.Goals as goal

pub of-requires : goal.of-requires
of-requires c =
    c.said_in.ensures
    ∙ says_of c.args.chain.state c.args.head.now c.args.body.now c.requires.head c.fits-head c.requires.length
    (c.has_digest.ensures.0 (search rules))
    ∙ ap described c.in_ok-frame.ensures.1

pub returns : goal.returns
returns c =
    let is = c.in_ok-frame.ensures in
    let chain = c.args.chain.state in
    subst (IsBodyOf chain c.args.head.now c.args.body.now) (sym c.of.ensures) (record {
      lawful = is.0;
      is_frame = is.1;
      is_head = head_is_of chain c.args.head.now c.args.body.now c.requires.head c.fits-head c.requires.length
          (c.has_digest.ensures.0 (search rules));
    })
