use Rattle.std.proofs.lemmas.Nat.{be_bytes_4}
use Rattle.node_messages.proofs.layouts.number_of.Goals as goal

pub returns-clause-bytes : goal.returns-clause-bytes
returns-clause-bytes c = be_bytes_4 c.args.bytes.now _ c.told-bytes c.fits-bytes c.from_be_bytes.ensures
