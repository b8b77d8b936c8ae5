use Rattle.node_strings.proofs.LayoutLemmas.{layout_found, layout_only}
use Rattle.node_strings.proofs.layouts.read_layout.Goals as goal

pub returns-clause-found : goal.returns-clause-found
returns-clause-found g c = layout_found c.args.fault c.args.string.now c.read_bytes.result c.read_bytes.ensures

pub returns-clause-only : goal.returns-clause-only
returns-clause-only g c = layout_only c.args.fault c.args.string.now c.read_bytes.result c.read_bytes.ensures
