use Rattle.soak_parts.proofs.SoakLayoutLemmas.{four_lawful, five_lawful, three_lawful}
use Rattle.soak_parts.proofs.setting.add_layouts.Goals as goal

pub add-requires-clause-lawful : goal.add-requires-clause-lawful
add-requires-clause-lawful c = four_lawful

pub add-requires-2-clause-lawful : goal.add-requires-2-clause-lawful
add-requires-2-clause-lawful c = five_lawful

pub add-requires-3-clause-lawful : goal.add-requires-3-clause-lawful
add-requires-3-clause-lawful c = three_lawful
