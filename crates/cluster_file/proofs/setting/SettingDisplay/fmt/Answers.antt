use Rattle.std.proofs.Common.{rules}
use Rattle.cluster_file.proofs.setting.SettingDisplay.fmt.Goals as goal

pub returns-clause-writes : goal.returns-clause-writes
returns-clause-writes g c = search rules
