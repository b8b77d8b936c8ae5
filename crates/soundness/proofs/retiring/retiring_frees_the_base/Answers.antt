use Rattle.std.proofs.Common.{[], get_or}
use Rattle.record.specs.Records.{layout_at, base_of}
use Rattle.soundness.proofs.Accounting.RetiredBytesLemmas.{sum_position}
use Rattle.soundness.proofs.Sound.DuePositionLemmas.{base_there}
use Rattle.soundness.proofs.retiring.retiring_frees_the_base.Goals as goal

pub returns : goal.returns
returns c = λ fragment object last now servers sound all.
    let below = base_there object sound.legal sound.shape in
    sum_position servers (layout_at object (base_of object)).members (get_or object.banks (base_of object) [])
    (sound.shape.members (base_of object) below) all
