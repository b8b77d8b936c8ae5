use Rattle.std.proofs.Common.{arith, string_bytes}
use Rattle.casd.proofs.ThreeWordLemmas.{of_three}
use Rattle.casd.proofs.arguments.read_request.Goals as goal

pub returns-in-len3 : goal.returns-in-len3
returns-in-len3 c =
    of_three string_bytes c.args.words.now _ _ _ _ _ _ c.read_run.result (omega arith) (omega arith) c.file-item.is
    c.number-item.is c.folder-item.is c.as_str-in-len3.ensures.value c.as_str-in-len3-2.ensures.value
    c.as_str-in-len3-3.ensures.value c.read_run.ensures
