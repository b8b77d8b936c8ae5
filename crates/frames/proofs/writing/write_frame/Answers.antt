use Rattle.std.proofs.Common.{ap, length}
use Rattle.std.specs.List.{flat_map}
use Rattle.std.proofs.lemmas.Result.{err_from_is_err_and}
use Rattle.frames.specs.Frame.{header, string_bytes, frame_bytes}
use Rattle.frames.proofs.WriteSequenceLemmas.{lost, Writes_then, Writes_lost, Writes_as}
use Rattle.frames.proofs.writing.write_frame.Goals as goal

pub returns-in_err-write_header : goal.returns-in_err-write_header
returns-in_err-write_header g c =
    let p = err_from_is_err_and c.from_residual.result c.from_residual.ensures.1 in
    let error = c.in_err-write_header.field-0.0 in
    let strings = c.strings-strings.result.now in
    rw p.1 (Writes_as _ _ (lost (Unit {0}) error) (frame_bytes strings) (frame_bytes c.args.frame.now)
    (ap frame_bytes c.strings-strings.ensures.strings)
    (Writes_lost (Unit {0}) (Unit {0}) _ _ error (header 42 (length strings)) (flat_map string_bytes strings)
    c.in_err-write_header.ensures))

pub returns : goal.returns
returns g c =
    let strings = c.strings-strings.result.now in
    Writes_as _ _ c.write_strings.result (frame_bytes strings) (frame_bytes c.args.frame.now)
    (ap frame_bytes c.strings-strings.ensures.strings)
    (Writes_then _ _ _ (tt {0}) c.write_strings.result (header 42 (length strings)) (flat_map string_bytes strings)
    c.in_ok-write_header.ensures c.write_strings.ensures)
