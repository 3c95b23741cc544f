use Rattle.std.proofs.Common.{◌+◌, ap, ◌∙◌, arith}
use Rattle.byteorder.specs.Endian.{big_number}
use Rattle.s3_keyed.specs.Inner.Shape.{layout_in, bytes_in}
use Rattle.s3_keyed.proofs.Places.{number_there}
use Rattle.s3_keyed.proofs.entries.read_number.Goals as goal

pub returns-clause-ok : goal.returns-clause-ok
returns-clause-ok g c =
    let f = c.args.file.now in
    let bytes = bytes_in f (g.P.Sectors.state c.args.pool.now).contents in
    c.read_u32.ensures
    ∙ ap (big_number 4) c.in_ok-read_bytes.ensures.ok
    ∙ number_there (layout_in f) c.args.i (c.place_of.result + c.from.result) bytes (omega (arith, c.place_of.ensures.place, c.from.ensures))
