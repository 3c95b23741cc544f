use Rattle.std.proofs.Common.{◌≤◌, sym, ap, ◌∙◌, arith}
use Rattle.s3_store.specs.Bytes.{part}
use Rattle.s3_keyed.specs.KeyOrder.{number_of}
use Rattle.s3_keyed.specs.Inner.Shape.{layout_in, bytes_in}
use Rattle.s3_keyed.proofs.Places.{key_there, length_buffer}
use Rattle.s3_keyed.proofs.entries.read_key.Goals as goal

pub returns-clause-ok : goal.returns-clause-ok
returns-clause-ok g c =
    let f = c.args.file.now in
    let file = bytes_in f (g.P.Sectors.state c.args.pool.now).contents in
    let short : c.from.result ≤ 29 = omega (arith, c.from.ensures, f.short_key) in
    c.of.ensures.number
    ∙ ap number_of (c.in_ok-read_bytes.ensures.ok ∙ ap (part file c.key_place.result) (length_buffer 29 c.from.result short ∙ c.from.ensures) ∙ ap (λ at. part file at f.key_length) c.key_place.ensures.place)
    ∙ sym (key_there (layout_in f) c.args.i file f.some_start f.key_inside)
