use Rattle.std.proofs.Common.{◌==◌, ap, ◌∙◌}
use Rattle.s3_keyed.specs.KeyOrder.{number_of}
use Rattle.s3_keyed.specs.Inner.Shape.{bytes_in, entry_here}
use Rattle.s3_keyed.proofs.Places.{part_held}
use Rattle.s3_keyed.proofs.record_sector.RecordSector.has_key_at.Goals as goal

pub returns-clause-ok : goal.returns-clause-ok
returns-clause-ok g c =
    let f = c.args.file.now in
    let sector = c.go_to.new.self in
    (rw c.from.ensures at c.is_key_at.ensures)
    ∙ ap (λ l. number_of l == (entry_here f.key_length c.args.index.now c.args.j).key) (part_held c.args.at sector.place f.key_length (bytes_in f (g.P.Sectors.state c.args.pool.now).contents) sector.bytes c.in_ok-go_to.ensures.place c.requires.one c.in_ok-go_to.ensures.ok)
