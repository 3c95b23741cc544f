use Rattle.s3_keyed.specs.Inner.Shape.{layout_in, bytes_in, keys_on}
use Rattle.s3_keyed.specs.Index.{index_in}
use Rattle.s3_keyed.specs.Inner.Added.{entries_of}
use Rattle.std.proofs.Common.{◌^◌, ◌∙◌}
use Rattle.s3_keyed.proofs.Places.{length_keys}
use Rattle.s3_keyed.proofs.Ordered.{ordered_start}
use Rattle.s3_keyed.proofs.keyed.Keyed.open.Goals as goal

pub returns-clause-ordered : goal.returns-clause-ordered
returns-clause-ordered g c =
    let f = c.args.file in
    let contents = (g.P.Sectors.state c.args.pool.now).contents in
    ordered_start f.file.count (256 ^ f.key_length) (index_in (layout_in f) f.file.count (bytes_in f contents)) (entries_of c.new-2.result) (keys_on f contents) c.new-2.ensures (length_keys (layout_in f) f.file.count (bytes_in f contents)) (c.in_ok-is_good.ensures.good ∙ c.if-not-branch.false)
