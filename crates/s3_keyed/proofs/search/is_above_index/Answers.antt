use Rattle.std.proofs.Common.{◌-◌, Some, sym, ap, ◌∙◌, arith}
use Rattle.s3_keyed.specs.KeyOrder.{number_of}
use Rattle.s3_keyed.specs.Index.{index_in}
use Rattle.s3_keyed.specs.Inner.Shape.{layout_in, bytes_in, entry_of}
use Rattle.s3_keyed.proofs.Highest.{highest_says, none_indexed, length_index}
use Rattle.s3_keyed.proofs.Ordered.{get_index}
use Rattle.s3_keyed.proofs.search.is_above_index.Goals as goal

pub returns-then-entries-eq0-clause-above : goal.returns-then-entries-eq0-clause-above
returns-then-entries-eq0-clause-above g c =
    let f = c.args.file.now in
    none_indexed (layout_in f) c.args.entries (number_of c.args.key.now.bytes) (bytes_in f (g.P.Sectors.state c.args.pool.now).contents) c.if-entries-eq0.true

pub returns-clause-above : goal.returns-clause-above
returns-clause-above g c =
    let f = c.args.file.now in
    let bytes = bytes_in f (g.P.Sectors.state c.args.pool.now).contents in
    let n = c.args.entries in
    highest_says (number_of c.args.key.now.bytes) (index_in (layout_in f) n bytes) (n - 1) (entry_of c.in_ok-last.last) c.requires.ascending (omega (arith, length_index (layout_in f) n bytes, c.if-entries-eq0.false))
    (get_index (layout_in f) n (n - 1) bytes (omega (arith, c.if-entries-eq0.false)) ∙ ap Some (sym c.in_ok-last.ensures.ok))
    ∙ sym c.is_above.ensures
