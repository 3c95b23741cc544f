use Rattle.std.proofs.Common.{◌≡◌, ◌+◌, length, sym, ap, subst, ◌∙◌, arith}
use Rattle.s3_keyed.specs.KeyOrder.{key_order, is_good_index}
use Rattle.s3_keyed.specs.Index.{index_in, keys_of}
use Rattle.s3_keyed.specs.Inner.Added.{entries_of}
use Rattle.s3_keyed.specs.Inner.Shape.{layout_in, bytes_in}
use Rattle.s3_keyed.specs.Inner.Keyed.{shown, keys_now}
use Rattle.s3_keyed.specs.Inner.Unused.{KeepsUnused}
use Rattle.s3_keyed.proofs.Places.{length_keys}
use Rattle.s3_keyed.proofs.Goodness.{to_ascends, order_is_good}
use Rattle.s3_keyed.proofs.Ordered.{index_ascending}
use Rattle.s3_keyed.proofs.keyed.Keyed.close.Goals as goal

pub merge-requires-clause-room : goal.merge-requires-clause-room
merge-requires-clause-room g c =
    let self = c.args.self in
    omega (arith, self.counted, c.requires.ordered.counted, length_keys (layout_in self.file) self.count (bytes_in self.file (g.P.Sectors.state c.args.pool.now).contents))

pub merge-requires-clause-ascending : goal.merge-requires-clause-ascending
merge-requires-clause-ascending g c =
    let self = c.args.self in
    index_ascending (layout_in self.file) self.indexed (bytes_in self.file (g.P.Sectors.state c.args.pool.now).contents) c.requires.ordered.index_ascends

pub returns-clause-index : goal.returns-clause-index
returns-clause-index g c =
    let self = c.args.self in
    let old = bytes_in self.file (g.P.Sectors.state c.args.pool.now).contents in
    let new = bytes_in self.file (g.P.Sectors.state c.merge.new.pool).contents in
    let all : self.indexed + length (entries_of self.added) ≡ self.count = omega (arith, c.requires.ordered.counted, length_keys (layout_in self.file) self.count old) in
    ap (λ n. index_in (layout_in self.file) n new) (sym all) ∙ c.in_ok-merge.ensures.merged ∙ c.requires.ordered.order

pub returns-clause-good : goal.returns-clause-good
returns-clause-good g c =
    let self = c.args.self in
    let layout = layout_in self.file in
    let old = bytes_in self.file (g.P.Sectors.state c.args.pool.now).contents in
    let new = bytes_in self.file (g.P.Sectors.state c.merge.new.pool).contents in
    let keys = keys_now (shown self) (g.P.Sectors.state c.args.pool.now).contents in
    let all : self.indexed + length (entries_of self.added) ≡ self.count = omega (arith, c.requires.ordered.counted, length_keys layout self.count old) in
    let index : index_in layout self.count new ≡ key_order keys = ap (λ n. index_in layout n new) (sym all) ∙ c.in_ok-merge.ensures.merged ∙ c.requires.ordered.order in
    let same : keys_now (shown self) (g.P.Sectors.state c.merge.new.pool).contents ≡ keys = ap (keys_of layout.key) (c.merge.ensures.records self.count self.counted) in
    ap (λ l. is_good_index l (keys_now (shown self) (g.P.Sectors.state c.merge.new.pool).contents)) index
    ∙ ap (is_good_index (key_order keys)) same
    ∙ order_is_good keys (to_ascends (key_order keys) c.requires.ordered.distinct)

pub returns-in_err-merge-clause-unused : goal.returns-in_err-merge-clause-unused
returns-in_err-merge-clause-unused g c =
    let self = c.args.self in
    let old = bytes_in self.file (g.P.Sectors.state c.args.pool.now).contents in
    let all : self.indexed + length (entries_of self.added) ≡ self.count = omega (arith, c.requires.ordered.counted, length_keys (layout_in self.file) self.count old) in
    subst (λ n. KeepsUnused (layout_in self.file) n old (bytes_in self.file (g.P.Sectors.state c.merge.new.pool).contents)) all c.merge.ensures.unused

pub returns-clause-unused : goal.returns-clause-unused
returns-clause-unused g c =
    let self = c.args.self in
    let old = bytes_in self.file (g.P.Sectors.state c.args.pool.now).contents in
    let all : self.indexed + length (entries_of self.added) ≡ self.count = omega (arith, c.requires.ordered.counted, length_keys (layout_in self.file) self.count old) in
    subst (λ n. KeepsUnused (layout_in self.file) n old (bytes_in self.file (g.P.Sectors.state c.merge.new.pool).contents)) all c.merge.ensures.unused
