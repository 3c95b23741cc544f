use Rattle.std.proofs.Common.{nat_lt, ◌∙◌, arith}
use Rattle.std.specs.List.{list_all}
use Rattle.s3_keyed.specs.KeyOrder.{number_of, keys_in}
use Rattle.s3_keyed.specs.Index.{index_in}
use Rattle.s3_keyed.specs.Inner.Added.{entries_of}
use Rattle.s3_keyed.specs.Inner.Shape.{layout_in, bytes_in}
use Rattle.s3_keyed.specs.Inner.Keyed.{shown, keys_now}
use Rattle.s3_keyed.proofs.Places.{length_keys}
use Rattle.s3_keyed.proofs.Highest.{order_above, order_not_above, above_answer}
use Rattle.s3_keyed.proofs.keyed.Keyed.is_above_all.Goals as goal

pub returns-then-not-are_below-clause-above : goal.returns-then-not-are_below-clause-above
returns-then-not-are_below-clause-above g c =
    let self = c.args.self.now in
    let k = number_of c.args.key.now.bytes in
    let contents = (g.P.Sectors.state c.args.pool.now).contents in
    order_not_above k (index_in (layout_in self.file) self.indexed (bytes_in self.file contents)) (entries_of self.added) (keys_now (shown self) contents) c.requires.ordered.order
    (c.are_below.ensures ∙ c.if-not-are_below.true)

pub is_above_index-requires-clause-few : goal.is_above_index-requires-clause-few
is_above_index-requires-clause-few g c =
    let self = c.args.self.now in
    omega (arith, self.counted, c.requires.ordered.counted, length_keys (layout_in self.file) self.count (bytes_in self.file (g.P.Sectors.state c.args.pool.now).contents))

pub returns-clause-above : goal.returns-clause-above
returns-clause-above g c =
    let self = c.args.self.now in
    let k = number_of c.args.key.now.bytes in
    let contents = (g.P.Sectors.state c.args.pool.now).contents in
    let index = index_in (layout_in self.file) self.indexed (bytes_in self.file contents) in
    let on_added = c.are_below.ensures ∙ c.if-not-are_below.false in
    above_answer (list_all (λ other. nat_lt other k) (keys_in index)) (list_all (λ other. nat_lt other k) (keys_now (shown self) contents)) c.is_above_index.result
    (λ x on_index. order_above k index (entries_of self.added) (keys_now (shown self) contents) x c.requires.ordered.order on_added on_index)
    c.is_above_index.ensures.above
