use Rattle.std.proofs.Common.{inl, arith}
use Rattle.s3_keyed.specs.KeyOrder.{number_of}
use Rattle.s3_keyed.specs.Inner.Shape.{layout_in, bytes_in}
use Rattle.s3_keyed.proofs.Places.{length_keys}
use Rattle.s3_keyed.proofs.Ordered.{entry_place_is, found_place}
use Rattle.s3_keyed.proofs.Few.{entry_hit}
use Rattle.s3_keyed.proofs.keyed.Keyed.quick_place.Goals as goal

pub search_from-requires-clause-few : goal.search_from-requires-clause-few
search_from-requires-clause-few g c =
    let self = c.args.self.now in
    omega (arith, self.counted, c.requires.ordered.counted, length_keys (layout_in self.file) self.count (bytes_in self.file (g.P.Sectors.state c.args.pool.now).contents))

pub overflow_sub-result : goal.overflow_sub-result
overflow_sub-result g c =
    let self = c.args.self.now in
    let bytes = bytes_in self.file (g.P.Sectors.state c.args.pool.now).contents in
    let key = number_of c.args.key.now in
    let on = entry_hit (layout_in self.file) self.indexed c.in-Some.key key bytes c.in_ok-number.field-0 c.in-Some-2.number c.in-Some-2.is c.in-Some.ensures.number c.in_ok-number.ensures.found in
    (entry_place_is _ _ _ _ _ _ _ (record { key = key; number = c.in-Some-2.number }) c.requires.ordered (inl on)).0

pub returns-in-Some-2-clause-place : goal.returns-in-Some-2-clause-place
returns-in-Some-2-clause-place g c =
    let self = c.args.self.now in
    let bytes = bytes_in self.file (g.P.Sectors.state c.args.pool.now).contents in
    let key = number_of c.args.key.now in
    let on = entry_hit (layout_in self.file) self.indexed c.in-Some.key key bytes c.in_ok-number.field-0 c.in-Some-2.number c.in-Some-2.is c.in-Some.ensures.number c.in_ok-number.ensures.found in
    found_place _ _ _ _ _ _ _ key c.in-Some-2.number c.requires.ordered (inl on)
