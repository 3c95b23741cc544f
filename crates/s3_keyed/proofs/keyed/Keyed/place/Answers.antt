use Rattle.std.proofs.Common.{inl, inr, arith}
use Rattle.s3_keyed.specs.KeyOrder.{number_of, Entry}
use Rattle.s3_keyed.specs.Inner.Added.{entries_of}
use Rattle.s3_keyed.specs.Inner.Shape.{layout_in, bytes_in}
use Rattle.s3_keyed.proofs.Places.{length_keys}
use Rattle.s3_keyed.proofs.Ordered.{index_ascending, index_hit, index_miss, memory_hit, memory_miss, entry_place_is, found_place, no_place}
use Rattle.s3_keyed.proofs.keyed.Keyed.place.Goals as goal

pub search_index-requires-clause-few : goal.search_index-requires-clause-few
search_index-requires-clause-few g c =
    let self = c.args.self.now in
    omega (arith, self.counted, c.requires.ordered.counted, length_keys (layout_in self.file) self.count (bytes_in self.file (g.P.Sectors.state c.args.pool.now).contents))

pub search_index-requires-clause-ascending : goal.search_index-requires-clause-ascending
search_index-requires-clause-ascending g c =
    let self = c.args.self.now in
    index_ascending (layout_in self.file) self.indexed (bytes_in self.file (g.P.Sectors.state c.args.pool.now).contents) c.requires.ordered.index_ascends

pub overflow_sub-result : goal.overflow_sub-result
overflow_sub-result g c =
    let self = c.args.self.now in
    let bytes = bytes_in self.file (g.P.Sectors.state c.args.pool.now).contents in
    let key = number_of c.args.key.now.bytes in
    let on = index_hit (layout_in self.file) self.indexed key bytes c.in_ok-number.field-0 c.in-Some.number c.in-Some.is c.in_ok-number.ensures.found in
    (entry_place_is _ _ _ _ _ _ _ (record { key = key; number = c.in-Some.number }) c.requires.ordered (inl on)).0

pub returns-in-Some-clause-place : goal.returns-in-Some-clause-place
returns-in-Some-clause-place g c =
    let self = c.args.self.now in
    let bytes = bytes_in self.file (g.P.Sectors.state c.args.pool.now).contents in
    let key = number_of c.args.key.now.bytes in
    let on = index_hit (layout_in self.file) self.indexed key bytes c.in_ok-number.field-0 c.in-Some.number c.in-Some.is c.in_ok-number.ensures.found in
    found_place _ _ _ _ _ _ _ key c.in-Some.number c.requires.ordered (inl on)

pub overflow_sub-result-in-Some-number_of : goal.overflow_sub-result-in-Some-number_of
overflow_sub-result-in-Some-number_of g c =
    let key = number_of c.args.key.now.bytes in
    let on = memory_hit (entries_of c.args.self.now.added) key c.number_of.result c.in-Some-number_of.number c.in-Some-number_of.is c.number_of.ensures in
    let e : Entry = record { key = key; number = c.in-Some-number_of.number } in
    (entry_place_is _ _ _ _ _ _ _ e c.requires.ordered (inr on)).0

pub returns-in-Some-number_of-clause-place : goal.returns-in-Some-number_of-clause-place
returns-in-Some-number_of-clause-place g c =
    let key = number_of c.args.key.now.bytes in
    let on = memory_hit (entries_of c.args.self.now.added) key c.number_of.result c.in-Some-number_of.number c.in-Some-number_of.is c.number_of.ensures in
    let e : Entry = record { key = key; number = c.in-Some-number_of.number } in
    found_place _ _ _ _ _ _ _ key c.in-Some-number_of.number c.requires.ordered (inr on)

pub returns-clause-place : goal.returns-clause-place
returns-clause-place g c =
    let self = c.args.self.now in
    let bytes = bytes_in self.file (g.P.Sectors.state c.args.pool.now).contents in
    let key = number_of c.args.key.now.bytes in
    let lacks = memory_miss (entries_of c.args.self.now.added) key c.number_of.result c.in_default-number_of.is c.number_of.ensures in
    no_place _ _ _ _ _ _ _ key c.requires.ordered
    (index_miss (layout_in self.file) self.indexed key bytes c.in_ok-number.field-0 c.in_default.is c.in_ok-number.ensures.found)
    lacks
