use Rattle.std.proofs.Common.{◌+◌, ◌-◌, ◌/◌, arith}
use Rattle.s3_keyed.specs.Inner.Sought.{sought_key}
use Rattle.s3_keyed.specs.Inner.Shape.{entry_here}
use Rattle.s3_keyed.proofs.Sectors.{middle_below, below_middle, from_middle}
use Rattle.s3_keyed.proofs.sector_search.count_below.Goals as goal

pub is_entry_below-requires-clause-inside : goal.is_entry_below-requires-clause-inside
is_entry_below-requires-clause-inside c = middle_below c.halve.low c.halve.high (256 / (c.args.key_length + 4)) c.halve-test.true (omega (arith, c.halve.invariant.within, c.requires.inside))

pub halve-preserved-then-is_entry_below : goal.halve-preserved-then-is_entry_below
halve-preserved-then-is_entry_below c =
    let low = c.halve.low in
    let high = c.halve.high in
    let entry = entry_here c.args.key_length c.args.sector.now in
    record {
      within = c.halve.invariant.within;
      order = omega (arith, middle_below low high high c.halve-test.true (omega arith));
      below = below_middle entry c.args.entries (low + (high - low) / 2) (sought_key c.args.sought.now) c.is_entry_below.result c.requires.ascending (middle_below low high c.args.entries c.halve-test.true c.halve.invariant.within) c.is_entry_below.ensures c.if-is_entry_below.true;
      from = c.halve.invariant.from;
    }

pub halve-preserved : goal.halve-preserved
halve-preserved c =
    let low = c.halve.low in
    let high = c.halve.high in
    let entry = entry_here c.args.key_length c.args.sector.now in
    record {
      within = omega (arith, middle_below low high c.args.entries c.halve-test.true c.halve.invariant.within);
      order = omega arith;
      below = c.halve.invariant.below;
      from = from_middle entry c.args.entries (low + (high - low) / 2) (sought_key c.args.sought.now) c.is_entry_below.result c.requires.ascending c.is_entry_below.ensures c.if-is_entry_below.false;
    }

pub returns-clause-from : goal.returns-clause-from
returns-clause-from c i from below = c.halve.invariant.from i (omega (arith, from, c.halve-test.false)) below
