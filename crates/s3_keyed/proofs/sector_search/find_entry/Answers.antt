use Rattle.std.proofs.Common.{◌≡◌, ◌-◌, ◌+◌, ◌<◌, subst, arith}
use Rattle.s3_keyed.specs.KeyOrder.{number_of}
use Rattle.s3_keyed.specs.Inner.Shape.{entry_here}
use Rattle.s3_keyed.proofs.Sectors.{strictly}
use Rattle.s3_keyed.proofs.sector_search.find_entry.Goals as goal

pub returns : goal.returns
returns c =
    let entry = entry_here c.args.key_length c.args.sector.now in
    let key = number_of c.args.key.now.bytes in
    let below = c.entries_below-below.result in
    let said = c.entries_below-below.ensures in
    let some : 0 < below = omega (arith, c.if-below-eq0.false) in
    let inside : below < c.args.entries = omega (arith, said.within, c.if-below-entries.false) in
    let at : below ≡ below - 1 + 1 = omega (arith, some) in
    (below - 1, omega (arith, some, inside), said.below (below - 1) (omega (arith, some)), subst (λ m. key < (entry m).key) at (strictly key (entry below).key c.is_key_of.result c.is_key_of.ensures c.if-is_key_of.false (said.from below (omega arith) inside)))
