use Rattle.std.proofs.Common.{arith}
use Rattle.s3_keyed.specs.KeyOrder.{number_of}
use Rattle.s3_keyed.proofs.KeyNumbers.{fits_eight}
use Rattle.s3_keyed.proofs.sector_search.entries_below.Goals as goal

pub short_number-requires : goal.short_number-requires
short_number-requires c = fits_eight c.args.key_length (number_of c.args.key.now.bytes) (omega (arith, c.in-4-to-8)) c.requires.short_key
