use Rattle.std.proofs.Common.{take, ap, ◌∙◌}
use Rattle.std.specs.Ordering.{nat_cmp}
use Rattle.s3_keyed.specs.KeyOrder.{number_of}
use Rattle.s3_keyed.proofs.KeyNumbers.{fits_eight}
use Rattle.s3_keyed.proofs.index_sector.compare_number.Goals as goal

pub returns : goal.returns
returns c = c.cmp.ensures ∙ ap (λ n. nat_cmp n c.short_number.result) c.number_at.ensures ∙ ap (nat_cmp (number_of (take c.args.key_length c.args.entry.now))) c.short_number.ensures

pub short_number-requires : goal.short_number-requires
short_number-requires c = fits_eight c.args.key_length (number_of c.args.key.now.bytes) c.requires.short c.requires.short_key
