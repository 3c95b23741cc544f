use Rattle.std.proofs.Common.{take, ap, ◌∙◌}
use Rattle.std.specs.Ordering.{nat_cmp}
use Rattle.s3_keyed.specs.KeyOrder.{number_of}
use Rattle.s3_keyed.proofs.Places.{length_entry}
use Rattle.s3_keyed.proofs.index_sector.compare_entry.Goals as goal

pub returns-in-0-to-3 : goal.returns-in-0-to-3
returns-in-0-to-3 c = c.compare_bytes.ensures ∙ ap (λ l. nat_cmp (number_of (take c.args.key_length l)) (number_of c.args.key.now.bytes)) c.entry_bytes-entry.ensures

pub returns-in-4-to-8 : goal.returns-in-4-to-8
returns-in-4-to-8 c = c.compare_number.ensures ∙ ap (λ l. nat_cmp (number_of (take c.args.key_length l)) (number_of c.args.key.now.bytes)) c.entry_bytes-entry.ensures

pub returns-in_default : goal.returns-in_default
returns-in_default c = c.compare_head.ensures ∙ ap (λ l. nat_cmp (number_of (take c.args.key_length l)) (number_of c.args.key.now.bytes)) c.entry_bytes-entry.ensures

pub compare_bytes-requires-clause-whole : goal.compare_bytes-requires-clause-whole
compare_bytes-requires-clause-whole c = length_entry c.args.j _ c.args.sector.now _ c.told-sector c.requires.inside c.entry_bytes-entry.ensures

pub compare_number-requires-clause-whole : goal.compare_number-requires-clause-whole
compare_number-requires-clause-whole c = length_entry c.args.j _ c.args.sector.now _ c.told-sector c.requires.inside c.entry_bytes-entry.ensures

pub compare_head-requires-clause-whole : goal.compare_head-requires-clause-whole
compare_head-requires-clause-whole c = length_entry c.args.j _ c.args.sector.now _ c.told-sector c.requires.inside c.entry_bytes-entry.ensures
