use Rattle.std.proofs.Common.{length, drop, refl, ap, ◌∙◌}
use Rattle.byteorder.specs.Endian.{big_number}
use Rattle.s3_keyed.proofs.Places.{rest_of, length_entry, key_in_entry}
use Rattle.s3_keyed.proofs.index_sector.number_in.Goals as goal

pub returns : goal.returns
returns c =
    let k = c.args.key_length in
    let entry = c.entry_bytes.result.now in
    c.read_u32.ensures ∙ ap (big_number 4) (rest_of (length entry) k entry refl) ∙ ap (λ l. big_number 4 (drop k l)) c.entry_bytes.ensures

pub slice_bounds-read_u32-count : goal.slice_bounds-read_u32-count
slice_bounds-read_u32-count c = key_in_entry c.args.key_length c.entry_bytes.result.now (length_entry c.args.j _ c.args.sector.now _ c.told-sector c.requires.inside c.entry_bytes.ensures)
