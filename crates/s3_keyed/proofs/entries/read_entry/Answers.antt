use Rattle.std.proofs.Common.{◌≡◌, ◌<◌, ◌≤◌, ◌+◌, ◌*◌, ◌^◌, length, sym, ap, ◌∙◌, subst, rules, length-take-le}
use Rattle.s3_keyed.specs.KeyOrder.{number_of}
use Rattle.s3_keyed.specs.Index.{entry_at}
use Rattle.s3_keyed.proofs.Places.{length_buffer, entry_buffer, key_in_entry, length_key}
use Rattle.s3_keyed.proofs.entries.read_entry.Goals as goal

pub returns-clause-ok : goal.returns-clause-ok
unfolding entry_at
returns-clause-ok g c = search rules

pub slice_bounds-buffer-end : goal.slice_bounds-buffer-end
slice_bounds-buffer-end g c = entry_buffer _ _ c.from-key_length.ensures c.args.file.now.short_key

pub slice_bounds-bytes-end : goal.slice_bounds-bytes-end
slice_bounds-bytes-end g c = sym (length_buffer 33 (c.from-key_length.result + 4) (entry_buffer _ _ c.from-key_length.ensures c.args.file.now.short_key))

pub read_bytes-requires-clause-within : goal.read_bytes-requires-clause-within
read_bytes-requires-clause-within g c =
    subst (λ n. c.place_of.result + n ≤ 256 * length c.args.file.now.file.sectors) (sym (length_buffer 33 (c.from-key_length.result + 4) (entry_buffer _ _ c.from-key_length.ensures c.args.file.now.short_key) ∙ ap (λ n. n + 4) c.from-key_length.ensures)) c.place_of.ensures.within

pub slice_bounds-of-end : goal.slice_bounds-of-end
slice_bounds-of-end g c =
    let long : length c.read_bytes.new.bytes ≡ c.from-key_length.result + 4 = c.read_bytes.auto.bytes ∙ length_buffer 33 (c.from-key_length.result + 4) (entry_buffer _ _ c.from-key_length.ensures c.args.file.now.short_key) in
    key_in_entry _ _ long

pub slice_bounds-read_u32-count : goal.slice_bounds-read_u32-count
slice_bounds-read_u32-count g c =
    let long : length c.read_bytes.new.bytes ≡ c.from-key_length.result + 4 = c.read_bytes.auto.bytes ∙ length_buffer 33 (c.from-key_length.result + 4) (entry_buffer _ _ c.from-key_length.ensures c.args.file.now.short_key) in
    key_in_entry _ _ long

pub slice_bounds-of-end-2 : goal.slice_bounds-of-end-2
slice_bounds-of-end-2 g c =
    let long : length c.read_bytes.new.bytes ≡ c.from-key_length.result + 4 = c.read_bytes.auto.bytes ∙ length_buffer 33 (c.from-key_length.result + 4) (entry_buffer _ _ c.from-key_length.ensures c.args.file.now.short_key) in
    sym (length-take-le c.from-key_length.result c.read_bytes.new.bytes (key_in_entry _ _ long))

pub of-key-requires : goal.of-key-requires
of-key-requires g c =
    let long : length c.read_bytes.new.bytes ≡ c.from-key_length.result + 4 = c.read_bytes.auto.bytes ∙ length_buffer 33 (c.from-key_length.result + 4) (entry_buffer _ _ c.from-key_length.ensures c.args.file.now.short_key) in
    subst (λ n. n ≤ 29) (sym (length_key _ _ c.read_bytes.new.bytes c.from-key_length.ensures long)) c.args.file.now.short_key

pub returns-clause-short : goal.returns-clause-short
returns-clause-short g c =
    let long : length c.read_bytes.new.bytes ≡ c.from-key_length.result + 4 = c.read_bytes.auto.bytes ∙ length_buffer 33 (c.from-key_length.result + 4) (entry_buffer _ _ c.from-key_length.ensures c.args.file.now.short_key) in
    subst (λ n. number_of c.of-key.result.bytes < 256 ^ n) (length_key _ _ c.read_bytes.new.bytes c.from-key_length.ensures long) c.of-key.ensures.short
