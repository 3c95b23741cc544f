use Rattle.std.proofs.Common.{◌+◌, ◌*◌, ◌/◌, ◌^◌, ◌<◌, ◌≤◌, length, sym, ap, subst}
use Rattle.s3_slots.specs.Labels.{sectors_of}
use Rattle.s3_slots.specs.Slots.{record_sectors, index_sectors}
use Rattle.s3_keyed.proofs.indexed.IndexedFile.of.Goals as goal

pub invariant_of-result : goal.invariant_of-result
unfolding sectors_of
invariant_of-result c =
    let label = c.args.label.now in
    let file = c.of.result in
    record {
      some_key = c.requires.index.some_key;
      short_key = c.requires.index.short_key;
      some_start = c.requires.index.some_start;
      key_inside = subst (λ n. label.key_start + label.key_length ≤ n + 1) (sym c.of.ensures.record_length) c.requires.index.inside;
      index_fits =
          subst (λ s. record_sectors file.capacity file.record_length + index_sectors file.capacity label.key_length ≤ length s) (sym c.of.ensures.sectors)
          (subst (λ n. record_sectors file.capacity n + index_sectors file.capacity label.key_length ≤ length (sectors_of label)) (sym c.of.ensures.record_length)
          (subst (λ n. record_sectors n label.record_length + index_sectors n label.key_length ≤ length (sectors_of label)) (sym c.of.ensures.capacity) c.requires.index.fits));
      whole_entries = ap (λ n. 256 / (n + 4)) c.from.ensures;
      small = subst (λ s. 256 * length s < 2 ^ 31) (sym c.of.ensures.sectors) c.requires.room.few;
    }
