use Rattle.std.proofs.Common.{refl}
use Rattle.s3_pack_check.proofs.damage.number_damage.Goals as goal

pub returns : goal.returns
returns c =
    rw (
      c.unless.ensures,
      c.is_record_length.ensures,
      c.unless-by_key.ensures,
      c.is_key_of-is_key.ensures,
      c.unless-by_capacity.ensures,
      c.is_capacity.ensures,
      c.unless-by_count.ensures,
      c.is_count_of-is_count.ensures,
      c.half_at-record_length.ensures,
      c.half_at-key_start.ensures,
      c.word_at-capacity.ensures,
      c.word_at-count.ensures,
    ) refl
