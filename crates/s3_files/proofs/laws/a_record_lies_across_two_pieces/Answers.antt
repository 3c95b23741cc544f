use Rattle.std.proofs.Common.{refl}
use Rattle.s3_store.specs.Bytes.{sector_bytes, bytes_at}
use Rattle.s3_files.specs.Records.{records_in}
use Rattle.s3_files.proofs.laws.a_record_lies_across_two_pieces.Goals as goal

pub returns : goal.returns
unfolding records_in bytes_at sector_bytes
returns c = refl
