-- The samples, computed.
use Rattle.std.proofs.Common.{refl}
use Rattle.s3_lines.specs.Reserved.{reserved_names}
use Rattle.s3_warnings.specs.Inner.Overlaps.{overlaps_from}
use Rattle.s3_warnings.specs.Inner.Samples.{HaveTheirs, indicators, contradictions, files, results, overlapping}
use Rattle.s3_warnings.specs.Inner.Warnings.{warnings}

pub indicator_rows : HaveTheirs indicators
unfolding warnings overlaps_from reserved_names
indicator_rows = refl

pub contradiction_rows : HaveTheirs contradictions
unfolding warnings overlaps_from reserved_names
contradiction_rows = refl

pub file_rows : HaveTheirs files
unfolding warnings overlaps_from reserved_names
file_rows = refl

pub result_rows : HaveTheirs results
unfolding warnings overlaps_from reserved_names
result_rows = refl

pub overlap_rows : HaveTheirs overlapping
unfolding warnings overlaps_from reserved_names
overlap_rows = refl
