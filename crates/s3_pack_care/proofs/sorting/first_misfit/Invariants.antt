use Rattle.std.proofs.Common.{◌≡◌, ◌<◌, ℕ, true, slice_index_or}
use Rattle.s3_pack_care.specs.Inner.Keys.{fits}
use Rattle.s3_pack_care.specs.declared.fields.SortField.{SortField}
use Rattle.s3_pack_care.proofs.sorting.first_misfit.Given as goal

abbrev pub invariant-loop-i : goal.invariant-loop-i
invariant-loop-i l = (k : ℕ) (d : SortField) → k < l.i → fits (slice_index_or l.fields k d) l.record_length ≡ true
