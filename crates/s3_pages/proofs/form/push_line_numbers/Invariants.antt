-- The numbers so far.
use Rattle.std.proofs.Common.{◌≡◌, ◌++◌, vec_items}
use Rattle.std.specs.List.{flat_map, range_with_len}
use Rattle.s3_pages.specs.Inner.Forms.{line_number}
use Rattle.s3_pages.proofs.form.push_line_numbers.Given as goal

abbrev pub invariant-loop-place : goal.invariant-loop-place
invariant-loop-place l = vec_items l.text ≡ vec_items l.initial.text ++ flat_map line_number (range_with_len 0 l.place)
