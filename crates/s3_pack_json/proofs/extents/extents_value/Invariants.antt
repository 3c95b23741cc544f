-- The extents so far are objects.
use Rattle.std.proofs.Common.{◌≡◌, map, take}
use Rattle.s3_json_lines.specs.Inner.Values.{json_of}
use Rattle.s3_pack_json.specs.Inner.Objects.{extent_json}
use Rattle.s3_pack_json.proofs.extents.extents_value.Given as goal

abbrev pub invariant-loop-extent : goal.invariant-loop-extent
invariant-loop-extent l = map json_of l.values.items ≡ map extent_json (take l.extent-index l.extents)
