use Rattle.std.proofs.Common.{◌≡◌, ◌-◌, ◌++◌}
use Rattle.std.specs.List.{flat_map, range_with_len}
use Rattle.s3_pack_check.specs.Inner.Wrongs.{slot_wrongs, area_wrongs}
use Rattle.s3_pack_check.proofs.checking.push_area.Given as goal

abbrev pub invariant-loop-i : goal.invariant-loop-i
invariant-loop-i g l = record {
  told : l.wrongs.items ++ flat_map (slot_wrongs l.areas l.area (g.P.Sectors.state l.initial.pool).contents) (range_with_len l.i (32 - l.i)) ≡ l.initial.wrongs.items ++ area_wrongs l.areas l.area (g.P.Sectors.state l.initial.pool).contents;
  keeps : (g.P.Sectors.state l.pool).contents ≡ (g.P.Sectors.state l.initial.pool).contents;
}
