use Rattle.s3_labels.specs.Inner.Areas.{region_at, slots_at}
use Rattle.s3_labels.proofs.Makes.{IsPlanning}
use Rattle.s3_labels.proofs.pack.Pack.plan.Given as goal

abbrev pub invariant-loop-place : goal.invariant-loop-place
invariant-loop-place g l = IsPlanning l.fn.self.areas.header.format (region_at l.fn.level l.fn.self.areas) l.fn.self.areas.masters l.news (slots_at l.fn.level l.fn.self.areas) l.place l.slots.items
