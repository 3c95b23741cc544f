use Rattle.std.proofs.Common.{rules, length, arith, ap, sym, ◌∙◌}
use Rattle.std.specs.Vec.Iter.{into_iter_items}
use Rattle.s3_job_files.specs.Inner.Holds.{seen}
use Rattle.s3_job_files.proofs.Packs.{pack_err, pack_kept, pack_ok, pack_then}
use Rattle.s3_opening.proofs.OneByOne.{adds_all, adds_nothing, can_next, can_one, holds_all, holds_none}
use Rattle.s3_opening.proofs.starting.start_all.Goals as goal

pub loop-start-init : goal.loop-start-init
loop-start-init g c = record {
  left = search rules;
  can = search rules;
  holds = search rules;
  adds = search rules;
  leaves = pack_kept c.args.level c.args.pack.now.areas _ _ c.requires.can.ready.pack;
}

pub start_file-requires : goal.start_file-requires
start_file-requires g c = record {
  can = can_one c.args.level (into_iter_items c.loop-start.start-iterator) c.in-Some.start (into_iter_items c.next.new.self) c.loop-start.files.items _ c.in-Some.ensures.steps.0 c.loop-start.invariant.can;
}

pub loop-start-preserved : goal.loop-start-preserved
loop-start-preserved g c =
    let before = c.loop-start.invariant in
    let started = c.in_ok-start_file.ensures.starts in
    let (first, fewer) = c.in-Some.ensures.steps in
    let left = into_iter_items c.loop-start.start-iterator in
    let rest = into_iter_items c.next.new.self in
    let items = c.loop-start.files.items in
    let more = c.start_file.new.files.items in
    let old = seen c.loop-start.pack.areas (g.P.Sectors.state c.loop-start.pack.pool).contents in
    let new = seen c.start_file.new.pack.areas (g.P.Sectors.state c.start_file.new.pack.pool).contents in
    record {
      left = omega (arith, before.left, ap length first, fewer);
      can = can_next c.args.level left c.in-Some.start rest items more old new first started before.can;
      holds = λ later last others. before.holds later last (holds_all c.args.level left c.in-Some.start rest items more later old new last first started before.can others);
      adds = λ later others. before.adds later (adds_all left c.in-Some.start rest items more later old new c.args.level first started others);
      leaves = pack_ok _ (pack_then before.leaves c.in_ok-start_file.ensures.leaves);
    }

pub returns-in_err-start_file-clause-leaves : goal.returns-in_err-start_file-clause-leaves
returns-in_err-start_file-clause-leaves g c = pack_err _ c.from_residual.ensures.1 (pack_then c.loop-start.invariant.leaves c.in_err-start_file.ensures.leaves)

pub returns-clause-starts : goal.returns-clause-starts
returns-clause-starts g c =
    let done = c.loop-start.invariant in
    let none = sym done.left ∙ c.in-None.ensures.steps.0 in
    record {
      adds = done.adds _ (adds_nothing (into_iter_items c.loop-start.start-iterator) c.loop-start.files.items none);
      ready = done.can.ready;
      holds = done.holds _ _ (holds_none c.args.level (into_iter_items c.loop-start.start-iterator) c.loop-start.files.items _ none);
    }
