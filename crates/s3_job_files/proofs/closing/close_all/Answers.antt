use Rattle.std.proofs.Common.{rules, length, arith, ap, sym, ◌∙◌}
use Rattle.std.specs.Vec.Iter.{into_iter_items}
use Rattle.s3_job_files.proofs.Closed.{closes_first, closes_none, first_stands, rest_ready}
use Rattle.s3_job_files.proofs.Packs.{pack_err, pack_kept, pack_ok, pack_then}
use Rattle.s3_job_files.proofs.closing.close_all.Goals as goal

pub loop-file-init : goal.loop-file-init
loop-file-init g c = record {
  left = search rules;
  ready = search rules;
  closes = search rules;
  leaves = pack_kept c.args.level c.args.pack.now.areas _ _ c.requires.ready.pack;
}

pub close_file-requires-clause-stands : goal.close_file-requires-clause-stands
close_file-requires-clause-stands g c = first_stands c.args.level (into_iter_items c.loop-file.file-iterator) c.in-Some.file (into_iter_items c.next.new.self) _ c.in-Some.ensures.steps.0 c.loop-file.invariant.ready

pub loop-file-preserved : goal.loop-file-preserved
loop-file-preserved g c =
    let before = c.loop-file.invariant in
    let closed = c.in_ok-close_file.ensures.closes in
    let (first, fewer) = c.in-Some.ensures.steps in
    record {
      left = omega (arith, before.left, ap length first, fewer);
      ready = rest_ready c.args.level (into_iter_items c.loop-file.file-iterator) c.in-Some.file (into_iter_items c.next.new.self) _ _ first before.ready closed;
      closes = λ last more. before.closes last (closes_first c.args.level (into_iter_items c.loop-file.file-iterator) c.in-Some.file (into_iter_items c.next.new.self) _ _ last first before.ready closed more);
      leaves = pack_ok _ (pack_then before.leaves c.in_ok-close_file.ensures.leaves);
    }

pub returns-in_err-close_file-clause-leaves : goal.returns-in_err-close_file-clause-leaves
returns-in_err-close_file-clause-leaves g c = pack_err _ c.from_residual.ensures.1 (pack_then c.loop-file.invariant.leaves c.in_err-close_file.ensures.leaves)

pub returns-clause-closes : goal.returns-clause-closes
returns-clause-closes g c = c.loop-file.invariant.closes _ (closes_none c.args.level (into_iter_items c.loop-file.file-iterator) _ (sym c.loop-file.invariant.left ∙ c.in-None.ensures.steps.0))
