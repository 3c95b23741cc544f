use Rattle.std.proofs.Common.{◌+◌, refl, ap, ◌∙◌, arith}
use Rattle.s3_store.specs.Bytes.{sector_bytes}
use Rattle.s3_labels.proofs.Copies.{sectors_on, sectors_start}
use Rattle.s3_labels.proofs.new_packs.push_sectors.Goals as goal

pub loop-i-init : goal.loop-i-init
loop-i-init c = record { same = refl; done = sectors_start c.args.region.start c.args.old.now c.args.bytes.now.items }

pub overflow_add-region : goal.overflow_add-region
overflow_add-region c = omega (arith, c.loop-i-test.true, c.requires.few)

pub loop-i-preserved : goal.loop-i-preserved
loop-i-preserved c = record {
  same = c.in-Ok.ensures.keeps.contents ∙ c.loop-i.invariant.same;
  done = c.in_ok-push_part-in-Ok.ensures ∙ sectors_on c.args.region.start c.loop-i.i c.args.old.now c.args.bytes.now.items c.loop-i.bytes.items c.in-Ok.sector c.loop-i.invariant.done
      (c.in-Ok.ensures.ok ∙ ap (λ contents. sector_bytes contents (c.args.region.start + c.loop-i.i)) c.loop-i.invariant.same);
}
