use Rattle.std.proofs.Common.{◌≡◌, ◌∙◌, List, ap, subst, sym}
use Rattle.std.specs.Prelude.{None, Some, slice_get}
use Rattle.s3_bureau.specs.Inner.Queries.{IsFound}
use Rattle.s3_store.specs.Stretches.{sectors_in}
use Rattle.s3_evidence.specs.Inner.About.{AreOfSectors}
use Rattle.s3_evidence.proofs.Abouts.{none_read, one_read}
use Rattle.s3_evidence.proofs.Looks.{looks_none, looks_then}
use Rattle.s3_evidence.proofs.reading.read_sectors.Goals as goal

pub loop-i-preserved : goal.loop-i-preserved
loop-i-preserved g c =
    let contents = c.args.bureau.now.beside.state.contents in
    let kept : c.loop-i.bureau.beside.state.contents ≡ contents = c.loop-i.invariant.looks.keeps.contents in
    let there : slice_get c.loop-i.bureau.beside.state.contents c.in-Some.n ≡ Some c.read_sector.new.sector =
    subst (λ found. IsFound found (slice_get c.loop-i.bureau.beside.state.contents c.in-Some.n) c.read_sector.new.sector) c.if-not-branch.false c.in_ok-read_sector.ensures.found in
    record {
      looks = looks_then None c.args.bureau.now c.loop-i.bureau c.read_sector.new.bureau c.loop-i.invariant.looks c.in_ok-read_sector.ensures.looks;
      from = one_read (sectors_in c.args.runs.now) contents c.in-Some.n c.loop-i.bytes.items c.read_sector.new.sector c.extend_from_slice.new.self.items
          c.in-Some.ensures (ap (λ (all : List _). slice_get all c.in-Some.n) (sym kept) ∙ there) c.read_sector.array_long c.in_ok-extend_from_slice.ensures.items c.loop-i.invariant.from;
    }

pub loop-i-init : goal.loop-i-init
loop-i-init g c = record {
  looks = looks_none c.args.bureau.now;
  from = subst (AreOfSectors (sectors_in c.args.runs.now) c.args.bureau.now.beside.state.contents) (sym c.new-bytes.ensures.items) (none_read (sectors_in c.args.runs.now) c.args.bureau.now.beside.state.contents);
}
