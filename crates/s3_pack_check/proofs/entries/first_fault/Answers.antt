use Rattle.std.proofs.Common.{ap, sym, ◌∙◌}
use Rattle.s3_pack_check.specs.Inner.Entries.{first_fault, with_place, wrong_entry}
use Rattle.s3_pack_check.proofs.Firsts.{first_here, first_later}
use Rattle.s3_pack_check.proofs.entries.first_fault.Goals as goal

pub returns-in-Some : goal.returns-in-Some
returns-in-Some c =
    first_here (wrong_entry c.args.label.now c.args.bytes.now) (first_fault c.args.label.now c.args.bytes.now) c.loop-i.i c.args.label.now.count _ c.loop-i-test.true
    (ap (with_place c.loop-i.i) (sym c.flaw_of.ensures ∙ c.in-Some.is)) c.loop-i.invariant

pub loop-i-preserved : goal.loop-i-preserved
loop-i-preserved c =
    first_later (wrong_entry c.args.label.now c.args.bytes.now) (first_fault c.args.label.now c.args.bytes.now) c.loop-i.i c.args.label.now.count c.loop-i-test.true
    (ap (with_place c.loop-i.i) (sym c.flaw_of.ensures ∙ c.in_default.is)) c.loop-i.invariant
