use Rattle.std.proofs.Common.{◌≡◌, get_or, rules}
use Rattle.s3_dump.proofs.WriterLemmas.{codes_ended, one_more_code}
use Rattle.s3_dump.proofs.writing.push_codes.Goals as goal

pub loop-code-preserved : goal.loop-code-preserved
loop-code-preserved c =
    let is : get_or c.args.bytes.now c.loop-code.code-index 0 ≡ get_or c.args.bytes.now c.loop-code.code-index (get_or c.args.bytes.now c.loop-code.code-index 0) = search rules in
    one_more_code c.args.text.now.items c.loop-code.text.items c.push_code.new.text.items c.args.bytes.now c.loop-code.code-index (get_or c.args.bytes.now c.loop-code.code-index 0) c.loop-code-test.true is c.loop-code.invariant c.in_ok-push_code.ensures

pub returns : goal.returns
returns c =
    codes_ended c.args.text.now.items c.loop-code.text.items c.push-2.new.text.items c.push-3.new.text.items c.args.bytes.now c.loop-code.code-index c.loop-code-test.false c.loop-code.invariant c.in_ok-push-2.ensures c.in_ok-push-3.ensures
