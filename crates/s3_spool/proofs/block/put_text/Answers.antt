use Rattle.std.proofs.Common.{◌≡◌, arith, length, rules}
use Rattle.s3_spool.proofs.BlockLemmas.{two_parts}
use Rattle.s3_spool.proofs.block.put_text.Goals as goal

pub returns-then-text-eq-PRINT_POSITIONS : goal.returns-then-text-eq-PRINT_POSITIONS
returns-then-text-eq-PRINT_POSITIONS c =
    let whole : length c.args.block.now ≡ 256 = search rules in
    let front = c.split_at.ensures.front_len in
    let rest : length c.split_at.result.1.now ≡ 4 = omega (arith, c.split_at.ensures.back_len, c.if-text-eq-PRINT_POSITIONS.true) in
    two_parts c.args.block.now c.split_at.result.0.now c.split_at.result.1.now c.args.text.now c.put.new.bytes _ whole front rest c.split_at.ensures.by_index.0 c.put.ensures c.put-then-text-eq-PRINT_POSITIONS.ensures
