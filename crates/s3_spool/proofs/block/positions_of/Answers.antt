use Rattle.std.proofs.Common.{rules, ◌≡◌, length}
use Rattle.s3_spool.proofs.BlockLemmas.{text_of_positions}
use Rattle.s3_spool.proofs.block.positions_of.Goals as goal

pub returns-then-width-lt-PRINT_POSITIONS : goal.returns-then-width-lt-PRINT_POSITIONS
returns-then-width-lt-PRINT_POSITIONS c =
    let whole : length c.copy_from_slice.new.self ≡ 132 = search rules in
    text_of_positions c.args.block.now c.copy_from_slice.new.self c.blank_behind.new.positions c.args.width c.requires whole c.copy_from_slice.ensures.after c.blank_behind.ensures
