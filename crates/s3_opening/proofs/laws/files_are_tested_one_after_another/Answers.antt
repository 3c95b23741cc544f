use Rattle.std.proofs.Common.{refl}
use Rattle.s3_slots.specs.Slots.{standing}
use Rattle.s3_slots.specs.Making.{made, new_label, dropped}
use Rattle.s3_slots.specs.Placement.{placed, lowest_place}
use Rattle.s3_opening.specs.Asked.{is_of_layout, new_file}
use Rattle.s3_opening.specs.Opening.{open_lines, make_file, open_file, refusal_of}
use Rattle.s3_opening.proofs.laws.files_are_tested_one_after_another.Goals as goal

pub returns-clause-index_first : goal.returns-clause-index_first
unfolding open_lines make_file open_file refusal_of is_of_layout new_file standing made new_label dropped placed lowest_place
returns-clause-index_first c = refl

pub returns-clause-make_first : goal.returns-clause-make_first
unfolding open_lines make_file open_file refusal_of is_of_layout new_file standing made new_label dropped placed lowest_place
returns-clause-make_first c = refl

pub returns-clause-in_use : goal.returns-clause-in_use
unfolding open_lines make_file open_file refusal_of is_of_layout new_file standing made new_label dropped placed lowest_place
returns-clause-in_use c = refl
