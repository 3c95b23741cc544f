use Rattle.std.proofs.Common.{refl}
use Rattle.s3_slots.specs.Slots.{standing}
use Rattle.s3_slots.specs.Making.{made, new_label, dropped}
use Rattle.s3_slots.specs.Placement.{placed, lowest_place}
use Rattle.s3_opening.specs.Asked.{is_of_layout, new_file}
use Rattle.s3_opening.specs.Opening.{open_lines, make_file, open_file, refusal_of}
use Rattle.s3_opening.proofs.laws.each_file_has_its_own_label.Goals as goal

pub returns-clause-no_statement : goal.returns-clause-no_statement
unfolding open_lines make_file open_file refusal_of is_of_layout new_file standing made new_label dropped placed lowest_place
returns-clause-no_statement c = refl

pub returns-clause-opened_twice : goal.returns-clause-opened_twice
unfolding open_lines make_file open_file refusal_of is_of_layout new_file standing made new_label dropped placed lowest_place
returns-clause-opened_twice c = refl

pub returns-clause-made_again : goal.returns-clause-made_again
unfolding open_lines make_file open_file refusal_of is_of_layout new_file standing made new_label dropped placed lowest_place
returns-clause-made_again c = refl

pub returns-clause-made_before : goal.returns-clause-made_before
unfolding open_lines make_file open_file refusal_of is_of_layout new_file standing made new_label dropped placed lowest_place
returns-clause-made_before c = refl

pub returns-clause-not_tested : goal.returns-clause-not_tested
unfolding open_lines make_file open_file refusal_of is_of_layout new_file standing made new_label dropped placed lowest_place
returns-clause-not_tested c = refl

pub returns-clause-tested : goal.returns-clause-tested
unfolding open_lines make_file open_file refusal_of is_of_layout new_file standing made new_label dropped placed lowest_place
returns-clause-tested c = refl

pub returns-clause-not_counted : goal.returns-clause-not_counted
unfolding open_lines make_file open_file refusal_of is_of_layout new_file standing made new_label dropped placed lowest_place
returns-clause-not_counted c = refl

pub returns-clause-counted : goal.returns-clause-counted
unfolding open_lines make_file open_file refusal_of is_of_layout new_file standing made new_label dropped placed lowest_place
returns-clause-counted c = refl
