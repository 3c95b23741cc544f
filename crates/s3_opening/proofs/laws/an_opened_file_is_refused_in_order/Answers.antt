use Rattle.std.proofs.Common.{refl}
use Rattle.s3_slots.specs.Slots.{standing}
use Rattle.s3_slots.specs.Making.{made, new_label, dropped}
use Rattle.s3_slots.specs.Placement.{placed, lowest_place}
use Rattle.s3_opening.specs.Asked.{is_of_layout, new_file}
use Rattle.s3_opening.specs.Opening.{open_lines, make_file, open_file, refusal_of}
use Rattle.s3_opening.proofs.laws.an_opened_file_is_refused_in_order.Goals as goal

pub returns-clause-damaged : goal.returns-clause-damaged
unfolding open_lines make_file open_file refusal_of is_of_layout new_file standing made new_label dropped placed lowest_place
returns-clause-damaged c = refl

pub returns-clause-damaged_master : goal.returns-clause-damaged_master
unfolding open_lines make_file open_file refusal_of is_of_layout new_file standing made new_label dropped placed lowest_place
returns-clause-damaged_master c = refl

pub returns-clause-absent : goal.returns-clause-absent
unfolding open_lines make_file open_file refusal_of is_of_layout new_file standing made new_label dropped placed lowest_place
returns-clause-absent c = refl

pub returns-clause-changed_master : goal.returns-clause-changed_master
unfolding open_lines make_file open_file refusal_of is_of_layout new_file standing made new_label dropped placed lowest_place
returns-clause-changed_master c = refl

pub returns-clause-added_master : goal.returns-clause-added_master
unfolding open_lines make_file open_file refusal_of is_of_layout new_file standing made new_label dropped placed lowest_place
returns-clause-added_master c = refl

pub returns-clause-other_master : goal.returns-clause-other_master
unfolding open_lines make_file open_file refusal_of is_of_layout new_file standing made new_label dropped placed lowest_place
returns-clause-other_master c = refl

pub returns-clause-master_index : goal.returns-clause-master_index
unfolding open_lines make_file open_file refusal_of is_of_layout new_file standing made new_label dropped placed lowest_place
returns-clause-master_index c = refl

pub returns-clause-length : goal.returns-clause-length
unfolding open_lines make_file open_file refusal_of is_of_layout new_file standing made new_label dropped placed lowest_place
returns-clause-length c = refl

pub returns-clause-organization : goal.returns-clause-organization
unfolding open_lines make_file open_file refusal_of is_of_layout new_file standing made new_label dropped placed lowest_place
returns-clause-organization c = refl

pub returns-clause-key_start : goal.returns-clause-key_start
unfolding open_lines make_file open_file refusal_of is_of_layout new_file standing made new_label dropped placed lowest_place
returns-clause-key_start c = refl

pub returns-clause-index : goal.returns-clause-index
unfolding open_lines make_file open_file refusal_of is_of_layout new_file standing made new_label dropped placed lowest_place
returns-clause-index c = refl

pub returns-clause-good : goal.returns-clause-good
unfolding open_lines make_file open_file refusal_of is_of_layout new_file standing made new_label dropped placed lowest_place
returns-clause-good c = refl

pub returns-clause-added : goal.returns-clause-added
unfolding open_lines make_file open_file refusal_of is_of_layout new_file standing made new_label dropped placed lowest_place
returns-clause-added c = refl
