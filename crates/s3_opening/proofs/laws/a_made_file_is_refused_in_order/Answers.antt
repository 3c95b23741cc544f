use Rattle.std.proofs.Common.{refl}
use Rattle.s3_slots.specs.Slots.{standing}
use Rattle.s3_slots.specs.Making.{made, new_label, dropped}
use Rattle.s3_slots.specs.Placement.{placed, lowest_place}
use Rattle.s3_opening.specs.Asked.{is_of_layout, new_file}
use Rattle.s3_opening.specs.Opening.{open_lines, make_file, open_file, refusal_of}
use Rattle.s3_opening.proofs.laws.a_made_file_is_refused_in_order.Goals as goal

pub returns-clause-master : goal.returns-clause-master
unfolding open_lines make_file open_file refusal_of is_of_layout new_file standing made new_label dropped placed lowest_place
returns-clause-master c = refl

pub returns-clause-damaged : goal.returns-clause-damaged
unfolding open_lines make_file open_file refusal_of is_of_layout new_file standing made new_label dropped placed lowest_place
returns-clause-damaged c = refl

pub returns-clause-permanent : goal.returns-clause-permanent
unfolding open_lines make_file open_file refusal_of is_of_layout new_file standing made new_label dropped placed lowest_place
returns-clause-permanent c = refl

pub returns-clause-no_slot : goal.returns-clause-no_slot
unfolding open_lines make_file open_file refusal_of is_of_layout new_file standing made new_label dropped placed lowest_place
returns-clause-no_slot c = refl

pub returns-clause-not_blocked : goal.returns-clause-not_blocked
unfolding open_lines make_file open_file refusal_of is_of_layout new_file standing made new_label dropped placed lowest_place
returns-clause-not_blocked c = refl

pub returns-clause-old_slot : goal.returns-clause-old_slot
unfolding open_lines make_file open_file refusal_of is_of_layout new_file standing made new_label dropped placed lowest_place
returns-clause-old_slot c = refl

pub returns-clause-one_slot : goal.returns-clause-one_slot
unfolding open_lines make_file open_file refusal_of is_of_layout new_file standing made new_label dropped placed lowest_place
returns-clause-one_slot c = refl

pub returns-clause-two_slots : goal.returns-clause-two_slots
unfolding open_lines make_file open_file refusal_of is_of_layout new_file standing made new_label dropped placed lowest_place
returns-clause-two_slots c = refl

pub returns-clause-blank : goal.returns-clause-blank
unfolding open_lines make_file open_file refusal_of is_of_layout new_file standing made new_label dropped placed lowest_place
returns-clause-blank c = refl

pub returns-clause-empty : goal.returns-clause-empty
unfolding open_lines make_file open_file refusal_of is_of_layout new_file standing made new_label dropped placed lowest_place
returns-clause-empty c = refl

pub returns-clause-kept : goal.returns-clause-kept
unfolding open_lines make_file open_file refusal_of is_of_layout new_file standing made new_label dropped placed lowest_place
returns-clause-kept c = refl
