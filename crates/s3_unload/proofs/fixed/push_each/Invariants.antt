use Rattle.std.proofs.Common.{◌≡◌, ◌+◌, ◌++◌, true, length, take}
use Rattle.std.specs.List.{list_all}
use Rattle.s3_record_types.specs.Inner.Chosen.{chosen_of}
use Rattle.s3_unload.specs.Inner.Fixed.{fixed_text, is_fixed}
use Rattle.s3_unload.specs.Inner.Ordered.{ordered}
use Rattle.s3_unload.proofs.fixed.push_each.Given as goal

abbrev pub invariant-loop-n : goal.invariant-loop-n
invariant-loop-n l = record {
  same : l.store ≡ l.initial.store;
  text : l.text.items ≡ l.initial.text.items ++ fixed_text l.form (chosen_of l.chosen (take l.n (ordered l.label l.initial.store)));
  fits : list_all (is_fixed l.form) (chosen_of l.chosen (take l.n (ordered l.label l.initial.store))) ≡ true;
  counted : l.others + length (chosen_of l.chosen (take l.n (ordered l.label l.initial.store))) ≡ l.n;
}
