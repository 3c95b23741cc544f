use Rattle.std.proofs.Common.{◌≡◌, ◌++◌, true, take}
use Rattle.std.specs.List.{list_all}
use Rattle.s3_unload.specs.Inner.Lines.{is_line, lines_text}
use Rattle.s3_unload.specs.Inner.Ordered.{in_order}
use Rattle.s3_unload.proofs.lines.push_each.Given as goal

abbrev pub invariant-loop-n : goal.invariant-loop-n
invariant-loop-n l = record {
  same : l.store ≡ l.initial.store;
  text : l.text.items ≡ l.initial.text.items ++ lines_text l.form (take l.n (in_order l.label l.initial.store));
  shown : list_all (is_line l.form) (take l.n (in_order l.label l.initial.store)) ≡ true;
}
