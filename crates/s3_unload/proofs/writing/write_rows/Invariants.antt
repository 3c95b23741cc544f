use Rattle.std.proofs.Common.{◌≡◌, ℕ, ◌+◌, true, length, take}
use Rattle.std.specs.List.{list_all}
use Rattle.s3_record_types.specs.Inner.Chosen.{chosen_of}
use Rattle.s3_unload.specs.Inner.Ordered.{ordered}
use Rattle.s3_unload.specs.Inner.Tables.{AddsText, IsBetweenRows, are_shown, rows_text}
use Rattle.s3_unload.proofs.writing.write_rows.Given as goal

abbrev pub invariant-loop-n : goal.invariant-loop-n
invariant-loop-n l = record {
  same : l.store ≡ l.initial.store;
  text : (delimiter : ℕ) → IsBetweenRows delimiter l.initial.writer → AddsText delimiter l.initial.writer l.writer (rows_text delimiter l.fields (chosen_of l.chosen (take l.n (ordered l.label l.initial.store))));
  shown : list_all (are_shown l.fields) (chosen_of l.chosen (take l.n (ordered l.label l.initial.store))) ≡ true;
  counted : l.others + length (chosen_of l.chosen (take l.n (ordered l.label l.initial.store))) ≡ l.n;
}
