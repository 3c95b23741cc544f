-- The environment of a suspended run, by names.
use Rattle.std.specs.Prelude.{pos, false, List, [], Option, option_and_then, slice_get}
use Rattle.s3_cards.specs.declared.name.Name.{Name}
use Rattle.s3_meaning.specs.declared.current.Current.{Current}
use Rattle.s3_meaning.specs.Environment.{Environment, no_remainder}
use Rattle.s3_program.specs.declared.program.Program.{Program}
use Rattle.s3_program.specs.Inner.Tables.{slot_in}
use Rattle.s3_operations.specs.Inner.Fits.{tables}
use Rattle.s3_operations.specs.Inner.Held.{held}
use Rattle.s3_match.specs.Inner.Controls.{held_in}
use Rattle.s3_cycle.specs.declared.state.State.{State}

-- the current record of each file, by its name
abbrev pub current_in : Program → List (Option Current) → Name → Option Current
current_in program current name = option_and_then (λ entry. entry) (slice_get current (slot_in (tables program).files name))

-- the environment without its values
abbrev pub others : Program → State → Environment
others program state = record {
  numbers = λ name. pos 0;
  texts = λ name. [];
  on = λ indicator. false;
  remainder = no_remainder;
  current = current_in program state.current.items;
  held = held_in state.controls.held;
  totals_due = state.is_totals_due;
  page = state.carriage.page;
  line = state.carriage.line;
}

unfoldable pub environment : Program → State → Environment
environment program state = held program state.values (others program state)
