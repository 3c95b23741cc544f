-- The record that a CHAIN finds.
use Rattle.std.proofs.Common.{◌≡◌, ℕ, List, false, sym, ap, subst}
use Rattle.std.specs.Prelude.{Option, option_map}
use Rattle.s3_lines.specs.declared.indicator.Indicator.{Indicator}
use Rattle.s3_meaning.specs.RecordTypes.{RecordType}
use Rattle.s3_meaning.specs.Requests.{Found}
use Rattle.s3_meaning.specs.Calculating.{chained_to}
use Rattle.s3_meaning.specs.Selection.{type_of}
use Rattle.s3_meaning.specs.Cycle.{again}
use Rattle.s3_program.specs.declared.program.Program.{Program}
use Rattle.s3_program.specs.declared.starts.TypeStart.{TypeStart}
use Rattle.s3_program.specs.Inner.Stands.{source_named}
use Rattle.s3_match.specs.Inner.Types.{name_of_file, kind_at}
use Rattle.s3_cycle.specs.declared.stepper.Stepper.{Stepper}
use Rattle.s3_cycle.specs.Inner.Rest.{calculating, chain_answered}
use Rattle.s3_cycle.specs.Inner.Entries.{turn_entry}
use Rattle.s3_cycle.specs.Inner.Going.{own, held_by, here, GoesOn, Changes}
use Rattle.s3_cycle.proofs.GoingLemmas.{changed_program, goes_as, goes_changed}

pub found_then : (c mid new : Stepper) (file : ℕ) (missing : Option Indicator) (bytes : List ℕ) (found : Option TypeStart)
    → Changes c mid (λ source. turn_entry missing false) → option_map (kind_at mid.program) found ≡ type_of (own mid) (name_of_file mid.program file) bytes
    → GoesOn mid new (here mid (λ source program progress. chained_to (again source) (name_of_file program file) bytes (option_map (kind_at program) found) (calculating source program progress)))
    → GoesOn c new (here c (λ source program progress. chain_answered source program progress file missing (Found bytes)))
found_then c mid new file missing bytes found changes typed goes =
    goes_as c new _ _
    (ap (λ (kind : Option RecordType). chained_to (again (own c)) (name_of_file c.program file) bytes kind (calculating (own c) c.program c.progress) (turn_entry missing false (held_by c)))
    (sym (subst (λ (p : Program). option_map (kind_at p) found ≡ type_of (source_named p) (name_of_file p file) bytes) (changed_program c mid (λ source. turn_entry missing false) changes) typed)))
    (goes_changed c mid new (λ source. turn_entry missing false)
    (λ source program progress. chained_to (again source) (name_of_file program file) bytes (option_map (kind_at program) found) (calculating source program progress)) changes goes)
