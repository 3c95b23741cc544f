-- A field that hides its value.
use Rattle.std.specs.Prelude.{ℕ, ◌+◌, List}
use Rattle.s3_cells.specs.declared.fault.ShowFault.{ShowFault}
use Rattle.s3_cells.specs.declared.fault.ShowFault.TheVariants.{NoCharacter, NoNumber, NoDate, NoMemory}
use Rattle.s3_unload.specs.declared.fault.UnloadFault.{UnloadFault}
use Rattle.s3_unload.specs.declared.fault.UnloadFault.TheVariants.{Hidden, NoMemory as NoMemoryToUnload}
use Rattle.s3_cells.specs.declared.field.Field.{Field}
use Rattle.s3_unload.specs.Inner.Tables.{IsHiddenIn}
use Rattle.s3_unload.specs.declared.rows.HiddenField.{HiddenField}

-- the value of one of these fields can't be shown, or memory ran out
abbrev pub HidesField : List Field → List ℕ → HiddenField → Type 0
HidesField fields bytes hidden = IsHiddenIn fields bytes hidden.fault

-- the error for a hidden field of record n, from 0
abbrev pub fault_by : ℕ → Field → ShowFault → UnloadFault
fault_by n field (NoCharacter position) = Hidden (n + 1) field (NoCharacter position)
fault_by n field NoNumber = Hidden (n + 1) field NoNumber
fault_by n field (NoDate date) = Hidden (n + 1) field (NoDate date)
fault_by n field NoMemory = NoMemoryToUnload

abbrev pub hidden_fault : ℕ → HiddenField → UnloadFault
hidden_fault n hidden = fault_by n hidden.field hidden.fault
