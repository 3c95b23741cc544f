-- Why values aren't shown, and cells aren't taken.
use Rattle.std.specs.Prelude.{◌≡◌, ◌≤◌, ◌^◌, ℕ, ℤ, Bool, false, Option, None, unsigned_abs, IfSome, ⊤}
use Rattle.s3_cells.specs.declared.fault.CellFault.{CellFault}
use Rattle.s3_cells.specs.declared.fault.CellFault.TheVariants.{NoNumber, TooManyDecimals, TooLarge, TooLong, NoCharacter, NoDate, NoMemory as NoMemoryToTake}
use Rattle.s3_cells.specs.declared.fault.ShowFault.{ShowFault}
use Rattle.s3_cells.specs.declared.fault.ShowFault.TheVariants.{NoCharacter as HasNoCharacter, NoNumber as ShowsNoNumber, NoDate as ShowsNoDate, NoMemory}

-- the text says no number of so many decimals
abbrev pub IsOfForm : CellFault → Type 0
IsOfForm NoNumber = ⊤
IsOfForm TooManyDecimals = ⊤
IsOfForm TooLarge = ⊥
IsOfForm TooLong = ⊥
IsOfForm NoCharacter = ⊥
IsOfForm NoDate = ⊥
IsOfForm NoMemoryToTake = ⊥

-- it says none, or one of more digits, or memory was refused
abbrev pub IsNumberRefusal : (digits : ℕ) → Option ℤ → CellFault → Type 0
IsNumberRefusal digits value TooLarge = IfSome value (λ value. 10 ^ digits ≤ unsigned_abs value)
IsNumberRefusal digits value NoNumber = value ≡ None
IsNumberRefusal digits value TooManyDecimals = value ≡ None
IsNumberRefusal digits value TooLong = ⊥
IsNumberRefusal digits value NoCharacter = ⊥
IsNumberRefusal digits value NoDate = ⊥
IsNumberRefusal digits value NoMemoryToTake = ⊤

-- a value can't be shown
abbrev pub IsHidden : Bool → ShowFault → Type 0
IsHidden shown (HasNoCharacter position) = shown ≡ false
IsHidden shown ShowsNoNumber = shown ≡ false
IsHidden shown (ShowsNoDate date) = shown ≡ false
IsHidden shown NoMemory = ⊤

-- a cell isn't taken: for this cause, or for want of memory
abbrev pub IsRefusal : (cause : Type 0) → CellFault → Type 0
IsRefusal cause NoMemoryToTake = ⊤
IsRefusal cause NoNumber = cause
IsRefusal cause TooManyDecimals = cause
IsRefusal cause TooLarge = cause
IsRefusal cause TooLong = cause
IsRefusal cause NoCharacter = cause
IsRefusal cause NoDate = cause
