-- Which file of a source is meant.
use Rattle.std.specs.Prelude.{◌≡◌, ⊤, List, [], ◌∷◌, Option, Some, None, Result, Ok, Err, if◌then◌else◌}
use Rattle.std.specs.List.{flat_map}
use Rattle.s3_cards.specs.Names.{same_name}
use Rattle.s3_cards.specs.declared.name.Name.{Name}
use Rattle.s3_lines.specs.declared.sheet.Device.{Device}
use Rattle.s3_lines.specs.declared.sheet.Device.TheVariants.{Disk, CardReader, Printer}
use Rattle.s3_lines.specs.declared.sheet.FileLine.{FileLine}
use Rattle.s3_lines.specs.declared.sheet.Line.{Line}
use Rattle.s3_lines.specs.declared.sheet.SheetLine.{SheetLine}
use Rattle.s3_lines.specs.declared.sheet.SheetLine.TheVariants.{File}
use Rattle.s3_layout.specs.declared.fault.LayoutFault.{LayoutFault}
use Rattle.s3_layout.specs.declared.fault.LayoutFault.TheVariants.{NoMemory, NoFile, SeveralFiles, OtherFile}

-- a file that is on DISK
abbrev pub on_disk : FileLine → List FileLine
on_disk file = by file.device
  where
    by : Device → List FileLine
    by Disk = file ∷ []
    by CardReader = []
    by Printer = []

-- the file on DISK that a line has
abbrev pub disk_file : Line → List FileLine
disk_file line = on line.sheet
  where
    on : SheetLine → List FileLine
    on (File file) = on_disk file
    on _ = []

-- of the files on DISK the only one
abbrev pub only_file : List FileLine → Result FileLine LayoutFault
only_file [] = Err NoFile
only_file (file ∷ []) = Ok file
only_file (file ∷ other ∷ more) = Err SeveralFiles

-- of the files on DISK the first of a name
abbrev pub named_file : Name → List FileLine → Result FileLine LayoutFault
named_file name [] = Err OtherFile
named_file name (file ∷ files) = if same_name file.name name then Ok file else named_file name files

abbrev pub chosen_in : Option Name → List FileLine → Result FileLine LayoutFault
chosen_in (Some name) files = named_file name files
chosen_in None files = only_file files

abbrev pub chosen_file : Option Name → List Line → Result FileLine LayoutFault
chosen_file name lines = chosen_in name (flat_map disk_file lines)

-- the answer is the one that is meant, unless memory ran out
abbrev pub Chooses : {X : Type 0} → (meant answer : Result X LayoutFault) → Type 0
Chooses meant (Err NoMemory) = ⊤
Chooses meant answer = meant ≡ answer
