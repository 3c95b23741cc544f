-- How much of a day's output is written, for a day that ends with these printed lines and this halt text of level 1.
use Rattle.std.specs.Prelude.{◌≡◌, ◌≤◌, ◌++◌, ℕ, List, [], codes, length, take, ⊤}
use Rattle.s3_cards.specs.Printed.{Printed}
use Rattle.s3_bureau.specs.Runs.{line, output_of}
use Rattle.s3_bureau.specs.Texts.{report_of}
use Rattle.s3_reports.specs.declared.place.Place.{Place}
use Rattle.s3_reports.specs.declared.place.Place.TheVariants.{Start, One, Two}

-- the output up to the heading of level 2's report
abbrev pub up_to_two : (one : List Printed) (halts : List ℕ) → List ℕ
up_to_two one halts = line (codes ":report1") ++ report_of one ++ line (codes ":halts1") ++ halts ++ line (codes ":report2")

-- the output up to a place
abbrev pub written_at : Place → (one two : List Printed) (halts : List ℕ) → List ℕ
written_at Start one two halts = []
written_at (One n) one two halts = line (codes ":report1") ++ report_of (take n one)
written_at (Two n) one two halts = up_to_two one halts ++ report_of (take n two)

-- the whole output, with the halt text of level 2
abbrev pub whole_output : (one two : List Printed) (halts1 halts2 : List ℕ) → List ℕ
whole_output one two halts1 halts2 = output_of (record { one = record { report = report_of one; halts = halts1 }; two = record { report = report_of two; halts = halts2 } })

-- something is written
abbrev pub HasBegun : Place → Type 0
HasBegun Start = ⊥
HasBegun (One n) = ⊤
HasBegun (Two n) = ⊤

-- all of these lines of level 1 are written
abbrev pub IsOneWritten : Place → List Printed → Type 0
IsOneWritten Start one = one ≡ []
IsOneWritten (One n) one = length one ≤ n
IsOneWritten (Two n) one = ⊤

-- all of level 1 is written
abbrev pub HasPassed : Place → Type 0
HasPassed Start = ⊥
HasPassed (One n) = ⊥
HasPassed (Two n) = ⊤

-- all of level 1 is written, and all of these lines of level 2
abbrev pub IsTwoWritten : Place → List Printed → Type 0
IsTwoWritten Start two = ⊥
IsTwoWritten (One n) two = ⊥
IsTwoWritten (Two n) two = length two ≤ n
