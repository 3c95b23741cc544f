-- The codes that an update puts into a record: a code for each position that changes.
use Rattle.std.specs.Prelude.{ℕ, Bool, map, zip, List, Option, Some, None, if◌then◌else◌}

-- the code of a position, if it is put
abbrev pub change_of : ℕ × Bool → Option ℕ
change_of (code, put) = if put then Some code else None

abbrev pub changes_of : (codes : List ℕ) → (put : List Bool) → List (Option ℕ)
changes_of codes put = map change_of (zip codes put)
