-- The text of a printed line and its 132 positions give each other.
use Rattle.std.proofs.Common.{◌≡◌, ℕ, ◌-◌, ◌≤◌, List, ◌++◌, sym, arith, length, take, drop, replicate, take-append-drop}
use Rattle.std.proofs.lemmas.List.{length-take-le}

-- the width of a line is that of its text
pub width_again : (width : ℕ) (positions : List ℕ) → width ≤ 132 → length positions ≡ 132 → length (take width positions) ≡ width
width_again width positions fits whole = length-take-le width positions (omega arith)

-- the positions of a line are its text and blanks
pub positions_again : (width : ℕ) (positions : List ℕ) → width ≤ 132 → length positions ≡ 132
    → drop width positions ≡ replicate (132 - width) 0x40
    → take width positions ++ replicate (132 - length (take width positions)) 0x40 ≡ positions
positions_again width positions fits whole padded =
    let n = width_again width positions fits whole in
    rw (n, sym padded) (take-append-drop width positions)
