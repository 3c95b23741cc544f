-- A record while it is composed: at each position the code written there, or none.
use Rattle.std.specs.Prelude.{◌≡◌, ◌≤◌, ℕ, Bool, List, [], ◌∷◌, length, map, take, Option, Some, None, if◌then◌else◌}
use Rattle.s3_cards.specs.declared.ebcdic.TheConstants.{BLANK}
use Rattle.s3_meaning.specs.Output.{filled}

abbrev pub position : Bool → ℕ → Option ℕ
position put code = if put then Some code else None

-- the code written at each position, if any
abbrev pub positions_on : List Bool → List ℕ → List (Option ℕ)
positions_on [] codes = []
positions_on (put ∷ puts) [] = []
positions_on (put ∷ puts) (code ∷ codes) = position put code ∷ positions_on puts codes

-- if it isn't known which positions are written, each position has its code
abbrev pub positions_in : (is_told : Bool) → List Bool → List ℕ → List (Option ℕ)
positions_in is_told puts codes = if is_told then positions_on puts codes else map (λ code. Some code) codes

-- among the first `count` positions, those not written are blank
abbrev pub are_filled : ℕ → (is_told : Bool) → List Bool → List ℕ → Type 0
are_filled count is_told puts codes = filled (take count (positions_in is_told puts codes)) ≡ take count codes

-- a composed record: the first `count` of 1,024 positions
pub record IsComposed (count : ℕ) (is_told : Bool) (puts : List Bool) (codes : List ℕ) : Type 0 where
  pub short : count ≤ 1024
  pub codes_size : length codes ≡ 1024
  pub puts_size : length puts ≡ 1024
  pub blanks : are_filled count is_told puts codes

-- the content of each position before anything is written
abbrev pub first_position : (is_told : Bool) → Option ℕ
first_position is_told = if is_told then None else Some BLANK
