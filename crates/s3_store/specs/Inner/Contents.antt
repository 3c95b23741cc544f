-- Bytes that are whole sectors, at most 65,535.
use Rattle.std.specs.Prelude.{◌≡◌, ◌≤◌, ◌*◌, ◌/◌, ℕ, List, length}

-- these bytes are whole sectors, at most 65,535
pub record IsWholeSectors (bytes : List ℕ) : Type 0 where
  pub whole : length bytes ≡ length bytes / 256 * 256
  pub few : length bytes / 256 ≤ 65535
