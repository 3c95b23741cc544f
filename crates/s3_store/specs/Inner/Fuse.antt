-- A store that fails at one call, as a contract sees it.
use Rattle.std.specs.Prelude.{ℕ, Bool}

-- The store below it; the number of calls left, including the one that fails (0 if none fails); and whether that call was made.
pub record Fuse (S : Type 0) : Type 0 where
  pub inner : S
  pub calls_left : ℕ
  pub has_failed : Bool
