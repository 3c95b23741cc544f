-- What a call that changes sectors of a region alone leaves of a file.
use Rattle.std.proofs.Common.{◌<◌, ℕ, List, length, subst, sym}
use Rattle.std.specs.List.{All}
use Rattle.s3_store.specs.Inner.State.{PoolState, KeepsContents, ChangesWithin}
use Rattle.s3_files.specs.Inner.Files.{AreStored}

-- the sectors of a file are still there
pub stored_within : (sectors : List ℕ) (region : ℕ → Type 0) (s t : PoolState) → AreStored sectors s.contents → ChangesWithin region s t → AreStored sectors t.contents
stored_within sectors region s t stored c = subst (λ n. All (λ m. m < n) sectors) (sym c.count) stored

pub stored_keeps : (sectors : List ℕ) (s t : PoolState) → AreStored sectors s.contents → KeepsContents s t → AreStored sectors t.contents
stored_keeps sectors s t stored k = subst (λ contents. All (λ m. m < length contents) sectors) (sym k.contents) stored
