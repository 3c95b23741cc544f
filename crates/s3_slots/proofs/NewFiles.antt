-- What a file that may be made has.
use Rattle.std.proofs.Common.{ℕ, ◌≤◌, arith}
use Rattle.std.proofs.Math.Nat.{mul-le-mul}
use Rattle.s3_slots.specs.declared.label.Organization.{Organization}
use Rattle.s3_slots.specs.declared.label.Organization.TheVariants.{Sequential, Indexed, Direct}
use Rattle.s3_slots.specs.declared.making.NewFile.{NewFile}
use Rattle.s3_slots.specs.declared.making.Size.{Size}
use Rattle.s3_slots.specs.declared.making.Size.TheVariants.{Records, Tracks}
use Rattle.s3_slots.specs.Slots.{sectors_needed, record_sectors}
use Rattle.s3_slots.specs.Inner.Making.{IsNewFile, IsSize}
use Rattle.s3_slots.specs.Making.{tracks_of, tracks_of_size}
use Rattle.s3_slots.proofs.SlotLemmas.{key_fits}

pub new_key : (new : NewFile) → IsNewFile new → new.key_length ≤ 29
new_key new is = key_fits new.organization new.record_length new.key_length new.key_start is.key

some_records : (n length : ℕ) → 1 ≤ n → 1 ≤ length → 1 ≤ record_sectors n length
some_records n length h l = let k = mul-le-mul h l in omega (arith, k)

some_sectors : (o : Organization) (length key n : ℕ) → 1 ≤ n → 1 ≤ length → 1 ≤ sectors_needed o length key n
some_sectors Sequential length key n h l = some_records n length h l
some_sectors Indexed length key n h l = let k = some_records n length h l in omega (arith, k)
some_sectors Direct length key n h l = some_records n length h l

pub new_tracks : (new : NewFile) → IsNewFile new → 1 ≤ tracks_of new
new_tracks new is = by new.size is.size
  where
    by : (size : Size) → IsSize size → 1 ≤ tracks_of_size new size
    by (Records n) h = let k = some_sectors new.organization new.record_length new.key_length n h.0 is.length.0 in omega (arith, k)
    by (Tracks n) h = h.0
