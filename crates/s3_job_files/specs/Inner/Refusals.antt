-- What a job gets as the answer when a call on files or labels is refused; and a file that has grown.
use Rattle.std.specs.Prelude.{◌≡◌, ◌≤◌, Result, Ok, Err}
use Rattle.s3_store.specs.declared.sector_fault.SectorFault.{SectorFault}
use Rattle.s3_labels.specs.declared.fault.ChangeFault.{ChangeFault}
use Rattle.s3_labels.specs.declared.fault.ChangeFault.TheVariants.{Label, Sectors}
use Rattle.s3_files.specs.Inner.Files.{FileShape}
use Rattle.s3_keyed.specs.declared.fault.KeyedFault.{KeyedFault}
use Rattle.s3_keyed.specs.declared.fault.KeyedFault.TheVariants.{Pool}

-- the same file, with as many records or more
pub record IsGrown (old new : FileShape) : Type 0 where
  pub sectors : new.sectors ≡ old.sectors
  pub record_length : new.record_length ≡ old.record_length
  pub capacity : new.capacity ≡ old.capacity
  pub more : old.count ≤ new.count

-- a refusal by the sectors is passed on
abbrev pub pool_refusal : KeyedFault → Result (Unit {0}) SectorFault
pool_refusal (Pool fault) = Err fault
pool_refusal _ = Ok tt

-- the change of an existing label is refused only by the sectors
abbrev pub sectors_answer : Result (Unit {0}) ChangeFault → Result (Unit {0}) SectorFault
sectors_answer (Ok done) = Ok done
sectors_answer (Err (Sectors fault)) = Err fault
sectors_answer (Err (Label fault)) = Ok tt
