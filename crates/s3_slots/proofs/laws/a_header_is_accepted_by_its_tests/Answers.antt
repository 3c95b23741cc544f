use Rattle.std.proofs.Common.{refl}
use Rattle.s3_store.specs.Bytes.{sector_bytes}
use Rattle.s3_slots.proofs.laws.a_header_is_accepted_by_its_tests.Goals as goal

pub returns-clause-read : goal.returns-clause-read
unfolding sector_bytes
returns-clause-read c = refl

pub returns-clause-short : goal.returns-clause-short
unfolding sector_bytes
returns-clause-short c = refl

pub returns-clause-very_short : goal.returns-clause-very_short
unfolding sector_bytes
returns-clause-very_short c = refl

pub returns-clause-changed : goal.returns-clause-changed
unfolding sector_bytes
returns-clause-changed c = refl

pub returns-clause-meeting : goal.returns-clause-meeting
unfolding sector_bytes
returns-clause-meeting c = refl

pub returns-clause-first : goal.returns-clause-first
unfolding sector_bytes
returns-clause-first c = refl
