-- Each small source has exactly the diagnostics listed with it.
use Rattle.std.specs.Prelude.{◌≡◌, List, map}
use Rattle.s3_diagnose.specs.Diagnostics.{compile_diagnostics}
use Rattle.s3_diagnose.specs.Inner.Samples.{Sample, cards_from}

-- each source has exactly its listed diagnostics, with 99 as the RUN card
abbrev pub HaveTheirs : List Sample → Type 0
HaveTheirs samples = map (λ sample. compile_diagnostics 99 (cards_from 1 sample.0)) samples ≡ map (λ sample. sample.1) samples
