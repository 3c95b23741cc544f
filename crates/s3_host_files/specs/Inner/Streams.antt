-- The standard streams.
use Rattle.std.specs.Prelude.{ℕ, List, codes}
use Rattle.s3_host_files.specs.declared.streams.StandardStream.{StandardStream}
use Rattle.s3_host_files.specs.declared.streams.StandardStream.TheVariants.{Input, Output, Error}

abbrev pub stream_words : StandardStream → List ℕ
stream_words Input = codes "standard input"
stream_words Output = codes "standard output"
stream_words Error = codes "standard error"
