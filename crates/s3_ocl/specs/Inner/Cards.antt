-- The cards at which each search of the reader stops.
use Rattle.std.specs.Prelude.{ℕ, List, Bool}
use Rattle.s3_ocl.specs.declared.cards.Stop.{Stop}
use Rattle.s3_ocl.specs.declared.cards.Stop.TheVariants.{Beginning, Separator, JobEnd, Close}
use Rattle.s3_ocl.specs.Cards.{is_job_end, is_separator, begins_job, closes_job}

-- the test of the cards at which a search stops
abbrev pub stops_at : Stop → List ℕ → Bool
stops_at Beginning = begins_job
stops_at Separator = is_separator
stops_at JobEnd = is_job_end
stops_at Close = closes_job
