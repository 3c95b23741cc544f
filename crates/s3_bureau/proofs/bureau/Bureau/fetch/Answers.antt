use Rattle.s3_bureau.proofs.Fetching.{still_ready}
use Rattle.s3_bureau.proofs.bureau.Bureau.fetch.Goals as goal

pub invariant_of-self : goal.invariant_of-self
invariant_of-self g c = λ is. still_ready _ _ _ _ _ _ c.read_sector.ensures.keeps.contents (c.self.invariant is)
