use Rattle.s3_bureau.proofs.Entering.{ends, stops_closing}
use Rattle.s3_bureau.proofs.bureau.Bureau.close.Goals as goal

pub returns-in-Ok : goal.returns-in-Ok
returns-in-Ok g c = rw (← c.self.view_is) (ends _ _ _ _ c.in-Ok.ensures)

pub returns-in-Err : goal.returns-in-Err
returns-in-Err g c = rw (← c.self.view_is) (stops_closing c.in-Err.fault _ _ _ _ c.in-Err.ensures)
