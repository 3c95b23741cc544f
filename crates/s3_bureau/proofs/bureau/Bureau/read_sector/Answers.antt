use Rattle.std.proofs.Common.{sym}
use Rattle.s3_bureau.proofs.Fetching.{has_open, level_stays, open_has, still_held}
use Rattle.s3_bureau.proofs.bureau.Bureau.read_sector.Goals as goal

pub returns-clause-held : goal.returns-clause-held
returns-clause-held g c =
    let fetched = c.in_ok-found.ensures in
    λ level w held. still_held level _ _ w (has_open _ _ fetched.goes_on fetched.was_open) (level_stays level _ _ fetched.one fetched.two) fetched.areas fetched.blocks fetched.keeps.contents held

pub returns-clause-held_before : goal.returns-clause-held_before
returns-clause-held_before g c =
    let fetched = c.in_ok-found.ensures in
    λ level w held. still_held level _ _ w (open_has _ fetched.was_open) (sym (level_stays level _ _ fetched.one fetched.two)) (sym fetched.areas) (sym fetched.blocks) (sym fetched.keeps.contents) held
