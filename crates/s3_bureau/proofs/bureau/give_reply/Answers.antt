use Rattle.s3_bureau.proofs.Acting.{replied}
use Rattle.s3_bureau.proofs.bureau.give_reply.Goals as goal

pub returns : goal.returns
returns g c = λ most blocks some are.
    rw c.once.ensures (replied most c.args.digit c.answer.result _ _ _ _ _ _ blocks some c.requires.ready.files.pack are c.answer.ensures.step c.answer.ensures.refused c.answer.ensures.ready
    c.answer.ensures.others c.answer.ensures.failures c.answer.ensures.stays c.answer.ensures.says c.answer.ensures.quiet)
