use Rattle.s3_replies.proofs.LetterLemmas.{of_two, too_short, too_long}
use Rattle.s3_replies.proofs.rule.halt_of.Goals as goal

pub returns-in-len2 : goal.returns-in-len2
returns-in-len2 c =
    of_two c.args.word.now c.to_ascii_uppercase.result c.to_ascii_uppercase-in-len2.result _ _ c.code_of.result c.in-len2.len_at_least c.in-len2.len_below
    c.to_ascii_uppercase.ensures.value c.to_ascii_uppercase-in-len2.ensures.value c.code_of.ensures

pub returns-in_default : goal.returns-in_default
returns-in_default c = too_short c.args.word.now c.in_default.len_below

pub returns-in_default-2 : goal.returns-in_default-2
returns-in_default-2 c = too_long c.args.word.now c.in_default.len_at_least
