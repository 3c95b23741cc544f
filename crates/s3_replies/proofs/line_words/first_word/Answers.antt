-- The first word of what is left of a line.
use Rattle.std.proofs.Common.{rules}
use Rattle.s3_replies.proofs.WordLemmas.{comment_first, no_words, one_word}
use Rattle.s3_replies.proofs.line_words.first_word.Goals as goal

-- src/line_words.rt:46:9
pub returns-then-is_empty : goal.returns-then-is_empty
returns-then-is_empty c = no_words _ _ c.without_blanks-text.ensures.same (search rules)

pub returns-then-text-eq35 : goal.returns-then-text-eq35
returns-then-text-eq35 c = comment_first _ _ c.without_blanks-text.ensures.same c.without_blanks-text.ensures.begins (search rules)

-- src/line_words.rt:41:1
pub returns : goal.returns
returns c =
    let first = one_word _ _ c.without_blanks-text.ensures.same c.without_blanks-text.ensures.begins (search rules) c.if-text-eq35.false in
    cc
