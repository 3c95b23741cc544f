use Rattle.std.proofs.Common.{refl, ◌∙◌, ap, get_or, [], arith}
use Rattle.s3_ocl.specs.Parameters.{verb_of}
use Rattle.s3_ocl.proofs.PieceLemmas.{statement_read}
use Rattle.s3_ocl.proofs.statements.read_statement.Goals as goal

pub returns-clause-value : goal.returns-clause-value
returns-clause-value c =
    statement_read _ c.args.cards.now c.args.place c.loop-next.end _ _ (get_or c.args.cards.now c.args.place []) c.loop-next.text.now _ _ c.loop-next.invariant
    c.in_default.ensures.texts (c.verb_of-verb.ensures ∙ ap verb_of c.first_words.ensures.first) refl refl c.goes_on.ensures

pub returns-clause-within : goal.returns-clause-within
returns-clause-within c = (omega (arith, c.loop-next.invariant.begun), omega (arith, c.loop-next.invariant.begun, c.loop-next.invariant.within))
