use Rattle.s3_opening.proofs.NewFiles.{proper_file, same_proper}
use Rattle.s3_opening.proofs.asked.new_file.Goals as goal

pub returns-clause-proper : goal.returns-clause-proper
returns-clause-proper c =
    same_proper c.args.date c.args.line.now c.args.statement.now _ _ _ _ c.organization_of.ensures c.key_length_of.ensures c.key_start_of.ensures c.size_of.ensures.size
    (proper_file c.args.date c.args.line.now c.args.statement.now c.requires.line c.requires.disk c.requires.statement)
