use Rattle.s3_output.proofs.LawLemmas.{line_starts, file_there, walk_lines, walked_start}
use Rattle.s3_output.proofs.laws.lines_start_there.Goals as goal

pub returns-clause-walked : goal.returns-clause-walked
returns-clause-walked c = walk_lines

pub returns-clause-starts : goal.returns-clause-starts
returns-clause-starts c = walked_start

pub returns-clause-lines : goal.returns-clause-lines
returns-clause-lines c = line_starts

pub returns-clause-files : goal.returns-clause-files
returns-clause-files c = file_there
