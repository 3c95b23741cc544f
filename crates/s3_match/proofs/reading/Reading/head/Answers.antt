use Rattle.s3_match.proofs.ReadingLemmas.{head_is, head_starts}
use Rattle.s3_match.proofs.reading.Reading.head.Goals as goal

pub returns-clause-selected : goal.returns-clause-selected
returns-clause-selected c = λ program. head_is program c.args.self.now.files.items c.args.place c.index.result.now c.in-Stands.start c.requires.within c.index.ensures c.in-Stands.is

pub returns-clause-starts : goal.returns-clause-starts
returns-clause-starts c = λ program sound. head_starts program c.args.self.now c.args.place c.index.result.now c.in-Stands.start c.requires.within c.index.ensures c.in-Stands.is sound
