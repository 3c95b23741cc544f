use Rattle.std.proofs.Common.{◌∙◌, arith}
use Rattle.s3_match.proofs.ToldLemmas.{start_placed, place_there}
use Rattle.s3_match.proofs.reading.Reading.place_of.Goals as goal

pub index-requires : goal.index-requires
index-requires c =
    omega (arith, start_placed c.args.program.now c.args.self.now.line_places.items c.args.start c.requires.sound.line_places c.requires.starts, c.args.self.now.line_places.ok.0)

pub returns-clause-place : goal.returns-clause-place
returns-clause-place c = c.index.ensures ∙ place_there c.args.program.now c.args.self.now.line_places.items c.args.start _ c.requires.sound.line_places c.requires.starts
