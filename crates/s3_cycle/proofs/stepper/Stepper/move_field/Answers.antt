use Rattle.std.proofs.Common.{arith}
use Rattle.s3_cycle.proofs.InputLemmas.{bad_fits, bad_moves, field_there}
use Rattle.s3_cycle.proofs.stepper.Stepper.move_field.Goals as goal

pub index-requires : goal.index-requires
index-requires c = let within = field_there c.args.self.now c.args.place c.requires.running c.requires.field in omega (arith, within, c.args.self.now.inputs.ok.0)

pub move_bad-requires : goal.move_bad-requires
move_bad-requires c = bad_fits c.args.self.now c.args.moves c.args.place c.moved_bytes-bytes.result.now c.index.result.now c.requires.running c.requires.field c.requires.fields c.moved_bytes-bytes.ensures c.index.ensures

pub returns : goal.returns
returns c =
    bad_moves c.args.self.now c.args.moves c.args.place c.moved_bytes-bytes.result.now c.index.result.now c.move_bad.new.values c.requires.running c.requires.field c.requires.fields c.moved_bytes-bytes.ensures c.index.ensures
    c.move_bad.ensures
