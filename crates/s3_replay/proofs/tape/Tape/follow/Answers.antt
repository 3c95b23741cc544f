use Rattle.std.proofs.Common.{rules, ◌-◌, length}
use Rattle.s3_replay.proofs.Taping.{nothing_new}
use Rattle.s3_replay.proofs.tape.Tape.follow.Goals as goal

pub returns-then-from-whole-clause-replies : goal.returns-then-from-whole-clause-replies
returns-then-from-whole-clause-replies g c before = nothing_new c.args.self.now.written.items c.args.parts.now c.args.self.now.seen c.max-from.result (length c.args.parts.now - 1) (search rules) (search rules) before
