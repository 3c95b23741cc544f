use Rattle.std.proofs.Common.{refl}
use Rattle.s3_spool.proofs.BlocksLemmas.{kept_front, taken_from_one, taken_from_two}
use Rattle.s3_spool.proofs.spool.Spool.dequeue.Goals as goal
use Rattle.s3_spool.proofs.spool.Spool.dequeue.Goals.{in-One, in-Two}

pub invariant_of-self : goal.invariant_of-self
invariant_of-self c =
    let s = c.self.inside in
    let first = rw (← c.self.view_is) at c.requires in
    elim c.match-level.branch [
      | in-One w ↦ rw (c.push_front.ensures.items, w.self-inside-is, w.pop_front.ensures.items) (taken_from_one s.free s.one s.two c.args.block (rw w.in-One.is at first) c.self.invariant)
      | in-Two w ↦ rw (c.push_front.ensures.items, w.self-inside-is, w.pop_front-in-Two.ensures.items) (taken_from_two s.free s.one s.two c.args.block (rw w.in-Two.is at first) c.self.invariant)
    ]

pub returns-clause-taken : goal.returns-clause-taken
returns-clause-taken c =
    let s = c.self.inside in
    let kept = kept_front c.args.level s.free s.one s.two c.args.block (rw (← c.self.view_is) at c.requires) c.self.invariant in
    elim c.match-level.branch [
      | in-One w ↦ rw (c.push_front.ensures.items, w.self-inside-is, w.pop_front.ensures.items, w.in-One.is, ← c.self.view_is, kept) refl
      | in-Two w ↦ rw (c.push_front.ensures.items, w.self-inside-is, w.pop_front-in-Two.ensures.items, w.in-Two.is, ← c.self.view_is, kept) refl
    ]

pub returns-clause-blocks : goal.returns-clause-blocks
returns-clause-blocks c = (invariant_of-self c).1.1.1.1
