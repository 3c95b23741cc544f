use Rattle.std.proofs.Common.{◌≡◌, map, take}
use Rattle.s3_program.proofs.copied.copied_all.Given as goal

abbrev pub invariant-loop-list : goal.invariant-loop-list
invariant-loop-list T l = map (λ list. list.items) l.copies.items ≡ map (λ list. list.items) (take l.list-index l.lists)
