use Rattle.std.proofs.Common.{◌≤◌, arith, length}
use Rattle.std.proofs.lemmas.Bool.Decides.{nat_tests}
use Rattle.s3_ocl.proofs.FileLemmas.{file_more}
use Rattle.s3_ocl.proofs.file_list.FileList.push.Goals as goal

pub invariant_of-self-2 : goal.invariant_of-self-2
invariant_of-self-2 c =
    let many : 8 ≤ length c.reserve.new.self.items = grind (arith, nat_tests, c.len.ensures, c.if-len-lt-FEW.false) in
    rw c.push_reserved-2.ensures.items (file_more c.reserve.new.self.items _ _ _ many (rw c.reserve.ensures.items c.self.invariant) c.in_ok-insert.ensures.updates.0)
