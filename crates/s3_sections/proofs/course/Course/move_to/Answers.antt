use Rattle.std.proofs.Common.{refl}
use Rattle.std.specs.Prelude.{None}
use Rattle.s3_sections.proofs.CourseLemmas.{calls_moved}
use Rattle.s3_sections.proofs.course.Course.move_to.Goals as goal

pub returns-clause-course : goal.returns-clause-course
returns-clause-course c = λ program course there.
    record { here = there; calls = calls_moved program None c.args.self.now.returns.items c.args.self.now.here (record c.args.self.now.here { place = c.args.place }) course.calls refl }
