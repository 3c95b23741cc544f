use Rattle.s3_job_files.proofs.Opened.{opened_holds, opened_ready}
use Rattle.s3_job_files.proofs.job_files.JobFiles.push.Goals as goal

pub returns-clause-ready : goal.returns-clause-ready
returns-clause-ready c = λ pack. opened_ready c.args.self.now.level c.args.self.now.files.items c.push.new.self.items c.args.file pack c.in_ok-push.ensures.items

pub returns-clause-holds : goal.returns-clause-holds
returns-clause-holds c = λ pack in_use. opened_holds c.args.self.now.level c.args.self.now.files.items c.push.new.self.items c.args.file pack in_use c.in_ok-push.ensures.items
