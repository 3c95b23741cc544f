use Rattle.s3_solo.proofs.Settings.{date, switches, no_program, faulty, faulty_date, faulty_switches}
use Rattle.s3_solo.proofs.laws.jobs_set_date_and_switches.Goals as goal

pub returns-clause-date : goal.returns-clause-date
returns-clause-date c = date

pub returns-clause-switches : goal.returns-clause-switches
returns-clause-switches c = switches

pub returns-clause-no_program : goal.returns-clause-no_program
returns-clause-no_program c = no_program

pub returns-clause-faulty : goal.returns-clause-faulty
returns-clause-faulty c = faulty

pub returns-clause-faulty_date : goal.returns-clause-faulty_date
returns-clause-faulty_date c = faulty_date

pub returns-clause-faulty_switches : goal.returns-clause-faulty_switches
returns-clause-faulty_switches c = faulty_switches
