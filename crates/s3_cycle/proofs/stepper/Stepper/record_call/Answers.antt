use Rattle.s3_cycle.proofs.PrintLemmas.{add_fits, adds, appends, store_within, update_fits, updates}
use Rattle.s3_cycle.proofs.stepper.Stepper.record_call.Goals as goal

pub returns-in-Append-clause-request : goal.returns-in-Append-clause-request
returns-in-Append-clause-request c = appends c.args.self.now c.args.file c.args.request c.in-Append.is

pub returns-in-Add-clause-request : goal.returns-in-Add-clause-request
returns-in-Add-clause-request c = adds c.args.self.now c.args.file c.args.request c.in-Add.is

pub returns-in-Update-clause-request : goal.returns-in-Update-clause-request
returns-in-Update-clause-request c =
    updates c.args.self.now c.args.file c.args.request c.index.result.now c.requires.sound (store_within c.args.self.now c.args.file c.args.request c.requires.stores) c.index.ensures c.in-Update.is

pub returns-in-Append-clause-fits : goal.returns-in-Append-clause-fits
returns-in-Append-clause-fits c = c.requires.stores.fits

pub returns-in-Add-clause-fits : goal.returns-in-Add-clause-fits
returns-in-Add-clause-fits c = add_fits c.args.self.now c.args.file c.args.request c.in-Add.is c.requires.stores

pub returns-in-Update-clause-fits : goal.returns-in-Update-clause-fits
returns-in-Update-clause-fits c = update_fits c.args.self.now c.args.file c.args.request c.index.result.now c.in-Update.is c.requires.stores
