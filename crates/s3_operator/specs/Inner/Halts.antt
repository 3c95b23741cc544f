-- A halt of the log in the terms of the definitions.
use Rattle.s3_operator.specs.declared.halt.Halt.{Halt}
use Rattle.s3_operator.specs.Halts.{ShownHalt}

abbrev pub halt_of : Halt → ShownHalt
halt_of halt = record { job = halt.job; code = halt.code; details = halt.details.items; reply = halt.reply }
