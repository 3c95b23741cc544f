use Rattle.s3_compile.proofs.Knowing.{known_found}
use Rattle.s3_compile.proofs.known.fill_tables.Goals as goal

pub returns-clause-shown : goal.returns-clause-shown
returns-clause-shown c =
    known_found (record { definitions = c.define.new.known; file_places = c.in_ok-known.field-0; marks = c.mark.new.marks; forbidden = c.in_ok-known-2.field-0 }) c.args.lines.now
    c.in_ok-define.ensures c.in_ok-known.ensures c.in_ok-mark.ensures c.in_ok-known-2.ensures
