use Rattle.std.proofs.Common.{ap, sym}
use Rattle.s3_cards.specs.Codes.{ebcdic, code_page}
use Rattle.s3_sheets.specs.Tables.{output_field_rules, rules_of}
use Rattle.s3_sheets.proofs.tables.rules_of.Goals as goal

pub returns-in-OutputField-clause-list : goal.returns-in-OutputField-clause-list
unfolding output_field_rules ebcdic code_page
returns-in-OutputField-clause-list c = ap rules_of (sym c.in-OutputField.is)
