-- The files so far are objects.
use Rattle.std.proofs.Common.{◌≡◌, map, take}
use Rattle.s3_json_lines.specs.Inner.Values.{json_of}
use Rattle.s3_deck_json.specs.Inner.Objects.{statement_json}
use Rattle.s3_deck_json.proofs.jobs.statements_value.Given as goal

abbrev pub invariant-loop-statement : goal.invariant-loop-statement
invariant-loop-statement l = map json_of l.values.items ≡ map statement_json (take l.statement-index l.statements)
