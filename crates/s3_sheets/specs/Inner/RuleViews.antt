-- The rules and operations of the code as lists, without memory locations.
use Rattle.std.specs.Prelude.{ℕ, List, map}
use Rattle.s3_lines.specs.declared.sheet.Operation.{Operation}
use Rattle.s3_sheets.specs.Rules as spec
use Rattle.s3_sheets.specs.declared.operations.Row.{Row}
use Rattle.s3_sheets.specs.declared.rules.Rule.{Rule}
use Rattle.s3_sheets.specs.declared.rules.Entry.{Entry}
use Rattle.s3_sheets.specs.declared.rules.Entry.TheVariants as variant

abbrev pub entry_view : Entry → spec.Entry
entry_view variant.Blank = spec.Blank
entry_view (variant.OneOf texts) = spec.OneOf (map (λ text. text.now) texts.now)
entry_view variant.Letters = spec.Letters
entry_view (variant.Listed list) = spec.Listed list
entry_view (variant.MaybeListed list) = spec.MaybeListed list
entry_view (variant.MaybeLevel letter) = spec.MaybeLevel letter
entry_view variant.MaybeCondition = spec.MaybeCondition
entry_view variant.Time = spec.Time
entry_view variant.CodeTest = spec.CodeTest
entry_view variant.MaybeEditCode = spec.MaybeEditCode
entry_view variant.Name = spec.Name
entry_view variant.MaybeName = spec.MaybeName
entry_view variant.MaybeConstant = spec.MaybeConstant
entry_view (variant.MaybeFactor longest) = spec.MaybeFactor longest
entry_view (variant.Number low high) = spec.Number low high
entry_view (variant.MaybeNumber low high) = spec.MaybeNumber low high
entry_view variant.CodePosition = spec.CodePosition

abbrev pub rule_view : Rule → spec.Rule
rule_view rule = record { from = rule.span.from; to = rule.span.to; entry = entry_view rule.entry }

abbrev pub row_view : Row → List ℕ × Operation
row_view row = (row.word, row.operation)
