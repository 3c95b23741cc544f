-- Output specifications: each line with its groups of conditions and its fields.
use Rattle.std.specs.Prelude.{Bool, List, [], ◌∷◌, ◌++◌, unwrap_or}
use Rattle.s3_cards.specs.declared.name.Name.{Name}
use Rattle.s3_lines.specs.declared.indicator.Condition.{Condition}
use Rattle.s3_lines.specs.declared.sheet.OutputKind.{OutputKind}
use Rattle.s3_lines.specs.declared.sheet.Spacing.{Spacing}
use Rattle.s3_lines.specs.declared.sheet.OutputCard.{OutputCard}
use Rattle.s3_lines.specs.declared.sheet.OutputField.{OutputField}
use Rattle.s3_lines.specs.declared.sheet.OutputLine.{OutputLine}
use Rattle.s3_lines.specs.declared.sheet.OutputLine.TheVariants.{Line, And, Or, Field}
use Rattle.s3_meaning.specs.Names.{entries}
use Rattle.s3_cards.specs.Names.{no_name}

-- a line is written if one of its groups of conditions holds
pub record Output : Type 0 where
  pub file : Name
  pub kind : OutputKind
  pub is_addition : Bool
  pub spacing : Spacing
  pub groups : List (List Condition)
  pub fields : List (OutputField Name)

-- the groups of conditions: AND lines continue a group, and each OR line begins another
abbrev pub groups_from : List Condition → List (OutputLine Name) → List (List Condition)
groups_from group (And conditions ∷ lines) = groups_from (group ++ entries conditions) lines
groups_from group (Or conditions ∷ lines) = group ∷ groups_from (entries conditions) lines
groups_from group _ = group ∷ []

-- the fields up to the next line card
abbrev pub fields_from : List (OutputLine Name) → List (OutputField Name)
fields_from [] = []
fields_from (Line card ∷ lines) = []
fields_from (And conditions ∷ lines) = fields_from lines
fields_from (Or conditions ∷ lines) = fields_from lines
fields_from (Field field ∷ lines) = field ∷ fields_from lines

abbrev pub output_from : Name → OutputCard Name → List (OutputLine Name) → Output
output_from file card lines =
    record {
      file = file;
      kind = card.kind;
      is_addition = card.is_addition;
      spacing = card.spacing;
      groups = groups_from (entries card.conditions) lines;
      fields = fields_from lines;
    }

-- the output lines of these cards; a line without a file name writes to the file of the previous line
abbrev pub outputs_from : Name → List (OutputLine Name) → List Output
outputs_from last [] = []
outputs_from last (Line card ∷ lines) = output_from (unwrap_or card.file last) card lines ∷ outputs_from (unwrap_or card.file last) lines
outputs_from last (And conditions ∷ lines) = outputs_from last lines
outputs_from last (Or conditions ∷ lines) = outputs_from last lines
outputs_from last (Field field ∷ lines) = outputs_from last lines

abbrev pub outputs_of : List (OutputLine Name) → List Output
outputs_of lines = outputs_from no_name lines
