-- The compiler's tables of the lines, as look-up functions.
use Rattle.indexmap.specs.IndexMap.{get}
use Rattle.indexmap.specs.IndexSet.{contains}
use Rattle.s3_cards.specs.Names.{same_name}
use Rattle.s3_program.specs.Jumps.{same_call}
use Rattle.s3_program.specs.Tables.{meaning_of}
use Rattle.s3_program.specs.Inner.Translation.{tables_in}
use Rattle.s3_program.specs.Matching.{Marks, same_group_mark, same_type_mark, same_level, same_type}
use Rattle.s3_diagnose.specs.Lookups.{Known}
use Rattle.s3_diagnose.specs.declared.tables.MarkTables.{MarkTables}
use Rattle.s3_diagnose.specs.declared.tables.KnownTables.{KnownTables}

abbrev pub marks_shown : MarkTables → Marks
marks_shown tables = record {
  is_type = contains same_type tables.types;
  in_all = get same_group_mark tables.in_all;
  in_some = get same_group_mark tables.in_some;
  in_type = get same_type_mark tables.in_type;
  shape = get same_level tables.shapes;
  matched = tables.matched;
}

abbrev pub known_shown : KnownTables → Known
known_shown tables = record {
  meanings = meaning_of (tables_in tables.definitions);
  first_file = get same_name tables.file_places;
  marks = marks_shown tables.marks;
  forbidden = contains same_call tables.forbidden;
}
