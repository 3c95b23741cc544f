-- What the tables of a source say, as look-ups.
use Rattle.std.specs.Prelude.{nat_eq}
use Rattle.std.specs.Map.{lookup}
use Rattle.indexmap.specs.IndexSet.{contains}
use Rattle.s3_cards.specs.Names.{same_name}
use Rattle.s3_lines.specs.Indicators.{indicator_number}
use Rattle.s3_warnings.specs.declared.known.Known.{Known}
use Rattle.s3_warnings.specs.Inner.Facts.{Facts}

abbrev pub facts_shown : Known → Facts
facts_shown known = record {
  is_set = λ indicator. contains nat_eq known.set (indicator_number indicator);
  is_tested = λ indicator. contains nat_eq known.tested (indicator_number indicator);
  shape = λ name. lookup (same_name name) known.shapes.entries;
}
