use Rattle.std.proofs.Common.{◌∙◌, ◌||◌, ap, sym}
use Rattle.std.specs.Prelude.{Option, nat_eq}
use Rattle.indexmap.specs.IndexSet.{contains}
use Rattle.s3_lines.specs.Indicators.{indicator_number}
use Rattle.s3_warnings.specs.declared.entries.IndicatorEntry.{IndicatorEntry}
use Rattle.s3_warnings.specs.Inner.Facts.{is_entry_of}
use Rattle.s3_warnings.proofs.FactLemmas.{one_added}
use Rattle.s3_warnings.proofs.known.add.Goals as goal

pub returns-in_ok-insert : goal.returns-in_ok-insert
returns-in_ok-insert c indicator =
    one_added c.args.set.now c.insert.new.self c.number.result c.in-Some.entry.indicator c.number.ensures.number c.in_ok-insert.ensures.updates.0 indicator
    ∙ ap (λ (e : Option IndicatorEntry). is_entry_of indicator e || contains nat_eq c.args.set.now (indicator_number indicator)) (sym c.in-Some.is)
