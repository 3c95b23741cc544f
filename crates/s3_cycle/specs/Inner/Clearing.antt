-- Record identifying indicators that go off together.
use Rattle.std.specs.Prelude.{Bool, false, not, ◌&&◌, List, map, if◌then◌else◌}
use Rattle.std.specs.List.{list_any}
use Rattle.s3_cards.specs.declared.name.Name.{Name}
use Rattle.s3_cards.specs.Names.{same_name}
use Rattle.s3_lines.specs.declared.indicator.Indicator.{Indicator}
use Rattle.s3_meaning.specs.Environment.{Environment}
use Rattle.s3_meaning.specs.Names.{same_indicator}
use Rattle.s3_meaning.specs.Source.{Source}
use Rattle.s3_program.specs.declared.program.Program.{Program}
use Rattle.s3_program.specs.declared.starts.TypeStart.{TypeStart}
use Rattle.s3_match.specs.Inner.Types.{kind_at}

-- the state of an indicator after these types' indicators went off
abbrev pub turned_off : List Indicator → Indicator → Bool → Bool
turned_off types other on = if list_any (same_indicator other) types then false else on

-- the indicators of the types that start at these places
abbrev pub shown_by : Program → List TypeStart → List Indicator
shown_by program starts = map (λ start. (kind_at program start).indicator) starts

-- the record identifying indicators of one file go off
abbrev pub without_types_of : Name → Source → Environment → Environment
without_types_of file source e =
    record e { on = λ other. e.on other && not (list_any (λ kind. same_name kind.file file && same_indicator other kind.indicator) source.types) }
