use Rattle.std.proofs.Common.{◌∙◌, ap, inr}
use Rattle.csv.specs.Reading.{builder_config, builder_names_headers, builder_trim}
use Rattle.csv.specs.declared.parser.Config.{Config}
use Rattle.s3_load.proofs.TableLemmas.{starts_reading}
use Rattle.s3_load.proofs.table.reader_of.Goals as goal

pub returns : goal.returns
returns g c =
    let made = c.from_reader.ensures in
    let named = made.has_headers ∙ ap builder_names_headers c.delimiter.ensures ∙ ap builder_names_headers c.flexible.ensures ∙ ap builder_names_headers c.has_headers.ensures in
    let trims = made.trim ∙ ap builder_trim c.delimiter.ensures ∙ ap builder_trim c.flexible.ensures ∙ ap builder_trim c.has_headers.ensures ∙ c.new.ensures.trim in
    let before = ap builder_config c.flexible.ensures ∙ ap builder_config c.has_headers.ensures ∙ c.new.ensures.config in
    let config = made.config ∙ ap builder_config c.delimiter.ensures ∙ ap (λ (k : Config). record k { delimiter = c.args.delimiter }) before in
    starts_reading g.R.Read.remaining (g.R.Read.remaining c.args.reader) c.args.delimiter c.from_reader.result (inr (inr (named, made.headers))) trims config made.source made.state
