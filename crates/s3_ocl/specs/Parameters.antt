-- The parameters of a statement.
use Rattle.std.specs.Prelude.{ℕ, ◌+◌, ◌-◌, ◌==◌, List, [], Bool, Option, Some, None, length, take, drop, slice_index, if◌then◌else◌}
use Rattle.std.specs.List.{position_or_len, slice_split}
use Rattle.s3_ocl.specs.declared.parameters.Verb.{Verb}
use Rattle.s3_ocl.specs.declared.parameters.Verb.TheVariants as verb
use Rattle.s3_ocl.specs.declared.parameters.Parameter.{Parameter}
use Rattle.s3_ocl.specs.declared.parameters.Parameter.TheVariants as parameter
use Rattle.s3_ocl.specs.declared.parameters.Entry.{Entry}
use Rattle.s3_ocl.specs.declared.parameters.Entry.TheVariants.{Empty, Unknown, Surplus, Missing, Wrong, Right}
use Rattle.s3_ocl.specs.declared.values.Value.{Value}
use Rattle.s3_ocl.specs.Signs.{is_comma, is_hyphen}
use Rattle.s3_ocl.specs.Values as value
use Rattle.s3_ocl.specs.Words.{reads}
use Rattle.s3_ocl.specs.declared.words.TheConstants.{LOAD, FILE, DATE, SWITCH, RUN, NAME, UNIT, PACK, LABEL, RECORDS, TRACKS, RETAIN}

-- the statement of a keyword
abbrev pub verb_of : List ℕ → Option Verb
verb_of keyword =
    if reads keyword LOAD then Some verb.Load
    else if reads keyword FILE then Some verb.File
    else if reads keyword DATE then Some verb.Date
    else if reads keyword SWITCH then Some verb.Switch
    else if reads keyword RUN then Some verb.Run
    else None

-- the parameter of a FILE statement with this keyword
abbrev pub parameter_of : List ℕ → Option Parameter
parameter_of key =
    if reads key NAME then Some parameter.FileName
    else if reads key UNIT then Some parameter.Unit
    else if reads key PACK then Some parameter.Pack
    else if reads key LABEL then Some parameter.Label
    else if reads key RECORDS then Some parameter.Records
    else if reads key TRACKS then Some parameter.Tracks
    else if reads key RETAIN then Some parameter.Retain
    else None

-- the value of a parameter as text; none if the parameter can't have it
abbrev pub value_of : Parameter → List ℕ → Option Value
value_of parameter.Program text = value.name_value 6 text
value_of parameter.Unit text = value.unit_value text
value_of parameter.FileName text = value.name_value 8 text
value_of parameter.Pack text = value.pack_value text
value_of parameter.Label text = value.name_value 8 text
value_of parameter.Records text = value.count_value 6 text
value_of parameter.Tracks text = value.count_value 3 text
value_of parameter.Retain text = value.retention_value text
value_of parameter.Date text = value.date_value text
value_of parameter.Switches text = value.switches_value text

-- a parameter with its value
abbrev pub given_by : Parameter → Option Value → Entry
given_by parameter None = Wrong parameter
given_by parameter (Some value) = Right parameter value

abbrev pub given : Parameter → List ℕ → Entry
given parameter text = if length text == 0 then Missing parameter else given_by parameter (value_of parameter text)

abbrev pub given_key : Option Parameter → List ℕ → Entry
given_key None text = Unknown
given_key (Some parameter) text = given parameter text

-- a parameter of a FILE statement: its keyword, a hyphen and its value
abbrev pub keyed : List ℕ → Entry
keyed text =
    let end : ℕ = position_or_len is_hyphen text in
    if end == length text then Unknown else given_key (parameter_of (take end text)) (drop (end + 1) text)

-- the parameter at a place of a statement, counted from 0
abbrev pub entry_at : Verb → ℕ → List ℕ → Entry
entry_at verb.Load place text =
    if place == 0 then given parameter.Program text else if place == 1 then given parameter.Unit text else Surplus
entry_at verb.File place text = keyed text
entry_at verb.Date place text = if place == 0 then given parameter.Date text else Surplus
entry_at verb.Switch place text = if place == 0 then given parameter.Switches text else Surplus
entry_at verb.Run place text = Surplus

-- an empty text between two commas is a missing value
abbrev pub entry_of : Verb → ℕ → List ℕ → Entry
entry_of verb place text = if length text == 0 then Empty else entry_at verb place text

-- a text that ends with a comma continues on the next card
abbrev pub goes_on : List ℕ → Bool
goes_on text = is_comma (slice_index text (length text - 1))

-- a text without its final comma, if it has one
abbrev pub without_comma : List ℕ → List ℕ
without_comma text = if goes_on text then take (length text - 1) text else text

-- the texts between the commas of a card's parameters
abbrev pub parts_of : List ℕ → List (List ℕ)
parts_of text = if length text == 0 then [] else slice_split is_comma (without_comma text)
