-- The answer to the reading of a file.
use Rattle.std.proofs.Common.{◌≡◌, ℕ, ◌+◌, ◌<◌, length, set, List, Bool, true, false, refl, sym, ◌∙◌, ap}
use Rattle.std.specs.Prelude.{Option, Some, None, if◌then◌else◌}
use Rattle.std.specs.Option.{option_or}
use Rattle.std.proofs.lemmas.Bool.{true≢false}
use Rattle.std.proofs.lemmas.List.{get_or-set_same, set-set}
use Rattle.s3_operator.specs.declared.halt_code.HaltCode.TheVariants.{OutOfSequence, UnidentifiedRecord}
use Rattle.s3_meaning.specs.RecordTypes.{RecordType}
use Rattle.s3_meaning.specs.Requests.{Answer, Found, Nothing, Done, Refused, Reply}
use Rattle.s3_meaning.specs.Source.{Source}
use Rattle.s3_meaning.specs.Environment.{Environment}
use Rattle.s3_meaning.specs.Runs.{Rest, Anew, halted}
use Rattle.s3_meaning.specs.Selection.{InputFile, Stands, type_of, match_key, in_sequence}
use Rattle.s3_meaning.specs.Cycle.{headed, typed, counted_read, on_read}
use Rattle.s3_program.specs.declared.program.Program.{Program}
use Rattle.s3_program.specs.declared.starts.TypeStart.{TypeStart}
use Rattle.s3_program.specs.Inner.Stands.{source_named}
use Rattle.s3_match.specs.Inner.Types.{kind_at}
use Rattle.s3_match.specs.Inner.Heads.{ended, put}
use Rattle.s3_match.specs.Inner.Reading.{no_input, input_at, read_from, read_behind, on_record, is_record}

pub record_counted : (source : Source) (anew : Anew) (inputs : List InputFile) (place : ℕ) (bytes : List ℕ) (go : List InputFile → Rest) (e : Environment) → place < length inputs
    → on_read source anew (input_at inputs place) (read_behind source anew inputs place go) (Found bytes) e ≡ on_record source anew (set inputs place (counted_read (input_at inputs place))) place bytes go e
unfolding on_read
record_counted source anew inputs place bytes go e within =
    λ i. typed anew (there i) bytes (type_of source (there i).file.name bytes) (λ input. read_from source anew (again input i) (place + 1) go) e
  where
    there : counted_read (input_at inputs place) ≡ input_at (set inputs place (counted_read (input_at inputs place))) place
    there = sym (get_or-set_same inputs place (counted_read (input_at inputs place)) no_input within)

    again : (input : InputFile) → set inputs place input ≡ set (set inputs place (counted_read (input_at inputs place))) place input
    again input = sym (set-set inputs place (counted_read (input_at inputs place)) input)

-- a record of a type, by whether it is in sequence
headed_by : (source : Source) (anew : Anew) (inputs : List InputFile) (place : ℕ) (kind : RecordType) (bytes : List ℕ) (go : List InputFile → Rest) (e : Environment) (b : Bool)
    → type_of source (input_at inputs place).file.name bytes ≡ Some kind → in_sequence (match_key kind bytes) (input_at inputs place).last_key ≡ b
    → on_record source anew inputs place bytes go e
    ≡ (if b
    then read_behind source anew inputs place go (record (input_at inputs place) { standing = Stands (record { number = (input_at inputs place).reads; bytes = bytes; kind = kind }); last_key = option_or (match_key kind bytes) (input_at inputs place).last_key })
    else halted anew OutOfSequence (anew.read (input_at inputs place) (read_behind source anew inputs place go))) e
unfolding typed headed
headed_by source anew inputs place kind bytes go e b found is =
    ap (λ (o : Option RecordType). typed anew (input_at inputs place) bytes o (read_behind source anew inputs place go) e) found
    ∙ ap (λ (b : Bool). (if b
    then read_behind source anew inputs place go (record (input_at inputs place) { standing = Stands (record { number = (input_at inputs place).reads; bytes = bytes; kind = kind }); last_key = option_or (match_key kind bytes) (input_at inputs place).last_key })
    else halted anew OutOfSequence (anew.read (input_at inputs place) (read_behind source anew inputs place go))) e) is

pub record_stands : (program : Program) (anew : Anew) (inputs : List InputFile) (place : ℕ) (start : TypeStart) (bytes : List ℕ) (go : List InputFile → Rest) (e : Environment)
    → type_of (source_named program) (input_at inputs place).file.name bytes ≡ Some (kind_at program start) → in_sequence (match_key (kind_at program start) bytes) (input_at inputs place).last_key ≡ true
    → on_record (source_named program) anew inputs place bytes go e ≡ read_from (source_named program) anew (set inputs place (put program start bytes (input_at inputs place))) (place + 1) go e
record_stands program anew inputs place start bytes go e found is = headed_by (source_named program) anew inputs place (kind_at program start) bytes go e true found is

pub record_out_of_sequence : (source : Source) (anew : Anew) (inputs : List InputFile) (place : ℕ) (kind : RecordType) (bytes : List ℕ) (go : List InputFile → Rest) (e : Environment)
    → type_of source (input_at inputs place).file.name bytes ≡ Some kind → in_sequence (match_key kind bytes) (input_at inputs place).last_key ≡ false
    → on_record source anew inputs place bytes go e ≡ halted anew OutOfSequence (anew.read (input_at inputs place) (read_behind source anew inputs place go)) e
record_out_of_sequence source anew inputs place kind bytes go e found is = headed_by source anew inputs place kind bytes go e false found is

pub record_unidentified : (source : Source) (anew : Anew) (inputs : List InputFile) (place : ℕ) (bytes : List ℕ) (go : List InputFile → Rest) (e : Environment)
    → type_of source (input_at inputs place).file.name bytes ≡ None
    → on_record source anew inputs place bytes go e ≡ halted anew UnidentifiedRecord (anew.read (input_at inputs place) (read_behind source anew inputs place go)) e
unfolding typed
record_unidentified source anew inputs place bytes go e none = ap (λ (o : Option RecordType). typed anew (input_at inputs place) bytes o (read_behind source anew inputs place go) e) none

pub file_ended : (source : Source) (anew : Anew) (inputs : List InputFile) (place : ℕ) (answer : Answer) (go : List InputFile → Rest) (e : Environment) → is_record answer ≡ false
    → on_read source anew (input_at inputs place) (read_behind source anew inputs place go) answer e ≡ read_from source anew (set inputs place (ended (input_at inputs place))) (place + 1) go e
unfolding on_read
file_ended source anew inputs place (Found bytes) go e none = absurd (true≢false none)
file_ended source anew inputs place Nothing go e none = refl
file_ended source anew inputs place Done go e none = refl
file_ended source anew inputs place (Refused code) go e none = refl
file_ended source anew inputs place (Reply digit) go e none = refl
