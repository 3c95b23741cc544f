-- Record types, record selection, matching records, sequence, and control breaks.
use Rattle.std.specs.Prelude.{ℕ, ◌-◌, ◌/◌, ◌%◌, ◌==◌, nat_lt, nat_eq, Bool, true, false, not, ◌&&◌, ◌||◌, List, [], ◌∷◌, ◌++◌, map, slice_index, slice_range, find, filter, filter_map, flat_map, Option, Some, None, is_some, unwrap_or, option_map, if◌then◌else◌}
use Rattle.std.specs.Option.{option_or}
use Rattle.std.specs.List.{list_any, list_all}
use Rattle.std.specs.Cmp.Lexicographic.{pointwise}
use Rattle.s3_decimal.specs.Records.{zoned_digits, packed_digits}
use Rattle.s3_cards.specs.declared.name.Name.{Name}
use Rattle.s3_lines.specs.declared.indicator.Indicator.{Indicator}
use Rattle.s3_lines.specs.declared.indicator.Indicator.TheVariants.{Level}
use Rattle.s3_lines.specs.declared.sheet.Designation.TheVariants.{Primary, Secondary}
use Rattle.s3_lines.specs.declared.sheet.CodePart.{CodePart}
use Rattle.s3_lines.specs.declared.sheet.CodePart.TheVariants.{Character, Zone, Digit}
use Rattle.s3_lines.specs.declared.sheet.RecordCode.{RecordCode}
use Rattle.s3_lines.specs.declared.sheet.FieldForm.{FieldForm}
use Rattle.s3_lines.specs.declared.sheet.FieldForm.TheVariants.{Alphanumeric, Zoned, Packed, PackedText}
use Rattle.s3_lines.specs.declared.sheet.FieldLine.{FieldLine}
use Rattle.s3_lines.specs.declared.sheet.FileLine.{FileLine}
use Rattle.s3_cards.specs.Names.{same_name}
use Rattle.s3_meaning.specs.RecordTypes.{RecordType}
use Rattle.s3_meaning.specs.Source.{Source, is_designated, own_fields}
use Rattle.s3_meaning.specs.Environment.{Environment}

-- ---- the type of a record
-- the zone of a code's character: C for &, D for -, F for a blank, otherwise the high half of its byte
abbrev pub zone_of : ℕ → ℕ
zone_of character = if character == 0x50 then 0xc else (if character == 0x60 then 0xd else (if character == 0x40 then 0xf else character / 16))

-- whether a byte has this zone: as its high half, or as the zone of its character
abbrev pub has_zone : ℕ → ℕ → Bool
has_zone byte zone = byte / 16 == zone || zone_of byte == zone

abbrev pub part_holds : CodePart → ℕ → ℕ → Bool
part_holds Character character byte = byte == character
part_holds Zone character byte = has_zone byte (zone_of character)
part_holds Digit character byte = byte % 16 == character % 16

abbrev pub code_holds : List ℕ → RecordCode → Bool
code_holds bytes code =
    let same : Bool = part_holds code.part code.character (slice_index bytes (code.position - 1)) in
    if code.negated then not same else same

-- the first type of the file whose codes all hold
abbrev pub type_of : Source → Name → List ℕ → Option RecordType
type_of source file bytes = find (λ kind. same_name kind.file file && list_all (code_holds bytes) kind.codes) source.types

-- ---- how match fields and control fields compare
-- the bytes of a field
abbrev pub field_bytes : FieldLine Name → List ℕ → List ℕ
field_bytes field bytes = slice_range bytes (field.from - 1) field.to

-- a text compares by its bytes, a number by its digits without sign
abbrev pub compared : FieldForm → List ℕ → List ℕ
compared Alphanumeric bytes = bytes
compared (Zoned decimals) bytes = zoned_digits bytes
compared (Packed decimals) bytes = packed_digits bytes
compared PackedText bytes = bytes

abbrev pub compared_field : List ℕ → FieldLine Name → List ℕ
compared_field bytes field = compared field.form (field_bytes field bytes)

abbrev pub is_at : ℕ → Option ℕ → Bool
is_at n (Some m) = n == m
is_at n None = false

-- the levels, highest first
abbrev pub levels : List ℕ
levels = 9 ∷ 8 ∷ 7 ∷ 6 ∷ 5 ∷ 4 ∷ 3 ∷ 2 ∷ 1 ∷ []

abbrev pub match_field : RecordType → ℕ → Option (FieldLine Name)
match_field kind n = find (λ field. is_at n field.match_level) (own_fields kind)

-- the key of a record: its match fields, M9 first; none if it has no match fields
abbrev pub match_key : RecordType → List ℕ → Option (List ℕ)
match_key kind bytes =
    if list_any (λ field. is_some field.match_level) (own_fields kind)
    then Some (flat_map (λ field. compared_field bytes field) (filter_map (match_field kind) levels))
    else None

abbrev pub is_below : List ℕ → List ℕ → Bool
is_below [] [] = false
is_below [] (b ∷ bs) = true
is_below (a ∷ as') [] = false
is_below (a ∷ as') (b ∷ bs) = nat_lt a b || a == b && is_below as' bs

abbrev pub same_key : Option (List ℕ) → Option (List ℕ) → Bool
same_key (Some a) (Some b) = pointwise nat_eq a b
same_key _ _ = false

-- ---- input files
-- the record at the head of a file: its number in order of reading, its bytes and its type
pub record Head : Type 0 where
  pub number : ℕ
  pub bytes : List ℕ
  pub kind : RecordType

pub data Standing : Type 0 where
  Unread : Standing
  Stands : Head → Standing
  Ended : Standing

-- A primary or secondary file, with how many of its records were read. `last_key` is the key of its last head that had match fields and
-- wasn't skipped.
pub record InputFile : Type 0 where
  pub file : FileLine
  pub standing : Standing
  pub reads : ℕ
  pub last_key : Option (List ℕ)

-- the primary and secondary files in the order of their cards, and the key of the last selected primary record with match fields
pub record Reading : Type 0 where
  pub files : List InputFile
  pub primary_key : Option (List ℕ)

abbrev pub head_of : InputFile → Option Head
head_of input = on input.standing
  where
    on : Standing → Option Head
    on (Stands head) = Some head
    on _ = None

abbrev pub is_unread : InputFile → Bool
is_unread input = on input.standing
  where
    on : Standing → Bool
    on Unread = true
    on _ = false

abbrev pub head_key : Head → Option (List ℕ)
head_key head = match_key head.kind head.bytes

-- ---- selection
pub record Selected : Type 0 where
  pub file : FileLine
  pub head : Head

abbrev pub selectable : InputFile → Option Selected
selectable input = option_map (λ head. record { file = input.file; head = head }) (head_of input)

abbrev pub key_of : Selected → Option (List ℕ)
key_of selected = head_key selected.head

abbrev pub is_less : Option (List ℕ) → Option (List ℕ) → Bool
is_less (Some a) (Some b) = is_below a b
is_less _ _ = false

-- the first of the records with the least key
abbrev pub lesser : Selected → Option Selected → Selected
lesser selected None = selected
lesser selected (Some other) = if is_less (key_of other) (key_of selected) then other else selected

abbrev pub least : List Selected → Option Selected
least [] = None
least (selected ∷ others) = Some (lesser selected (least others))

-- primary heads come before secondary heads
abbrev pub primary_first : List Selected → List Selected
primary_first heads = filter (λ selected. is_designated Primary selected.file) heads ++ filter (λ selected. is_designated Secondary selected.file) heads

-- the files with E have no head; if no file has E, all files have none
abbrev pub has_met_end : List InputFile → Bool
has_met_end inputs =
    let ending : List InputFile = filter (λ input. input.file.ends_job) inputs in
    list_all (λ input. not (is_some (head_of input))) (if list_any (λ input. input.file.ends_job) inputs then ending else inputs)

-- after the end, secondary heads with the last primary key are still selected, if no primary head is left
abbrev pub select_at_end : List Selected → Option (List ℕ) → Option Selected
select_at_end heads primary_key =
    if list_any (λ selected. is_designated Primary selected.file) heads then None
    else least (filter (λ selected. same_key (key_of selected) primary_key) heads)

-- the first head without match fields, else the head with the least key
abbrev pub select : Reading → Option Selected
select reading =
    let heads : List Selected = filter_map selectable reading.files in
    if has_met_end reading.files then select_at_end heads reading.primary_key
    else option_or (find (λ selected. not (is_some (key_of selected))) heads) (least (primary_first heads))

-- MR: a primary record matches if a secondary head has its key, a secondary record if it has the last primary key
abbrev pub is_matched : Reading → Selected → Bool
is_matched reading selected =
    if is_designated Primary selected.file
    then list_any (λ other. is_designated Secondary other.file && same_key (key_of other) (key_of selected)) (filter_map selectable reading.files)
    else same_key (key_of selected) reading.primary_key

-- a file after its head was selected
abbrev pub vacated : Name → InputFile → InputFile
vacated name input = if same_name input.file.name name then record input { standing = Unread } else input

-- the state of input after a record is selected
abbrev pub taken : Reading → Selected → Reading
taken reading selected =
    record {
      files = map (vacated selected.file.name) reading.files;
      primary_key = if is_designated Primary selected.file then option_or (key_of selected) reading.primary_key else reading.primary_key;
    }

-- ---- sequence
-- a key isn't lower than the last key of its file
abbrev pub in_sequence : Option (List ℕ) → Option (List ℕ) → Bool
in_sequence key last = not (is_less key last)

-- ---- control breaks
abbrev pub control_field : RecordType → ℕ → Option (FieldLine Name)
control_field kind n = find (λ field. is_at n field.control_level) (own_fields kind)

-- the control field of a level, if the type names the level
abbrev pub control_value : RecordType → List ℕ → ℕ → Option (List ℕ)
control_value kind bytes n = option_map (compared_field bytes) (control_field kind n)

-- A level breaks if the type names it, and its control field differs from the saved one or none is saved.
abbrev pub breaks_at : Environment → Head → ℕ → Bool
breaks_at e head n = let value : Option (List ℕ) = control_value head.kind head.bytes n in is_some value && not (same_key value (e.held n))

-- the greatest level that breaks; 0 if none does
abbrev pub break_level : Environment → Head → ℕ
break_level e head = unwrap_or (find (breaks_at e head) levels) 0

abbrev pub is_level_to : ℕ → Indicator → Bool
is_level_to n (Level m) = nat_lt 0 m && not (nat_lt n m)
is_level_to n _ = false

-- L1 up to the break's level go on, and the control fields are saved
abbrev pub broken : Head → Environment → Environment
broken head e =
    record e {
      on = λ indicator. is_level_to (break_level e head) indicator || e.on indicator;
      held = λ level. option_or (control_value head.kind head.bytes level) (e.held level);
    }
