-- Worked examples: matching records and the end of files.
use Rattle.std.specs.Prelude.{ℕ, Bool, true, false, ◌++◌, List, [], ◌∷◌, Some, codes}
use Rattle.s3_lines.specs.declared.indicator.Indicator.TheVariants.{General, Matching}
use Rattle.s3_lines.specs.declared.sheet.Designation.TheVariants.{Primary, Secondary}
use Rattle.s3_lines.specs.declared.sheet.FieldForm.TheVariants.{Alphanumeric, Zoned, Packed}
use Rattle.s3_lines.specs.Inner.Blanks.{none_of_three}
use Rattle.s3_lines.specs.declared.sheet.InputLine.TheVariants.{Or as InputOr, Field as InputField}
use Rattle.s3_lines.specs.declared.sheet.SheetLine.TheVariants.{Input}
use Rattle.s3_lines.specs.declared.sheet.OutputKind.TheVariants.{Detail}
use Rattle.s3_lines.specs.declared.sheet.OutputForm.TheVariants.{Plain}
use Rattle.s3_lines.specs.declared.sheet.SheetLine.{SheetLine}
use Rattle.s3_operator.specs.declared.halt_code.HaltCode.TheVariants.{OutOfSequence}
use Rattle.s3_meaning.specs.Requests.{Request, Ask, End, Answer, Found, Nothing, Done, Reply}
use Rattle.s3_meaning.specs.Inner.Samples.{padded_to}
use Rattle.s3_meaning.specs.Inner.SheetWords.{Corner, on, print_file, disk_file, type_of_all, type_by, plain_field, match_field_at, line, constant, constant_on, value, record_of, read_from, printed_at}

-- a record type of a file with this indicator, with M1 in positions 1 to 2
abbrev pub matched_type : List ℕ → ℕ → List SheetLine
matched_type file indicator = type_of_all file indicator ∷ match_field_at 1 2 Alphanumeric (codes "K") 1 ∷ []

-- records of this type print the file's name and M1, and M if MR is on
abbrev pub matched_line : List ℕ → ℕ → List SheetLine
matched_line file indicator =
    line Detail (on (General indicator)) ∷ constant 1 file ∷ value 3 (codes "K") Plain ∷ constant_on (on Matching) 4 (codes "M") ∷ []

-- a primary P and a secondary S; records of P that begin with X have no match fields; P may have E
abbrev pub primary_and_secondary : (primary_ends : Bool) → List Answer → List Request → Corner
primary_and_secondary primary_ends answers requests = record {
  sheets =
      disk_file (codes "P") Primary primary_ends ∷ disk_file (codes "S") Secondary false ∷ print_file
      ∷ type_by (codes "P") 3 0xe7 ∷ matched_type (codes "P") 1 ++ matched_type (codes "S") 2
      ++ matched_line (codes "P") 1 ++ matched_line (codes "S") 2
      ++ line Detail (on (General 3)) ∷ constant 2 (codes "PX") ∷ constant_on (on Matching) 4 (codes "M") ∷ [];
  answers = answers;
  requests = requests;
}

-- if P has E, its end ends the job after the secondary records with the last primary key
abbrev pub with_end : Corner
with_end =
    primary_and_secondary true
    (record_of (codes "10") ∷ record_of (codes "20") ∷ Done ∷ record_of (codes "20") ∷ Done ∷ Nothing ∷ Done ∷ record_of (codes "30") ∷ [])
    (read_from (codes "P") ∷ read_from (codes "S") ∷ printed_at 1 1 (codes "P10") ∷ read_from (codes "P") ∷ printed_at 1 2 (codes "P20M")
    ∷ read_from (codes "P") ∷ printed_at 1 3 (codes "S20M") ∷ read_from (codes "S") ∷ End false ∷ [])

-- without E, all records of both files are processed
abbrev pub without_end : Corner
without_end =
    primary_and_secondary false
    (record_of (codes "10") ∷ record_of (codes "20") ∷ Done ∷ record_of (codes "20") ∷ Done ∷ Nothing ∷ Done ∷ record_of (codes "30") ∷ Done ∷ Nothing ∷ [])
    (read_from (codes "P") ∷ read_from (codes "S") ∷ printed_at 1 1 (codes "P10") ∷ read_from (codes "P") ∷ printed_at 1 2 (codes "P20M")
    ∷ read_from (codes "P") ∷ printed_at 1 3 (codes "S20M") ∷ read_from (codes "S") ∷ printed_at 1 4 (codes "S30") ∷ read_from (codes "S")
    ∷ End false ∷ [])

-- a record without match fields is processed at once, with MR off
abbrev pub without_key : Corner
without_key =
    primary_and_secondary false
    (record_of (codes "10") ∷ record_of (codes "05") ∷ Done ∷ Nothing ∷ Done ∷ record_of (codes "X") ∷ Done ∷ record_of (codes "20") ∷ Done ∷ Nothing ∷ [])
    (read_from (codes "P") ∷ read_from (codes "S") ∷ printed_at 1 1 (codes "S05") ∷ read_from (codes "S") ∷ printed_at 1 2 (codes "P10")
    ∷ read_from (codes "P") ∷ printed_at 1 3 (codes "PX") ∷ read_from (codes "P") ∷ printed_at 1 4 (codes "P20") ∷ read_from (codes "P")
    ∷ End false ∷ [])

-- reply 0 skips a record out of sequence
abbrev pub passed_over : Corner
passed_over =
    primary_and_secondary false
    (record_of (codes "20") ∷ Nothing ∷ Done ∷ record_of (codes "10") ∷ Reply 0 ∷ Nothing ∷ [])
    (read_from (codes "P") ∷ read_from (codes "S") ∷ printed_at 1 1 (codes "P20") ∷ read_from (codes "P") ∷ Ask OutOfSequence
    ∷ read_from (codes "P") ∷ End false ∷ [])

-- M1 in positions 1 to 2, and M2 in position 3, which compares first
abbrev pub highest_first : Corner
highest_first = record {
  sheets =
      disk_file (codes "P") Primary false ∷ disk_file (codes "S") Secondary false ∷ print_file
      ∷ matched_type (codes "P") 1 ++ match_field_at 3 3 Alphanumeric (codes "L") 2
      ∷ matched_type (codes "S") 2 ++ match_field_at 3 3 Alphanumeric (codes "L") 2
      ∷ matched_line (codes "P") 1 ++ matched_line (codes "S") 2;
  answers = record_of (codes "102") ∷ record_of (codes "201") ∷ [];
  requests = read_from (codes "P") ∷ read_from (codes "S") ∷ printed_at 1 1 (codes "S20") ∷ [];
}

-- if keys are equal, the primary comes first, then the order of the File Description specifications; a secondary matches the last primary
-- key
abbrev pub ties : Corner
ties = record {
  sheets =
      disk_file (codes "S") Secondary false ∷ disk_file (codes "P") Primary false ∷ disk_file (codes "T") Secondary false ∷ print_file
      ∷ matched_type (codes "S") 1 ++ matched_type (codes "P") 2 ++ matched_type (codes "T") 3
      ++ matched_line (codes "S") 1 ++ matched_line (codes "P") 2 ++ matched_line (codes "T") 3;
  answers =
      record_of (codes "10") ∷ record_of (codes "10") ∷ record_of (codes "10") ∷ Done ∷ Nothing ∷ Done ∷ Nothing ∷ Done ∷ Nothing ∷ [];
  requests =
      read_from (codes "S") ∷ read_from (codes "P") ∷ read_from (codes "T") ∷ printed_at 1 1 (codes "P10M")
      ∷ read_from (codes "P") ∷ printed_at 1 2 (codes "S10M") ∷ read_from (codes "S") ∷ printed_at 1 3 (codes "T10M")
      ∷ read_from (codes "T") ∷ End false ∷ [];
}

-- numeric match fields compare by their digits without sign: 010 zoned, and -010 packed
abbrev pub matched_by_digits : Corner
matched_by_digits = record {
  sheets =
      disk_file (codes "P") Primary false ∷ disk_file (codes "S") Secondary false ∷ print_file
      ∷ type_of_all (codes "P") 1 ∷ match_field_at 1 3 (Zoned 0) (codes "N") 1
      ∷ type_of_all (codes "S") 2 ∷ match_field_at 1 2 (Packed 0) (codes "N") 1
      ∷ line Detail (on Matching) ∷ constant 1 (codes "M") ∷ [];
  answers = record_of (codes "010") ∷ Found (padded_to 4 (0x01 ∷ 0x0d ∷ [])) ∷ Done ∷ Nothing ∷ Done ∷ Nothing ∷ [];
  requests =
      read_from (codes "P") ∷ read_from (codes "S") ∷ printed_at 1 1 (codes "M") ∷ read_from (codes "P") ∷ printed_at 1 2 (codes "M")
      ∷ read_from (codes "S") ∷ End false ∷ [];
}

-- a match field with a field record relation belongs only to the type with that indicator: M1 in 2 to 3 after A, in 3 to 4 after B
abbrev pub matched_by_relation : Corner
matched_by_relation = record {
  sheets =
      disk_file (codes "P") Primary false ∷ print_file
      ∷ type_by (codes "P") 1 0xc1 ∷ Input (InputOr (General 2) none_of_three)
      ∷ Input (InputField (record (plain_field 2 3 Alphanumeric (codes "K")) { match_level = Some 1; relation = Some (General 1) }))
      ∷ Input (InputField (record (plain_field 3 4 Alphanumeric (codes "L")) { match_level = Some 1; relation = Some (General 2) })) ∷ [];
  answers = record_of (codes "A109") ∷ record_of (codes "B020") ∷ record_of (codes "A159") ∷ [];
  requests = read_from (codes "P") ∷ read_from (codes "P") ∷ read_from (codes "P") ∷ Ask OutOfSequence ∷ [];
}

-- a skipped record doesn't change the last key: after 20, 10 is out of sequence and 15 too, but a second 20 isn't
abbrev pub passed_over_twice : Corner
passed_over_twice = record {
  sheets = disk_file (codes "P") Primary false ∷ print_file ∷ matched_type (codes "P") 1 ++ matched_line (codes "P") 1;
  answers =
      record_of (codes "20") ∷ Done ∷ record_of (codes "10") ∷ Reply 0 ∷ record_of (codes "15") ∷ Reply 0 ∷ record_of (codes "20") ∷ Done ∷ [];
  requests =
      read_from (codes "P") ∷ printed_at 1 1 (codes "P20") ∷ read_from (codes "P") ∷ Ask OutOfSequence ∷ read_from (codes "P")
      ∷ Ask OutOfSequence ∷ read_from (codes "P") ∷ printed_at 1 2 (codes "P20") ∷ read_from (codes "P") ∷ [];
}

-- LR goes on when the files with E have no head: here only the secondary has E, and a primary record is left
abbrev pub end_of_the_secondary : Corner
end_of_the_secondary = record {
  sheets =
      disk_file (codes "P") Primary false ∷ disk_file (codes "S") Secondary true ∷ print_file
      ∷ matched_type (codes "P") 1 ++ matched_type (codes "S") 2 ++ matched_line (codes "P") 1 ++ matched_line (codes "S") 2;
  answers = record_of (codes "10") ∷ record_of (codes "20") ∷ Done ∷ record_of (codes "30") ∷ Done ∷ Nothing ∷ [];
  requests =
      read_from (codes "P") ∷ read_from (codes "S") ∷ printed_at 1 1 (codes "P10") ∷ read_from (codes "P") ∷ printed_at 1 2 (codes "S20")
      ∷ read_from (codes "S") ∷ End false ∷ [];
}

-- with E on both files, all records of both are processed
abbrev pub end_of_both : Corner
end_of_both = record {
  sheets =
      disk_file (codes "P") Primary true ∷ disk_file (codes "S") Secondary true ∷ print_file
      ∷ matched_type (codes "P") 1 ++ matched_type (codes "S") 2 ++ matched_line (codes "P") 1 ++ matched_line (codes "S") 2;
  answers = record_of (codes "10") ∷ record_of (codes "20") ∷ Done ∷ Nothing ∷ Done ∷ Nothing ∷ [];
  requests =
      read_from (codes "P") ∷ read_from (codes "S") ∷ printed_at 1 1 (codes "P10") ∷ read_from (codes "P") ∷ printed_at 1 2 (codes "S20")
      ∷ read_from (codes "S") ∷ End false ∷ [];
}

unfoldable pub matching_corners : List Corner
matching_corners =
    with_end ∷ without_end ∷ without_key ∷ passed_over ∷ highest_first ∷ ties ∷ matched_by_digits ∷ matched_by_relation ∷ passed_over_twice
    ∷ end_of_the_secondary ∷ end_of_both ∷ []
