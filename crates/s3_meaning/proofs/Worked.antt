-- Worked examples: the requests of a run after each answer.
use Rattle.std.proofs.Common.{◌≡◌, pos, negsuc, List, [], ◌∷◌, Some, None, true, false, refl}
use Rattle.s3_decimal.specs.Exact.{stored}
use Rattle.s3_lines.specs.declared.indicator.Indicator.TheVariants.{General, Matching, FirstPage, Overflow}
use Rattle.s3_operator.specs.declared.halt_code.HaltCode.TheVariants.{ZeroDivisor}
use Rattle.s3_lines.specs.declared.sheet.FileUse.TheVariants.{Input as InputUse, Output as OutputUse}
use Rattle.s3_lines.specs.declared.sheet.Designation.TheVariants.{Primary, Secondary}
use Rattle.s3_lines.specs.declared.sheet.Device.TheVariants.{CardReader, Printer, Disk}
use Rattle.s3_lines.specs.declared.sheet.FieldForm.TheVariants.{Alphanumeric}
use Rattle.s3_lines.specs.declared.sheet.InputLine.TheVariants.{Record, Field as InputField}
use Rattle.s3_lines.specs.declared.sheet.Factor.TheVariants.{Number}
use Rattle.s3_lines.specs.declared.sheet.Operation.TheVariants.{Add, Divide, ZeroAdd, MoveRemainder}
use Rattle.s3_lines.specs.declared.sheet.CalculationTime.TheVariants.{Detail as DetailTime}
use Rattle.s3_lines.specs.declared.sheet.Shape.TheVariants.{Numeric as NumericShape}
use Rattle.s3_lines.specs.declared.sheet.OutputKind.TheVariants.{Heading as HeadingLine, Detail as DetailLine}
use Rattle.s3_lines.specs.declared.sheet.OutputForm.TheVariants.{Plain as PlainOutput}
use Rattle.s3_lines.specs.declared.sheet.OutputContent.TheVariants.{Constant as ConstantContent, Field as FieldContent}
use Rattle.s3_lines.specs.declared.sheet.OutputLine.TheVariants.{Line as LineCard, Or as OutputOr, Field as OutputField}
use Rattle.s3_lines.specs.declared.sheet.SheetLine.TheVariants.{Header, File, Input, Calculation as CalculationSheet, Output as OutputSheet}
use Rattle.s3_lines.specs.declared.sheet.Line.{Line}
use Rattle.s3_meaning.specs.Requests.{Request, Card, Read, Print, Ask, End, Answer, Found, Nothing, Done, Reply}
use Rattle.s3_meaning.specs.Runs.{Run, ask, ended, to_totals, replied, halted}
use Rattle.s3_meaning.specs.Moving.{number_moved, field_moved, fields_moved}
use Rattle.s3_meaning.specs.Output.{printed, stored_or_halted, file_line_put, line_put, lines_put}
use Rattle.s3_meaning.specs.Calculating.{divided, not_found, chained_to, on_chain, chained, performed, calculated}
use Rattle.s3_meaning.specs.Cycle.{halts_shown, headings, cleared, headed, typed, on_read, file_read, files_read, totals, last_time, total_time, overflow_lines, detail_time, record_time, selected_or_last, reading_time, one_cycle, anew_within, again, Req}
use Rattle.s3_meaning.specs.Source.{source_of}
use Rattle.s3_meaning.specs.Inner.Samples.{named, padded_to}

-- the requests of a run: the first, and the one after each answer
asked : Run → List Answer → List Request
asked run [] = run [] ∷ []
asked run (answer ∷ answers) = run [] ∷ asked (λ later. run (answer ∷ later)) answers

-- 60 cards under a heading that prints at 1P or at overflow
lines_overflow : List Line
lines_overflow =
    (record { card = 1; sheet = (Header (Some (named (211 ∷ 201 ∷ 226 ∷ 227 ∷ [])))) })
    ∷ (record { card = 2; sheet = (File (record { name = (named (195 ∷ 193 ∷ 217 ∷ 196 ∷ 226 ∷ [])); usage = InputUse; designation = (Some Primary); ends_job = false; record_length = 96; is_random = false; is_keyed = false; is_indexed = false; key = None; overflow = None; device = CardReader; has_additions = false; condition = None })) })
    ∷ (record { card = 3; sheet = (File (record { name = (named (215 ∷ 217 ∷ 201 ∷ 213 ∷ 227 ∷ [])); usage = OutputUse; designation = None; ends_job = false; record_length = 132; is_random = false; is_keyed = false; is_indexed = false; key = None; overflow = (Some (Overflow 1)); device = Printer; has_additions = false; condition = None })) })
    ∷ (record { card = 4; sheet = (Input (Record (named (195 ∷ 193 ∷ 217 ∷ 196 ∷ 226 ∷ [])) (General 1) (None ∷ None ∷ None ∷ []))) })
    ∷ (record { card = 5; sheet = (Input (InputField (record { name = (named (227 ∷ 197 ∷ 231 ∷ 227 ∷ [])); from = 1; to = 3; form = Alphanumeric; control_level = None; match_level = None; relation = None; indicators = (None ∷ None ∷ None ∷ []) }))) })
    ∷ (record { card = 6; sheet = (OutputSheet (LineCard (record { file = (Some (named (215 ∷ 217 ∷ 201 ∷ 213 ∷ 227 ∷ []))); kind = HeadingLine; is_addition = false; spacing = record { space_before = None; space_after = (Some 1); skip_before = (Some 1); skip_after = None }; conditions = ((Some (record { negated = false; indicator = FirstPage })) ∷ None ∷ None ∷ []) }))) })
    ∷ (record { card = 7; sheet = (OutputSheet (OutputOr ((Some (record { negated = false; indicator = (Overflow 1) })) ∷ None ∷ None ∷ []))) })
    ∷ (record { card = 8; sheet = (OutputSheet (OutputField (record { conditions = (None ∷ None ∷ None ∷ []); content = (ConstantContent (record { codes = (padded_to 24 (200 ∷ 197 ∷ 193 ∷ 196 ∷ [])); length = 4 })); end = 4 }))) })
    ∷ (record { card = 9; sheet = (OutputSheet (LineCard (record { file = (Some (named (215 ∷ 217 ∷ 201 ∷ 213 ∷ 227 ∷ []))); kind = DetailLine; is_addition = false; spacing = record { space_before = None; space_after = None; skip_before = None; skip_after = None }; conditions = ((Some (record { negated = false; indicator = (General 1) })) ∷ None ∷ None ∷ []) }))) })
    ∷ (record { card = 10; sheet = (OutputSheet (OutputField (record { conditions = (None ∷ None ∷ None ∷ []); content = (FieldContent (record { name = (named (227 ∷ 197 ∷ 231 ∷ 227 ∷ [])); form = PlainOutput; blank_after = false })); end = 3 }))) })
    ∷ []

row_overflow : asked (Req (source_of lines_overflow) 0 (240 ∷ 240 ∷ 240 ∷ 240 ∷ 240 ∷ 240 ∷ [])) (Done ∷ (Found (padded_to 96 (240 ∷ 240 ∷ 241 ∷ []))) ∷ Done ∷ (Found (padded_to 96 (240 ∷ 240 ∷ 242 ∷ []))) ∷ Done ∷ (Found (padded_to 96 (240 ∷ 240 ∷ 243 ∷ []))) ∷ Done ∷ (Found (padded_to 96 (240 ∷ 240 ∷ 244 ∷ []))) ∷ Done ∷ (Found (padded_to 96 (240 ∷ 240 ∷ 245 ∷ []))) ∷ Done ∷ (Found (padded_to 96 (240 ∷ 240 ∷ 246 ∷ []))) ∷ Done ∷ (Found (padded_to 96 (240 ∷ 240 ∷ 247 ∷ []))) ∷ Done ∷ (Found (padded_to 96 (240 ∷ 240 ∷ 248 ∷ []))) ∷ Done ∷ (Found (padded_to 96 (240 ∷ 240 ∷ 249 ∷ []))) ∷ Done ∷ (Found (padded_to 96 (240 ∷ 241 ∷ 240 ∷ []))) ∷ Done ∷ (Found (padded_to 96 (240 ∷ 241 ∷ 241 ∷ []))) ∷ Done ∷ (Found (padded_to 96 (240 ∷ 241 ∷ 242 ∷ []))) ∷ Done ∷ (Found (padded_to 96 (240 ∷ 241 ∷ 243 ∷ []))) ∷ Done ∷ (Found (padded_to 96 (240 ∷ 241 ∷ 244 ∷ []))) ∷ Done ∷ (Found (padded_to 96 (240 ∷ 241 ∷ 245 ∷ []))) ∷ Done ∷ (Found (padded_to 96 (240 ∷ 241 ∷ 246 ∷ []))) ∷ Done ∷ (Found (padded_to 96 (240 ∷ 241 ∷ 247 ∷ []))) ∷ Done ∷ (Found (padded_to 96 (240 ∷ 241 ∷ 248 ∷ []))) ∷ Done ∷ (Found (padded_to 96 (240 ∷ 241 ∷ 249 ∷ []))) ∷ Done ∷ (Found (padded_to 96 (240 ∷ 242 ∷ 240 ∷ []))) ∷ Done ∷ (Found (padded_to 96 (240 ∷ 242 ∷ 241 ∷ []))) ∷ Done ∷ (Found (padded_to 96 (240 ∷ 242 ∷ 242 ∷ []))) ∷ Done ∷ (Found (padded_to 96 (240 ∷ 242 ∷ 243 ∷ []))) ∷ Done ∷ (Found (padded_to 96 (240 ∷ 242 ∷ 244 ∷ []))) ∷ Done ∷ (Found (padded_to 96 (240 ∷ 242 ∷ 245 ∷ []))) ∷ Done ∷ (Found (padded_to 96 (240 ∷ 242 ∷ 246 ∷ []))) ∷ Done ∷ (Found (padded_to 96 (240 ∷ 242 ∷ 247 ∷ []))) ∷ Done ∷ (Found (padded_to 96 (240 ∷ 242 ∷ 248 ∷ []))) ∷ Done ∷ (Found (padded_to 96 (240 ∷ 242 ∷ 249 ∷ []))) ∷ Done ∷ (Found (padded_to 96 (240 ∷ 243 ∷ 240 ∷ []))) ∷ Done ∷ (Found (padded_to 96 (240 ∷ 243 ∷ 241 ∷ []))) ∷ Done ∷ (Found (padded_to 96 (240 ∷ 243 ∷ 242 ∷ []))) ∷ Done ∷ (Found (padded_to 96 (240 ∷ 243 ∷ 243 ∷ []))) ∷ Done ∷ (Found (padded_to 96 (240 ∷ 243 ∷ 244 ∷ []))) ∷ Done ∷ (Found (padded_to 96 (240 ∷ 243 ∷ 245 ∷ []))) ∷ Done ∷ (Found (padded_to 96 (240 ∷ 243 ∷ 246 ∷ []))) ∷ Done ∷ (Found (padded_to 96 (240 ∷ 243 ∷ 247 ∷ []))) ∷ Done ∷ (Found (padded_to 96 (240 ∷ 243 ∷ 248 ∷ []))) ∷ Done ∷ (Found (padded_to 96 (240 ∷ 243 ∷ 249 ∷ []))) ∷ Done ∷ (Found (padded_to 96 (240 ∷ 244 ∷ 240 ∷ []))) ∷ Done ∷ (Found (padded_to 96 (240 ∷ 244 ∷ 241 ∷ []))) ∷ Done ∷ (Found (padded_to 96 (240 ∷ 244 ∷ 242 ∷ []))) ∷ Done ∷ (Found (padded_to 96 (240 ∷ 244 ∷ 243 ∷ []))) ∷ Done ∷ (Found (padded_to 96 (240 ∷ 244 ∷ 244 ∷ []))) ∷ Done ∷ (Found (padded_to 96 (240 ∷ 244 ∷ 245 ∷ []))) ∷ Done ∷ (Found (padded_to 96 (240 ∷ 244 ∷ 246 ∷ []))) ∷ Done ∷ (Found (padded_to 96 (240 ∷ 244 ∷ 247 ∷ []))) ∷ Done ∷ (Found (padded_to 96 (240 ∷ 244 ∷ 248 ∷ []))) ∷ Done ∷ (Found (padded_to 96 (240 ∷ 244 ∷ 249 ∷ []))) ∷ Done ∷ (Found (padded_to 96 (240 ∷ 245 ∷ 240 ∷ []))) ∷ Done ∷ (Found (padded_to 96 (240 ∷ 245 ∷ 241 ∷ []))) ∷ Done ∷ (Found (padded_to 96 (240 ∷ 245 ∷ 242 ∷ []))) ∷ Done ∷ (Found (padded_to 96 (240 ∷ 245 ∷ 243 ∷ []))) ∷ Done ∷ (Found (padded_to 96 (240 ∷ 245 ∷ 244 ∷ []))) ∷ Done ∷ (Found (padded_to 96 (240 ∷ 245 ∷ 245 ∷ []))) ∷ Done ∷ (Found (padded_to 96 (240 ∷ 245 ∷ 246 ∷ []))) ∷ Done ∷ (Found (padded_to 96 (240 ∷ 245 ∷ 247 ∷ []))) ∷ Done ∷ (Found (padded_to 96 (240 ∷ 245 ∷ 248 ∷ []))) ∷ Done ∷ (Found (padded_to 96 (240 ∷ 245 ∷ 249 ∷ []))) ∷ Done ∷ (Found (padded_to 96 (240 ∷ 246 ∷ 240 ∷ []))) ∷ Done ∷ Done ∷ Nothing ∷ []) ≡
    ((Print 1 1 (padded_to 132 (200 ∷ 197 ∷ 193 ∷ 196 ∷ []))) ∷ Card ∷ (Print 1 2 (padded_to 132 (240 ∷ 240 ∷ 241 ∷ []))) ∷ Card ∷ (Print 1 3 (padded_to 132 (240 ∷ 240 ∷ 242 ∷ []))) ∷ Card ∷ (Print 1 4 (padded_to 132 (240 ∷ 240 ∷ 243 ∷ []))) ∷ Card ∷ (Print 1 5 (padded_to 132 (240 ∷ 240 ∷ 244 ∷ []))) ∷ Card ∷ (Print 1 6 (padded_to 132 (240 ∷ 240 ∷ 245 ∷ []))) ∷ Card ∷ (Print 1 7 (padded_to 132 (240 ∷ 240 ∷ 246 ∷ []))) ∷ Card ∷ (Print 1 8 (padded_to 132 (240 ∷ 240 ∷ 247 ∷ []))) ∷ Card ∷ (Print 1 9 (padded_to 132 (240 ∷ 240 ∷ 248 ∷ []))) ∷ Card ∷ (Print 1 10 (padded_to 132 (240 ∷ 240 ∷ 249 ∷ []))) ∷ Card ∷ (Print 1 11 (padded_to 132 (240 ∷ 241 ∷ 240 ∷ []))) ∷ Card ∷ (Print 1 12 (padded_to 132 (240 ∷ 241 ∷ 241 ∷ []))) ∷ Card ∷ (Print 1 13 (padded_to 132 (240 ∷ 241 ∷ 242 ∷ []))) ∷ Card ∷ (Print 1 14 (padded_to 132 (240 ∷ 241 ∷ 243 ∷ []))) ∷ Card ∷ (Print 1 15 (padded_to 132 (240 ∷ 241 ∷ 244 ∷ []))) ∷ Card ∷ (Print 1 16 (padded_to 132 (240 ∷ 241 ∷ 245 ∷ []))) ∷ Card ∷ (Print 1 17 (padded_to 132 (240 ∷ 241 ∷ 246 ∷ []))) ∷ Card ∷ (Print 1 18 (padded_to 132 (240 ∷ 241 ∷ 247 ∷ []))) ∷ Card ∷ (Print 1 19 (padded_to 132 (240 ∷ 241 ∷ 248 ∷ []))) ∷ Card ∷ (Print 1 20 (padded_to 132 (240 ∷ 241 ∷ 249 ∷ []))) ∷ Card ∷ (Print 1 21 (padded_to 132 (240 ∷ 242 ∷ 240 ∷ []))) ∷ Card ∷ (Print 1 22 (padded_to 132 (240 ∷ 242 ∷ 241 ∷ []))) ∷ Card ∷ (Print 1 23 (padded_to 132 (240 ∷ 242 ∷ 242 ∷ []))) ∷ Card ∷ (Print 1 24 (padded_to 132 (240 ∷ 242 ∷ 243 ∷ []))) ∷ Card ∷ (Print 1 25 (padded_to 132 (240 ∷ 242 ∷ 244 ∷ []))) ∷ Card ∷ (Print 1 26 (padded_to 132 (240 ∷ 242 ∷ 245 ∷ []))) ∷ Card ∷ (Print 1 27 (padded_to 132 (240 ∷ 242 ∷ 246 ∷ []))) ∷ Card ∷ (Print 1 28 (padded_to 132 (240 ∷ 242 ∷ 247 ∷ []))) ∷ Card ∷ (Print 1 29 (padded_to 132 (240 ∷ 242 ∷ 248 ∷ []))) ∷ Card ∷ (Print 1 30 (padded_to 132 (240 ∷ 242 ∷ 249 ∷ []))) ∷ Card ∷ (Print 1 31 (padded_to 132 (240 ∷ 243 ∷ 240 ∷ []))) ∷ Card ∷ (Print 1 32 (padded_to 132 (240 ∷ 243 ∷ 241 ∷ []))) ∷ Card ∷ (Print 1 33 (padded_to 132 (240 ∷ 243 ∷ 242 ∷ []))) ∷ Card ∷ (Print 1 34 (padded_to 132 (240 ∷ 243 ∷ 243 ∷ []))) ∷ Card ∷ (Print 1 35 (padded_to 132 (240 ∷ 243 ∷ 244 ∷ []))) ∷ Card ∷ (Print 1 36 (padded_to 132 (240 ∷ 243 ∷ 245 ∷ []))) ∷ Card ∷ (Print 1 37 (padded_to 132 (240 ∷ 243 ∷ 246 ∷ []))) ∷ Card ∷ (Print 1 38 (padded_to 132 (240 ∷ 243 ∷ 247 ∷ []))) ∷ Card ∷ (Print 1 39 (padded_to 132 (240 ∷ 243 ∷ 248 ∷ []))) ∷ Card ∷ (Print 1 40 (padded_to 132 (240 ∷ 243 ∷ 249 ∷ []))) ∷ Card ∷ (Print 1 41 (padded_to 132 (240 ∷ 244 ∷ 240 ∷ []))) ∷ Card ∷ (Print 1 42 (padded_to 132 (240 ∷ 244 ∷ 241 ∷ []))) ∷ Card ∷ (Print 1 43 (padded_to 132 (240 ∷ 244 ∷ 242 ∷ []))) ∷ Card ∷ (Print 1 44 (padded_to 132 (240 ∷ 244 ∷ 243 ∷ []))) ∷ Card ∷ (Print 1 45 (padded_to 132 (240 ∷ 244 ∷ 244 ∷ []))) ∷ Card ∷ (Print 1 46 (padded_to 132 (240 ∷ 244 ∷ 245 ∷ []))) ∷ Card ∷ (Print 1 47 (padded_to 132 (240 ∷ 244 ∷ 246 ∷ []))) ∷ Card ∷ (Print 1 48 (padded_to 132 (240 ∷ 244 ∷ 247 ∷ []))) ∷ Card ∷ (Print 1 49 (padded_to 132 (240 ∷ 244 ∷ 248 ∷ []))) ∷ Card ∷ (Print 1 50 (padded_to 132 (240 ∷ 244 ∷ 249 ∷ []))) ∷ Card ∷ (Print 1 51 (padded_to 132 (240 ∷ 245 ∷ 240 ∷ []))) ∷ Card ∷ (Print 1 52 (padded_to 132 (240 ∷ 245 ∷ 241 ∷ []))) ∷ Card ∷ (Print 1 53 (padded_to 132 (240 ∷ 245 ∷ 242 ∷ []))) ∷ Card ∷ (Print 1 54 (padded_to 132 (240 ∷ 245 ∷ 243 ∷ []))) ∷ Card ∷ (Print 1 55 (padded_to 132 (240 ∷ 245 ∷ 244 ∷ []))) ∷ Card ∷ (Print 1 56 (padded_to 132 (240 ∷ 245 ∷ 245 ∷ []))) ∷ Card ∷ (Print 1 57 (padded_to 132 (240 ∷ 245 ∷ 246 ∷ []))) ∷ Card ∷ (Print 1 58 (padded_to 132 (240 ∷ 245 ∷ 247 ∷ []))) ∷ Card ∷ (Print 1 59 (padded_to 132 (240 ∷ 245 ∷ 248 ∷ []))) ∷ Card ∷ (Print 1 60 (padded_to 132 (240 ∷ 245 ∷ 249 ∷ []))) ∷ Card ∷ (Print 2 1 (padded_to 132 (200 ∷ 197 ∷ 193 ∷ 196 ∷ []))) ∷ (Print 2 2 (padded_to 132 (240 ∷ 246 ∷ 240 ∷ []))) ∷ Card ∷ (End false) ∷ [])
unfolding lines_overflow asked ask ended to_totals replied halted number_moved field_moved fields_moved printed stored_or_halted file_line_put line_put lines_put divided not_found chained_to on_chain chained performed calculated halts_shown headings cleared headed typed on_read file_read files_read totals last_time total_time overflow_lines detail_time record_time selected_or_last reading_time one_cycle anew_within again stored
row_overflow = refl

-- primary keys 10, 20, 20, 30; secondary keys 20, 25, 30
lines_matching : List Line
lines_matching =
    (record { card = 1; sheet = (Header (Some (named (212 ∷ 193 ∷ 227 ∷ 195 ∷ 200 ∷ [])))) })
    ∷ (record { card = 2; sheet = (File (record { name = (named (215 ∷ 217 ∷ 201 ∷ 212 ∷ [])); usage = InputUse; designation = (Some Primary); ends_job = false; record_length = 10; is_random = false; is_keyed = false; is_indexed = false; key = None; overflow = None; device = Disk; has_additions = false; condition = None })) })
    ∷ (record { card = 3; sheet = (File (record { name = (named (226 ∷ 197 ∷ 195 ∷ [])); usage = InputUse; designation = (Some Secondary); ends_job = false; record_length = 10; is_random = false; is_keyed = false; is_indexed = false; key = None; overflow = None; device = Disk; has_additions = false; condition = None })) })
    ∷ (record { card = 4; sheet = (File (record { name = (named (215 ∷ 217 ∷ 201 ∷ 213 ∷ 227 ∷ [])); usage = OutputUse; designation = None; ends_job = false; record_length = 132; is_random = false; is_keyed = false; is_indexed = false; key = None; overflow = None; device = Printer; has_additions = false; condition = None })) })
    ∷ (record { card = 5; sheet = (Input (Record (named (215 ∷ 217 ∷ 201 ∷ 212 ∷ [])) (General 1) (None ∷ None ∷ None ∷ []))) })
    ∷ (record { card = 6; sheet = (Input (InputField (record { name = (named (210 ∷ 197 ∷ 232 ∷ [])); from = 1; to = 2; form = Alphanumeric; control_level = None; match_level = (Some 1); relation = None; indicators = (None ∷ None ∷ None ∷ []) }))) })
    ∷ (record { card = 7; sheet = (Input (Record (named (226 ∷ 197 ∷ 195 ∷ [])) (General 2) (None ∷ None ∷ None ∷ []))) })
    ∷ (record { card = 8; sheet = (Input (InputField (record { name = (named (210 ∷ 197 ∷ 232 ∷ [])); from = 1; to = 2; form = Alphanumeric; control_level = None; match_level = (Some 1); relation = None; indicators = (None ∷ None ∷ None ∷ []) }))) })
    ∷ (record { card = 9; sheet = (OutputSheet (LineCard (record { file = (Some (named (215 ∷ 217 ∷ 201 ∷ 213 ∷ 227 ∷ []))); kind = DetailLine; is_addition = false; spacing = record { space_before = None; space_after = None; skip_before = None; skip_after = None }; conditions = ((Some (record { negated = false; indicator = (General 1) })) ∷ None ∷ None ∷ []) }))) })
    ∷ (record { card = 10; sheet = (OutputSheet (OutputOr ((Some (record { negated = false; indicator = (General 2) })) ∷ None ∷ None ∷ []))) })
    ∷ (record { card = 11; sheet = (OutputSheet (OutputField (record { conditions = ((Some (record { negated = false; indicator = (General 1) })) ∷ None ∷ None ∷ []); content = (ConstantContent (record { codes = (padded_to 24 (215 ∷ [])); length = 1 })); end = 1 }))) })
    ∷ (record { card = 12; sheet = (OutputSheet (OutputField (record { conditions = ((Some (record { negated = false; indicator = (General 2) })) ∷ None ∷ None ∷ []); content = (ConstantContent (record { codes = (padded_to 24 (226 ∷ [])); length = 1 })); end = 1 }))) })
    ∷ (record { card = 13; sheet = (OutputSheet (OutputField (record { conditions = (None ∷ None ∷ None ∷ []); content = (FieldContent (record { name = (named (210 ∷ 197 ∷ 232 ∷ [])); form = PlainOutput; blank_after = false })); end = 3 }))) })
    ∷ (record { card = 14; sheet = (OutputSheet (OutputField (record { conditions = ((Some (record { negated = false; indicator = Matching })) ∷ None ∷ None ∷ []); content = (ConstantContent (record { codes = (padded_to 24 (212 ∷ 217 ∷ [])); length = 2 })); end = 6 }))) })
    ∷ []

row_matching : asked (Req (source_of lines_matching) 0 (240 ∷ 240 ∷ 240 ∷ 240 ∷ 240 ∷ 240 ∷ [])) ((Found (padded_to 10 (241 ∷ 240 ∷ []))) ∷ (Found (padded_to 10 (242 ∷ 240 ∷ []))) ∷ Done ∷ (Found (padded_to 10 (242 ∷ 240 ∷ []))) ∷ Done ∷ (Found (padded_to 10 (242 ∷ 240 ∷ []))) ∷ Done ∷ (Found (padded_to 10 (243 ∷ 240 ∷ []))) ∷ Done ∷ (Found (padded_to 10 (242 ∷ 245 ∷ []))) ∷ Done ∷ (Found (padded_to 10 (243 ∷ 240 ∷ []))) ∷ Done ∷ Nothing ∷ Done ∷ Nothing ∷ []) ≡
    ((Read (named (215 ∷ 217 ∷ 201 ∷ 212 ∷ [])) 10) ∷ (Read (named (226 ∷ 197 ∷ 195 ∷ [])) 10) ∷ (Print 1 1 (padded_to 132 (215 ∷ 241 ∷ 240 ∷ []))) ∷ (Read (named (215 ∷ 217 ∷ 201 ∷ 212 ∷ [])) 10) ∷ (Print 1 2 (padded_to 132 (215 ∷ 242 ∷ 240 ∷ 64 ∷ 212 ∷ 217 ∷ []))) ∷ (Read (named (215 ∷ 217 ∷ 201 ∷ 212 ∷ [])) 10) ∷ (Print 1 3 (padded_to 132 (215 ∷ 242 ∷ 240 ∷ 64 ∷ 212 ∷ 217 ∷ []))) ∷ (Read (named (215 ∷ 217 ∷ 201 ∷ 212 ∷ [])) 10) ∷ (Print 1 4 (padded_to 132 (226 ∷ 242 ∷ 240 ∷ 64 ∷ 212 ∷ 217 ∷ []))) ∷ (Read (named (226 ∷ 197 ∷ 195 ∷ [])) 10) ∷ (Print 1 5 (padded_to 132 (226 ∷ 242 ∷ 245 ∷ []))) ∷ (Read (named (226 ∷ 197 ∷ 195 ∷ [])) 10) ∷ (Print 1 6 (padded_to 132 (215 ∷ 243 ∷ 240 ∷ 64 ∷ 212 ∷ 217 ∷ []))) ∷ (Read (named (215 ∷ 217 ∷ 201 ∷ 212 ∷ [])) 10) ∷ (Print 1 7 (padded_to 132 (226 ∷ 243 ∷ 240 ∷ 64 ∷ 212 ∷ 217 ∷ []))) ∷ (Read (named (226 ∷ 197 ∷ 195 ∷ [])) 10) ∷ (End false) ∷ [])
unfolding lines_matching asked ask ended to_totals replied halted number_moved field_moved fields_moved printed stored_or_halted file_line_put line_put lines_put divided not_found chained_to on_chain chained performed calculated halts_shown headings cleared headed typed on_read file_read files_read totals last_time total_time overflow_lines detail_time record_time selected_or_last reading_time one_cycle anew_within again stored
row_matching = refl

-- 99999 and 1 in 5 digits, half adjust, DIV and MVR
lines_numbers : List Line
lines_numbers =
    (record { card = 1; sheet = (Header (Some (named (213 ∷ 228 ∷ 212 ∷ [])))) })
    ∷ (record { card = 2; sheet = (File (record { name = (named (195 ∷ 193 ∷ 217 ∷ 196 ∷ 226 ∷ [])); usage = InputUse; designation = (Some Primary); ends_job = false; record_length = 96; is_random = false; is_keyed = false; is_indexed = false; key = None; overflow = None; device = CardReader; has_additions = false; condition = None })) })
    ∷ (record { card = 3; sheet = (File (record { name = (named (215 ∷ 217 ∷ 201 ∷ 213 ∷ 227 ∷ [])); usage = OutputUse; designation = None; ends_job = false; record_length = 132; is_random = false; is_keyed = false; is_indexed = false; key = None; overflow = None; device = Printer; has_additions = false; condition = None })) })
    ∷ (record { card = 4; sheet = (Input (Record (named (195 ∷ 193 ∷ 217 ∷ 196 ∷ 226 ∷ [])) (General 1) (None ∷ None ∷ None ∷ []))) })
    ∷ (record { card = 5; sheet = (Input (InputField (record { name = (named (231 ∷ [])); from = 1; to = 1; form = Alphanumeric; control_level = None; match_level = None; relation = None; indicators = (None ∷ None ∷ None ∷ []) }))) })
    ∷ (record { card = 6; sheet = (CalculationSheet (record { time = DetailTime; conditions = (None ∷ None ∷ None ∷ []); factor1 = (Some (Number (record { value = (pos 99999); digits = 5; decimals = 0 }))); operation = (Some Add); factor2 = (Some (Number (record { value = (pos 1); digits = 1; decimals = 0 }))); result = (Some (named (193 ∷ []))); definition = (Some (NumericShape 5 0)); half_adjust = false; indicators = (None ∷ None ∷ (Some (General 30)) ∷ []) })) })
    ∷ (record { card = 7; sheet = (CalculationSheet (record { time = DetailTime; conditions = (None ∷ None ∷ None ∷ []); factor1 = None; operation = (Some ZeroAdd); factor2 = (Some (Number (record { value = (pos 2345); digits = 4; decimals = 3 }))); result = (Some (named (194 ∷ []))); definition = (Some (NumericShape 5 2)); half_adjust = true; indicators = (None ∷ None ∷ None ∷ []) })) })
    ∷ (record { card = 8; sheet = (CalculationSheet (record { time = DetailTime; conditions = (None ∷ None ∷ None ∷ []); factor1 = None; operation = (Some ZeroAdd); factor2 = (Some (Number (record { value = (negsuc 2344); digits = 4; decimals = 3 }))); result = (Some (named (195 ∷ []))); definition = (Some (NumericShape 5 2)); half_adjust = true; indicators = (None ∷ None ∷ None ∷ []) })) })
    ∷ (record { card = 9; sheet = (CalculationSheet (record { time = DetailTime; conditions = (None ∷ None ∷ None ∷ []); factor1 = None; operation = (Some ZeroAdd); factor2 = (Some (Number (record { value = (negsuc 2344); digits = 4; decimals = 3 }))); result = (Some (named (196 ∷ []))); definition = (Some (NumericShape 5 2)); half_adjust = false; indicators = (None ∷ None ∷ None ∷ []) })) })
    ∷ (record { card = 10; sheet = (CalculationSheet (record { time = DetailTime; conditions = (None ∷ None ∷ None ∷ []); factor1 = (Some (Number (record { value = (pos 7); digits = 1; decimals = 0 }))); operation = (Some Divide); factor2 = (Some (Number (record { value = (pos 2); digits = 1; decimals = 0 }))); result = (Some (named (197 ∷ []))); definition = (Some (NumericShape 3 0)); half_adjust = false; indicators = (None ∷ None ∷ None ∷ []) })) })
    ∷ (record { card = 11; sheet = (CalculationSheet (record { time = DetailTime; conditions = (None ∷ None ∷ None ∷ []); factor1 = None; operation = (Some MoveRemainder); factor2 = None; result = (Some (named (198 ∷ []))); definition = (Some (NumericShape 3 1)); half_adjust = false; indicators = (None ∷ None ∷ None ∷ []) })) })
    ∷ (record { card = 12; sheet = (CalculationSheet (record { time = DetailTime; conditions = (None ∷ None ∷ None ∷ []); factor1 = (Some (Number (record { value = (pos 123); digits = 3; decimals = 0 }))); operation = (Some Divide); factor2 = (Some (Number (record { value = (pos 1); digits = 1; decimals = 0 }))); result = (Some (named (199 ∷ []))); definition = (Some (NumericShape 2 0)); half_adjust = false; indicators = (None ∷ None ∷ None ∷ []) })) })
    ∷ (record { card = 13; sheet = (CalculationSheet (record { time = DetailTime; conditions = (None ∷ None ∷ None ∷ []); factor1 = None; operation = (Some MoveRemainder); factor2 = None; result = (Some (named (201 ∷ []))); definition = (Some (NumericShape 3 0)); half_adjust = false; indicators = (None ∷ None ∷ None ∷ []) })) })
    ∷ (record { card = 14; sheet = (CalculationSheet (record { time = DetailTime; conditions = (None ∷ None ∷ None ∷ []); factor1 = None; operation = (Some ZeroAdd); factor2 = (Some (Number (record { value = (pos 2345); digits = 4; decimals = 3 }))); result = (Some (named (209 ∷ []))); definition = (Some (NumericShape 5 2)); half_adjust = false; indicators = (None ∷ None ∷ None ∷ []) })) })
    ∷ (record { card = 15; sheet = (CalculationSheet (record { time = DetailTime; conditions = (None ∷ None ∷ None ∷ []); factor1 = (Some (Number (record { value = (pos 7); digits = 1; decimals = 0 }))); operation = (Some Divide); factor2 = (Some (Number (record { value = (pos 2); digits = 1; decimals = 0 }))); result = (Some (named (210 ∷ []))); definition = (Some (NumericShape 3 1)); half_adjust = false; indicators = (None ∷ None ∷ None ∷ []) })) })
    ∷ (record { card = 16; sheet = (CalculationSheet (record { time = DetailTime; conditions = (None ∷ None ∷ None ∷ []); factor1 = None; operation = (Some MoveRemainder); factor2 = None; result = (Some (named (211 ∷ []))); definition = (Some (NumericShape 3 1)); half_adjust = false; indicators = (None ∷ None ∷ None ∷ []) })) })
    ∷ (record { card = 17; sheet = (CalculationSheet (record { time = DetailTime; conditions = (None ∷ None ∷ None ∷ []); factor1 = (Some (Number (record { value = (pos 7); digits = 1; decimals = 0 }))); operation = (Some Divide); factor2 = (Some (Number (record { value = (pos 0); digits = 1; decimals = 0 }))); result = (Some (named (213 ∷ []))); definition = (Some (NumericShape 3 0)); half_adjust = false; indicators = (None ∷ None ∷ None ∷ []) })) })
    ∷ (record { card = 18; sheet = (CalculationSheet (record { time = DetailTime; conditions = (None ∷ None ∷ None ∷ []); factor1 = None; operation = (Some MoveRemainder); factor2 = None; result = (Some (named (214 ∷ []))); definition = (Some (NumericShape 3 0)); half_adjust = false; indicators = (None ∷ None ∷ None ∷ []) })) })
    ∷ (record { card = 19; sheet = (OutputSheet (LineCard (record { file = (Some (named (215 ∷ 217 ∷ 201 ∷ 213 ∷ 227 ∷ []))); kind = DetailLine; is_addition = false; spacing = record { space_before = None; space_after = None; skip_before = None; skip_after = None }; conditions = ((Some (record { negated = false; indicator = (General 30) })) ∷ None ∷ None ∷ []) }))) })
    ∷ (record { card = 20; sheet = (OutputSheet (OutputField (record { conditions = (None ∷ None ∷ None ∷ []); content = (FieldContent (record { name = (named (193 ∷ [])); form = PlainOutput; blank_after = false })); end = 5 }))) })
    ∷ (record { card = 21; sheet = (OutputSheet (OutputField (record { conditions = (None ∷ None ∷ None ∷ []); content = (FieldContent (record { name = (named (194 ∷ [])); form = PlainOutput; blank_after = false })); end = 10 }))) })
    ∷ (record { card = 22; sheet = (OutputSheet (OutputField (record { conditions = (None ∷ None ∷ None ∷ []); content = (FieldContent (record { name = (named (195 ∷ [])); form = PlainOutput; blank_after = false })); end = 15 }))) })
    ∷ (record { card = 23; sheet = (OutputSheet (OutputField (record { conditions = (None ∷ None ∷ None ∷ []); content = (FieldContent (record { name = (named (196 ∷ [])); form = PlainOutput; blank_after = false })); end = 20 }))) })
    ∷ (record { card = 24; sheet = (OutputSheet (OutputField (record { conditions = (None ∷ None ∷ None ∷ []); content = (FieldContent (record { name = (named (197 ∷ [])); form = PlainOutput; blank_after = false })); end = 23 }))) })
    ∷ (record { card = 25; sheet = (OutputSheet (OutputField (record { conditions = (None ∷ None ∷ None ∷ []); content = (FieldContent (record { name = (named (198 ∷ [])); form = PlainOutput; blank_after = false })); end = 26 }))) })
    ∷ (record { card = 26; sheet = (OutputSheet (OutputField (record { conditions = (None ∷ None ∷ None ∷ []); content = (FieldContent (record { name = (named (199 ∷ [])); form = PlainOutput; blank_after = false })); end = 28 }))) })
    ∷ (record { card = 27; sheet = (OutputSheet (OutputField (record { conditions = (None ∷ None ∷ None ∷ []); content = (FieldContent (record { name = (named (201 ∷ [])); form = PlainOutput; blank_after = false })); end = 31 }))) })
    ∷ (record { card = 28; sheet = (OutputSheet (OutputField (record { conditions = (None ∷ None ∷ None ∷ []); content = (FieldContent (record { name = (named (209 ∷ [])); form = PlainOutput; blank_after = false })); end = 36 }))) })
    ∷ (record { card = 29; sheet = (OutputSheet (OutputField (record { conditions = (None ∷ None ∷ None ∷ []); content = (FieldContent (record { name = (named (210 ∷ [])); form = PlainOutput; blank_after = false })); end = 39 }))) })
    ∷ (record { card = 30; sheet = (OutputSheet (OutputField (record { conditions = (None ∷ None ∷ None ∷ []); content = (FieldContent (record { name = (named (211 ∷ [])); form = PlainOutput; blank_after = false })); end = 42 }))) })
    ∷ (record { card = 31; sheet = (OutputSheet (OutputField (record { conditions = (None ∷ None ∷ None ∷ []); content = (FieldContent (record { name = (named (213 ∷ [])); form = PlainOutput; blank_after = false })); end = 45 }))) })
    ∷ (record { card = 32; sheet = (OutputSheet (OutputField (record { conditions = (None ∷ None ∷ None ∷ []); content = (FieldContent (record { name = (named (214 ∷ [])); form = PlainOutput; blank_after = false })); end = 48 }))) })
    ∷ []

row_numbers : asked (Req (source_of lines_numbers) 0 (240 ∷ 240 ∷ 240 ∷ 240 ∷ 240 ∷ 240 ∷ [])) ((Found (padded_to 96 (231 ∷ []))) ∷ (Reply 0) ∷ Done ∷ Nothing ∷ []) ≡
    (Card ∷ (Ask ZeroDivisor) ∷ (Print 1 1 (padded_to 132 (240 ∷ 240 ∷ 240 ∷ 240 ∷ 240 ∷ 240 ∷ 240 ∷ 242 ∷ 243 ∷ 245 ∷ 240 ∷ 240 ∷ 242 ∷ 243 ∷ 213 ∷ 240 ∷ 240 ∷ 242 ∷ 243 ∷ 212 ∷ 240 ∷ 240 ∷ 243 ∷ 240 ∷ 241 ∷ 240 ∷ 242 ∷ 243 ∷ 240 ∷ 240 ∷ 240 ∷ 240 ∷ 240 ∷ 242 ∷ 243 ∷ 244 ∷ 240 ∷ 243 ∷ 245 ∷ 240 ∷ 240 ∷ 240 ∷ 240 ∷ 240 ∷ 240 ∷ 240 ∷ 240 ∷ 240 ∷ []))) ∷ Card ∷ (End false) ∷ [])
unfolding lines_numbers asked ask ended to_totals replied halted number_moved field_moved fields_moved printed stored_or_halted file_line_put line_put lines_put divided not_found chained_to on_chain chained performed calculated halts_shown headings cleared headed typed on_read file_read files_read totals last_time total_time overflow_lines detail_time record_time selected_or_last reading_time one_cycle anew_within again stored
row_numbers = refl
