-- Answers of each kind, for the table of answers that fit requests.
use Rattle.std.specs.Prelude.{List, ◌∷◌, ◌++◌, map, replicate}
use Rattle.s3_operator.specs.Inner.Samples.{digits, going_codes, ending_codes}
use Rattle.s3_meaning.specs.Requests.{Answer, Found, Nothing, Done, Refused, Reply}

-- records of 2 and 96 bytes, no record, done, each refusal, and each digit
abbrev pub all_answers : List Answer
all_answers =
    Found (replicate 2 0x40) ∷ Found (replicate 96 0x40) ∷ Nothing ∷ Done
    ∷ map (λ code. Refused code) (going_codes ++ ending_codes) ++ map (λ digit. Reply digit) digits
