-- What a text of rules says, and which rule answers a halt.
use Rattle.std.specs.Prelude.{ℕ, ◌+◌, ◌==◌, List, [], ◌∷◌, Bool, true, false, ◌&&◌, ◌||◌, ◌≡◌, Option, None, Some, is_some, unwrap_or, IfSome, Result, Ok, Err, find, map, length, codes, nat_eq, nat_le, if◌then◌else◌}
use Rattle.std.specs.List.{filter_map, list_all}
use Rattle.std.specs.Char.{to_ascii_uppercase}
use Rattle.std.specs.Str.{bytes_eq as word_is}
use Rattle.std.specs.Str.Lines.{lines}
use Rattle.std.specs.Cmp.Lexicographic.{pointwise}
use Rattle.s3_cards.specs.Codes.{ebcdic_of}
use Rattle.s3_cards.specs.declared.ebcdic.TheConstants.{BLANK}
use Rattle.s3_cards.specs.Names.{is_word, name_of, same_name}
use Rattle.s3_cards.specs.declared.levels.LevelId.{LevelId}
use Rattle.s3_cards.specs.declared.levels.LevelId.TheVariants.{One, Two}
use Rattle.s3_cards.specs.declared.name.Name.{Name}
use Rattle.s3_operator.specs.declared.halt_code.HaltCode.{HaltCode}
use Rattle.s3_operator.specs.Table.{letters_of}
use Rattle.s3_operator.specs.Inner.Codes.{IsCodeOf}
use Rattle.s3_operator.specs.Replies.{is_allowed}
use Rattle.s3_replies.specs.declared.line_fault.LineFault.{LineFault}
use Rattle.s3_replies.specs.declared.line_fault.LineFault.TheVariants.{TooShort, Level, Letters, Digit, NotOfThree, NotOfTwo, Program, TooLong}
use Rattle.s3_replies.specs.declared.line_fault.IllFormedLine.{IllFormedLine}
use Rattle.s3_replies.specs.declared.rule.Rule.{Rule}
use Rattle.s3_replies.specs.declared.typed.Typed.{Typed}
use Rattle.s3_replies.specs.declared.typed.Typed.TheVariants.{Nothing, Reply, Help, Show, Lines, Stop, Yes, No, Unknown}
use Rattle.s3_replies.specs.Inner.Words.{words}
use Rattle.s3_replies.specs.Inner.Typed.{digit_of}

-- whether two levels are one
abbrev pub same_level : LevelId → LevelId → Bool
same_level One One = true
same_level One Two = false
same_level Two One = false
same_level Two Two = true

-- a rule for either level is for this one
abbrev pub names_level : Option LevelId → LevelId → Bool
names_level None level = true
names_level (Some own) level = same_level own level

-- halts are the same if they have the same letters
abbrev pub names_halt : Option HaltCode → HaltCode → Bool
names_halt None code = true
names_halt (Some own) code = pointwise nat_eq (letters_of own) (letters_of code)

-- a rule for one program is for no job whose program isn't known
abbrev pub names_program : Option Name → Option Name → Bool
names_program None program = true
names_program (Some own) None = false
names_program (Some own) (Some program) = same_name own program

-- whether a rule answers a halt of a level, in a job of a program: its digit is one that the halt allows
abbrev pub fits : LevelId → HaltCode → (program : Option Name) → Rule → Bool
fits level code program rule = names_level rule.level level && names_halt rule.code code && names_program rule.program program && is_allowed code rule.digit

-- the first rule that answers it
abbrev pub reply_for : LevelId → HaltCode → (program : Option Name) → List Rule → Option Rule
reply_for level code program rules = find (fits level code program) rules

-- whether what is typed is this reply to the halt of this level; a digit alone is for the level that is asked
abbrev pub is_reply : LevelId → (digit : ℕ) → Typed → Bool
is_reply level digit Nothing = false
is_reply level digit (Reply own again) = names_level own level && nat_eq again digit
is_reply level digit Help = false
is_reply level digit Show = false
is_reply level digit (Lines own count) = false
is_reply level digit Stop = false
is_reply level digit Yes = false
is_reply level digit No = false
is_reply level digit Unknown = false

-- whatever the rules are, the digit of one that answers is one that the halt allows
abbrev pub AnswersAreAllowed : Type 0
AnswersAreAllowed = (level : LevelId) (code : HaltCode) (program : Option Name) (rules : List Rule) → IfSome (reply_for level code program rules) (λ rule. is_allowed code rule.digit ≡ true)

-- ---- what a line of rules says
-- a word for the level: 1, 2, or * for either
abbrev pub level_named : List ℕ → Option (Option LevelId)
level_named word =
    if word_is word (codes "1") then Some (Some One)
    else if word_is word (codes "2") then Some (Some Two)
    else if word_is word (codes "*") then Some None
    else None

-- the halt whose letters a word is, in capitals or small letters; None where no halt has them
abbrev pub IsHaltOf : List ℕ → Option HaltCode → Type 0
IsHaltOf word code = IsCodeOf (map to_ascii_uppercase word) code

-- a word for the halts: the letters of one, in capitals or small letters, or * for any
abbrev pub NamesHalt : List ℕ → Option (Option HaltCode) → Type 0
NamesHalt word None = (word_is word (codes "*") ≡ false) × IsHaltOf word None
NamesHalt word (Some None) = word ≡ codes "*"
NamesHalt word (Some (Some code)) = IsHaltOf word (Some code)

-- a digit that the halt never allows, or none of them, is refused, by those that it allows
abbrev pub digit_fault : Option HaltCode → (digit : ℕ) → Option LineFault
digit_fault (Some code) digit = if is_allowed code digit then None else Some (if is_allowed code 0 then NotOfThree else NotOfTwo)
digit_fault None digit = if digit == 0 || digit == 2 || digit == 3 then None else Some NotOfThree

-- a character of a name, in capitals or small letters
unfoldable pub name_code : ℕ → Option ℕ
name_code byte = ebcdic_of (to_ascii_uppercase byte)

abbrev pub has_name_code : ℕ → Bool
has_name_code byte = is_some (name_code byte)

abbrev pub code_or_blank : ℕ → ℕ
code_or_blank byte = unwrap_or (name_code byte) BLANK

-- a name of a program has at most 6 characters
abbrev pub may_be_name : List ℕ → Bool
may_be_name word = nat_le (length word) 6 && list_all has_name_code word

abbrev pub name_in : List ℕ → Option Name
name_in word = if is_word (map code_or_blank word) then Some (name_of (map code_or_blank word)) else None

abbrev pub program_named : List ℕ → Option Name
program_named word = if may_be_name word then name_in word else None

abbrev pub only_program : Option Name → (rest : List (List ℕ)) → Result (Option Name) LineFault
only_program None rest = Err Program
only_program (Some name) [] = Ok (Some name)
only_program (Some name) (more ∷ rest) = Err TooLong

-- what follows the digit: nothing, or a program's name
abbrev pub program_said : List (List ℕ) → Result (Option Name) LineFault
program_said [] = Ok None
program_said (word ∷ rest) = only_program (program_named word) rest

abbrev pub rule_for : (number : ℕ) → Option LevelId → Option HaltCode → (digit : ℕ) → Result (Option Name) LineFault → Result (Option Rule) LineFault
rule_for number level code digit (Err fault) = Err fault
rule_for number level code digit (Ok program) = Ok (Some (record { level = level; code = code; digit = digit; program = program; line = number }))

abbrev pub allowed_rule : Option LineFault → Result (Option Rule) LineFault → Result (Option Rule) LineFault
allowed_rule (Some fault) rule = Err fault
allowed_rule None rule = rule

-- the rule of its parts, or the first fault, from left to right
abbrev pub rule_from : (number : ℕ) → Option (Option LevelId) → Option (Option HaltCode) → Option ℕ → Result (Option Name) LineFault → Result (Option Rule) LineFault
rule_from number None named digit program = Err Level
rule_from number (Some level) None digit program = Err Letters
rule_from number (Some level) (Some code) None program = Err Digit
rule_from number (Some level) (Some code) (Some digit) program = allowed_rule (digit_fault code digit) (rule_for number level code digit program)

-- a line is read as this: nothing, a rule, or its fault
abbrev pub WordsAreRead : (number : ℕ) → List (List ℕ) → Result (Option Rule) LineFault → Type 0
WordsAreRead number [] read = read ≡ Ok None
WordsAreRead number (level ∷ []) read = read ≡ Err TooShort
WordsAreRead number (level ∷ letters ∷ []) read = read ≡ Err TooShort
WordsAreRead number (level ∷ letters ∷ digit ∷ rest) read =
    (named : Option (Option HaltCode)) × NamesHalt letters named × (read ≡ rule_from number (level_named level) named (digit_of digit) (program_said rest))

-- ---- what all lines say, from a number on
abbrev pub AreRead : (number : ℕ) → List (List ℕ) → List (Result (Option Rule) LineFault) → Type 0
AreRead number [] [] = Unit {0}
AreRead number [] (read ∷ reads) = ⊥
AreRead number (line ∷ rest) [] = ⊥
AreRead number (line ∷ rest) (read ∷ reads) = WordsAreRead number (words line) read × AreRead (number + 1) rest reads

abbrev pub rule_read : Result (Option Rule) LineFault → Option Rule
rule_read (Ok rule) = rule
rule_read (Err fault) = None

-- the rules among them, in their order
abbrev pub rules_in : List (Result (Option Rule) LineFault) → List Rule
rules_in reads = filter_map rule_read reads

-- the faults among them, each with the number of its line
abbrev pub faults_from : (number : ℕ) → List (Result (Option Rule) LineFault) → List IllFormedLine
faults_from number [] = []
faults_from number (Ok rule ∷ reads) = faults_from (number + 1) reads
faults_from number (Err fault ∷ reads) = (record { number = number; fault = fault }) ∷ faults_from (number + 1) reads

-- a text has these rules, or these lines that are malformed, one at least
abbrev pub HasRules : (text : List ℕ) → List Rule → List IllFormedLine → Type 0
HasRules text rules faults =
    (reads : List (Result (Option Rule) LineFault)) × AreRead 1 (lines text) reads × (rules ≡ rules_in reads) × (faults ≡ faults_from 1 reads)
