-- How a text of rules is read, and when it is refused.
use Rattle.std.specs.Prelude.{ℕ, ◌<◌, ◌≡◌, List, [], ◌∷◌, ◌++◌, length, Option, None, Some, Result, Ok, Err}
use Rattle.s3_replies.specs.declared.line_fault.LineFault.{LineFault}
use Rattle.s3_replies.specs.declared.line_fault.IllFormedLine.{IllFormedLine}
use Rattle.s3_replies.specs.declared.rule.Rule.{Rule}
use Rattle.s3_replies.specs.declared.rules.RulesFault.{RulesFault}
use Rattle.s3_replies.specs.declared.rules.RulesFault.TheVariants.{NoMemory, IllFormed}
use Rattle.s3_replies.specs.Inner.Words.{words}
use Rattle.s3_replies.specs.Inner.Rules.{HasRules, WordsAreRead}

abbrev pub IsNoMemory : RulesFault → Type 0
IsNoMemory NoMemory = Unit {0}
IsNoMemory (IllFormed faults) = ⊥

-- a text is refused by its malformed lines, one at least, or if memory runs out
abbrev pub IsRefused : (text : List ℕ) → RulesFault → Type 0
IsRefused text NoMemory = Unit {0}
IsRefused text (IllFormed faults) = (0 < length faults.items) × ((rules : List Rule) × HasRules text rules faults.items)

-- a line's rule or its fault is put after the others
abbrev pub Adds : (number : ℕ) → Result (Option Rule) LineFault → (rules after : List Rule) → (faults faults_after : List IllFormedLine) → Type 0
Adds number (Ok None) rules after faults faults_after = (after ≡ rules) × (faults_after ≡ faults)
Adds number (Ok (Some rule)) rules after faults faults_after = (after ≡ rules ++ rule ∷ []) × (faults_after ≡ faults)
Adds number (Err fault) rules after faults faults_after = (after ≡ rules) × (faults_after ≡ faults ++ (record { number = number; fault = fault }) ∷ [])

abbrev pub TakesLine : (number : ℕ) → (line : List ℕ) → (rules after : List Rule) → (faults faults_after : List IllFormedLine) → Type 0
TakesLine number line rules after faults faults_after = (read : Result (Option Rule) LineFault) × WordsAreRead number (words line) read × Adds number read rules after faults faults_after
