-- A text of rules, line by line.
use Rattle.std.proofs.Common.{◌≡◌, ℕ, ◌+◌, ◌<◌, ◌≤◌, List, [], ◌∷◌, ◌++◌, refl, sym, ap, ◌∙◌, subst, length, arith, append_assoc, length-append}
use Rattle.std.specs.Prelude.{Option, None, Some, Result, Ok, Err}
use Rattle.std.specs.List.{filter_map}
use Rattle.std.specs.Str.Lines.{lines}
use Rattle.std.proofs.lemmas.List.{append-nil}
use Rattle.std.proofs.lemmas.List.Elements.{filter_map-append}
use Rattle.s3_replies.specs.declared.line_fault.LineFault.{LineFault}
use Rattle.s3_replies.specs.declared.line_fault.IllFormedLine.{IllFormedLine}
use Rattle.s3_replies.specs.declared.rule.Rule.{Rule}
use Rattle.s3_replies.specs.Inner.Words.{words}
use Rattle.s3_replies.specs.Inner.Rules.{AreRead, HasRules, WordsAreRead, faults_from, rule_read, rules_in}
use Rattle.s3_replies.specs.Inner.Reading.{Adds, TakesLine}

-- the lines so far, what they are read as, and the lines that are left
pub record ReadSoFar (text rest : List ℕ) (rules : List Rule) (faults : List IllFormedLine) (number : ℕ) : Type 0 where
  pub passed : List (List ℕ)
  pub reads : List (Result (Option Rule) LineFault)
  pub split : lines text ≡ passed ++ lines rest
  pub read : AreRead 1 passed reads
  pub rules_are : rules ≡ rules_in reads
  pub faults_are : faults ≡ faults_from 1 reads
  pub count : number ≡ length passed
  pub as_many : length reads ≡ length passed
  pub few : number + length rest ≤ length text

pub none_read : (text : List ℕ) (rules : List Rule) (faults : List IllFormedLine) → rules ≡ [] → faults ≡ [] → ReadSoFar text text rules faults 0
none_read text rules faults no_rules no_faults = record { passed = []; reads = []; split = refl; read = tt; rules_are = no_rules; faults_are = no_faults; count = refl; as_many = refl; few = omega arith }

read_more : (number : ℕ) (passed : List (List ℕ)) (reads : List (Result (Option Rule) LineFault)) (line : List ℕ) (read : Result (Option Rule) LineFault)
    → AreRead number passed reads → WordsAreRead (number + length passed) (words line) read → AreRead number (passed ++ line ∷ []) (reads ++ read ∷ [])
read_more number [] [] line read so_far this =
    let P : ℕ → Type 0 = λ n. WordsAreRead n (words line) read in
    let e : number + 0 ≡ number = omega arith in
    (subst P e this, tt)
read_more number [] (other ∷ reads) line read so_far this = absurd so_far
read_more number (first ∷ passed) [] line read so_far this = absurd so_far
read_more number (first ∷ passed) (other ∷ reads) line read so_far this =
    let P : ℕ → Type 0 = λ n. WordsAreRead n (words line) read in
    let e : number + length (first ∷ passed) ≡ number + 1 + length passed = omega arith in
    (so_far.0, read_more (number + 1) passed reads line read so_far.1 (subst P e this))

faults_more : (number : ℕ) (reads : List (Result (Option Rule) LineFault)) (read : Result (Option Rule) LineFault)
    → faults_from number (reads ++ read ∷ []) ≡ faults_from number reads ++ faults_from (number + length reads) (read ∷ [])
faults_more number [] read = ap (λ n. faults_from n (read ∷ [])) (omega arith)
faults_more number (Ok rule ∷ reads) read =
    let e : number + 1 + length reads ≡ number + length (Ok rule ∷ reads) = omega arith in
    faults_more (number + 1) reads read ∙ ap (λ n. faults_from (number + 1) reads ++ faults_from n (read ∷ [])) e
faults_more number (Err fault ∷ reads) read =
    let e : number + 1 + length reads ≡ number + length (Err fault ∷ reads) = omega arith in
    ap (λ faults. (record { number = number; fault = fault }) ∷ faults) (faults_more (number + 1) reads read ∙ ap (λ n. faults_from (number + 1) reads ++ faults_from n (read ∷ [])) e)

added_rules : (number : ℕ) (read : Result (Option Rule) LineFault) (rules after : List Rule) (faults faults_after : List IllFormedLine) → Adds number read rules after faults faults_after
    → (after ≡ rules ++ filter_map rule_read (read ∷ [])) × (faults_after ≡ faults ++ faults_from number (read ∷ []))
added_rules number (Ok None) rules after faults faults_after adds = (adds.0 ∙ sym (append-nil rules), adds.1 ∙ sym (append-nil faults))
added_rules number (Ok (Some rule)) rules after faults faults_after adds = (adds.0, adds.1 ∙ sym (append-nil faults))
added_rules number (Err fault) rules after faults faults_after adds = (adds.0 ∙ sym (append-nil rules), adds.1)

pub one_more : (text rest line behind : List ℕ) (rules after : List Rule) (faults faults_after : List IllFormedLine) (number : ℕ) → ReadSoFar text rest rules faults number
    → lines rest ≡ line ∷ lines behind → length behind < length rest → TakesLine (number + 1) line rules after faults faults_after → ReadSoFar text behind after faults_after (number + 1)
one_more text rest line behind rules after faults faults_after number so_far first shorter taken =
    let read : Result (Option Rule) LineFault = taken.0 in
    let added = added_rules (number + 1) read rules after faults faults_after taken.2 in
    let P : ℕ → Type 0 = λ n. WordsAreRead n (words line) read in
    let at : number + 1 ≡ 1 + length so_far.passed = omega (arith, so_far.count) in
    let place : number + 1 ≡ 1 + length so_far.reads = omega (arith, so_far.count, so_far.as_many) in
    record {
      passed = so_far.passed ++ line ∷ [];
      reads = so_far.reads ++ read ∷ [];
      split = so_far.split ∙ ap (λ ls. so_far.passed ++ ls) first ∙ sym (append_assoc so_far.passed (line ∷ []) (lines behind));
      read = read_more 1 so_far.passed so_far.reads line read so_far.read (subst P at taken.1);
      rules_are = added.0 ∙ ap (λ rs. rs ++ filter_map rule_read (read ∷ [])) so_far.rules_are ∙ sym (filter_map-append rule_read so_far.reads (read ∷ []));
      faults_are =
          added.1 ∙ ap (λ fs. fs ++ faults_from (number + 1) (read ∷ [])) so_far.faults_are
          ∙ ap (λ n. faults_from 1 so_far.reads ++ faults_from n (read ∷ [])) place ∙ sym (faults_more 1 so_far.reads read);
      count = omega (arith, so_far.count, length-append so_far.passed (line ∷ []));
      as_many = omega (arith, so_far.as_many, length-append so_far.passed (line ∷ []), length-append so_far.reads (read ∷ []));
      few = omega (arith, so_far.few);
    }

pub all_read : (text rest : List ℕ) (rules : List Rule) (faults : List IllFormedLine) (number : ℕ) → ReadSoFar text rest rules faults number → lines rest ≡ [] → HasRules text rules faults
all_read text rest rules faults number so_far none =
    let whole : lines text ≡ so_far.passed = so_far.split ∙ ap (λ ls. so_far.passed ++ ls) none ∙ append-nil so_far.passed in
    let P : List (List ℕ) → Type 0 = λ ls. AreRead 1 ls so_far.reads in
    (so_far.reads, subst P (sym whole) so_far.read, so_far.rules_are, so_far.faults_are)
