-- Lemmas about jobs.
use Rattle.std.proofs.Common.{◌≡◌, ℕ, ◌+◌, ◌<◌, ◌≤◌, List, [], ◌∷◌, ◌++◌, Bool, true, false, cond, refl, sym, ◌∙◌, ap, subst, inl, inr, arith, length, drop, zero, suc, get_or, append_assoc, length-drop, lt-ltb, le-ltb}
use Rattle.std.specs.Prelude.{Option, Some, None, IfSome, Result, Ok, Err, ◌==◌, ◌||◌, nat_lt, slice_get}
use Rattle.std.specs.List.{cons_option}
use Rattle.std.specs.Option.{option_or, option_to_list}
use Rattle.std.proofs.lemmas.Bool.{cases_lt}
use Rattle.std.proofs.lemmas.Bool.Decides.{nat_tests}
use Rattle.std.proofs.lemmas.List.{append-nil, drop_all}
use Rattle.std.proofs.lemmas.List.Sums.{sum_by-append, sum_by-cons}
use Rattle.std.proofs.lemmas.List.Elements.{filter_map-append}
use Rattle.std.proofs.lemmas.List.Folds.{list_any-append}
use Rattle.std.proofs.lemmas.Option.{slice_get_within, slice_get_past, get_or_from_slice_get}
use Rattle.s3_ocl.specs.declared.faults.JobFault.TheVariants.{NoRun}
use Rattle.s3_ocl.specs.declared.faults.Mark.{Mark}
use Rattle.s3_ocl.specs.declared.faults.FaultyJob.{FaultyJob}
use Rattle.s3_ocl.specs.declared.parameters.Verb.{Verb}
use Rattle.s3_ocl.specs.declared.parameters.Parameter.TheVariants.{Program}
use Rattle.s3_ocl.specs.declared.parameters.Verb.TheVariants.{Load, Date, Switch, Run}
use Rattle.s3_ocl.specs.Cards.{is_statement}
use Rattle.s3_ocl.specs.Statements.{Statement, statement_at, statements_within, is_verb}
use Rattle.s3_ocl.specs.Contents.{first_in, has, files_of, file_of, name_in, date_in, switches_in}
use Rattle.s3_ocl.specs.Faults.{fault_number, is_before, earlier, first_fault, statement_faults, faults_behind}
use Rattle.s3_ocl.specs.Jobs.{Job, cards_of, holds_at, stop_fault, stop_faults, faulty_end, job_with, job_or_fault, heading_at, job_at}
use Rattle.s3_ocl.specs.Inner.Steps.{Contents, KeptOf, contents_of, contents_with, last_fault, with_last}
use Rattle.s3_ocl.proofs.FaultLemmas.{earlier_assoc, first_fault-append}
use Rattle.s3_ocl.proofs.PieceLemmas.{at_card, past}
use Rattle.s3_ocl.proofs.BoundLemmas.{Each, each-append, each_statement, each_later}

-- P holds for the card of the error, if there is one
abbrev pub On : (ℕ → Type 0) → Option Mark → Type 0
On P None = Unit {0}
On P (Some mark) = P mark.card

on_earlier : (P : ℕ → Type 0) (a : Mark) (o : Option Mark) → P a.card → On P o → On P (earlier (Some a) o)
on_earlier P a None p q = p
on_earlier P a (Some b) p q = go (is_before b a)
  where
    go : (t : Bool) → On P (cond t (Some b) (Some a))
    go true = q
    go false = p

-- a property of all errors' cards holds for the first error's card
pub first_on : (P : ℕ → Type 0) (marks : List Mark) → Each P marks → On P (first_fault marks)
unfolding first_fault
first_on P [] each = tt
first_on P (mark ∷ marks) each = on_earlier P mark (first_fault marks) each.0 (first_on P marks each.1)

later_behind : (c d m n : ℕ) → d < c → cond (c == d) (nat_lt m n) (nat_lt c d) ≡ false
later_behind c d m n less = grind (arith, nat_tests)

-- errors on later cards don't come first
none_before : (mark : Mark) (marks : List Mark) → Each (λ k. mark.card < k) marks → earlier (Some mark) (first_fault marks) ≡ Some mark
unfolding first_fault
none_before mark [] each = refl
none_before mark (x ∷ marks) each =
    let behind : is_before x mark ≡ false = later_behind x.card mark.card (fault_number x.fault) (fault_number mark.fault) each.0 in
    let both : earlier (Some mark) (Some x) ≡ Some mark = rw behind refl in
    sym (earlier_assoc (Some mark) (Some x) (first_fault marks)) ∙ (ap (λ m. earlier m (first_fault marks)) both ∙ none_before mark marks each.1)

-- if there is no first error, there is no error
pub no_faults : (marks : List Mark) → first_fault marks ≡ None → marks ≡ []
unfolding first_fault
no_faults [] h = refl
no_faults (mark ∷ marks) h = go (first_fault marks) h
  where
    go : (o : Option Mark) → earlier (Some mark) o ≡ None → mark ∷ marks ≡ []
    go None e = cc
    go (Some other) e = either (is_before other mark) e
      where
        either : (t : Bool) → cond t (Some other) (Some mark) ≡ None → mark ∷ marks ≡ []
        either true e = cc
        either false e = cc

on_some : (P : ℕ → Type 0) (o : Option Mark) → On P o → IfSome o (λ mark. P mark.card)
on_some P None h = h
on_some P (Some mark) h = h

pub statement_cards : (number : ℕ) (card : List ℕ) (cards : List (List ℕ)) → 0 < (statement_at number card cards).cards
unfolding statement_at
statement_cards number card cards = omega arith

-- the error of a statement, or of the end of the deck after it, is on a card of the deck
pub mark_within : (cards : List (List ℕ)) (before : List Statement) (statement : Statement) (place : ℕ) (mark : Mark) (last result : Option Mark)
    → statement ≡ statement_at (place + 1) (get_or cards place []) (drop (place + 1) cards) → place + statement.cards ≤ length cards
    → first_fault (statement_faults before statement) ≡ Some mark → last ≡ last_fault cards statement.verb (place + statement.cards)
    → result ≡ earlier (Some mark) last → IfSome result (λ mark. (place < mark.card) × (mark.card ≤ length cards))
mark_within cards before statement place mark last result is within first lasts both =
    let P : ℕ → Type 0 = λ k. (place < k) × (k ≤ length cards) in
    let s : Statement = statement_at (place + 1) (get_or cards place []) (drop (place + 1) cards) in
    let long : place + s.cards ≤ length cards = subst (λ (x : Statement). place + x.cards ≤ length cards) is within in
    let each : Each P (statement_faults before statement) =
    subst (λ (x : Statement). Each P (statement_faults before x)) (sym is)
    (each_statement P before (place + 1) (get_or cards place []) (drop (place + 1) cards) (λ k low high. (omega arith, omega arith))) in
    let here : P mark.card = subst (On P) first (first_on P (statement_faults before statement) each) in
    let end : On P (last_fault cards statement.verb (place + statement.cards)) =
    go (is_verb Run statement.verb || nat_lt (place + statement.cards) (length cards))
    (subst (λ (x : Statement). 0 < x.cards) (sym is) (statement_cards (place + 1) (get_or cards place []) (drop (place + 1) cards))) in
    on_some P result (subst (On P) (sym both) (on_earlier P mark last here (subst (On P) (sym lasts) end)))
  where
    go : (t : Bool) → 0 < statement.cards → On (λ k. (place < k) × (k ≤ length cards)) (cond t None (Some (record { card = length cards; fault = NoRun })))
    go true some = tt
    go false some = (omega (arith, within, some), omega arith)

-- more turns than cards change nothing
turns_more : (turns turns' number : ℕ) (cards : List (List ℕ)) → length cards ≤ turns → length cards ≤ turns' → statements_within turns number cards ≡ statements_within turns' number cards
unfolding statements_within
turns_more zero zero number cards p q = refl
turns_more zero (suc turns') number [] p q = refl
turns_more zero (suc turns') number (card ∷ cards) p q = absurd (omega arith)
turns_more (suc turns) zero number [] p q = refl
turns_more (suc turns) zero number (card ∷ cards) p q = absurd (omega arith)
turns_more (suc turns) (suc turns') number [] p q = refl
turns_more (suc turns) (suc turns') number (card ∷ cards) p q =
    let s : Statement = statement_at number card cards in
    let left : List (List ℕ) = drop s.cards (card ∷ cards) in
    let short : length left ≤ length cards = omega (arith, length-drop s.cards (card ∷ cards), statement_cards number card cards) in
    ap (λ (xs : List Statement). cond (is_statement card) (s ∷ cond (is_verb Run s.verb) [] xs) [])
    (turns_more turns turns' (number + s.cards) left (omega arith) (omega arith))

drop_add : (n m : ℕ) (xs : List (List ℕ)) → drop m (drop n xs) ≡ drop (n + m) xs
drop_add zero m xs = let e : 0 + m ≡ m = omega arith in rw e refl
drop_add (suc n) m [] = drop_all m [] (omega arith) ∙ sym (drop_all (suc n + m) [] (omega arith))
drop_add (suc n) m (x ∷ xs) = let e : suc n + m ≡ suc (n + m) = omega arith in rw e (drop_add n m xs)

-- the statement that begins at a place
abbrev here : List (List ℕ) → ℕ → List ℕ → Statement
here cards place card = statement_at (place + 1) card (drop (place + 1) cards)

statements_here : (cards : List (List ℕ)) (place : ℕ) (card : List ℕ) → slice_get cards place ≡ Some card → is_statement card ≡ true
    → heading_at cards place ≡ here cards place card ∷ cond (is_verb Run (here cards place card).verb) [] (heading_at cards (place + (here cards place card).cards))
unfolding statements_within
statements_here cards place card at is =
    let s : Statement = here cards place card in
    let rest : List (List ℕ) = drop (place + 1) cards in
    let left : List (List ℕ) = drop (place + s.cards) cards in
    let split : drop place cards ≡ card ∷ rest = at_card cards place card at in
    let dropped : drop s.cards (card ∷ rest) ≡ left = ap (drop s.cards) (sym split) ∙ drop_add place s.cards cards in
    let number : place + 1 + s.cards ≡ place + s.cards + 1 = omega arith in
    let short : length left ≤ length rest =
    omega (arith, length-drop (place + s.cards) cards, length-drop (place + 1) cards, statement_cards (place + 1) card rest) in
    let more : statements_within (length rest) (place + 1 + s.cards) (drop s.cards (card ∷ rest)) ≡ heading_at cards (place + s.cards) =
    ap (λ (n : ℕ). statements_within (length rest) n (drop s.cards (card ∷ rest))) number
    ∙ (ap (λ (xs : List (List ℕ)). statements_within (length rest) (place + s.cards + 1) xs) dropped
    ∙ turns_more (length rest) (length left) (place + s.cards + 1) left short (omega arith)) in
    ap (λ (xs : List (List ℕ)). statements_within (length xs) (place + 1) xs) split ∙ (rw is (ap (λ (xs : List Statement). s ∷ cond (is_verb Run s.verb) [] xs) more))

no_statement : (cards : List (List ℕ)) (place : ℕ) (o : Option (List ℕ)) → slice_get cards place ≡ o → holds_at is_statement o ≡ false → heading_at cards place ≡ []
unfolding statements_within
no_statement cards place None at h = ap (λ (xs : List (List ℕ)). statements_within (length xs) (place + 1) xs) (drop_all place cards (past cards place at)) ∙ refl
no_statement cards place (Some card) at h = ap (λ (xs : List (List ℕ)). statements_within (length xs) (place + 1) xs) (at_card cards place card at) ∙ rw h refl

-- if the card at a place isn't a statement, no statement begins there
no_statements : (cards : List (List ℕ)) (place : ℕ) → holds_at is_statement (slice_get cards place) ≡ false → heading_at cards place ≡ []
no_statements cards place h = no_statement cards place (slice_get cards place) refl h

faults_behind-append : (before xs ys : List Statement) → faults_behind before (xs ++ ys) ≡ faults_behind before xs ++ faults_behind (before ++ xs) ys
unfolding faults_behind
faults_behind-append before [] ys = ap (λ (b : List Statement). faults_behind b ys) (sym (append-nil before))
faults_behind-append before (x ∷ xs) ys =
    ap (λ (m : List Mark). statement_faults before x ++ m) (faults_behind-append (before ++ x ∷ []) xs ys)
    ∙ (ap (λ (b : List Statement). statement_faults before x ++ (faults_behind (before ++ x ∷ []) xs ++ faults_behind b ys)) (append_assoc before (x ∷ []) xs)
    ∙ sym (append_assoc (statement_faults before x) (faults_behind (before ++ x ∷ []) xs) (faults_behind (before ++ x ∷ xs) ys)))

or_none : {X : Type 0} (o : Option X) → option_or o None ≡ o
or_none None = refl
or_none (Some x) = refl

or_assoc : {X : Type 0} (a b c : Option X) → option_or a (option_or b c) ≡ option_or (option_or a b) c
or_assoc None b c = refl
or_assoc (Some a) b c = refl

first_in-append : {X : Type 0} (f : Statement → Option X) (xs : List Statement) (y : Statement) → first_in f (xs ++ y ∷ []) ≡ option_or (first_in f xs) (f y)
unfolding first_in
first_in-append f [] y = or_none (f y)
first_in-append f (x ∷ xs) y = ap (option_or (f x)) (first_in-append f xs y) ∙ or_assoc (f x) (first_in f xs) (f y)

cons_one : {X : Type 0} (o : Option X) → cons_option o [] ≡ option_to_list o
cons_one None = refl
cons_one (Some x) = refl

files_of-append : (xs : List Statement) (y : Statement) → files_of (xs ++ y ∷ []) ≡ files_of xs ++ option_to_list (file_of y.pieces)
files_of-append xs y =
    filter_map-append (λ (s : Statement). file_of s.pieces) xs (y ∷ []) ∙ ap (λ m. files_of xs ++ m) (cons_one (file_of y.pieces))

or_no : (b : Bool) → (b || false) ≡ b
or_no true = refl
or_no false = refl

has-append : (verb : Verb) (xs : List Statement) (y : Statement) → has verb (xs ++ y ∷ []) ≡ (has verb xs || is_verb verb y.verb)
has-append verb xs y =
    list_any-append (λ statement. is_verb verb statement.verb) xs (y ∷ []) ∙ ap (λ b. has verb xs || b) (or_no (is_verb verb y.verb))

-- the contents after one more statement
contents-append : (xs : List Statement) (y : Statement) → contents_of (xs ++ y ∷ []) ≡ contents_with (contents_of xs) y
contents-append xs y i = record {
  program = first_in-append (λ s. name_in Program s.pieces) xs y i;
  date = first_in-append (λ s. date_in s.pieces) xs y i;
  switches = first_in-append (λ s. switches_in s.pieces) xs y i;
  files = files_of-append xs y i;
  is_loaded = has-append Load xs y i;
  is_dated = has-append Date xs y i;
  is_switched = has-append Switch xs y i;
}

-- the statements read so far of the job that begins at a place
pub record JobSoFar (cards : List (List ℕ)) (start place : ℕ) (contents : Contents) : Type 0 where
  pub passed : List Statement
  pub split : heading_at cards start ≡ passed ++ heading_at cards place
  pub no_run : has Run passed ≡ false
  pub faultless : faults_behind [] passed ≡ []
  pub kept : contents ≡ contents_of passed
  pub reached : start + cards_of passed ≡ place
  pub within : place ≤ length cards

pub nothing_read : (cards : List (List ℕ)) (start : ℕ) (contents : Contents) → start < length cards → contents ≡ contents_of [] → JobSoFar cards start start contents
unfolding faults_behind
nothing_read cards start contents in' is = record {
  passed = [];
  split = refl;
  no_run = refl;
  faultless = refl;
  kept = is;
  reached = omega arith;
  within = omega arith;
}

-- the job with these statements
abbrev job_of : List (List ℕ) → ℕ → List Statement → Result Job FaultyJob
job_of cards start heading =
    job_or_fault cards heading (start + cards_of heading)
    (first_fault (faults_behind [] heading ++ stop_faults cards heading (start + cards_of heading)))

pub job_stopped : (cards : List (List ℕ)) (start place : ℕ) (contents : Contents) (mark : Mark) (faulty : FaultyJob) → JobSoFar cards start place contents
    → holds_at is_statement (slice_get cards place) ≡ false → mark ≡ stop_fault cards place (slice_get cards place)
    → faulty ≡ record { fault = mark.fault; card = mark.card; after = faulty_end cards mark.card } → job_at cards start ≡ Err faulty
unfolding job_at first_fault
job_stopped cards start place contents mark faulty so_far none is gives =
    let whole : heading_at cards start ≡ so_far.passed =
    so_far.split ∙ (ap (λ (xs : List Statement). so_far.passed ++ xs) (no_statements cards place none) ∙ append-nil so_far.passed) in
    ap (job_of cards start) whole ∙ (rw (so_far.faultless, so_far.reached, so_far.no_run, gives, is) refl)

-- a statement read at a place
pub record IsRead (cards : List (List ℕ)) (place : ℕ) (statement : Statement) : Type 0 where
  pub card : List ℕ
  pub is : statement ≡ here cards place card
  pub at : heading_at cards place ≡ statement ∷ cond (is_verb Run statement.verb) [] (heading_at cards (place + statement.cards))

read_at : (cards : List (List ℕ)) (place : ℕ) (o : Option (List ℕ)) → slice_get cards place ≡ o → holds_at is_statement o ≡ true
    → IsRead cards place (here cards place (get_or cards place []))
read_at cards place None at h = cc
read_at cards place (Some card) at h =
    let same : card ≡ get_or cards place [] = sym (get_or_from_slice_get cards place card [] at) in
    subst (λ (x : List ℕ). IsRead cards place (here cards place x)) same
    (record { card = card; is = refl; at = statements_here cards place card at h })

pub is_read : (cards : List (List ℕ)) (place : ℕ) (statement : Statement) → holds_at is_statement (slice_get cards place) ≡ true
    → statement ≡ statement_at (place + 1) (get_or cards place []) (drop (place + 1) cards) → IsRead cards place statement
is_read cards place statement h is = subst (IsRead cards place) (sym is) (read_at cards place (slice_get cards place) refl h)

cards_of-append : (xs : List Statement) (y : Statement) → cards_of (xs ++ y ∷ []) ≡ cards_of xs + y.cards
cards_of-append xs y = sum_by-append (λ (s : Statement). s.cards) xs (y ∷ []) ∙ ap (λ n. cards_of xs + n) (let e : 0 + y.cards ≡ y.cards = omega arith in e)

with_last-none : (a last : Option Mark) → with_last a last ≡ None → a ≡ None
with_last-none None last h = refl
with_last-none (Some mark) None h = cc
with_last-none (Some mark) (Some other) h = go (is_before other mark) h
  where
    go : (t : Bool) → cond t (Some other) (Some mark) ≡ None → Some mark ≡ None
    go true e = cc
    go false e = cc

one_more_faultless : (passed : List Statement) (statement : Statement) → faults_behind [] passed ≡ [] → first_fault (statement_faults passed statement) ≡ None
    → faults_behind [] (passed ++ statement ∷ []) ≡ []
unfolding faults_behind
one_more_faultless passed statement faultless none =
    faults_behind-append [] passed (statement ∷ []) ∙ (rw (faultless, no_faults (statement_faults passed statement) none) refl)

pub one_more_statement : (cards : List (List ℕ)) (start place : ℕ) (contents new : Contents) (statement : Statement) (last : Option Mark) (so_far : JobSoFar cards start place contents)
    → IsRead cards place statement → place + statement.cards ≤ length cards → with_last (first_fault (statement_faults so_far.passed statement)) last ≡ None
    → new ≡ contents_with contents statement → is_verb Run statement.verb ≡ false → JobSoFar cards start (place + statement.cards) new
one_more_statement cards start place contents new statement last so_far read within none with other = record {
  passed = so_far.passed ++ statement ∷ [];
  split =
      so_far.split ∙ (ap (λ (xs : List Statement). so_far.passed ++ xs) (read.at ∙ rw other refl)
      ∙ sym (append_assoc so_far.passed (statement ∷ []) (heading_at cards (place + statement.cards))));
  no_run = has-append Run so_far.passed statement ∙ rw (so_far.no_run, other) refl;
  faultless = one_more_faultless so_far.passed statement so_far.faultless (with_last-none _ last none);
  kept = with ∙ (ap (λ (c : Contents). contents_with c statement) so_far.kept ∙ sym (contents-append so_far.passed statement));
  reached = omega (arith, so_far.reached, cards_of-append so_far.passed statement);
  within = within;
}

pub job_run : (cards : List (List ℕ)) (start place : ℕ) (contents new : Contents) (statement : Statement) (last : Option Mark) (job : Job) (so_far : JobSoFar cards start place contents)
    → IsRead cards place statement → with_last (first_fault (statement_faults so_far.passed statement)) last ≡ None
    → new ≡ contents_with contents statement → is_verb Run statement.verb ≡ true → KeptOf new (λ heading. job ≡ job_with cards heading (place + statement.cards))
    → job_at cards start ≡ Ok job
unfolding job_at first_fault
job_run cards start place contents new statement last job so_far read faultless with is gives =
    let heading : List Statement = so_far.passed ++ statement ∷ [] in
    let whole : heading_at cards start ≡ heading = so_far.split ∙ ap (λ (xs : List Statement). so_far.passed ++ xs) (read.at ∙ rw is refl) in
    let clean : faults_behind [] heading ≡ [] = one_more_faultless so_far.passed statement so_far.faultless (with_last-none _ last faultless) in
    let ended : has Run heading ≡ true = has-append Run so_far.passed statement ∙ rw (so_far.no_run, is) refl in
    let end : start + cards_of heading ≡ place + statement.cards = omega (arith, so_far.reached, cards_of-append so_far.passed statement) in
    let kept : new ≡ contents_of heading =
    with ∙ (ap (λ (c : Contents). contents_with c statement) so_far.kept ∙ sym (contents-append so_far.passed statement)) in
    let none : first_fault (faults_behind [] heading ++ stop_faults cards heading (start + cards_of heading)) ≡ None = rw (clean, ended) refl in
    ap (job_of cards start) whole
    ∙ (ap (job_or_fault cards heading (start + cards_of heading)) none
    ∙ (ap (λ (n : ℕ). Ok (job_with cards heading n)) end ∙ ap Ok (sym (gives heading kept))))

stop_on : (P : ℕ → Type 0) (cards : List (List ℕ)) (end : ℕ) (o : Option (List ℕ)) → (o ≡ None → P (length cards)) → ((card : List ℕ) → o ≡ Some card → P (end + 1)) → P (stop_fault cards end o).card
stop_on P cards end None p q = p refl
stop_on P cards end (Some card) p q = q card refl

-- the card at which a job stops is in the deck
pub stop_within : (cards : List (List ℕ)) (place : ℕ) (mark : Mark) → mark ≡ stop_fault cards place (slice_get cards place) → mark.card ≤ length cards
stop_within cards place mark is =
    subst (λ (x : Mark). x.card ≤ length cards) (sym is)
    (stop_on (λ k. k ≤ length cards) cards place (slice_get cards place) (λ h. omega arith) (λ card h. omega (arith, slice_get_within cards place card h)))

pub each_stop : (P : ℕ → Type 0) (cards : List (List ℕ)) (heading : List Statement) (end : ℕ) → P (length cards) → P (end + 1) → Each P (stop_faults cards heading end)
each_stop P cards heading end p q = go (has Run heading) (slice_get cards end)
  where
    go : (t : Bool) (o : Option (List ℕ)) → Each P (cond t [] (stop_fault cards end o ∷ []))
    go true o = tt
    go false None = (p, tt)
    go false (Some card) = (q, tt)

-- after a statement in error, only the end of the deck can give an earlier error
later_faults : (cards : List (List ℕ)) (start place : ℕ) (passed : List Statement) (s : Statement) (mark : Mark) (run : Bool) → is_verb Run s.verb ≡ run
    → start + cards_of passed ≡ place → has Run passed ≡ false → mark.card < place + 1 + s.cards → place + s.cards ≤ length cards
    → earlier (Some mark) (first_fault (faults_behind (passed ++ s ∷ []) (cond run [] (heading_at cards (place + s.cards)))
    ++ stop_faults cards (passed ++ s ∷ cond run [] (heading_at cards (place + s.cards))) (start + cards_of (passed ++ s ∷ cond run [] (heading_at cards (place + s.cards))))))
    ≡ earlier (Some mark) (cond (run || nat_lt (place + s.cards) (length cards)) None (Some (record { card = length cards; fault = NoRun })))
unfolding faults_behind first_fault
later_faults cards start place passed s mark true is reached no_run on within =
    let ended : has Run (passed ++ s ∷ []) ≡ true = has-append Run passed s ∙ rw (no_run, is) refl in
    rw ended refl
later_faults cards start place passed s mark false is reached no_run on within = elim (cases_lt (place + s.cards) (length cards)) [
  | inl less ↦ (
      let rest : List Statement = heading_at cards (place + s.cards) in
      let heading : List Statement = passed ++ s ∷ rest in
      let end : ℕ = start + cards_of heading in
      let long : place + s.cards ≤ end = omega (arith, reached, sum_by-append (λ (x : Statement). x.cards) passed (s ∷ rest), sum_by-cons (λ (x : Statement). x.cards) s rest) in
      let test : nat_lt (place + s.cards) (length cards) ≡ true = lt-ltb _ _ less in
      none_before mark (faults_behind (passed ++ s ∷ []) rest ++ stop_faults cards heading end)
      (each-append (λ k. mark.card < k) (faults_behind (passed ++ s ∷ []) rest) (stop_faults cards heading end)
      (each_later (λ k. mark.card < k) (length (drop (place + s.cards) cards)) (place + s.cards + 1) (drop (place + s.cards) cards) (passed ++ s ∷ []) (λ k low. omega arith))
      (each_stop (λ k. mark.card < k) cards heading end (omega arith) (omega arith)))
      ∙ rw test refl)
  | inr past_end ↦ (
      let none : slice_get cards (place + s.cards) ≡ None = slice_get_past cards (place + s.cards) past_end in
      let no_more : heading_at cards (place + s.cards) ≡ [] = no_statements cards (place + s.cards) (rw none refl) in
      let no_end : has Run (passed ++ s ∷ []) ≡ false = has-append Run passed s ∙ rw (no_run, is) refl in
      let end : start + cards_of (passed ++ s ∷ []) ≡ place + s.cards = omega (arith, reached, cards_of-append passed s) in
      let test : nat_lt (place + s.cards) (length cards) ≡ false = le-ltb _ _ past_end in
      ap (λ (rest : List Statement). earlier (Some mark) (first_fault (faults_behind (passed ++ s ∷ []) rest ++ stop_faults cards (passed ++ s ∷ rest) (start + cards_of (passed ++ s ∷ rest))))) no_more
      ∙ (rw (no_end, end, none, test) refl))
]

-- the first error of a job is this statement's
first_of : (cards : List (List ℕ)) (start place : ℕ) (contents : Contents) (statement : Statement) (mark : Mark) (so_far : JobSoFar cards start place contents) (read : IsRead cards place statement)
    → place + statement.cards ≤ length cards → first_fault (statement_faults so_far.passed statement) ≡ Some mark
    → first_fault (faults_behind [] (heading_at cards start) ++ stop_faults cards (heading_at cards start) (start + cards_of (heading_at cards start)))
    ≡ earlier (Some mark) (last_fault cards statement.verb (place + statement.cards))
unfolding faults_behind
first_of cards start place contents statement mark so_far read within first =
    let passed : List Statement = so_far.passed in
    let rest : List Statement = cond (is_verb Run statement.verb) [] (heading_at cards (place + statement.cards)) in
    let heading : List Statement = passed ++ statement ∷ rest in
    let whole : heading_at cards start ≡ heading = so_far.split ∙ ap (λ (xs : List Statement). passed ++ xs) read.at in
    let own : List Mark = statement_faults passed statement in
    let later : List Mark = faults_behind (passed ++ statement ∷ []) rest in
    let stops : List Mark = stop_faults cards heading (start + cards_of heading) in
    let faults : faults_behind [] heading ≡ own ++ later =
    faults_behind-append [] passed (statement ∷ rest) ∙ rw so_far.faultless refl in
    let on : mark.card < place + 1 + statement.cards =
    subst (On (λ k. k < place + 1 + statement.cards)) first
    (first_on (λ k. k < place + 1 + statement.cards) own
    (subst (λ (x : Statement). Each (λ k. k < place + 1 + x.cards) (statement_faults passed x)) (sym read.is)
    (each_statement (λ k. k < place + 1 + (here cards place read.card).cards) passed (place + 1) read.card (drop (place + 1) cards) (λ k low high. high)))) in
    ap (λ (h : List Statement). first_fault (faults_behind [] h ++ stop_faults cards h (start + cards_of h))) whole
    ∙ (ap (λ (m : List Mark). first_fault (m ++ stops)) faults
    ∙ (ap first_fault (append_assoc own later stops)
    ∙ (first_fault-append own (later ++ stops)
    ∙ (ap (λ m. earlier m (first_fault (later ++ stops))) first
    ∙ later_faults cards start place passed statement mark (is_verb Run statement.verb) refl so_far.reached so_far.no_run on within))))

pub job_faulty : (cards : List (List ℕ)) (start place : ℕ) (contents : Contents) (statement : Statement) (mark : Mark) (faulty : FaultyJob) (so_far : JobSoFar cards start place contents)
    → IsRead cards place statement → place + statement.cards ≤ length cards
    → with_last (first_fault (statement_faults so_far.passed statement)) (last_fault cards statement.verb (place + statement.cards)) ≡ Some mark
    → faulty ≡ record { fault = mark.fault; card = mark.card; after = faulty_end cards mark.card } → job_at cards start ≡ Err faulty
unfolding job_at
job_faulty cards start place contents statement mark faulty so_far read within found gives = go (first_fault (statement_faults so_far.passed statement)) refl found
  where
    go : (o : Option Mark) → first_fault (statement_faults so_far.passed statement) ≡ o → with_last o (last_fault cards statement.verb (place + statement.cards)) ≡ Some mark
        → job_or_fault cards (heading_at cards start) (start + cards_of (heading_at cards start))
        (first_fault (faults_behind [] (heading_at cards start) ++ stop_faults cards (heading_at cards start) (start + cards_of (heading_at cards start)))) ≡ Err faulty
    go None first h = cc
    go (Some own) first h =
        ap (job_or_fault cards (heading_at cards start) (start + cards_of (heading_at cards start))) (first_of cards start place contents statement own so_far read within first ∙ h)
        ∙ ap Err (sym gives)
