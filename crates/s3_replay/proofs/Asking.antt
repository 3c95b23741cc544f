-- The script of what was performed, line by line, and that it reads back.
use Rattle.std.proofs.Common.{◌≡◌, ◌<◌, ◌≤◌, ◌+◌, ◌-◌, ◌*◌, ◌/◌, ◌%◌, ◌==◌, ℕ, zero, suc, min, Bool, true, false, List, [], ◌∷◌, ◌++◌, append_assoc, replicate, if◌then◌else◌, refl, sym, ap, ap₂, subst, ◌∙◌, arith}
use Rattle.std.specs.List.{flat_map, list_all}
use Rattle.std.proofs.lemmas.Bool.{and_parts, cases_lt}
use Rattle.std.proofs.lemmas.Bool.Decides.{nat_tests}
use Rattle.std.proofs.lemmas.List.{append-nil, replicate-append-replicate}
use Rattle.std.proofs.lemmas.Grind.{flat_map-append}
use Rattle.std.proofs.Common.{inl, inr}
use Rattle.s3_solo.specs.declared.action.Action.{Action}
use Rattle.s3_solo.specs.declared.action.Action.TheVariants.{Turn, Reply, Drain}
use Rattle.s3_bureau.specs.declared.entry.Entry.{Entry}
use Rattle.s3_replay.specs.declared.performed.Repeated.{Repeated}
use Rattle.s3_replay.specs.Inner.Written.{ReadsBack, Says, counts_of, ended_line, entries_in, is_part_writable, is_writable, lines_asking, most_in_line, part_lines, text_of}
use Rattle.s3_replay.proofs.Writing.{most_some, says_all, says_line, says_nothing}

-- ---- the next line
-- the counts of what one line can ask for, and of more
last_count : (most n : ℕ) → 0 < n → n / most ≡ 0 → n % most ≡ n → counts_of most n ≡ n ∷ []
last_count most n some none same = ap₂ (λ (k r : ℕ). replicate k most ++ (if r == 0 then [] else r ∷ [])) none same ∙ ap (λ (b : Bool). if b then [] else n ∷ []) (other n some)
  where
    other : (n : ℕ) → 0 < n → (n == 0) ≡ false
    other n some = grind (arith, nat_tests)

more_counts : (most n m : ℕ) → n / most ≡ suc (m / most) → n % most ≡ m % most → counts_of most n ≡ most ∷ counts_of most m
more_counts most n m quotient rest = ap₂ (λ (k r : ℕ). replicate k most ++ (if r == 0 then [] else r ∷ [])) quotient rest

abbrev HasNext : (most left count : ℕ) → Type 0
HasNext most left count = counts_of most left ≡ count ∷ counts_of most (left - count)

many_next : (left count : ℕ) → 0 < left → count ≡ min left 9999 → HasNext 9999 left count
many_next left count some is = elim (cases_lt left 9999) [
  | inl few ↦
      let all : count ≡ left = omega (arith, is) in
      let none : left - count ≡ 0 = omega (arith, all) in
      last_count 9999 left some (omega arith) (omega arith) ∙ ap₂ (λ (c rest : ℕ). c ∷ counts_of 9999 rest) (sym all) (sym none)
  | inr many ↦
      let most : count ≡ 9999 = omega (arith, is) in
      let rest : left - count ≡ left - 9999 = omega (arith, most) in
      more_counts 9999 left (left - 9999) (omega arith) (omega arith) ∙ ap₂ (λ (c rest : ℕ). c ∷ counts_of 9999 rest) (sym most) (sym rest)
]

one_next : (left count : ℕ) → 0 < left → count ≡ min left 1 → HasNext 1 left count
one_next left count some is =
    let one : count ≡ 1 = omega (arith, is) in
    let rest : left - count ≡ left - 1 = omega (arith, one) in
    more_counts 1 left (left - 1) (omega arith) (omega arith) ∙ ap₂ (λ (c rest : ℕ). c ∷ counts_of 1 rest) (sym one) (sym rest)

has_next : (action : Action) (left count : ℕ) → 0 < left → count ≡ min left (most_in_line action) → HasNext (most_in_line action) left count
has_next Turn left count some is = many_next left count some is
has_next Drain left count some is = many_next left count some is
has_next (Reply digit) left count some is = one_next left count some is

pub next_line : (entry : Entry) (left count : ℕ) (text new all : List ℕ) → 0 < left → count ≡ min left (most_in_line entry.action) → new ≡ text ++ ended_line entry count
    → text ++ lines_asking entry left ≡ all → new ++ lines_asking entry (left - count) ≡ all
unfolding lines_asking
next_line entry left count text new all some least more so_far =
    ap (λ t. t ++ flat_map (ended_line entry) (counts_of (most_in_line entry.action) (left - count))) more
    ∙ append_assoc text (ended_line entry count) (flat_map (ended_line entry) (counts_of (most_in_line entry.action) (left - count)))
    ∙ ap (λ ns. text ++ flat_map (ended_line entry) ns) (sym (has_next entry.action left count some least))
    ∙ so_far

no_lines : (entry : Entry) → lines_asking entry 0 ≡ []
unfolding lines_asking
no_lines entry = by entry.action
  where
    by : (action : Action) → flat_map (ended_line entry) (counts_of (most_in_line action) 0) ≡ []
    by Turn = refl
    by Drain = refl
    by (Reply digit) = refl

pub none_left : (entry : Entry) (left : ℕ) (text all : List ℕ) → left ≡ 0 → text ++ lines_asking entry left ≡ all → text ≡ all
none_left entry left text all none so_far = sym (append-nil text) ∙ ap (λ t. text ++ t) (sym (no_lines entry)) ∙ ap (λ n. text ++ lines_asking entry n) (sym none) ∙ so_far

-- ---- that it reads back
-- a line that asks so often, again and again
says_again : (entry : Entry) (most times : ℕ) (text : List ℕ) (entries : List Entry) → is_writable entry.action ≡ true → 1 ≤ most → most ≤ most_in_line entry.action → Says text entries
    → Says (text ++ flat_map (ended_line entry) (replicate times most)) (entries ++ replicate (times * most) entry)
says_again entry most zero text entries writable some few says =
    let none : 0 ≡ 0 * most = omega arith in
    subst (λ (k : ℕ). Says (text ++ []) (entries ++ replicate k entry)) none
    (subst (λ (t : List ℕ). Says t (entries ++ [])) (sym (append-nil text)) (subst (Says text) (sym (append-nil entries)) says))
says_again entry most (suc times) text entries writable some few says =
    let one = says_line text (text ++ ended_line entry most) entries entry most says writable some few refl in
    let all = says_again entry most times (text ++ ended_line entry most) (entries ++ replicate most entry) writable some few one in
    let sum : most + times * most ≡ suc times * most = omega arith in
    let joined : (entries ++ replicate most entry) ++ replicate (times * most) entry ≡ entries ++ replicate (suc times * most) entry =
    append_assoc entries (replicate most entry) (replicate (times * most) entry) ∙ ap (λ es. entries ++ es) (replicate-append-replicate most (times * most) entry ∙ ap (λ k. replicate k entry) sum) in
    let lines = append_assoc text (ended_line entry most) (flat_map (ended_line entry) (replicate times most)) in
    subst (λ (t : List ℕ). Says t (entries ++ replicate (suc times * most) entry)) lines (subst (Says ((text ++ ended_line entry most) ++ flat_map (ended_line entry) (replicate times most))) joined all)

-- and once for the rest
says_rest : (entry : Entry) (rest : ℕ) (text : List ℕ) (entries : List Entry) (none : Bool) → (rest == 0) ≡ none → is_writable entry.action ≡ true → rest ≤ most_in_line entry.action → Says text entries
    → Says (text ++ flat_map (ended_line entry) (if none then [] else rest ∷ [])) (entries ++ replicate rest entry)
says_rest entry rest text entries true is writable few says =
    let zero_left : rest ≡ 0 = grind (arith, nat_tests) in
    let same : entries ≡ entries ++ replicate rest entry = sym (append-nil entries) ∙ ap (λ k. entries ++ replicate k entry) (sym zero_left) in
    subst (λ (t : List ℕ). Says t (entries ++ replicate rest entry)) (sym (append-nil text)) (subst (Says text) same says)
says_rest entry rest text entries false is writable few says =
    let some : 1 ≤ rest = grind (arith, nat_tests) in
    let line : ended_line entry rest ≡ flat_map (ended_line entry) (rest ∷ []) = sym (append-nil (ended_line entry rest)) in
    says_line text (text ++ flat_map (ended_line entry) (rest ∷ [])) entries entry rest says writable some few (ap (λ t. text ++ t) (sym line))

says_counts : (entry : Entry) (most n : ℕ) (text : List ℕ) (entries : List Entry) → is_writable entry.action ≡ true → 1 ≤ most → most ≤ most_in_line entry.action → n / most * most + n % most ≡ n → n % most ≤ most → Says text entries
    → Says (text ++ flat_map (ended_line entry) (counts_of most n)) (entries ++ replicate n entry)
says_counts entry most n text entries writable some few whole within says =
    let rest : List ℕ = if n % most == 0 then [] else n % most ∷ [] in
    let front = says_again entry most (n / most) text entries writable some few says in
    let both = says_rest entry (n % most) (text ++ flat_map (ended_line entry) (replicate (n / most) most)) (entries ++ replicate (n / most * most) entry) (n % most == 0) refl writable (omega arith) front in
    let lines : (text ++ flat_map (ended_line entry) (replicate (n / most) most)) ++ flat_map (ended_line entry) rest ≡ text ++ flat_map (ended_line entry) (counts_of most n) =
    append_assoc text (flat_map (ended_line entry) (replicate (n / most) most)) (flat_map (ended_line entry) rest) ∙ ap (λ t. text ++ t) (sym (flat_map-append (ended_line entry) (replicate (n / most) most) rest)) in
    let all : (entries ++ replicate (n / most * most) entry) ++ replicate (n % most) entry ≡ entries ++ replicate n entry =
    append_assoc entries (replicate (n / most * most) entry) (replicate (n % most) entry)
    ∙ ap (λ es. entries ++ es) (replicate-append-replicate (n / most * most) (n % most) entry ∙ ap (λ k. replicate k entry) whole) in
    subst (λ (t : List ℕ). Says t (entries ++ replicate n entry)) lines (subst (Says ((text ++ flat_map (ended_line entry) (replicate (n / most) most)) ++ flat_map (ended_line entry) rest)) all both)

by_action : (action : Action) (n : ℕ) → (n / most_in_line action * most_in_line action + n % most_in_line action ≡ n) × (n % most_in_line action ≤ most_in_line action)
by_action Turn n = (omega arith, omega arith)
by_action Drain n = (omega arith, omega arith)
by_action (Reply digit) n = (omega arith, omega arith)

says_part : (part : Repeated) (text : List ℕ) (entries : List Entry) → is_part_writable part ≡ true → Says text entries → Says (text ++ part_lines part) (entries ++ replicate part.times part.entry)
unfolding part_lines lines_asking
says_part part text entries writable says =
    let lines = says_counts part.entry (most_in_line part.entry.action) part.times text entries writable (most_some part.entry.action) (omega arith) (by_action part.entry.action part.times).0 (by_action part.entry.action part.times).1 says in
    let counted : List ℕ = flat_map (ended_line part.entry) (counts_of (most_in_line part.entry.action) part.times) in
    subst (λ (b : Bool). Says (text ++ (if b then counted else [])) (entries ++ replicate part.times part.entry)) (sym writable) lines

says_parts : (parts : List Repeated) (text : List ℕ) (entries : List Entry) → list_all is_part_writable parts ≡ true → Says text entries → Says (text ++ text_of parts) (entries ++ entries_in parts)
says_parts [] text entries writable says = subst (λ (t : List ℕ). Says t (entries ++ [])) (sym (append-nil text)) (subst (Says text) (sym (append-nil entries)) says)
says_parts (part ∷ parts) text entries writable says =
    let both = and_parts (is_part_writable part) (list_all is_part_writable parts) writable in
    let all = says_parts parts (text ++ part_lines part) (entries ++ replicate part.times part.entry) both.1 (says_part part text entries both.0 says) in
    subst (λ (t : List ℕ). Says t (entries ++ entries_in (part ∷ parts))) (append_assoc text (part_lines part) (text_of parts))
    (subst (Says ((text ++ part_lines part) ++ text_of parts)) (append_assoc entries (replicate part.times part.entry) (entries_in parts)) all)

pub reads_back : ReadsBack
reads_back parts writable = says_all (text_of parts) (entries_in parts) (says_parts parts [] [] writable says_nothing)
