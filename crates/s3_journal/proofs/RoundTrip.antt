-- A line that is written of a day is read as that day, and so are the lines of a journal.
use Rattle.std.proofs.Common.{◌≡◌, ℕ, ◌^◌, ◌<◌, ◌≤◌, nat_le, Bool, true, false, ◌&&◌, List, [], ◌∷◌, ◌++◌, append_assoc, Option, Some, None, Ok, option_and_then, option_map, cond, refl, ap, sym, ◌∙◌, arith}
use Rattle.std.specs.Prelude.{decimal, codes, not, ⊤}
use Rattle.std.specs.Option.{ok_or}
use Rattle.std.specs.List.{list_all}
use Rattle.std.specs.Str.{bytes_eq}
use Rattle.std.specs.Str.Parse.{without_leading_plus}
use Rattle.std.proofs.lemmas.Bool.{and_parts, leb-true}
use Rattle.std.proofs.lemmas.Fmt.{parse-decimal}
use Rattle.std.proofs.lemmas.Slice.Eq.{bytes_eq-Decides}
use Rattle.json.specs.Json.{Json, null, string, object}
use Rattle.json.specs.Find.{as_str, as_object}
use Rattle.json.specs.Print.{print}
use Rattle.json.specs.Tree.{json_tokens, depth, members_depth}
use Rattle.json.proofs.Printed.Trees.{document-print}
use Rattle.s3_journal.specs.declared.day.LevelCount.{LevelCount}
use Rattle.s3_journal.specs.Inner.Digests.{digest_of}
use Rattle.s3_journal.specs.Inner.Days.{Operation, Did, operates, runs, appends, loads, sorts, deletes, copies, amends, restores, Day}
use Rattle.s3_journal.specs.Inner.Members.{below, only_or_none, or_none, up_to, whole_number}
use Rattle.s3_journal.specs.Inner.Lines.{Pairs, Said, byte_most, long_most, count_in, day_pairs, did_pairs, level_tree, line_of, members_of, digest_pairs, said_in, said_on, text_of_line, text_or_null, text_with, tree_of, whole}
use Rattle.s3_journal.specs.Inner.Journals.{ReadsBack, chained, count_fits, days_from, did_fits, fits, is_line_end, lines_ended, text_after}
use Rattle.s3_journal.proofs.MemberLemmas.{below_parses}
use Rattle.s3_journal.proofs.JournalLemmas.{lines_of_line, lines_of_rest}
use Rattle.s3_journal.proofs.TextLemmas.{HasDecimals, MembersHaveDecimals, numbers_of_decimals, print_inside}

-- ---- numbers
some_of : (x : Option ℕ) (e : List ℕ) (n : ℕ) → ok_or x e ≡ Ok n → x ≡ Some n
some_of None e n is = absurd cc
some_of (Some m) e n is = let same : m ≡ n = cc in ap Some same

whole_back : (n : ℕ) → n < 2 ^ 64 → whole_number (whole n) ≡ Some n
whole_back n small = some_of (below (2 ^ 64) (without_leading_plus (decimal n))) (decimal n) n (parse-decimal 64 n (decimal n) _ small small refl (below_parses (decimal n)))

long_back : (n : ℕ) → nat_le n long_most ≡ true → whole_number (whole n) ≡ Some n
long_back n fit = let under = leb-true n long_most fit in whole_back n (omega arith)

byte_back : (n : ℕ) → nat_le n byte_most ≡ true → option_and_then (up_to byte_most) (whole_number (whole n)) ≡ Some n
byte_back n fit = let under = leb-true n byte_most fit in let less : n < 2 ^ 64 = omega arith in rw (whole_back n less, fit) refl

count_back : (jobs lines : ℕ) → nat_le jobs long_most ≡ true → nat_le lines long_most ≡ true → count_in (members_of ((codes "jobs", whole jobs) ∷ (codes "lines", whole lines) ∷ [])) ≡ Some (record { jobs = jobs; lines = lines })
count_back jobs lines first second = rw (long_back jobs first, long_back lines second) refl

rules_back : (rules : Option (List ℕ)) → option_and_then (or_none as_str) (only_or_none (text_or_null rules ∷ [])) ≡ Some rules
rules_back None = refl
rules_back (Some text) = refl

-- ---- a day
abbrev pub object_of : Day → (previous sum : List ℕ) → Pairs
object_of day previous sum = day_pairs day ++ (did_pairs day.did ++ digest_pairs previous (Some sum))

day_back : (number : ℕ) (at before after : List ℕ) (status : ℕ) (did : Did) (previous sum : List ℕ) → nat_le number long_most ≡ true → nat_le status byte_most ≡ true → did_fits did ≡ true
    → said_in (members_of (object_of (record { number = number; at = at; before = before; after = after; status = status; did = did }) previous sum))
    ≡ Some (record { day = record { number = number; at = at; before = before; after = after; status = status; did = did }; previous = previous; sum = Some sum })
day_back number at before after status (operates day) previous sum numbered ended fit =
    let counts = and_parts (count_fits day.one) (count_fits day.two) fit in
    let one = and_parts (nat_le day.one.jobs long_most) (nat_le day.one.lines long_most) counts.0 in
    let two = and_parts (nat_le day.two.jobs long_most) (nat_le day.two.lines long_most) counts.1 in
    rw (long_back number numbered, byte_back status ended, count_back day.one.jobs day.one.lines one.0 one.1, count_back day.two.jobs day.two.lines two.0 two.1, rules_back day.rules) refl
day_back number at before after status (runs deck1 deck2 script) previous sum numbered ended fit = rw (long_back number numbered, byte_back status ended) refl
day_back number at before after status (appends table file) previous sum numbered ended fit = rw (long_back number numbered, byte_back status ended) refl
day_back number at before after status loads previous sum numbered ended fit = rw (long_back number numbered, byte_back status ended) refl
day_back number at before after status sorts previous sum numbered ended fit = rw (long_back number numbered, byte_back status ended) refl
day_back number at before after status deletes previous sum numbered ended fit = rw (long_back number numbered, byte_back status ended) refl
day_back number at before after status copies previous sum numbered ended fit = rw (long_back number numbered, byte_back status ended) refl
day_back number at before after status amends previous sum numbered ended fit = rw (long_back number numbered, byte_back status ended) refl
day_back number at before after status restores previous sum numbered ended fit = rw (long_back number numbered, byte_back status ended) refl

-- ---- its numbers are such, and it is not deep
abbrev Fine : Json → Type 0
Fine j = HasDecimals j × (depth j ≤ 1)

abbrev AreFine : Pairs → Type 0
AreFine [] = ⊤
AreFine (p ∷ ps) = Fine p.1 × AreFine ps

text_fine : Fine (string [])
text_fine = (tt, omega arith)

whole_fine : (n : ℕ) → n < 2 ^ 64 → Fine (whole n)
whole_fine n small = ((n, small, refl), omega arith)

long_fine : (n : ℕ) → nat_le n long_most ≡ true → Fine (whole n)
long_fine n fit = let under = leb-true n long_most fit in whole_fine n (omega arith)

byte_fine : (n : ℕ) → nat_le n byte_most ≡ true → Fine (whole n)
byte_fine n fit = let under = leb-true n byte_most fit in whole_fine n (omega arith)

rules_fine : (rules : Option (List ℕ)) → Fine (text_or_null rules)
rules_fine None = (tt, omega arith)
rules_fine (Some text) = (tt, omega arith)

level_fine : (count : LevelCount) → count_fits count ≡ true → Fine (level_tree count)
level_fine count fit =
    let parts = and_parts (nat_le count.jobs long_most) (nat_le count.lines long_most) fit in
    (((long_fine count.jobs parts.0).0, ((long_fine count.lines parts.1).0, tt)), omega arith)

fine_append : (ps qs : Pairs) → AreFine ps → AreFine qs → AreFine (ps ++ qs)
fine_append [] qs a b = b
fine_append (p ∷ ps) qs a b = (a.0, fine_append ps qs a.1 b)

did_fine : (did : Did) → did_fits did ≡ true → AreFine (did_pairs did)
did_fine (operates day) fit =
    let counts = and_parts (count_fits day.one) (count_fits day.two) fit in
    (text_fine, (text_fine, (rules_fine day.rules, (text_fine, (level_fine day.one counts.0, (level_fine day.two counts.1, tt))))))
did_fine (runs deck1 deck2 script) fit = (text_fine, (text_fine, (text_fine, tt)))
did_fine (appends table file) fit = (text_fine, (text_fine, tt))
did_fine loads fit = tt
did_fine sorts fit = tt
did_fine deletes fit = tt
did_fine copies fit = tt
did_fine amends fit = tt
did_fine restores fit = tt

members_fine : (ps : Pairs) → AreFine ps → MembersHaveDecimals (members_of ps) × (members_depth (members_of ps) ≤ 1)
members_fine [] all = (tt, omega arith)
members_fine (p ∷ ps) all = let more = members_fine ps all.1 in ((all.0.0, more.0), omega (arith, all.0.1, more.1))

-- the parts of a day that fits
number_fits : (day : Day) → fits day ≡ true → nat_le day.number long_most ≡ true
number_fits day fit = (and_parts (nat_le day.number long_most) (nat_le day.status byte_most) (and_parts (nat_le day.number long_most && nat_le day.status byte_most) (did_fits day.did) fit).0).0

status_fits : (day : Day) → fits day ≡ true → nat_le day.status byte_most ≡ true
status_fits day fit = (and_parts (nat_le day.number long_most) (nat_le day.status byte_most) (and_parts (nat_le day.number long_most && nat_le day.status byte_most) (did_fits day.did) fit).0).1

work_fits : (day : Day) → fits day ≡ true → did_fits day.did ≡ true
work_fits day fit = (and_parts (nat_le day.number long_most && nat_le day.status byte_most) (did_fits day.did) fit).1

object_fine : (day : Day) (previous sum : List ℕ) → fits day ≡ true → AreFine (object_of day previous sum)
object_fine day previous sum fit =
    (long_fine day.number (number_fits day fit), (text_fine, (text_fine, (text_fine, (text_fine, (byte_fine day.status (status_fits day fit), fine_append (did_pairs day.did) (digest_pairs previous (Some sum)) (did_fine day.did (work_fits day fit)) (text_fine, (text_fine, tt))))))))

tree_fine : (day : Day) (previous sum : List ℕ) → fits day ≡ true → HasDecimals (tree_of day previous (Some sum)) × (depth (tree_of day previous (Some sum)) ≤ 2)
unfolding tree_of
tree_fine day previous sum fit =
    let more = members_fine (object_of day previous sum) (object_fine day previous sum fit) in
    (more.0, omega (arith, more.1))

-- ---- a line, and a journal
line_back : (day : Day) (previous sum : List ℕ) → fits day ≡ true → said_on (text_with day previous (Some sum)) ≡ Some (record { day = day; previous = previous; sum = Some sum })
unfolding said_on tree_of
line_back day previous sum fit =
    let fine = tree_fine day previous sum fit in
    ap (λ j. option_and_then said_in (option_and_then as_object j)) (document-print (tree_of day previous (Some sum)) (numbers_of_decimals (tree_of day previous (Some sum)) fine.0) (omega (arith, fine.1)))
    ∙ day_back day.number day.at day.before day.after day.status day.did previous sum (number_fits day fit) (status_fits day fit) (work_fits day fit)

-- the digest that a line has of itself
abbrev pub own_digest : Day → (previous : List ℕ) → List ℕ
own_digest day previous = digest_of (text_with day previous None)

lines_back : (day : Day) (previous rest begun : List ℕ) → fits day ≡ true
    → lines_ended ((line_of day previous ++ rest) ++ begun) ≡ text_of_line day previous ∷ lines_ended (rest ++ begun)
unfolding line_of
lines_back day previous rest begun fit =
    let text = text_of_line day previous in
    ap lines_ended (append_assoc (text ++ 10 ∷ []) rest begun ∙ append_assoc text (10 ∷ []) (rest ++ begun))
    ∙ lines_of_line text (rest ++ begun) (print_inside (tree_of day previous (Some (own_digest day previous))) (tree_fine day previous (own_digest day previous) fit).0)

chain_back : (day : Day) (before : List ℕ) → fits day ≡ true → chained before (said_on (text_of_line day (digest_of before))) ≡ Some day
chain_back day before fit =
    let own = own_digest day (digest_of before) in
    ap (chained before) (line_back day (digest_of before) own fit)
    ∙ rw ((bytes_eq-Decides (digest_of before) (digest_of before)).1 refl, (bytes_eq-Decides own own).1 refl) refl

more_days : (before line : List ℕ) (lines : List (List ℕ)) (day : Day) (days : List Day) → chained before (said_on line) ≡ Some day → days_from line lines ≡ Some days
    → days_from before (line ∷ lines) ≡ Some (day ∷ days)
unfolding days_from
more_days before line lines day days first rest = rw (first, rest) refl

no_days : (before : List ℕ) → days_from before [] ≡ Some []
unfolding days_from
no_days before = refl

days_back : (before : List ℕ) (days : List Day) (begun : List ℕ) → list_all fits days ≡ true → list_all (λ byte. not (is_line_end byte)) begun ≡ true
    → days_from before (lines_ended (text_after before days ++ begun)) ≡ Some days
days_back before [] begun all none = ap (days_from before) (lines_of_rest begun none) ∙ no_days before
days_back before (day ∷ days) begun all none =
    let parts = and_parts (fits day) (list_all fits days) all in
    let line = text_of_line day (digest_of before) in
    ap (days_from before) (lines_back day (digest_of before) (text_after line days) begun parts.0)
    ∙ more_days before line (lines_ended (text_after line days ++ begun)) day days (chain_back day before parts.0) (days_back line days begun parts.1 none)

pub reads_back : ReadsBack
reads_back days begun all none = days_back [] days begun all none
