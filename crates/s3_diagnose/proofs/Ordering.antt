-- Diagnostics are ordered by card, then by number.
use Rattle.std.proofs.Common.{◌≡◌, ℕ, ◌<◌, ◌≤◌, List, [], ◌∷◌, ◌++◌, Bool, true, false, cond, refl, sym, arith, subst, lt-ltb, lit<}
use Rattle.std.specs.Prelude.{IsTrue, ◌==◌, nat_lt, ◌&&◌, ◌||◌, map, filter}
use Rattle.std.specs.List.{AllByRecursion}
use Rattle.std.proofs.lemmas.Bool.{and_parts}
use Rattle.std.proofs.lemmas.Bool.Decides.{nat_tests}
use Rattle.s3_lines.specs.declared.diagnostic.Diagnostic.{Diagnostic}
use Rattle.s3_lines.specs.declared.sheet.Line.{Line}
use Rattle.s3_lines.specs.Inner.Ascending.{cards_ascend}
use Rattle.s3_program.specs.Conditions.{numbers}
use Rattle.s3_diagnose.specs.declared.standing.Standing.{Standing}
use Rattle.s3_diagnose.specs.Known.{meant_line, first_standing, behind}
use Rattle.s3_diagnose.specs.Lookups.{Known, known_of}
use Rattle.s3_diagnose.specs.Diagnostics.{line_holds, found_on, diagnostics_from, precedes, placed, has_one_primary, compile_diagnostics}
use Rattle.s3_diagnose.specs.Inner.Order.{AreInOrder}

-- ---- cards
abbrev CardsAscend : List Line → Type 0
CardsAscend [] = Unit {0}
CardsAscend (line ∷ lines) = AllByRecursion (λ (other : Line). line.card < other.card) lines × CardsAscend lines

all_above : (low from : ℕ) (lines : List Line) → low ≤ from → cards_ascend from lines ≡ true → AllByRecursion (λ (other : Line). low < other.card) lines
unfolding cards_ascend
all_above low from [] under ascend = tt
all_above low from (line ∷ lines) under ascend =
    let parts = and_parts (nat_lt from line.card) (cards_ascend line.card lines) ascend in
    let above : low < line.card = grind (arith, nat_tests, under, parts.0) in
    (above, all_above low line.card lines (omega (arith, above)) parts.1)

ascending : (from : ℕ) (lines : List Line) → cards_ascend from lines ≡ true → CardsAscend lines
unfolding cards_ascend
ascending from [] ascend = tt
ascending from (line ∷ lines) ascend =
    let parts = and_parts (nat_lt from line.card) (cards_ascend line.card lines) ascend in
    (all_above line.card line.card lines (omega arith) parts.1, ascending line.card lines parts.1)

-- ---- numbers
later_card : (a b c d : ℕ) → a < b → IsTrue (nat_lt a b || ((a == b) && nat_lt c d))
later_card a b c d h = rw (lt-ltb a b h) refl

later_number : (a c d : ℕ) → c < d → IsTrue (nat_lt a a || ((a == a) && nat_lt c d))
later_number a c d h = grind (arith, nat_tests)

through : (a b c d e f : ℕ) → IsTrue (nat_lt a b || ((a == b) && nat_lt d e)) → IsTrue (nat_lt b c || ((b == c) && nat_lt e f)) → IsTrue (nat_lt a c || ((a == c) && nat_lt d f))
through a b c d e f one two = grind (arith, nat_tests)

precedes_through : (a b c : Diagnostic) → IsTrue (precedes a b) → IsTrue (precedes b c) → IsTrue (precedes a c)
precedes_through a b c one two = through a.card b.card c.card a.number b.number c.number one two

-- ---- one line
abbrev NumbersAscend : List ℕ → Type 0
NumbersAscend [] = Unit {0}
NumbersAscend (n ∷ ns) = AllByRecursion (λ m. n < m) ns × NumbersAscend ns

abbrev on_card : ℕ → ℕ → Diagnostic
on_card card number = record { card = card; number = number }

abbrev After : Diagnostic → List Diagnostic → Type 0
After diagnostic found = AllByRecursion (λ other. IsTrue (precedes diagnostic other)) found

after_kept : (b : Bool) (a : Diagnostic) (x : Diagnostic) (xs : List Diagnostic) → IsTrue (precedes a x) → After a xs → After a (cond b (x ∷ xs) xs)
after_kept true a x xs one all = (one, all)
after_kept false a x xs one all = all

mapped_kept : (b : Bool) (card n : ℕ) (ns : List ℕ) → map (on_card card) (cond b (n ∷ ns) ns) ≡ cond b (on_card card n ∷ map (on_card card) ns) (map (on_card card) ns)
mapped_kept true card n ns = refl
mapped_kept false card n ns = refl

numbers_after : (card n : ℕ) (p : ℕ → Bool) (ns : List ℕ) → AllByRecursion (λ m. n < m) ns → After (on_card card n) (map (on_card card) (filter p ns))
numbers_after card n p [] all = tt
numbers_after card n p (m ∷ ns) all =
    subst (After (on_card card n)) (sym (mapped_kept (p m) card m (filter p ns)))
    (after_kept (p m) (on_card card n) (on_card card m) (map (on_card card) (filter p ns)) (later_number card n m all.0) (numbers_after card n p ns all.1))

order_kept : (b : Bool) (x : Diagnostic) (xs : List Diagnostic) → After x xs → AreInOrder xs → AreInOrder (cond b (x ∷ xs) xs)
order_kept true x xs after order = (after, order)
order_kept false x xs after order = order

line_in_order : (card : ℕ) (p : ℕ → Bool) (ns : List ℕ) → NumbersAscend ns → AreInOrder (map (on_card card) (filter p ns))
line_in_order card p [] ascend = tt
line_in_order card p (n ∷ ns) ascend =
    subst AreInOrder (sym (mapped_kept (p n) card n (filter p ns)))
    (order_kept (p n) (on_card card n) (map (on_card card) (filter p ns)) (numbers_after card n p ns ascend.0) (line_in_order card p ns ascend.1))

-- ---- all lines
abbrev OnCard : ℕ → List Diagnostic → Type 0
OnCard card found = AllByRecursion (λ (d : Diagnostic). d.card ≡ card) found

abbrev Behind : ℕ → List Diagnostic → Type 0
Behind card found = AllByRecursion (λ (d : Diagnostic). card < d.card) found

all_kept : (P : Diagnostic → Type 0) (b : Bool) (x : Diagnostic) (xs : List Diagnostic) → P x → AllByRecursion P xs → AllByRecursion P (cond b (x ∷ xs) xs)
all_kept P true x xs one all = (one, all)
all_kept P false x xs one all = all

on_one_card : (P : Diagnostic → Type 0) (card : ℕ) (p : ℕ → Bool) (ns : List ℕ) → ((n : ℕ) → P (on_card card n)) → AllByRecursion P (map (on_card card) (filter p ns))
on_one_card P card p [] each = tt
on_one_card P card p (n ∷ ns) each =
    subst (AllByRecursion P) (sym (mapped_kept (p n) card n (filter p ns)))
    (all_kept P (p n) (on_card card n) (map (on_card card) (filter p ns)) (each n) (on_one_card P card p ns each))

all-append : (P : Diagnostic → Type 0) (xs ys : List Diagnostic) → AllByRecursion P xs → AllByRecursion P ys → AllByRecursion P (xs ++ ys)
all-append P [] ys one two = two
all-append P (x ∷ xs) ys one two = (one.0, all-append P xs ys one.1 two)

behind_all : (known : Known) (card : ℕ) (at : Standing) (lines : List Line) → AllByRecursion (λ (other : Line). card < other.card) lines
    → Behind card (diagnostics_from known at lines)
behind_all known card at [] all = tt
behind_all known card at (line ∷ lines) all =
    all-append (λ (d : Diagnostic). card < d.card) (found_on known at lines line.card (meant_line known.meanings line.sheet) numbers)
    (diagnostics_from known (behind at (meant_line known.meanings line.sheet)) lines)
    (on_one_card (λ (d : Diagnostic). card < d.card) line.card (line_holds known at lines (meant_line known.meanings line.sheet)) numbers (λ n. all.0))
    (behind_all known card (behind at (meant_line known.meanings line.sheet)) lines all.1)

after_behind : (d : Diagnostic) (card : ℕ) (found : List Diagnostic) → d.card ≡ card → Behind card found → After d found
after_behind d card [] same behind = tt
after_behind d card (x ∷ xs) same behind = (later_card d.card x.card d.number x.number (let h = behind.0 in omega (arith, same, h)), after_behind d card xs same behind.1)

order-append : (card : ℕ) (xs ys : List Diagnostic) → OnCard card xs → Behind card ys → AreInOrder xs → AreInOrder ys → AreInOrder (xs ++ ys)
order-append card [] ys on behind one two = two
order-append card (x ∷ xs) ys on behind one two =
    (all-append (λ other. IsTrue (precedes x other)) xs ys one.0 (after_behind x card ys on.0 behind), order-append card xs ys on.1 behind one.1 two)

numbers_ascend : NumbersAscend numbers
numbers_ascend =
    ((lit< tt, (lit< tt, (lit< tt, (lit< tt, (lit< tt, (lit< tt, (lit< tt, tt))))))), ((lit< tt, (lit< tt, (lit< tt, (lit< tt, (lit< tt, (lit< tt, tt)))))), ((lit< tt, (lit< tt, (lit< tt, (lit< tt, (lit< tt, tt))))), ((lit< tt, (lit< tt, (lit< tt, (lit< tt, tt)))), ((lit< tt, (lit< tt, (lit< tt, tt))), ((lit< tt, (lit< tt, tt)), ((lit< tt, tt), (tt, tt))))))))

lines_in_order : (known : Known) (at : Standing) (lines : List Line) → CardsAscend lines → AreInOrder (diagnostics_from known at lines)
lines_in_order known at [] cards = tt
lines_in_order known at (line ∷ lines) cards =
    let holds : ℕ → Bool = line_holds known at lines (meant_line known.meanings line.sheet) in
    order-append line.card (found_on known at lines line.card (meant_line known.meanings line.sheet) numbers)
    (diagnostics_from known (behind at (meant_line known.meanings line.sheet)) lines)
    (on_one_card (λ (d : Diagnostic). d.card ≡ line.card) line.card holds numbers (λ n. refl))
    (behind_all known line.card (behind at (meant_line known.meanings line.sheet)) lines cards.0)
    (line_in_order line.card holds numbers numbers_ascend)
    (lines_in_order known (behind at (meant_line known.meanings line.sheet)) lines cards.1)

-- ---- a diagnostic is inserted at its place
all_filtered : (P : Diagnostic → Type 0) (p : Diagnostic → Bool) (xs : List Diagnostic) → AllByRecursion P xs → AllByRecursion P (filter p xs)
all_filtered P p [] all = tt
all_filtered P p (x ∷ xs) all = all_kept P (p x) x (filter p xs) all.0 (all_filtered P p xs all.1)

order_filtered : (p : Diagnostic → Bool) (xs : List Diagnostic) → AreInOrder xs → AreInOrder (filter p xs)
order_filtered p [] order = tt
order_filtered p (x ∷ xs) order =
    order_kept (p x) x (filter p xs) (all_filtered (λ other. IsTrue (precedes x other)) p xs order.0) (order_filtered p xs order.1)

passing_kept : (p : Diagnostic → Bool) (b : Bool) (x : Diagnostic) (xs : List Diagnostic) → p x ≡ b → AllByRecursion (λ d. IsTrue (p d)) xs → AllByRecursion (λ d. IsTrue (p d)) (cond b (x ∷ xs) xs)
passing_kept p true x xs good all = (good, all)
passing_kept p false x xs bad all = all

all_pass : (p : Diagnostic → Bool) (xs : List Diagnostic) → AllByRecursion (λ d. IsTrue (p d)) (filter p xs)
all_pass p [] = tt
all_pass p (x ∷ xs) = passing_kept p (p x) x (filter p xs) refl (all_pass p xs)

after_through : (a b : Diagnostic) (xs : List Diagnostic) → IsTrue (precedes a b) → After b xs → After a xs
after_through a b [] one all = tt
after_through a b (x ∷ xs) one all = (precedes_through a b x one all.0, after_through a b xs one all.1)

order_through : (xs : List Diagnostic) (d : Diagnostic) (ys : List Diagnostic) → AreInOrder xs → AllByRecursion (λ x. IsTrue (precedes x d)) xs → After d ys → AreInOrder ys
    → AreInOrder (xs ++ d ∷ ys)
order_through [] d ys order before after later = (after, later)
order_through (x ∷ xs) d ys order before after later =
    (all-append (λ other. IsTrue (precedes x other)) xs (d ∷ ys) order.0 (before.0, after_through x d ys before.0 after), order_through xs d ys order.1 before.1 after later)

placed_in_order : (found : List Diagnostic) (d : Diagnostic) → AreInOrder found → AreInOrder (placed found d)
placed_in_order found d order =
    order_through (filter (λ other. precedes other d) found) d (filter (λ other. precedes d other) found) (order_filtered (λ other. precedes other d) found order)
    (all_pass (λ other. precedes other d) found) (all_pass (λ other. precedes d other) found) (order_filtered (λ other. precedes d other) found order)

-- ---- the whole
chosen : (b : Bool) (found others : List Diagnostic) → AreInOrder found → AreInOrder others → AreInOrder (cond b found others)
chosen true found others one two = one
chosen false found others one two = two

pub in_order : (run_card from : ℕ) (lines : List Line) → cards_ascend from lines ≡ true → AreInOrder (compile_diagnostics run_card lines)
unfolding compile_diagnostics
in_order run_card from lines ascend =
    let cards : CardsAscend lines = ascending from lines ascend in
    let found : List Diagnostic = diagnostics_from (known_of lines) first_standing lines in
    let order : AreInOrder found = lines_in_order (known_of lines) first_standing lines cards in
    chosen (has_one_primary lines) found (placed found (on_card run_card 12)) order (placed_in_order found (on_card run_card 12) order)
