-- Entries in key order.
use Rattle.std.proofs.Common.{◌≡◌, ◌≢◌, ℕ, zero, suc, ◌+◌, ◌-◌, ◌<◌, ◌≤◌, ◌⊎◌, inl, inr, Bool, true, false, nat_lt, if◌then◌else◌, List, [], ◌∷◌, ◌++◌, length, slice_get, Some, refl, sym, ap, subst, ◌∙◌, arith}
use Rattle.std.proofs.lemmas.Bool.{ltb-true, ltb-false}
use Rattle.s3_keyed.specs.KeyOrder.{Entry, insert_entry, insert_entries, entries_from, key_order}

-- a good index, pointwise: the keys ascend, the numbers are 1 to the count of records once each, and each key is that of its record
pub record IsGoodIndex (entries : List Entry) (keys : List ℕ) : Type 0 where
  pub count : length entries ≡ length keys
  pub ascending : (i j : ℕ) (d e : Entry) → i < j → slice_get entries i ≡ Some d → slice_get entries j ≡ Some e → d.key < e.key
  pub in_range : (i : ℕ) (e : Entry) → slice_get entries i ≡ Some e → (1 ≤ e.number) × (e.number ≤ length keys)
  pub keyed : (i : ℕ) (e : Entry) → slice_get entries i ≡ Some e → slice_get keys (e.number - 1) ≡ Some e.key

-- every key is above, or at most, this one
unfoldable pub Above : ℕ → List Entry → Type 0
Above k [] = Unit {0}
Above k (e ∷ es) = (k < e.key) × Above k es

unfoldable pub AtLeast : ℕ → List Entry → Type 0
AtLeast k [] = Unit {0}
AtLeast k (e ∷ es) = (k ≤ e.key) × AtLeast k es

-- the keys ascend and are distinct; the keys don't descend
unfoldable pub Ascends : List Entry → Type 0
Ascends [] = Unit {0}
Ascends (e ∷ es) = Above e.key es × Ascends es

unfoldable pub Rises : List Entry → Type 0
Rises [] = Unit {0}
Rises (e ∷ es) = AtLeast e.key es × Rises es

unfoldable pub In : Entry → List Entry → Type 0
In e [] = ⊥
In e (f ∷ fs) = (e ≡ f) ⊎ In e fs

pub by_lt : (a b : ℕ) (Q : Bool → Type 0) → (a < b → Q true) → (b ≤ a → Q false) → Q (nat_lt a b)
by_lt a b Q lower not_lower = (elim (nat_lt a b) as (λ x. nat_lt a b ≡ x → Q x) [ true ↦ λ t. lower (ltb-true a b t) | false ↦ λ t. not_lower (ltb-false a b t) ]) refl

pub below : (a b : ℕ) → a < b → nat_lt a b ≡ true
below a b h = by_lt a b (λ x. x ≡ true) (λ lt. refl) (λ le. absurd (omega arith))

pub at_most : (a b : ℕ) → b ≤ a → nat_lt a b ≡ false
at_most a b h = by_lt a b (λ x. x ≡ false) (λ lt. absurd (omega arith)) (λ le. refl)

AtLeast-weaker : (k m : ℕ) (es : List Entry) → k ≤ m → AtLeast m es → AtLeast k es
unfolding AtLeast
AtLeast-weaker k m [] le h = tt
AtLeast-weaker k m (e ∷ es) le h = (omega (arith, h.0), AtLeast-weaker k m es le h.1)

pub Above-In : (k : ℕ) (es : List Entry) (e : Entry) → Above k es → In e es → k < e.key
unfolding Above In
Above-In k [] e above on = absurd on
Above-In k (f ∷ fs) e above on = elim on [ inl same ↦ subst (λ g. k < g.key) (sym same) above.0 | inr later ↦ Above-In k fs e above.1 later ]

AtLeast-In : (k : ℕ) (es : List Entry) (e : Entry) → AtLeast k es → In e es → k ≤ e.key
unfolding AtLeast In
AtLeast-In k [] e h on = absurd on
AtLeast-In k (f ∷ fs) e h on = elim on [ inl same ↦ subst (λ g. k ≤ g.key) (sym same) h.0 | inr later ↦ AtLeast-In k fs e h.1 later ]

-- ---- an entry is inserted

AtLeast-insert : (k : ℕ) (e : Entry) (es : List Entry) → k ≤ e.key → AtLeast k es → AtLeast k (insert_entry e es)
unfolding AtLeast
AtLeast-insert k e [] low h = (low, tt)
AtLeast-insert k e (f ∷ es) low h = by_lt e.key f.key (λ x. AtLeast k (if x then e ∷ (f ∷ es) else f ∷ insert_entry e es)) (λ lt. (low, h)) (λ le. (h.0, AtLeast-insert k e es low h.1))

Rises-insert : (e : Entry) (es : List Entry) → Rises es → Rises (insert_entry e es)
unfolding Rises AtLeast
Rises-insert e [] h = (tt, tt)
Rises-insert e (f ∷ es) h = by_lt e.key f.key (λ x. Rises (if x then e ∷ (f ∷ es) else f ∷ insert_entry e es))
    (λ lt. ((omega arith, AtLeast-weaker e.key f.key es (omega arith) h.0), h))
    (λ le. (AtLeast-insert f.key e es le h.0, Rises-insert e es h.1))

pub In-insert : (x e : Entry) (es : List Entry) → In x es → In x (insert_entry e es)
unfolding In
In-insert x e [] on = absurd on
In-insert x e (f ∷ es) on = by_lt e.key f.key (λ t. In x (if t then e ∷ (f ∷ es) else f ∷ insert_entry e es))
    (λ lt. inr on)
    (λ le. elim on [ inl same ↦ inl same | inr later ↦ inr (In-insert x e es later) ])

pub In-inserted : (e : Entry) (es : List Entry) → In e (insert_entry e es)
unfolding In
In-inserted e [] = inl refl
In-inserted e (f ∷ es) = by_lt e.key f.key (λ t. In e (if t then e ∷ (f ∷ es) else f ∷ insert_entry e es)) (λ lt. inl refl) (λ le. inr (In-inserted e es))

pub In-insert_cases : (x e : Entry) (es : List Entry) → In x (insert_entry e es) → (x ≡ e) ⊎ In x es
unfolding In
In-insert_cases x e [] on = elim on [ inl same ↦ inl same | inr none ↦ absurd none ]
In-insert_cases x e (f ∷ es) on = by_lt e.key f.key (λ t. In x (if t then e ∷ (f ∷ es) else f ∷ insert_entry e es) → (x ≡ e) ⊎ In x (f ∷ es))
    (λ lt now. now)
    (λ le now. elim now [ inl same ↦ inr (inl same) | inr later ↦ elim (In-insert_cases x e es later) [ inl here ↦ inl here | inr old ↦ inr (inr old) ] ]) on

pub length-insert_entry : (e : Entry) (es : List Entry) → length (insert_entry e es) ≡ suc (length es)
length-insert_entry e [] = refl
length-insert_entry e (f ∷ es) = by_lt e.key f.key (λ x. length (if x then e ∷ (f ∷ es) else f ∷ insert_entry e es) ≡ suc (length (f ∷ es))) (λ lt. refl) (λ le. ap suc (length-insert_entry e es))

-- ---- entries are inserted

Rises-inserts : (es fs : List Entry) → Rises es → Rises (insert_entries es fs)
Rises-inserts es [] h = h
Rises-inserts es (f ∷ fs) h = Rises-inserts (insert_entry f es) fs (Rises-insert f es h)

pub In-inserts_left : (x : Entry) (es fs : List Entry) → In x es → In x (insert_entries es fs)
In-inserts_left x es [] on = on
In-inserts_left x es (f ∷ fs) on = In-inserts_left x (insert_entry f es) fs (In-insert x f es on)

pub In-inserts_right : (x : Entry) (es fs : List Entry) → In x fs → In x (insert_entries es fs)
unfolding In
In-inserts_right x es [] on = absurd on
In-inserts_right x es (f ∷ fs) on = elim on [
  | inl same ↦ In-inserts_left x (insert_entry f es) fs (subst (λ g. In x (insert_entry g es)) same (In-inserted x es))
  | inr later ↦ In-inserts_right x (insert_entry f es) fs later
]

pub In-inserts_cases : (x : Entry) (es fs : List Entry) → In x (insert_entries es fs) → In x es ⊎ In x fs
unfolding In
In-inserts_cases x es [] on = inl on
In-inserts_cases x es (f ∷ fs) on = elim (In-inserts_cases x (insert_entry f es) fs on) [
  | inl early ↦ elim (In-insert_cases x f es early) [ inl same ↦ inr (inl same) | inr old ↦ inl old ]
  | inr later ↦ inr (inr later)
]

pub length-inserts : (es fs : List Entry) → length (insert_entries es fs) ≡ length es + length fs
length-inserts es [] = omega arith
length-inserts es (f ∷ fs) = omega (arith, length-inserts (insert_entry f es) fs, length-insert_entry f es)

-- ---- the key order

length-entries : (n : ℕ) (keys : List ℕ) → length (entries_from n keys) ≡ length keys
length-entries n [] = refl
length-entries n (k ∷ keys) = ap suc (length-entries (n + 1) keys)

abbrev entry : ℕ → ℕ → Entry
entry k n = record { key = k; number = n }

In-entries : (n : ℕ) (keys : List ℕ) (i k : ℕ) → slice_get keys i ≡ Some k → In (record { key = k; number = n + i }) (entries_from n keys)
unfolding In
In-entries n [] i k h = absurd cc
In-entries n (x ∷ keys) zero k h = let same : k ≡ x = cc in let at : n + 0 ≡ n = omega arith in let e : entry k (n + 0) ≡ entry x n = cc in inl e
In-entries n (x ∷ keys) (suc i) k h = let at : n + 1 + i ≡ n + suc i = omega arith in inr (subst (λ m. In (entry k m) (entries_from (n + 1) keys)) at (In-entries (n + 1) keys i k h))

In-entries_back : (n : ℕ) (keys : List ℕ) (e : Entry) → In e (entries_from n keys) → (n ≤ e.number) × (slice_get keys (e.number - n) ≡ Some e.key)
unfolding In
In-entries_back n [] e on = absurd on
In-entries_back n (x ∷ keys) e on = elim on [
  | inl same ↦ let number : e.number ≡ n = ap (λ f. f.number) same in let key : e.key ≡ x = ap (λ f. f.key) same in let at : e.number - n ≡ 0 = omega arith in (omega arith, rw (at, key) refl)
  | inr later ↦ let rest = In-entries_back (n + 1) keys e later in let le = rest.0 in let at : e.number - n ≡ suc (e.number - (n + 1)) = omega arith in (omega arith, rw at rest.1)
]

pub In-key_order : (keys : List ℕ) (i k : ℕ) → slice_get keys i ≡ Some k → In (record { key = k; number = i + 1 }) (key_order keys)
unfolding key_order
In-key_order keys i k h = let at : 1 + i ≡ i + 1 = omega arith in In-inserts_right (record { key = k; number = i + 1 }) [] (entries_from 1 keys) (subst (λ n. In (record { key = k; number = n }) (entries_from 1 keys)) at (In-entries 1 keys i k h))

pub In-key_order_back : (keys : List ℕ) (e : Entry) → In e (key_order keys) → (1 ≤ e.number) × (slice_get keys (e.number - 1) ≡ Some e.key)
unfolding In key_order
In-key_order_back keys e on = elim (In-inserts_cases e [] (entries_from 1 keys) on) [ inl none ↦ absurd none | inr later ↦ In-entries_back 1 keys e later ]

pub length-key_order : (keys : List ℕ) → length (key_order keys) ≡ length keys
unfolding key_order
length-key_order keys = length-inserts [] (entries_from 1 keys) ∙ (let l = length-entries 1 keys in omega arith)

-- ---- one ascending list among another

fits : (ys xs : List Entry) → Ascends xs → Rises ys → ((z : Entry) → In z xs → In z ys) → length xs ≤ length ys
unfolding Ascends Rises In
fits ys [] up rise sub = omega arith
fits [] (x ∷ xs) up rise sub = absurd (sub x (inl refl))
fits (y ∷ ys) (x ∷ xs) up rise sub = elim (sub x (inl refl)) [
  | inl same ↦
      let tail = fits ys xs up.1 rise.1 (λ z on. elim (sub z (inr on)) [
        | inl head ↦ let above = Above-In x.key xs z up.0 on in let e1 : z.key ≡ y.key = ap (λ f. f.key) head in let e2 : x.key ≡ y.key = ap (λ f. f.key) same in absurd (omega arith)
        | inr later ↦ later
      ]) in omega arith
  | inr later ↦
      let all = fits ys (x ∷ xs) up rise.1 (λ z on. elim on [
        | inl here ↦ subst (λ f. In f ys) (sym here) later
        | inr deep ↦ elim (sub z (inr deep)) [
          | inl head ↦ let above = Above-In x.key xs z up.0 deep in let low = AtLeast-In y.key ys x rise.0 later in let e1 : z.key ≡ y.key = ap (λ f. f.key) head in absurd (omega arith)
          | inr there ↦ there
        ]
      ]) in omega arith
]

same_entries : (ys xs : List Entry) → Ascends xs → Rises ys → ((z : Entry) → In z xs → In z ys) → length ys ≤ length xs → xs ≡ ys
unfolding Ascends Rises In
same_entries [] [] up rise sub long = refl
same_entries (y ∷ ys) [] up rise sub long = absurd (omega arith)
same_entries [] (x ∷ xs) up rise sub long = absurd (sub x (inl refl))
same_entries (y ∷ ys) (x ∷ xs) up rise sub long = elim (sub x (inl refl)) [
  | inl same ↦
      let tail = same_entries ys xs up.1 rise.1 (λ z on. elim (sub z (inr on)) [
        | inl head ↦ let above = Above-In x.key xs z up.0 on in let e1 : z.key ≡ y.key = ap (λ f. f.key) head in let e2 : x.key ≡ y.key = ap (λ f. f.key) same in absurd (omega arith)
        | inr later ↦ later
      ]) (omega arith) in cc
  | inr later ↦
      let all = fits ys (x ∷ xs) up rise.1 (λ z on. elim on [
        | inl here ↦ subst (λ f. In f ys) (sym here) later
        | inr deep ↦ elim (sub z (inr deep)) [
          | inl head ↦ let above = Above-In x.key xs z up.0 deep in let low = AtLeast-In y.key ys x rise.0 later in let e1 : z.key ≡ y.key = ap (λ f. f.key) head in absurd (omega arith)
          | inr there ↦ there
        ]
      ]) in absurd (omega arith)
]

-- ---- a good index is the key order

pub Above-from_get : (k : ℕ) (es : List Entry) → ((i : ℕ) (e : Entry) → slice_get es i ≡ Some e → k < e.key) → Above k es
unfolding Above
Above-from_get k [] h = tt
Above-from_get k (e ∷ es) h = (h zero e refl, Above-from_get k es (λ i f g. h (suc i) f g))

pub Ascends-from_get : (es : List Entry) → ((i j : ℕ) (d e : Entry) → i < j → slice_get es i ≡ Some d → slice_get es j ≡ Some e → d.key < e.key) → Ascends es
unfolding Ascends
Ascends-from_get [] h = tt
Ascends-from_get (e ∷ es) h = (Above-from_get e.key es (λ i f g. h zero (suc i) e f (omega arith) refl g), Ascends-from_get es (λ i j d f lt g1 g2. h (suc i) (suc j) d f (omega arith) g1 g2))

pub get_from_In : (es : List Entry) (e : Entry) → In e es → (i : ℕ) × (slice_get es i ≡ Some e)
unfolding In
get_from_In [] e on = absurd on
get_from_In (f ∷ fs) e on = elim on [ inl same ↦ (zero, ap Some (sym same)) | inr later ↦ let r = get_from_In fs e later in (suc r.0, r.1) ]

pub In-from_get : (es : List Entry) (i : ℕ) (e : Entry) → slice_get es i ≡ Some e → In e es
unfolding In
In-from_get [] i e h = absurd cc
In-from_get (f ∷ fs) zero e h = let same : f ≡ e = cc in inl (sym same)
In-from_get (f ∷ fs) (suc i) e h = inr (In-from_get fs i e h)

nil_rises : Rises []
unfolding Rises
nil_rises = tt

pub good_is_order : (entries : List Entry) (keys : List ℕ) → IsGoodIndex entries keys → entries ≡ key_order keys
unfolding key_order
good_is_order entries keys good = same_entries (key_order keys) entries (Ascends-from_get entries good.ascending) (Rises-inserts [] (entries_from 1 keys) nil_rises)
    (λ z on. let at = get_from_In entries z on in
    let keyed = good.keyed at.0 z at.1 in
    let low = (good.in_range at.0 z at.1).0 in
    let number : z.number - 1 + 1 ≡ z.number = omega arith in
    subst (λ n. In (record { key = z.key; number = n }) (key_order keys)) number (In-key_order keys (z.number - 1) z.key keyed))
    (let l = length-key_order keys in let n = good.count in omega arith)

-- ---- entries in key order put among others in key order

insert-comm : (e f : Entry) (es : List Entry) → e.key ≢ f.key → insert_entry e (insert_entry f es) ≡ insert_entry f (insert_entry e es)
insert-comm e f [] apart = by_lt e.key f.key (λ x. (if x then e ∷ (f ∷ []) else f ∷ (e ∷ [])) ≡ insert_entry f (e ∷ []))
    (λ lt. let n = at_most f.key e.key (omega arith) in rw n refl)
    (λ le. let l = below f.key e.key (omega arith) in rw l refl)
insert-comm e f (g ∷ es) apart = by_lt f.key g.key (λ x. insert_entry e (if x then f ∷ (g ∷ es) else g ∷ insert_entry f es) ≡ insert_entry f (insert_entry e (g ∷ es)))
    (λ fg. by_lt e.key g.key (λ x. insert_entry e (f ∷ (g ∷ es)) ≡ insert_entry f (if x then e ∷ (g ∷ es) else g ∷ insert_entry e es))
    (λ eg. let b1 = below f.key g.key fg in let b2 = below e.key g.key eg in by_lt e.key f.key (λ x. (if x then e ∷ (f ∷ (g ∷ es)) else f ∷ insert_entry e (g ∷ es)) ≡ insert_entry f (e ∷ (g ∷ es)))
    (λ ef. let n = at_most f.key e.key (omega arith) in rw (n, b1) refl)
    (λ fe. let l = below f.key e.key (omega arith) in rw (l, b2) refl))
    (λ ge. let n1 = at_most e.key f.key (omega arith) in let n2 = at_most e.key g.key ge in let b = below f.key g.key fg in rw (n1, n2, b) refl))
    (λ gf. by_lt e.key g.key (λ x. insert_entry e (g ∷ insert_entry f es) ≡ insert_entry f (if x then e ∷ (g ∷ es) else g ∷ insert_entry e es))
    (λ eg. let b = below e.key g.key eg in let n1 = at_most f.key e.key (omega arith) in let n2 = at_most f.key g.key gf in rw (b, n1, n2) refl)
    (λ ge. let n1 = at_most e.key g.key ge in let n2 = at_most f.key g.key gf in rw (n1, n2) (ap (λ l. g ∷ l) (insert-comm e f es apart))))

-- no entry has the key
unfoldable pub Lacks : ℕ → List Entry → Type 0
Lacks k [] = Unit {0}
Lacks k (e ∷ es) = (k ≢ e.key) × Lacks k es

inserts-insert : (e : Entry) (es fs : List Entry) → Lacks e.key fs → insert_entries (insert_entry e es) fs ≡ insert_entry e (insert_entries es fs)
unfolding Lacks
inserts-insert e es [] apart = refl
inserts-insert e es (f ∷ fs) apart = ap (λ l. insert_entries l fs) (insert-comm f e es (λ same. apart.0 (sym same))) ∙ inserts-insert e (insert_entry f es) fs apart.1

-- an added entry: it is put into its place among the added ones, and so into its place among all
pub inserts-added : (e : Entry) (es fs : List Entry) → Lacks e.key fs → insert_entries es (insert_entry e fs) ≡ insert_entry e (insert_entries es fs)
unfolding Lacks
inserts-added e es [] apart = refl
inserts-added e es (f ∷ fs) apart = by_lt e.key f.key (λ x. insert_entries es (if x then e ∷ (f ∷ fs) else f ∷ insert_entry e fs) ≡ insert_entry e (insert_entries es (f ∷ fs)))
    (λ lt. inserts-insert e es (f ∷ fs) apart)
    (λ le. inserts-added e (insert_entry f es) fs apart.1)

-- ---- the merge, from the highest entry down

unfoldable pub Below : ℕ → List Entry → Type 0
Below k [] = Unit {0}
Below k (e ∷ es) = (e.key < k) × Below k es

insert-highest : (x : Entry) (es : List Entry) (e : Entry) → e.key < x.key → insert_entry e (es ++ x ∷ []) ≡ insert_entry e es ++ x ∷ []
insert-highest x [] e lt = let b = below e.key x.key lt in rw b refl
insert-highest x (f ∷ es) e lt = by_lt e.key f.key (λ t. (if t then e ∷ (f ∷ (es ++ x ∷ [])) else f ∷ insert_entry e (es ++ x ∷ [])) ≡ (if t then e ∷ (f ∷ es) else f ∷ insert_entry e es) ++ x ∷ []) (λ yes. refl) (λ not_below. ap (λ l. f ∷ l) (insert-highest x es e lt))

-- the highest entry is one of the index
pub merge-index : (es : List Entry) (x : Entry) (fs : List Entry) → Below x.key fs → insert_entries (es ++ x ∷ []) fs ≡ insert_entries es fs ++ x ∷ []
unfolding Below
merge-index es x [] h = refl
merge-index es x (f ∷ fs) h = ap (λ l. insert_entries l fs) (insert-highest x es f h.0) ∙ merge-index (insert_entry f es) x fs h.1

pub insert-last : (y : Entry) (es : List Entry) → ((z : Entry) → In z es → z.key ≤ y.key) → insert_entry y es ≡ es ++ y ∷ []
unfolding In
insert-last y [] h = refl
insert-last y (e ∷ es) h = let n = at_most y.key e.key (h e (inl refl)) in rw n (ap (λ l. e ∷ l) (insert-last y es (λ z on. h z (inr on))))

inserts-append : (es fs : List Entry) (y : Entry) → insert_entries es (fs ++ y ∷ []) ≡ insert_entry y (insert_entries es fs)
inserts-append es [] y = refl
inserts-append es (f ∷ fs) y = inserts-append (insert_entry f es) fs y

-- the highest entry is an added one
pub merge-added : (es fs : List Entry) (y : Entry) → ((z : Entry) → In z es → z.key ≤ y.key) → ((z : Entry) → In z fs → z.key ≤ y.key) → insert_entries es (fs ++ y ∷ []) ≡ insert_entries es fs ++ y ∷ []
merge-added es fs y high higher = inserts-append es fs y ∙ insert-last y (insert_entries es fs) (λ z on. elim (In-inserts_cases z es fs on) [ inl early ↦ high z early | inr later ↦ higher z later ])

-- a record is appended
entries-append : (n : ℕ) (keys : List ℕ) (k : ℕ) → entries_from n (keys ++ k ∷ []) ≡ entries_from n keys ++ record { key = k; number = n + length keys } ∷ []
entries-append n [] k = let at : n + 0 ≡ n = omega arith in rw at refl
entries-append n (x ∷ keys) k = let at : n + suc (length keys) ≡ n + 1 + length keys = omega arith in rw at (ap (λ l. record { key = x; number = n } ∷ l) (entries-append (n + 1) keys k))

pub key_order-append : (keys : List ℕ) (k : ℕ) → key_order (keys ++ k ∷ []) ≡ insert_entry (record { key = k; number = 1 + length keys }) (key_order keys)
unfolding key_order
key_order-append keys k = ap (λ l. insert_entries [] l) (entries-append 1 keys k) ∙ inserts-append [] (entries_from 1 keys) (record { key = k; number = 1 + length keys })
