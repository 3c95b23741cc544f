-- One step of the merge, in the form of the code.
use Rattle.std.proofs.Common.{◌≡◌, ◌≢◌, ℕ, zero, suc, ◌+◌, ◌-◌, ◌<◌, ◌≤◌, ◌⊎◌, inl, inr, true, List, [], ◌∷◌, ◌++◌, length, take, map, slice_get, Option, Some, None, MatchOption, Fits, w32, refl, sym, ap, subst, ◌∙◌, arith}
use Rattle.std.specs.List.{range_with_len, All}
use Rattle.std.proofs.lemmas.Option.{slice_get_within}
use Rattle.s3_slots.specs.Slots.{record_sectors}
use Rattle.s3_keyed.specs.declared.indexed.IndexEntry.{IndexEntry}
use Rattle.s3_keyed.specs.declared.indexed.IndexedFile.{IndexedFile}
use Rattle.s3_keyed.specs.KeyOrder.{number_of, Entry, ascends, keys_in}
use Rattle.s3_keyed.specs.Inner.KeyOrder.{IsAscending}
use Rattle.s3_keyed.specs.Inner.Shape.{entry_of}
use Rattle.s3_keyed.proofs.Order.{get_from_In, Above, Ascends, Below}
use Rattle.s3_keyed.proofs.Goodness.{to_ascends, from_ascends, ascends_get}
use Rattle.s3_keyed.proofs.Checked.{listed}
use Rattle.s3_keyed.proofs.Places.{entries_below}
use Rattle.s3_keyed.proofs.Merging.{IsMerging, merge-moved, merge-placed, merge-end}

-- ---- all but the last

length_take : (n : ℕ) (es : List Entry) → n ≤ length es → length (take n es) ≡ n
length_take zero es h = refl
length_take (suc n) [] h = absurd (omega arith)
length_take (suc n) (e ∷ es) h = ap suc (length_take n es (omega arith))

taken_get : (n : ℕ) (es : List Entry) (i : ℕ) (e : Entry) → slice_get (take n es) i ≡ Some e → slice_get es i ≡ Some e
taken_get zero es i e got = absurd cc
taken_get (suc n) [] i e got = absurd cc
taken_get (suc n) (f ∷ es) zero e got = got
taken_get (suc n) (f ∷ es) (suc i) e got = taken_get n es i e got

split_last : (es : List Entry) (n : ℕ) (top : Entry) → length es ≡ suc n → slice_get es n ≡ Some top → es ≡ take n es ++ top ∷ []
split_last [] n top long got = absurd (omega arith)
split_last (e ∷ []) zero top long got = let same : e ≡ top = cc in ap (λ x. x ∷ []) same
split_last (e ∷ f ∷ es) zero top long got = absurd (omega arith)
split_last (e ∷ es) (suc n) top long got = ap (λ l. e ∷ l) (split_last es n top (omega arith) got)

above_take : (k n : ℕ) (es : List Entry) → Above k es → Above k (take n es)
unfolding Above
above_take k zero es h = tt
above_take k (suc n) [] h = tt
above_take k (suc n) (e ∷ es) h = (h.0, above_take k n es h.1)

ascends_take_entries : (n : ℕ) (es : List Entry) → Ascends es → Ascends (take n es)
unfolding Ascends
ascends_take_entries zero es h = tt
ascends_take_entries (suc n) [] h = tt
ascends_take_entries (suc n) (e ∷ es) h = (above_take e.key n es h.0, ascends_take_entries n es h.1)

pub ascends_take : (n : ℕ) (es : List Entry) → ascends (keys_in es) ≡ true → ascends (keys_in (take n es)) ≡ true
ascends_take n es up = from_ascends (take n es) (ascends_take_entries n es (to_ascends es up))

pub short_take : (limit n : ℕ) (es : List Entry) → All (λ e. e.key < limit) es → All (λ e. e.key < limit) (take n es)
short_take limit zero es all k d below = absurd (omega arith)
short_take limit (suc n) [] all k d below = absurd (omega arith)
short_take limit (suc n) (e ∷ es) all zero d below = all zero d (omega arith)
short_take limit (suc n) (e ∷ es) all (suc k) d below = short_take limit n es (λ i x within. all (suc i) x (omega arith)) k d (omega arith)

pub short_at : (limit i : ℕ) (e : Entry) (es : List Entry) → All (λ e. e.key < limit) es → slice_get es i ≡ Some e → e.key < limit
short_at limit i e [] all got = absurd cc
short_at limit zero e (f ∷ es) all got = let same : f ≡ e = cc in subst (λ x. x.key < limit) same (all zero f (omega arith))
short_at limit (suc i) e (f ∷ es) all got = short_at limit i e es (λ k d below. all (suc k) d (omega arith)) got

-- the last is the highest
below_from : (k : ℕ) (es : List Entry) → ((i : ℕ) (e : Entry) → slice_get es i ≡ Some e → e.key < k) → Below k es
unfolding Below
below_from k [] h = tt
below_from k (e ∷ es) h = (h zero e refl, below_from k es (λ i f got. h (suc i) f got))

at_or_below : (i n : ℕ) → i < n + 1 → (i ≡ n) ⊎ (i < n)
at_or_below zero zero h = inl refl
at_or_below zero (suc n) h = inr (omega arith)
at_or_below (suc i) zero h = absurd (omega arith)
at_or_below (suc i) (suc n) h = elim (at_or_below i n (omega arith)) [ inl e ↦ inl (ap suc e) | inr l ↦ inr (omega arith) ]

at_most_top : (es : List Entry) (above : ℕ) (top : Entry) → ascends (keys_in es) ≡ true → length es ≡ above + 1 → slice_get es above ≡ Some top → (i : ℕ) (e : Entry) → slice_get es i ≡ Some e → e.key ≤ top.key
at_most_top es above top up long got i e at =
    let within = slice_get_within es i e at in
    elim (at_or_below i above (omega arith)) [
      | inl here ↦ let some : Some e ≡ Some top = sym at ∙ ap (slice_get es) here ∙ got in let same : e ≡ top = cc in let key : e.key ≡ top.key = ap (λ x. x.key) same in omega arith
      | inr lower ↦ let step = ascends_get es (to_ascends es up) i above e top lower at got in omega arith
    ]

pub step_moved : (old now new : ℕ → Entry) (left above total : ℕ) (es : List Entry) (top last : Entry) (whole : List Entry) → IsMerging old now left es total whole → ascends (keys_in es) ≡ true → length es ≡ above + 1 → slice_get es above ≡ Some top → 0 < left
    → last ≡ now (left - 1) → top.key < last.key → new (left + above) ≡ last → ((i : ℕ) → i ≢ left + above → new i ≡ now i) → IsMerging old new (left - 1) es total whole
step_moved old now new left above total es top last whole m up long got some last_is higher written others =
    let back : suc (left - 1) ≡ left = omega arith in
    let m' = subst (λ n. IsMerging old now n es total whole) (sym back) m in
    let at : left - 1 + length es ≡ left + above = omega arith in
    let kept : now (left - 1) ≡ old (left - 1) = m.kept (left - 1) (omega arith) in
    let was : last ≡ old (left - 1) = last_is ∙ kept in
    merge-moved old now new (left - 1) es total whole m'
    (below_from (old (left - 1)).key es (λ i e at_i.
    let le = at_most_top es above top up long got i e at_i in
    let high : last.key ≡ (old (left - 1)).key = ap (λ y. y.key) was in
    omega arith))
    (ap new at ∙ written ∙ was)
    (λ i other. others i (λ same. other (same ∙ sym at)))

pub step_placed : (old now new : ℕ → Entry) (left above indexed total : ℕ) (es : List Entry) (top : Entry) (whole : List Entry) → IsMerging old now left es total whole → ascends (keys_in es) ≡ true → IsAscending old indexed → left ≤ indexed → length es ≡ above + 1 → slice_get es above ≡ Some top
    → (0 < left → (now (left - 1)).key ≤ top.key) → new (left + above) ≡ top → ((i : ℕ) → i ≢ left + above → new i ≡ now i) → IsMerging old new left (take above es) total whole
step_placed old now new left above indexed total es top whole m up old_up upto long got lower written others =
    let front = split_last es above top (omega arith) got in
    let m' = subst (λ l. IsMerging old now left l total whole) front m in
    let long_rest : length (take above es) ≡ above = length_take above es (omega arith) in
    let at : left + length (take above es) ≡ left + above = omega arith in
    merge-placed old now new left (take above es) top total whole m'
    (λ z on.
    let place = get_from_In (map old (range_with_len 0 left)) z on in
    let is = listed old left place.0 z place.1 in
    let within = is.0 in
    let high : now (left - 1) ≡ old (left - 1) = m.kept (left - 1) (omega arith) in
    let le = lower (omega arith) in
    let key : z.key ≡ (old place.0).key = ap (λ y. y.key) is.1 in
    let last_key : (now (left - 1)).key ≡ (old (left - 1)).key = ap (λ y. y.key) high in
    elim (at_or_below place.0 (left - 1) (omega arith)) [
      | inl here ↦ let k : (old place.0).key ≡ (old (left - 1)).key = ap (λ n. (old n).key) here in omega arith
      | inr before ↦ let step = old_up place.0 (left - 1) before (omega arith) in omega arith
    ])
    (λ z on.
    let place = get_from_In (take above es) z on in
    at_most_top es above top up long got place.0 z (taken_get above es place.0 z place.1))
    (ap new at ∙ written)
    (λ i other. others i (λ same. other (same ∙ sym at)))

pub merge_ends : (old now : ℕ → Entry) (left total : ℕ) (es whole : List Entry) → IsMerging old now left es total whole → es ≡ [] → map now (range_with_len 0 total) ≡ whole
merge_ends old now left total es whole m none = merge-end old now left total whole (subst (λ l. IsMerging old now left l total whole) none m)

-- the place that is written next, and its number
pub next_place : (left total capacity n : ℕ) (es : List Entry) → left + length es ≤ total → total ≤ capacity → length es ≡ n - 1 + 1 → left + (n - 1) < capacity
next_place left total capacity n es room few long = omega arith

capacity_fits : (f : IndexedFile) → f.file.capacity < 4294967296
capacity_fits f =
    let short = f.short_key in
    let few = entries_below (record_sectors f.file.capacity f.file.record_length) (f.key_length + 4) f.file.capacity (length f.file.sectors) (omega arith) (omega arith) f.index_fits in
    let small = f.small in
    omega arith

pub next_fits : (f : IndexedFile) (left above : ℕ) → left + above < f.file.capacity → Fits w32 (left + above)
next_fits f left above below = let few = capacity_fits f in omega arith

pub number_fits : (f : IndexedFile) (count : ℕ) → count < f.file.capacity → Fits w32 (count + 1)
number_fits f count below = let few = capacity_fits f in omega arith

pub above_fits : (left above : ℕ) → Fits w32 (left + above) → Fits w32 above
above_fits left above fits = omega arith

-- what is left becomes less
pub less_left : (left n : ℕ) → 0 < left → left - 1 + n < left + n
less_left left n some = omega arith

pub less_added : (left n : ℕ) (es fewer : List Entry) → fewer ≡ take (length es - 1) es → length es ≡ n - 1 + 1 → left + length fewer < left + length es
less_added left n es fewer is long = omega (arith, ap length is, length_take (length es - 1) es (omega arith))

-- ---- what the calls in the loop answer

-- where there is a last entry, there are some
pub some_entries : (es : List Entry) (top : Entry) (n : ℕ) → n ≡ length es → slice_get es (length es - 1) ≡ Some top → length es ≡ n - 1 + 1
some_entries es top n is got = let within = slice_get_within es (length es - 1) top got in omega arith

pub last_at : (es : List Entry) (above : ℕ) (top : Entry) → length es ≡ above + 1 → slice_get es (length es - 1) ≡ Some top → slice_get es above ≡ Some top
last_at es above top long got = let at : length es - 1 ≡ above = omega arith in subst (λ n. slice_get es n ≡ Some top) at got

pub no_entries : (es : List Entry) (o : Option IndexEntry) → o ≡ None → MatchOption o (es ≡ []) (λ last. slice_get es (length es - 1) ≡ Some (entry_of last)) → es ≡ []
no_entries es None is answer = answer
no_entries es (Some last) is answer = absurd cc

pub last_hit : (entry : Entry) (n key limit : ℕ) (o : Option IndexEntry) (last : IndexEntry) → o ≡ Some last → MatchOption o (0 < n → entry.key ≤ key) (λ x. (0 < n) × (entry_of x ≡ entry) × (key < number_of x.key.bytes) × (number_of x.key.bytes < limit))
    → (0 < n) × (entry_of last ≡ entry) × (key < number_of last.key.bytes) × (number_of last.key.bytes < limit)
last_hit entry n key limit None last is answer = absurd cc
last_hit entry n key limit (Some x) last is answer = let same : x ≡ last = cc in subst (λ y. (0 < n) × (entry_of y ≡ entry) × (key < number_of y.key.bytes) × (number_of y.key.bytes < limit)) same answer

pub last_miss : (entry : Entry) (n key limit : ℕ) (o : Option IndexEntry) → o ≡ None → MatchOption o (0 < n → entry.key ≤ key) (λ x. (0 < n) × (entry_of x ≡ entry) × (key < number_of x.key.bytes) × (number_of x.key.bytes < limit)) → 0 < n → entry.key ≤ key
last_miss entry n key limit None is answer = answer
last_miss entry n key limit (Some x) is answer = absurd cc
