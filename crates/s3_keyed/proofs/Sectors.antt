-- An index, sector by sector.
use Rattle.std.proofs.Common.{◌≡◌, ◌≢◌, nat_lt, inl, inr, ℕ, zero, suc, ◌+◌, ◌-◌, ◌*◌, ◌/◌, ◌%◌, ◌<◌, ◌≤◌, Bool, false, true, ◌==◌, List, length, map, min, slice_get, Option, None, Some, MatchOption, sym, ap, subst, ◌∙◌, arith}
use Rattle.std.proofs.Math.Nat.{mul-le-mul_left}
use Rattle.std.proofs.lemmas.Bool.{eqb-true, eq-eqb}
use Rattle.std.proofs.lemmas.Bool.Decides.{nat_tests}
use Rattle.std.proofs.lemmas.Grind.{div_ceil_times}
use Rattle.std.proofs.lemmas.Nat.{div-mul-add, mod-mul-add}
use Rattle.std.specs.List.{range_with_len}
use Rattle.s3_store.specs.Bytes.{part}
use Rattle.s3_slots.specs.Slots.{record_sectors, entries_per_sector}
use Rattle.s3_keyed.specs.KeyOrder.{Entry}
use Rattle.s3_keyed.specs.Inner.KeyOrder.{IsAscending}
use Rattle.s3_keyed.specs.Index.{Layout, entry_in, entry_at}
use Rattle.s3_keyed.specs.Inner.Shape.{entry_here, IsOfRecord}
use Rattle.s3_keyed.specs.Inner.Checking.{IsGoodSector}
use Rattle.s3_keyed.specs.Inner.Sought.{StandsAs}
use Rattle.s3_keyed.specs.declared.sector_search.Standing.TheVariants.{Within}
use Rattle.s3_keyed.proofs.Checked.{AreChecked, below_or_at, checked-more, good-ascends, good-range, good-keyed, lower_half, upper_half, not_found}
use Rattle.s3_keyed.proofs.Order.{IsGoodIndex}
use Rattle.s3_keyed.proofs.Places.{rows-fit, entry_there}

-- ---- which entries lie in a sector

-- a sector that is one of those for n entries begins with one of them
pub starts : (n per place : ℕ) → 0 < per → place < n / per + min 1 (n % per) → place * per < n
starts n per place some below = by (n / per + min 1 (n % per)) below (div_ceil_times n per some).1
  where
    by : (q : ℕ) → place < q → q * per < n + per → place * per < n
    by q less high = let up : place + 1 ≤ q = omega (arith, less) in let m = mul-le-mul_left per up in omega (arith, m, high)

pub starts_before : (n per place high : ℕ) → 0 < per → place < high → high ≤ n / per + min 1 (n % per) → place * per < n
starts_before n per place high some below last = starts n per place some (omega (arith, below, last))

-- no entry lies behind those sectors
pub none_behind : (n per i : ℕ) → 0 < per → (n / per + min 1 (n % per)) * per ≤ i → i < n → ⊥
none_behind n per i some from below = by ((n / per + min 1 (n % per)) * per) (div_ceil_times n per some).0 from
  where
    by : (end : ℕ) → n ≤ end → end ≤ i → ⊥
    by end last after = omega (arith, last, after, below)

pub place_within : (per n capacity place : ℕ) → 0 < per → place * per < n → n ≤ capacity → place < (capacity + per - 1) / per
place_within per n capacity place some starts few =
    let row = rows-fit per (place * per) capacity some (omega (arith, starts, few)) in
    let whole : place * per ≡ place * per + 0 = omega arith in
    let back : place * per / per ≡ place = ap (λ m. m / per) whole ∙ div-mul-add place per 0 some in
    by (place * per / per) ((capacity + per - 1) / per) row back
  where
    by : (q end : ℕ) → q + 1 ≤ end → q ≡ place → place < end
    by q end row back = omega (arith, row, back)

-- nor after the last of them
pub all_places : (n per place : ℕ) → 0 < per → n / per + min 1 (n % per) ≤ place → min (place * per) n ≡ n
all_places n per place some past = by (n / per + min 1 (n % per)) past (div_ceil_times n per some).0
  where
    by : (q : ℕ) → q ≤ place → n ≤ q * per → min (place * per) n ≡ n
    by q up last = let m = mul-le-mul_left per up in omega (arith, m, last)

-- m of n entries lie in a sector
pub record Covers (per n place m : ℕ) : Type 0 where
  pub some : 0 < m
  pub few : m ≤ per
  pub within : place * per + m ≤ n
  pub rest : (i : ℕ) → i < (place + 1) * per → i < n → i < place * per + m

pub covers : (per n place m : ℕ) → 0 < per → place * per < n → m ≡ min per (n - place * per) → Covers per n place m
covers per n place m pos starts is = record {
  some = omega (arith, pos, starts, is);
  few = omega (arith, is);
  within = omega (arith, starts, is);
  rest = λ i below inside. omega (arith, below, inside, is);
}

-- how many lie in it and those before it
pub upto_place : (per n place : ℕ) → place * per < n → min (place * per) n ≡ place * per
upto_place per n place starts = omega (arith, starts)

pub upto_next : (per n place m : ℕ) → place * per < n → m ≡ min per (n - place * per) → min ((place + 1) * per) n ≡ place * per + m
upto_next per n place m starts is = omega (arith, starts, is)

pub later : (per place : ℕ) → 0 < per → 0 < place → 0 < place * per
later per place some low = let up : 1 ≤ place = omega (arith, low) in let m = mul-le-mul_left per up in omega (arith, m, some)

pub not_first : (per place : ℕ) → 0 < place * per → 0 < place
not_first per zero low = absurd (omega (arith, low))
not_first per (suc place) low = omega arith

-- an entry of a sector is one of the index
pub held : (layout : Layout) (place j : ℕ) (bytes sector : List ℕ) → layout.key.length ≤ 29 → j < entries_per_sector layout.key.length → sector ≡ part bytes (256 * (record_sectors layout.capacity layout.record_length + place)) 256 → entry_here layout.key.length sector j ≡ entry_at layout bytes (place * entries_per_sector layout.key.length + j)
held layout place j bytes sector short inside is =
    let k = layout.key.length in
    let per = entries_per_sector k in
    ap (λ m. entry_in k (part sector (m * (k + 4)) (k + 4))) (sym (mod-mul-add place per j inside))
    ∙ entry_there layout (place * per + j) place bytes sector short (sym (div-mul-add place per j inside)) is

pub all_held : (layout : Layout) (place per m k : ℕ) (bytes sector : List ℕ) → k ≡ layout.key.length → per ≡ entries_per_sector layout.key.length → layout.key.length ≤ 29 → m ≤ per → sector ≡ part bytes (256 * (record_sectors layout.capacity layout.record_length + place)) 256 → (j : ℕ) → j < m → entry_here k sector j ≡ entry_at layout bytes (place * per + j)
all_held layout place per m k bytes sector k_is per_is short few is j below =
    let inside : j < entries_per_sector layout.key.length = subst (λ n. j < n) per_is (omega (arith, below, few)) in
    rw (k_is, per_is) (held layout place j bytes sector short inside is)

pub sector_ascends : (f g : ℕ → Entry) (first m n : ℕ) → ((j : ℕ) → j < m → g j ≡ f (first + j)) → first + m ≤ n → IsAscending f n → IsAscending g m
sector_ascends f g first m n same within up i j lt below =
    let less = up (first + i) (first + j) (omega (arith, lt)) (omega (arith, below, within)) in
    rw (same i (omega (arith, lt, below)), same j below) less

-- ---- a key before, among or after the entries of a sector

pub all_above : (f g : ℕ → Entry) (first m n k : ℕ) → ((j : ℕ) → j < m → g j ≡ f (first + j)) → 0 < m → IsAscending f n → k < (g 0).key → (i : ℕ) → first ≤ i → i < n → k < (f i).key
all_above f g first m n k same some up more =
    let at : first + 0 ≡ first = omega arith in
    upper_half f n first k up (subst (λ e. k < e.key) (same 0 some ∙ ap f at) more)

pub all_below : (f g : ℕ → Entry) (first m n k : ℕ) → ((j : ℕ) → j < m → g j ≡ f (first + j)) → 0 < m → first + m ≤ n → IsAscending f n → (g (m - 1)).key < k → (i : ℕ) → i < first + m → (f i).key < k
all_below f g first m n k same some within up less i below =
    lower_half f n (first + (m - 1)) k up (omega (arith, some, within)) (subst (λ e. e.key < k) (same (m - 1) (omega (arith, some))) less) i (omega (arith, below, some))

pub between : (f g : ℕ → Entry) (first m n k j : ℕ) → ((j : ℕ) → j < m → g j ≡ f (first + j)) → first + m ≤ n → IsAscending f n → j + 1 < m → (g j).key < k → k < (g (j + 1)).key → (i : ℕ) → i < n → (f i).key ≢ k
between f g first m n k j same within up inside less more =
    not_found f n (first + j + 1) (first + (j + 1)) k (omega arith)
    (lower_half f n (first + j) k up (omega (arith, inside, within)) (subst (λ e. e.key < k) (same j (omega (arith, inside))) less))
    (upper_half f n (first + (j + 1)) k up (subst (λ e. k < e.key) (same (j + 1) inside) more))

pub found_within : (f g : ℕ → Entry) (first m n key : ℕ) (found : Option ℕ) → ((j : ℕ) → j < m → g j ≡ f (first + j)) → first + m ≤ n → IsAscending f n → StandsAs g m key (Within found) → MatchOption found ((i : ℕ) → i < n → (f i).key ≢ key) (λ number. (i : ℕ) × (i < n) × (f i ≡ record { key = key; number = number }))
found_within f g first m n key None same within up s = between f g first m n key s.0 same within up s.1 s.2 s.3
found_within f g first m n key (Some number) same within up s = (first + s.0, omega (arith, within, s.1), sym (same s.0 s.1) ∙ s.2)

-- no entry has a key that lies between two of them
pub nowhere : (f : ℕ → Entry) (n low high k : ℕ) → high ≤ low → ((i : ℕ) → i < low → i < n → (f i).key < k) → ((i : ℕ) → high ≤ i → i < n → k < (f i).key) → (i : ℕ) → i < n → (f i).key ≢ k
nowhere f n low high k met below above = not_found f n (min low n) (min high n) k (omega (arith, met)) (λ i less. below i (omega (arith, less)) (omega (arith, less))) (λ i from within. above i (omega (arith, from, within)) within)

-- a key that isn't equal to an entry's and isn't above it comes before it
pub strictly : (k a : ℕ) (r : Bool) → r ≡ (k == a) → r ≡ false → k ≤ a → k < a
strictly k a r is other le = let apart = sym is ∙ other in grind (arith, nat_tests)

-- ---- the entries below a key, which are halved

pub middle_below : (low high n : ℕ) → low < high → high ≤ n → low + (high - low) / 2 < n
middle_below low high n less within = omega (arith, less, within)

pub below_middle : (f : ℕ → Entry) (n middle k : ℕ) (r : Bool) → IsAscending f n → middle < n → r ≡ nat_lt (f middle).key k → r ≡ true → (i : ℕ) → i < middle + 1 → (f i).key < k
below_middle f n middle k r up within is holds = lower_half f n middle k up within (less (f middle).key (sym is ∙ holds))
  where
    less : (a : ℕ) → nat_lt a k ≡ true → a < k
    less a holds = grind (arith, nat_tests)

pub from_middle : (f : ℕ → Entry) (n middle k : ℕ) (r : Bool) → IsAscending f n → r ≡ nat_lt (f middle).key k → r ≡ false → (i : ℕ) → middle ≤ i → i < n → k ≤ (f i).key
from_middle f n middle k r up is fails i from below = elim (below_or_at middle i (omega (arith, from))) [
  | inl before ↦ let step = up middle i before below in omega (arith, step, least)
  | inr here ↦ subst (λ m. k ≤ (f m).key) here least
]
  where
    not_less : (a : ℕ) → nat_lt a k ≡ false → k ≤ a
    not_less a fails = grind (arith, nat_tests)

    least : k ≤ (f middle).key
    least = not_less (f middle).key (sym is ∙ fails)

-- ---- entries and their records

pub too_high : (keys : List ℕ) (e : Entry) (number count : ℕ) → number ≡ e.number → length keys ≡ count → count < number → IsOfRecord keys e → ⊥
too_high keys e number count is long above of = omega (arith, of.within, is, long, above)

pub of_another : (keys : List ℕ) (e : Entry) (number k : ℕ) → number ≡ e.number → slice_get keys (number - 1) ≡ Some k → (k == e.key) ≡ false → IsOfRecord keys e → ⊥
of_another keys e number k is read other of =
    let some : Some k ≡ Some e.key = sym read ∙ ap (λ m. slice_get keys (m - 1)) is ∙ of.keyed in
    let same : k ≡ e.key = cc in
    let t = eq-eqb k e.key same in cc

pub of_record : (keys : List ℕ) (e : Entry) (number count k : ℕ) → number ≡ e.number → length keys ≡ count → 1 ≤ number → number ≤ count → slice_get keys (number - 1) ≡ Some k → (k == e.key) ≡ true → IsOfRecord keys e
of_record keys e number count k is long low high read same = record {
  some = omega (arith, is, low);
  within = omega (arith, is, long, high);
  keyed = ap (λ m. slice_get keys (m - 1)) (sym is) ∙ read ∙ ap Some (eqb-true k e.key same);
}

-- ---- a sector whose entries are good

pub checked-sector : (f g : ℕ → Entry) (keys : List ℕ) (first m : ℕ) → ((j : ℕ) → j < m → g j ≡ f (first + j)) → AreChecked f keys first → (0 < first → (f (first - 1)).key < (f first).key) → IsAscending g m → ((j : ℕ) → j < m → IsOfRecord keys (g j)) → AreChecked f keys (first + m)
checked-sector f g keys first m same before border up of = upto m (omega arith)
  where
    above : (j : ℕ) → j < m → 0 < first + j → (f (first + j - 1)).key < (f (first + j)).key
    above zero less later = let at : first + 0 ≡ first = omega arith in rw at (border (omega (arith, later)))
    above (suc j) less later =
        let at : first + suc j - 1 ≡ first + j = omega arith in
        rw (at, sym (same j (omega (arith, less))), sym (same (suc j) less)) (up j (suc j) (omega arith) less)

    upto : (j : ℕ) → j ≤ m → AreChecked f keys (first + j)
    upto zero le = let at : first + 0 ≡ first = omega arith in rw at before
    upto (suc j) le =
        let at : first + suc j ≡ first + j + 1 = omega arith in
        let less : j < m = omega (arith, le) in
        let is : IsOfRecord keys (f (first + j)) = subst (IsOfRecord keys) (same j less) (of j less) in
        rw at (checked-more f keys (first + j) (upto j (omega (arith, le))) (above j less) is.some is.within is.keyed)

-- what a good index has in a sector
pub good-sector-ascends : (f g : ℕ → Entry) (keys : List ℕ) (first m n : ℕ) → ((j : ℕ) → j < m → g j ≡ f (first + j)) → first + m ≤ n → IsGoodIndex (map f (range_with_len 0 n)) keys → IsAscending g m
good-sector-ascends f g keys first m n same within good = sector_ascends f g first m n same within (λ i j lt below. good-ascends f keys n i j good lt below)

pub good-of-record : (f g : ℕ → Entry) (keys : List ℕ) (first m n j : ℕ) → ((j : ℕ) → j < m → g j ≡ f (first + j)) → first + m ≤ n → j < m → IsGoodIndex (map f (range_with_len 0 n)) keys → IsOfRecord keys (g j)
good-of-record f g keys first m n j same within below good =
    let inside : first + j < n = omega (arith, within, below) in
    let range = good-range f keys n (first + j) good inside in
    rw (same j below) (record { some = range.0; within = range.1; keyed = good-keyed f keys n (first + j) good inside })

-- ---- the sectors one after another

-- what a good index has in each sector
pub good-next : (f g : ℕ → Entry) (keys : List ℕ) (per place m n last : ℕ) → ((j : ℕ) → j < m → g j ≡ f (place * per + j)) → Covers per n place m → 0 < per → place * per < n → (0 < place → last ≡ (f (min (place * per) n - 1)).key) → IsGoodIndex (map f (range_with_len 0 n)) keys → IsGoodSector keys place last g m
good-next f g keys per place m n last same here some starts is_last good = record {
  goes_on = record { follows = follows; ascending = good-sector-ascends f g keys (place * per) m n same here.within good };
  of_records = λ j below. good-of-record f g keys (place * per) m n j same here.within below good;
}
  where
    follows : 0 < place → last < (g 0).key
    follows first =
        let at : place * per + 0 ≡ place * per = omega arith in
        let low = later per place some first in
        let up = good-ascends f keys n (place * per - 1) (place * per) good (omega (arith, low)) starts in
        rw (is_last first ∙ ap (λ i. (f (i - 1)).key) (upto_place per n place starts), same 0 here.some ∙ ap f at) up

-- a sector more is checked
pub next-checked : (f g : ℕ → Entry) (keys : List ℕ) (per place m n last : ℕ) → ((j : ℕ) → j < m → g j ≡ f (place * per + j)) → Covers per n place m → m ≡ min per (n - place * per) → place * per < n → (0 < place → last ≡ (f (min (place * per) n - 1)).key) → AreChecked f keys (min (place * per) n) → IsGoodSector keys place last g m → AreChecked f keys (min ((place + 1) * per) n)
next-checked f g keys per place m n last same here is starts is_last before good =
    let upto = upto_place per n place starts in
    subst (AreChecked f keys) (sym (upto_next per n place m starts is)) (checked-sector f g keys (place * per) m same (subst (AreChecked f keys) upto before) border good.goes_on.ascending good.of_records)
  where
    less : (before last first key : ℕ) → last ≡ before → first ≡ key → last < first → before < key
    less before last first key is_last is_first below = omega (arith, is_last, is_first, below)

    border : 0 < place * per → (f (place * per - 1)).key < (f (place * per)).key
    border some =
        let first = not_first per place some in
        let at : place * per + 0 ≡ place * per = omega arith in
        less (f (place * per - 1)).key last (g 0).key (f (place * per)).key (is_last first ∙ ap (λ i. (f (i - 1)).key) (upto_place per n place starts)) (ap (λ e. e.key) (same 0 here.some ∙ ap f at)) (good.goes_on.follows first)

-- and its last key is the one before the next
pub next-last : (f g : ℕ → Entry) (per place m n key : ℕ) → ((j : ℕ) → j < m → g j ≡ f (place * per + j)) → Covers per n place m → m ≡ min per (n - place * per) → place * per < n → key ≡ (g (m - 1)).key → key ≡ (f (min ((place + 1) * per) n - 1)).key
next-last f g per place m n key same here is starts is_key =
    let end : place * per + (m - 1) ≡ place * per + m - 1 = omega (arith, here.some) in
    is_key ∙ ap (λ e. e.key) (same (m - 1) (omega (arith, here.some))) ∙ ap (λ i. (f i).key) end ∙ ap (λ i. (f (i - 1)).key) (sym (upto_next per n place m starts is))
