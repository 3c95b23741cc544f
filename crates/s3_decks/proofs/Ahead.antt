-- Ranges of cards that are ahead, and those that have ended.
use Rattle.std.proofs.Common.{◌≡◌, ℕ, ◌+◌, ◌<◌, ◌≤◌, suc, List, [], ◌∷◌, Bool, true, false, ◌&&◌, ◌||◌, length, drop, get_or, drop-cons, add-one, le_refl, refl, sym, ap, ◌∙◌, arith}
use Rattle.std.proofs.lemmas.List.{drop_all}
use Rattle.std.proofs.lemmas.Bool.{and_left, and_parts, and_right, le-leb, le-ltb, leb-true, lt-leb}
use Rattle.std.specs.Prelude.{nat_le, nat_lt}
use Rattle.s3_decks.specs.declared.deck_text.CardRange.{CardRange}
use Rattle.s3_decks.specs.declared.gaps.Gaps.{Gaps}
use Rattle.s3_decks.specs.Inner.Decks.{is_left_out}
use Rattle.s3_decks.specs.Inner.Gaps.{AreAhead, begin_in_order}

-- a range that begins after a place doesn't have it; one that ends at it or before it doesn't either
before_range : (range : CardRange) (place : ℕ) → place < range.from → (nat_le range.from place && nat_lt place range.to) ≡ false
before_range range place before = and_left (nat_le range.from place) (nat_lt place range.to) (lt-leb range.from place before)

after_range : (range : CardRange) (place : ℕ) → range.to ≤ place → (nat_le range.from place && nat_lt place range.to) ≡ false
after_range range place after = and_right (nat_le range.from place) (nat_lt place range.to) (le-ltb place range.to after)

-- a place before ranges that begin in ascending order is in none of them
none_before : (ranges : List CardRange) (n place : ℕ) → place < n → begin_in_order n ranges ≡ true → is_left_out ranges place ≡ false
unfolding begin_in_order
none_before [] n place before order = refl
none_before (range ∷ more) n place before order =
    let parts = and_parts (nat_le n range.from) (begin_in_order range.from more) order in
    let first : place < range.from = omega (arith, before, leb-true n range.from parts.0) in
    ap (λ (t : Bool). t || is_left_out more place) (before_range range place first) ∙ none_before more range.from place first parts.1

-- ranges that begin in ascending order do so from the first place on
in_order_at_all : (ranges : List CardRange) (n : ℕ) → begin_in_order n ranges ≡ true → begin_in_order 0 ranges ≡ true
unfolding begin_in_order
in_order_at_all [] n order = refl
in_order_at_all (range ∷ more) n order =
    ap (λ (t : Bool). t && begin_in_order range.from more) (le-leb 0 range.from (omega arith)) ∙ (and_parts (nat_le n range.from) (begin_in_order range.from more) order).1

-- the first of ranges has no place before it, and nor has any other
pub none_yet : (ranges : List CardRange) (range : CardRange) (more : List CardRange) (place : ℕ) → ranges ≡ range ∷ more → place < range.from → begin_in_order 0 ranges ≡ true → false ≡ is_left_out ranges place
unfolding begin_in_order
none_yet ranges range more place is before order =
    let parts = and_parts (nat_le 0 range.from) (begin_in_order range.from more) (ap (begin_in_order 0) (sym is) ∙ order) in
    sym (ap (λ all. is_left_out all place) is
    ∙ ap (λ (t : Bool). t || is_left_out more place) (before_range range place before)
    ∙ none_before more range.from place before parts.1)

-- what a range that has ended leaves
pub one_ended : (rest : List CardRange) (range : CardRange) (more : List CardRange) (place p : ℕ) → rest ≡ range ∷ more → range.to ≤ place → place ≤ p → is_left_out more p ≡ is_left_out rest p
one_ended rest range more place p is ended after =
    sym (ap (λ all. is_left_out all p) is ∙ ap (λ (t : Bool). t || is_left_out more p) (after_range range p (omega (arith, ended, after))))

pub order_after : (rest : List CardRange) (range : CardRange) (more : List CardRange) → rest ≡ range ∷ more → begin_in_order 0 rest ≡ true → begin_in_order 0 more ≡ true
unfolding begin_in_order
order_after rest range more is order =
    in_order_at_all more range.from ((and_parts (nat_le 0 range.from) (begin_in_order range.from more) (ap (begin_in_order 0) (sym is) ∙ order)).1)

-- the order of ranges from one of them on
pub order_more : (ranges : List CardRange) (i from : ℕ) (d : CardRange) → i < length ranges → from ≤ (get_or ranges i d).from → begin_in_order from (drop i ranges) ≡ begin_in_order (get_or ranges i d).from (drop (i + 1) ranges)
unfolding begin_in_order
order_more ranges i from d within less =
    ap (begin_in_order from) (drop-cons ranges i d within)
    ∙ ap (λ (t : Bool). t && begin_in_order (get_or ranges i d).from (drop (suc i) ranges)) (le-leb from (get_or ranges i d).from less)
    ∙ ap (λ n. begin_in_order (get_or ranges i d).from (drop n ranges)) (sym (add-one i))

pub order_broken : (ranges : List CardRange) (i from : ℕ) (d : CardRange) → i < length ranges → (get_or ranges i d).from < from → false ≡ begin_in_order from (drop i ranges)
unfolding begin_in_order
order_broken ranges i from d within less =
    sym (ap (begin_in_order from) (drop-cons ranges i d within)
    ∙ ap (λ (t : Bool). t && begin_in_order (get_or ranges i d).from (drop (suc i) ranges)) (lt-leb from (get_or ranges i d).from less))

pub order_whole : (ranges : List CardRange) (i from : ℕ) → length ranges ≤ i → true ≡ begin_in_order from (drop i ranges)
unfolding begin_in_order
order_whole ranges i from past = sym (ap (begin_in_order from) (drop_all i ranges past))

-- all ranges are ahead at the first card
pub all_ahead : (all : List CardRange) (gaps : Gaps) → gaps.ranges.now ≡ all → gaps.is_ordered ≡ begin_in_order 0 all → AreAhead all 0 gaps
all_ahead all gaps same order = record {
  same = λ p _. ap (λ ranges. is_left_out ranges p) same;
  order = λ is. ap (begin_in_order 0) same ∙ sym order ∙ is;
}

-- what is answered for a place, and the ranges that are ahead after it
pub taken : (all : List CardRange) (place : ℕ) (old new : Gaps) (result : Bool) → new.is_ordered ≡ old.is_ordered → ((p : ℕ) → place ≤ p → is_left_out new.ranges.now p ≡ is_left_out old.ranges.now p) → (begin_in_order 0 old.ranges.now ≡ true → begin_in_order 0 new.ranges.now ≡ true) → ((new.is_ordered ≡ true → begin_in_order 0 new.ranges.now ≡ true) → result ≡ is_left_out new.ranges.now place) → AreAhead all place old → (result ≡ is_left_out all place) × AreAhead all (place + 1) new
taken all place old new result kept same order answer ahead =
    let ordered : new.is_ordered ≡ true → begin_in_order 0 new.ranges.now ≡ true = λ is. order (ahead.order (sym kept ∙ is)) in (
      answer ordered ∙ same place (le_refl place) ∙ ahead.same place (le_refl place),
      record {
        same = λ p after. same p (omega (arith, after)) ∙ ahead.same p (omega (arith, after));
        order = ordered;
      },
    )
