-- Worked examples: what a start is to do over small journals.
use Rattle.std.proofs.Common.{◌≡◌, ℕ, List, [], ◌∷◌, true, false, refl}
use Rattle.s3_journal.specs.Inner.Posted.{Posted, OfDecks, OfNothing, Line, start_of}
use Rattle.s3_journal.specs.declared.standing.Start.TheVariants.{Do, IsPosted, IsUnknown}

-- a pack or a deck, by a number in place of its digest
abbrev sum : ℕ → List ℕ
sum n = n ∷ []

abbrev decks : ℕ → Posted
decks n = OfDecks (sum n) (sum 0)

abbrev line : (before after : ℕ) → Posted → Line
line before after posted = record { before = sum before; after = sum after; posted = posted; restores = false }

abbrev put_back : (before after : ℕ) → Line
put_back before after = record { before = sum before; after = sum after; posted = OfNothing; restores = true }

-- day 1 was posted; something else changed pack 1 into pack 2; a command with --again left pack 3
abbrev changed : List Line
changed = line 2 3 OfNothing ∷ line 0 1 (decks 1) ∷ []

the_changed_pack_is_unknown : start_of (decks 1) (sum 2) (line 0 1 (decks 1) ∷ []) ≡ IsUnknown
the_changed_pack_is_unknown = refl

day_1_is_still_posted : start_of (decks 1) (sum 3) changed ≡ IsPosted
day_1_is_still_posted = refl

day_2_begins : start_of (decks 2) (sum 3) changed ≡ Do
day_2_begins = refl

-- .. also if the command with --again was killed before its pack was saved
day_1_is_posted_before_it : start_of (decks 1) (sum 2) changed ≡ IsPosted
day_1_is_posted_before_it = refl

-- .. and over two packs that something else changed
day_1_is_posted_twice_changed : start_of (decks 1) (sum 5) (line 4 5 (decks 2) ∷ changed) ≡ IsPosted
day_1_is_posted_twice_changed = refl

-- a copy of pack 0, over which day 1 was done with --again: day 2, which was posted to another pack, begins
day_2_begins_over_a_copy : start_of (decks 2) (sum 4) (line 0 4 (decks 1) ∷ line 1 2 (decks 2) ∷ line 0 1 (decks 1) ∷ []) ≡ Do
day_2_begins_over_a_copy = refl

-- the pack of day 1 was put back, something else changed it, and a command with --again left pack 5: each day counts as posted
abbrev restored : List Line
restored = line 4 5 OfNothing ∷ put_back 2 1 ∷ line 1 2 (decks 2) ∷ line 0 1 (decks 1) ∷ []

day_1_is_posted_after_a_restore : start_of (decks 1) (sum 5) restored ≡ IsPosted
day_1_is_posted_after_a_restore = refl

day_2_counts_after_a_restore : start_of (decks 2) (sum 5) restored ≡ IsPosted
day_2_counts_after_a_restore = refl

-- .. but without the change day 2 begins
day_2_begins_after_a_restore : start_of (decks 2) (sum 1) (put_back 2 1 ∷ line 1 2 (decks 2) ∷ line 0 1 (decks 1) ∷ []) ≡ Do
day_2_begins_after_a_restore = refl

-- the restore was killed before pack 1 was put back, something else changed pack 2, and a command with --again left pack 5
day_2_is_posted_after_a_killed_restore : start_of (decks 2) (sum 5) (line 4 5 OfNothing ∷ put_back 2 1 ∷ line 1 2 (decks 2) ∷ line 0 1 (decks 1) ∷ []) ≡ IsPosted
day_2_is_posted_after_a_killed_restore = refl
