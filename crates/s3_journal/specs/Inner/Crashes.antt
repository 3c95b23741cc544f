-- What is left of a journal and a pack when a command is done, killed or refused. The line is appended and synced before the new pack
-- gets the name of the old one, so no crash leaves the new pack without the line.
use Rattle.std.specs.Prelude.{ℕ, ◌≡◌, List, [], ◌∷◌, Bool, true, false, not, ◌&&◌, ◌||◌, if◌then◌else◌}
use Rattle.std.specs.List.{list_any}
use Rattle.std.specs.Str.{bytes_eq as same}
use Rattle.s3_journal.specs.Inner.Posted.{Posted, OfDecks, OfTable, OfNothing, Line, is_known, same_posted, start_of}
use Rattle.s3_journal.specs.declared.standing.Start.{Start}
use Rattle.s3_journal.specs.declared.standing.Start.TheVariants.{Do, IsPosted, IsOld, IsUnknown}

-- what a command posted, and whether `--again` was given
pub record Entry : Type 0 where
  pub posted : Posted
  pub again : Bool

-- what was really posted to the pack of a checksum, the last entry first
pub record Had : Type 0 where
  pub pack : List ℕ
  pub entries : List Entry

-- the lines from the last one to the first, the checksum of the pack that is there, and the packs that were there
pub record Shop : Type 0 where
  pub lines : List Line
  pub pack : List ℕ
  pub past : List Had

abbrev pub entries_of : (pack : List ℕ) → List Had → List Entry
entries_of pack [] = []
entries_of pack (had ∷ older) = if same had.pack pack then had.entries else entries_of pack older

-- what was really posted to the pack that is there
abbrev pub entries_here : Shop → List Entry
entries_here shop = entries_of shop.pack shop.past

-- how far a command comes
pub data Reached : Type 0 where
  -- it is killed before the line is on the disk
  NoLine : Reached
  -- it is killed after that, before the new pack has the name
  OnlyLine : Reached
  -- the new pack has the name, whatever comes later
  Renamed : Reached

-- a start of a command: what it would post, with `--again` or without; the checksum of the pack that it would leave; and how far it comes
pub record Attempt : Type 0 where
  pub posted : Posted
  pub again : Bool
  pub after : List ℕ
  pub reached : Reached

abbrev pub has_line : Reached → Bool
has_line NoLine = false
has_line OnlyLine = true
has_line Renamed = true

abbrev pub line_for : Attempt → Shop → Line
line_for day shop = record { before = shop.pack; after = day.after; posted = day.posted; restores = false }

abbrev pub entry_for : Attempt → Entry
entry_for day = record { posted = day.posted; again = day.again }

-- .. and what was posted before
abbrev pub entries_after : Attempt → Shop → List Entry
entries_after day shop = entry_for day ∷ entries_here shop

-- what a command leaves that comes so far
abbrev pub left : Reached → Attempt → Shop → Shop
left NoLine day shop = shop
left OnlyLine day shop = record { lines = line_for day shop ∷ shop.lines; pack = shop.pack; past = shop.past }
left Renamed day shop = record { lines = line_for day shop ∷ shop.lines; pack = day.after; past = record { pack = day.after; entries = entries_after day shop } ∷ shop.past }

-- a start leaves all as it is, unless the journal lets the command begin
abbrev pub started : Start → Attempt → Shop → Shop
started Do day shop = left day.reached day shop
started IsPosted day shop = shop
started IsOld day shop = shop
started IsUnknown day shop = shop

-- with `--again` a command begins whatever the journal has
abbrev pub attempt : Attempt → Shop → Shop
attempt day shop = if day.again then left day.reached day shop else started (start_of day.posted shop.pack shop.lines) day shop

abbrev pub line_back : (pack : List ℕ) → Shop → Line
line_back pack shop = record { before = shop.pack; after = pack; posted = OfNothing; restores = true }

-- what `journal --restore` leaves that comes so far
abbrev pub put_back : Reached → (pack : List ℕ) → Shop → Shop
put_back NoLine pack shop = shop
put_back OnlyLine pack shop = record { lines = line_back pack shop ∷ shop.lines; pack = shop.pack; past = shop.past }
put_back Renamed pack shop = record { lines = line_back pack shop ∷ shop.lines; pack = pack; past = shop.past }

-- what happens to a pack
pub data Event : Type 0 where
  -- a command is started
  Starts : Attempt → Event
  -- `journal --restore` puts back the pack of a line
  Restores : (pack : List ℕ) → Reached → Event
  -- somebody puts a copy of a pack in its place
  Copies : (pack : List ℕ) → Event
  -- something else changes it into a pack that no line has
  Changes : (pack : List ℕ) → Event

abbrev pub happens : Event → Shop → Shop
happens (Starts day) shop = attempt day shop
happens (Restores pack reached) shop = put_back reached pack shop
happens (Copies pack) shop = record { lines = shop.lines; pack = pack; past = shop.past }
happens (Changes pack) shop = record { lines = shop.lines; pack = pack; past = record { pack = pack; entries = entries_here shop } ∷ shop.past }

-- events, one after another
abbrev pub all_happen : List Event → Shop → Shop
all_happen [] shop = shop
all_happen (event ∷ later) shop = all_happen later (happens event shop)

-- the same is among what was posted
abbrev pub has_posted : Posted → List Entry → Bool
has_posted posted entries = list_any (λ entry. same_posted entry.posted posted) entries

-- ---- which events are meant
-- a pack that was there before has no more posted to it than these entries: the pack shows what was posted to it
abbrev pub Shows : (pack : List ℕ) → List Entry → Shop → Type 0
Shows pack entries shop = (posted : Posted) → has_posted posted (entries_of pack shop.past) ≡ true → has_posted posted entries ≡ true

abbrev pub IsMeant : Event → Shop → Type 0
IsMeant (Starts day) shop = Shows day.after (entries_after day shop) shop
IsMeant (Restores pack reached) shop = is_known pack shop.lines ≡ true
IsMeant (Copies pack) shop = Unit {0}
IsMeant (Changes pack) shop = (is_known pack shop.lines ≡ false) × Shows pack (entries_here shop) shop

abbrev pub AreMeant : List Event → Shop → Type 0
AreMeant [] shop = Unit {0}
AreMeant (event ∷ later) shop = IsMeant event shop × AreMeant later (happens event shop)

-- ---- the laws
-- nothing was posted without `--again` that was posted before
abbrev pub is_once : List Entry → Bool
is_once [] = true
is_once (entry ∷ older) = (entry.again || not (has_posted entry.posted older)) && is_once older

-- whatever the journal is at first: whichever commands are started, with `--again` or without, killed or not, whichever packs are put
-- back, and whatever else changes the pack, to no pack the same is posted without `--again` that was posted to it before
abbrev pub PostsOnce : Type 0
PostsOnce = (events : List Event) (shop : Shop) → shop.past ≡ [] → AreMeant events shop → (pack : List ℕ) → is_once (entries_of pack (all_happen events shop).past) ≡ true

-- the same may be posted only once
abbrev pub counts : Posted → Bool
counts (OfDecks one two) = true
counts (OfTable table file) = true
counts OfNothing = false

-- a later start of the same command takes its work as posted if the line is there and the pack is the one that it would leave, and else
-- does it: it is never refused; what may be done twice is done again
abbrev pub CrashesAreSeen : Type 0
CrashesAreSeen = (day : Attempt) (shop : Shop) → start_of day.posted shop.pack shop.lines ≡ Do → start_of day.posted (attempt day shop).pack (attempt day shop).lines ≡ (if has_line day.reached && (same day.after (attempt day shop).pack && counts day.posted) then IsPosted else Do)
