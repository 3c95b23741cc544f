-- Files that are no deck, by the bytes with which they begin.
use Rattle.std.specs.Prelude.{ℕ, ◌==◌, ◌||◌, List, [], ◌∷◌, Bool, Option, Some, None, nat_eq, take, if◌then◌else◌}
use Rattle.std.specs.List.{list_any, starts_with}
use Rattle.s3_decks.specs.declared.encoding.Encoding.{Encoding}
use Rattle.s3_decks.specs.declared.encoding.Encoding.TheVariants.{MarkedUtf8, Utf16}

-- UTF-16 has a byte order mark, or a zero in the first character, which is one of ASCII
abbrev pub is_utf16 : List ℕ → Bool
is_utf16 bytes = starts_with nat_eq bytes (0xff ∷ 0xfe ∷ []) || starts_with nat_eq bytes (0xfe ∷ 0xff ∷ []) || list_any (λ byte. byte == 0) (take 2 bytes)

abbrev pub has_mark : List ℕ → Bool
has_mark bytes = starts_with nat_eq bytes (0xef ∷ 0xbb ∷ 0xbf ∷ [])

abbrev pub encoding_of : List ℕ → Option Encoding
encoding_of bytes = if has_mark bytes then Some MarkedUtf8 else if is_utf16 bytes then Some Utf16 else None
