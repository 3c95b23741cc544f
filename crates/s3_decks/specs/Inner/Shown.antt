-- Which characters a terminal shows, and a shell takes, as they are.
use Rattle.std.specs.Prelude.{ℕ, Bool, not, ◌&&◌, ◌||◌, ◌==◌, nat_le}

abbrev pub is_within : ℕ → ℕ → ℕ → Bool
is_within low high code = nat_le low code && nat_le code high

-- control characters, and those that only join, part or turn the characters around them
abbrev pub is_hidden : ℕ → Bool
is_hidden code =
    is_within 0 0x1f code || is_within 0x7f 0x9f code || (code == 0xad) || is_within 0x200b 0x200f code
    || is_within 0x2028 0x202e code || is_within 0x2060 0x206f code || (code == 0xfeff)

abbrev pub is_shown : ℕ → Bool
is_shown code = not (is_hidden code)

-- letters, digits, the signs % + , - . / : @ _ and what a terminal shows beyond ASCII
abbrev pub is_plain : ℕ → Bool
is_plain code =
    (code == 0x25) || is_within 0x2b 0x3a code || is_within 0x40 0x5a code || (code == 0x5f) || is_within 0x61 0x7a code
    || (nat_le 0x80 code && is_shown code)
