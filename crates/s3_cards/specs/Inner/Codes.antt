-- The code page as two tables, by byte and by EBCDIC code; 0 means none.
use Rattle.std.specs.Prelude.{ℕ, List, map, unwrap_or}
use Rattle.std.specs.List.{range_with_len}
use Rattle.s3_cards.specs.Codes.{ebcdic_of, host_of}

-- the code of each byte, 0 if the byte is no card character
unfoldable pub codes_of_bytes : List ℕ
codes_of_bytes = map (λ byte. unwrap_or (ebcdic_of byte) 0) (range_with_len 0 256)

-- the character of each code, 0 if the code has none
unfoldable pub hosts_of_codes : List ℕ
hosts_of_codes = map (λ code. unwrap_or (host_of code) 0) (range_with_len 0 256)
