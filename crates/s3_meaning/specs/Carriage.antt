-- The carriage: 66 lines on a page, and overflow past line 60.
use Rattle.std.specs.Prelude.{ℕ, ◌+◌, ◌-◌, ◌==◌, nat_lt, Bool, not, ◌&&◌, ◌||◌, Option, Some, None, unwrap_or, is_some, if◌then◌else◌}
use Rattle.s3_lines.specs.declared.sheet.Spacing.{Spacing}

-- the current page and line, and whether overflow has been passed
pub record Carriage : Type 0 where
  pub page : ℕ
  pub line : ℕ
  pub overflow : Bool

abbrev pub next_page : ℕ → ℕ
next_page page = if nat_lt page 9999 then page + 1 else 0

-- moves from line 60 at most to a later line
abbrev pub passes : ℕ → ℕ → Bool
passes from to = not (nat_lt 60 from) && nat_lt 60 to

-- advances by n lines; line 1 of the next page follows line 66
abbrev pub spaced : ℕ → Carriage → Carriage
spaced n c =
    if nat_lt 66 (c.line + n)
    then record { page = next_page c.page; line = c.line + n - 66; overflow = c.overflow || passes c.line (c.line + n) }
    else record { page = c.page; line = c.line + n; overflow = c.overflow || passes c.line (c.line + n) }

-- skips down to a line of the page, or else to that line of the next page; the skip to the next page sets no overflow
abbrev pub skipped : Option ℕ → Carriage → Carriage
skipped None c = c
skipped (Some n) c =
    if nat_lt n c.line
    then record { page = next_page c.page; line = n; overflow = c.overflow }
    else record { page = c.page; line = n; overflow = c.overflow || passes c.line n }

-- if all six columns are blank, the carriage spaces one line after printing
abbrev pub is_blank : Spacing → Bool
is_blank spacing = not (is_some spacing.space_before || is_some spacing.space_after || is_some spacing.skip_before || is_some spacing.skip_after)

-- skip before, then space before; printing at line 60 sets overflow
abbrev pub to_print : Spacing → Carriage → Carriage
to_print spacing c =
    let there : Carriage = spaced (unwrap_or spacing.space_before 0) (skipped spacing.skip_before c) in
    record there { overflow = there.overflow || there.line == 60 }

-- skip after, then space after
abbrev pub after_print : Spacing → Carriage → Carriage
after_print spacing c = spaced (if is_blank spacing then 1 else unwrap_or spacing.space_after 0) (skipped spacing.skip_after c)
