-- The form on which all pages of a document are printed: 1071 by 792 points.
use Rattle.std.specs.Prelude.{ℕ, ◌+◌, List, [], ◌++◌, codes}
use Rattle.std.specs.Fmt.{decimal}
use Rattle.std.specs.List.{flat_map, range_with_len}
use Rattle.s3_pages.specs.Inner.Drawing.{stream_body}
use Rattle.s3_pages.specs.declared.form.FormLook.{FormLook}
use Rattle.s3_pages.specs.declared.form.FormLook.TheVariants.{Plain, Bars, Full}

-- eleven bars of three lines, with three lines between two
unfoldable pub bars : List ℕ
bars =
    codes "0.9 0.96 0.9 rg\n36 756 999 36 re\n36 684 999 36 re\n36 612 999 36 re\n36 540 999 36 re\n36 468 999 36 re\n36 396 999 36 re\n"
    ++ codes "36 324 999 36 re\n36 252 999 36 re\n36 180 999 36 re\n36 108 999 36 re\n36 36 999 36 re\nf"

-- a strip of half an inch at each edge, and the width of its holes: 5/32 inch
unfoldable pub strips : List ℕ
strips = codes "\n0.7 G\n36 0 m 36 792 l 1035 0 m 1035 792 l S\nq\n1 J\n11.25 w\n"

-- a hole in the middle of each strip; the next one is half an inch above it
unfoldable pub hole : List ℕ
hole = codes "18 18 m 18 18 l 1053 18 m 1053 18 l S\n1 0 0 1 0 36 cm\n"

-- the number of a line, twelve points below the one before
unfoldable pub line_number : ℕ → List ℕ
line_number place = codes "(" ++ decimal (place + 1) ++ codes ") '\n"

abbrev pub line_numbers : List ℕ
line_numbers = flat_map line_number (range_with_len 0 66)

-- the numbers of the lines in both margins; a reader that looks for texts finds nothing there
unfoldable pub margins : List ℕ
margins =
    codes "Q\n/Span << /ActualText () >> BDC\n0.4 0.5 0.4 rg\nBT\n/F 7 Tf\n12 TL\n1 0 0 1 44 795 Tm\n" ++ line_numbers
    ++ codes "1 0 0 1 1018.6 795 Tm\n" ++ line_numbers ++ codes "ET\nEMC"

unfoldable pub full_look : List ℕ
full_look = bars ++ strips ++ flat_map (λ _. hole) (range_with_len 0 22) ++ margins

-- what is said of a form; one with a text names the font
abbrev pub form_head : FormLook → List ℕ
form_head Plain = codes "/Type /XObject /Subtype /Form /BBox [0 0 1071 792] "
form_head Bars = codes "/Type /XObject /Subtype /Form /BBox [0 0 1071 792] "
form_head Full = codes "/Type /XObject /Subtype /Form /BBox [0 0 1071 792] /Resources << /Font << /F 1 0 R >> >> "

-- what is on a form before a page is printed
abbrev pub form_content : FormLook → List ℕ
form_content Plain = []
form_content Bars = bars
form_content Full = full_look

-- object 2: the form
unfoldable pub form_body : FormLook → List ℕ
form_body look = stream_body (form_head look) (form_content look)
