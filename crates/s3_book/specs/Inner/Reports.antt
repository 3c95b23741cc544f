-- The page of a job's report.
use Rattle.std.specs.Prelude.{ℕ, List, [], ◌∷◌, ◌++◌, codes}
use Rattle.s3_book.specs.Inner.Parts.{Piece, markup, value, report, page_of}

-- how all pages look: light or dark, neighbours in a chart apart, no table without a row, and in print a form of 14 7/8 by 11 inches for each page of a report, with bars of three lines
abbrev pub style : List Piece
style =
    markup (codes ":root{color-scheme:light dark;--ink:#111;--paper:#fff;--bar:#e1f2e1;--edge:#999;--one:#b9d4f0;--two:#f0d2ae;--own:#d9c6e8;--halt:#b00}\n")
    ∷ markup (codes "@media screen and (prefers-color-scheme:dark){\n")
    ∷ markup (codes ":root{--ink:#eee;--paper:#151515;--bar:#1c331c;--edge:#777;--one:#24486e;--two:#6e4b1c;--own:#523a68;--halt:#f66}}\n")
    ∷ markup (codes "body{color:var(--ink);background:var(--paper);font:1rem/1.4 sans-serif;margin:1rem}\n")
    ∷ markup (codes "a{color:inherit;white-space:nowrap}\n")
    ∷ markup (codes "table{border-collapse:collapse}\n")
    ∷ markup (codes "table:not(:has(td)){display:none}\n")
    ∷ markup (codes "td,th{border-bottom:1px solid var(--edge);padding:.2rem .7rem;text-align:left;vertical-align:top}\n")
    ∷ markup (codes "pre{margin:0;white-space:pre-wrap}\ntd:has(pre){width:100%;max-width:0}\ntd pre{white-space:pre;overflow-x:auto}\n@media (max-width:40rem){td,th{padding:.2rem .3rem}}\n")
    ∷ markup (codes ".chart{display:block;max-width:70rem;margin:.5rem 0;overflow:visible}\n")
    ∷ markup (codes ".lane{fill:none;stroke:var(--edge)}\n")
    ∷ markup (codes ".level1{fill:var(--one)}\n")
    ∷ markup (codes ".level2{fill:var(--two)}\n.masters{fill:var(--own)}\n.mark{fill:var(--halt)}\n.stripe{fill:var(--paper);opacity:.75}\n")
    ∷ markup (codes ".chart>svg:nth-of-type(even)>rect{opacity:.7}\n.key{vertical-align:text-bottom}\n")
    ∷ markup (codes "text{fill:var(--ink);font:14px sans-serif}\n")
    ∷ markup (codes "section{position:relative;width:132ch;height:792pt;padding:0 4ch;margin:1rem 0;border:1px solid var(--edge);\n")
    ∷ markup (codes "font:10pt/12pt monospace;background:repeating-linear-gradient(var(--bar) 0 36pt,transparent 36pt 72pt);\n")
    ∷ markup (codes "print-color-adjust:exact;page:form}\n")
    ∷ markup (codes "section div{height:12pt;white-space:pre}\n")
    ∷ markup (codes "section p{margin:-12pt 0 0}\n")
    ∷ markup (codes "@page form{size:14.875in 11in;margin:0}\n")
    ∷ markup (codes "@media print{body{margin:0}nav{display:none}tr,svg{break-inside:avoid}h2,h3,h3+p{break-after:avoid}td,th{padding:.2rem .3rem}td pre{font-size:6pt;overflow:visible}\n")
    ∷ markup (codes "section{font-size:12pt;height:791pt;margin:0;padding:0 calc((1071pt - 132ch)/2);border:0;overflow:hidden;\n")
    ∷ markup (codes "break-after:page;break-inside:avoid}\n")
    ∷ markup (codes "section:last-child{break-after:auto}}\n")
    ∷ []

-- what each page begins with before the style, given its title
abbrev pub head_of : List ℕ → List Piece
head_of title =
    markup (codes "<!DOCTYPE html>\n<html lang=\"en\">\n<head>\n<meta charset=\"utf-8\">\n<meta name=\"viewport\" content=\"width=device-width\">\n")
    ∷ markup (codes "<title>")
    ∷ value title
    ∷ markup (codes "</title>\n<style>\n")
    ∷ []

-- what comes between the style and the content of a page
abbrev pub head_end : List Piece
head_end = markup (codes "</style>\n</head>\n<body>\n") ∷ []

-- what each page begins with, given its title
abbrev pub opening : List ℕ → List ℕ
opening title = page_of (head_of title) ++ page_of style ++ page_of head_end

-- what each page ends with
abbrev pub closing : List Piece
closing = markup (codes "</body>\n</html>\n") ∷ []

-- a link to the day, the title, and the pages of the report
abbrev pub sheets : (title text : List ℕ) → List Piece
sheets title text =
    markup (codes "<nav><a href=\"index.html\">The day</a> ")
    ∷ value title
    ∷ markup (codes "</nav>\n<main><section><div>")
    ∷ report text
    ∷ markup (codes "</div></section></main>\n")
    ∷ []

-- the page of a report, given its text
abbrev pub report_page : (title text : List ℕ) → List ℕ
report_page title text = opening title ++ page_of (sheets title text) ++ page_of closing
