-- The page of a day.
use Rattle.std.specs.Prelude.{ℕ, Bool, ◌==◌, if◌then◌else◌, List, [], ◌∷◌, ◌++◌, Option, Some, None, codes, length, max, option_map}
use Rattle.std.specs.List.{flat_map}
use Rattle.s3_cards.specs.Inner.Levels.{level_number}
use Rattle.s3_cards.specs.declared.levels.LevelId.{LevelId}
use Rattle.s3_cards.specs.declared.levels.LevelId.TheVariants.{One, Two}
use Rattle.s3_book.specs.declared.day.ChangedFile.{ChangedFile}
use Rattle.s3_book.specs.declared.day.Day.{Day}
use Rattle.s3_book.specs.declared.day.Extent.{Extent}
use Rattle.s3_book.specs.declared.day.Halt.{Halt}
use Rattle.s3_book.specs.declared.day.Job.{Job}
use Rattle.s3_book.specs.declared.day.Region.{Region}
use Rattle.s3_book.specs.Inner.Parts.{Piece, markup, value, link, number, page_of}
use Rattle.s3_book.specs.Inner.Reports.{closing, opening}
use Rattle.s3_book.specs.Inner.Scale.{begin, end, fits, lane, scaled, span, width}

-- ---- the parts of rows and of what is around them

-- how many records a file has, if it exists
abbrev pub count_piece : Option ℕ → Piece
count_piece (Some count) = number count
count_piece None = markup (codes "no file")

-- when a halt has its reply, or else the day's last turn
abbrev pub until : (turns : ℕ) → Option ℕ → ℕ
until turns (Some turn) = turn
until turns None = turns

-- what comes between the turn of a halt and the turn of its reply
abbrev pub reply_piece : Option ℕ → Piece
reply_piece (Some turn) = markup (codes ", waits until its reply at turn ")
reply_piece None = markup (codes ", waits at the end of the day, turn ")

-- the class of the files of a region
abbrev pub area_piece : Option LevelId → Piece
area_piece (Some One) = markup (codes "level1")
area_piece (Some Two) = markup (codes "level2")
area_piece None = markup (codes "masters")

-- a part of a label, if the label fits
abbrev pub shown_piece : Bool → Piece → Piece
shown_piece is_shown piece = if is_shown then piece else markup []

-- the title, what the day was begun with, the status and the summary
abbrev pub head : Day → List Piece
head day =
    markup (codes "<h1>")
    ∷ value day.title.now
    ∷ markup (codes "</h1>\n<pre>")
    ∷ value day.given.now
    ∷ markup (codes "</pre>\n<p><strong>")
    ∷ value day.status.now
    ∷ markup (codes "</strong></p>\n<pre>")
    ∷ value day.summary.now
    ∷ markup (codes "</pre>\n")
    ∷ []

-- what the line of time begins with
abbrev pub line_head : List Piece
line_head =
    markup (codes "<h2>Jobs by turn</h2>\n<svg class=\"chart\" viewBox=\"0 0 1000 64\" role=\"img\" aria-label=\"Jobs by turn\">\n<defs><pattern id=\"waits\" width=\"6\" height=\"6\" patternUnits=\"userSpaceOnUse\" patternTransform=\"rotate(45)\"><rect class=\"stripe\" width=\"3\" height=\"6\"/></pattern></defs>\n<rect class=\"lane\" width=\"1000\" height=\"30\"/>\n<rect class=\"lane\" y=\"34\" width=\"1000\" height=\"30\"/>\n")
    ∷ []

-- where the bar of a job may begin, given the end of the bar before it: the first job of a level has no job before it
abbrev pub start_of : (edge : ℕ) → Job → ℕ
start_of edge j = if j.number == 1 then 0 else edge

-- where the bar of a job begins and how wide it is, given where it may begin
abbrev pub left_of : (turns start : ℕ) → Job → ℕ
left_of turns start j = begin turns start j.first

abbrev pub wide_of : (turns start : ℕ) → Job → ℕ
wide_of turns start j = span turns (left_of turns start j) j.last

-- whether the label of a job fits into its bar, with the job's number
abbrev pub is_labelled : (turns start : ℕ) → Job → Bool
is_labelled turns start j = fits (wide_of turns start j) 48 (length j.program.now)

-- a job on the line of time, given where its bar may begin
abbrev pub bar : (turns start : ℕ) → Job → List Piece
bar turns start j =
    markup (codes "<svg x=\"")
    ∷ number (left_of turns start j)
    ∷ markup (codes "\" y=\"")
    ∷ number (lane j.level)
    ∷ markup (codes "\" width=\"")
    ∷ number (wide_of turns start j)
    ∷ markup (codes "\" height=\"30\"><title>level ")
    ∷ number (level_number j.level)
    ∷ markup (codes ", job ")
    ∷ number j.number
    ∷ markup (codes ", ")
    ∷ value j.program.now
    ∷ markup (codes ", ")
    ∷ value j.kind.now
    ∷ markup (codes ", from turn ")
    ∷ number j.first
    ∷ markup (codes " to ")
    ∷ number j.last
    ∷ markup (codes ", ")
    ∷ value j.ending.now
    ∷ markup (codes "</title><rect class=\"level")
    ∷ number (level_number j.level)
    ∷ markup (codes "\" width=\"1000\" height=\"30\"/><text x=\"4\" y=\"20\">")
    ∷ shown_piece (is_labelled turns start j) (number j.number)
    ∷ markup (codes " ")
    ∷ shown_piece (is_labelled turns start j) (value j.program.now)
    ∷ markup (codes "</text></svg>\n")
    ∷ []

-- what comes between the jobs and the halts on the line of time
abbrev pub line_middle : List Piece
line_middle = markup (codes "<g>\n") ∷ []

-- a halt on the line of time, and how long it waits
abbrev pub mark : (turns : ℕ) → Halt → List Piece
mark turns h =
    markup (codes "<svg x=\"")
    ∷ number (begin turns 0 h.turn)
    ∷ markup (codes "\" y=\"")
    ∷ number (lane h.level)
    ∷ markup (codes "\" width=\"")
    ∷ number (span turns (begin turns 0 h.turn) (until turns h.replied))
    ∷ markup (codes "\" height=\"30\"><title>")
    ∷ value h.letters.now
    ∷ markup (codes " at turn ")
    ∷ number h.turn
    ∷ reply_piece h.replied
    ∷ number (until turns h.replied)
    ∷ markup (codes "</title><rect fill=\"url(#waits)\" width=\"1000\" height=\"30\"/><rect class=\"mark\" width=\"6\" height=\"30\"/></svg>\n")
    ∷ []

-- what the line of time ends with
abbrev pub line_foot : (turns : ℕ) → List Piece
line_foot turns =
    markup (codes "</g>\n</svg>\n<p>Level 1 is above level 2. The whole line is ")
    ∷ number turns
    ∷ markup (codes " turns of both levels. A turn is numbered by the turns that both levels together had taken. A bar begins where the job before it was over; a job of few turns has a wider bar, which moves the next one.</p>\n<p><svg class=\"key\" width=\"6\" height=\"14\"><rect class=\"mark\" width=\"6\" height=\"14\"/></svg> A halt. <svg class=\"key\" width=\"30\" height=\"14\"><rect class=\"level1\" width=\"30\" height=\"14\"/><rect fill=\"url(#waits)\" width=\"30\" height=\"14\"/></svg> The job waits for the reply.</p>\n")
    ∷ []

-- what the table of jobs begins with
abbrev pub jobs_head : List Piece
jobs_head =
    markup (codes "<table>\n<tr><th>Level</th><th>Job</th><th>Program</th><th>Kind</th><th>From turn</th><th>To turn</th><th>Lines</th><th>End</th><th>Report</th></tr>\n")
    ∷ []

-- a job in the table, up to its report
abbrev pub job_row : Job → List Piece
job_row j =
    markup (codes "<tr><td>")
    ∷ number (level_number j.level)
    ∷ markup (codes "</td><td>")
    ∷ number j.number
    ∷ markup (codes "</td><td>")
    ∷ value j.program.now
    ∷ markup (codes "</td><td>")
    ∷ value j.kind.now
    ∷ markup (codes "</td><td>")
    ∷ number j.first
    ∷ markup (codes "</td><td>")
    ∷ number j.last
    ∷ markup (codes "</td><td>")
    ∷ number j.lines
    ∷ markup (codes "</td><td>")
    ∷ value j.ending.now
    ∷ markup (codes "</td><td>")
    ∷ []

-- a link to a report
abbrev pub report_link : List ℕ → List Piece
report_link name =
    markup (codes "<a href=\"")
    ∷ link name
    ∷ markup (codes "\">")
    ∷ value name
    ∷ markup (codes "</a>")
    ∷ []

-- what a table ends with
abbrev pub table_foot : List Piece
table_foot =
    markup (codes "</table>\n")
    ∷ []

-- what the table of halts begins with, given how many there are
abbrev pub halts_head : (count : ℕ) → List Piece
halts_head count =
    markup (codes "<h2>Halts: ")
    ∷ number count
    ∷ markup (codes "</h2>\n<table>\n<tr><th>Level</th><th>Job</th><th>Turn</th><th>Halt</th><th>Reply</th></tr>\n")
    ∷ []

-- a halt
abbrev pub halt_row : Halt → List Piece
halt_row h =
    markup (codes "<tr><td>")
    ∷ number (level_number h.level)
    ∷ markup (codes "</td><td>")
    ∷ number h.job
    ∷ markup (codes "</td><td>")
    ∷ number h.turn
    ∷ markup (codes "</td><td><pre>")
    ∷ value h.words.now
    ∷ markup (codes "</pre></td><td>")
    ∷ value h.reply.now
    ∷ markup (codes "</td></tr>\n")
    ∷ []

-- what the table of changed files begins with, given how many there are
abbrev pub files_head : (count : ℕ) → List Piece
files_head count =
    markup (codes "<h2>Changed files: ")
    ∷ number count
    ∷ markup (codes "</h2>\n<table>\n<tr><th>Region</th><th>File</th><th>Records before</th><th>Records after</th></tr>\n")
    ∷ []

-- a file that changed
abbrev pub file_row : ChangedFile → List Piece
file_row f =
    markup (codes "<tr><td>")
    ∷ value f.region.now
    ∷ markup (codes "</td><td>")
    ∷ value f.name.now
    ∷ markup (codes "</td><td>")
    ∷ count_piece f.before
    ∷ markup (codes "</td><td>")
    ∷ count_piece f.after
    ∷ markup (codes "</td></tr>\n")
    ∷ []

-- what the map of the pack begins with
abbrev pub map_head : List Piece
map_head =
    markup (codes "<h2>The pack</h2>\n")
    ∷ []

-- a region, up to its files
abbrev pub region_head : (whole : ℕ) → Region → List Piece
region_head whole r =
    markup (codes "<h3>")
    ∷ value r.name.now
    ∷ markup (codes "</h3>\n<p>")
    ∷ number r.tracks
    ∷ markup (codes " tracks, ")
    ∷ number r.free
    ∷ markup (codes " free</p>\n<svg class=\"chart ")
    ∷ area_piece r.level
    ∷ markup (codes "\" viewBox=\"0 0 1000 30\" role=\"img\" aria-label=\"Files by track\">\n<rect class=\"lane\" width=\"")
    ∷ number (width whole r.tracks)
    ∷ markup (codes "\" height=\"30\"/>\n")
    ∷ []

-- a file on the map
abbrev pub extent_bar : (whole : ℕ) → Extent → List Piece
extent_bar whole e =
    markup (codes "<svg x=\"")
    ∷ number (scaled whole e.before)
    ∷ markup (codes "\" width=\"")
    ∷ number (width whole e.tracks)
    ∷ markup (codes "\" height=\"30\"><title>")
    ∷ value e.name.now
    ∷ markup (codes "</title><rect class=\"file\" width=\"1000\" height=\"30\"/><text x=\"4\" y=\"20\">")
    ∷ shown_piece (fits (width whole e.tracks) 8 (length e.name.now)) (value e.name.now)
    ∷ markup (codes "</text></svg>\n")
    ∷ []

-- what the table of a region begins with
abbrev pub extents_head : List Piece
extents_head =
    markup (codes "</svg>\n<table>\n<tr><th>File</th><th>Tracks before it</th><th>Tracks</th><th>Records</th></tr>\n")
    ∷ []

-- a file in the table of its region
abbrev pub extent_row : Extent → List Piece
extent_row e =
    markup (codes "<tr><td>")
    ∷ value e.name.now
    ∷ markup (codes "</td><td>")
    ∷ number e.before
    ∷ markup (codes "</td><td>")
    ∷ number e.tracks
    ∷ markup (codes "</td><td>")
    ∷ number e.records
    ∷ markup (codes "</td></tr>\n")
    ∷ []

-- the end of a row
abbrev pub row_foot : List Piece
row_foot = markup (codes "</td></tr>\n") ∷ []

-- ---- sections

-- the bars of jobs, given the end of the bar before them
abbrev pub bars : (turns edge : ℕ) → List Job → List ℕ
bars turns edge [] = []
bars turns edge (j ∷ jobs) = page_of (bar turns (start_of edge j) j) ++ bars turns (end turns (start_of edge j) j.first j.last) jobs

-- the jobs on a line of time, with their halts
abbrev pub time_line : (turns : ℕ) → List Job → List Halt → List ℕ
time_line turns jobs halts = page_of line_head ++ bars turns 0 jobs ++ page_of line_middle ++ flat_map (λ h. page_of (mark turns h)) halts ++ page_of (line_foot turns)

-- a link to a report, if a job printed
abbrev pub link_of : Option (List ℕ) → List ℕ
link_of None = []
link_of (Some name) = page_of (report_link name)

abbrev pub job_text : Job → List ℕ
job_text j = page_of (job_row j) ++ link_of (option_map (λ name. name.now) j.file) ++ page_of row_foot

-- the jobs in a table
abbrev pub jobs_table : List Job → List ℕ
jobs_table jobs = page_of jobs_head ++ flat_map job_text jobs ++ page_of table_foot

abbrev pub halts_table : List Halt → List ℕ
halts_table halts = page_of (halts_head (length halts)) ++ flat_map (λ h. page_of (halt_row h)) halts ++ page_of table_foot

abbrev pub files_table : List ChangedFile → List ℕ
files_table files = page_of (files_head (length files)) ++ flat_map (λ f. page_of (file_row f)) files ++ page_of table_foot

-- the files of a region, to the scale of the whole, and in a table
abbrev pub region_drawn : (whole : ℕ) → Region → List ℕ
region_drawn whole r = page_of (region_head whole r) ++ flat_map (λ e. page_of (extent_bar whole e)) r.files.now ++ page_of extents_head

abbrev pub region_table : List Extent → List ℕ
region_table files = flat_map (λ e. page_of (extent_row e)) files ++ page_of table_foot

abbrev pub region_text : (whole : ℕ) → Region → List ℕ
region_text whole r = region_drawn whole r ++ region_table r.files.now

-- the tracks of the largest region
abbrev pub largest : List Region → ℕ
largest [] = 0
largest (r ∷ regions) = max r.tracks (largest regions)

-- the map of the pack, all regions to one scale
abbrev pub pack_map : List Region → List ℕ
pack_map regions = page_of map_head ++ flat_map (λ r. region_text (largest regions) r) regions

-- what happened: jobs, halts, files
abbrev pub events : Day → List ℕ
events day = time_line day.turns day.jobs.now day.halts.now ++ jobs_table day.jobs.now ++ halts_table day.halts.now ++ files_table day.files.now

-- the page of a day
abbrev pub index_page : Day → List ℕ
index_page day = opening day.title.now ++ page_of (head day) ++ events day ++ pack_map day.regions.now ++ page_of closing
