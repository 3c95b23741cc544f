-- The entry of a file in a table of names: its name with its File Description specification.
use Rattle.s3_cards.specs.declared.name.Name.{Name}
use Rattle.s3_lines.specs.declared.sheet.FileLine.{FileLine}

abbrev pub file_entry : FileLine → Name × FileLine
file_entry file = (file.name, file)
