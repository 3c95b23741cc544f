use Rattle.std.proofs.Common.{◌≡◌, ◌-◌, take, drop, length, replicate}
use Rattle.s3_cards.specs.Codes.{ebcdic}
use Rattle.s3_cards.specs.declared.ebcdic.TheConstants.{BLANK}
use Rattle.s3_cells.proofs.texts.put_text.Given as goal

abbrev pub invariant-loop-place : goal.invariant-loop-place
invariant-loop-place l = record {
  written : take l.place l.bytes ≡ ebcdic (take l.place l.text);
  blank : drop l.place l.bytes ≡ replicate (length l.bytes - l.place) BLANK;
}
