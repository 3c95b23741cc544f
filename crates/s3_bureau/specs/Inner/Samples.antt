-- Entries, printed lines and halts, for worked examples.
use Rattle.std.specs.Prelude.{ℕ, List, Option}
use Rattle.s3_cards.specs.declared.levels.LevelId.{LevelId}
use Rattle.s3_cards.specs.Printed.{Printed}
use Rattle.s3_solo.specs.declared.action.Action.TheVariants.{Turn, Reply, Drain}
use Rattle.s3_operator.specs.declared.halt_code.HaltCode.{HaltCode}
use Rattle.s3_operator.specs.Halts.{ShownHalt}
use Rattle.s3_bureau.specs.declared.entry.Entry.{Entry}

abbrev pub turn : LevelId → Entry
turn level = record { level = level; action = Turn }

abbrev pub drain : LevelId → Entry
drain level = record { level = level; action = Drain }

abbrev pub reply : LevelId → ℕ → Entry
reply level digit = record { level = level; action = Reply digit }

abbrev pub printed : (page line : ℕ) → List ℕ → Printed
printed page line text = record { page = page; line = line; text = text }

abbrev pub shown : ℕ → HaltCode → List (ℕ × ℕ) → Option ℕ → ShownHalt
shown job code details reply = record { job = job; code = code; details = details; reply = reply }
