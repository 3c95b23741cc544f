-- A script, read line by line.
use Rattle.std.proofs.Common.{◌≡◌, ◌<◌, ◌≤◌, ◌+◌, ℕ, List, [], ◌∷◌, ◌++◌, Result, Ok, Err, Some, None, length, refl, sym, ap, ◌∙◌, arith, append_assoc}
use Rattle.std.specs.List.{flat_map}
use Rattle.std.specs.Str.Lines.{lines}
use Rattle.std.proofs.lemmas.List.{append-nil}
use Rattle.std.proofs.lemmas.Grind.{flat_map-append}
use Rattle.s3_bureau.specs.declared.entry.Entry.{Entry}
use Rattle.s3_bureau.specs.declared.script.Command.{Command}
use Rattle.s3_bureau.specs.Script.{command_of, entries_by, entries_from, entries_of, with_command, with_line}

-- entries before those of the lines that are left
abbrev pub after_those : List Entry → Result (List Entry) ℕ → Result (List Entry) ℕ
after_those entries (Ok more) = Ok (entries ++ more)
after_those entries (Err line) = Err line

-- these commands were read from so many lines, and this text is left
pub record ReadSoFar (script : List ℕ) (commands : List Command) (passed : ℕ) (rest : List ℕ) : Type 0 where
  pub meaning : entries_of script ≡ after_those (flat_map entries_by commands) (entries_from (passed + 1) (lines rest))
  pub room : passed + length rest ≤ length script

pub none_read : (script : List ℕ) → ReadSoFar script [] 0 script
unfolding entries_of
none_read script = record { meaning = same (entries_from 1 (lines script)); room = omega arith }
  where
    same : (meant : Result (List Entry) ℕ) → meant ≡ after_those [] meant
    same (Ok entries) = refl
    same (Err line) = refl

pub all_read : (script : List ℕ) (commands : List Command) (passed : ℕ) (rest : List ℕ) → ReadSoFar script commands passed rest → lines rest ≡ [] → entries_of script ≡ Ok (flat_map entries_by commands)
all_read script commands passed rest so_far none =
    so_far.meaning ∙ rw none (ap (λ entries. Ok entries) (append-nil (flat_map entries_by commands)))

-- an empty line is passed over
pub passed_over : (script : List ℕ) (commands : List Command) (passed : ℕ) (rest after line : List ℕ) → ReadSoFar script commands passed rest → lines rest ≡ line ∷ lines after → length after < length rest → line ≡ [] → ReadSoFar script commands (passed + 1) after
passed_over script commands passed rest after line so_far first shorter empty = record {
  meaning = so_far.meaning ∙ rw (first, empty) refl;
  room = let room = so_far.room in omega arith;
}

more_after : (commands : List Command) (command : Command) (meant : Result (List Entry) ℕ) (n : ℕ) → after_those (flat_map entries_by commands) (with_command n (Some command) meant) ≡ after_those (flat_map entries_by (commands ++ command ∷ [])) meant
more_after commands command (Ok more) n =
    ap (λ entries. Ok entries) (sym (append_assoc (flat_map entries_by commands) (entries_by command) more)
    ∙ ap (λ entries. entries ++ more) (sym (flat_map-append entries_by commands (command ∷ []) ∙ ap (λ entries. flat_map entries_by commands ++ entries) (append-nil (entries_by command)))))
more_after commands command (Err line) n = refl

-- line n with a command before the rest
command_line : (n : ℕ) (line : List ℕ) (command : Command) (meant : Result (List Entry) ℕ) → command_of line ≡ Some command → with_line n line meant ≡ with_command n (Some command) meant
unfolding command_of
command_line n [] command meant well = cc
command_line n (letter ∷ more) command meant well = rw well refl

-- one command more
pub one_more : (script : List ℕ) (commands : List Command) (passed : ℕ) (rest after line : List ℕ) (command : Command) → ReadSoFar script commands passed rest → lines rest ≡ line ∷ lines after → length after < length rest → command_of line ≡ Some command → ReadSoFar script (commands ++ command ∷ []) (passed + 1) after
one_more script commands passed rest after line command so_far first shorter well = record {
  meaning = so_far.meaning ∙ rw (first, command_line (passed + 1) line command (entries_from (passed + 1 + 1) (lines after)) well)
      (more_after commands command (entries_from (passed + 1 + 1) (lines after)) (passed + 1));
  room = let room = so_far.room in omega arith;
}

-- a line that isn't well formed
ill_formed_line : (n : ℕ) (line : List ℕ) (meant : Result (List Entry) ℕ) → 0 < length line → command_of line ≡ None → with_line n line meant ≡ Err n
ill_formed_line n [] meant full ill = absurd (omega arith)
ill_formed_line n (letter ∷ more) meant full ill = rw ill refl

pub ill_formed : (script : List ℕ) (commands : List Command) (passed : ℕ) (rest after line : List ℕ) → ReadSoFar script commands passed rest → lines rest ≡ line ∷ lines after → 0 < length line → command_of line ≡ None → entries_of script ≡ Err (passed + 1)
ill_formed script commands passed rest after line so_far first full ill =
    so_far.meaning ∙ rw (first, ill_formed_line (passed + 1) line (entries_from (passed + 1 + 1) (lines after)) full ill) refl
