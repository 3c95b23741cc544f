-- Codes that are put into a record, or looked for in it, one after another.
use Rattle.std.proofs.Common.{◌≡◌, ℕ, ◌+◌, ◌*◌, ◌%◌, ◌<◌, sym, ◌∙◌, ap, ap₂, subst, true, false, ◌&&◌, List, length, take, get_or}
use Rattle.std.proofs.Math.Nat.{mod-eq_of_lt}
use Rattle.std.specs.List.{list_all}
use Rattle.std.proofs.lemmas.List.Folds.{list_all_more}
use Rattle.std.proofs.lemmas.List.Sums.{fold_more}
use Rattle.s3_lines.specs.declared.sheet.RecordCode.{RecordCode}
use Rattle.s3_meaning.specs.Selection.{code_holds}
use Rattle.s3_record_types.specs.Inner.Codes.{with_code, with_codes}

pub one_more_code : (bytes : List ℕ) (codes : List RecordCode) (i : ℕ) (c : RecordCode) → i < length codes → c ≡ get_or codes i c → with_code (with_codes bytes (take i codes)) c ≡ with_codes bytes (take (i + 1) codes)
one_more_code bytes codes i c h is = sym (fold_more with_code bytes codes i c h ∙ ap (with_code (with_codes bytes (take i codes))) (sym is))

pub one_more_held : (codes : List RecordCode) (bytes : List ℕ) (i : ℕ) (c : RecordCode) → i < length codes → c ≡ get_or codes i c → list_all (code_holds bytes) (take i codes) ≡ true → code_holds bytes c ≡ true → list_all (code_holds bytes) (take (i + 1) codes) ≡ true
one_more_held codes bytes i c h is before one =
    list_all_more (code_holds bytes) codes i c h ∙ ap₂ (λ a b. a && b) before (sym (ap (code_holds bytes) is) ∙ one)

pub kept_byte : (character : ℕ) → character < 256 → character ≡ character % 256
kept_byte character h = sym (mod-eq_of_lt h)

pub kept_zone : (zone rest : ℕ) → zone < 16 → zone * 16 + rest ≡ zone % 16 * 16 + rest
kept_zone zone rest h = ap (λ z. z * 16 + rest) (sym (mod-eq_of_lt h))
