-- Records of a fixed length that are written, and then read.
use Rattle.std.proofs.Common.{◌≡◌, ℕ, ◌+◌, ◌-◌, ◌<◌, ◌≤◌, List, [], ◌∷◌, ◌++◌, Bool, true, false, cond, length, map, take, drop, get_or, slice_get, refl, sym, ap, ap₂, ◌∙◌, arith, subst, append_assoc, length-append, eqb-true, inl, inr}
use Rattle.std.specs.Prelude.{Option, Some, None, is_some, unwrap_or, nat_le, ◌==◌, ◌&&◌}
use Rattle.std.specs.List.{All, flat_map, list_all, slice_split}
use Rattle.std.specs.Str.Lines.{lines, lines_of_parts, strip_carriage_return}
use Rattle.std.proofs.lemmas.Bool.{and_parts, cases_Bool, eq-eqb, le-leb, leb-true, or_right}
use Rattle.std.proofs.lemmas.List.{append-nil, get_or-append-add, length-map}
use Rattle.std.proofs.lemmas.List.Elements.{All-cons, All-head, All-nil, All-tail}
use Rattle.std.proofs.lemmas.List.Folds.{list_all_at}
use Rattle.std.proofs.lemmas.List.Splits.{length-slice_split, slice_split_at}
use Rattle.std.proofs.Math.Seq.{drop-append_seam, take-append_seam}
use Rattle.s3_cards.specs.Codes.{code_page, ebcdic, ebcdic_of, host_of, shown_byte}
use Rattle.s3_cards.proofs.CodeLemmas.{both_ways}
use Rattle.s3_cells.specs.Inner.Texts.{has_character, has_code, text_bytes}
use Rattle.s3_slots.specs.Header.{region_of}
use Rattle.s3_slots.specs.Slots.{slots_of}
use Rattle.s3_slots.specs.declared.header.Header.{Header}
use Rattle.s3_slots.specs.declared.slot.Slot.TheVariants.{Sound}
use Rattle.s3_slots.proofs.Judging.{slots_kept}
use Rattle.s3_slots.proofs.Keeping.{formed_parts}
use Rattle.s3_labels.specs.Areas.{area_of}
use Rattle.s3_unload.specs.Inner.Fixed.{fixed_of, fixed_text, is_fixed}
use Rattle.s3_unload.specs.declared.fixed.FixedForm.{FixedForm}
use Rattle.s3_unload.specs.declared.fixed.FixedForm.TheVariants.{Ebcdic, EbcdicLines, Ascii, AsciiLines}
use Rattle.s3_load.specs.declared.order.Order.{Order}
use Rattle.s3_load.specs.Inner.Filling.{records_of}
use Rattle.s3_load.specs.Inner.FixedTexts.{AreOfBytes, AreWritable, IsLoadedFixed, ReadsAs, cut, is_piece, pieces, record_of}
use Rattle.s3_load.specs.Inner.Loaded.{HasFile}
use Rattle.s3_load.specs.Inner.RoundTrip.{AreUnloaded, HasRecordsAgain}
use Rattle.s3_load.proofs.Bytes.{from_all}
use Rattle.s3_load.proofs.FixedLemmas.{nothing_to_cut, whole_cut}
use Rattle.s3_load.proofs.LoadedFiles.{AreWhole, loaded_file, unloaded_rows}
use Rattle.s3_load.proofs.LoadedPacks.{own_on}

-- ---- characters of codes
-- a code with a character is the code of that character
again_by : (code : ℕ) (o : Option ℕ) → host_of code ≡ o → is_some o ≡ true → ebcdic_of (unwrap_or o 0x3f) ≡ Some code
again_by code None is some = absurd cc
again_by code (Some character) is some = (both_ways character code).1 is

code_again : (code : ℕ) → has_character code ≡ true → ebcdic_of (shown_byte code) ≡ Some code
code_again code some = again_by code (host_of code) refl some

codes_again : (bytes : List ℕ) → list_all has_character bytes ≡ true → ebcdic (map shown_byte bytes) ≡ bytes
unfolding ebcdic
codes_again [] all = refl
codes_again (byte ∷ bytes) all =
    let both = and_parts (has_character byte) (list_all has_character bytes) all in
    ap₂ (λ code more. code ∷ more) (ap (λ o. unwrap_or o 0) (code_again byte both.0)) (codes_again bytes both.1)

characters_coded : (bytes : List ℕ) → list_all has_character bytes ≡ true → list_all has_code (map shown_byte bytes) ≡ true
characters_coded [] all = refl
characters_coded (byte ∷ bytes) all =
    let both = and_parts (has_character byte) (list_all has_character bytes) all in
    rw (code_again byte both.0) (characters_coded bytes both.1)

-- a record that has its length needs no blanks
text_again : (n : ℕ) (bytes : List ℕ) → length bytes ≡ n → list_all has_character bytes ≡ true → text_bytes n (map shown_byte bytes) ≡ bytes
text_again n bytes long all =
    let none : n - length (map shown_byte bytes) ≡ 0 = omega (arith, long, length-map bytes shown_byte) in
    rw none (append-nil (ebcdic (map shown_byte bytes)) ∙ codes_again bytes all)

-- ---- parts of so many bytes
cut_written : (unit : ℕ) (write : List ℕ → List ℕ) (records : List (List ℕ)) → 1 ≤ unit → All (λ bytes. length (write bytes) ≡ unit) records → cut unit (flat_map write records) ≡ map write records
cut_written unit write [] u long = nothing_to_cut unit [] refl
cut_written unit write (bytes ∷ records) u long =
    let rest = flat_map write records in
    let is : length (write bytes) ≡ unit = All-head (λ b. length (write b) ≡ unit) bytes records long in
    let some : 0 < length (write bytes ++ rest) = omega (arith, u, is, length-append (write bytes) rest) in
    let front : take unit (write bytes ++ rest) ≡ write bytes = ap (λ k. take k (write bytes ++ rest)) (sym is) ∙ take-append_seam (write bytes) rest in
    let behind : drop unit (write bytes ++ rest) ≡ rest = ap (λ k. drop k (write bytes ++ rest)) (sym is) ∙ drop-append_seam (write bytes) rest in
    whole_cut unit (write bytes ++ rest) u some
    ∙ ap₂ (λ first left. first ∷ cut unit left) front behind
    ∙ ap (λ more. write bytes ∷ more) (cut_written unit write records u (All-tail (λ b. length (write b) ≡ unit) bytes records long))

-- ---- lines
abbrev is_newline : ℕ → Bool
is_newline byte = byte == 10

newline_has_none : has_code 10 ≡ false
unfolding code_page
newline_has_none = refl

return_has_none : has_code 13 ≡ false
unfolding code_page
return_has_none = refl

stands_not : (line : List ℕ) (k d byte : ℕ) → list_all has_code line ≡ true → k < length line → has_code byte ≡ false → (get_or line k d == byte) ≡ false
stands_not line k d byte all within none = elim (cases_Bool (get_or line k d == byte)) [
  | inl h ↦ absurd
      (let lacks : list_all has_code line ≡ false = list_all_at has_code line k d within (ap has_code (eqb-true (get_or line k d) byte h) ∙ none) in let e : true ≡ false = sym all ∙ lacks in cc)
  | inr h ↦ h
]

keeps : (line : List ℕ) → list_all has_code line ≡ true → strip_carriage_return line ≡ line
keeps [] all = refl
keeps (x ∷ line) all =
    ap (λ (b : Bool). cond b (take (length (x ∷ line) - 1) (x ∷ line)) (x ∷ line)) (stands_not (x ∷ line) (length (x ∷ line) - 1) 0 13 all (omega arith) return_has_none)

lines_cons : (x : List ℕ) (parts : List (List ℕ)) → 0 < length parts → lines_of_parts (x ∷ parts) ≡ strip_carriage_return x ∷ lines_of_parts parts
lines_cons x [] h = absurd (omega arith)
lines_cons x (y ∷ more) h = refl

first_line : (line rest : List ℕ) → list_all has_code line ≡ true → lines (line ++ 10 ∷ rest) ≡ line ∷ lines rest
first_line line rest all =
    ap lines_of_parts (slice_split_at is_newline line 10 rest (λ k d within. stands_not line k d 10 all within newline_has_none) refl)
    ∙ lines_cons line (slice_split is_newline rest) (omega (arith, length-slice_split is_newline rest))
    ∙ ap (λ first. first ∷ lines rest) (keeps line all)

lines_written : (records : List (List ℕ)) → list_all (list_all has_character) records ≡ true → lines (fixed_text AsciiLines records) ≡ map (map shown_byte) records
lines_written [] all = refl
lines_written (bytes ∷ records) all =
    let both = and_parts (list_all has_character bytes) (list_all (list_all has_character) records) all in
    ap lines (append_assoc (map shown_byte bytes) (10 ∷ []) (fixed_text AsciiLines records))
    ∙ first_line (map shown_byte bytes) (fixed_text AsciiLines records) (characters_coded bytes both.0)
    ∙ ap (λ more. map shown_byte bytes ∷ more) (lines_written records both.1)

-- ---- each piece is its record
-- the pieces of what is written of records, each a record, and this one
record IsPieceOf (form : FixedForm) (n : ℕ) (bytes piece : List ℕ) : Type 0 where
  fits : is_piece form n piece ≡ true
  read : record_of form n piece ≡ bytes

read_by : (form : FixedForm) (n : ℕ) (write : List ℕ → List ℕ) (text : List ℕ) (records : List (List ℕ)) → pieces form n text ≡ map write records → All (λ bytes. IsPieceOf form n bytes (write bytes)) records → ReadsAs form n text records
read_by form n write text records are each = record {
  fits = ap (list_all (is_piece form n)) are ∙ all_fit records each;
  read = sym (ap (map (record_of form n)) are ∙ all_again records each);
}
  where
    all_fit : (rs : List (List ℕ)) → All (λ bytes. IsPieceOf form n bytes (write bytes)) rs → list_all (is_piece form n) (map write rs) ≡ true
    all_fit [] e = refl
    all_fit (r ∷ rs) e = rw (All-head (λ b. IsPieceOf form n b (write b)) r rs e).fits (all_fit rs (All-tail (λ b. IsPieceOf form n b (write b)) r rs e))

    all_again : (rs : List (List ℕ)) → All (λ bytes. IsPieceOf form n bytes (write bytes)) rs → map (record_of form n) (map write rs) ≡ rs
    all_again [] e = refl
    all_again (r ∷ rs) e = ap₂ (λ first more. first ∷ more) (All-head (λ b. IsPieceOf form n b (write b)) r rs e).read (all_again rs (All-tail (λ b. IsPieceOf form n b (write b)) r rs e))

pieces_of : (form : FixedForm) (n : ℕ) (write : List ℕ → List ℕ) → ((bytes : List ℕ) → length bytes ≡ n → is_fixed form bytes ≡ true → IsPieceOf form n bytes (write bytes)) → (records : List (List ℕ)) → All (λ bytes. length bytes ≡ n) records
    → list_all (is_fixed form) records ≡ true → All (λ bytes. IsPieceOf form n bytes (write bytes)) records
pieces_of form n write one [] long fits = All-nil (λ bytes. IsPieceOf form n bytes (write bytes))
pieces_of form n write one (bytes ∷ records) long fits =
    let both = and_parts (is_fixed form bytes) (list_all (is_fixed form) records) fits in
    All-cons (λ b. IsPieceOf form n b (write b)) bytes records (one bytes (All-head (λ b. length b ≡ n) bytes records long) both.0)
    (pieces_of form n write one records (All-tail (λ b. length b ≡ n) bytes records long) both.1)

piece_in_ebcdic : (n : ℕ) (bytes : List ℕ) → length bytes ≡ n → IsPieceOf Ebcdic n bytes (fixed_of Ebcdic bytes)
piece_in_ebcdic n bytes long = record {
  fits = eq-eqb (length (bytes ++ [])) n (ap length (append-nil bytes) ∙ long);
  read = ap (λ k. take k (bytes ++ [])) (sym long) ∙ take-append_seam bytes [];
}

piece_in_ebcdic_lines : (n : ℕ) (bytes : List ℕ) → length bytes ≡ n → IsPieceOf EbcdicLines n bytes (fixed_of EbcdicLines bytes)
piece_in_ebcdic_lines n bytes long =
    let piece = bytes ++ 37 ∷ [] in
    let longer : length piece ≡ n + 1 = omega (arith, long, length-append bytes (37 ∷ [])) in
    let ends : get_or piece n 0 ≡ 37 = ap (λ k. get_or piece k 0) (let e : n ≡ length bytes + 0 = omega (arith, long) in e) ∙ get_or-append-add bytes (37 ∷ []) 0 0 in
    record {
      fits = or_right (length piece == n) ((length piece == n + 1) && (get_or piece n 0 == 37)) (ap₂ (λ a b. a && b) (eq-eqb (length piece) (n + 1) longer) (eq-eqb (get_or piece n 0) 37 ends));
      read = ap (λ k. take k piece) (sym long) ∙ take-append_seam bytes (37 ∷ []);
    }

piece_in_ascii : (n : ℕ) (bytes : List ℕ) → length bytes ≡ n → list_all has_character bytes ≡ true → IsPieceOf Ascii n bytes (fixed_of Ascii bytes)
piece_in_ascii n bytes long all =
    let same : map shown_byte bytes ++ [] ≡ map shown_byte bytes = append-nil (map shown_byte bytes) in
    record {
      fits = ap (is_piece Ascii n) same ∙ ap₂ (λ a b. a && b) (eq-eqb (length (map shown_byte bytes)) n (length-map bytes shown_byte ∙ long)) (characters_coded bytes all);
      read = ap (record_of Ascii n) same ∙ text_again n bytes long all;
    }

piece_in_ascii_lines : (n : ℕ) (bytes : List ℕ) → length bytes ≡ n → list_all has_character bytes ≡ true → IsPieceOf AsciiLines n bytes (map shown_byte bytes)
piece_in_ascii_lines n bytes long all = record {
  fits = ap₂ (λ a b. a && b) (le-leb (length (map shown_byte bytes)) n (omega (arith, long, length-map bytes shown_byte))) (characters_coded bytes all);
  read = text_again n bytes long all;
}

-- ---- all records
pub written_read : (form : FixedForm) (n : ℕ) (records : List (List ℕ)) → 1 ≤ n → AreWritable form n records → ReadsAs form n (fixed_text form records) records
written_read Ebcdic n records u is =
    read_by Ebcdic n (fixed_of Ebcdic) (fixed_text Ebcdic records) records
    (cut_written n (fixed_of Ebcdic) records u (λ k d low. ap length (append-nil (get_or records k d)) ∙ is.long k d low))
    (pieces_of Ebcdic n (fixed_of Ebcdic) (λ bytes long fits. piece_in_ebcdic n bytes long) records is.long is.fits)
written_read EbcdicLines n records u is =
    read_by EbcdicLines n (fixed_of EbcdicLines) (fixed_text EbcdicLines records) records
    (cut_written (n + 1) (fixed_of EbcdicLines) records (omega arith) (λ k d low. length-append (get_or records k d) (37 ∷ []) ∙ ap (λ m. m + 1) (is.long k d low)))
    (pieces_of EbcdicLines n (fixed_of EbcdicLines) (λ bytes long fits. piece_in_ebcdic_lines n bytes long) records is.long is.fits)
written_read Ascii n records u is =
    read_by Ascii n (fixed_of Ascii) (fixed_text Ascii records) records
    (cut_written n (fixed_of Ascii) records u (λ k d low. ap length (append-nil (map shown_byte (get_or records k d))) ∙ length-map (get_or records k d) shown_byte ∙ is.long k d low))
    (pieces_of Ascii n (fixed_of Ascii) (λ bytes long fits. piece_in_ascii n bytes long fits) records is.long is.fits)
written_read AsciiLines n records u is =
    read_by AsciiLines n (map shown_byte) (fixed_text AsciiLines records) records (lines_written records is.fits) (pieces_of AsciiLines n (map shown_byte) (λ bytes long fits. piece_in_ascii_lines n bytes long fits) records is.long is.fits)

-- ---- unloaded, and then loaded
-- a record of a file of a pack has a byte
some_byte : (order : Order) (added : List (List ℕ)) (header : Header) (old new : List (List ℕ)) → HasFile order added header old new → 1 ≤ order.layout.now.record_length
some_byte order added header old new file =
    let region = region_of order.level header in
    let n = file.label.record_length in
    let own : slice_get (slots_of header.format region (area_of order.level) new) file.slot ≡ Some (Sound file.label) = sym (own_on order.level header new file.slot) ∙ file.there in
    let formed = (slots_kept header.format region (area_of order.level) new).formed file.slot file.label own in
    let lengths = and_parts (nat_le 1 n) (nat_le n 1024) (formed_parts region file.label formed).length in
    subst (λ long. 1 ≤ long) file.asked.long (leb-true 1 n lengths.0)

pub written_loaded : (order : Order) (form : FixedForm) (records old new : List (List ℕ)) → order.appends ≡ false → AreWritable form order.layout.now.record_length records → AreOfBytes records
    → IsLoadedFixed order form (Some (fixed_text form records)) old new → HasRecordsAgain order records new
written_loaded order form records old new anew is small loaded =
    let n = order.layout.now.record_length in
    let text = loaded.records (fixed_text form records) refl in
    let header = loaded.has.header in
    let file = loaded.has.filled in
    let some = some_byte order (records_of loaded.rows) header old new file in
    let back : records_of text.made ≡ records = text.are_records.read ∙ sym (written_read form n records some is).read in
    let whole : AreWhole n records = record { long = is.long; bytes = λ k d low. from_all (get_or records k d) (small k d low) } in
    record {
      label = file.label;
      file = loaded_file order (records_of loaded.rows) header old new file;
      unloaded = subst (AreUnloaded order file.label new) back (unloaded_rows order text.made loaded.rows header old new anew file text.same text.unkeyed text.keyed (subst (AreWhole n) (sym back) whole));
    }
