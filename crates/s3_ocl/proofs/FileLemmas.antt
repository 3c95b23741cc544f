-- The names of files.
use Rattle.std.proofs.Common.{◌≡◌, ◌<◌, ◌≤◌, List, [], ◌∷◌, ◌++◌, Bool, true, false, refl, ◌∙◌, sym, ap, arith, cond, length, take, drop, length-append, take-append-drop}
use Rattle.std.specs.Prelude.{Some, ◌||◌}
use Rattle.std.proofs.lemmas.List.{drop-append-le, drop_all}
use Rattle.std.proofs.lemmas.List.Folds.{list_any-append}
use Rattle.s3_cards.specs.declared.name.Name.{Name}
use Rattle.s3_cards.specs.Names.{same_name}
use Rattle.s3_ocl.specs.declared.contents.FileStatement.{FileStatement}
use Rattle.s3_ocl.specs.Faults.{is_taken}

-- a name is taken if one of the first files has it, or one of the others
pub taken_in_parts : (files few : List FileStatement) (names : Name → Bool) (name : Name) → few ≡ take 8 files
    → ((other : Name) → names other ≡ is_taken (drop 8 files) (Some other))
    → (is_taken few (Some name) || names name) ≡ is_taken files (Some name)
taken_in_parts files few names name is_few is_rest =
    ap (λ (fs : List FileStatement). is_taken fs (Some name) || names name) is_few
    ∙ ap (λ (b : Bool). is_taken (take 8 files) (Some name) || b) (is_rest name)
    ∙ sym (list_any-append (λ (f : FileStatement). same_name f.name name) (take 8 files) (drop 8 files))
    ∙ ap (λ (fs : List FileStatement). is_taken fs (Some name)) (take-append-drop 8 files)

-- a name that none of the first files has is taken if one of the others has it
pub taken_later : (files few : List FileStatement) (names : Name → Bool) (name : Name) → few ≡ take 8 files → is_taken few (Some name) ≡ false
    → ((other : Name) → names other ≡ is_taken (drop 8 files) (Some other)) → names name ≡ is_taken files (Some name)
taken_later files few names name is_few none is_rest =
    ap (λ (b : Bool). b || names name) (sym none) ∙ taken_in_parts files few names name is_few is_rest

-- the names of the files after the first eight, after one more file among these
pub file_of_few : (files : List FileStatement) (file : FileStatement) (names : Name → Bool) → length files < 8
    → ((name : Name) → names name ≡ is_taken (drop 8 files) (Some name))
    → (name : Name) → names name ≡ is_taken (drop 8 (files ++ file ∷ [])) (Some name)
file_of_few files file names few before name =
    before name ∙ ap (λ (fs : List FileStatement). is_taken fs (Some name))
    (drop_all 8 files (omega arith) ∙ sym (drop_all 8 (files ++ file ∷ []) (omega (arith, length-append files (file ∷ [])))))

-- the names in use after one more file
one_more : (files : List FileStatement) (file : FileStatement) (old new : Name → Bool)
    → ((name : Name) → old name ≡ is_taken files (Some name))
    → ((name : Name) → new name ≡ cond (same_name file.name name) true (old name))
    → (name : Name) → new name ≡ is_taken (files ++ file ∷ []) (Some name)
one_more files file old new before update name =
    update name ∙ by (same_name file.name name) (old name) ∙ ap (λ (b : Bool). b || (same_name file.name name || false)) (before name)
    ∙ sym (list_any-append (λ (f : FileStatement). same_name f.name name) files (file ∷ []))
  where
    by : (t b : Bool) → cond t true b ≡ (b || (t || false))
    by true true = refl
    by true false = refl
    by false true = refl
    by false false = refl

-- the names of the files after the first eight, after one more file
pub file_more : (files : List FileStatement) (file : FileStatement) (old new : Name → Bool) → 8 ≤ length files
    → ((name : Name) → old name ≡ is_taken (drop 8 files) (Some name))
    → ((name : Name) → new name ≡ cond (same_name file.name name) true (old name))
    → (name : Name) → new name ≡ is_taken (drop 8 (files ++ file ∷ [])) (Some name)
file_more files file old new many before update name =
    one_more (drop 8 files) file old new before update name
    ∙ ap (λ (fs : List FileStatement). is_taken fs (Some name)) (sym (drop-append-le 8 files (file ∷ []) many))
