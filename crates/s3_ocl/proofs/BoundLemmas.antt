-- The cards on which the errors of a statement are.
use Rattle.std.proofs.Common.{ℕ, ◌+◌, ◌<◌, ◌≤◌, List, [], ◌∷◌, ◌++◌, Bool, true, false, cond, arith, length, drop, zero, suc}
use Rattle.std.specs.Prelude.{Option, Some, None, find}
use Rattle.std.specs.List.{flat_map, after_first, position_or_len}
use Rattle.s3_ocl.specs.declared.faults.JobFault.{JobFault}
use Rattle.s3_ocl.specs.declared.faults.Mark.{Mark}
use Rattle.s3_ocl.specs.declared.parameters.Verb.{Verb}
use Rattle.s3_ocl.specs.declared.parameters.Verb.TheVariants.{Run}
use Rattle.s3_ocl.specs.declared.parameters.Parameter.{Parameter}
use Rattle.s3_ocl.specs.declared.parameters.Entry.{Entry}
use Rattle.s3_ocl.specs.declared.parameters.Entry.TheVariants.{Empty, Unknown, Surplus, Missing, Wrong, Right}
use Rattle.s3_ocl.specs.declared.statements.Piece.{Piece}
use Rattle.s3_ocl.specs.declared.contents.FileStatement.{FileStatement}
use Rattle.s3_ocl.specs.Cards.{first_word, is_statement}
use Rattle.s3_ocl.specs.Parameters.{parts_of, verb_of}
use Rattle.s3_ocl.specs.Statements.{Statement, pieces_in, pieces_from, pieces_of, texts_of, statement_at, statements_within, is_verb}
use Rattle.s3_ocl.specs.Contents.{files_of, gives}
use Rattle.s3_ocl.specs.Faults.{fault_if, entry_faults, piece_faults, twice_on, again_faults, file_parameters, is_ill_formed, lacks_load, is_again, verb_faults, statement_faults, faults_behind}

-- P holds for the card of each error
abbrev pub Each : (ℕ → Type 0) → List Mark → Type 0
Each P [] = Unit {0}
Each P (mark ∷ marks) = P mark.card × Each P marks

abbrev EachPiece : (ℕ → Type 0) → List Piece → Type 0
EachPiece P [] = Unit {0}
EachPiece P (piece ∷ pieces) = P piece.card × EachPiece P pieces

pub each-append : (P : ℕ → Type 0) (xs ys : List Mark) → Each P xs → Each P ys → Each P (xs ++ ys)
each-append P [] ys e f = f
each-append P (x ∷ xs) ys e f = (e.0, each-append P xs ys e.1 f)

each_piece-append : (P : ℕ → Type 0) (xs ys : List Piece) → EachPiece P xs → EachPiece P ys → EachPiece P (xs ++ ys)
each_piece-append P [] ys e f = f
each_piece-append P (x ∷ xs) ys e f = (e.0, each_piece-append P xs ys e.1 f)

each_if : (P : ℕ → Type 0) (test : Bool) (card : ℕ) (fault : JobFault) → P card → Each P (fault_if test card fault)
each_if P true card fault p = (p, tt)
each_if P false card fault p = tt

each_entry : (P : ℕ → Type 0) (files : List FileStatement) (number card : ℕ) (entry : Entry) → P number → P card → Each P (entry_faults files number card entry)
each_entry P files number card Empty p q = (p, tt)
each_entry P files number card Unknown p q = (q, tt)
each_entry P files number card Surplus p q = (q, tt)
each_entry P files number card (Missing given) p q = (p, tt)
each_entry P files number card (Wrong given) p q = (q, tt)
each_entry P files number card (Right given value) p q = each_if P _ card _ q

each_pieces : (P : ℕ → Type 0) (files : List FileStatement) (number : ℕ) (pieces : List Piece) → P number → EachPiece P pieces → Each P (flat_map (piece_faults files number) pieces)
each_pieces P files number [] p e = tt
each_pieces P files number (piece ∷ pieces) p e =
    each-append P (piece_faults files number piece) (flat_map (piece_faults files number) pieces) (each_entry P files number piece.card piece.entry p e.0)
    (each_pieces P files number pieces p e.1)

each_found : (P : ℕ → Type 0) (test : Piece → Bool) (pieces : List Piece) → EachPiece P pieces → Each P (twice_on (find test pieces))
each_found P test [] e = tt
each_found P test (piece ∷ pieces) e = go (test piece) (each_found P test pieces e.1)
  where
    go : (b : Bool) → Each P (twice_on (find test pieces)) → Each P (twice_on (cond b (Some piece) (find test pieces)))
    go true more = (e.0, tt)
    go false more = more

each_piece-drop : (P : ℕ → Type 0) (n : ℕ) (pieces : List Piece) → EachPiece P pieces → EachPiece P (drop n pieces)
each_piece-drop P zero pieces e = e
each_piece-drop P (suc n) [] e = tt
each_piece-drop P (suc n) (piece ∷ pieces) e = each_piece-drop P n pieces e.1

each_again : (P : ℕ → Type 0) (pieces : List Piece) (given : List Parameter) → EachPiece P pieces → Each P (flat_map (again_faults pieces) given)
each_again P pieces [] e = tt
each_again P pieces (one ∷ given) e =
    each-append P (again_faults pieces one) (flat_map (again_faults pieces) given) (each_found P (gives one) (after_first (gives one) pieces) (each_piece-drop P (position_or_len (gives one) pieces + 1) pieces e))
    (each_again P pieces given e)

each_part : (P : ℕ → Type 0) (verb : Verb) (number place : ℕ) (parts : List (List ℕ)) → P number → EachPiece P (pieces_in verb number place parts)
unfolding pieces_in
each_part P verb number place [] p = tt
each_part P verb number place (part ∷ parts) p = (p, each_part P verb number (place + 1) parts p)

each_text : (P : ℕ → Type 0) (verb : Verb) (number place : ℕ) (texts : List (List ℕ)) → ((k : ℕ) → number ≤ k → k < number + length texts → P k)
    → EachPiece P (pieces_from verb number place texts)
unfolding pieces_from
each_text P verb number place [] p = tt
each_text P verb number place (text ∷ texts) p =
    each_piece-append P (pieces_in verb number place (parts_of text)) _ (each_part P verb number place (parts_of text) (p number (omega arith) (omega arith)))
    (each_text P verb (number + 1) _ texts (λ k low high. p k (omega arith) (omega arith)))

each_known : (P : ℕ → Type 0) (known : Option Verb) (number : ℕ) (texts : List (List ℕ)) → ((k : ℕ) → number ≤ k → k < number + length texts → P k)
    → EachPiece P (pieces_of known number texts)
each_known P None number texts p = tt
each_known P (Some verb) number texts p = each_text P verb number 0 texts p

each_verb : (P : ℕ → Type 0) (before : List Statement) (statement : Statement) (known : Option Verb) → P statement.number → EachPiece P statement.pieces
    → Each P (verb_faults before statement known)
each_verb P before statement None p e = (p, tt)
each_verb P before statement (Some verb) p e =
    each-append P _ (fault_if (is_again verb before) statement.number _)
    (each-append P _ (fault_if (lacks_load verb before) statement.number _)
    (each-append P _ (fault_if (is_ill_formed verb statement) statement.number _)
    (each-append P (flat_map (piece_faults (files_of before) statement.number) statement.pieces) (flat_map (again_faults statement.pieces) file_parameters)
    (each_pieces P (files_of before) statement.number statement.pieces p e) (each_again P statement.pieces file_parameters e))
    (each_if P _ _ _ p))
    (each_if P _ _ _ p))
    (each_if P _ _ _ p)

-- the errors of a statement are on its cards
pub each_statement : (P : ℕ → Type 0) (before : List Statement) (number : ℕ) (card : List ℕ) (cards : List (List ℕ))
    → ((k : ℕ) → number ≤ k → k < number + (statement_at number card cards).cards → P k) → Each P (statement_faults before (statement_at number card cards))
unfolding statement_at statement_faults
each_statement P before number card cards p =
    each_verb P before (statement_at number card cards) (verb_of (first_word card)) (p number (omega arith) (omega arith))
    (each_known P (verb_of (first_word card)) number (texts_of card cards) p)

-- the errors of the statements from a card on are on that card or later ones
pub each_later : (P : ℕ → Type 0) (turns number : ℕ) (cards : List (List ℕ)) (before : List Statement) → ((k : ℕ) → number ≤ k → P k)
    → Each P (faults_behind before (statements_within turns number cards))
unfolding statements_within faults_behind
each_later P zero number cards before p = tt
each_later P (suc turns) number [] before p = tt
each_later P (suc turns) number (card ∷ cards) before p =
    let s : Statement = statement_at number card cards in
    go (is_statement card) (is_verb Run s.verb) (each_statement P before number card cards (λ k low high. p k low))
    (each_later P turns (number + s.cards) (drop s.cards (card ∷ cards)) (before ++ s ∷ []) (λ k low. p k (omega arith)))
  where
    go : (b r : Bool) → Each P (statement_faults before (statement_at number card cards))
        → Each P (faults_behind (before ++ statement_at number card cards ∷ []) (statements_within turns (number + (statement_at number card cards).cards) (drop (statement_at number card cards).cards (card ∷ cards))))
        → Each P (faults_behind before (cond b (statement_at number card cards ∷ cond r [] (statements_within turns (number + (statement_at number card cards).cards) (drop (statement_at number card cards).cards (card ∷ cards)))) []))
    go false r here more = tt
    go true true here more = each-append P (statement_faults before (statement_at number card cards)) [] here tt
    go true false here more = each-append P (statement_faults before (statement_at number card cards)) _ here more
