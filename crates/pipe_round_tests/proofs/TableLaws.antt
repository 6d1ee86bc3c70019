-- The parts of a table, and its rows.
use Rattle.std.proofs.Common.{◌≡◌, ◌∙◌, List, [], ◌∷◌, ◌++◌, append-nil, sym, ap, subst}
use Rattle.std.specs.List.{All, AllByRecursion, flat_map}
use Rattle.std.proofs.lemmas.List.Elements.{All-from_recursion, recursion_from_All}
use Rattle.sub_types.specs.declared.kind.Ty.{Ty}
use Rattle.sub_types.specs.declared.value.Value.{Value}
use Rattle.sub_types.specs.Value.{Fits}
use Rattle.batch.specs.declared.batch.Batch.{Batch}
use Rattle.batch.specs.declared.batch.Piece.{Piece}
use Rattle.batch.specs.BatchRows.{rows_of, types_of}
use Rattle.join_columns.specs.Sides.{HasKinds, kinds_of}
use Rattle.hash_join.specs.declared.build_part.BuildPart.{BuildPart}
use Rattle.pipe_steps.specs.Ready.{IsFit}

abbrev rows_in : List BuildPart → List (List Value)
rows_in parts = flat_map (λ (part : BuildPart). rows_of part.batch) parts

-- no part, and one
pub none_have : (right : List Ty) (parts : List BuildPart) → parts ≡ [] → All (λ (part : BuildPart). HasKinds right part.batch) parts
none_have right parts none = subst (λ (all : List BuildPart). All (λ (part : BuildPart). HasKinds right part.batch) all) (sym none) (All-from_recursion (λ (part : BuildPart). HasKinds right part.batch) [] tt)

pub one_has : (right : List Ty) (parts before : List BuildPart) (part : BuildPart) → parts ≡ before ++ part ∷ [] → before ≡ [] → types_of part.batch ≡ right → All (λ (part : BuildPart). HasKinds right part.batch) parts
one_has right parts before part are none same =
    subst (λ (all : List BuildPart). All (λ (part : BuildPart). HasKinds right part.batch) all) (sym (are ∙ ap (λ (first : List BuildPart). first ++ part ∷ []) none))
    (All-from_recursion (λ (part : BuildPart). HasKinds right part.batch) (part ∷ []) (ap kinds_of same, tt))

-- rows that fit
pub no_rows_fit : (right : List Ty) (parts : List BuildPart) (rows : List (List Value)) → parts ≡ [] → rows ≡ rows_in parts → All (Fits right) rows
no_rows_fit right parts rows none are = subst (λ (all : List (List Value)). All (Fits right) all) (sym (are ∙ ap rows_in none)) (All-from_recursion (Fits right) [] tt)

pub rows_fit : (right : List Ty) (parts before : List BuildPart) (part : BuildPart) (batch : Batch) (rows : List (List Value)) → parts ≡ before ++ part ∷ [] → before ≡ [] → part.batch ≡ batch → types_of batch ≡ right → IsFit batch → rows ≡ rows_in parts → All (Fits right) rows
rows_fit right parts before part batch rows are none own same fit is =
    let one : rows_in parts ≡ rows_of batch =
    ap rows_in (are ∙ ap (λ (first : List BuildPart). first ++ part ∷ []) none) ∙ append-nil (rows_of part.batch) ∙ ap rows_of own in
    subst (λ (all : List (List Value)). All (Fits right) all) (sym (is ∙ one)) (subst (λ (types : List Ty). All (Fits types) (rows_of batch)) same fit)

-- the last of pieces
last_of : (P : Piece → Type 0) (before : List Piece) (piece : Piece) → AllByRecursion P (before ++ piece ∷ []) → P piece
last_of P [] piece all = all.0
last_of P (x ∷ before) piece all = last_of P before piece all.1

pub last_fits : (all before : List Piece) (piece : Piece) → all ≡ before ++ piece ∷ [] → All (λ (one : Piece). IsFit one.batch) all → IsFit piece.batch
last_fits all before piece are fit =
    last_of (λ (one : Piece). IsFit one.batch) before piece
    (recursion_from_All (λ (one : Piece). IsFit one.batch) (before ++ piece ∷ []) (subst (λ (pieces : List Piece). All (λ (one : Piece). IsFit one.batch) pieces) are fit))
