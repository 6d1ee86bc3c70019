-- The rows of both parts of a table fit.
use Rattle.std.proofs.Common.{◌∙◌, [], ◌∷◌, ◌++◌, All, ap, sym, subst}
use Rattle.std.specs.List.{flat_map}
use Rattle.std.proofs.lemmas.List.Concat.{flat_map-cons}
use Rattle.std.proofs.lemmas.List.Elements.{All-append, All-from_recursion}
use Rattle.sub_types.specs.Value.{Fits}
use Rattle.batch.specs.BatchRows.{rows_of}
use Rattle.hash_join.specs.declared.build_part.BuildPart.{BuildPart}
use Rattle.hash_join_tests.specs.Typed.{numbers}

pub parts_fit : (one two : BuildPart) → All (Fits numbers) (rows_of one.batch) → All (Fits numbers) (rows_of two.batch) → All (Fits numbers) (flat_map (λ part. rows_of part.batch) (one ∷ two ∷ []))
parts_fit one two first second =
    let rows = λ (part : BuildPart). rows_of part.batch in
    subst (All (Fits numbers)) (sym (flat_map-cons rows one (two ∷ []) ∙ ap (λ others. rows one ++ others) (flat_map-cons rows two [])))
    (All-append (Fits numbers) (rows one) (rows two ++ []) first (All-append (Fits numbers) (rows two) [] second (All-from_recursion (Fits numbers) [] tt)))
