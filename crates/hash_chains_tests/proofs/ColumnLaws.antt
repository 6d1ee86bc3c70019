-- Batches of one column.
use Rattle.std.proofs.Common.{◌≡◌, ◌<◌, ℕ, List, true, [], ◌∷◌, length, subst, sym, ap, arith}
use Rattle.std.specs.List.{All}
use Rattle.std.proofs.lemmas.List.{length-map}
use Rattle.std.proofs.lemmas.List.Elements.{All-cons}
use Rattle.sub_types.specs.declared.kind.Kind.TheVariants as kinds
use Rattle.sub_types.specs.declared.kind.Ty.{Ty}
use Rattle.batch.specs.declared.batch.Batch.{Batch}
use Rattle.batch.specs.Column.{column_type}
use Rattle.batch.specs.BatchRows.{types_of}

abbrev pub number : Ty
number = record { kind = kinds.I64; nullable = true }

pub first_exists : {ty : Ty} (batch : Batch) (columns : List ℕ) → types_of batch ≡ ty ∷ [] → columns ≡ 0 ∷ [] → All (λ column. column < length batch.columns.items) columns
first_exists batch columns types is =
    let P : ℕ → Type 0 = λ column. column < length batch.columns.items in
    let one : 0 < length batch.columns.items = omega (arith, ap length types, length-map batch.columns.items column_type) in
    subst (All P) (sym is) (All-cons P 0 [] one (λ k d below. absurd (omega (arith, below))))
