-- Two lists side by side, where one has ended.
use Rattle.std.proofs.Common.{◌≡◌, List, [], ◌∷◌, None, refl, length}
use Rattle.sub_types.specs.declared.kind.Ty.{Ty}
use Rattle.plan_denote.specs.Rows.{Row}
use Rattle.plan_denote.specs.Read.{row_fault}

pub no_types : (types : List Ty) (row : Row) → length types ≡ 0 → None ≡ row_fault types row
no_types [] row is = refl
no_types (ty ∷ types) row is = absurd (cc)

pub no_values : (types : List Ty) (row : Row) → length row ≡ 0 → None ≡ row_fault types row
no_values [] [] is = refl
no_values (ty ∷ types) [] is = refl
no_values types (value ∷ row) is = absurd (cc)
