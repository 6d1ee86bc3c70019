-- How the buffers of a column of numbers grow and are read.
use Rattle.std.proofs.Common.{◌≡◌, ◌∙◌, ℕ, suc, ◌<◌, List, [], ◌∷◌, ◌++◌, length, map, get_or, Bool, true, false, Option, Some, None, unwrap_or, is_some, refl, sym, ap, arith}
use Rattle.std.proofs.lemmas.List.{length-append, map-append}
use Rattle.sub_types.specs.Optional.{optional}
use Rattle.sub_types.specs.OptionalLaws.{optional-append}
use Rattle.sub_types.specs.Slots.{slots}
use Rattle.col_fixed.specs.Column.{IsColumn}

-- one column behind the other
pub IsColumn-append : {T : Type 0} (d : T) (xs ys : List T) (valid more : List Bool) → IsColumn d xs valid → IsColumn d ys more → IsColumn d (xs ++ ys) (valid ++ more)
IsColumn-append d xs ys valid more front back =
    let append = optional-append xs ys valid more front.same_length in
    record {
      same_length = omega (arith, length-append xs ys, length-append valid more, front.same_length, back.same_length);
      zeroed = ap (slots d) append ∙ map-append (λ value. unwrap_or value d) (optional xs valid) (optional ys more) ∙ ap (λ (p : List _). p ++ slots d (optional ys more)) front.zeroed ∙ ap (λ (p : List _). xs ++ p) back.zeroed;
    }

-- one more value
pub IsColumn-value : {T : Type 0} (d x : T) → IsColumn d (x ∷ []) (true ∷ [])
IsColumn-value d x = record { same_length = refl; zeroed = refl }

-- one more null
pub IsColumn-null : {T : Type 0} (d : T) → IsColumn d (d ∷ []) (false ∷ [])
IsColumn-null d = record { same_length = refl; zeroed = refl }

-- zero in each slot that isn't valid is all it takes
pub slots-optional : {T : Type 0} (d : T) (xs : List T) (valid : List Bool) → length xs ≡ length valid → ((i : ℕ) → i < length xs → get_or valid i false ≡ false → get_or xs i d ≡ d) → slots d (optional xs valid) ≡ xs
slots-optional d [] valid same cleared = refl
slots-optional d (x ∷ xs) [] same cleared = absurd (omega arith)
slots-optional d (x ∷ xs) (true ∷ valid) same cleared =
    ap (λ rest. x ∷ rest) (slots-optional d xs valid (omega arith) (λ i below null. cleared (suc i) (omega arith) null))
slots-optional d (x ∷ xs) (false ∷ valid) same cleared =
    let first : x ≡ d = cleared 0 (omega arith) refl in
    let rest = slots-optional d xs valid (omega arith) (λ i below null. cleared (suc i) (omega arith) null) in
    ap (λ y. y ∷ slots d (optional xs valid)) (sym first) ∙ ap (λ rest. x ∷ rest) rest

-- one more optional value, as it is stored
pub IsColumn-push : {T : Type 0} (d : T) (xs : List T) (valid : List Bool) (v : Option T) → IsColumn d xs valid → IsColumn d (xs ++ unwrap_or v d ∷ []) (valid ++ is_some v ∷ [])
IsColumn-push d xs valid (Some x) kept = IsColumn-append d xs (x ∷ []) valid (true ∷ []) kept (IsColumn-value d x)
IsColumn-push d xs valid None kept = IsColumn-append d xs (d ∷ []) valid (false ∷ []) kept (IsColumn-null d)

-- and as it is seen
pub optional-push : {T : Type 0} (d : T) (xs : List T) (valid : List Bool) (v : Option T) → length xs ≡ length valid → optional (xs ++ unwrap_or v d ∷ []) (valid ++ is_some v ∷ []) ≡ optional xs valid ++ v ∷ []
optional-push d xs valid (Some x) same = optional-append xs (x ∷ []) valid (true ∷ []) same
optional-push d xs valid None same = optional-append xs (d ∷ []) valid (false ∷ []) same

-- the slots and the validity of a column are the column's buffers
pub IsColumn-slots : {T : Type 0} (d : T) (column : List (Option T)) → IsColumn d (slots d column) (map is_some column)
IsColumn-slots d [] = record { same_length = refl; zeroed = refl }
IsColumn-slots d (Some x ∷ column) = IsColumn-append d (x ∷ []) (slots d column) (true ∷ []) (map is_some column) (IsColumn-value d x) (IsColumn-slots d column)
IsColumn-slots d (None ∷ column) = IsColumn-append d (d ∷ []) (slots d column) (false ∷ []) (map is_some column) (IsColumn-null d) (IsColumn-slots d column)
