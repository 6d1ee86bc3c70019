-- Values that are made or lent are of their kind.
use Rattle.std.proofs.Common.{◌≡◌, ◌∙◌, ℕ, zero, suc, ◌<◌, ◌≤◌, ◌+◌, ◌-◌, List, [], ◌∷◌, length, map, take, get_or, replicate, refl, sym, subst, ap, arith}
use Rattle.std.specs.List.{All, range_with_len, slice_range}
use Rattle.std.proofs.lemmas.List.{get_or-replicate, length-replicate, get_or-map, length-take, get_or-take}
use Rattle.std.proofs.lemmas.List.Elements.{All-take}
use Rattle.std.proofs.lemmas.List.FromFn.{fill_by_all, length-range_with_len, get_or-range_with_len}
use Rattle.sub_types.specs.Rows.{picked}
use Rattle.sub_types.specs.Value.{InKind}
use Rattle.sub_types.specs.declared.kind.Kind.{Kind}
use Rattle.sub_types.specs.declared.value.Value.{Value}
use Rattle.batch.specs.ColumnValues.{values_of}
use Rattle.batch_nodes.specs.declared.found.Found.{Found}
use Rattle.batch_nodes.specs.declared.found.Found.TheVariants.{Made, Whole, Constant}
use Rattle.batch_nodes.specs.Found.{found_values, IsOfKind}

all_constant : (kind : Kind) (value : Value) (n : ℕ) → InKind kind value → All (InKind kind) (replicate n value)
all_constant kind value n is i d below = subst (InKind kind) (sym (get_or-replicate n i value d (omega (arith, below, length-replicate n value)))) is

pub found_in_kind : (kind : Kind) (found : Found) → IsOfKind kind found → All (InKind kind) (found_values found)
found_in_kind kind (Made column) is = subst (λ one. All (InKind one) (values_of column.values)) (sym is) column.in_kind
found_in_kind kind (Whole column n) is = All-take (InKind kind) n (values_of column.now.values) (subst (λ one. All (InKind one) (values_of column.now.values)) (sym is) column.now.in_kind)
found_in_kind kind (Constant value n) is = all_constant kind value.now n is.1

-- the first so many values, one by one
pub picked-first : {X : Type 0} (d : X) (n : ℕ) (xs : List X) → n ≤ length xs → take n xs ≡ picked d (range_with_len 0 n) xs
picked-first d n xs below =
    fill_by_all (λ i. get_or xs i d) (take n xs) n d (omega (arith, length-take n xs)) (λ i less. get_or-take n xs i d less)

-- rows that all exist are at most as many as there are
pub rows_within : (n count : ℕ) → All (λ row. row < count) (range_with_len 0 n) → n ≤ count
rows_within zero count all = omega arith
rows_within (suc n) count all =
    let last = get_or-range_with_len 0 (suc n) n 0 (omega arith) in
    let long = length-range_with_len 0 (suc n) in
    let below = all n 0 (omega (arith, long)) in
    omega (arith, last, below)

-- the first so many values, by how many there are
pub take-count : {X : Type 0} (n : ℕ) (xs : List X) → take (length (take n xs)) xs ≡ take n xs
take-count zero xs = refl
take-count (suc n) [] = refl
take-count (suc n) (x ∷ xs) = ap (λ rest. x ∷ rest) (take-count n xs)

pub first-part : {X : Type 0} (n m : ℕ) (xs : List X) → m ≡ length (take n xs) → slice_range xs 0 m ≡ take n xs
first-part n m xs is = let e : m - 0 ≡ length (take n xs) = omega (arith, is) in ap (λ k. take k xs) e ∙ take-count n xs
