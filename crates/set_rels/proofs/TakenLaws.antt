-- The rows that are taken of the rows of all inputs.
use Rattle.std.proofs.Common.{◌≡◌, ◌∙◌, ◌≢◌, Bool, ℕ, suc, ◌+◌, ◌-◌, ◌<◌, ◌≤◌, List, [], ◌∷◌, length, map, drop, get_or, refl, ap, ap₂, arith}
use Rattle.std.specs.List.{All, flat_map}
use Rattle.std.proofs.lemmas.List.{length-append}
use Rattle.hash_chains.specs.First.{rows_where}
use Rattle.plan_typed.specs.declared.rel.SetOp.{SetOp}
use Rattle.plan_typed.specs.declared.rel.SetOp.TheVariants as ops
use Rattle.plan_denote.specs.Rows.{Row}
use Rattle.plan_denote.specs.Distinct.{distinct, is_same_row}
use Rattle.plan_denote.specs.Sets.{row_at, set_in}
use Rattle.set_places.specs.Taken.{AreEnds, ends_from, takes, same_in}
use Rattle.set_places.proofs.TimesLaws.{below_end}
use Rattle.set_places.proofs.OperationLaws.{taken_rows_of, union_rows}
use Rattle.set_rels.specs.Inputs.{first_end, other_ends}

-- the inputs end where their rows do
pub ends_are : (inputs : List (List Row)) (from count : ℕ) → count ≡ from + length (flat_map (λ rows. rows) inputs) → AreEnds from (ends_from from inputs) count
ends_are [] from count e = omega arith
ends_are (rows ∷ inputs) from count e =
    let long = length-append rows (flat_map (λ (one : List Row). one) inputs) in
    (omega arith, ends_are inputs (from + length rows) count (omega arith))

-- the last end is that of all rows
last_end : (from : ℕ) (end : ℕ) (ends : List ℕ) (count : ℕ) → AreEnds from (end ∷ ends) count → get_or (end ∷ ends) (length (end ∷ ends) - 1) 0 ≡ count
last_end from end [] count are = are.1
last_end from end (next ∷ ends) count are =
    ap (λ i. get_or (end ∷ next ∷ ends) i 0) (let e : length (end ∷ next ∷ ends) - 1 ≡ suc (length (next ∷ ends) - 1) = omega arith in e)
    ∙ last_end end next ends count are.1

last_of : (ends : List ℕ) (count : ℕ) → AreEnds 0 ends count → get_or ends (length ends - 1) 0 ≡ count
last_of [] count are = are
last_of (end ∷ ends) count are = last_end 0 end ends count are

split_ends : (ends : List ℕ) (count : ℕ) → AreEnds 0 ends count → AreEnds (get_or ends 0 0) (drop 1 ends) count
split_ends [] count are = are
split_ends (end ∷ ends) count are = are.1

pub parted_ends : (op : SetOp) (ends : List ℕ) (count : ℕ) → AreEnds 0 ends count → AreEnds (first_end op ends) (other_ends op ends) count
parted_ends ops.MinusPrimary ends count are = split_ends ends count are
parted_ends ops.MinusPrimaryAll ends count are = split_ends ends count are
parted_ends ops.IntersectionPrimary ends count are = split_ends ends count are
parted_ends ops.IntersectionMultiset ends count are = split_ends ends count are
parted_ends ops.IntersectionMultisetAll ends count are = split_ends ends count are
parted_ends ops.UnionDistinct ends count are = last_of ends count are
parted_ends ops.UnionAll ends count are = split_ends ends count are

-- the rows that are taken
abbrev pub taken_of : SetOp → List Row → ℕ → List ℕ → List Row
taken_of op all first others = map (row_at all) (rows_where (takes (same_in all) op first others) first)

some_taken : (op : SetOp) (inputs : List (List Row)) (all : List Row) → (op ≢ ops.UnionDistinct) → (op ≢ ops.UnionAll) → all ≡ flat_map (λ rows. rows) inputs → taken_of op all (get_or (ends_from 0 inputs) 0 0) (drop 1 (ends_from 0 inputs)) ≡ set_in op inputs
some_taken op [] all h k e = refl
some_taken op (first ∷ others) all h k e =
    let zero : 0 + length first ≡ length first = omega arith in
    ap (λ n. taken_of op all n (ends_from n others)) zero ∙ taken_rows_of op first others all h k e

union_taken : (inputs : List (List Row)) (all : List Row) → all ≡ flat_map (λ rows. rows) inputs → taken_of ops.UnionDistinct all (length all) [] ≡ set_in ops.UnionDistinct inputs
union_taken [] all e = union_rows all ∙ ap (λ rows. distinct is_same_row rows) e
union_taken (first ∷ others) all e = union_rows all ∙ ap (λ rows. distinct is_same_row rows) e

pub taken_is : (op : SetOp) (inputs : List (List Row)) (all : List Row) (ends : List ℕ) → (op ≢ ops.UnionAll) → all ≡ flat_map (λ rows. rows) inputs → ends ≡ ends_from 0 inputs → taken_of op all (first_end op ends) (other_ends op ends) ≡ set_in op inputs
taken_is ops.MinusPrimary inputs all ends k e f = ap (λ l. taken_of ops.MinusPrimary all (get_or l 0 0) (drop 1 l)) f ∙ some_taken ops.MinusPrimary inputs all (λ g. cc) k e
taken_is ops.MinusPrimaryAll inputs all ends k e f = ap (λ l. taken_of ops.MinusPrimaryAll all (get_or l 0 0) (drop 1 l)) f ∙ some_taken ops.MinusPrimaryAll inputs all (λ g. cc) k e
taken_is ops.IntersectionPrimary inputs all ends k e f = ap (λ l. taken_of ops.IntersectionPrimary all (get_or l 0 0) (drop 1 l)) f ∙ some_taken ops.IntersectionPrimary inputs all (λ g. cc) k e
taken_is ops.IntersectionMultiset inputs all ends k e f = ap (λ l. taken_of ops.IntersectionMultiset all (get_or l 0 0) (drop 1 l)) f ∙ some_taken ops.IntersectionMultiset inputs all (λ g. cc) k e
taken_is ops.IntersectionMultisetAll inputs all ends k e f = ap (λ l. taken_of ops.IntersectionMultisetAll all (get_or l 0 0) (drop 1 l)) f ∙ some_taken ops.IntersectionMultisetAll inputs all (λ g. cc) k e
taken_is ops.UnionDistinct inputs all ends k e f =
    let long : length all ≡ 0 + length (flat_map (λ (rows : List Row). rows) inputs) = ap length e ∙ (let z : length (flat_map (λ (rows : List Row). rows) inputs) ≡ 0 + length (flat_map (λ (rows : List Row). rows) inputs) = omega arith in z) in
    let last : get_or ends (length ends - 1) 0 ≡ length all = ap (λ l. get_or l (length l - 1) 0) f ∙ last_of (ends_from 0 inputs) (length all) (ends_are inputs 0 (length all) long) in
    ap (λ n. taken_of ops.UnionDistinct all n []) last ∙ union_taken inputs all e
taken_is ops.UnionAll inputs all ends k e f = absurd (k refl)

-- rows that are taken are below the first input's end
pub rows_below : (test : ℕ → Bool) (end count : ℕ) → end ≤ count → All (λ row. row < count) (rows_where test end)
rows_below test end count h = λ i d below.
    let low : get_or (rows_where test end) i d < end = below_end test end end i d (omega arith) below in
    omega arith

-- the same rows, however they are named
pub taken_alike : (op : SetOp) (all one two : List Row) (rows : List ℕ) (first f : ℕ) (others o : List ℕ) → one ≡ all → two ≡ all → f ≡ first → o ≡ others → rows ≡ rows_where (takes (same_in two) op f o) f → map (row_at one) rows ≡ taken_of op all first others
taken_alike op all one two rows first f others o e1 e2 ef eo er =
    ap₂ (λ a r. map (row_at a) r) e1 (er ∙ ap (λ a. rows_where (takes (same_in a) op f o) f) e2 ∙ ap₂ (λ n l. rows_where (takes (same_in all) op n l) n) ef eo)
