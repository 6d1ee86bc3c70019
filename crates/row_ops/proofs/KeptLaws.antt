-- Columns stay what they are while some of them are taken.
use Rattle.std.proofs.Common.{◌≡◌, ◌∙◌, ℕ, ◌<◌, List, [], ◌∷◌, ◌++◌, Option, length, map, get_or, slice_set, slice_index_or, refl, sym, ap, ap₂, subst, arith}
use Rattle.std.specs.Prelude.{slice_get}
use Rattle.std.specs.List.{All, range_with_len, filter_map, cons_option}
use Rattle.std.proofs.Math.ListN.{get_or-map}
use Rattle.std.proofs.Math.Seq.{map-set_same, get_or-append_seam}
use Rattle.std.proofs.lemmas.List.{get_or-map as get_or-map_within, length-map, map-append, get_or_append_left, get_or_default}
use Rattle.std.proofs.lemmas.Simd.{map-map}
use Rattle.std.proofs.lemmas.List.Elements.{All-head, All-tail}
use Rattle.std.proofs.lemmas.Option.{slice_get-get_or}
use Rattle.sub_types.specs.declared.kind.Ty.{Ty}
use Rattle.sub_types.specs.declared.value.Value.{Value}
use Rattle.sub_types.specs.declared.value.Value.TheVariants.{Null}
use Rattle.sub_types.specs.declared.fault.Fault.{Fault}
use Rattle.sub_types.specs.Rows.{picked, across, transpose}
use Rattle.sub_types.specs.Stream.{Stream}
use Rattle.plan_denote.specs.Rows.{Row}
use Rattle.plan_denote.specs.Project.{columns_at, emitted}
use Rattle.batch.specs.declared.column.Column.{Column}
use Rattle.batch.specs.Column.{column_values, column_type}
use Rattle.batch.specs.ColumnValues.{values_of}
use Rattle.batch.proofs.RowLaws.{get_or-across}
use Rattle.row_ops.specs.declared.keeping.Slot.{Slot}
use Rattle.row_ops.specs.declared.keeping.Slot.TheVariants as slots
use Rattle.row_ops.specs.Kept.{Shown, nothing, shown, shown_slot, IsWithin}

map_same : {X Y : Type 0} (f g : X → Y) → ((x : X) → f x ≡ g x) → (xs : List X) → map f xs ≡ map g xs
map_same f g same [] = refl
map_same f g same (x ∷ xs) = ap₂ (λ y ys. y ∷ ys) (same x) (map_same f g same xs)

shown_more : (kept : List Column) (column : Column) (slot : Slot) → IsWithin (length kept) slot → shown_slot (kept ++ column ∷ []) slot ≡ shown_slot kept slot
shown_more kept column (slots.Here one) within = refl
shown_more kept column (slots.Taken place) within =
    ap (λ all. get_or all place nothing) (map-append shown kept (column ∷ []))
    ∙ get_or_append_left (map shown kept) (shown column ∷ []) nothing place (omega (arith, length-map kept shown, within))

all_shown_more : (kept : List Column) (column : Column) (all : List Slot) → All (IsWithin (length kept)) all → map (shown_slot (kept ++ column ∷ [])) all ≡ map (shown_slot kept) all
all_shown_more kept column [] within = refl
all_shown_more kept column (slot ∷ rest) within =
    ap₂ (λ (x : Shown) xs. x ∷ xs) (shown_more kept column slot (All-head (IsWithin (length kept)) slot rest within)) (all_shown_more kept column rest (All-tail (IsWithin (length kept)) slot rest within))

-- the column that was taken last
shown_last : (kept : List Column) (column : Column) → shown_slot (kept ++ column ∷ []) (slots.Taken (length kept)) ≡ shown column
shown_last kept column =
    ap (λ all. get_or all (length kept) nothing) (map-append shown kept (column ∷ []))
    ∙ ap (λ n. get_or (map shown kept ++ shown column ∷ []) n nothing) (sym (length-map kept shown))
    ∙ get_or-append_seam (map shown kept) (shown column) [] nothing

take_stays' : (kept : List Column) (column : Column) (all : List Slot) (place : ℕ) → place < length all → All (IsWithin (length kept)) all → shown column ≡ slice_index_or (map (shown_slot kept) all) place nothing → map (shown_slot (kept ++ column ∷ [])) (slice_set all place (slots.Taken (length kept))) ≡ map (shown_slot kept) all
take_stays' kept column all place below within is =
    let more = all_shown_more kept column all within in
    let one = slots.Taken (length kept) in
    map-set_same (shown_slot (kept ++ column ∷ [])) all place one one
    (shown_last kept column ∙ is ∙ ap (λ (shapes : List Shown). get_or shapes place nothing) (sym more) ∙ get_or-map_within (shown_slot (kept ++ column ∷ [])) all place one nothing below)
    ∙ more

pub take_stays : (kept kept' : List Column) (column : Column) (all : List Slot) (place : ℕ) (slot : Slot) → place < length all → All (IsWithin (length kept)) all → kept' ≡ kept ++ column ∷ [] → slot ≡ slots.Taken (length kept) → shown column ≡ slice_index_or (map (shown_slot kept) all) place nothing → map (shown_slot kept') (slice_set all place slot) ≡ map (shown_slot kept) all
take_stays kept kept' column all place slot below within pushed placed is =
    ap₂ (λ (now : List Column) (one : Slot). map (shown_slot now) (slice_set all place one)) pushed placed ∙ take_stays' kept column all place below within is

-- the column of the slot at a place
pub slot_at : (kept : List Column) (all : List Slot) (place : ℕ) (d : Slot) → place < length all → get_or (map (shown_slot kept) all) place nothing ≡ shown_slot kept (get_or all place d)
slot_at kept all place d below = get_or-map_within (shown_slot kept) all place d nothing below

-- the columns at places
abbrev pub Taken : List Column → List ℕ → List Column → Type 0
Taken columns places kept = map shown kept ≡ map (λ place. get_or (map shown columns) place nothing) places

abbrev values_in : Shown → List Value
values_in one = one.values

abbrev type_in : Shown → Ty
type_in one = one.ty

-- each of them is as long as all are
pub kept_sized : (rows : ℕ) (columns : List Column) (places : List ℕ) (kept : List Column) → Taken columns places kept → All (λ place. place < length columns) places → All (λ (column : Column). length (values_of column.values) ≡ rows) columns → All (λ (column : Column). length (values_of column.values) ≡ rows) kept
kept_sized rows columns places kept taken exist sized k d below =
    let at = get_or places k 0 in
    let few : k < length places = omega (arith, below, length-map kept shown, length-map places (λ place. get_or (map shown columns) place nothing), ap length taken) in
    let is : shown (get_or kept k d) ≡ shown (get_or columns at d) =
    sym (get_or-map_within shown kept k d nothing below) ∙ ap (λ (all : List Shown). get_or all k nothing) taken
    ∙ get_or-map_within (λ place. get_or (map shown columns) place nothing) places k 0 nothing few ∙ get_or-map_within shown columns at d nothing (exist k 0 few) in
    ap (λ one. length (values_in one)) is ∙ sized at d (exist k 0 few)

-- their values
kept_values : (columns : List Column) (places : List ℕ) (kept : List Column) → Taken columns places kept → map column_values kept ≡ map (λ place. get_or (map column_values columns) place []) places
kept_values columns places kept taken =
    sym (map-map values_in shown kept) ∙ ap (map values_in) taken ∙ map-map values_in (λ place. get_or (map shown columns) place nothing) places
    ∙ map_same _ _ (λ place. sym (get_or-map values_in (map shown columns) place nothing) ∙ ap (λ (all : List (List Value)). get_or all place []) (map-map values_in shown columns)) places

-- a row of theirs
kept_row : (columns : List (List Value)) (places : List ℕ) (i : ℕ) → across Null (map (λ place. get_or columns place []) places) i ≡ picked Null places (across Null columns i)
kept_row columns [] i = refl
kept_row columns (place ∷ places) i = ap₂ (λ (x : Value) xs. x ∷ xs) (sym (get_or-across Null columns i place)) (kept_row columns places i)

-- their rows
pub kept_rows : (rows : ℕ) (columns : List Column) (places : List ℕ) (kept : List Column) → Taken columns places kept → transpose Null rows (map column_values kept) ≡ map (columns_at places) (transpose Null rows (map column_values columns))
kept_rows rows columns places kept taken =
    ap (transpose Null rows) (kept_values columns places kept taken)
    ∙ map_same _ _ (λ i. kept_row (map column_values columns) places i) (range_with_len 0 rows)
    ∙ sym (map-map (columns_at places) (across Null (map column_values columns)) (range_with_len 0 rows))

-- their types
types_at : (types : List Ty) (places : List ℕ) (d : Ty) → All (λ place. place < length types) places → map (λ place. get_or types place d) places ≡ filter_map (slice_get types) places
types_at types [] d exist = refl
types_at types (place ∷ places) d exist =
    let here = slice_get-get_or types place d (All-head (λ place. place < length types) place places exist) in
    ap (λ rest. get_or types place d ∷ rest) (types_at types places d (All-tail (λ place. place < length types) place places exist))
    ∙ ap (λ found. cons_option found (filter_map (slice_get types) places)) (sym here)

pub kept_types : (columns : List Column) (places : List ℕ) (kept : List Column) → Taken columns places kept → All (λ place. place < length columns) places → map column_type kept ≡ filter_map (slice_get (map column_type columns)) places
kept_types columns places kept taken exist =
    sym (map-map type_in shown kept) ∙ ap (map type_in) taken ∙ map-map type_in (λ place. get_or (map shown columns) place nothing) places
    ∙ map_same _ _ (λ place. sym (get_or-map type_in (map shown columns) place nothing) ∙ ap (λ (all : List Ty). get_or all place nothing.ty) (map-map type_in shown columns)) places
    ∙ types_at (map column_type columns) places nothing.ty (λ k d below. omega (arith, length-map columns column_type, exist k d below))

-- their rows and the end
abbrev with_end : Option Fault → List Row → Stream Row
with_end end rows = record { rows = rows; end = end }

-- a column that was taken before
pub taken_at : (kept : List Column) (all : List Slot) (place first : ℕ) (e : Column) (d : Slot) → place < length all → All (IsWithin (length kept)) all → slots.Taken first ≡ get_or all place d → shown (get_or kept first e) ≡ get_or (map (shown_slot kept) all) place nothing
taken_at kept all place first e d below within is =
    let there : first < length kept = subst (IsWithin (length kept)) (sym is) (within place d below) in
    sym (get_or-map_within shown kept first e nothing there) ∙ ap (shown_slot kept) is ∙ sym (slot_at kept all place d below)

pub kept_stream : (end : Option Fault) (rows : ℕ) (columns : List Column) (places : List ℕ) (kept : List Column) → Taken columns places kept → with_end end (transpose Null rows (map column_values kept)) ≡ emitted places (with_end end (transpose Null rows (map column_values columns)))
unfolding emitted
kept_stream end rows columns places kept taken = ap (with_end end) (kept_rows rows columns places kept taken)

-- what was read at a place
pub read_at : {X : Type 0} (xs : List X) (place : ℕ) (d x : X) → place < length xs → x ≡ get_or xs place x → x ≡ get_or xs place d
read_at xs place d x below is = is ∙ get_or_default xs place x d below
