-- What follows of rows over columns.
use Rattle.std.proofs.Common.{◌≡◌, ◌∙◌, ℕ, ◌+◌, ◌-◌, ◌<◌, ◌≤◌, List, [], ◌∷◌, ◌++◌, length, map, get_or, refl, sym, ap, ⊎_elim, arith}
use Rattle.std.specs.List.{slice_range, range_with_len, All}
use Rattle.std.proofs.Math.ListN.{get_or-map}
use Rattle.std.proofs.lemmas.Bool.{cases_lt}
use Rattle.std.proofs.lemmas.List.{get_or-map as get_or-map_within, length-map, length-append, get_or_append_left, get_or-append_right}
use Rattle.std.proofs.lemmas.List.FromFn.{length-map-range_with_len, get_or-map-range_with_len, fill_by_all}
use Rattle.std.proofs.lemmas.List.Elements.{All-head, All-tail}
use Rattle.sub_types.specs.PartLaws.{length-part, get_or-part}
use Rattle.sub_types.specs.Rows.{picked, across, transpose}

-- as many rows as were asked for
pub length-transpose : {X : Type 0} (d : X) (n : ℕ) (columns : List (List X)) → length (transpose d n columns) ≡ n
length-transpose d n columns = length-map-range_with_len (across d columns) 0 n

-- the row at a place
pub get_or-transpose : {X : Type 0} (d : X) (n i : ℕ) (columns : List (List X)) (none : List X) → i < n → get_or (transpose d n columns) i none ≡ across d columns i
get_or-transpose d n i columns none below = get_or-map-range_with_len (across d columns) 0 n i i none below (omega arith)

-- rows that are those over the columns one by one are those over the columns
pub transpose-from : {X : Type 0} (d : X) (n : ℕ) (columns rows : List (List X)) → length rows ≡ n → ((i : ℕ) → i < n → get_or rows i [] ≡ across d columns i) → transpose d n columns ≡ rows
transpose-from d n columns rows long same = sym (fill_by_all (across d columns) rows n [] long same)

-- a value of a row is that of its column
pub get_or-across : {X : Type 0} (d : X) (columns : List (List X)) (i j : ℕ) → get_or (across d columns i) j d ≡ get_or (get_or columns j []) i d
get_or-across d columns i j = get_or-map (λ column. get_or column i d) columns j []

-- the row over columns that are changed in the same way
across-map : {X : Type 0} (d : X) (f : List X → List X) (columns : List (List X)) (i j : ℕ) → ((column : List X) → get_or (f column) i d ≡ get_or column j d) → across d (map f columns) i ≡ across d columns j
across-map d f [] i j same = refl
across-map d f (column ∷ columns) i j same =
    ap (λ x. x ∷ across d (map f columns) i) (same column) ∙ ap (λ rest. get_or column j d ∷ rest) (across-map d f columns i j same)

-- the rows at these places, in this order
pub transpose-picked : {X : Type 0} (d : X) (n : ℕ) (columns : List (List X)) (at : List ℕ) → All (λ i. i < n) at → transpose d (length at) (map (picked d at) columns) ≡ picked [] at (transpose d n columns)
transpose-picked d n columns at within =
    transpose-from d (length at) (map (picked d at) columns) (picked [] at (transpose d n columns)) (length-map at (λ i. get_or (transpose d n columns) i [])) (λ k below.
    let j = get_or at k 0 in
    get_or-map_within (λ i. get_or (transpose d n columns) i []) at k 0 [] below ∙ get_or-transpose d n j columns [] (within k 0 below)
    ∙ sym (across-map d (picked d at) columns k j (λ column. get_or-map_within (λ i. get_or column i d) at k 0 d below)))

-- the rows of a part
pub transpose-part : {X : Type 0} (d : X) (n : ℕ) (columns : List (List X)) (from to : ℕ) → from ≤ to → to ≤ n → transpose d (to - from) (map (λ column. slice_range column from to) columns) ≡ slice_range (transpose d n columns) from to
transpose-part d n columns from to rising within =
    transpose-from d (to - from) (map (λ column. slice_range column from to) columns) (slice_range (transpose d n columns) from to) (length-part (transpose d n columns) from to (omega (arith, length-transpose d n columns))) (λ k below.
    get_or-part (transpose d n columns) from to k [] (omega arith) ∙ get_or-transpose d n (from + k) columns [] (omega arith)
    ∙ sym (across-map d (λ column. slice_range column from to) columns k (from + k) (λ column. get_or-part column from to k d (omega arith))))

-- the row over columns of two parts, in the first part and in the second
across-front : {X : Type 0} (d : X) (n : ℕ) (f g : ℕ → List X) (js : List ℕ) (k : ℕ) → All (λ j. length (f j) ≡ n) js → k < n → across d (map (λ j. f j ++ g j) js) k ≡ across d (map f js) k
across-front d n f g [] k long below = refl
across-front d n f g (j ∷ js) k long below =
    let here = All-head (λ j. length (f j) ≡ n) j js long in
    ap (λ x. x ∷ across d (map (λ j. f j ++ g j) js) k) (get_or_append_left (f j) (g j) d k (omega (arith, here)))
    ∙ ap (λ rest. get_or (f j) k d ∷ rest) (across-front d n f g js k (All-tail (λ j. length (f j) ≡ n) j js long) below)

across-back : {X : Type 0} (d : X) (n : ℕ) (f g : ℕ → List X) (js : List ℕ) (k : ℕ) → All (λ j. length (f j) ≡ n) js → n ≤ k → across d (map (λ j. f j ++ g j) js) k ≡ across d (map g js) (k - n)
across-back d n f g [] k long above = refl
across-back d n f g (j ∷ js) k long above =
    let here = All-head (λ j. length (f j) ≡ n) j js long in
    ap (λ x. x ∷ across d (map (λ j. f j ++ g j) js) k) (get_or-append_right (f j) (g j) n k d here above)
    ∙ ap (λ rest. get_or (g j) (k - n) d ∷ rest) (across-back d n f g js k (All-tail (λ j. length (f j) ≡ n) j js long) above)

-- the rows of columns of two parts
pub transpose-append : {X : Type 0} (d : X) (n m : ℕ) (f g : ℕ → List X) (js : List ℕ) → All (λ j. length (f j) ≡ n) js → transpose d (n + m) (map (λ j. f j ++ g j) js) ≡ transpose d n (map f js) ++ transpose d m (map g js)
transpose-append d n m f g js long =
    let columns = map (λ j. f j ++ g j) js in
    let front = transpose d n (map f js) in
    let back = transpose d m (map g js) in
    let size : length (front ++ back) ≡ n + m = omega (arith, length-append front back, length-transpose d n (map f js), length-transpose d m (map g js)) in
    transpose-from d (n + m) columns (front ++ back) size (λ k below.
    ⊎_elim
    (λ (early : k < n).
    get_or_append_left front back [] k (omega (arith, length-transpose d n (map f js))) ∙ get_or-transpose d n k (map f js) [] early ∙ sym (across-front d n f g js k long early))
    (λ (late : n ≤ k).
    get_or-append_right front back n k [] (length-transpose d n (map f js)) late ∙ get_or-transpose d m (k - n) (map g js) [] (omega arith) ∙ sym (across-back d n f g js k long late))
    (cases_lt k n))

-- no rows over whatever columns
pub transpose-none : {X : Type 0} (d : X) (columns : List (List X)) → transpose d 0 columns ≡ []
transpose-none d columns = refl

-- the columns at all places are the columns
pub columns-all : {X : Type 0} (columns : List (List X)) (n : ℕ) → length columns ≡ n → map (λ j. get_or columns j []) (range_with_len 0 n) ≡ columns
columns-all columns n long = sym (fill_by_all (λ j. get_or columns j []) columns n [] long (λ k below. refl))
