-- Columns behind those of a batch, and the rows over both.
use Rattle.std.proofs.Common.{◌≡◌, ◌∙◌, ℕ, zero, suc, ◌+◌, ◌<◌, ◌≤◌, List, [], ◌∷◌, ◌++◌, Option, Result, length, map, take, get_or, refl, sym, ap, ap₂, subst, arith}
use Rattle.std.specs.List.{All, range_with_len}
use Rattle.std.proofs.lemmas.List.{append_assoc, get_or-take, get_or-map, length-map, length-take-le, map-append, take_all, take_more}
use Rattle.std.proofs.lemmas.List.Elements.{All-append, All-map}
use Rattle.std.proofs.lemmas.List.FromFn.{length-range_with_len}
use Rattle.std.proofs.lemmas.Simd.{map-map}
use Rattle.sub_types.specs.declared.fault.Fault.{Fault}
use Rattle.sub_types.specs.declared.fault.FaultKind.{FaultKind}
use Rattle.sub_types.specs.declared.kind.Kind.{Kind}
use Rattle.sub_types.specs.declared.kind.Ty.{Ty}
use Rattle.sub_types.specs.declared.value.Value.{Value}
use Rattle.sub_types.specs.declared.value.Value.TheVariants.{Null}
use Rattle.sub_types.specs.Rows.{across, transpose}
use Rattle.sub_types.specs.Stream.{Stream}
use Rattle.plan_typed.specs.declared.expr.Expr.{Expr}
use Rattle.plan_typed.specs.Types.{ty_of}
use Rattle.plan_denote.specs.Computed.{collect}
use Rattle.plan_denote.specs.Eval.{eval}
use Rattle.plan_denote.specs.Project.{projected}
use Rattle.plan_denote.specs.Rows.{Row, Formula, values_at}
use Rattle.batch.specs.declared.batch.Batch.{Batch}
use Rattle.batch.specs.declared.column.Column.{Column}
use Rattle.batch.specs.BatchRows.{rows_of}
use Rattle.batch.specs.Column.{column_type, column_values}
use Rattle.batch.specs.ColumnValues.{values_of}
use Rattle.batch.proofs.RowLaws.{length-transpose, get_or-transpose, transpose-from}
use Rattle.kernels.specs.declared.selection.Stop.{Stop}
use Rattle.kernels.specs.declared.selection.Stop.TheVariants.{Never}
use Rattle.kernels.specs.Until.{Until, step, until}
use Rattle.kernels.proofs.RowsLaws.{take-range}
use Rattle.batch_nodes.specs.declared.found.Found.{Found}
use Rattle.batch_nodes.specs.declared.found.Found.TheVariants as found
use Rattle.batch_nodes.specs.Evaluated.{eval_at, row_at, worth_at}
use Rattle.batch_nodes.specs.Found.{IsUntil, found_values}
use Rattle.batch_nodes.specs.Parts.{AreColumns}
use Rattle.batch_nodes.specs.Strict.{earlier}
use Rattle.batch_nodes.proofs.StepLaws.{columns-none, columns-more}
use Rattle.row_ops.specs.declared.projecting.Made.{Made}
use Rattle.row_ops.specs.Behind.{AreBehind, first_shown}
use Rattle.row_ops.specs.Kept.{Shown, shown}
use Rattle.row_ops.specs.Stepped.{end_by}
use Rattle.row_ops.proofs.PlaceLaws.{rows_at, until-few}
use Rattle.row_ops.proofs.StepLaws.{behind_each, project_until}

abbrev stream : List Row → Option Fault → Stream Row
stream rows end = record { rows = rows; end = end }

-- one item more
taken : {X : Type 0} (xs : List X) (n : ℕ) (x : X) → n < length xs → x ≡ get_or xs n x → take (n + 1) xs ≡ take n xs ++ x ∷ []
taken xs n x there is = take_more xs n x there ∙ ap (λ one. take n xs ++ one ∷ []) (sym is)

-- a row of columns of which the rows behind so many are left out
across-take : {X : Type 0} (d : X) (n : ℕ) (columns : List (List X)) (i : ℕ) → i < n → across d (map (take n) columns) i ≡ across d columns i
across-take d n [] i below = refl
across-take d n (column ∷ columns) i below = ap₂ (λ x xs. x ∷ xs) (get_or-take n column i d below) (across-take d n columns i below)

pub transpose-take : {X : Type 0} (d : X) (n : ℕ) (columns : List (List X)) → transpose d n (map (take n) columns) ≡ transpose d n columns
transpose-take d n columns =
    transpose-from d n (map (take n) columns) (transpose d n columns) (length-transpose d n columns) (λ i below. get_or-transpose d n i columns [] below ∙ sym (across-take d n columns i below))

-- rows behind rows
behind-length : (g : ℕ → Row) (rows : List ℕ) (more : List Row) → length more ≤ length rows → length (behind_each g rows more) ≡ length more
behind-length g [] [] few = refl
behind-length g [] (values ∷ more) few = absurd (omega (arith, few))
behind-length g (row ∷ rows) [] few = refl
behind-length g (row ∷ rows) (values ∷ more) few = ap (λ n. suc n) (behind-length g rows more (omega (arith, few)))

behind-at : (g : ℕ → Row) (a n : ℕ) (more : List Row) (i : ℕ) → length more ≤ n → i < length more → get_or (behind_each g (range_with_len a n) more) i [] ≡ g (a + i) ++ get_or more i []
behind-at g a n [] i few below = absurd (omega (arith, below))
behind-at g a zero (values ∷ more) i few below = absurd (omega (arith, few))
behind-at g a (suc n) (values ∷ more) zero few below = let same : a ≡ a + zero = omega arith in ap (λ k. g k ++ values) same
behind-at g a (suc n) (values ∷ more) (suc i) few below =
    let same : (a + 1) + i ≡ a + suc i = omega arith in
    behind-at g (a + 1) n more i (omega (arith, few)) (omega (arith, below)) ∙ ap (λ k. g k ++ get_or more i []) same

-- the rows over the columns of both
pub transpose-both : (d : Value) (g : ℕ → Row) (n k : ℕ) (columns more : List Row) → k ≤ n → ((i : ℕ) → i < k → g i ≡ across d columns i) → transpose d k (columns ++ more) ≡ behind_each g (range_with_len 0 n) (transpose d k more)
transpose-both d g n k columns more few at_row =
    let rows = transpose d k more in
    let long : length rows ≡ k = length-transpose d k more in
    let within : length rows ≤ n = omega (arith, long, few) in
    transpose-from d k (columns ++ more) (behind_each g (range_with_len 0 n) rows) (behind-length g (range_with_len 0 n) rows (omega (arith, long, few, length-range_with_len 0 n)) ∙ long) (λ i below.
    behind-at g 0 n rows i within (omega (arith, long, below))
    ∙ (let same : 0 + i ≡ i = omega arith in ap (λ (k : ℕ). g k ++ get_or rows i []) same)
    ∙ ap₂ (λ (one two : Row). one ++ two) (at_row i below) (get_or-transpose d k i more [] below)
    ∙ sym (map-append (λ (column : List Value). get_or column i d) columns more))

-- ---- the first rows of columns

abbrev values_in : Shown → List Value
values_in one = one.values

abbrev type_in : Shown → Ty
type_in one = one.ty

first_values : (rows : ℕ) (columns first : List Column) → map shown first ≡ map (first_shown rows) columns → map column_values first ≡ map (take rows) (map column_values columns)
first_values rows columns first is =
    sym (map-map values_in shown first) ∙ ap (map values_in) is ∙ map-map values_in (first_shown rows) columns ∙ sym (map-map (take rows) column_values columns)

first_types : (rows : ℕ) (columns first : List Column) → map shown first ≡ map (first_shown rows) columns → map column_type first ≡ map column_type columns
first_types rows columns first is = sym (map-map type_in shown first) ∙ ap (map type_in) is ∙ map-map type_in (first_shown rows) columns

pub both_values : (rows : ℕ) (given more first behind out : List Column) → map shown first ≡ map (first_shown rows) given → map shown behind ≡ map (first_shown rows) more → out ≡ first ++ behind → map column_values out ≡ map (take rows) (map column_values given ++ map column_values more)
both_values rows given more first behind out first_is behind_is is =
    ap (map column_values) is ∙ map-append column_values first behind
    ∙ ap₂ (λ (xs ys : List (List Value)). xs ++ ys) (first_values rows given first first_is) (first_values rows more behind behind_is)
    ∙ sym (map-append (take rows) (map column_values given) (map column_values more))

pub both_types : (rows : ℕ) (given more first behind out : List Column) → map shown first ≡ map (first_shown rows) given → map shown behind ≡ map (first_shown rows) more → out ≡ first ++ behind → map column_type out ≡ map column_type given ++ map column_type more
both_types rows given more first behind out first_is behind_is is =
    ap (map column_type) is ∙ map-append column_type first behind
    ∙ ap₂ (λ (xs ys : List Ty). xs ++ ys) (first_types rows given first first_is) (first_types rows more behind behind_is)

pub both_sized : (rows : ℕ) (given more out : List Column) → map column_values out ≡ map (take rows) (map column_values given ++ map column_values more)
    → All (λ (column : Column). rows ≤ length (values_of column.values)) given → All (λ (column : Column). rows ≤ length (values_of column.values)) more → All (λ (column : Column). length (values_of column.values) ≡ rows) out
both_sized rows given more out is given_long more_long k d below =
    let all = map column_values given ++ map column_values more in
    let long : All (λ (values : List Value). rows ≤ length values) all =
    All-append (λ values. rows ≤ length values) (map column_values given) (map column_values more) (All-map (λ values. rows ≤ length values) column_values given given_long) (All-map (λ values. rows ≤ length values) column_values more more_long) in
    let few : k < length all = omega (arith, below, length-map out column_values, length-map all (take rows), ap length is) in
    let at : column_values (get_or out k d) ≡ take rows (get_or all k []) =
    sym (get_or-map column_values out k d [] below) ∙ ap (λ (xs : List (List Value)). get_or xs k []) is ∙ get_or-map (take rows) all k [] [] few in
    ap length at ∙ length-take-le rows (get_or all k []) (long k [] few)

-- ---- the columns of expressions

until_same : {X : Type 0} (f g : ℕ → Result X FaultKind) → ((i : ℕ) → f i ≡ g i) → (rows : List ℕ) → until f rows ≡ until g rows
until_same f g same [] = refl
until_same f g same (row ∷ rows) = ap₂ (step row) (same row) (until_same f g same rows)

none_are : (batch : Batch) (rows : List ℕ) (n : ℕ) (columns : List Column) → columns ≡ [] → length rows ≡ n → AreColumns [] batch rows (map found.Made columns) n Never
none_are batch rows n columns none many =
    subst (λ (all : List Column). AreColumns [] batch rows (map found.Made all) n Never) (sym none) (subst (λ k. AreColumns [] batch rows [] k Never) many (columns-none batch rows))

pub made_none : (batch : Batch) (columns : List Column) → columns ≡ [] → AreColumns [] batch (range_with_len 0 batch.rows) (map found.Made columns) batch.rows Never
made_none batch columns none = none_are batch (range_with_len 0 batch.rows) batch.rows columns none (length-range_with_len 0 batch.rows)

pub made_more : (batch : Batch) (exprs : List Expr) (n : ℕ) (expr : Expr) (columns out : List Column) (len : ℕ) (stop : Stop) (rows : List ℕ) (one : Found) (column : Column) (its_stop : Stop) (many : ℕ) (ended : Stop)
    → n < length exprs → expr ≡ get_or exprs n expr → AreColumns (take n exprs) batch (range_with_len 0 batch.rows) (map found.Made columns) len stop → len ≤ batch.rows
    → rows ≡ range_with_len 0 len → IsUntil (eval_at expr batch) rows (ty_of expr).kind one its_stop → values_of column.values ≡ found_values one → column.ty ≡ ty_of expr
    → out ≡ columns ++ column ∷ [] → many ≡ length (found_values one) → ended ≡ earlier its_stop stop
    → AreColumns (take (n + 1) exprs) batch (range_with_len 0 batch.rows) (map found.Made out) many ended
made_more batch exprs n expr columns out len stop rows one column its_stop many ended there at are few rows_is is values ty pushed many_is ended_is =
    let all = range_with_len 0 batch.rows in
    let some : rows ≡ take len all = rows_is ∙ sym (take-range batch.rows len few) in
    let made : IsUntil (eval_at expr batch) (take len all) (ty_of expr).kind (found.Made column) its_stop = record {
      values = values ∙ is.values ∙ ap (λ (rows : List ℕ). (until (eval_at expr batch) rows).values) some;
      stop = is.stop ∙ ap (λ (rows : List ℕ). (until (eval_at expr batch) rows).stop) some;
      kind = ap (λ (ty : Ty). ty.kind) (sym ty);
    } in
    let more = columns-more batch all (take n exprs) (map found.Made columns) len stop expr (ty_of expr).kind (found.Made column) its_stop are made in
    let long : length (found_values (found.Made column)) ≡ many = ap length values ∙ sym many_is in
    let found_is : map found.Made columns ++ found.Made column ∷ [] ≡ map found.Made out = sym (ap (map found.Made) pushed ∙ map-append found.Made columns (column ∷ [])) in
    subst (λ (done : List Expr). AreColumns done batch all (map found.Made out) many ended) (sym (taken exprs n expr there at))
    (subst (λ (stop : Stop). AreColumns (take n exprs ++ expr ∷ []) batch all (map found.Made out) many stop) (sym ended_is)
    (subst (λ (len : ℕ). AreColumns (take n exprs ++ expr ∷ []) batch all (map found.Made out) len (earlier its_stop stop)) long
    (subst (λ (ones : List Found). AreColumns (take n exprs ++ expr ∷ []) batch all ones (length (found_values (found.Made column))) (earlier its_stop stop)) found_is more)))

pub made_few : (expr : Expr) (batch : Batch) (rows : List ℕ) (kind : Kind) (one : Found) (its_stop : Stop) (len many : ℕ) → IsUntil (eval_at expr batch) rows kind one its_stop → rows ≡ range_with_len 0 len → len ≤ batch.rows → many ≡ length (found_values one) → many ≤ batch.rows
made_few expr batch rows kind one its_stop len many is rows_is few many_is =
    omega (arith, few, many_is, ap length is.values, until-few (eval_at expr batch) rows, ap length rows_is, length-range_with_len 0 len)

pub types_more : (exprs : List Expr) (n : ℕ) (expr : Expr) (columns out : List Column) (column : Column) → n < length exprs → expr ≡ get_or exprs n expr → map column_type columns ≡ map ty_of (take n exprs) → column.ty ≡ ty_of expr → out ≡ columns ++ column ∷ [] → map column_type out ≡ map ty_of (take (n + 1) exprs)
types_more exprs n expr columns out column there at types ty pushed =
    ap (map column_type) pushed ∙ map-append column_type columns (column ∷ [])
    ∙ ap₂ (λ (tys : List Ty) (one : Ty). tys ++ one ∷ []) types ty
    ∙ sym (ap (map ty_of) (taken exprs n expr there at) ∙ map-append ty_of (take n exprs) (expr ∷ []))

pub made_all : (exprs : List Expr) (n : ℕ) (batch : Batch) (made : Made) → length exprs ≤ n → AreColumns (take n exprs) batch (range_with_len 0 batch.rows) (map found.Made made.columns.items) made.rows made.stop → made.rows ≤ batch.rows → map column_type made.columns.items ≡ map ty_of (take n exprs) → AreBehind exprs batch made
made_all exprs n batch made all are few types =
    let whole : take n exprs ≡ exprs = take_all n exprs all in
    let done = subst (λ (exprs : List Expr). AreColumns exprs batch (range_with_len 0 batch.rows) (map found.Made made.columns.items) made.rows made.stop) whole are in
    record {
      rows = done.rows ∙ ap (λ (columns : List (List Value)). record { values = transpose Null made.rows columns; stop = made.stop }) (map-map found_values found.Made made.columns.items);
      long = λ k d below.
          let at : found_values (get_or (map found.Made made.columns.items) k (found.Made d)) ≡ values_of (get_or made.columns.items k d).values = ap found_values (get_or-map found.Made made.columns.items k d (found.Made d) below) in
          omega (arith, done.long k (found.Made d) (omega (arith, below, length-map made.columns.items found.Made)), ap length at);
      few = few;
      types = types ∙ ap (map ty_of) whole;
    }

-- ---- the stream of a projection

pub project_stream : (number : ℕ) (exprs : List Expr) (batch : Batch) (end : Option Fault) (made : Made) (out : Batch) (ended : Option Fault) → AreBehind exprs batch made
    → rows_of out ≡ transpose Null made.rows (map column_values batch.columns.items ++ map column_values made.columns.items) → ended ≡ end_by number made.stop end
    → ◌≡◌ {A = Stream Row} (record { rows = rows_of out; end = ended }) (projected number (map eval exprs) (record { rows = rows_of batch; end = end }))
project_stream number exprs batch end made out ended are rows_is ended_is =
    let all = range_with_len 0 batch.rows in
    let g = row_at batch in
    let columns = map column_values batch.columns.items in
    let more = map column_values made.columns.items in
    let both = transpose-both Null g batch.rows made.rows columns more are.few (λ i below. get_or-transpose Null batch.rows i columns [] (omega (arith, below, are.few))) in
    let worth = until_same (λ i. values_at (map eval exprs) (g i)) (λ i. collect (worth_at exprs batch i)) (λ i. ap collect (map-map (λ (f : Formula). f (g i)) eval exprs)) all ∙ are.rows in
    ap₂ (λ (rows : List Row) (one : Option Fault). stream rows one) (rows_is ∙ both) ended_is
    ∙ sym (ap (λ (made : Until Row). stream (behind_each g all made.values) (end_by number made.stop end)) worth)
    ∙ sym (project_until number (map eval exprs) g all end)
    ∙ ap (λ (rows : List Row). projected number (map eval exprs) (stream rows end)) (sym (rows_at batch))

pub first_more : (rows : ℕ) (done : List Column) (one column : Column) (rest : List Column) → shown one ≡ first_shown rows column → map shown (done ++ one ∷ []) ++ map (first_shown rows) rest ≡ map shown done ++ map (first_shown rows) (column ∷ rest)
first_more rows done one column rest is =
    ap (λ (all : List Shown). all ++ map (first_shown rows) rest) (map-append shown done (one ∷ []))
    ∙ append_assoc (map shown done) (shown one ∷ []) (map (first_shown rows) rest)
    ∙ ap (λ (one : Shown). map shown done ++ (one ∷ map (first_shown rows) rest)) is
