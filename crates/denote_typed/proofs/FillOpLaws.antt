-- What relations do, with the values of subqueries put in, is well typed where these fit their nodes.
use Rattle.std.proofs.Common.{◌≡◌, ◌∙◌, ℕ, ◌+◌, List, [], ◌∷◌, ◌++◌, not, ◌||◌, Option, Some, None, IsTrue, map, length, is_some, refl, sym, ap, subst, arith}
use Rattle.std.specs.List.{AllByRecursion, flat_map, sum_by, enumerate_from, list_all}
use Rattle.std.specs.Option.{option_to_list}
use Rattle.std.proofs.lemmas.List.{length-append, length-map}
use Rattle.std.proofs.lemmas.List.Sums.{sum_by-cons}
use Rattle.sub_types.specs.Stream.{Stream}
use Rattle.sub_types.specs.declared.kind.Kind.TheVariants as kinds
use Rattle.sub_types.specs.declared.kind.Ty.{Ty}
use Rattle.sub_types.specs.declared.value.Value.{Value}
use Rattle.plan_typed.specs.declared.expr.Expr.{Expr}
use Rattle.plan_typed.specs.declared.rel.Op.{Op}
use Rattle.plan_typed.specs.declared.rel.Op.TheOpen.{Op-F}
use Rattle.plan_typed.specs.declared.rel.Rel.{Rel}
use Rattle.plan_typed.specs.declared.rel.SetMeasure.{SetMeasure}
use Rattle.plan_typed.specs.declared.rel.SortKey.{SortKey}
use Rattle.plan_typed.specs.declared.rel.Source.{Source}
use Rattle.plan_typed.specs.declared.rel.Source.TheVariants as sources
use Rattle.plan_typed.specs.declared.rel.TypedMeasure.{TypedMeasure}
use Rattle.plan_typed.specs.Types.{ty_of, columns_of}
use Rattle.func_table.specs.declared.row.Class.TheVariants.{Aggregate}
use Rattle.well_typed.specs.Columns.{join_columns, has_place, group_type, number_column}
use Rattle.well_typed.specs.ExprTyped.{IsTypedOver, IsCall}
use Rattle.well_typed.specs.WellTyped.{MayBe, IsConditionOver, IsRowOf, IsSourceOf, IsMeasureOver, IsSetMeasureOver, AreBelow, AreInputs, HasParts, set_columns_of, direct_in}
use Rattle.plan_denote.specs.Holes.{Worth, filled_expr, maybe_from, size_of_maybe, all_from, size_of_all, rows_from, source_from, size_of_source, keys_from, measure_from, size_of_measure, measures_from, set_measures_from, Known, filled}
use Rattle.denote_typed.specs.Holes.{slots_of, slots_of_all, slots_of_maybe, slots_of_source, slots_of_measure, slots_of_op, AreTaken}
use Rattle.denote_typed.specs.Kinded.{IsKindedRead}
use Rattle.denote_typed.proofs.FillLaws.{parted, IsFilled, filled_is, each_size, each_typed, each_same}

module _ (k : ℕ → Option Worth) where
  module _ (columns : List Ty) where
    abbrev Typed : Expr → Type 0
    Typed expr = IsTypedOver columns expr

    all_filled : (exprs : List Expr) → AllByRecursion Typed exprs → AllByRecursion (IsFilled columns k) exprs
    all_filled [] all = tt
    all_filled (expr ∷ exprs) all = (filled_is columns k expr all.0, all_filled exprs all.1)

    -- several expressions
    pub all_size : (exprs : List Expr) → AllByRecursion Typed exprs → size_of_all k exprs ≡ length (slots_of_all exprs)
    all_size exprs all = each_size columns k exprs (all_filled exprs all)

    pub all_typed : (exprs : List Expr) (n : ℕ) → AllByRecursion Typed exprs → AreTaken k n (slots_of_all exprs) → AllByRecursion Typed (all_from k n exprs)
    all_typed exprs n all taken = each_typed columns k exprs n (all_filled exprs all) taken

    pub all_same : (exprs : List Expr) (n : ℕ) → AllByRecursion Typed exprs → map ty_of (all_from k n exprs) ≡ map ty_of exprs
    all_same exprs n all = each_same columns k exprs n (all_filled exprs all)

    -- a condition
    condition_at : (expr : Expr) (n : ℕ) → IsConditionOver columns expr → AreTaken k n (slots_of expr) → IsConditionOver columns ((filled_expr k expr).at n)
    condition_at expr n is taken =
        let made = filled_is columns k expr is.0 in
        (made.typed n taken, subst (λ (ty : Ty). ty.kind ≡ kinds.Bool) (sym (made.same n)) is.1)

    maybe_size : (P : Expr → Type 0) → ((expr : Expr) → P expr → Typed expr) → (expr : Option Expr) → MayBe P expr → size_of_maybe k expr ≡ length (slots_of_maybe expr)
    maybe_size P typed None is = refl
    maybe_size P typed (Some expr) is = (filled_is columns k expr (typed expr is)).size

    abbrev Condition : Expr → Type 0
    Condition expr = IsConditionOver columns expr

    condition_size : (expr : Option Expr) → MayBe Condition expr → size_of_maybe k expr ≡ length (slots_of_maybe expr)
    condition_size expr is = maybe_size Condition (λ one known. known.0) expr is

    maybe_condition : (expr : Option Expr) (n : ℕ) → MayBe Condition expr → AreTaken k n (slots_of_maybe expr) → MayBe Condition (maybe_from k n expr)
    maybe_condition None n is taken = tt
    maybe_condition (Some expr) n is taken = condition_at expr n is taken

    maybe_typed : (expr : Option Expr) (n : ℕ) → MayBe Typed expr → AreTaken k n (slots_of_maybe expr) → MayBe Typed (maybe_from k n expr)
    maybe_typed None n is taken = tt
    maybe_typed (Some expr) n is taken = (filled_is columns k expr is).typed n taken

    maybe_same : (expr : Option Expr) (n : ℕ) → MayBe Typed expr → map ty_of (option_to_list (maybe_from k n expr)) ≡ map ty_of (option_to_list expr)
    maybe_same None n is = refl
    maybe_same (Some expr) n is = λ i. (filled_is columns k expr is).same n i ∷ []

    -- sort keys
    keys_typed : (keys : List SortKey) (n : ℕ) → AllByRecursion (λ (key : SortKey). Typed key.expr) keys → AreTaken k n (flat_map (λ (key : SortKey). slots_of key.expr) keys) → AllByRecursion (λ (key : SortKey). Typed key.expr) (keys_from k n keys)
    keys_typed [] n all taken = tt
    keys_typed (key ∷ keys) n all taken =
        let made = filled_is columns k key.expr all.0 in
        let both = parted k n (filled_expr k key.expr).size (slots_of key.expr) (flat_map (λ (one : SortKey). slots_of one.expr) keys) made.size taken in
        (made.typed n both.0, keys_typed keys (n + (filled_expr k key.expr).size) all.1 both.1)

    -- measures
    measure_size : (measure : TypedMeasure) → IsMeasureOver columns measure → size_of_measure k measure ≡ length (slots_of_measure measure)
    measure_size measure is =
        omega (arith, condition_size measure.filter is.filter, maybe_size Typed (λ one known. known) measure.arg is.arg, length-append (slots_of_maybe measure.filter) (slots_of_maybe measure.arg))

    measure_typed : (measure : TypedMeasure) (n : ℕ) → IsMeasureOver columns measure → AreTaken k n (slots_of_measure measure) → IsMeasureOver columns (measure_from k n measure)
    measure_typed measure n is taken =
        let both = parted k n (size_of_maybe k measure.filter) (slots_of_maybe measure.filter) (slots_of_maybe measure.arg) (condition_size measure.filter is.filter) taken in
        let place = n + size_of_maybe k measure.filter in record {
          entry = is.entry;
          call = subst (λ (given : List Ty). IsCall Aggregate measure.func given measure.ty is.entry) (sym (maybe_same measure.arg place is.arg)) is.call;
          arg = maybe_typed measure.arg place is.arg both.1;
          filter = maybe_condition measure.filter n is.filter both.0;
        }

    measures_typed : (measures : List TypedMeasure) (n : ℕ) → AllByRecursion (IsMeasureOver columns) measures → AreTaken k n (flat_map slots_of_measure measures) → AllByRecursion (IsMeasureOver columns) (measures_from k n measures)
    measures_typed [] n all taken = tt
    measures_typed (measure ∷ measures) n all taken =
        let both = parted k n (size_of_measure k measure) (slots_of_measure measure) (flat_map slots_of_measure measures) (measure_size measure all.0) taken in
        (measure_typed measure n all.0 both.0, measures_typed measures (n + size_of_measure k measure) all.1 both.1)

    has_arg : (arg : Option Expr) (n : ℕ) → IsTrue (is_some arg) → IsTrue (is_some (maybe_from k n arg))
    has_arg None n is = is
    has_arg (Some expr) n is = refl

    set_measures_typed : (measures : List SetMeasure) (n : ℕ) → AllByRecursion (IsSetMeasureOver columns) measures → AreTaken k n (flat_map (λ (one : SetMeasure). slots_of_measure one.measure) measures)
        → AllByRecursion (IsSetMeasureOver columns) (set_measures_from k n measures)
    set_measures_typed [] n all taken = tt
    set_measures_typed (one ∷ measures) n all taken =
        let both = parted k n (size_of_measure k one.measure) (slots_of_measure one.measure) (flat_map (λ (other : SetMeasure). slots_of_measure other.measure) measures) (measure_size one.measure all.0.measure) taken in (
          record { measure = measure_typed one.measure n all.0.measure both.0; distinct = λ is. has_arg one.measure.arg (n + size_of_maybe k one.measure.filter) (all.0.distinct is) },
          set_measures_typed measures (n + size_of_measure k one.measure) all.1 both.1,
        )

  -- the types of measures stay
  measures_same : (measures : List TypedMeasure) (n : ℕ) → map (λ (one : TypedMeasure). one.ty) (measures_from k n measures) ≡ map (λ (one : TypedMeasure). one.ty) measures
  measures_same [] n = refl
  measures_same (measure ∷ measures) n = ap (λ rest. measure.ty ∷ rest) (measures_same measures (n + size_of_measure k measure))

  set_measures_same : (measures : List SetMeasure) (n : ℕ) → map (λ (one : SetMeasure). one.measure.ty) (set_measures_from k n measures) ≡ map (λ (one : SetMeasure). one.measure.ty) measures
  set_measures_same [] n = refl
  set_measures_same (one ∷ measures) n = ap (λ rest. one.measure.ty ∷ rest) (set_measures_same measures (n + size_of_measure k one.measure))

  abbrev group_at : List (List ℕ) → ℕ → Ty → Ty
  group_at sets place ty = record { kind = ty.kind; nullable = ty.nullable || not (list_all (has_place place) sets) }

  groups_same : (sets : List (List ℕ)) (start : ℕ) (new old : List Expr) → map ty_of new ≡ map ty_of old → map (group_type sets) (enumerate_from start new) ≡ map (group_type sets) (enumerate_from start old)
  groups_same sets start [] [] same = refl
  groups_same sets start [] (expr ∷ old) same = absurd (cc)
  groups_same sets start (expr ∷ new) [] same = absurd (cc)
  groups_same sets start (a ∷ new) (b ∷ old) same =
      let here : ty_of a ≡ ty_of b = cc in
      let rest : map ty_of new ≡ map ty_of old = cc in
      λ i. group_at sets start (here i) ∷ groups_same sets (start + 1) new old rest i

  -- rows of expressions
  row_typed : (types : List Ty) (row : List Expr) → IsRowOf types row → AllByRecursion (IsTypedOver []) row
  row_typed [] [] is = tt
  row_typed [] (expr ∷ row) is = absurd is
  row_typed (ty ∷ types) [] is = absurd is
  row_typed (ty ∷ types) (expr ∷ row) is = (is.0, row_typed types row is.2)

  row_filled : (types : List Ty) (row : List Expr) (n : ℕ) → IsRowOf types row → AreTaken k n (slots_of_all row) → IsRowOf types (all_from k n row)
  row_filled [] [] n is taken = tt
  row_filled [] (expr ∷ row) n is taken = absurd is
  row_filled (ty ∷ types) [] n is taken = absurd is
  row_filled (ty ∷ types) (expr ∷ row) n is taken =
      let made = filled_is [] k expr is.0 in
      let size = (filled_expr k expr).size in
      let both = parted k n size (slots_of expr) (slots_of_all row) made.size taken in
      (made.typed n both.0, ap (λ (one : Ty). one.kind) (made.same n) ∙ is.1, row_filled types row (n + size) is.2 both.1)

  rows_filled : (types : List Ty) (rows : List (List Expr)) (n : ℕ) → AllByRecursion (IsRowOf types) rows → AreTaken k n (flat_map slots_of_all rows) → AllByRecursion (IsRowOf types) (rows_from k n rows)
  rows_filled types [] n all taken = tt
  rows_filled types (row ∷ rows) n all taken =
      let both = parted k n (size_of_all k row) (slots_of_all row) (flat_map slots_of_all rows) (all_size [] row (row_typed types row all.0)) taken in
      (row_filled types row n all.0 both.0, rows_filled types rows (n + size_of_all k row) all.1 both.1)

  rows_size : (types : List Ty) (rows : List (List Expr)) → AllByRecursion (IsRowOf types) rows → sum_by (size_of_all k) rows ≡ length (flat_map slots_of_all rows)
  rows_size types [] all = refl
  rows_size types (row ∷ rows) all =
      sum_by-cons (size_of_all k) row rows ∙ omega (arith, all_size [] row (row_typed types row all.0), rows_size types rows all.1, length-append (slots_of_all row) (flat_map slots_of_all rows))

  source_size : (types : List Ty) (source : Source) → IsSourceOf types source → size_of_source k source ≡ length (slots_of_source source)
  source_size types (sources.Named names) is = refl
  source_size types (sources.Rows rows) is = rows_size types rows is

  source_filled : (types : List Ty) (source : Source) → IsSourceOf types source → AreTaken k 0 (slots_of_source source) → IsSourceOf types (source_from k source)
  source_filled types (sources.Named names) is taken = is
  source_filled types (sources.Rows rows) is taken = rows_filled types rows 0 is taken

  module _ (all : Known) where
    -- a relation's inputs are filled by all that is known, and its own expressions by what is known of it
    abbrev pub new_op : Op-F Op Rel → Op-F Op Rel
    new_op (Op-F.Read source names types filter mask) = Op-F.Read (source_from k source) names types (maybe_from k (size_of_source k source) filter) mask
    new_op (Op-F.Filter input condition) = Op-F.Filter (filled all input) ((filled_expr k condition).at 0)
    new_op (Op-F.Project input exprs) = Op-F.Project (filled all input) (all_from k 0 exprs)
    new_op (Op-F.Fetch input offset count) = Op-F.Fetch (filled all input) offset count
    new_op (Op-F.Sort input keys) = Op-F.Sort (filled all input) (keys_from k 0 keys)
    new_op (Op-F.Aggregate input groups measures) = Op-F.Aggregate (filled all input) (all_from k 0 groups) (measures_from k (size_of_all k groups) measures)
    new_op (Op-F.GroupSets input groups sets measures) = Op-F.GroupSets (filled all input) (all_from k 0 groups) sets (set_measures_from k (size_of_all k groups) measures)
    new_op (Op-F.Join left right kind on post) = Op-F.Join (filled all left) (filled all right) kind ((filled_expr k on).at 0) (maybe_from k (filled_expr k on).size post)
    new_op (Op-F.Cross left right) = Op-F.Cross (filled all left) (filled all right)
    new_op (Op-F.Set inputs op) = Op-F.Set (map (filled all) inputs) op

    -- the columns of an input stay
    abbrev pub Same : Rel → Type 0
    Same rel = columns_of (filled all rel) ≡ columns_of rel

    abbrev pub AreSame : Op-F Op Rel → Type 0
    AreSame (Op-F.Read source names types filter mask) = Unit {0}
    AreSame (Op-F.Filter input condition) = Same input
    AreSame (Op-F.Project input exprs) = Same input
    AreSame (Op-F.Fetch input offset count) = Same input
    AreSame (Op-F.Sort input keys) = Same input
    AreSame (Op-F.Aggregate input groups measures) = Same input
    AreSame (Op-F.GroupSets input groups sets measures) = Same input
    AreSame (Op-F.Join left right kind on post) = Same left × Same right
    AreSame (Op-F.Cross left right) = Same left × Same right
    AreSame (Op-F.Set inputs op) = AllByRecursion Same inputs

    inputs_same : (inputs : List Rel) → AllByRecursion Same inputs → map columns_of (map (filled all) inputs) ≡ map columns_of inputs
    inputs_same [] same = refl
    inputs_same (input ∷ inputs) same = λ i. same.0 i ∷ inputs_same inputs same.1 i

    -- a relation's parts stay well typed
    pub parts_filled : (level : Op-F Op Rel) → HasParts level → AreTaken k 0 (slots_of_op level) → AreSame level → HasParts (new_op level)
    parts_filled (Op-F.Read source names types filter mask) parts taken same =
        let both = parted k 0 (size_of_source k source) (slots_of_source source) (slots_of_maybe filter) (source_size types source parts.2) taken in
        let rest = subst (λ (at : ℕ). AreTaken k at (slots_of_maybe filter)) (omega arith) both.1 in
        (parts.0, parts.1, source_filled types source parts.2 both.0, maybe_condition types filter (size_of_source k source) parts.3 rest, parts.4)
    parts_filled (Op-F.Filter input condition) parts taken same =
        subst (λ (columns : List Ty). IsConditionOver columns ((filled_expr k condition).at 0)) (sym same) (condition_at (columns_of input) condition 0 parts taken)
    parts_filled (Op-F.Project input exprs) parts taken same =
        subst (λ (columns : List Ty). AllByRecursion (IsTypedOver columns) (all_from k 0 exprs)) (sym same) (all_typed (columns_of input) exprs 0 parts taken)
    parts_filled (Op-F.Fetch input offset count) parts taken same = tt
    parts_filled (Op-F.Sort input keys) parts taken same =
        subst (λ (columns : List Ty). AllByRecursion (λ (key : SortKey). IsTypedOver columns key.expr) (keys_from k 0 keys)) (sym same) (keys_typed (columns_of input) keys 0 parts taken)
    parts_filled (Op-F.Aggregate input groups measures) parts taken same =
        let columns = columns_of input in
        let both = parted k 0 (size_of_all k groups) (slots_of_all groups) (flat_map slots_of_measure measures) (all_size columns groups parts.0) taken in
        let rest = subst (λ (at : ℕ). AreTaken k at (flat_map slots_of_measure measures)) (omega arith) both.1 in
        subst (λ (columns : List Ty). AllByRecursion (IsTypedOver columns) (all_from k 0 groups) × AllByRecursion (IsMeasureOver columns) (measures_from k (size_of_all k groups) measures)) (sym same)
        (all_typed columns groups 0 parts.0 both.0, measures_typed columns measures (size_of_all k groups) parts.1 rest)
    parts_filled (Op-F.GroupSets input groups sets measures) parts taken same =
        let columns = columns_of input in
        let both = parted k 0 (size_of_all k groups) (slots_of_all groups) (flat_map (λ (one : SetMeasure). slots_of_measure one.measure) measures) (all_size columns groups parts.0) taken in
        let rest = subst (λ (at : ℕ). AreTaken k at (flat_map (λ (one : SetMeasure). slots_of_measure one.measure) measures)) (omega arith) both.1 in
        let many : length (all_from k 0 groups) ≡ length groups = sym (length-map (all_from k 0 groups) ty_of) ∙ ap length (all_same columns groups 0 parts.0) ∙ length-map groups ty_of in
        let moved = subst (λ (columns : List Ty). AllByRecursion (IsTypedOver columns) (all_from k 0 groups) × AllByRecursion (IsSetMeasureOver columns) (set_measures_from k (size_of_all k groups) measures)) (sym same)
        (all_typed columns groups 0 parts.0 both.0, set_measures_typed columns measures (size_of_all k groups) parts.4 rest) in
        (moved.0, subst (λ (count : ℕ). AllByRecursion (AreBelow count) sets) (sym many) parts.1, parts.2, parts.3, moved.1)
    parts_filled (Op-F.Join left right kind on post) parts taken same =
        let columns = columns_of left ++ columns_of right in
        let both = parted k 0 (filled_expr k on).size (slots_of on) (slots_of_maybe post) (filled_is columns k on parts.0.0).size taken in
        let rest = subst (λ (at : ℕ). AreTaken k at (slots_of_maybe post)) (omega arith) both.1 in
        let wide : columns_of (filled all left) ++ columns_of (filled all right) ≡ columns = λ i. same.0 i ++ same.1 i in
        let joined : join_columns kind (columns_of (filled all left)) (columns_of (filled all right)) ≡ join_columns kind (columns_of left) (columns_of right) = λ i. join_columns kind (same.0 i) (same.1 i) in (
          subst (λ (columns : List Ty). IsConditionOver columns ((filled_expr k on).at 0)) (sym wide) (condition_at columns on 0 parts.0 both.0),
          subst (λ (columns : List Ty). MayBe (IsConditionOver columns) (maybe_from k (filled_expr k on).size post)) (sym joined)
              (maybe_condition (join_columns kind (columns_of left) (columns_of right)) post (filled_expr k on).size parts.1 rest),
        )
    parts_filled (Op-F.Cross left right) parts taken same = tt
    parts_filled (Op-F.Set inputs op) parts taken same = subst AreInputs (sym (inputs_same inputs same)) parts

    -- and gives the same columns
    pub direct_filled : (level : Op-F Op Rel) → HasParts level → AreSame level → direct_in level ≡ direct_in (new_op level)
    direct_filled (Op-F.Read source names types filter mask) parts same = refl
    direct_filled (Op-F.Filter input condition) parts same = sym same
    direct_filled (Op-F.Project input exprs) parts same = λ i. sym same i ++ sym (all_same (columns_of input) exprs 0 parts) i
    direct_filled (Op-F.Fetch input offset count) parts same = sym same
    direct_filled (Op-F.Sort input keys) parts same = sym same
    direct_filled (Op-F.Aggregate input groups measures) parts same = λ i. sym (all_same (columns_of input) groups 0 parts.0) i ++ sym (measures_same measures (size_of_all k groups)) i
    direct_filled (Op-F.GroupSets input groups sets measures) parts same =
        let first = sym (groups_same sets 0 (all_from k 0 groups) groups (all_same (columns_of input) groups 0 parts.0)) in
        let second = sym (set_measures_same measures (size_of_all k groups)) in
        λ i. first i ++ second i ++ number_column sets
    direct_filled (Op-F.Join left right kind on post) parts same = λ i. join_columns kind (sym same.0 i) (sym same.1 i)
    direct_filled (Op-F.Cross left right) parts same = λ i. sym same.0 i ++ sym same.1 i
    direct_filled (Op-F.Set inputs op) parts same = ap (set_columns_of op) (sym (inputs_same inputs same))

    -- what is read stays
    pub read_filled : (level : Op-F Op Rel) (s : Stream (List Value)) → IsKindedRead level s → IsKindedRead (new_op level) s
    read_filled (Op-F.Read (sources.Named names) columns types filter mask) s kinded = kinded
    read_filled (Op-F.Read (sources.Rows rows) columns types filter mask) s kinded = tt
    read_filled (Op-F.Filter input condition) s kinded = tt
    read_filled (Op-F.Project input exprs) s kinded = tt
    read_filled (Op-F.Fetch input offset count) s kinded = tt
    read_filled (Op-F.Sort input keys) s kinded = tt
    read_filled (Op-F.Aggregate input groups measures) s kinded = tt
    read_filled (Op-F.GroupSets input groups sets measures) s kinded = tt
    read_filled (Op-F.Join left right kind on post) s kinded = tt
    read_filled (Op-F.Cross left right) s kinded = tt
    read_filled (Op-F.Set inputs op) s kinded = tt
