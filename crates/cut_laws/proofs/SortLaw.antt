-- A sort by expressions is one by the columns that their values become behind each row.
use Rattle.std.proofs.Common.{◌≡◌, ◌∙◌, ℕ, suc, ◌+◌, List, [], ◌∷◌, ◌++◌, Bool, true, false, Option, Some, None, Result, Ok, Err, IfOk, map, length, get_or, refl, sym, ap, subst, arith, append_assoc, if◌then◌else◌}
use Rattle.std.proofs.lemmas.List.{map-append, length-append, length-map}
use Rattle.std.proofs.lemmas.Simd.{map-map}
use Rattle.std.proofs.Math.Seq.{get_or-append_seam}
use Rattle.std.specs.List.{AllByRecursion, range_with_len}
use Rattle.std.specs.Ordering.{is_gt, on}
use Rattle.std.specs.declared.cmp.Ordering.{Ordering}
use Rattle.sub_types.proofs.StreamLaws.{followed_by_assoc}
use Rattle.sub_types.specs.declared.fault.Fault.{Fault}
use Rattle.sub_types.specs.declared.fault.FaultKind.{FaultKind}
use Rattle.sub_types.specs.declared.value.Value.{Value}
use Rattle.sub_types.specs.declared.value.Value.TheVariants as values
use Rattle.sub_types.specs.Stream.{Stream, rows_alone, ended, followed_by, glue, stream_of}
use Rattle.plan_typed.specs.declared.rel.SortKey.{SortKey}
use Rattle.plan_denote.specs.Denote.{direction_of}
use Rattle.plan_denote.specs.Eval.{eval}
use Rattle.plan_denote.specs.Project.{projected, emitted, columns_at}
use Rattle.plan_denote.specs.Rows.{Row, Computed, Formula, ◌>>=◌, collect, values_at, at_relation, each_row, unless_fault}
use Rattle.plan_denote.specs.Sort.{Direction, Keyed, keyed, placed, arranged, key_cmp, sorted_rows, sorted}
use Rattle.denote_typed.proofs.RowsLaws.{stepped, each_row_all}
use Rattle.rel_specs.specs.declared.key_order.KeyOrder.{KeyOrder}
use Rattle.plan_pipes.specs.RowMeaning.{keyed_by, direction_in, sorted_by}
use Rattle.rel_parts.specs.Parts.{orders_from}

abbrev stream : {R : Type 0} → List R → Option Fault → Stream R
stream rows end = record { rows = rows; end = end }

abbrev mapped : {A B : Type 0} → (A → B) → Stream A → Stream B
mapped f s = record { rows = map f s.rows; end = s.end }

abbrev mapped_result : {A B E : Type 0} → (A → B) → Result (List A) E → Result (List B) E
mapped_result f (Ok xs) = Ok (map f xs)
mapped_result f (Err e) = Err e

-- rows that are changed one by one, as they are given or all at the end
first_mapped : {A B : Type 0} (number : ℕ) (f : A → B) (given : Result (List A) FaultKind) (rest : Stream A) (others : Stream B) → others ≡ mapped f rest
    → followed_by (stream_of (at_relation number (mapped_result f given))) others ≡ mapped f (followed_by (stream_of (at_relation number given)) rest)
first_mapped number f (Ok xs) rest others is = ap (followed_by (rows_alone (map f xs))) is ∙ ap (λ rows. stream rows rest.end) (sym (map-append f xs rest.rows))
first_mapped number f (Err kind) rest others is = refl

each_row-first : {A B : Type 0} (number : ℕ) (f : A → Result (List B) FaultKind) (row : A) (rows : List A) (end : Option Fault)
    → each_row number f (stream (row ∷ rows) end) ≡ followed_by (stream_of (at_relation number (f row))) (each_row number f (stream rows end))
each_row-first number f row rows end =
    let each = λ (one : _). stream_of (at_relation number (f one)) in
    followed_by_assoc (each row) (glue (map each rows)) (ended end)

each_row-mapped : {A B C : Type 0} (number : ℕ) (f : A → Result (List B) FaultKind) (g : B → C) (rows : List A) (end : Option Fault)
    → each_row number (λ row. mapped_result g (f row)) (stream rows end) ≡ mapped g (each_row number f (stream rows end))
each_row-mapped number f g [] end = refl
each_row-mapped number f g (row ∷ rows) end =
    each_row-first number (λ one. mapped_result g (f one)) row rows end
    ∙ first_mapped number g (f row) (each_row number f (stream rows end)) (each_row number (λ one. mapped_result g (f one)) (stream rows end)) (each_row-mapped number f g rows end)
    ∙ ap (mapped g) (sym (each_row-first number f row rows end))

-- the values of a row's keys behind it
abbrev beside : Keyed → Row
beside one = one.1 ++ one.0

project_of : (row : Row) (found : Result Row FaultKind) → (found >>= (λ values. Ok ((row ++ values) ∷ []))) ≡ mapped_result beside (found >>= (λ key. Ok ((key, row) ∷ [])))
project_of row (Ok key) = refl
project_of row (Err kind) = refl

projected_is : (number : ℕ) (exprs : List Formula) (s : Stream Row) → projected number exprs s ≡ mapped beside (each_row number (keyed exprs) s)
unfolding projected
projected_is number exprs s =
    ap (λ (f : Row → Result (List Row) FaultKind). each_row number f s) (λ i row. project_of row (values_at exprs row) i)
    ∙ each_row-mapped number (keyed exprs) beside s.rows s.end

-- a change that keeps the order may come before or after
placed-mapped : {A B : Type 0} (cmp : B → B → Ordering) (f : A → B) (x : A) (ys : List A) → placed cmp (f x) (map f ys) ≡ map f (placed (λ a b. cmp (f a) (f b)) x ys)
placed-mapped cmp f x [] = refl
placed-mapped cmp f x (y ∷ ys) = by_test (is_gt (cmp (f x) (f y))) (placed-mapped cmp f x ys)
  where
    by_test : (test : Bool) → placed cmp (f x) (map f ys) ≡ map f (placed (λ a b. cmp (f a) (f b)) x ys)
        → (if test then f y ∷ placed cmp (f x) (map f ys) else f x ∷ f y ∷ map f ys) ≡ map f (if test then y ∷ placed (λ a b. cmp (f a) (f b)) x ys else x ∷ y ∷ ys)
    by_test true ih = ap (λ rest. f y ∷ rest) ih
    by_test false ih = refl

arranged-mapped : {A B : Type 0} (cmp : B → B → Ordering) (f : A → B) (xs : List A) → arranged cmp (map f xs) ≡ map f (arranged (λ a b. cmp (f a) (f b)) xs)
arranged-mapped cmp f [] = refl
arranged-mapped cmp f (x ∷ xs) = ap (placed cmp (f x)) (arranged-mapped cmp f xs) ∙ placed-mapped cmp f x (arranged (λ a b. cmp (f a) (f b)) xs)

-- the columns behind a row are its keys
columns_behind : (row : Row) (key : List Value) (keys : List SortKey) → length key ≡ length keys
    → map (λ (order : KeyOrder). get_or (row ++ key) order.column values.Null) (orders_from (length row) keys) ≡ key
columns_behind row [] [] many = refl
columns_behind row [] (one ∷ keys) many = absurd (omega (arith, many))
columns_behind row (value ∷ key) [] many = absurd (omega (arith, many))
columns_behind row (value ∷ key) (one ∷ keys) many =
    let longer : length (row ++ value ∷ []) ≡ length row + 1 = length-append row (value ∷ []) in
    let rest = columns_behind (row ++ value ∷ []) key keys (omega (arith, many)) in
    let same : map (λ (order : KeyOrder). get_or (row ++ value ∷ key) order.column values.Null) (orders_from (length row + 1) keys) ≡ key =
    ap (λ whole. map (λ (order : KeyOrder). get_or whole order.column values.Null) (orders_from (length row + 1) keys)) (sym (append_assoc row (value ∷ []) key))
    ∙ ap (λ at. map (λ (order : KeyOrder). get_or ((row ++ value ∷ []) ++ key) order.column values.Null) (orders_from at keys)) (sym longer) ∙ rest in
    λ i. get_or-append_seam row value key values.Null i ∷ same i

-- and those from a place on are the row's own
columns_from : (before row after : Row) → map (λ at. get_or (before ++ (row ++ after)) at values.Null) (range_with_len (length before) (length row)) ≡ row
columns_from before [] after = refl
columns_from before (value ∷ row) after =
    let longer : length (before ++ value ∷ []) ≡ length before + 1 = length-append before (value ∷ []) in
    let same : map (λ at. get_or (before ++ (value ∷ (row ++ after))) at values.Null) (range_with_len (length before + 1) (length row)) ≡ row =
    ap (λ whole. map (λ at. get_or whole at values.Null) (range_with_len (length before + 1) (length row))) (sym (append_assoc before (value ∷ []) (row ++ after)))
    ∙ ap (λ start. map (λ at. get_or ((before ++ value ∷ []) ++ (row ++ after)) at values.Null) (range_with_len start (length row))) (sym longer)
    ∙ columns_from (before ++ value ∷ []) row after in
    λ i. get_or-append_seam before value (row ++ after) values.Null i ∷ same i

-- the values of expressions are as many as these
collected : (results : List Computed) → IfOk (collect results) (λ found. length found ≡ length results)
collected [] = refl
collected (first ∷ results) =
    stepped (λ _. Unit {0}) (λ (found : List Value). length found ≡ length (first ∷ results)) first (λ value. collect results >>= (λ rest. Ok (value ∷ rest))) (any first) (λ value _.
    stepped (λ (rest : List Value). length rest ≡ length results) (λ (found : List Value). length found ≡ length (first ∷ results)) (collect results) (λ rest. Ok (value ∷ rest)) (collected results) (λ rest many. ap suc many))
  where
    any : (one : Computed) → IfOk one (λ _. Unit {0})
    any (Ok value) = tt
    any (Err kind) = tt

module _ (number width : ℕ) (keys : List SortKey) where
  abbrev exprs : List Formula
  exprs = map (λ (key : SortKey). eval key.expr) keys

  abbrev orders : List KeyOrder
  orders = orders_from width keys

  abbrev columns : List ℕ
  columns = range_with_len 0 width

  -- a row of so many columns with as many values as there are keys
  abbrev IsWide : Keyed → Type 0
  IsWide one = (length one.1 ≡ width) × (length one.0 ≡ length keys)

  -- the keys stay, and of the rest only the row's own columns
  abbrev own : Keyed → Keyed
  own one = (one.0, columns_at columns one.1)

  own_again : (one : Keyed) → IsWide one → own (keyed_by orders (beside one)) ≡ one
  own_again one is =
      let key : map (λ (order : KeyOrder). get_or (one.1 ++ one.0) order.column values.Null) orders ≡ one.0 =
      ap (λ at. map (λ (order : KeyOrder). get_or (one.1 ++ one.0) order.column values.Null) (orders_from at keys)) (sym is.0) ∙ columns_behind one.1 one.0 keys is.1 in
      let row : columns_at columns (one.1 ++ one.0) ≡ one.1 = ap (λ many. columns_at (range_with_len 0 many) (one.1 ++ one.0)) (sym is.0) ∙ columns_from [] one.1 one.0 in
      λ i. (key i, row i)

  all_again : (all : List Keyed) → AllByRecursion IsWide all → map own (map (keyed_by orders) (map beside all)) ≡ all
  all_again [] wide = refl
  all_again (one ∷ all) wide = λ i. own_again one wide.0 i ∷ all_again all wide.1 i

  directions_from : (start : ℕ) (some : List SortKey) → map direction_in (orders_from start some) ≡ map direction_of some
  directions_from start [] = refl
  directions_from start (key ∷ some) = ap (λ rest. direction_of key ∷ rest) (directions_from (start + 1) some)

  abbrev by_key : List Direction → Keyed → Keyed → Ordering
  by_key directions = on (λ (one : Keyed). one.0) (key_cmp directions)

  ordered : (directions : List Direction) (all : List Keyed) → AllByRecursion IsWide all
      → map (columns_at columns) (sorted_rows directions (map (keyed_by orders) (map beside all))) ≡ sorted_rows directions all
  unfolding sorted_rows
  ordered directions all wide =
      let long = map (keyed_by orders) (map beside all) in
      map-map (columns_at columns) (λ (one : Keyed). one.1) (arranged (by_key directions) long)
      ∙ sym (map-map (λ (one : Keyed). one.1) own (arranged (by_key directions) long))
      ∙ ap (map (λ (one : Keyed). one.1)) (sym (arranged-mapped (by_key directions) own long) ∙ ap (arranged (by_key directions)) (all_again all wide))

  wide : (s : Stream Row) → AllByRecursion (λ row. length row ≡ width) s.rows → AllByRecursion IsWide (each_row number (keyed exprs) s).rows
  wide s rows =
      each_row_all (λ row. length row ≡ width) IsWide number (keyed exprs) s rows (λ row many.
      stepped (λ (key : List Value). length key ≡ length keys) (AllByRecursion IsWide) (values_at exprs row) (λ key. Ok ((key, row) ∷ []))
      (counted row) (λ key count. ((many, count), tt)))
    where
      counted : (row : Row) → IfOk (values_at exprs row) (λ key. length key ≡ length keys)
      counted row = subst (λ (many : ℕ). IfOk (values_at exprs row) (λ key. length key ≡ many)) (length-map exprs (λ (expr : Formula). expr row) ∙ length-map keys (λ (key : SortKey). eval key.expr)) (collected (map (λ expr. expr row) exprs))

  by_end : (rows : List Row) (end : Option Fault) → emitted columns (unless_fault end (rows_alone rows)) ≡ unless_fault end (rows_alone (map (columns_at columns) rows))
  unfolding emitted
  by_end rows None = refl
  by_end rows (Some fault) = refl

  -- the columns of rows that are sorted by the columns of their keys
  pub sort_by_columns : (s : Stream Row) → AllByRecursion (λ row. length row ≡ width) s.rows
      → emitted columns (sorted_by orders (projected number (map eval (map (λ (key : SortKey). key.expr) keys)) s)) ≡ sorted number exprs (map direction_of keys) s
  unfolding sorted sorted_by
  sort_by_columns s rows =
      let found = each_row number (keyed exprs) s in
      let directions = map direction_in orders in
      ap (λ (given : List Formula). emitted columns (sorted_by orders (projected number given s))) (map-map eval (λ (key : SortKey). key.expr) keys)
      ∙ ap (λ (given : Stream Row). emitted columns (sorted_by orders given)) (projected_is number exprs s)
      ∙ by_end (sorted_rows directions (map (keyed_by orders) (map beside found.rows))) found.end
      ∙ ap (λ all. unless_fault found.end (rows_alone all)) (ordered directions found.rows (wide s rows))
      ∙ ap (λ (to : List Direction). unless_fault found.end (rows_alone (sorted_rows to found.rows))) (directions_from width keys)
