-- Buffers one behind the other, and the buffers of columns as those of rows.
use Rattle.std.proofs.Common.{◌≡◌, ◌+◌, ◌-◌, ◌%◌, ◌<◌, ◌≤◌, ◌∙◌, ℕ, suc, ℤ, List, [], ◌∷◌, ◌++◌, length, map, get_or, take, replicate, sym, ap, refl, arith, append_assoc, append-nil, add-zero, zero-add}
use Rattle.std.specs.List.{All, flat_map, range_with_len}
use Rattle.std.specs.Int.{w64, cast_unsigned}
use Rattle.std.proofs.lemmas.List.{map_push, length-append, length-map, get_or-map, take-replicate}
use Rattle.std.proofs.lemmas.List.Concat.{flat_map-append}
use Rattle.std.proofs.lemmas.List.FromFn.{fill_by_all}
use Rattle.fb_bytes.specs.Layout.{filled, round_up}
use Rattle.sub_types.specs.declared.kind.Ty.{Ty}
use Rattle.sub_types.specs.declared.value.Value.{Value}
use Rattle.sub_types.specs.declared.value.Value.TheVariants.{Null}
use Rattle.batch.specs.declared.batch.Batch.{Batch}
use Rattle.batch.specs.declared.column.Column.{Column}
use Rattle.batch.specs.Column.{column_values, column_type}
use Rattle.batch.specs.BatchRows.{types_of, rows_of}
use Rattle.sub_types.specs.Rows.{across, transpose}
use Rattle.arrow_meta.specs.Buffers.{column_buffers, null_count, body_of, buffer_places, column_at, batch_buffers, batch_nodes}
use Rattle.arrow_meta.specs.Meta.{unsigned_pair}
use Rattle.arrow_meta.proofs.ColumnLaws.{buffers_from, nodes_from}
use Rattle.arrow_write.specs.declared.body.Body.{Body}
use Rattle.arrow_write.specs.Bodies.{Puts, PutsNode, HasRows, buffers_of, node_of}

pub body_of-append : (xs ys : List (List ℕ)) → body_of (xs ++ ys) ≡ body_of xs ++ body_of ys
body_of-append xs ys = flat_map-append filled xs ys

pub buffer_places-append : (place : ℕ) (xs ys : List (List ℕ)) → buffer_places place (xs ++ ys) ≡ buffer_places place xs ++ buffer_places (place + length (body_of xs)) ys
buffer_places-append place [] ys = ap (λ p. buffer_places p ys) (omega arith)
buffer_places-append place (x ∷ xs) ys =
    let next = buffer_places-append (place + length (filled x)) xs ys in
    let behind : place + length (filled x) + length (body_of xs) ≡ place + length (filled x ++ body_of xs) = omega (arith, length-append (filled x) (body_of xs)) in
    ap (λ rest. (place, length x) ∷ rest) (next ∙ ap (λ p. buffer_places (place + length (filled x)) xs ++ buffer_places p ys) behind)

-- zeros that fill up
pub zeros : (n : ℕ) → n ≤ 8 → take {A = ℕ} n (0 ∷ 0 ∷ 0 ∷ 0 ∷ 0 ∷ 0 ∷ 0 ∷ 0 ∷ []) ≡ replicate n 0
zeros n few = take-replicate {X = ℕ} n 8 0 few

pub fill_count : (len : ℕ) → (8 - len % 8) % 8 ≡ round_up len - len
unfolding round_up
fill_count len = omega arith

-- one buffer
pub Puts-one : (old new : Body) (buffer : List ℕ) (place len : ℤ) → new.bytes.items ≡ (old.bytes.items ++ buffer) ++ replicate (round_up (length buffer) - length buffer) 0
    → new.places.items ≡ old.places.items ++ (place, len) ∷ [] → cast_unsigned w64 place ≡ length old.bytes.items → cast_unsigned w64 len ≡ length buffer → Puts old new (buffer ∷ [])
unfolding filled
Puts-one old new buffer place len bytes places p l =
    record {
      bytes = bytes ∙ append_assoc old.bytes.items buffer (replicate (round_up (length buffer) - length buffer) 0) ∙ ap (λ b. old.bytes.items ++ b) (sym (append-nil (filled buffer)));
      places = ap (map unsigned_pair) places ∙ map_push unsigned_pair old.places.items (place, len) ∙ ap (λ a. map unsigned_pair old.places.items ++ (a, cast_unsigned w64 len) ∷ []) p
          ∙ ap (λ b. map unsigned_pair old.places.items ++ (length old.bytes.items, b) ∷ []) l;
    }

-- buffers and then more
pub Puts-more : (old mid new : Body) (xs ys : List (List ℕ)) → Puts old mid xs → Puts mid new ys → Puts old new (xs ++ ys)
Puts-more old mid new xs ys a b =
    let places = map unsigned_pair old.places.items in
    let n = length old.bytes.items in
    let long : length mid.bytes.items ≡ n + length (body_of xs) = ap length a.bytes ∙ length-append old.bytes.items (body_of xs) in
    record {
      bytes = b.bytes ∙ ap (λ front. front ++ body_of ys) a.bytes ∙ append_assoc old.bytes.items (body_of xs) (body_of ys) ∙ ap (λ back. old.bytes.items ++ back) (sym (body_of-append xs ys));
      places = b.places ∙ ap (λ front. front ++ buffer_places (length mid.bytes.items) ys) a.places ∙ ap (λ m. (places ++ buffer_places n xs) ++ buffer_places m ys) long
          ∙ append_assoc places (buffer_places n xs) (buffer_places (n + length (body_of xs)) ys) ∙ ap (λ back. places ++ back) (sym (buffer_places-append n xs ys));
    }

-- the same, where nothing but the nodes has changed since
pub Puts-kept : (old mid new : Body) (xs : List (List ℕ)) → Puts old mid xs → new.bytes.items ≡ mid.bytes.items → new.places.items ≡ mid.places.items → Puts old new xs
Puts-kept old mid new xs a bytes places = record { bytes = bytes ∙ a.bytes; places = ap (map unsigned_pair) places ∙ a.places }

-- the body has the buffers of these columns and nothing else
pub record HasColumns (columns : List Column) (body : Body) : Type 0 where
  pub bytes : body.bytes.items ≡ body_of (flat_map buffers_of columns)
  pub places : map unsigned_pair body.places.items ≡ buffer_places 0 (flat_map buffers_of columns)
  pub nodes : map unsigned_pair body.nodes.items ≡ map node_of columns

-- what a body holds behind which more is put
holds_more : (old new : Body) (so_far more : List (List ℕ)) → old.bytes.items ≡ body_of so_far → map unsigned_pair old.places.items ≡ buffer_places 0 so_far → Puts old new more
    → (new.bytes.items ≡ body_of (so_far ++ more)) × (map unsigned_pair new.places.items ≡ buffer_places 0 (so_far ++ more))
holds_more old new so_far more bytes places put = (
  put.bytes ∙ ap (λ front. front ++ body_of more) bytes ∙ sym (body_of-append so_far more),
  put.places ∙ ap (λ front. front ++ buffer_places (length old.bytes.items) more) places ∙ ap (λ (b : List ℕ). buffer_places 0 so_far ++ buffer_places (length b) more) bytes
      ∙ ap (λ (n : ℕ). buffer_places 0 so_far ++ buffer_places n more) (sym (omega arith)) ∙ sym (buffer_places-append 0 so_far more),
)

pub HasColumns-more : (columns : List Column) (column : Column) (old new : Body) → HasColumns columns old → Puts old new (buffers_of column) → PutsNode old new (node_of column) → HasColumns (columns ++ column ∷ []) new
HasColumns-more columns column old new so_far put node =
    let both = holds_more old new (flat_map buffers_of columns) (buffers_of column) so_far.bytes so_far.places put in
    let all : flat_map buffers_of columns ++ buffers_of column ≡ flat_map buffers_of (columns ++ column ∷ []) = sym (flat_map-append buffers_of columns (column ∷ []) ∙ ap (λ last. flat_map buffers_of columns ++ last) (append-nil (buffers_of column))) in
    record {
      bytes = both.0 ∙ ap body_of all;
      places = both.1 ∙ ap (buffer_places 0) all;
      nodes = node ∙ ap (λ front. front ++ node_of column ∷ []) so_far.nodes ∙ sym (map_push node_of columns column);
    }

-- the column at a place of rows over columns
across_rows : (lists : List (List Value)) (i : ℕ) (js : List ℕ) → i < length lists → column_at i (map (across Null lists) js) ≡ map (λ j. get_or (get_or lists i []) j Null) js
across_rows lists i [] below = refl
across_rows lists i (j ∷ js) below =
    ap (λ value. value ∷ column_at i (map (across Null lists) js)) (get_or-map (λ list. get_or list j Null) lists i [] Null below)
    ∙ ap (λ rest. get_or (get_or lists i []) j Null ∷ rest) (across_rows lists i js below)

column_back : (n : ℕ) (lists : List (List Value)) (i : ℕ) → i < length lists → length (get_or lists i []) ≡ n → column_at i (transpose Null n lists) ≡ get_or lists i []
column_back n lists i below long =
    across_rows lists i (range_with_len 0 n) below ∙ sym (fill_by_all (λ j. get_or (get_or lists i []) j Null) (get_or lists i []) n Null long (λ k within. refl))

-- the columns of rows from the one at i on are these
abbrev AreFrom : List (List Value) → ℕ → List Column → Type 0
AreFrom rows i columns = (k : ℕ) (d : Column) → k < length columns → column_at (i + k) rows ≡ column_values (get_or columns k d)

first_from : (rows : List (List Value)) (i : ℕ) (column : Column) (columns : List Column) → AreFrom rows i (column ∷ columns) → column_at i rows ≡ column_values column
first_from rows i column columns are = ap (λ n. column_at n rows) (sym (add-zero i)) ∙ are 0 column (omega arith)

others_from : (rows : List (List Value)) (i : ℕ) (column : Column) (columns : List Column) → AreFrom rows i (column ∷ columns) → AreFrom rows (i + 1) columns
others_from rows i column columns are = λ k d below. let next : i + 1 + k ≡ i + suc k = omega arith in ap (λ n. column_at n rows) next ∙ are (suc k) d (omega arith)

buffers_are : (rows : List (List Value)) (i : ℕ) (columns : List Column) → AreFrom rows i columns → buffers_from i (map column_type columns) rows ≡ flat_map buffers_of columns
buffers_are rows i [] are = refl
buffers_are rows i (column ∷ columns) are =
    ap (λ values. column_buffers column.ty.kind values ++ buffers_from (i + 1) (map column_type columns) rows) (first_from rows i column columns are)
    ∙ ap (λ rest. buffers_of column ++ rest) (buffers_are rows (i + 1) columns (others_from rows i column columns are))

nodes_are : (rows : List (List Value)) (i : ℕ) (columns : List Column) → AreFrom rows i columns → nodes_from i (map column_type columns) rows ≡ map node_of columns
nodes_are rows i [] are = refl
nodes_are rows i (column ∷ columns) are =
    let here = first_from rows i column columns are in
    let long : length rows ≡ length (column_values column) = sym (length-map rows (λ row. get_or row i Null)) ∙ ap length here in
    ap (λ n. (n, null_count (column_at i rows)) ∷ nodes_from (i + 1) (map column_type columns) rows) long
    ∙ ap (λ values. (length (column_values column), null_count values) ∷ nodes_from (i + 1) (map column_type columns) rows) here
    ∙ ap (λ rest. node_of column ∷ rest) (nodes_are rows (i + 1) columns (others_from rows i column columns are))

columns_are : (n : ℕ) (columns : List Column) → All (λ column. length (column_values column) ≡ n) columns → AreFrom (transpose Null n (map column_values columns)) 0 columns
columns_are n columns long = λ k d below.
    let lists : List (List Value) = map column_values columns in
    let here : get_or lists k [] ≡ column_values (get_or columns k d) = get_or-map column_values columns k d [] below in
    ap (λ i. column_at i (transpose Null n lists)) (zero-add k) ∙ column_back n lists k (omega (arith, below, length-map columns column_values)) (ap length here ∙ long k d below) ∙ here

pub buffers-of-rows : (n : ℕ) (columns : List Column) → All (λ column. length (column_values column) ≡ n) columns → batch_buffers (map column_type columns) (transpose Null n (map column_values columns)) ≡ flat_map buffers_of columns
buffers-of-rows n columns long = buffers_are (transpose Null n (map column_values columns)) 0 columns (columns_are n columns long)

pub nodes-of-rows : (n : ℕ) (columns : List Column) → All (λ column. length (column_values column) ≡ n) columns → batch_nodes (map column_type columns) (transpose Null n (map column_values columns)) ≡ map node_of columns
nodes-of-rows n columns long = nodes_are (transpose Null n (map column_values columns)) 0 columns (columns_are n columns long)

pub HasRows-of-columns : (batch : Batch) (body : Body) → HasColumns batch.columns.items body → HasRows (types_of batch) (rows_of batch) body
HasRows-of-columns batch body has =
    let same = buffers-of-rows batch.rows batch.columns.items batch.sized in
    record {
      bytes = has.bytes ∙ ap body_of (sym same);
      places = has.places ∙ ap (buffer_places 0) (sym same);
      nodes = has.nodes ∙ sym (nodes-of-rows batch.rows batch.columns.items batch.sized);
    }

-- columns without values
pub HasRows-none : (body : Body) → body.bytes.items ≡ [] → body.places.items ≡ [] → body.nodes.items ≡ [] → HasRows [] [] body
HasRows-none body bytes places nodes = record { bytes = bytes; places = ap (map unsigned_pair) places; nodes = ap (map unsigned_pair) nodes }

no_values-more : (i : ℕ) (types : List Ty) (ty : Ty) → buffers_from i (types ++ ty ∷ []) [] ≡ buffers_from i types [] ++ column_buffers ty.kind []
no_values-more i [] ty = append-nil (column_buffers ty.kind [])
no_values-more i (first ∷ types) ty =
    ap (λ rest. column_buffers first.kind [] ++ rest) (no_values-more (i + 1) types ty) ∙ sym (append_assoc (column_buffers first.kind []) (buffers_from (i + 1) types []) (column_buffers ty.kind []))

no_nodes-more : (i : ℕ) (types : List Ty) (ty : Ty) → nodes_from i (types ++ ty ∷ []) [] ≡ nodes_from i types [] ++ (0, 0) ∷ []
no_nodes-more i [] ty = refl
no_nodes-more i (first ∷ types) ty = ap (λ rest. (0, 0) ∷ rest) (no_nodes-more (i + 1) types ty)

pub HasRows-more : (types : List Ty) (ty : Ty) (old new : Body) → HasRows types [] old → Puts old new (column_buffers ty.kind []) → PutsNode old new (0, 0) → HasRows (types ++ ty ∷ []) [] new
HasRows-more types ty old new so_far put node =
    let both = holds_more old new (batch_buffers types []) (column_buffers ty.kind []) so_far.bytes so_far.places put in
    let all : batch_buffers types [] ++ column_buffers ty.kind [] ≡ batch_buffers (types ++ ty ∷ []) [] = sym (no_values-more 0 types ty) in
    record {
      bytes = both.0 ∙ ap body_of all;
      places = both.1 ∙ ap (buffer_places 0) all;
      nodes = node ∙ ap (λ front. front ++ (0, 0) ∷ []) so_far.nodes ∙ sym (no_nodes-more 0 types ty);
    }
