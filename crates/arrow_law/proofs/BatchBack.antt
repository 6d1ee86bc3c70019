-- The rows of a batch are read back from its metadata and its body.
use Rattle.std.proofs.Common.{◌≡◌, ◌∙◌, ℕ, suc, ◌+◌, ◌^◌, ◌≤◌, ◌==◌, ℤ, pos, List, [], ◌∷◌, ◌++◌, true, Some, None, length, get_or, map, take, drop, refl, sym, ap, arith, append_assoc, length-append, nat_lt, append-nil}
use Rattle.std.specs.List.{All, sum, enumerate_from, slice_get, slice_index}
use Rattle.std.specs.Ordering.{int_eq}
use Rattle.std.proofs.lemmas.Bool.{le-leb}
use Rattle.std.proofs.lemmas.Bool.Decides.{Decides-int_eq, Decides-eqb}
use Rattle.std.proofs.lemmas.List.{length-map, map-append, take_at, drop_at, get_or_at}
use Rattle.std.proofs.lemmas.List.Sums.{sum_by-cons, sum_by_push}
use Rattle.std.proofs.lemmas.List.Elements.{All-head, All-tail}
use Rattle.sub_types.specs.Kind.{IsKind}
use Rattle.sub_types.specs.Value.{Fits}
use Rattle.sub_types.specs.declared.kind.Kind.{Kind}
use Rattle.sub_types.specs.declared.kind.Kind.TheVariants as kinds
use Rattle.sub_types.specs.declared.kind.Ty.{Ty}
use Rattle.sub_types.specs.declared.value.Value.{Value}
use Rattle.sub_types.specs.declared.value.Value.TheVariants as values
use Rattle.arrow_meta.specs.declared.field.Layout.TheVariants.{Plain}
use Rattle.arrow_meta.specs.declared.meta.RecordMeta.{RecordMeta}
use Rattle.arrow_meta.specs.Buffers.{column_at, column_buffers as written_buffers, batch_buffers, batch_nodes, null_count, body_of, buffer_places}
use Rattle.sub_types.specs.OptionSteps.{all_of}
use Rattle.arrow_meta.specs.Batch.{Wanted, known_buffers, count_in, buffer_in, column_buffers, buffer_values, column_in, columns_in, rows_in}
use Rattle.arrow_meta.proofs.ColumnLaws.{buffers_from, nodes_from, length-nodes_from}
use Rattle.arrow_law.proofs.Options.{slice_get_at}
use Rattle.arrow_law.proofs.BodyBack.{signed_pair, buffers_back, buffer_places-append, length-buffer_places, body_of-append}
use Rattle.arrow_law.proofs.ColumnBack.{column_back}
use Rattle.arrow_law.proofs.RowsBack.{columns_from, ColumnFits, columns_fit, transpose_back}

-- how many buffers the columns of types have
abbrev pub buffer_counts : List Ty → List ℕ
buffer_counts types = map (λ ty. known_buffers ty.kind Plain) types

-- the columns of types, all wanted, from the one at i on
abbrev pub wanted_from : ℕ → List Ty → List Wanted
wanted_from i [] = []
wanted_from i (ty ∷ types) = record { column = i; kind = ty.kind; layout = Plain; dictionary = None } ∷ wanted_from (i + 1) types

-- a column has as many buffers as its kind
count_back : (kind : Kind) (column : List Value) → length (written_buffers kind column) ≡ known_buffers kind Plain
count_back kinds.Bool column = refl
count_back kinds.I8 column = refl
count_back kinds.I16 column = refl
count_back kinds.I32 column = refl
count_back kinds.I64 column = refl
count_back kinds.Text column = refl
count_back kinds.Binary column = refl
count_back kinds.Date column = refl
count_back kinds.Timestamp column = refl
count_back (kinds.Decimal precision scale) column = refl

pub length-buffers_from : (i : ℕ) (types : List Ty) (rows : List (List Value)) → length (buffers_from i types rows) ≡ sum (buffer_counts types)
length-buffers_from i [] rows = refl
length-buffers_from i (ty ∷ types) rows =
    let own = count_back ty.kind (column_at i rows) in
    let rest = length-buffers_from (i + 1) types rows in
    let all = sum_by-cons (λ n. n) (known_buffers ty.kind Plain) (buffer_counts types) in
    length-append (written_buffers ty.kind (column_at i rows)) (buffers_from (i + 1) types rows) ∙ omega (arith, own, rest, all)

-- Where the columns of types stand in the metadata and the body of a batch: the column at i is the first of them, behind others.
pub record StandsAt (types : List Ty) (rows : List (List Value)) (shapes : List ℕ) (meta : RecordMeta) (body : List ℕ) (i : ℕ) : Type 0 where
  pub shapes_front : List ℕ
  pub nodes_front : List (ℤ × ℤ)
  pub buffers_front : List (ℤ × ℤ)
  pub before : List ℕ
  pub after : List ℕ
  pub shapes_are : shapes ≡ shapes_front ++ buffer_counts types
  pub nodes_are : meta.nodes ≡ nodes_front ++ map signed_pair (nodes_from i types rows)
  pub buffers_are : meta.buffers ≡ buffers_front ++ map signed_pair (buffer_places (length before) (buffers_from i types rows))
  pub body_is : body ≡ before ++ (body_of (buffers_from i types rows) ++ after)
  pub shapes_long : length shapes_front ≡ i
  pub nodes_long : length nodes_front ≡ i
  pub buffers_long : length buffers_front ≡ sum shapes_front

-- the first of the columns
first_column : (ty : Ty) (types : List Ty) (rows : List (List Value)) (shapes : List ℕ) (meta : RecordMeta) (body : List ℕ) (i : ℕ)
    → StandsAt (ty ∷ types) rows shapes meta body i
    → column_buffers shapes meta body (length rows) i ≡ Some (written_buffers ty.kind (column_at i rows))
unfolding column_buffers
first_column ty types rows shapes meta body i stands =
    let buffers : List (List ℕ) = written_buffers ty.kind (column_at i rows) in
    let others : List (List ℕ) = buffers_from (i + 1) types rows in
    let place : ℕ = length stands.before in
    let nulls : ℕ = null_count (column_at i rows) in
    let node : slice_get meta.nodes i ≡ Some (pos (length rows), pos nulls) =
    ap (λ nodes. slice_get nodes i) stands.nodes_are ∙ slice_get_at stands.nodes_front (pos (length rows), pos nulls) (map signed_pair (nodes_from (i + 1) types rows)) i stands.nodes_long in
    let counted : int_eq (pos (length rows)) (pos (length rows)) ≡ true = (Decides-int_eq (pos (length rows)) (pos (length rows))).1 refl in
    let shape : slice_index shapes i ≡ length buffers =
    ap (λ all. get_or all i 0) stands.shapes_are ∙ get_or_at stands.shapes_front (known_buffers ty.kind Plain) (buffer_counts types) 0 i stands.shapes_long ∙ sym (count_back ty.kind (column_at i rows)) in
    let front : take i shapes ≡ stands.shapes_front = ap (take i) stands.shapes_are ∙ take_at stands.shapes_front (buffer_counts (ty ∷ types)) i stands.shapes_long in
    let places : meta.buffers ≡ stands.buffers_front ++ (map signed_pair (buffer_places place buffers) ++ map signed_pair (buffer_places (place + length (body_of buffers)) others)) =
    stands.buffers_are ∙ ap (λ all. stands.buffers_front ++ all) (ap (map signed_pair) (buffer_places-append place buffers others) ∙ map-append signed_pair (buffer_places place buffers) (buffer_places (place + length (body_of buffers)) others)) in
    let back : drop (sum (take i shapes)) meta.buffers ≡ map signed_pair (buffer_places place buffers) ++ map signed_pair (buffer_places (place + length (body_of buffers)) others) =
    ap (λ all. drop (sum all) meta.buffers) front ∙ ap (drop (sum stands.shapes_front)) places
    ∙ drop_at stands.buffers_front (map signed_pair (buffer_places place buffers) ++ map signed_pair (buffer_places (place + length (body_of buffers)) others)) (sum stands.shapes_front) stands.buffers_long in
    let long : length (map signed_pair (buffer_places place buffers)) ≡ length buffers = length-map (buffer_places place buffers) signed_pair ∙ length-buffer_places place buffers in
    let own : take (slice_index shapes i) (drop (sum (take i shapes)) meta.buffers) ≡ map signed_pair (buffer_places place buffers) =
    ap (λ n. take n (drop (sum (take i shapes)) meta.buffers)) shape ∙ ap (take (length buffers)) back
    ∙ take_at (map signed_pair (buffer_places place buffers)) (map signed_pair (buffer_places (place + length (body_of buffers)) others)) (length buffers) long in
    let lies : body ≡ stands.before ++ (body_of buffers ++ (body_of others ++ stands.after)) =
    stands.body_is ∙ ap (λ all. stands.before ++ (all ++ stands.after)) (body_of-append buffers others) ∙ ap (λ all. stands.before ++ all) (append_assoc (body_of buffers) (body_of others) stands.after) in
    rw (node, counted) (ap (λ all. all_of (map (buffer_in body) all)) own ∙ buffers_back stands.before buffers (body_of others ++ stands.after) body place refl lies)

-- the others stand behind it
other_columns : (ty : Ty) (types : List Ty) (rows : List (List Value)) (shapes : List ℕ) (meta : RecordMeta) (body : List ℕ) (i : ℕ)
    → StandsAt (ty ∷ types) rows shapes meta body i → StandsAt types rows shapes meta body (i + 1)
other_columns ty types rows shapes meta body i stands =
    let buffers : List (List ℕ) = written_buffers ty.kind (column_at i rows) in
    let others : List (List ℕ) = buffers_from (i + 1) types rows in
    let place : ℕ = length stands.before in
    let shape : ℕ = known_buffers ty.kind Plain in
    let node : ℤ × ℤ = (pos (length rows), pos (null_count (column_at i rows))) in
    let own : List (ℤ × ℤ) = map signed_pair (buffer_places place buffers) in
    let next : length (stands.before ++ body_of buffers) ≡ place + length (body_of buffers) = length-append stands.before (body_of buffers) in
    let places : map signed_pair (buffer_places place (buffers ++ others)) ≡ own ++ map signed_pair (buffer_places (length (stands.before ++ body_of buffers)) others) =
    ap (map signed_pair) (buffer_places-append place buffers others) ∙ map-append signed_pair (buffer_places place buffers) (buffer_places (place + length (body_of buffers)) others)
    ∙ ap (λ n. own ++ map signed_pair (buffer_places n others)) (sym next) in
    let total = sum_by_push (λ n. n) stands.shapes_front shape in
    record {
      shapes_front = stands.shapes_front ++ shape ∷ [];
      nodes_front = stands.nodes_front ++ node ∷ [];
      buffers_front = stands.buffers_front ++ own;
      before = stands.before ++ body_of buffers;
      after = stands.after;
      shapes_are = stands.shapes_are ∙ sym (append_assoc stands.shapes_front (shape ∷ []) (buffer_counts types));
      nodes_are = stands.nodes_are ∙ sym (append_assoc stands.nodes_front (node ∷ []) (map signed_pair (nodes_from (i + 1) types rows)));
      buffers_are = stands.buffers_are ∙ ap (λ all. stands.buffers_front ++ all) places ∙ sym (append_assoc stands.buffers_front own (map signed_pair (buffer_places (length (stands.before ++ body_of buffers)) others)));
      body_is = stands.body_is ∙ ap (λ all. stands.before ++ (all ++ stands.after)) (body_of-append buffers others) ∙ ap (λ all. stands.before ++ all) (append_assoc (body_of buffers) (body_of others) stands.after) ∙ sym (append_assoc stands.before (body_of buffers) (body_of others ++ stands.after));
      shapes_long = length-append stands.shapes_front (shape ∷ []) ∙ omega (arith, stands.shapes_long);
      nodes_long = length-append stands.nodes_front (node ∷ []) ∙ omega (arith, stands.nodes_long);
      buffers_long = length-append stands.buffers_front own ∙ omega (arith, stands.buffers_long, total, length-map (buffer_places place buffers) signed_pair, length-buffer_places place buffers, count_back ty.kind (column_at i rows));
    }

-- all columns
columns_back : (types : List Ty) (rows : List (List Value)) (shapes : List ℕ) (meta : RecordMeta) (body : List ℕ) (i : ℕ) (count : ℕ)
    → All (λ ty. IsKind ty.kind) types → All (ColumnFits rows) (enumerate_from i types) → length rows ≡ count → count ≤ 1024 → StandsAt types rows shapes meta body i
    → all_of (map (column_in shapes meta body count) (wanted_from i types)) ≡ Some (columns_from i types rows)
unfolding column_in
columns_back [] rows shapes meta body i count are fits long few stands = refl
columns_back (ty ∷ types) rows shapes meta body i count are fits long few stands =
    let P : Ty → Type 0 = λ ty. IsKind ty.kind in
    let wanted : Wanted = record { column = i; kind = ty.kind; layout = Plain; dictionary = None } in
    let column : List Value = column_at i rows in
    let same : count ≡ length column = omega (arith, long, length-map rows (λ row. get_or row i values.Null)) in
    let buffers : column_buffers shapes meta body count i ≡ Some (written_buffers ty.kind column) =
    ap (λ n. column_buffers shapes meta body n i) (sym long) ∙ first_column ty types rows shapes meta body i stands in
    let values : buffer_values wanted count (written_buffers ty.kind column) ≡ Some column =
    ap (λ n. buffer_values wanted n (written_buffers ty.kind column)) same
    ∙ column_back ty i column (All-head P ty types are) (All-head (ColumnFits rows) (i, ty) (enumerate_from (i + 1) types) fits) (omega (arith, same, few)) in
    let first : column_in shapes meta body count wanted ≡ Some column = rw (buffers, values) refl in
    let others = columns_back types rows shapes meta body (i + 1) count (All-tail P ty types are) (All-tail (ColumnFits rows) (i, ty) (enumerate_from (i + 1) types) fits) long few (other_columns ty types rows shapes meta body i stands) in
    rw (first, others) refl

-- the metadata of a batch
abbrev pub meta_of : List Ty → List (List Value) → RecordMeta
meta_of types rows = record {
  length = pos (length rows);
  nodes = map signed_pair (batch_nodes types rows);
  buffers = map signed_pair (buffer_places 0 (batch_buffers types rows));
}

-- the number of rows
counted_back : (types : List Ty) (rows : List (List Value)) → length rows ≤ 1024 → count_in (buffer_counts types) (meta_of types rows) ≡ Some (length rows)
unfolding count_in
counted_back types rows few =
    let short : nat_lt (length rows) (2 ^ 31) ≡ true = le-leb (suc (length rows)) (2 ^ 31) (omega (arith, few)) in
    let nodes : (length (map signed_pair (batch_nodes types rows)) == length (buffer_counts types)) ≡ true =
    (Decides-eqb (length (map signed_pair (batch_nodes types rows))) (length (buffer_counts types))).1 (length-map (batch_nodes types rows) signed_pair ∙ length-nodes_from 0 types rows ∙ sym (length-map types (λ ty. known_buffers ty.kind Plain))) in
    let buffers : (length (map signed_pair (buffer_places 0 (batch_buffers types rows))) == sum (buffer_counts types)) ≡ true =
    (Decides-eqb (length (map signed_pair (buffer_places 0 (batch_buffers types rows)))) (sum (buffer_counts types))).1 (length-map (buffer_places 0 (batch_buffers types rows)) signed_pair ∙ length-buffer_places 0 (batch_buffers types rows) ∙ length-buffers_from 0 types rows) in
    rw (short, nodes, buffers) refl

-- the rows of a batch
pub rows_back : (types : List Ty) (rows : List (List Value)) → All (λ ty. IsKind ty.kind) types → All (Fits types) rows → length rows ≤ 1024
    → rows_in (buffer_counts types) (meta_of types rows) (body_of (batch_buffers types rows)) (wanted_from 0 types) ≡ Some rows
unfolding rows_in columns_in
rows_back types rows are fits few =
    let body : List ℕ = body_of (batch_buffers types rows) in
    let stands : StandsAt types rows (buffer_counts types) (meta_of types rows) body 0 = record {
      shapes_front = [];
      nodes_front = [];
      buffers_front = [];
      before = [];
      after = [];
      shapes_are = refl;
      nodes_are = refl;
      buffers_are = refl;
      body_is = sym (append-nil body);
      shapes_long = refl;
      nodes_long = refl;
      buffers_long = refl;
    } in
    let columns = columns_back types rows (buffer_counts types) (meta_of types rows) body 0 (length rows) are (columns_fit types rows fits) refl few stands in
    rw (counted_back types rows few, columns) (ap (λ xs. Some xs) (transpose_back types rows fits))
