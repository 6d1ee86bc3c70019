-- A file that holds a table of two columns, as it is opened, and its rows.
use Rattle.std.proofs.Common.{◌≡◌, ◌∙◌, ℕ, List, [], ◌∷◌, true, false, Option, Some, None, Result, Ok, Err, length, map, refl, sym, ap, arith, tests}
use Rattle.std.specs.List.{range_with_len, flat_map}
use Rattle.std.specs.Result.{result_ok}
use Rattle.std.specs.Str.{bytes_eq}
use Rattle.std.proofs.lemmas.Slice.Eq.{bytes_eq-Decides}
use Rattle.sub_types.specs.OptionSteps.{◌>>=◌, all_of}
use Rattle.sub_types.specs.Stream.{rows_alone, glue, followed_by}
use Rattle.sub_types.specs.declared.kind.Kind.{Kind}
use Rattle.sub_types.specs.declared.kind.Kind.TheVariants as kinds
use Rattle.sub_types.specs.declared.kind.Ty.{Ty}
use Rattle.sub_types.specs.declared.value.Value.{Value}
use Rattle.arrow_meta.specs.declared.field.FieldMeta.{FieldMeta}
use Rattle.arrow_meta.specs.declared.field.Shape.TheVariants.{Known, Skip}
use Rattle.arrow_meta.specs.Head.{footer_place, head_of}
use Rattle.arrow_meta.specs.Table.{Table, Opened, opened, rows_with, rows_of, type_of, table_of}
use Rattle.table_open.specs.Columns.{is_kind, has_kind, match_columns}
use Rattle.table_open.specs.Files.{wanted_in}
use Rattle.table_rows.specs.Blocks.{block_stream, file_streams}

-- a step that gives something: what it was taken with, and from what
record Step {A B : Type 0} (first : Option A) (next : A → Option B) (found : B) : Type 0 where
  value : A
  given : first ≡ Some value
  taken : next value ≡ Some found

step : {A B : Type 0} (first : Option A) (next : A → Option B) (found : B) → (first >>= next) ≡ Some found → Step first next found
step None next found all = absurd (cc)
step (Some x) next found all = record { value = x; given = refl; taken = all }

same_value : {A : Type 0} (x y : A) → Some x ≡ Some y → x ≡ y
same_value x y same = cc

is_ok : {A E : Type 0} (r : Result A E) (x : A) → result_ok r ≡ Some x → r ≡ Ok x
is_ok (Ok y) x same = ap (λ z. Ok z) (same_value y x same)
is_ok (Err e) x same = absurd (cc)

-- all columns of a file, in their order
abbrev all_columns : Opened → List ℕ
all_columns file = range_with_len 0 (length file.head.columns)

-- What is known of a file that holds a table: its head, the types of its columns, and the rows of its blocks.
pub record Holds (bytes : List ℕ) (table : Table) : Type 0 where
  pub file : Opened
  pub batches : List (List (List Value))
  pub found : opened bytes ≡ Some file
  pub head : head_of bytes ≡ Ok file.head
  pub names : map (λ field. field.name) file.head.columns ≡ table.names
  pub types : all_of (map type_of file.head.columns) ≡ Some table.types
  pub blocks : all_of (map (λ block. rows_with bytes file block (all_columns file)) (range_with_len 0 (length file.head.blocks))) ≡ Some batches
  pub rows : flat_map (λ rows. rows) batches ≡ table.rows

has_head : (bytes : List ℕ) (file : Opened) → opened bytes ≡ Some file → head_of bytes ≡ Ok file.head
unfolding opened
has_head bytes file is =
    let place = step (result_ok (footer_place bytes)) (λ footer. result_ok (head_of bytes) >>= λ head. Some (record { footer = footer; head = head })) file is in
    let head = step (result_ok (head_of bytes)) (λ head. Some (record { footer = place.value; head = head })) file place.taken in
    is_ok (head_of bytes) file.head (head.given ∙ ap (λ one. Some one.head) (same_value (record { footer = place.value; head = head.value }) file head.taken))

-- a table as it is made of what was read
abbrev made : Opened → List Ty → List (List (List Value)) → Table
made file types batches = record { names = map (λ field. field.name) file.head.columns; types = types; rows = flat_map (λ rows. rows) batches }

held : (bytes : List ℕ) (file : Opened) (types : List Ty) (batches : List (List (List Value))) (table : Table)
    → opened bytes ≡ Some file → all_of (map type_of file.head.columns) ≡ Some types
    → all_of (map (λ block. rows_with bytes file block (all_columns file)) (range_with_len 0 (length file.head.blocks))) ≡ Some batches
    → made file types batches ≡ table → Holds bytes table
held bytes file types batches table found typed read same = record {
  file = file;
  batches = batches;
  found = found;
  head = has_head bytes file found;
  names = ap (λ t. t.names) same;
  types = typed ∙ ap (λ t. Some t.types) same;
  blocks = read;
  rows = ap (λ t. t.rows) same;
}

pub holds : (bytes : List ℕ) (table : Table) → table_of bytes ≡ Some table → Holds bytes table
unfolding table_of
holds bytes table is =
    let read = λ (file : Opened). all_of (map (λ block. rows_with bytes file block (all_columns file)) (range_with_len 0 (length file.head.blocks))) in
    let one = step (opened bytes) (λ file. all_of (map type_of file.head.columns) >>= λ types. read file >>= λ batches. Some (made file types batches)) table is in
    let file : Opened = one.value in
    let two = step (all_of (map type_of file.head.columns)) (λ types. read file >>= λ batches. Some (made file types batches)) table one.taken in
    let three = step (read file) (λ batches. Some (made file two.value batches)) table two.taken in
    held bytes file two.value three.value table one.given two.given three.given (same_value (made file two.value three.value) table three.taken)

-- two columns of these names and types
record TwoColumns (columns : List FieldMeta) (a b : List ℕ) (s t : Ty) : Type 0 where
  first : FieldMeta
  second : FieldMeta
  are : columns ≡ first ∷ second ∷ []
  first_name : first.name ≡ a
  second_name : second.name ≡ b
  first_type : type_of first ≡ Some s
  second_type : type_of second ≡ Some t

two_columns : (columns : List FieldMeta) (a b : List ℕ) (s t : Ty) → map (λ field. field.name) columns ≡ a ∷ b ∷ [] → all_of (map type_of columns) ≡ Some (s ∷ t ∷ [])
    → TwoColumns columns a b s t
two_columns [] a b s t names types = absurd (cc)
two_columns (first ∷ []) a b s t names types = absurd (cc)
two_columns (first ∷ second ∷ third ∷ rest) a b s t names types = absurd (cc)
two_columns (first ∷ second ∷ []) a b s t names types =
    let one = step (type_of first) (λ x. all_of (map type_of (second ∷ [])) >>= λ xs. Some (x ∷ xs)) (s ∷ t ∷ []) types in
    let others = step (all_of (map type_of (second ∷ []))) (λ xs. Some (one.value ∷ xs)) (s ∷ t ∷ []) one.taken in
    let two = step (type_of second) (λ x. Some (x ∷ [])) others.value others.given in
    let x : one.value ≡ s = cc in
    let y : two.value ≡ t = cc in
    record {
      first = first;
      second = second;
      are = refl;
      first_name = cc;
      second_name = cc;
      first_type = one.given ∙ ap (λ z. Some z) x;
      second_type = two.given ∙ ap (λ z. Some z) y;
    }

kind_is : (kind : Kind) → is_kind kind kind ≡ true
kind_is kinds.Bool = refl
kind_is kinds.I8 = refl
kind_is kinds.I16 = refl
kind_is kinds.I32 = refl
kind_is kinds.I64 = refl
kind_is kinds.Text = refl
kind_is kinds.Binary = refl
kind_is kinds.Date = refl
kind_is kinds.Timestamp = refl
kind_is (kinds.Decimal precision scale) = grind (arith, tests)

has_own_kind : (field : FieldMeta) (ty : Ty) → type_of field ≡ Some ty → has_kind ty.kind field.shape ≡ true
has_own_kind field ty = elim field.shape as (λ shape. (elim shape [ Known kind layout ↦ Some (record { kind = kind; nullable = field.nullable }) | Skip buffers ↦ None ]) ≡ Some ty → has_kind ty.kind shape ≡ true) [
  | Known kind layout ↦ λ same. ap (λ one. is_kind kind one.kind) (sym (same_value (record { kind = kind; nullable = field.nullable }) ty same)) ∙ kind_is kind
  | Skip buffers ↦ λ same. absurd (cc)
]

-- both are found by their names
both_found : (relation : ℕ) (columns : List FieldMeta) (a b : List ℕ) (s t : Ty) → TwoColumns columns a b s t → bytes_eq a b ≡ false
    → match_columns relation columns (a ∷ b ∷ []) (s ∷ t ∷ []) ≡ Ok (0 ∷ 1 ∷ [])
unfolding match_columns
both_found relation columns a b s t two apart =
    let first : FieldMeta = two.first in
    let second : FieldMeta = two.second in
    let first_is : bytes_eq first.name a ≡ true = (bytes_eq-Decides first.name a).1 two.first_name in
    let second_is : bytes_eq second.name b ≡ true = (bytes_eq-Decides second.name b).1 two.second_name in
    let first_not : bytes_eq first.name b ≡ false = ap (λ name. bytes_eq name b) two.first_name ∙ apart in
    let first_kind = has_own_kind first s two.first_type in
    let second_kind = has_own_kind second t two.second_type in
    rw (two.are) (rw (first_is, first_kind, first_not, second_is, second_kind) refl)

-- what is wanted of the file
pub both_wanted : (bytes : List ℕ) (relation : ℕ) (a b : List ℕ) (s t : Ty) (rows : List (List Value)) (h : Holds bytes (record { names = a ∷ b ∷ []; types = s ∷ t ∷ []; rows = rows })) → bytes_eq a b ≡ false
    → wanted_in relation (a ∷ b ∷ []) (s ∷ t ∷ []) bytes ≡ Ok (h.file.head, 0 ∷ 1 ∷ [])
unfolding wanted_in
both_wanted bytes relation a b s t rows h apart =
    let two = two_columns h.file.head.columns a b s t h.names h.types in
    rw (h.head, both_found relation h.file.head.columns a b s t two apart) refl

-- the rows of blocks that are all good, block by block
glued : (relation number : ℕ) (read : ℕ → Option (List (List Value))) (blocks : List ℕ) (batches : List (List (List Value))) → all_of (map read blocks) ≡ Some batches
    → glue (map (λ block. block_stream relation number block (read block)) blocks) ≡ rows_alone (flat_map (λ rows. rows) batches)
glued relation number read [] batches are = ap (λ xs. rows_alone (flat_map (λ rows. rows) xs)) (same_value [] batches are)
glued relation number read (block ∷ blocks) batches are =
    let one = step (read block) (λ x. all_of (map read blocks) >>= λ xs. Some (x ∷ xs)) batches are in
    let others = step (all_of (map read blocks)) (λ xs. Some (one.value ∷ xs)) batches one.taken in
    let rest = glued relation number read blocks others.value others.given in
    let same : one.value ∷ others.value ≡ batches = same_value (one.value ∷ others.value) batches others.taken in
    ap (λ found. followed_by (block_stream relation number block found) (glue (map (λ block. block_stream relation number block (read block)) blocks))) one.given
    ∙ ap (followed_by (rows_alone one.value)) rest
    ∙ ap (λ xs. rows_alone (flat_map (λ rows. rows) xs)) same

all_two : (bytes : List ℕ) (a b : List ℕ) (s t : Ty) (rows : List (List Value)) (h : Holds bytes (record { names = a ∷ b ∷ []; types = s ∷ t ∷ []; rows = rows })) → all_columns h.file ≡ 0 ∷ 1 ∷ []
all_two bytes a b s t rows h =
    let two = two_columns h.file.head.columns a b s t h.names h.types in
    ap (λ columns. range_with_len 0 (length columns)) two.are

-- the rows of the file
pub all_rows : (bytes : List ℕ) (relation number : ℕ) (a b : List ℕ) (s t : Ty) (rows : List (List Value)) (h : Holds bytes (record { names = a ∷ b ∷ []; types = s ∷ t ∷ []; rows = rows }))
    → glue (file_streams relation number bytes (length h.file.head.blocks) (0 ∷ 1 ∷ [])) ≡ rows_alone rows
unfolding file_streams rows_of
all_rows bytes relation number a b s t rows h =
    let count : ℕ = length h.file.head.blocks in
    let read = λ (block : ℕ). rows_with bytes h.file block (0 ∷ 1 ∷ []) in
    let are : all_of (map read (range_with_len 0 count)) ≡ Some h.batches =
    ap (λ wanted. all_of (map (λ block. rows_with bytes h.file block wanted) (range_with_len 0 count))) (sym (all_two bytes a b s t rows h)) ∙ h.blocks in
    ap (λ found. glue (map (λ block. block_stream relation number block (found >>= λ file. rows_with bytes file block (0 ∷ 1 ∷ []))) (range_with_len 0 count))) h.found
    ∙ glued relation number read (range_with_len 0 count) h.batches are
    ∙ ap (λ xs. rows_alone xs) h.rows
