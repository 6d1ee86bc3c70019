-- The shapes of a file's columns are ones that a file can have.
use Rattle.std.proofs.Common.{◌≡◌, ℕ, suc, ◌/◌, List, [], ◌∷◌, Bool, true, false, not, ◌&&◌, ◌||◌, ◌==◌, Option, Some, None, Result, Ok, Err, IfOk, map, eqb-true, inl, inr, is_some, refl, sym, subst, arith}
use Rattle.std.specs.Prelude.{if◌then◌else◌, unwrap_or}
use Rattle.std.specs.List.{AllByRecursion, range_with_len}
use Rattle.std.proofs.lemmas.Bool.{or_cases}
use Rattle.std.proofs.lemmas.Bool.Decides.{nat_tests}
use Rattle.fb_bytes.specs.Reading.{TableAt, VectorAt, root_of, vector_of, table_item, text_of}
use Rattle.sub_types.specs.Kind.{IsDecimal}
use Rattle.sub_types.specs.ResultSteps.{◌>>=◌, collect}
use Rattle.sub_types.specs.declared.kind.Kind.TheVariants as kinds
use Rattle.arrow_meta.specs.declared.error.MetaError.{MetaError}
use Rattle.arrow_meta.specs.declared.error.MetaError.TheVariants as errors
use Rattle.arrow_meta.specs.declared.field.FieldMeta.{FieldMeta}
use Rattle.arrow_meta.specs.declared.field.Layout.TheVariants as layouts
use Rattle.arrow_meta.specs.declared.field.Shape.{Shape}
use Rattle.arrow_meta.specs.declared.field.Shape.TheVariants.{Known, Skip}
use Rattle.arrow_meta.specs.Footer.{Field, field_in, field_at, each_of, fields_in, columns_from, Footer, blocks_in, footer_in}
use Rattle.arrow_meta.specs.Head.{Refusal, refuse_if, refused, footer_place, footer_at, Head, head_with, has_compression, head_of}
use Rattle.arrow_meta.specs.Known.{IsShape, is_index_size}
use Rattle.arrow_meta.specs.Looked.{looked, when, number_in, table_in, is_version}
use Rattle.arrow_meta.specs.Shapes.{int_in, int_shape, is_decimal, decimal_in, date_in, timestamp_in, is_skipped, tag_shape, number_shape, by_table, type_shape, is_index_width, index_shape, shape_of, encoding_in, shape_in}
use Rattle.well_typed.specs.WellTyped.{MayBe}
use Rattle.denote_typed.proofs.RowsLaws.{any_result, stepped}

-- one of two shapes
either : (test : Bool) (a b : Shape) → (test ≡ true → IsShape a) → IsShape b → IsShape (if test then a else b)
either true a b k is = k refl
either false a b k is = is

either_some : (test : Bool) (a : Shape) (b : Option Shape) → IsShape a → MayBe IsShape b → MayBe IsShape (if test then Some a else b)
either_some true a b here is = here
either_some false a b here is = is

-- steps of which nothing is known but the last
after : {A B E : Type 0} (Q : B → Type 0) (first : Result A E) (next : A → Result B E) → ((x : A) → IfOk (next x) Q) → IfOk (first >>= next) Q
after Q first next k = stepped (λ _. Unit {0}) Q first next (any_result first) (λ x _. k x)

number_is : (int : TableAt) → IfOk (number_shape int) IsShape
unfolding number_shape
number_is int = after IsShape (int_in int) (λ type. Ok (int_shape type)) (λ type.
    either (not type.signed) (Skip 2) _ (λ _. tt)
    (either (type.bits == 8) (Known kinds.I8 layouts.Plain) _ (λ _. (tt, tt))
    (either (type.bits == 16) (Known kinds.I16 layouts.Plain) _ (λ _. (tt, tt))
    (either (type.bits == 32) (Known kinds.I32 layouts.Plain) _ (λ _. (tt, tt))
    (either (type.bits == 64) (Known kinds.I64 layouts.Plain) (Skip 2) (λ _. (tt, tt)) tt)))))

decimal_of : (bits precision scale : ℕ) → is_decimal bits precision scale ≡ true → IsDecimal precision scale
decimal_of bits precision scale h = record { one_digit = grind (arith, nat_tests); within = grind (arith, nat_tests); scaled = grind (arith, nat_tests) }

decimal_is : (decimal : TableAt) → IfOk (decimal_in decimal) IsShape
unfolding decimal_in
decimal_is decimal =
    after IsShape (number_in decimal 0 4 0) _ (λ precision.
    after IsShape (number_in decimal 1 4 0) _ (λ scale.
    after IsShape (number_in decimal 2 4 128) (λ bits. Ok (if is_decimal bits precision scale then Known (kinds.Decimal precision scale) layouts.Plain else Skip 2)) (λ bits.
    either (is_decimal bits precision scale) (Known (kinds.Decimal precision scale) layouts.Plain) (Skip 2) (λ is. (decimal_of bits precision scale is, tt)) tt)))

date_is : (date : TableAt) → IfOk (date_in date) IsShape
unfolding date_in
date_is date =
    after IsShape (number_in date 0 2 1) (λ unit. Ok (if unit == 0 then Known kinds.Date layouts.Plain else Skip 2)) (λ unit. either (unit == 0) (Known kinds.Date layouts.Plain) (Skip 2) (λ _. (tt, tt)) tt)

timestamp_is : (timestamp : TableAt) → IfOk (timestamp_in timestamp) IsShape
unfolding timestamp_in
timestamp_is timestamp =
    after IsShape (number_in timestamp 0 2 0) _ (λ unit.
    after IsShape (looked (text_of timestamp 1)) (λ zone. Ok (if unit == 2 && not (is_some zone) then Known kinds.Timestamp layouts.Plain else Skip 2)) (λ zone.
    either (unit == 2 && not (is_some zone)) (Known kinds.Timestamp layouts.Plain) (Skip 2) (λ _. (tt, tt)) tt))

tag_is : (tag : ℕ) → MayBe IsShape (tag_shape tag)
tag_is tag =
    either_some (tag == 4) (Known kinds.Binary layouts.Plain) _ (tt, tt)
    (either_some (tag == 5) (Known kinds.Text layouts.Plain) _ (tt, tt)
    (either_some (tag == 6) (Known kinds.Bool layouts.Plain) _ (tt, tt)
    (either_some (tag == 19) (Known kinds.Binary layouts.Wide) _ (tt, tt)
    (either_some (tag == 20) (Known kinds.Text layouts.Wide) _ (tt, tt)
    (either_some (is_skipped tag) (Skip 2) None tt tt)))))

by_table_is : (field : TableAt) (read : TableAt → Result Shape MetaError) → ((type : TableAt) → IfOk (read type) IsShape) → IfOk (by_table field read) (MayBe IsShape)
by_table_is field read k =
    after (MayBe IsShape) (table_in field 3) (λ type. read type >>= (λ shape. Ok (Some shape))) (λ type.
    stepped IsShape (MayBe IsShape) (read type) (λ shape. Ok (Some shape)) (k type) (λ shape is. is))

either_result : {A E : Type 0} (Q : A → Type 0) (test : Bool) (a b : Result A E) → IfOk a Q → IfOk b Q → IfOk (if test then a else b) Q
either_result Q true a b first second = first
either_result Q false a b first second = second

type_is : (field : TableAt) (tag : ℕ) → IfOk (type_shape field tag) (MayBe IsShape)
unfolding type_shape
type_is field tag =
    let Q = MayBe IsShape in
    either_result Q (tag == 2) (by_table field number_shape) _ (by_table_is field number_shape number_is)
    (either_result Q (tag == 7) (by_table field decimal_in) _ (by_table_is field decimal_in decimal_is)
    (either_result Q (tag == 8) (by_table field date_in) _ (by_table_is field date_in date_is)
    (either_result Q (tag == 10) (by_table field timestamp_in) (Ok (tag_shape tag)) (by_table_is field timestamp_in timestamp_is) (tag_is tag))))

size_of : (bits size : ℕ) → (bits == size) ≡ true → is_index_size (size / 8) ≡ true → is_index_size (bits / 8) ≡ true
size_of bits size is known = subst (λ (one : ℕ). is_index_size (one / 8) ≡ true) (sym (eqb-true bits size is)) known

index_size : (bits : ℕ) → is_index_width bits ≡ true → is_index_size (bits / 8) ≡ true
index_size bits is = elim (or_cases (bits == 8 || bits == 16 || bits == 32) (bits == 64) is) [
  | inr last ↦ size_of bits 64 last refl
  | inl others ↦ elim (or_cases (bits == 8 || bits == 16) (bits == 32) others) [
    | inr third ↦ size_of bits 32 third refl
    | inl two ↦ elim (or_cases (bits == 8) (bits == 16) two) [ inl first ↦ size_of bits 8 first refl | inr second ↦ size_of bits 16 second refl ]
  ]
]

shape_in_is : (field : TableAt) → IfOk (shape_in field) (MayBe IsShape)
unfolding shape_in
shape_in_is field =
    let Q = MayBe IsShape in
    after Q (number_in field 2 1 0) _ (λ tag.
    stepped Q Q (type_shape field tag) (λ shape. encoding_in field >>= (λ encoding. Ok (shape_of tag shape encoding))) (type_is field tag) (λ shape is.
    elim shape as (λ s. MayBe IsShape s → IfOk (encoding_in field >>= (λ encoding. Ok (shape_of tag s encoding))) (MayBe IsShape)) [
      | None ↦ λ here. after Q (encoding_in field) (λ encoding. Ok (shape_of tag None encoding)) (λ encoding. tt)
      | Some s ↦ λ here. after Q (encoding_in field) (λ encoding. Ok (shape_of tag (Some s) encoding)) (λ encoding.
          elim encoding as (λ o. MayBe IsShape (shape_of tag (Some s) o)) [
            | None ↦ here
            | Some e ↦
                either (tag == 5) (index_shape e false) _
                (λ _. either (is_index_width e.index.bits) (Known kinds.Text (layouts.Index e.id (e.index.bits / 8) e.index.signed false)) (Skip 2) (λ known. (tt, index_size e.index.bits known)) tt)
                (either (tag == 20) (index_shape e true) (Skip 2)
                (λ _. either (is_index_width e.index.bits) (Known kinds.Text (layouts.Index e.id (e.index.bits / 8) e.index.signed true)) (Skip 2) (λ known. (tt, index_size e.index.bits known)) tt) tt)
          ])
    ] is))

-- a field of a known shape
abbrev IsField : Field → Type 0
IsField field = MayBe IsShape field.shape

field_is : (field : TableAt) → IfOk (field_in field) IsField
unfolding field_in
field_is field =
    after IsField (looked (text_of field 0)) _ (λ name.
    after IsField (number_in field 1 1 0) _ (λ nullable.
    stepped (MayBe IsShape) IsField (shape_in field) (λ shape. Ok (record { name = unwrap_or name []; nullable = not (nullable == 0); shape = shape })) (shape_in_is field) (λ shape is. is)))

field_at_is : (vector : VectorAt) (i : ℕ) → IfOk (field_at vector i) IsField
unfolding field_at
field_at_is vector i = after IsField (looked (table_item vector i)) field_in field_is

collected : {A E : Type 0} (Q : A → Type 0) (all : List (Result A E)) → AllByRecursion (λ one. IfOk one Q) all → IfOk (collect all) (AllByRecursion Q)
collected Q [] is = tt
collected Q (one ∷ all) is =
    stepped Q (AllByRecursion Q) one (λ x. collect all >>= (λ xs. Ok (x ∷ xs))) is.0 (λ x here.
    stepped (AllByRecursion Q) (AllByRecursion Q) (collect all) (λ xs. Ok (x ∷ xs)) (collected Q all is.1) (λ xs rest. (here, rest)))

each_is : {A B : Type 0} (Q : B → Type 0) (f : A → B) (xs : List A) → ((x : A) → Q (f x)) → AllByRecursion Q (map f xs)
each_is Q f [] k = tt
each_is Q f (x ∷ xs) k = (k x, each_is Q f xs k)

each_field : (fields : Option VectorAt) → AllByRecursion (λ one. IfOk one IsField) (each_of field_at fields)
each_field None = tt
each_field (Some vector) = each_is (λ one. IfOk one IsField) (field_at vector) (range_with_len 0 vector.count) (field_at_is vector)

fields_are : (schema : TableAt) → IfOk (fields_in schema) (AllByRecursion IsField)
unfolding fields_in
fields_are schema =
    let Q = AllByRecursion IsField in
    after Q (number_in schema 0 2 0) _ (λ endianness.
    after Q (when (endianness == 0) (looked (vector_of schema 1 4))) (λ fields. collect (each_of field_at fields)) (λ fields. collected IsField (each_of field_at fields) (each_field fields)))

-- the columns of a file have shapes that a file can have
abbrev pub AreSound : List FieldMeta → Type 0
AreSound columns = AllByRecursion (λ (field : FieldMeta). IsShape field.shape) columns

columns_are : (i : ℕ) (fields : List Field) → AllByRecursion IsField fields → IfOk (columns_from i fields) AreSound
columns_are i [] all = tt
columns_are i (field ∷ fields) all = with_shape field.shape all.0 (columns_are (suc i) fields all.1)
  where
    with_shape : (shape : Option Shape) → MayBe IsShape shape → IfOk (columns_from (suc i) fields) AreSound → IfOk (elim shape [
      | None ↦ Err (errors.Unsupported i)
      | Some shape ↦ columns_from (suc i) fields >>= λ columns. Ok (record { name = field.name; nullable = field.nullable; shape = shape } ∷ columns)
    ]) AreSound
    with_shape None is rest = tt
    with_shape (Some shape) is rest =
        stepped AreSound AreSound (columns_from (suc i) fields) (λ columns. Ok (record { name = field.name; nullable = field.nullable; shape = shape } ∷ columns)) rest (λ columns others. (is, others))

footer_is : (bytes : List ℕ) → IfOk (footer_in bytes) (λ (footer : Footer). AreSound footer.columns)
unfolding footer_in
footer_is bytes =
    let Q = λ (footer : Footer). AreSound footer.columns in
    after Q (looked (root_of bytes)) _ (λ footer.
    after Q (number_in footer 0 2 0) _ (λ version.
    after Q (when (is_version version) (table_in footer 1)) _ (λ schema.
    stepped (AllByRecursion IsField) Q (fields_in schema) _ (fields_are schema) (λ fields known.
    after Q (blocks_in footer 2) _ (λ dictionaries.
    after Q (blocks_in footer 3) _ (λ records.
    stepped AreSound Q (columns_from 0 fields) (λ columns. Ok (record { columns = columns; dictionaries = dictionaries; records = records })) (columns_are 0 fields known) (λ columns is. is)))))))

refused_is : {A : Type 0} (Q : A → Type 0) (place : ℕ) (read : Result A MetaError) → IfOk read Q → IfOk (refused place read) Q
refused_is Q place (Ok x) is = is
refused_is Q place (Err errors.Bad) is = tt
refused_is Q place (Err errors.NoMemory) is = tt
refused_is Q place (Err errors.Compressed) is = tt
refused_is Q place (Err (errors.Unsupported column)) is = tt

footer_at_is : (bytes : List ℕ) (place : ℕ) → IfOk (footer_at bytes place) (λ (footer : Footer). AreSound footer.columns)
unfolding footer_at
footer_at_is bytes place = refused_is (λ (footer : Footer). AreSound footer.columns) place _ (footer_is _)

-- what holds of the head with each footer of such columns holds of the head of a file
pub head_is : (Q : Head → Type 0) (bytes : List ℕ) → ((place : ℕ) (footer : Footer) → AreSound footer.columns → Q (head_with bytes place footer)) → IfOk (head_of bytes) Q
unfolding head_of
head_is Q bytes k =
    after Q (footer_place bytes) _ (λ place.
    stepped (λ (footer : Footer). AreSound footer.columns) Q (footer_at bytes place) _ (footer_at_is bytes place) (λ footer sound. with_test place footer (has_compression bytes place footer) (k place footer sound)))
  where
    with_test : (place : ℕ) (footer : Footer) (test : Bool) → Q (head_with bytes place footer) → IfOk (refuse_if test Refusal.Compressed (Ok (head_with bytes place footer))) Q
    with_test place footer true is = tt
    with_test place footer false is = is
