-- What the fields of a written message are read as, where the messages in it are read back.
use Rattle.std.proofs.Common.{◌≡◌, ◌∙◌, sym, ap, refl, subst, ℕ, zero, suc, ◌+◌, ◌-◌, ◌%◌, ◌^◌, ◌<◌, ℤ, pos, negsuc, List, [], ◌∷◌, ◌++◌, map, Bool, true, false, cond, Option, Some, None, unwrap_or, arith, append-nil}
use Rattle.std.specs.Prelude.{FitsSigned, is_some}
use Rattle.std.specs.Int.{w32, w64, cast_signed, cast_unsigned}
use Rattle.std.specs.List.{All, flat_map, filter_map, cons_option, last_or, concat}
use Rattle.std.specs.Option.{option_map, option_map_or, option_and_then, option_to_list}
use Rattle.std.proofs.Math.Facts.{to_z-of_z}
use Rattle.std.proofs.lemmas.List.Elements.{All-head, All-tail, All-nil, All-cons}
use Rattle.pb_wire.specs.Payloads.{Field, fields_of, varint_in, block_in, blocks, joined, merged_message, as_uint32, as_int32, as_int64, as_bool, uint32_field, int32_field, int64_field, bool_field, bytes_field, uint32_numbers, int32_numbers}
use Rattle.pb_write.specs.Write.{IsLong}
use Rattle.plan_scan.specs.declared.shape.Shape.{Shape}
use Rattle.plan_scan.specs.declared.shape.Shape.TheVariants as s
use Rattle.plan_scan.specs.Table.{use_of}
use Rattle.plan_leaves.specs.declared.literal.RawLiteral.{RawLiteral}
use Rattle.plan_leaves.specs.declared.literal.RawLiteral.TheVariants as l
use Rattle.plan_parts.specs.Words.{part, parts, is_there}
use Rattle.plan_parts.specs.Parts as leaf
use Rattle.plan_parts.specs.Types.{decimal_of, decimal_type_of}
use Rattle.plan_raw.specs.declared.plan.PlanTree.{PlanTree}
use Rattle.plan_parts.specs.Rels.{plan_by}
use Rattle.plan_parts.specs.Shapes.{Tree}
use Rattle.plan_parts.specs.Reader.{reader}
use Rattle.plan_spell.specs.Nodes.{Node}
use Rattle.plan_spell.specs.Held.{Held, Uint32s, Int32s, Int64s, Truths, PackedUint32s, PackedInt32s, Blocks, Messages, Part, whole_varint, truth_varint, varints, held_blocks, contents, fields_by, unless_none, unless_zero, unless_false, unless_empty}
use Rattle.plan_spell.specs.Spelled.{spelled_at, IsFitting, IsSpellableAt}
use Rattle.plan_spell.proofs.HeldLaws.{held_at, are_numbered, blocks_at, varints_at, numbers_at, packed_is, number_content}

-- whether a decimal literal is nullable
abbrev pub is_nullable : RawLiteral → Bool
is_nullable (l.Decimal value precision scale nullable) = nullable
is_nullable _ = false

-- what the bytes of a plan are read as
abbrev pub IsPlanBack : ℕ → List ℕ → PlanTree → Type 0
IsPlanBack zero bytes tree = Unit {0}
IsPlanBack (suc levels) bytes tree = plan_by (reader levels) (fields_of bytes) ≡ tree

-- what the bytes of a message of a shape are read as, where so many levels are left to it
abbrev pub IsBack : ℕ → (shape : Shape) → List ℕ → Node shape → Type 0
IsBack levels s.Empty bytes node = Unit {0}
IsBack levels s.Plan bytes node = IsPlanBack levels bytes node
IsBack levels s.ExtensionUri bytes node = leaf.uri_of (fields_of bytes) ≡ node
IsBack levels s.ExtensionDeclaration bytes node = part leaf.function_of 3 (fields_of bytes) ≡ Some node
IsBack levels s.ExtensionFunction bytes node = leaf.function_of (fields_of bytes) ≡ node
IsBack levels s.RelCommon bytes node = leaf.common_of (fields_of bytes) ≡ node
IsBack levels s.Emit bytes node = int32_numbers 1 (fields_of bytes) ≡ node
IsBack levels s.NamedTable bytes node = leaf.named_table_of (fields_of bytes) ≡ node
IsBack levels s.LocalFiles bytes node = leaf.local_files_of (fields_of bytes) ≡ node
IsBack levels s.FileItem bytes node = leaf.file_item_of (fields_of bytes) ≡ node
IsBack levels s.MaskExpression bytes node = leaf.mask_of (fields_of bytes) ≡ node
IsBack levels s.StructSelect bytes node = leaf.mask_struct_of (fields_of bytes) ≡ node
IsBack levels s.StructItem bytes node = leaf.mask_item_of (fields_of bytes) ≡ node
IsBack levels s.FunctionOption bytes node = leaf.option_of (fields_of bytes) ≡ node
IsBack levels s.FieldReference bytes node = leaf.selection_of (fields_of bytes) ≡ node
IsBack levels s.ReferenceSegment bytes node = leaf.segment_of (fields_of bytes) ≡ node
IsBack levels s.StructField bytes node = leaf.struct_field_of (fields_of bytes) ≡ node
IsBack levels s.DecimalLiteral bytes node = decimal_of (is_nullable node) (fields_of bytes) ≡ node
IsBack levels s.PlainType bytes node = uint32_field 2 (fields_of bytes) ≡ node
IsBack levels s.DecimalType bytes node = decimal_type_of (fields_of bytes) ≡ node
IsBack levels shape bytes node = reader levels shape (fields_of bytes) ≡ Some node

-- the messages of a field are read back
abbrev pub IsHeldBack : ℕ → Held → Type 0
IsHeldBack levels (Messages shape nodes) = All (λ node. IsBack levels shape (spelled_at levels shape node) node) nodes
IsHeldBack levels _ = Unit {0}

-- A message whose fields these are: each number stands once, and what a field holds fits it and is read back.
pub record Written (levels : ℕ) (shape : Shape) (parts : List Part) : Type 0 where
  pub numbered : are_numbered parts ≡ true
  pub fits : (number : ℕ) → IsFitting (IsSpellableAt levels) (use_of shape number) (held_at number parts)
  pub back : (number : ℕ) → IsHeldBack levels (held_at number parts)

-- the records of the message
abbrev pub records_in : ℕ → List Part → List Field
records_in levels parts = fields_by (spelled_at levels) parts

-- a message one level further down, from its bytes
abbrev pub read : ℕ → (shape : Shape) → List ℕ → Option (Tree shape)
read levels shape bytes = reader levels shape (fields_of bytes)

low_bits : (n : ℕ) → n < 2 ^ 31 → (2 ^ 64 - suc n) % 2 ^ 32 ≡ 2 ^ 32 - suc n
low_bits n small = omega arith

small_bits : (n : ℕ) → n < 2 ^ 32 → n % 2 ^ 32 ≡ n
small_bits n small = omega arith

int32_whole : (z : ℤ) → FitsSigned w32 z → as_int32 (whole_varint z) ≡ z
int32_whole (pos n) fits = ap (cast_signed w32) (small_bits n (omega (arith, fits.sfits))) ∙ to_z-of_z {w = w32} {z = pos n} fits
int32_whole (negsuc n) fits = ap (cast_signed w32) (low_bits n fits.sfits) ∙ to_z-of_z {w = w32} {z = negsuc n} fits

int64_whole : (z : ℤ) → FitsSigned w64 z → as_int64 (whole_varint z) ≡ z
int64_whole z fits = to_z-of_z {w = w64} {z = z} fits

pub whole_long : (z : ℤ) → FitsSigned w32 z → IsLong (whole_varint z)
whole_long (pos n) fits = omega (arith, fits.sfits)
whole_long (negsuc n) fits = omega arith

truth_back : (b : Bool) → as_bool (truth_varint b) ≡ b
truth_back true = refl
truth_back false = refl

map_back : {A B : Type 0} (P : A → Type 0) (f : B → A) (g : A → B) (xs : List A) → ((x : A) → P x → f (g x) ≡ x) → All P xs → map f (map g xs) ≡ xs
map_back P f g [] each all = refl
map_back P f g (x ∷ xs) each all = λ i. each x (All-head P x xs all) i ∷ map_back P f g xs each (All-tail P x xs all) i

map_same : (P : ℕ → Type 0) (f : ℕ → ℕ) (xs : List ℕ) → ((x : ℕ) → P x → f x ≡ x) → All P xs → map f xs ≡ xs
map_same P f [] each all = refl
map_same P f (x ∷ xs) each all = λ i. each x (All-head P x xs all) i ∷ map_same P f xs each (All-tail P x xs all) i

pub All_map : {A B : Type 0} (P : A → Type 0) (Q : B → Type 0) (f : A → B) (xs : List A) → ((x : A) → P x → Q (f x)) → All P xs → All Q (map f xs)
All_map P Q f [] each all = All-nil Q
All_map P Q f (x ∷ xs) each all = All-cons Q (f x) (map f xs) (each x (All-head P x xs all)) (All_map P Q f xs each (All-tail P x xs all))

-- the only message of a field is read back
pub only_back : (levels : ℕ) (shape : Shape) (node : Node shape) → IsHeldBack levels (Messages shape (node ∷ [])) → IsBack levels shape (spelled_at levels shape node) node
only_back levels shape node all = All-head (λ node. IsBack levels shape (spelled_at levels shape node) node) node [] all

each_back : {A B : Type 0} (f : B → Option A) (g : A → B) (xs : List A) → All (λ x. f (g x) ≡ Some x) xs → filter_map f (map g xs) ≡ xs
each_back f g [] all = refl
each_back f g (x ∷ xs) all = λ i. cons_option (All-head (λ x. f (g x) ≡ Some x) x xs all i) (each_back f g xs (All-tail (λ x. f (g x) ≡ Some x) x xs all) i)

module _ {levels : ℕ} {shape : Shape} {fields : List Part} (w : Written levels shape fields) (number : ℕ) where
  varints_are : (held : Held) → held_at number fields ≡ held → filter_map (varint_in number) (records_in levels fields) ≡ varints held
  varints_are held e = varints_at (spelled_at levels) fields number w.numbered ∙ ap varints e

  blocks_are : (held : Held) → held_at number fields ≡ held → blocks number (records_in levels fields) ≡ held_blocks (spelled_at levels) held
  blocks_are held e = blocks_at (spelled_at levels) fields number w.numbered ∙ ap (held_blocks (spelled_at levels)) e

  fit : (held : Held) → held_at number fields ≡ held → IsFitting (IsSpellableAt levels) (use_of shape number) held
  fit held e = subst (IsFitting (IsSpellableAt levels) (use_of shape number)) e (w.fits number)

  pub uint32_is : (value : ℕ) → held_at number fields ≡ Uint32s (unless_none value) → uint32_field number (records_in levels fields) ≡ value
  uint32_is zero e = ap (λ found. option_map_or as_uint32 (last_or None found) 0) (varints_are (Uint32s []) e)
  uint32_is (suc value) e =
      ap (λ found. option_map_or as_uint32 (last_or None found) 0) (varints_are (Uint32s (suc value ∷ [])) e)
      ∙ small_bits (suc value) (All-head (λ n. n < 2 ^ 32) (suc value) [] (fit (Uint32s (suc value ∷ [])) e))

  pub int32_there : (value : ℤ) → held_at number fields ≡ Int32s (value ∷ []) → int32_field number (records_in levels fields) ≡ value
  int32_there value e =
      ap (λ found. option_map_or as_int32 (last_or None found) (pos 0)) (varints_are (Int32s (value ∷ [])) e)
      ∙ int32_whole value (All-head (FitsSigned w32) value [] (fit (Int32s (value ∷ [])) e))

  pub int32_is : (value : ℤ) → held_at number fields ≡ Int32s (unless_zero value) → int32_field number (records_in levels fields) ≡ value
  int32_is (pos zero) e = ap (λ found. option_map_or as_int32 (last_or None found) (pos 0)) (varints_are (Int32s []) e)
  int32_is (pos (suc value)) e = int32_there (pos (suc value)) e
  int32_is (negsuc value) e = int32_there (negsuc value) e

  pub int64_there : (value : ℤ) → held_at number fields ≡ Int64s (value ∷ []) → int64_field number (records_in levels fields) ≡ value
  int64_there value e =
      ap (λ found. option_map_or as_int64 (last_or None found) (pos 0)) (varints_are (Int64s (value ∷ [])) e)
      ∙ int64_whole value (All-head (FitsSigned w64) value [] (fit (Int64s (value ∷ [])) e))

  pub truth_there : (value : Bool) → held_at number fields ≡ Truths (value ∷ []) → bool_field number (records_in levels fields) ≡ value
  truth_there value e = ap (λ found. option_map_or as_bool (last_or None found) false) (varints_are (Truths (value ∷ [])) e) ∙ truth_back value

  pub truth_is : (value : Bool) → held_at number fields ≡ Truths (unless_false value) → bool_field number (records_in levels fields) ≡ value
  truth_is true e = truth_there true e
  truth_is false e = ap (λ found. option_map_or as_bool (last_or None found) false) (varints_are (Truths []) e)

  pub texts_are : (values : List (List ℕ)) → held_at number fields ≡ Blocks values → blocks number (records_in levels fields) ≡ values
  texts_are values e = blocks_are (Blocks values) e

  pub bytes_there : (bytes : List ℕ) → held_at number fields ≡ Blocks (bytes ∷ []) → bytes_field number (records_in levels fields) ≡ bytes
  bytes_there bytes e = ap (λ found. unwrap_or (last_or None found) []) (texts_are (bytes ∷ []) e)

  pub bytes_are : (bytes : List ℕ) → held_at number fields ≡ Blocks (unless_empty bytes) → bytes_field number (records_in levels fields) ≡ bytes
  bytes_are [] e = ap (λ found. unwrap_or (last_or None found) []) (texts_are [] e)
  bytes_are (byte ∷ bytes) e = bytes_there (byte ∷ bytes) e

  pub uint32s_are : (values : List ℕ) → held_at number fields ≡ PackedUint32s values → uint32_numbers number (records_in levels fields) ≡ values
  uint32s_are values e =
      let small : All (λ n. n < 2 ^ 32) values = fit (PackedUint32s values) e in
      let long : All IsLong values = λ k d h. omega (arith, small k d h) in
      ap (map as_uint32) (numbers_at (spelled_at levels) fields number w.numbered ∙ ap (λ held. flat_map number_content (contents (spelled_at levels) held)) e ∙ packed_is values long)
      ∙ map_same (λ n. n < 2 ^ 32) as_uint32 values small_bits small

  pub int32s_are : (values : List ℤ) → held_at number fields ≡ PackedInt32s values → int32_numbers number (records_in levels fields) ≡ values
  int32s_are values e =
      let small : All (FitsSigned w32) values = fit (PackedInt32s values) e in
      ap (map as_int32) (numbers_at (spelled_at levels) fields number w.numbered ∙ ap (λ held. flat_map number_content (contents (spelled_at levels) held)) e
      ∙ packed_is (map whole_varint values) (All_map (FitsSigned w32) IsLong whole_varint values whole_long small))
      ∙ map_back (FitsSigned w32) as_int32 whole_varint values int32_whole small

  -- whether a message or bytes are there
  pub presence_is : (value : Bool) → held_at number fields ≡ Messages s.Empty (cond value (tt ∷ []) []) → is_there number (records_in levels fields) ≡ value
  presence_is true e = ap (λ found. is_some (last_or None found)) (blocks_are (Messages s.Empty (tt ∷ [])) e)
  presence_is false e = ap (λ found. is_some (last_or None found)) (blocks_are (Messages s.Empty []) e)

  pub other_is : (value : Bool) → held_at number fields ≡ Blocks (cond value ([] ∷ []) []) → is_there number (records_in levels fields) ≡ value
  other_is true e = ap (λ found. is_some (last_or None found)) (texts_are ([] ∷ []) e)
  other_is false e = ap (λ found. is_some (last_or None found)) (texts_are [] e)

  pub absent_is : held_at number fields ≡ Blocks [] → is_there number (records_in levels fields) ≡ false
  absent_is e = ap (λ found. is_some (last_or None found)) (texts_are [] e)

  -- the bytes of a message that is there
  pub merged_is : (bytes : List ℕ) → held_blocks (spelled_at levels) (held_at number fields) ≡ bytes ∷ [] → merged_message number (records_in levels fields) ≡ Some bytes
  merged_is bytes e = ap joined (blocks_at (spelled_at levels) fields number w.numbered ∙ e) ∙ ap Some (append-nil bytes)

  -- the messages of a field: at most one, or some, where each is read at once or may not be
  pub child_is : {A : Type 0} (read : List ℕ → Option A) (write : A → List ℕ) (node : Option A) → held_blocks (spelled_at levels) (held_at number fields) ≡ map write (option_to_list node) →
      All (λ x. read (write x) ≡ Some x) (option_to_list node) → option_and_then read (merged_message number (records_in levels fields)) ≡ node
  child_is read write None e all = ap (λ found. option_and_then read (joined found)) (blocks_at (spelled_at levels) fields number w.numbered ∙ e)
  child_is read write (Some node) e all =
      ap (λ found. option_and_then read (joined found)) (blocks_at (spelled_at levels) fields number w.numbered ∙ e)
      ∙ ap read (append-nil (write node)) ∙ All-head (λ x. read (write x) ≡ Some x) node [] all

  pub part_is : {A : Type 0} (read : List ℕ → A) (write : A → List ℕ) (node : Option A) → held_blocks (spelled_at levels) (held_at number fields) ≡ map write (option_to_list node) →
      All (λ x. read (write x) ≡ x) (option_to_list node) → option_map read (merged_message number (records_in levels fields)) ≡ node
  part_is read write None e all = ap (λ found. option_map read (joined found)) (blocks_at (spelled_at levels) fields number w.numbered ∙ e)
  part_is read write (Some node) e all =
      ap (λ found. option_map read (joined found)) (blocks_at (spelled_at levels) fields number w.numbered ∙ e)
      ∙ ap Some (ap read (append-nil (write node)) ∙ All-head (λ x. read (write x) ≡ x) node [] all)

  pub children_are : {A : Type 0} (read : List ℕ → Option A) (write : A → List ℕ) (nodes : List A) → held_blocks (spelled_at levels) (held_at number fields) ≡ map write nodes →
      All (λ x. read (write x) ≡ Some x) nodes → filter_map read (blocks number (records_in levels fields)) ≡ nodes
  children_are read write nodes e all = ap (filter_map read) (blocks_at (spelled_at levels) fields number w.numbered ∙ e) ∙ each_back read write nodes all

  pub parts_are : {A : Type 0} (read : List ℕ → A) (write : A → List ℕ) (nodes : List A) → held_blocks (spelled_at levels) (held_at number fields) ≡ map write nodes →
      All (λ x. read (write x) ≡ x) nodes → map read (blocks number (records_in levels fields)) ≡ nodes
  parts_are read write nodes e all = ap (map read) (blocks_at (spelled_at levels) fields number w.numbered ∙ e) ∙ map_back (λ x. read (write x) ≡ x) read write nodes (λ x h. h) all
