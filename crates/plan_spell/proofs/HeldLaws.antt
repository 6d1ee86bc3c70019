-- What the records of a written message give a field, by its number.
use Rattle.std.proofs.Common.{◌≡◌, ◌∙◌, sym, ap, refl, subst, ℕ, zero, suc, ◌+◌, ◌%◌, ◌^◌, ◌<◌, ℤ, pos, negsuc, List, [], ◌∷◌, ◌++◌, map, filter, Bool, true, false, cond, not, ◌&&◌, ◌||◌, nat_eq, nat_lt, nat_le, Option, Some, None, arith, length, append-nil, unwrap_or}
use Rattle.std.specs.Int.{w32, w64, cast_signed, cast_unsigned}
use Rattle.std.specs.Prelude.{FitsSigned}
use Rattle.std.specs.List.{All, flat_map, filter_map, cons_option, list_any, last_or}
use Rattle.std.specs.Option.{option_map, option_map_or, option_to_list}
use Rattle.std.proofs.lemmas.Bool.{eqb-true, ne_eqb, and_parts}
use Rattle.std.proofs.lemmas.Grind.{flat_map-append}
use Rattle.pb_wire.specs.Records.{Content, Varint, Eight, Bytes, Four}
use Rattle.pb_wire.specs.Payloads.{Field, varint_in, block_in, numbers_in, packed_numbers, Member, chosen_member, behind_last, is_other}
use Rattle.pb_write.specs.Write.{packed_bytes, IsLong}
use Rattle.pb_write.proofs.WriteLaws.{packed_read}
use Rattle.plan_scan.specs.declared.oneof.OneOf.{OneOf}
use Rattle.plan_scan.specs.Table.{use_of}
use Rattle.plan_scan.specs.Member.{is_member, has_number, has_wire_type, owner}
use Rattle.plan_parts.specs.Words.{winner}
use Rattle.plan_spell.specs.Nodes.{Node}
use Rattle.plan_spell.specs.Held.{Held, Uint32s, Int32s, Int64s, Truths, PackedUint32s, PackedInt32s, Blocks, Messages, Part, Writer, whole_varint, truth_varint, packed, varints, held_blocks, contents, part_fields, fields_by}

-- what a message holds in the field of a number
abbrev pub held_at : ℕ → List Part → Held
held_at number [] = Blocks []
held_at number (part ∷ parts) = cond (nat_eq part.number number) part.held (held_at number parts)

-- a field of this number is there
abbrev pub has_part : ℕ → List Part → Bool
has_part number [] = false
has_part number (part ∷ parts) = nat_eq part.number number || has_part number parts

-- no two fields have one number, and each number has 29 bits and isn't 0
abbrev pub are_numbered : List Part → Bool
are_numbered [] = true
are_numbered (part ∷ parts) = (nat_le 1 part.number && nat_lt part.number (2 ^ 29)) && (not (has_part part.number parts) && are_numbered parts)

abbrev pub field_with : ℕ → Content → Field
field_with number content = record { number = number; content = content }

or_parts : (a b : Bool) → (a || b) ≡ false → (a ≡ false) × (b ≡ false)
or_parts true b e = absurd (cc)
or_parts false b e = (refl, e)

not_true : (a : Bool) → not a ≡ true → a ≡ false
not_true true e = absurd (cc)
not_true false e = refl

-- What records give by their payloads where they have a number, and else nothing.
module _ {A : Type 0} (give : Field → List A) (inside : Content → List A) (number : ℕ)
    (here : (n : ℕ) (content : Content) → nat_eq n number ≡ true → give (field_with n content) ≡ inside content)
    (elsewhere : (n : ℕ) (content : Content) → nat_eq n number ≡ false → give (field_with n content) ≡ []) where
  given_here : (n : ℕ) → nat_eq n number ≡ true → (payloads : List Content) → flat_map give (map (field_with n) payloads) ≡ flat_map inside payloads
  given_here n e [] = refl
  given_here n e (content ∷ payloads) = λ i. here n content e i ++ given_here n e payloads i

  given_elsewhere : (n : ℕ) → nat_eq n number ≡ false → (payloads : List Content) → flat_map give (map (field_with n) payloads) ≡ []
  given_elsewhere n e [] = refl
  given_elsewhere n e (content ∷ payloads) = λ i. elsewhere n content e i ++ given_elsewhere n e payloads i

  none_given : (write : Writer) (parts : List Part) → has_part number parts ≡ false → flat_map give (fields_by write parts) ≡ []
  none_given write [] e = refl
  none_given write (part ∷ parts) e =
      let both = or_parts (nat_eq part.number number) (has_part number parts) e in
      flat_map-append give (part_fields write part) (fields_by write parts)
      ∙ (λ i. given_elsewhere part.number both.0 (contents write part.held) i ++ none_given write parts both.1 i)

  pub given_at : (write : Writer) (parts : List Part) → are_numbered parts ≡ true → flat_map give (fields_by write parts) ≡ flat_map inside (contents write (held_at number parts))
  given_at write [] e = refl
  given_at write (part ∷ parts) e =
      let rest = and_parts (not (has_part part.number parts)) (are_numbered parts) (and_parts (nat_le 1 part.number && nat_lt part.number (2 ^ 29)) (not (has_part part.number parts) && are_numbered parts) e).1 in
      flat_map-append give (part_fields write part) (fields_by write parts)
      ∙ (elim (nat_eq part.number number) as (λ b. nat_eq part.number number ≡ b → flat_map give (part_fields write part) ++ flat_map give (fields_by write parts) ≡ flat_map inside (contents write (cond b part.held (held_at number parts)))) [
        | true ↦ λ same.
            let later : has_part number parts ≡ false = ap (λ n. has_part n parts) (sym (eqb-true part.number number same)) ∙ not_true (has_part part.number parts) rest.0 in
            (λ i. given_here part.number same (contents write part.held) i ++ none_given write parts later i) ∙ append-nil (flat_map inside (contents write part.held))
        | false ↦ λ other. λ i. given_elsewhere part.number other (contents write part.held) i ++ given_at write parts rest.1 i
      ]) refl

-- a choice by a test that holds or fails
chosen_true : {A : Type 0} {b : Bool} (x y : A) → b ≡ true → cond b x y ≡ x
chosen_true x y e = ap (λ b. cond b x y) e

chosen_false : {A : Type 0} {b : Bool} (x y : A) → b ≡ false → cond b x y ≡ y
chosen_false x y e = ap (λ b. cond b x y) e

as_flat : {X Y : Type 0} (h : X → Option Y) (xs : List X) → filter_map h xs ≡ flat_map (λ x. option_to_list (h x)) xs
as_flat h [] = refl
as_flat {Y} h (x ∷ xs) = (elim (h x) as (λ (o : Option Y). cons_option o (filter_map h xs) ≡ option_to_list o ++ flat_map (λ x. option_to_list (h x)) xs) [
  | None ↦ as_flat h xs
  | Some y ↦ ap (λ rest. y ∷ rest) (as_flat h xs)
])

abbrev block_content : Content → List (List ℕ)
block_content (Bytes bytes) = bytes ∷ []
block_content _ = []

abbrev varint_content : Content → List ℕ
varint_content (Varint value) = value ∷ []
varint_content _ = []

abbrev pub number_content : Content → List ℕ
number_content (Varint value) = value ∷ []
number_content (Bytes bytes) = unwrap_or (packed_numbers bytes) []
number_content _ = []

blocks_of_varints : (numbers : List ℕ) → flat_map block_content (map Varint numbers) ≡ []
blocks_of_varints [] = refl
blocks_of_varints (number ∷ numbers) = blocks_of_varints numbers

blocks_of_blocks : (blocks : List (List ℕ)) → flat_map block_content (map Bytes blocks) ≡ blocks
blocks_of_blocks [] = refl
blocks_of_blocks (block ∷ blocks) = ap (λ rest. block ∷ rest) (blocks_of_blocks blocks)

varints_of_varints : (numbers : List ℕ) → flat_map varint_content (map Varint numbers) ≡ numbers
varints_of_varints [] = refl
varints_of_varints (number ∷ numbers) = ap (λ rest. number ∷ rest) (varints_of_varints numbers)

varints_of_blocks : (blocks : List (List ℕ)) → flat_map varint_content (map Bytes blocks) ≡ []
varints_of_blocks [] = refl
varints_of_blocks (block ∷ blocks) = varints_of_blocks blocks

blocks_held : (write : Writer) (held : Held) → flat_map block_content (contents write held) ≡ held_blocks write held
blocks_held write (Uint32s numbers) = blocks_of_varints numbers
blocks_held write (Int32s numbers) = blocks_of_varints (map whole_varint numbers)
blocks_held write (Int64s numbers) = blocks_of_varints (map whole_varint numbers)
blocks_held write (Truths truths) = blocks_of_varints (map truth_varint truths)
blocks_held write (PackedUint32s numbers) = blocks_of_blocks (packed numbers)
blocks_held write (PackedInt32s numbers) = blocks_of_blocks (packed (map whole_varint numbers))
blocks_held write (Blocks blocks) = blocks_of_blocks blocks
blocks_held write (Messages shape nodes) = blocks_of_blocks (map (write shape) nodes)

varints_held : (write : Writer) (held : Held) → flat_map varint_content (contents write held) ≡ varints held
varints_held write (Uint32s numbers) = varints_of_varints numbers
varints_held write (Int32s numbers) = varints_of_varints (map whole_varint numbers)
varints_held write (Int64s numbers) = varints_of_varints (map whole_varint numbers)
varints_held write (Truths truths) = varints_of_varints (map truth_varint truths)
varints_held write (PackedUint32s numbers) = varints_of_blocks (packed numbers)
varints_held write (PackedInt32s numbers) = varints_of_blocks (packed (map whole_varint numbers))
varints_held write (Blocks blocks) = varints_of_blocks blocks
varints_held write (Messages shape nodes) = varints_of_blocks (map (write shape) nodes)

block_here : (number n : ℕ) (content : Content) → nat_eq n number ≡ true → option_to_list (block_in number (field_with n content)) ≡ block_content content
block_here number n (Varint value) e = refl
block_here number n (Eight value) e = refl
block_here number n (Bytes bytes) e = ap (λ b. option_to_list (cond b (Some bytes) None)) e
block_here number n (Four value) e = refl

block_elsewhere : (number n : ℕ) (content : Content) → nat_eq n number ≡ false → option_to_list (block_in number (field_with n content)) ≡ []
block_elsewhere number n (Varint value) e = refl
block_elsewhere number n (Eight value) e = refl
block_elsewhere number n (Bytes bytes) e = ap (λ b. option_to_list (cond b (Some bytes) None)) e
block_elsewhere number n (Four value) e = refl

varint_here : (number n : ℕ) (content : Content) → nat_eq n number ≡ true → option_to_list (varint_in number (field_with n content)) ≡ varint_content content
varint_here number n (Varint value) e = ap (λ b. option_to_list (cond b (Some value) None)) e
varint_here number n (Eight value) e = refl
varint_here number n (Bytes bytes) e = refl
varint_here number n (Four value) e = refl

varint_elsewhere : (number n : ℕ) (content : Content) → nat_eq n number ≡ false → option_to_list (varint_in number (field_with n content)) ≡ []
varint_elsewhere number n (Varint value) e = ap (λ b. option_to_list (cond b (Some value) None)) e
varint_elsewhere number n (Eight value) e = refl
varint_elsewhere number n (Bytes bytes) e = refl
varint_elsewhere number n (Four value) e = refl

number_here : (number n : ℕ) (content : Content) → nat_eq n number ≡ true → numbers_in number (field_with n content) ≡ number_content content
number_here number n (Varint value) e = ap (λ b. cond b (value ∷ []) []) e
number_here number n (Eight value) e = refl
number_here number n (Bytes bytes) e = ap (λ b. cond b (unwrap_or (packed_numbers bytes) []) []) e
number_here number n (Four value) e = refl

number_elsewhere : (number n : ℕ) (content : Content) → nat_eq n number ≡ false → numbers_in number (field_with n content) ≡ []
number_elsewhere number n (Varint value) e = ap (λ b. cond b (value ∷ []) []) e
number_elsewhere number n (Eight value) e = refl
number_elsewhere number n (Bytes bytes) e = ap (λ b. cond b (unwrap_or (packed_numbers bytes) []) []) e
number_elsewhere number n (Four value) e = refl

-- the blocks, the varints and the repeated numbers of a field
pub blocks_at : (write : Writer) (parts : List Part) (number : ℕ) → are_numbered parts ≡ true → filter_map (block_in number) (fields_by write parts) ≡ held_blocks write (held_at number parts)
blocks_at write parts number e =
    as_flat (block_in number) (fields_by write parts)
    ∙ given_at (λ field. option_to_list (block_in number field)) block_content number (block_here number) (block_elsewhere number) write parts e
    ∙ blocks_held write (held_at number parts)

pub varints_at : (write : Writer) (parts : List Part) (number : ℕ) → are_numbered parts ≡ true → filter_map (varint_in number) (fields_by write parts) ≡ varints (held_at number parts)
varints_at write parts number e =
    as_flat (varint_in number) (fields_by write parts)
    ∙ given_at (λ field. option_to_list (varint_in number field)) varint_content number (varint_here number) (varint_elsewhere number) write parts e
    ∙ varints_held write (held_at number parts)

pub numbers_at : (write : Writer) (parts : List Part) (number : ℕ) → are_numbered parts ≡ true → flat_map (numbers_in number) (fields_by write parts) ≡ flat_map number_content (contents write (held_at number parts))
numbers_at write parts number e = given_at (numbers_in number) number_content number (number_here number) (number_elsewhere number) write parts e

pub packed_is : (numbers : List ℕ) → All IsLong numbers → flat_map number_content (map Bytes (packed numbers)) ≡ numbers
packed_is [] long = refl
packed_is (number ∷ numbers) long = append-nil (unwrap_or (packed_numbers (packed_bytes (number ∷ numbers))) []) ∙ ap (λ found. unwrap_or found []) (packed_read (number ∷ numbers) long)

-- The members of a oneof among the records of a written message.
abbrev part_members : OneOf → Writer → Part → List Field
part_members oneof write part = cond (has_number oneof part.number) (map (field_with part.number) (filter (has_wire_type (use_of (owner oneof) part.number)) (contents write part.held))) []

abbrev pub members : OneOf → Writer → List Part → List Field
members oneof write parts = flat_map (part_members oneof write) parts

filter-append : {X : Type 0} (p : X → Bool) → (xs ys : List X) → filter p (xs ++ ys) ≡ filter p xs ++ filter p ys
filter-append p [] ys = refl
filter-append p (x ∷ xs) ys = (elim (p x) as (λ b. cond b (x ∷ filter p (xs ++ ys)) (filter p (xs ++ ys)) ≡ cond b (x ∷ filter p xs) (filter p xs) ++ filter p ys) [
  | true ↦ ap (λ rest. x ∷ rest) (filter-append p xs ys)
  | false ↦ filter-append p xs ys
])

members_of_part : (oneof : OneOf) (n : ℕ) (payloads : List Content) → filter (is_member oneof) (map (field_with n) payloads) ≡ cond (has_number oneof n) (map (field_with n) (filter (has_wire_type (use_of (owner oneof) n)) payloads)) []
members_of_part oneof n [] = (elim (has_number oneof n) as (λ b. ◌≡◌ {A = List Field} [] (cond b [] [])) [
  | true ↦ refl
  | false ↦ refl
])
members_of_part oneof n (content ∷ payloads) =
    let rest = members_of_part oneof n payloads in
    ap (λ later. cond (has_number oneof n && has_wire_type (use_of (owner oneof) n) content) (field_with n content ∷ later) later) rest
    ∙ (elim (has_number oneof n) as (λ b. cond (b && has_wire_type (use_of (owner oneof) n) content)
    (field_with n content ∷ cond b (map (field_with n) (filter (has_wire_type (use_of (owner oneof) n)) payloads)) []) (cond b (map (field_with n) (filter (has_wire_type (use_of (owner oneof) n)) payloads)) [])
    ≡ cond b (map (field_with n) (cond (has_wire_type (use_of (owner oneof) n) content) (content ∷ filter (has_wire_type (use_of (owner oneof) n)) payloads) (filter (has_wire_type (use_of (owner oneof) n)) payloads))) []) [
      | true ↦ (elim (has_wire_type (use_of (owner oneof) n) content) as (λ b. cond b (field_with n content ∷ map (field_with n) (filter (has_wire_type (use_of (owner oneof) n)) payloads)) (map (field_with n) (filter (has_wire_type (use_of (owner oneof) n)) payloads))
          ≡ map (field_with n) (cond b (content ∷ filter (has_wire_type (use_of (owner oneof) n)) payloads) (filter (has_wire_type (use_of (owner oneof) n)) payloads))) [
            | true ↦ refl
            | false ↦ refl
          ])
      | false ↦ refl
    ])

members_at : (oneof : OneOf) (write : Writer) (parts : List Part) → filter (is_member oneof) (fields_by write parts) ≡ members oneof write parts
members_at oneof write [] = refl
members_at oneof write (part ∷ parts) =
    filter-append (is_member oneof) (part_fields write part) (fields_by write parts)
    ∙ (λ i. members_of_part oneof part.number (contents write part.held) i ++ members_at oneof write parts i)

-- some record passes two tests exactly where some of those that pass the first passes the second
any_of_filtered : {X : Type 0} (p q : X → Bool) (xs : List X) → list_any (λ x. p x && q x) xs ≡ list_any q (filter p xs)
any_of_filtered p q [] = refl
any_of_filtered p q (x ∷ xs) = (elim (p x) as (λ b. ((b && q x) || list_any (λ x. p x && q x) xs) ≡ list_any q (cond b (x ∷ filter p xs) (filter p xs))) [
  | true ↦ ap (λ rest. q x || rest) (any_of_filtered p q xs)
  | false ↦ any_of_filtered p q xs
])

behind_none : (test : Field → Bool) (fields : List Field) → list_any test fields ≡ false → behind_last test fields ≡ fields
behind_none test [] e = refl
behind_none test (field ∷ fields) e = ap (λ b. cond b (behind_last test fields) (field ∷ fields)) e

-- the one member that was written is the winner, and it is read from all records
pub winner_is : {A : Type 0} (oneof : OneOf) (missing : A) (read : ℕ → List Field → A) (write : Writer) (parts : List Part) (number : ℕ) (content : Content) →
    members oneof write parts ≡ field_with number content ∷ [] → nat_eq number number ≡ true →
    winner oneof missing read (fields_by write parts) ≡ read number (fields_by write parts)
winner_is oneof missing read write parts number content one same =
    let fields = fields_by write parts in
    let found : filter (is_member oneof) fields ≡ field_with number content ∷ [] = members_at oneof write parts ∙ one in
    let none : list_any (is_other (is_member oneof) number) fields ≡ false =
    any_of_filtered (is_member oneof) (λ field. not (nat_eq field.number number)) fields ∙ ap (list_any (λ (field : Field). not (nat_eq field.number number))) found ∙ ap (λ b. not b || false) same in
    ap (λ found. option_map_or (λ (won : Member). read won.number won.records) (option_map (λ (last : Field). record { number = last.number; records = behind_last (is_other (is_member oneof) last.number) fields }) (last_or None found)) missing) found
    ∙ ap (read number) (behind_none (is_other (is_member oneof) number) fields none)

-- without a member nothing wins
pub no_winner : {A : Type 0} (oneof : OneOf) (missing : A) (read : ℕ → List Field → A) (write : Writer) (parts : List Part) → members oneof write parts ≡ [] → winner oneof missing read (fields_by write parts) ≡ missing
no_winner oneof missing read write parts none =
    let fields = fields_by write parts in
    ap (λ found. option_map_or (λ (won : Member). read won.number won.records) (option_map (λ (last : Field). record { number = last.number; records = behind_last (is_other (is_member oneof) last.number) fields }) (last_or None found)) missing) (members_at oneof write parts ∙ none)
