-- Messages in pieces: which are readable, and what their records hold.
use Rattle.std.proofs.Common.{◌≡◌, ◌∙◌, sym, ap, refl, subst, ℕ, zero, suc, List, [], ◌∷◌, ◌++◌, Bool, true, false, cond, nat_eq, ◌<◌, Option, Some, None, unwrap_or, arith}
use Rattle.std.specs.List.{list_all, list_any, cons_option, concat, last_or}
use Rattle.std.specs.Str.{is_utf8}
use Rattle.std.proofs.lemmas.Str.{is_utf8-from_IsUtf8, IsUtf8-nil}
use Rattle.std.proofs.lemmas.Bool.{and_parts, and_from, eqb-true}
use Rattle.std.proofs.lemmas.List.Folds.{list_all-append}
use Rattle.pb_wire.specs.Records.{Content, Varint, Eight, Bytes, Four}
use Rattle.pb_wire.specs.Payloads.{Field, fields_of, is_whole, block_in, blocks, behind_last, bytes_field}
use Rattle.pb_wire.proofs.FieldLaws.{joined, none_left}
use Rattle.plan_scan.specs.declared.shape.Shape.{Shape}
use Rattle.plan_scan.specs.declared.shape.Use.{Use}
use Rattle.plan_scan.specs.Table.{use_of, HoldsMessage, HoldsText}
use Rattle.plan_scan.specs.Scanned.{Scanned, block_well, field_well, is_readable}

-- the records of a message have no flaw
abbrev pub all_well : ℕ → Shape → List Field → Bool
all_well levels shape fields = list_all (field_well (is_readable levels) shape) fields

-- what a readable message is
pub record IsWell (levels : ℕ) (shape : Shape) (bytes : List ℕ) : Type 0 where
  pub whole : is_whole bytes ≡ true
  pub fields : all_well levels shape (fields_of bytes) ≡ true

pub well : (levels : ℕ) (shape : Shape) (bytes : List ℕ) → is_readable (suc levels) shape bytes ≡ true → IsWell levels shape bytes
unfolding is_readable
well levels shape bytes e = let both = and_parts (is_whole bytes) (all_well levels shape (fields_of bytes)) e in record { whole = both.0; fields = both.1 }

pub from_well : (levels : ℕ) (shape : Shape) (bytes : List ℕ) → IsWell levels shape bytes → is_readable (suc levels) shape bytes ≡ true
unfolding is_readable
from_well levels shape bytes w = and_from (is_whole bytes) (all_well levels shape (fields_of bytes)) w.whole w.fields

empty_well : (levels : ℕ) (shape : Shape) → IsWell levels shape []
empty_well levels shape = let none = none_left [] refl in record { whole = none.1; fields = ap (all_well levels shape) none.0 }

joined_well : (levels : ℕ) (shape : Shape) (first second : List ℕ) → IsWell levels shape first → IsWell levels shape second → IsWell levels shape (first ++ second)
joined_well levels shape first second one two =
    let both = joined first second one.whole in
    record {
      whole = both.whole ∙ two.whole;
      fields = ap (all_well levels shape) both.fields ∙ list_all-append (field_well (is_readable levels) shape) (fields_of first) (fields_of second) ∙ and_from _ _ one.fields two.fields;
    }

-- pieces that are each readable are a readable message
pub pieces_well : (levels : ℕ) (shape : Shape) (pieces : List (List ℕ)) → list_all (is_readable (suc levels) shape) pieces ≡ true → IsWell levels shape (concat pieces)
pieces_well levels shape [] e = empty_well levels shape
pieces_well levels shape (piece ∷ pieces) e =
    let both = and_parts _ _ e in
    joined_well levels shape piece (concat pieces) (well levels shape piece both.0) (pieces_well levels shape pieces both.1)

-- the whole pieces of a readable message are each readable
pub well_pieces : (levels : ℕ) (shape : Shape) (pieces : List (List ℕ)) → list_all is_whole pieces ≡ true → all_well levels shape (fields_of (concat pieces)) ≡ true → list_all (is_readable (suc levels) shape) pieces ≡ true
well_pieces levels shape [] whole fields = refl
well_pieces levels shape (piece ∷ pieces) whole fields =
    let wholes = and_parts (is_whole piece) (list_all is_whole pieces) whole in
    let both = joined piece (concat pieces) wholes.0 in
    let parts = and_parts (all_well levels shape (fields_of piece)) (all_well levels shape (fields_of (concat pieces)))
    (sym (ap (all_well levels shape) both.fields ∙ list_all-append (field_well (is_readable levels) shape) (fields_of piece) (fields_of (concat pieces))) ∙ fields) in
    and_from _ _ (from_well levels shape piece (record { whole = wholes.0; fields = parts.0 })) (well_pieces levels shape pieces wholes.1 parts.1)

-- pieces whose records are read one after the other
pub wholes : (levels : ℕ) (shape : Shape) (pieces : List (List ℕ)) → list_all (is_readable (suc levels) shape) pieces ≡ true → list_all is_whole pieces ≡ true
wholes levels shape [] e = refl
wholes levels shape (piece ∷ pieces) e = let both = and_parts _ _ e in and_from _ _ (well levels shape piece both.0).whole (wholes levels shape pieces both.1)

content_blocks : (message : Shape → List ℕ → Bool) (shape : Shape) (number : ℕ) (holds : Use) → use_of shape number ≡ holds → (here : ℕ) (content : Content) (rest : List (List ℕ)) →
    field_well message shape (record { number = here; content = content }) ≡ true → list_all (block_well message holds) rest ≡ true → list_all (block_well message holds) (cons_option (block_in number (record { number = here; content = content })) rest) ≡ true
content_blocks message shape number holds e here (Varint value) rest well all = all
content_blocks message shape number holds e here (Eight value) rest well all = all
content_blocks message shape number holds e here (Four value) rest well all = all
content_blocks message shape number holds e here (Bytes bytes) rest well all =
    (elim (nat_eq here number) as (λ b. nat_eq here number ≡ b → list_all (block_well message holds) (cons_option (cond b (Some bytes) None) rest) ≡ true) [
      | true ↦ λ same.
          let use_is : use_of shape here ≡ holds = ap (use_of shape) (eqb-true here number same) ∙ e in
          and_from _ _ (ap (λ h. block_well message h bytes) (sym use_is) ∙ well) all
      | false ↦ λ other. all
    ]) refl

-- the blocks of a field have no flaw
pub blocks_well : (message : Shape → List ℕ → Bool) (shape : Shape) (number : ℕ) (holds : Use) → use_of shape number ≡ holds → (fields : List Field) → list_all (field_well message shape) fields ≡ true → list_all (block_well message holds) (blocks number fields) ≡ true
blocks_well message shape number holds e [] all = refl
blocks_well message shape number holds e (field ∷ fields) all =
    let both = and_parts _ _ all in
    content_blocks message shape number holds e field.number field.content (blocks number fields) both.0 (blocks_well message shape number holds e fields both.1)

-- what holds of all records holds of those behind the last that passes a test
pub all_behind : (p test : Field → Bool) (fields : List Field) → list_all p fields ≡ true → list_all p (behind_last test fields) ≡ true
all_behind p test [] all = refl
all_behind p test (field ∷ fields) all =
    let both = and_parts _ _ all in
    elim (list_any test (field ∷ fields)) as (λ b. list_all p (cond b (behind_last test fields) (field ∷ fields)) ≡ true) [
      | true ↦ all_behind p test fields both.1
      | false ↦ all
    ]

-- what holds of each is true of the last
pub last_well : {A : Type 0} (p : A → Bool) (xs : List A) (before : Option A) (x : A) → list_all p xs ≡ true → ((y : A) → before ≡ Some y → p y ≡ true) → last_or before xs ≡ Some x → p x ≡ true
last_well p [] before x all h e = h x e
last_well p (y ∷ xs) before x all h e =
    let both = and_parts (p y) (list_all p xs) all in
    last_well p xs (Some y) x both.1 (λ z same. let eq : y ≡ z = cc in ap p (sym eq) ∙ both.0) e

-- the first record of the first piece, before the rest of it and the later pieces
pub first_of_pieces : (old new later : List ℕ) (field : Field) → is_whole old ≡ true → (fields_of old ≡ field ∷ fields_of new) × (is_whole old ≡ is_whole new) → fields_of (old ++ later) ≡ field ∷ fields_of (new ++ later)
first_of_pieces old new later field whole (first, same) =
    (joined old later whole).fields
    ∙ ap (λ fields. fields ++ fields_of later) first
    ∙ ap (λ fields. field ∷ fields) (sym (joined new later (sym same ∙ whole)).fields)

-- the messages of a field of a readable message are readable one level further down
pub children_well : (below : ℕ) (shape inner : Shape) (number : ℕ) (bytes : List ℕ) → IsWell below shape bytes → HoldsMessage shape number inner → list_all (is_readable below inner) (blocks number (fields_of bytes)) ≡ true
children_well below shape inner number bytes w holds = blocks_well (is_readable below) shape number _ holds (fields_of bytes) w.fields

-- where there is such a message a level is left
pub level_left : (below : ℕ) (shape : Shape) (piece : List ℕ) (pieces : List (List ℕ)) → list_all (is_readable below shape) (piece ∷ pieces) ≡ true → 0 < below
unfolding is_readable
level_left zero shape piece pieces e = cc
level_left (suc below) shape piece pieces e = omega arith

-- a message as contracts see it is readable
abbrev pub IsReadable : Scanned → Type 0
IsReadable message = IsWell message.below message.shape message.bytes

pub readable_message : (shape : Shape) (below : ℕ) (pieces : List (List ℕ)) (message : Scanned) → ◌≡◌ {A = Scanned} (record { shape = shape; below = below; bytes = concat pieces }) message → list_all (is_readable (suc below) shape) pieces ≡ true → IsReadable message
readable_message shape below pieces message e all = subst IsReadable e (pieces_well below shape pieces all)

pub readable_children : (message : Scanned) (number : ℕ) (inner : Shape) (pieces : List (List ℕ)) → IsReadable message → HoldsMessage message.shape number inner → pieces ≡ blocks number (fields_of message.bytes) → list_all (is_readable message.below inner) pieces ≡ true
readable_children message number inner pieces w holds e = ap (list_all (is_readable message.below inner)) e ∙ children_well message.below message.shape inner number message.bytes w holds

-- the texts of a readable message are UTF-8
pub text_well : (message : Scanned) (number : ℕ) → IsReadable message → HoldsText message.shape number → is_utf8 (bytes_field number (fields_of message.bytes)) ≡ true
text_well message number w holds =
    let texts : List (List ℕ) = blocks number (fields_of message.bytes) in
    let all : list_all is_utf8 texts ≡ true = blocks_well (is_readable message.below) message.shape number _ holds (fields_of message.bytes) w.fields in
    (elim (last_or None texts) as (λ last. last_or None texts ≡ last → is_utf8 (unwrap_or last []) ≡ true) [
      | None ↦ λ none. is_utf8-from_IsUtf8 [] IsUtf8-nil
      | Some text ↦ λ some. last_well is_utf8 texts None text all (λ y e. cc) some
    ]) refl
