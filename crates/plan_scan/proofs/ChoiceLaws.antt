-- Messages that are one oneof of messages: which records are no members, and what a readable one's winner is.
use Rattle.std.proofs.Common.{◌≡◌, ◌∙◌, ◌<◌, ◌-◌, sym, ap, refl, subst, ℕ, List, [], ◌∷◌, Bool, true, false, Option, Some, None, ◌==◌, arith, Bor, IfSome, if◌then◌else◌}
use Rattle.std.specs.List.{list_all, concat}
use Rattle.std.proofs.lemmas.Bool.{and_parts}
use Rattle.pb_wire.specs.Records.{Content, Varint, Eight, Bytes, Four}
use Rattle.pb_wire.specs.Payloads.{fields_of, joined, is_other, chosen_member}
use Rattle.plan_scan.specs.declared.shape.Shape.{Shape}
use Rattle.plan_scan.specs.declared.shape.Shape.TheVariants as shapes
use Rattle.plan_scan.specs.declared.shape.Use.{Use}
use Rattle.plan_scan.specs.declared.shape.Use.TheVariants as uses
use Rattle.plan_scan.specs.declared.oneof.OneOf.{OneOf}
use Rattle.plan_scan.specs.declared.oneof.OneOf.TheVariants.{PlanRelType, EmitKind, ReadType, PathType, OffsetMode, CountMode, RelType, ArgumentType, RexType, LiteralType, TypeKind, SubqueryType}
use Rattle.plan_scan.specs.Table.{named, look_up, HoldsMessage}
use Rattle.plan_scan.specs.Member.{is_member, owner, has_wire_type}
use Rattle.plan_scan.specs.Scanned.{Scanned, is_readable, field_well}
use Rattle.plan_scan.specs.Pieces.{later_of}
use Rattle.plan_scan.specs.Choice.{WonSoFar, IsWonMessage, IsReadableWinner, is_of_messages, block_list, won_of, message_of, where_message}
use Rattle.plan_scan.proofs.MemberLaws.{winner_records}
use Rattle.plan_scan.proofs.PieceLaws.{IsWell, blocks_well, all_behind}
use Rattle.plan_scan.proofs.WonLaws.{OnlyMembers}

is_message : Use → Bool
is_message uses.Unnamed = false
is_message uses.Number = false
is_message uses.Numbers = false
is_message uses.Text = false
is_message uses.Bytes = false
is_message (uses.Message shape) = true

-- a record of another wire type than that of its field has no payload, where the field is one of messages
no_block : (holds : Use) → is_message holds ≡ true → (content : Content) → has_wire_type holds content ≡ false → block_list content ≡ []
unfolding is_message
no_block (uses.Message shape) is (Varint value) other = refl
no_block (uses.Message shape) is (Eight value) other = refl
no_block (uses.Message shape) is (Bytes bytes) other = absurd (cc)
no_block (uses.Message shape) is (Four value) other = refl
no_block uses.Unnamed is content other = absurd (cc)
no_block uses.Number is content other = absurd (cc)
no_block uses.Numbers is content other = absurd (cc)
no_block uses.Text is content other = absurd (cc)
no_block uses.Bytes is content other = absurd (cc)

all_messages : List (ℕ × Use) → Bool
all_messages fields = list_all (λ (field : ℕ × Use). is_message field.1) fields

among_messages : (number : ℕ) (fields : List (ℕ × Use)) → all_messages fields ≡ true → (content : Content) → has_wire_type (look_up number fields) content ≡ false → block_list content ≡ []
unfolding all_messages
among_messages number [] all content other = absurd (cc)
among_messages number (field ∷ fields) all content other =
    let both = and_parts _ _ all in
    (elim (number == field.0) as (λ b. has_wire_type (if b then field.1 else look_up number fields) content ≡ false → block_list content ≡ []) [
      | true ↦ λ h. no_block field.1 both.0 content h
      | false ↦ λ h. among_messages number fields both.1 content h
    ]) other

-- where each field is a message and a member, a record of no member has no payload
pub only_members : (oneof : OneOf) → is_of_messages oneof ≡ true → OnlyMembers (is_member oneof)
unfolding all_messages is_message
only_members RelType is field other = among_messages field.number (named shapes.Rel) refl field.content other
only_members RexType is field other = among_messages field.number (named shapes.Expression) refl field.content other
only_members PlanRelType is field other = absurd (cc)
only_members EmitKind is field other = absurd (cc)
only_members ReadType is field other = absurd (cc)
only_members PathType is field other = absurd (cc)
only_members OffsetMode is field other = absurd (cc)
only_members CountMode is field other = absurd (cc)
only_members ArgumentType is field other = absurd (cc)
only_members LiteralType is field other = absurd (cc)
only_members TypeKind is field other = absurd (cc)
only_members SubqueryType is field other = absurd (cc)

-- the pieces of the winner's message of a readable message are readable
pub readable_winner : (oneof : OneOf) (below : ℕ) (bytes : List ℕ) → IsWell below (owner oneof) bytes → IsReadableWinner oneof below (won_of (chosen_member (is_member oneof) (fields_of bytes)))
readable_winner oneof below bytes well =
    (elim (chosen_member (is_member oneof) (fields_of bytes)) as (λ won. chosen_member (is_member oneof) (fields_of bytes) ≡ won → IsReadableWinner oneof below (won_of won)) [
      | None ↦ λ none. tt
      | Some won ↦ λ chosen. λ shape holds.
          let records = winner_records (is_member oneof) (fields_of bytes) won chosen in
          let test = is_other (is_member oneof) won.number in
          blocks_well (is_readable below) (owner oneof) won.number (uses.Message shape) holds won.records
          (ap (list_all (field_well (is_readable below) (owner oneof))) records ∙ all_behind (field_well (is_readable below) (owner oneof)) test (fields_of bytes) well.fields)
    ]) refl

-- what is said of the winner, of its number
pub readable_pieces : (oneof : OneOf) (below : ℕ) (won : WonSoFar) (number : ℕ) (shape : Shape) → IsReadableWinner oneof below won → won.number ≡ Some number → HoldsMessage (owner oneof) number shape → list_all (is_readable below shape) won.pieces ≡ true
readable_pieces oneof below won number shape readable is holds =
    let P : Option ℕ → Type 0 = λ found. IfSome found (λ n. (s : Shape) → HoldsMessage (owner oneof) n s → list_all (is_readable below s) won.pieces ≡ true) in
    subst P is readable shape holds

pub later_own : (own : List (Bor (List ℕ))) → later_of own [] ≡ own
later_own [] = refl
later_own (piece ∷ own) = refl

-- the message of the winner's pieces
pub won_message_is : (oneof : OneOf) (below : ℕ) (won : WonSoFar) (number : ℕ) (shape : Shape) (piece : List ℕ) (pieces : List (List ℕ)) (message : Scanned) →
    won.number ≡ Some number → won.pieces ≡ piece ∷ pieces → HoldsMessage (owner oneof) number shape → 0 < below →
    message ≡ record { shape = shape; below = below - 1; bytes = concat (piece ∷ pieces) } → IsWonMessage oneof below won (Some message)
won_message_is oneof below won number shape piece pieces message is all holds some same =
    let P : Option ℕ → Type 0 = λ found. IfSome found (λ n. HoldsMessage (owner oneof) n message.shape) in
    record {
      bytes =
          ap (λ (m : Scanned). Some m.bytes) same
          ∙ sym (ap joined all)
          ∙ sym (ap (λ holds-it. where_message holds-it (joined won.pieces)) holds)
          ∙ ap (λ found. message_of (owner oneof) (record { number = found; pieces = won.pieces })) (sym is);
      shape = subst P (sym is) (holds ∙ sym (ap (λ (m : Scanned). uses.Message m.shape) same));
      level = omega (arith, some, ap (λ (m : Scanned). m.below) same);
    }
