-- How messages are found one level further down, and how the messages of a field are read one by one.
use Rattle.std.proofs.Common.{◌≡◌, ◌∙◌, ℕ, ◌+◌, List, [], ◌∷◌, ◌++◌, true, false, cond, nat_eq, Option, Some, None, is_some, Result, Ok, Err, IfSome, IfOk, unwrap_or, refl, sym, ap, subst, append_assoc, add-one}
use Rattle.std.specs.List.{filter_map}
use Rattle.std.proofs.lemmas.Bool.{eqb-true, ne_eqb}
use Rattle.std.specs.Option.{option_map, option_map_or, option_and_then}
use Rattle.pb_wire.specs.Payloads.{Field, Member, fields_of, merged_message, chosen_member}
use Rattle.plan_scan.specs.declared.shape.Shape.{Shape}
use Rattle.plan_scan.specs.Scanned.{Scanned, Left, IsNextChild}
use Rattle.plan_scan.specs.declared.oneof.OneOf.{OneOf}
use Rattle.plan_scan.specs.Table.{use_of, HoldsMessage}
use Rattle.plan_scan.specs.Member.{is_member, owner}
use Rattle.plan_scan.specs.Choice.{Chosen, IsWonMessage, won_of, where_message}
use Rattle.plan_scan.proofs.MemberLaws.{winner_there}
use Rattle.plan_parts.specs.Shapes.{Tree, child}
use Rattle.plan_parts.specs.Reader.{tree_by, reader}

-- a message one level further down
pub reader-child : (below above : ℕ) (shape : Shape) (fields : List Field) → below + 1 ≡ above → reader above shape fields ≡ Some (tree_by (reader below) shape fields)
unfolding reader
reader-child below above shape fields one = let P : ℕ → Type 0 = λ n. reader n shape fields ≡ Some (tree_by (reader below) shape fields) in
    subst P (sym (add-one below) ∙ one) refl

-- the message of a singular field, and what it was read as
part_at : (m : Scanned) (below : ℕ) (bytes : List ℕ) (shape : Shape) (number : ℕ) (x : Tree shape) →
    below + 1 ≡ m.below →
    Some bytes ≡ merged_message number (fields_of m.bytes) →
    x ≡ tree_by (reader below) shape (fields_of bytes) →
    Some x ≡ child (reader m.below) shape number (fields_of m.bytes)
part_at m below bytes shape number x one merged read =
    ap Some read ∙ sym (reader-child below m.below shape (fields_of bytes) one) ∙ ap (λ o. option_and_then (λ b. reader m.below shape (fields_of b)) o) merged

-- the message of a singular field that was found, as it was seen, and what it was read as
pub read_part : (m : Scanned) (found : Option Scanned) (part : Scanned) {seen : Scanned} (shape : Shape) (number : ℕ) (x : Tree shape) →
    found ≡ Some part →
    option_map (λ (inner : Scanned). inner.bytes) found ≡ merged_message number (fields_of m.bytes) →
    IfSome found (λ inner. inner.below + 1 ≡ m.below) →
    seen ≡ part →
    x ≡ tree_by (reader seen.below) shape (fields_of seen.bytes) →
    Some x ≡ child (reader m.below) shape number (fields_of m.bytes)
read_part m found part shape number x is bytes below same read =
    let P : Option Scanned → Type 0 = λ o. IfSome o (λ inner. inner.below + 1 ≡ m.below) in
    let one : part.below + 1 ≡ m.below = subst P is below in
    let merged : Some part.bytes ≡ merged_message number (fields_of m.bytes) = ap (option_map (λ (inner : Scanned). inner.bytes)) (sym is) ∙ bytes in
    part_at m part.below part.bytes shape number x one merged (read ∙ ap (λ (inner : Scanned). tree_by (reader inner.below) shape (fields_of inner.bytes)) same)

-- the same of a message that is a oneof of messages
pub read_choice : (m : Scanned) (found : Option Chosen) (part : Chosen) (shape : Shape) (number : ℕ) (x : Tree shape) →
    found ≡ Some part →
    option_map (λ (inner : Chosen). inner.bytes) found ≡ merged_message number (fields_of m.bytes) →
    IfSome found (λ inner. inner.below + 1 ≡ m.below) →
    x ≡ tree_by (reader part.below) shape (fields_of part.bytes) →
    Some x ≡ child (reader m.below) shape number (fields_of m.bytes)
read_choice m found part shape number x is bytes below read =
    let P : Option Chosen → Type 0 = λ o. IfSome o (λ inner. inner.below + 1 ≡ m.below) in
    part_at m part.below part.bytes shape number x (subst P is below) (ap (option_map (λ (inner : Chosen). inner.bytes)) (sym is) ∙ bytes) read

-- the messages of a field that are left, as they will be read
abbrev pub left_of : ℕ → (shape : Shape) → List (List ℕ) → List (Tree shape)
left_of above shape blocks = filter_map (λ bytes. reader above shape (fields_of bytes)) blocks

-- one more message of a repeated field, and what it was read as
pub read_next : (above : ℕ) (shape : Shape) (old new : Left) (next : Scanned) (done pushed all : List (Tree shape)) (x : Tree shape) →
    old.above ≡ above →
    IsNextChild old new (Some next) →
    x ≡ tree_by (reader next.below) shape (fields_of next.bytes) →
    pushed ≡ done ++ x ∷ [] →
    done ++ left_of above shape old.blocks ≡ all →
    pushed ++ left_of above shape new.blocks ≡ all
read_next above shape old new next done pushed all x from step read push whole =
    let one : reader above shape (fields_of next.bytes) ≡ Some x = reader-child next.below above shape (fields_of next.bytes) (step.1 ∙ from) ∙ ap Some (sym read) in
    let first : left_of above shape old.blocks ≡ x ∷ left_of above shape new.blocks = ap (left_of above shape) step.2 ∙ rw one refl in
    ap (λ front. front ++ left_of above shape new.blocks) push ∙ append_assoc done (x ∷ []) (left_of above shape new.blocks) ∙ ap (λ more. done ++ more) (sym first) ∙ whole

-- what a oneof's member was read as, where its message was found
pub read_won : {E : Type 0} (m : Scanned) (found : Option Scanned) (part : Scanned) {seen : Scanned} (shape : Shape) (number : ℕ) (missing : Tree shape) (result : Result (Tree shape) E) →
    found ≡ Some part →
    option_map (λ (inner : Scanned). inner.bytes) found ≡ merged_message number (fields_of m.bytes) →
    IfSome found (λ inner. inner.below + 1 ≡ m.below) →
    seen ≡ part →
    IfOk result (λ x. x ≡ tree_by (reader seen.below) shape (fields_of seen.bytes)) →
    IfOk result (λ x. x ≡ unwrap_or (child (reader m.below) shape number (fields_of m.bytes)) missing)
read_won m found part shape number missing (Ok x) is bytes below same read =
    ap (λ o. unwrap_or o missing) (read_part m found part shape number x is bytes below same read)
read_won m found part shape number missing (Err error) is bytes below same read = tt

-- two choices by a number agree where both of their arms do
pub by_number : {A : Type 0} (number this : ℕ) (x y others others' : A) → (number ≡ this → x ≡ y) → others ≡ others' → cond (nat_eq number this) x others ≡ cond (nat_eq number this) y others'
by_number number this x y others others' same rest = (elim (nat_eq number this) as (λ b. nat_eq number this ≡ b → cond b x others ≡ cond b y others') [
  | true ↦ λ e. same (eqb-true number this e)
  | false ↦ λ e. rest
]) refl

-- what the message of a oneof's member is read as, where it was found
pub found_is : (below above : ℕ) (shape : Shape) (number this : ℕ) (fields : List Field) (bytes : List ℕ) (missing : Tree shape) → below + 1 ≡ above → number ≡ this → merged_message number fields ≡ Some bytes → unwrap_or (child (reader above) shape this fields) missing ≡ tree_by (reader below) shape (fields_of bytes)
found_is below above shape number this fields bytes missing one same merged =
    let here : merged_message this fields ≡ Some bytes = ap (λ n. merged_message n fields) (sym same) ∙ merged in
    ap (λ o. unwrap_or (option_and_then (λ b. reader above shape (fields_of b)) o) missing) here ∙ ap (λ o. unwrap_or o missing) (reader-child below above shape (fields_of bytes) one)

-- a choice by a number that isn't this one
pub not_this : {A : Type 0} (number this : ℕ) (x others other : A) → (number ≡ this → ⊥) → others ≡ other → cond (nat_eq number this) x others ≡ other
not_this number this x others other differ rest = ap (λ b. cond b x others) (ne_eqb number this differ) ∙ rest

-- what a message that is a oneof of messages is read as, by its winner
read_winner : {A : Type 0} (read : ℕ → List Field → A) (missing : A) (won : Option Member) (number : ℕ) (x : A) → (won_of won).number ≡ Some number →
    ((member : Member) → won ≡ Some member → member.number ≡ number → x ≡ read number member.records) → x ≡ option_map_or (λ member. read member.number member.records) won missing
read_winner read missing None number x is same = absurd (cc)
read_winner read missing (Some member) number x is same =
    let here : member.number ≡ number = cc in
    same member refl here ∙ ap (λ n. read n member.records) (sym here)

-- the winner's message is found among its records
won_merged : (oneof : OneOf) (below number : ℕ) (member : Member) (message : Scanned) → IsWonMessage oneof below (won_of (Some member)) (Some message) → member.number ≡ number → merged_message number member.records ≡ Some message.bytes
won_merged oneof below number member message is here =
    ap (λ n. merged_message n member.records) (sym here) ∙ sym (is.bytes ∙ ap (λ holds. where_message holds (merged_message member.number member.records)) is.shape)

-- a winner without a message isn't that of a named field
not_named : (oneof : OneOf) (below number : ℕ) (inner : Shape) (fields : List Field) (member : Member) → chosen_member (is_member oneof) fields ≡ Some member → member.number ≡ number →
    IsWonMessage oneof below (won_of (Some member)) None → HoldsMessage (owner oneof) number inner → ⊥
not_named oneof below number inner fields member chosen here is holds =
    let named : HoldsMessage (owner oneof) member.number inner = ap (use_of (owner oneof)) here ∙ holds in
    let none : None ≡ merged_message member.number member.records = is.bytes ∙ ap (λ holding. where_message holding (merged_message member.number member.records)) named in
    let some : is_some (merged_message member.number member.records) ≡ true = winner_there oneof inner fields member chosen named in
    let both : false ≡ true = ap is_some none ∙ some in
    cc

-- what a choice says of its winner
abbrev Winner : OneOf → ℕ → List Field → ℕ → Option Scanned → Type 0
Winner oneof below fields number message =
    (Some number ≡ (won_of (chosen_member (is_member oneof) fields)).number) × IsWonMessage oneof below (won_of (chosen_member (is_member oneof) fields)) message

-- what a message that is a oneof of messages is read as, where its winner has a message, by what that was read as
pub choice_read : {A E : Type 0} (own : OneOf) (read inside : ℕ → ℕ → List Field → A) (missing : A) →
    ((below above number : ℕ) (fields : List Field) (bytes : List ℕ) → below + 1 ≡ above → merged_message number fields ≡ Some bytes → read above number fields ≡ inside below number (fields_of bytes)) →
    (choice : Chosen) (number : ℕ) (found : Option Scanned) (message : Scanned) (result : Result A E) → choice.oneof ≡ own → found ≡ Some message → Winner choice.oneof choice.below (fields_of choice.bytes) number found →
    IfOk result (λ x. x ≡ inside message.below number (fields_of message.bytes)) →
    IfOk result (λ x. x ≡ option_map_or (λ member. read choice.below member.number member.records) (chosen_member (is_member own) (fields_of choice.bytes)) missing)
choice_read own read inside missing agree choice number found message (Ok x) one is winner here =
    let fields = fields_of choice.bytes in
    let won = subst (λ oneof. Winner oneof choice.below fields number (Some message)) one (subst (Winner choice.oneof choice.below fields number) is winner) in
    read_winner (read choice.below) missing (chosen_member (is_member own) fields) number x (sym won.0) (λ member chosen same.
    let P : Option Member → Type 0 = λ o. IsWonMessage own choice.below (won_of o) (Some message) in
    let w : IsWonMessage own choice.below (won_of (Some member)) (Some message) = subst P chosen won.1 in
    here ∙ sym (agree message.below choice.below number member.records message.bytes w.level (won_merged own choice.below number member message w same)))
choice_read own read inside missing agree choice number found message (Err error) one is winner here = tt

-- and where it has none
pub choice_unknown : {A : Type 0} (own : OneOf) (read : ℕ → List Field → A) (unknown : ℕ → A) (missing : A) →
    ((number : ℕ) (fields : List Field) → ((inner : Shape) → HoldsMessage (owner own) number inner → ⊥) → read number fields ≡ unknown number) →
    (choice : Chosen) (number : ℕ) (found : Option Scanned) → choice.oneof ≡ own → found ≡ None → Winner choice.oneof choice.below (fields_of choice.bytes) number found →
    unknown number ≡ option_map_or (λ member. read member.number member.records) (chosen_member (is_member own) (fields_of choice.bytes)) missing
choice_unknown own read unknown missing unnamed choice number found one is winner =
    let fields = fields_of choice.bytes in
    let won = subst (λ oneof. Winner oneof choice.below fields number None) one (subst (Winner choice.oneof choice.below fields number) is winner) in
    read_winner read missing (chosen_member (is_member own) fields) number (unknown number) (sym won.0) (λ member chosen same.
    let P : Option Member → Type 0 = λ o. IsWonMessage own choice.below (won_of o) None in
    sym (unnamed number member.records (λ inner holds. not_named own choice.below number inner fields member chosen same (subst P chosen won.1) holds)))
