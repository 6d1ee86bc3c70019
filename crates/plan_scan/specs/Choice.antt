-- A message that is one oneof of messages, such as a relation, and its winner.
use Rattle.std.specs.Prelude.{◌≡◌, ℕ, ◌+◌, List, [], ◌∷◌, ◌++◌, Bool, true, false, Option, Some, None, IfSome, if◌then◌else◌}
use Rattle.std.specs.Option.{option_map, option_and_then}
use Rattle.std.specs.List.{list_all}
use Rattle.std.specs.Borrow.{Bor}
use Rattle.pb_wire.specs.Records.{Content, Varint, Eight, Bytes, Four}
use Rattle.pb_wire.specs.Payloads.{Field, Member, blocks, joined}
use Rattle.plan_scan.specs.declared.shape.Shape.{Shape}
use Rattle.plan_scan.specs.declared.shape.Use.{Use}
use Rattle.plan_scan.specs.declared.shape.Use.TheVariants as uses
use Rattle.plan_scan.specs.declared.oneof.OneOf.{OneOf}
use Rattle.plan_scan.specs.declared.oneof.OneOf.TheVariants.{RelType, RexType}
use Rattle.plan_scan.specs.Table.{use_of, HoldsMessage}
use Rattle.plan_scan.specs.Member.{is_last, owner}
use Rattle.plan_scan.specs.Scanned.{Scanned, is_readable}

-- such a message: its oneof, how many levels of messages may lie below it, and its payloads one after the other
pub record Chosen : Type 0 where
  pub oneof : OneOf
  pub below : ℕ
  pub bytes : List ℕ

-- the oneofs of relations and expressions: each field of a message that has one is a message, and a member
abbrev pub is_of_messages : OneOf → Bool
is_of_messages RelType = true
is_of_messages RexType = true
is_of_messages _ = false

-- the winner so far: its number, and the payloads of its records since the last record of any other member
pub record WonSoFar : Type 0 where
  pub number : Option ℕ
  pub pieces : List (List ℕ)

abbrev pub nothing_won : WonSoFar
nothing_won = record { number = None; pieces = [] }

-- the payload of a record, where it is a block
abbrev pub block_list : Content → List (List ℕ)
block_list (Varint value) = []
block_list (Eight value) = []
block_list (Bytes bytes) = bytes ∷ []
block_list (Four value) = []

abbrev pub kept_pieces : Bool → List (List ℕ) → List (List ℕ)
kept_pieces same pieces = if same then pieces else []

-- the winner after one more record, and after more of them
abbrev pub won_by : (Field → Bool) → WonSoFar → Field → WonSoFar
won_by test won field =
    if test field then record { number = Some field.number; pieces = kept_pieces (is_last won.number field.number) won.pieces ++ block_list field.content } else won

abbrev pub won_over : (Field → Bool) → WonSoFar → List Field → WonSoFar
won_over test won [] = won
won_over test won (field ∷ fields) = won_over test (won_by test won field) fields

-- the first piece and the others: there are no others without a first
abbrev pub HasFirst : Option (Bor (List ℕ)) → List (Bor (List ℕ)) → Type 0
HasFirst None more = more ≡ []
HasFirst (Some first) more = Unit

-- the winner, when all records were read
abbrev pub won_of : Option Member → WonSoFar
won_of None = nothing_won
won_of (Some member) = record { number = Some member.number; pieces = blocks member.number member.records }

abbrev pub where_message : Use → Option (List ℕ) → Option (List ℕ)
where_message (uses.Message shape) message = message
where_message _ message = None

-- the winner's message, where its field is named
abbrev pub message_of : Shape → WonSoFar → Option (List ℕ)
message_of shape won = option_and_then (λ number. where_message (use_of shape number) (joined won.pieces)) won.number

-- a message is that of the winner, one level further down than the one that has the oneof
pub record IsWonMessage (oneof : OneOf) (below : ℕ) (won : WonSoFar) (message : Option Scanned) : Type 0 where
  pub bytes : option_map (λ m. m.bytes) message ≡ message_of (owner oneof) won
  pub shape : IfSome message (λ m. IfSome won.number (λ number. HoldsMessage (owner oneof) number m.shape))
  pub level : IfSome message (λ m. m.below + 1 ≡ below)

-- the pieces of the winner's message are readable
abbrev pub IsReadableWinner : OneOf → ℕ → WonSoFar → Type 0
IsReadableWinner oneof below won = IfSome won.number (λ number. (shape : Shape) → HoldsMessage (owner oneof) number shape → list_all (is_readable below shape) won.pieces ≡ true)
