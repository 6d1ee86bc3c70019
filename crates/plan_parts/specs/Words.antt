-- How the fields of a message are read, from the list of its records (Protocol Buffers encoding).
use Rattle.std.specs.Prelude.{ℕ, List, Bool, Option, map, is_some}
use Rattle.std.specs.Option.{option_map, option_map_or}
use Rattle.pb_wire.specs.Payloads.{Field, fields_of, blocks, last_block, merged_message, chosen_member}
use Rattle.plan_scan.specs.declared.oneof.OneOf.{OneOf}
use Rattle.plan_scan.specs.Member.{is_member}

-- the message of a singular field, or nothing where it is absent
abbrev pub part : {A : Type 0} → (List Field → A) → ℕ → List Field → Option A
part read number fields = option_map (λ bytes. read (fields_of bytes)) (merged_message number fields)

-- the messages of a repeated field
abbrev pub parts : {A : Type 0} → (List Field → A) → ℕ → List Field → List A
parts read number fields = map (λ bytes. read (fields_of bytes)) (blocks number fields)

-- whether a message is there
abbrev pub is_there : ℕ → List Field → Bool
is_there number fields = is_some (last_block number fields)

-- the winner of a oneof, read from its number and its records; without a member what stands for none
abbrev pub winner : {A : Type 0} → OneOf → A → (ℕ → List Field → A) → List Field → A
winner oneof missing read fields = option_map_or (λ member. read member.number member.records) (chosen_member (is_member oneof) fields) missing
