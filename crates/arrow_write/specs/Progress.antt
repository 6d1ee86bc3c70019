-- Record batch messages one after the other: what each is, and what is kept of those that were appended.
use Rattle.std.specs.Prelude.{◌≡◌, ◌+◌, ◌%◌, ◌<◌, ◌^◌, ℕ, List, [], ◌∷◌, ◌++◌, length, map}
use Rattle.sub_types.specs.declared.kind.Ty.{Ty}
use Rattle.sub_types.specs.declared.value.Value.{Value}
use Rattle.arrow_meta.specs.Messages.{Place}
use Rattle.arrow_meta.specs.Meta.{place_of}
use Rattle.arrow_meta.specs.File.{batch_message, batch_metadata, batch_body}
use Rattle.arrow_write.specs.declared.message.Message.{Message}
use Rattle.arrow_write.specs.declared.batches.Progress.{Progress}

-- the bytes are the message of the record batch of these rows, with the lengths of its metadata and its body
pub record IsMessage (types : List Ty) (rows : List (List Value)) (message : Message) : Type 0 where
  pub bytes : message.bytes.items ≡ batch_message types rows
  pub meta_len : message.meta_len ≡ length (batch_metadata types rows)
  pub body_len : message.body_len ≡ length (batch_body types rows)
  pub small : message.meta_len < 2 ^ 31

-- where the record batch message of these rows stands, if it begins at a place
abbrev pub block_at : ℕ → List Ty → List (List Value) → Place
block_at place types rows = record { offset = place; meta_len = length (batch_metadata types rows) + 8; body_len = length (batch_body types rows) }

-- the message of these rows was appended: its block is kept, and the end has moved, both as numbers of 64 bits
pub record Sends (types : List Ty) (rows : List (List Value)) (old new : Progress) : Type 0 where
  pub blocks : map place_of new.blocks.items ≡ map place_of old.blocks.items ++ block_at old.end types rows ∷ []
  pub end : new.end ≡ (old.end + length (batch_message types rows)) % 2 ^ 64
