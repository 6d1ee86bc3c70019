-- The files of a table, or the first refusal.
use Rattle.std.specs.Prelude.{ℕ, List, [], ◌∷◌, length, map, Result, Ok, Err}
use Rattle.std.specs.Option.{ok_or}
use Rattle.std.specs.FinMap.{get}
use Rattle.sub_types.specs.declared.kind.Ty.{Ty}
use Rattle.world.specs.Files.{Files}
use Rattle.arrow_meta.specs.Head.{Head, Refusal, head_of}
use Rattle.arrow_meta.specs.Head as heads
use Rattle.table_open.specs.declared.error.FileRule.{FileRule}
use Rattle.table_open.specs.declared.error.FileRule.TheVariants as rules
use Rattle.sub_types.specs.ResultSteps.{◌>>=◌, collect}
use Rattle.table_open.specs.Words.{bindings_of}
use Rattle.table_open.specs.Columns.{match_columns}

-- a file of a table that was opened: the number of its binding, its bytes, how many blocks it has, and which of its columns are wanted
pub record TableFile : Type 0 where
  pub number : ℕ
  pub bytes : List ℕ
  pub blocks : ℕ
  pub wanted : List ℕ

-- why a file has no head
abbrev pub head_rule : Refusal → FileRule
head_rule heads.NotArrow = rules.NotArrow
head_rule (heads.BadFooter place) = rules.BadFooter place
head_rule (heads.Unsupported column) = rules.Unsupported column
head_rule heads.Compressed = rules.Compressed

-- the head of a file
abbrev pub head_in : Result Head Refusal → Result Head FileRule
head_in (Ok head) = Ok head
head_in (Err refusal) = Err (head_rule refusal)

-- the head of a file and the places of the table's columns in it
unfoldable pub wanted_in : ℕ → List (List ℕ) → List Ty → List ℕ → Result (Head × List ℕ) FileRule
wanted_in relation names types bytes = do
  head ← head_in (head_of bytes)
  wanted ← match_columns relation head.columns names types
  Ok (head, wanted)

-- a refusal with the number of its file
abbrev pub numbered : {A : Type 0} → ℕ → Result A FileRule → Result A (ℕ × FileRule)
numbered number (Ok x) = Ok x
numbered number (Err rule) = Err (number, rule)

-- the file of a binding, opened
unfoldable pub open_one : Files → ℕ → List (List ℕ) → List Ty → ℕ × List ℕ → Result TableFile (ℕ × FileRule)
open_one files relation names types (number, file) = numbered number (do
  bytes ← ok_or (get files file) rules.Missing
  found ← wanted_in relation names types bytes
  Ok (record { number = number; bytes = bytes; blocks = length found.0.blocks; wanted = found.1 }))

-- the files of the bindings, opened, or the first refusal; a table without a binding is refused as file 0
abbrev pub bound_files : Files → ℕ → List (List ℕ) → List Ty → List (ℕ × List ℕ) → Result (List TableFile) (ℕ × FileRule)
bound_files files relation names types [] = Err (0, rules.Unbound relation)
bound_files files relation names types (binding ∷ bindings) = collect (map (open_one files relation names types) (binding ∷ bindings))

-- the files of the named table
unfoldable pub table_files : Files → List (List ℕ) → List ℕ → ℕ → List (List ℕ) → List Ty → Result (List TableFile) (ℕ × FileRule)
table_files files words name relation names types = bound_files files relation names types (bindings_of name words)
