-- Which of several expressions gives a row's value, by their numbers, and the values of all rows.
use Rattle.std.specs.Prelude.{ℕ, ◌+◌, List, [], ◌∷◌, Option, Some, None, Result, Ok, ◌==◌, if◌then◌else◌}
use Rattle.sub_types.specs.declared.fault.FaultKind.{FaultKind}
use Rattle.sub_types.specs.declared.value.Value.{Value}
use Rattle.plan_denote.specs.Computed.{Computed, is_true}
use Rattle.kernels.specs.declared.selection.Stop.{Stop}
use Rattle.kernels.specs.Until.{Until, step}
use Rattle.batch_nodes.specs.Narrowed.{narrowed}

-- a number other than this is settled
abbrev pub other_than : ℕ → ℕ → Option ℕ
other_than n choice = if choice == n then None else Some choice

-- the number of a condition that is true, and else this
abbrev pub marked : ℕ → ℕ → ℕ → Value → Result ℕ FaultKind
marked n j choice test = Ok (if is_true test then j else n)

-- the number of the first condition that is true, counted from j on, and n where none is
abbrev pub tried : ℕ → ℕ → Result ℕ FaultKind → List Computed → Result ℕ FaultKind
tried n j so_far [] = so_far
tried n j so_far (test ∷ tests) = tried n (j + 1) (narrowed (other_than n) (marked n j) so_far test) tests

-- without the first value
abbrev pub tail_of : Until Value → Until Value
tail_of column = elim column.values [ [] ↦ column | x ∷ rest ↦ record { values = rest; stop = column.stop } ]

abbrev pub without_first : ℕ → (ℕ → Until Value) → ℕ → Until Value
without_first choice columns k = if k == choice then tail_of (columns k) else columns k

-- one row's value is the next of the column that it chooses; where that has none, its stop is the stop
abbrev pub took : ℕ → List Value → Stop → Until Value → Until Value
took row [] stop rest = record { values = []; stop = stop }
took row (value ∷ _) stop rest = step row (Ok value) rest

abbrev pub scattered : (ℕ → Until Value) → List ℕ → List ℕ → Stop → Until Value
scattered columns (row ∷ rows) (choice ∷ choices) stop =
    took row (columns choice).values (columns choice).stop (scattered (without_first choice columns) rows choices stop)
scattered columns _ _ stop = record { values = []; stop = stop }
