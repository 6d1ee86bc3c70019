-- What a step gives for the rows of a batch before the first fault.
use Rattle.std.specs.Prelude.{ℕ, List, [], ◌∷◌, Option, Some, if◌then◌else◌}
use Rattle.sub_types.specs.declared.fault.Fault.{Fault}
use Rattle.sub_types.specs.declared.value.Value.{Value}
use Rattle.plan_denote.specs.Computed.{is_true}
use Rattle.plan_denote.specs.Rows.{fault_at}
use Rattle.kernels.specs.declared.selection.Stop.{Stop}
use Rattle.kernels.specs.declared.selection.Stop.TheVariants as stops

-- the fault of the stop, by the relation of this number, or else the input's end
abbrev pub end_by : ℕ → Stop → Option Fault → Option Fault
end_by number stops.Never end = end
end_by number (stops.At row kind) end = Some (fault_at number kind)

-- of these rows those whose test is true
abbrev pub chosen_by : List ℕ → List Value → List ℕ
chosen_by (row ∷ rows) (test ∷ tests) = if is_true test then row ∷ chosen_by rows tests else chosen_by rows tests
chosen_by _ _ = []
