-- Operands that are all evaluated, and what a function makes of their values.
use Rattle.std.specs.Prelude.{ℕ, List, [], ◌∷◌, ◌++◌, slice_index_or, Result, Ok}
use Rattle.sub_types.specs.declared.fault.FaultKind.{FaultKind}
use Rattle.sub_types.specs.ResultSteps.{◌>>=◌}
use Rattle.kernels.specs.declared.selection.Stop.{Stop}
use Rattle.kernels.specs.declared.selection.Stop.TheVariants.{Never, At}

-- the stop at a place of these rows, as a stop at the row there
abbrev pub at_row : List ℕ → Stop → Stop
at_row rows Never = Never
at_row rows (At place kind) = At (slice_index_or rows place 0) kind

-- this stop, and where it is none the other
abbrev pub earlier : Stop → Stop → Stop
earlier Never stop = stop
earlier (At row kind) _ = At row kind

-- one more value behind these
abbrev pub behind : {X : Type 0} → Result (List X) FaultKind → Result X FaultKind → Result (List X) FaultKind
behind row one = row >>= (λ xs. one >>= (λ x. Ok (xs ++ x ∷ [])))

-- one more value behind each list
abbrev pub lengthened : {X : Type 0} → List (List X) → List X → List (List X)
lengthened (row ∷ rows) (x ∷ xs) = (row ++ x ∷ []) ∷ lengthened rows xs
lengthened _ _ = []
