-- A read in steps: its rows are tested, then filtered, and then columns are taken.
use Rattle.std.proofs.Common.{◌≡◌, ◌∙◌, ℕ, List, [], ◌∷◌, ◌++◌, Bool, true, false, Option, Some, None, Ok, Err, map, refl, sym, ap}
use Rattle.std.specs.Option.{option_or}
use Rattle.std.proofs.lemmas.List.{append-nil, map-append}
use Rattle.std.proofs.lemmas.Simd.{map-map}
use Rattle.sub_types.specs.declared.fault.Fault.{Fault}
use Rattle.sub_types.specs.declared.fault.FaultKind.{FaultKind}
use Rattle.sub_types.specs.declared.kind.Ty.{Ty}
use Rattle.sub_types.specs.declared.value.Value.{Value}
use Rattle.sub_types.specs.declared.value.Value.TheVariants as values
use Rattle.sub_types.specs.Stream.{Stream, rows_alone, ended, followed_by, glue, each_stream, stream_of, each}
use Rattle.sub_types.proofs.StreamLaws.{glue-append}
use Rattle.plan_denote.specs.Rows.{Row, Formula, Computed, ◌>>=◌, is_true, only_if, at_relation, condition_of}
use Rattle.plan_denote.specs.Filter.{filtered}
use Rattle.plan_denote.specs.Project.{columns_at, emitted}
use Rattle.plan_denote.specs.Read.{value_fault, row_fault, fault_or, read_rows}
use Rattle.plan_denote.proofs.GlueLaws.{filtered-glue, emitted-glue}
use Rattle.table_rows.specs.Read as table

-- what is wrong with a row is the same to the tables as to the plan
value_same : (ty : Ty) (value : Value) → table.value_fault ty value ≡ value_fault ty value
value_same ty values.Null = refl
value_same ty (values.Bool test) = refl
value_same ty (values.Int n) = refl
value_same ty (values.Dec n) = refl
value_same ty (values.Bytes bytes) = refl

row_same : (types : List Ty) (row : Row) → table.row_fault types row ≡ row_fault types row
row_same [] row = refl
row_same (ty ∷ types) [] = refl
row_same (ty ∷ types) (value ∷ row) = λ i. option_or (value_same ty value i) (row_same types row i)

-- what each row gives, and then the end, as glued pieces
end_alone : (R : Type 0) (end : Option Fault) → followed_by {R = R} (ended end) (rows_alone []) ≡ ended end
end_alone R None = refl
end_alone R (Some fault) = refl

each_as_pieces : {R S : Type 0} (f : R → Stream S) (s : Stream R) → each_stream f s ≡ glue (map f s.rows ++ ended s.end ∷ [])
each_as_pieces {S = S} f s = ap (followed_by (glue (map f s.rows))) (sym (end_alone S s.end)) ∙ sym (glue-append (map f s.rows) (ended s.end ∷ []))

module _ (number : ℕ) (types : List Ty) (condition : Formula) (mask : List ℕ) where
  -- what is done with rows that were tested
  abbrev later : Stream Row → Stream Row
  later s = emitted mask (filtered number condition s)

  abbrev tested : Row → Stream Row
  tested row = stream_of (table.read_row number types row)

  abbrev given : Option FaultKind → Row → Stream Row
  given fault row = stream_of (at_relation number (fault_or fault (condition row >>= (λ test. Ok (only_if (is_true test) (columns_at mask row))))))

  later-glue : (pieces : List (Stream Row)) → later (glue pieces) ≡ glue (map later pieces)
  later-glue pieces =
      ap (emitted mask) (filtered-glue number condition pieces) ∙ emitted-glue mask (map (filtered number condition) pieces)
      ∙ ap glue (map-map (emitted mask) (filtered number condition) pieces)

  abbrev kept : Stream Row → Stream Row
  kept s = record { rows = map (columns_at mask) s.rows; end = s.end }

  by_value : (row : Row) (passes : Bool) → kept (followed_by (followed_by (rows_alone (only_if passes row)) (rows_alone [])) (ended None)) ≡ rows_alone (only_if passes (columns_at mask row))
  by_value row true = refl
  by_value row false = refl

  by_test : (row : Row) (test : Computed)
      → kept (followed_by (followed_by (stream_of (at_relation number (test >>= (λ found. Ok (only_if (is_true found) row))))) (rows_alone [])) (ended None))
      ≡ stream_of (at_relation number (test >>= (λ found. Ok (only_if (is_true found) (columns_at mask row)))))
  by_test row (Ok found) = by_value row (is_true found)
  by_test row (Err kind) = refl

  by_fault : (row : Row) (fault : Option FaultKind) → later (stream_of (table.read_as number row fault)) ≡ given fault row
  unfolding filtered emitted
  by_fault row None = by_test row (condition row)
  by_fault row (Some kind) = refl

  row_in_steps : (row : Row) → later (tested row) ≡ given (row_fault types row) row
  row_in_steps row = by_fault row (table.row_fault types row) ∙ ap (λ fault. given fault row) (row_same types row)

  rows_in_steps : (rows : List Row) → map later (map tested rows) ≡ map (λ row. given (row_fault types row) row) rows
  rows_in_steps [] = refl
  rows_in_steps (row ∷ rows) = λ i. row_in_steps row i ∷ rows_in_steps rows i

  end_in_steps : (end : Option Fault) → later (ended end) ≡ ended end
  unfolding filtered emitted
  end_in_steps end = refl

  -- the whole read
  pub read_in_steps : (s : Stream Row) → later (each (table.read_row number types) s) ≡ read_rows number types condition mask s
  unfolding read_rows
  read_in_steps s =
      let ends : List (Stream Row) = ended s.end ∷ [] in
      ap later (each_as_pieces tested s) ∙ later-glue (map tested s.rows ++ ends)
      ∙ ap glue (map-append later (map tested s.rows) ends ∙ (λ i. rows_in_steps s.rows i ++ end_in_steps s.end i ∷ []))
      ∙ sym (each_as_pieces (λ row. given (row_fault types row) row) s)

-- a condition that is absent keeps all rows
alone_each : (rows : List Row) → glue (map (λ row. rows_alone (row ∷ [])) rows) ≡ rows_alone rows
alone_each [] = refl
alone_each (row ∷ rows) = ap (λ (s : Stream Row). record { rows = row ∷ s.rows; end = s.end }) (alone_each rows)

pub unfiltered : (number : ℕ) (s : Stream Row) → filtered number (condition_of None) s ≡ s
unfolding filtered
unfiltered number s = ap (λ (all : Stream Row). followed_by all (ended s.end)) (alone_each s.rows) ∙ ap (λ rows. record { rows = rows; end = s.end }) (append-nil s.rows)
