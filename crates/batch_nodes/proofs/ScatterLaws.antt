-- Each row's value from the column that it chooses, by a loop over the rows.
use Rattle.std.proofs.Common.{◌≡◌, ◌∙◌, ◌≢◌, ℕ, ◌+◌, ◌<◌, ◌≤◌, List, [], ◌∷◌, ◌++◌, length, map, set, get_or, Bool, true, false, true≢false, refl, sym, ap, subst, arith, eqb-true, ◌==◌, if◌then◌else◌}
use Rattle.std.specs.List.{All}
use Rattle.std.proofs.lemmas.List.{get_or-map, get_or-set_same, get_or-set_other}
use Rattle.sub_types.specs.Value.{InKind}
use Rattle.sub_types.specs.declared.kind.Kind.{Kind}
use Rattle.sub_types.specs.declared.value.Value.{Value}
use Rattle.sub_types.specs.declared.value.Value.TheVariants.{Null}
use Rattle.kernels.specs.declared.selection.Stop.{Stop}
use Rattle.kernels.specs.declared.selection.Stop.TheVariants.{Never}
use Rattle.kernels.specs.Until.{Until}
use Rattle.batch_nodes.specs.Chosen.{scattered}
use Rattle.batch_nodes.specs.Found.{found_values, found_at, seen, IsOfKind}
use Rattle.batch_nodes.specs.declared.found.Found.{Found}
use Rattle.batch_nodes.proofs.ChosenLaws.{IsScatteredSoFar, IsScattered-more, IsScattered-stopped}
use Rattle.batch_nodes.proofs.FoundLaws.{found_in_kind}

found_at-get : (columns : List (Found × Stop)) (column : Found × Stop) (j : ℕ) → j < length columns → column ≡ get_or columns j column → found_at columns j ≡ seen column
found_at-get columns column j below at = get_or-map seen columns j column (record { values = []; stop = Never }) below ∙ ap seen (sym at)

moved : (next : List ℕ) (c j : ℕ) → c < length next → get_or (set next c (get_or next c 0 + 1)) j 0 ≡ (if j == c then get_or next j 0 + 1 else get_or next j 0)
moved next c j below = by (j == c) refl
  where
    by : (same : Bool) → (j == c) ≡ same → get_or (set next c (get_or next c 0 + 1)) j 0 ≡ (if same then get_or next j 0 + 1 else get_or next j 0)
    by true same =
        let e : j ≡ c = eqb-true j c same in
        ap (λ k. get_or (set next c (get_or next c 0 + 1)) k 0) e ∙ get_or-set_same next c (get_or next c 0 + 1) 0 below ∙ ap (λ k. get_or next k 0 + 1) (sym e)
    by false differs = get_or-set_other next c j (get_or next c 0 + 1) 0 (λ e. let same : (j == c) ≡ true = grind (arith, e) in true≢false (sym same ∙ differs))

module _ (columns : List (Found × Stop)) (rows choices next : List ℕ) (stop : Stop) (i : ℕ) (column : Found × Stop) (built : List Value)
    (so_far : IsScatteredSoFar (found_at columns) rows choices stop i (λ j. get_or next j 0) built) (row_there : i < length rows) (there : i < length choices)
    (chosen : get_or choices i 0 < length columns) (at : column ≡ get_or columns (get_or choices i 0) column) where
  abbrev choice : ℕ
  choice = get_or choices i 0

  column_is : found_at columns choice ≡ seen column
  column_is = found_at-get columns column choice chosen at

  pub scattered-more : (value : Value) → length next ≡ length columns → get_or next choice 0 < length (found_values column.0) → value ≡ get_or (found_values column.0) (get_or next choice 0) Null
      → IsScatteredSoFar (found_at columns) rows choices stop (i + 1) (λ j. get_or (set next choice (get_or next choice 0 + 1)) j 0) (built ++ value ∷ [])
  scattered-more value long below is =
      let used : get_or next choice 0 < length (found_at columns choice).values = subst (λ (one : Until Value). get_or next choice 0 < length one.values) (sym column_is) below in
      let value_is : value ≡ get_or (found_at columns choice).values (get_or next choice 0) Null = is ∙ ap (λ (one : Until Value). get_or one.values (get_or next choice 0) Null) (sym column_is) in
      let within : choice < length next = omega (arith, chosen, long) in
      IsScattered-more (found_at columns) rows choices stop (λ j. get_or next j 0) (λ j. get_or (set next choice (get_or next choice 0 + 1)) j 0) i Null value built so_far row_there there used value_is (λ j. moved next choice j within)

  pub scattered-stopped : length (found_values column.0) ≤ get_or next choice 0 → scattered (found_at columns) rows choices stop ≡ record { values = built; stop = column.1 }
  scattered-stopped end =
      IsScattered-stopped (found_at columns) rows choices stop (λ j. get_or next j 0) i built so_far row_there there (subst (λ (one : Until Value). length one.values ≤ get_or next choice 0) (sym column_is) end)
      ∙ ap (λ (one : Until Value). record { values = built; stop = one.stop }) column_is

-- a column's values are of the kind
pub chosen_in_kind : (kind : Kind) (columns : List (Found × Stop)) (column : Found × Stop) (j k : ℕ) → All (λ (one : Found × Stop). IsOfKind kind one.0) columns → j < length columns → column ≡ get_or columns j column → k < length (found_values column.0)
    → InKind kind (get_or (found_values column.0) k Null)
chosen_in_kind kind columns column j k all below at there =
    found_in_kind kind column.0 (subst (λ (one : Found × Stop). IsOfKind kind one.0) (sym at) (all j column below)) k Null there
