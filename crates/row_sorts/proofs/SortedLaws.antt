-- Sorts, by the keys of their rows.
use Rattle.std.proofs.Common.{◌≡◌, ◌∙◌, ℕ, List, None, Result, Ok, IfOk, is_some, true, sym, ap, subst, map}
use Rattle.std.proofs.lemmas.Cmp.{on_total}
use Rattle.std.specs.Cmp.{IsTotalOrder}
use Rattle.sub_types.specs.Stream.{Stream, rows_alone, ended}
use Rattle.plan_denote.proofs.OrderLaws.{key_cmp_total}
use Rattle.plan_denote.proofs.SortLaws.{is_arranged}
use Rattle.plan_denote.specs.Rows.{Row, Formula, each_row, unless_fault}
use Rattle.plan_denote.specs.Sort.{Direction, Keyed, keyed, IsArrangement, sorted_rows, sorted}
use Rattle.row_steps.proofs.JoinedLaws.{by_end}
use Rattle.row_sorts.specs.Sorting.{by_key}

pub by_key_total : (directions : List Direction) → IsTotalOrder (by_key directions)
by_key_total directions = on_total (λ (one : Keyed). one.0) (key_cmp_total directions)

-- an arrangement of the rows is their order
pub in_order : (directions : List Direction) (rows ordered : List Keyed) → IsArrangement (by_key directions) rows ordered → map (λ (one : Keyed). one.1) ordered ≡ sorted_rows directions rows
unfolding sorted_rows
in_order directions rows ordered is = ap (map (λ (one : Keyed). one.1)) (is_arranged (by_key directions) (by_key_total directions) rows ordered is)

-- what holds of a value if there is one
pub if_found : {A E : Type 0} (P : A → Type 0) (result : Result A E) (value : A) → result ≡ Ok value → IfOk result P → P value
if_found {A} {E} P result value is holds = subst (λ (r : Result A E). IfOk r P) is holds

module _ (number : ℕ) (keys : List Formula) (directions : List Direction) (input : Stream Row) (s : Stream Keyed) (is : s ≡ each_row number (keyed keys) input) where
  whole : Stream Keyed → Stream Row
  whole all = unless_fault all.end (rows_alone (sorted_rows directions all.rows))

  pub sorted_fault : is_some s.end ≡ true → ended s.end ≡ sorted number keys directions input
  unfolding sorted whole
  sorted_fault fault = sym (by_end s.end (rows_alone (sorted_rows directions s.rows)) fault) ∙ ap whole is

  pub sorted_whole : s.end ≡ None → rows_alone (sorted_rows directions s.rows) ≡ sorted number keys directions input
  unfolding sorted whole
  sorted_whole none = sym (ap (λ end. unless_fault end (rows_alone (sorted_rows directions s.rows))) none) ∙ ap whole is
