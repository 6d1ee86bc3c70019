-- The law of narrowing: the second operand is evaluated only on the rows that the first one leaves open.
use Rattle.std.proofs.Common.{◌≡◌, ℕ, List, [], ◌∷◌, Option, Some, None, Result, Ok, Err, refl, ap, take, length}
use Rattle.sub_types.specs.declared.fault.FaultKind.{FaultKind}
use Rattle.kernels.specs.Until.{Until, step, until}
use Rattle.batch_nodes.specs.Narrowed.{opened, narrowed, left_open, open_rows, put, joined, strict}

module _ {X Y Z : Type 0} (settle : X → Option Y) (merge : X → Z → Result Y FaultKind) (g : ℕ → Result X FaultKind) (h : ℕ → Result Z FaultKind) where
  -- both operands on rows, the first one's values being these
  abbrev both : List ℕ → Until X → Until Y
  both rows first = let others = until h (open_rows settle rows first.values) in joined settle merge rows first.values first.stop others.values others.stop

  second_row : (row : ℕ) (rows : List ℕ) (x : X) (first : Until X) (r : Result Z FaultKind) (others : Until Z) (whole : Until Y)
      → whole ≡ joined settle merge rows first.values first.stop others.values others.stop
      → step row (opened merge x None r) whole
      ≡ put merge row x None (step row r others).values (step row r others).stop (λ left. joined settle merge rows first.values first.stop left (step row r others).stop)
  second_row row rows x first (Ok z) others whole is = ap (step row (merge x z)) is
  second_row row rows x first (Err kind) others whole is = refl

  opened_row : (row : ℕ) (rows : List ℕ) (x : X) (s : Option Y) (first : Until X) (whole : Until Y) → whole ≡ both rows first
      → step row (opened merge x s (h row)) whole
      ≡ (let others = until h (left_open row s (open_rows settle rows first.values)) in put merge row x s others.values others.stop (λ left. joined settle merge rows first.values first.stop left others.stop))
  opened_row row rows x (Some y) first whole is = ap (step row (Ok y)) is
  opened_row row rows x None first whole is = second_row row rows x first (h row) (until h (open_rows settle rows first.values)) whole is

  first_row : (row : ℕ) (rows : List ℕ) (r : Result X FaultKind) (first : Until X) (whole : Until Y) → whole ≡ both rows first
      → step row (narrowed settle merge r (h row)) whole ≡ both (row ∷ rows) (step row r first)
  first_row row rows (Ok x) first whole is = opened_row row rows x (settle x) first whole is
  first_row row rows (Err kind) first whole is = refl

  pub until-narrowed : (rows : List ℕ) → until (λ i. narrowed settle merge (g i) (h i)) rows ≡ both rows (until g rows)
  until-narrowed [] = refl
  until-narrowed (row ∷ rows) = first_row row rows (g row) (until g rows) (until (λ i. narrowed settle merge (g i) (h i)) rows) (until-narrowed rows)

-- where nothing is settled, the rows that are left open are those before the first operand's stop
pub open_rows-strict : {X : Type 0} (Y : Type 0) (rows : List ℕ) (values : List X) → open_rows (strict {X = X} {Y = Y}) rows values ≡ take (length values) rows
open_rows-strict Y [] [] = refl
open_rows-strict Y [] (x ∷ values) = refl
open_rows-strict Y (row ∷ rows) [] = refl
open_rows-strict Y (row ∷ rows) (x ∷ values) = ap (λ left. row ∷ left) (open_rows-strict Y rows values)
