-- Values and rows that are the same, where null equals null, and each of them once.
use Rattle.std.specs.Prelude.{ℕ, List, [], ◌∷◌, Bool, true, false, not, ◌&&◌}
use Rattle.std.specs.List.{filter, list_any, count_by}
use Rattle.plan_denote.specs.Computed.{Row}
use Rattle.plan_denote.specs.Order.{is_same}

abbrev pub is_same_row : Row → Row → Bool
is_same_row [] [] = true
is_same_row (a ∷ row) (b ∷ other) = is_same a b && is_same_row row other
is_same_row _ _ = false

-- each item once, at its first appearance
abbrev pub distinct : {A : Type 0} → (A → A → Bool) → List A → List A
distinct same [] = []
distinct same (x ∷ xs) = x ∷ filter (λ y. not (same x y)) (distinct same xs)

-- whether a row occurs, and how often
abbrev pub is_in : List Row → Row → Bool
is_in rows row = list_any (is_same_row row) rows

abbrev pub occurrences : List Row → Row → ℕ
occurrences rows row = count_by (is_same_row row) rows
