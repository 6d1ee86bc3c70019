-- The best of values, from the last to the first.
use Rattle.std.proofs.Common.{◌≡◌, ◌∙◌, List, [], ◌∷◌, ◌++◌, Bool, refl, sym, ap}
use Rattle.std.specs.declared.cmp.Ordering.{Ordering}
use Rattle.sub_types.specs.declared.value.Value.{Value}
use Rattle.sub_types.specs.declared.value.Value.TheVariants as values
use Rattle.plan_denote.specs.Tally.{better_of, best_of}

-- the best of values and of what comes behind them
abbrev pub best_before : (Ordering → Bool) → List Value → Value → Value
best_before is_better [] best = best
best_before is_better (value ∷ rest) best = better_of is_better value (best_before is_better rest best)

pub best_before_null : (is_better : Ordering → Bool) (members : List Value) → best_before is_better members values.Null ≡ best_of is_better members
best_before_null is_better [] = refl
best_before_null is_better (value ∷ rest) = ap (better_of is_better value) (best_before_null is_better rest)

last_first : (is_better : Ordering → Bool) (members : List Value) (value best : Value) → best_before is_better (members ++ value ∷ []) best ≡ best_before is_better members (better_of is_better value best)
last_first is_better [] value best = refl
last_first is_better (first ∷ rest) value best = ap (better_of is_better first) (last_first is_better rest value best)

pub last_is_better : (is_better : Ordering → Bool) (members left : List Value) (value best more all : Value) → members ≡ left ++ value ∷ [] → more ≡ better_of is_better value best → best_before is_better members best ≡ all → best_before is_better left more ≡ all
last_is_better is_better members left value best more all e m h =
    ap (best_before is_better left) m ∙ sym (last_first is_better left value best) ∙ sym (ap (λ l. best_before is_better l best) e) ∙ h
