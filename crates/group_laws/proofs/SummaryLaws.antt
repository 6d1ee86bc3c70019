-- Summaries of some rows and of the rows behind them.
use Rattle.std.proofs.Common.{◌≡◌, ◌∙◌, ℕ, suc, ◌+◌, List, [], ◌++◌, Bool, true, false, length, map, min, refl, sym, ap, arith, length-append}
use Rattle.std.specs.Prelude.{nat_le}
use Rattle.std.specs.List.{enumerate_from}
use Rattle.std.proofs.lemmas.Bool.Decides.{nat_tests}
use Rattle.plan_denote.specs.Rows.{Formula}
use Rattle.plan_denote.specs.Tally.{not_null, tally_of}
use Rattle.plan_denote.specs.Aggregate.{MAX_INPUT, Measure, Entry, group_of, groups_if, keys_in, summary}
use Rattle.group_laws.specs.Merged.{tallies_merged, groups_merged, rows_merged, merged}
use Rattle.group_laws.proofs.TallyLaws.{tally-append}
use Rattle.group_laws.proofs.GroupLaws.{groups_of_both}

-- numbers of rows, counted to one more than may be
pub both_counted : (x y m : ℕ) → min (min x (suc m) + min y (suc m)) (suc m) ≡ min (x + y) (suc m)
both_counted x y m = omega arith

pub both_few : (x y m : ℕ) → nat_le (min x (suc m) + min y (suc m)) m ≡ nat_le (x + y) m
both_few x y m = grind (arith, nat_tests)

pub fewer : (x y m : ℕ) → nat_le (x + y) m ≡ true → nat_le x m ≡ true
fewer x y m e = grind (arith, nat_tests)

pub fewer_later : (x y m : ℕ) → nat_le (x + y) m ≡ true → nat_le y m ≡ true
fewer_later x y m e = grind (arith, nat_tests)

-- the groups of both, where these are few
groups_together : (groups : List Formula) (measures : List Measure) (entries later : List Entry)
    → groups_merged (map (group_of measures entries) (keys_in groups [] entries)) (map (group_of measures later) (keys_in groups [] later)) ≡ map (group_of measures (entries ++ later)) (keys_in groups [] (entries ++ later))
groups_together groups measures entries later =
    groups_of_both (λ measure members. tally_of (not_null members)) tallies_merged (λ measure members more. tally-append members more) (λ key tallies. record { key = key; tallies = tallies }) (λ group. group.key) (λ group. group.tallies)
    (λ key known. refl) (λ key known. refl) (enumerate_from 0 measures) groups [] entries later

groups_where_few : (groups : List Formula) (measures : List Measure) (entries later : List Entry) (few a b : Bool) → nat_le (length entries) MAX_INPUT ≡ a → nat_le (length later) MAX_INPUT ≡ b → (few ≡ true → a ≡ true) → (few ≡ true → b ≡ true)
    → groups_if few (groups_merged (groups_if a (map (group_of measures entries) (keys_in groups [] entries))) (groups_if b (map (group_of measures later) (keys_in groups [] later)))) ≡ groups_if few (map (group_of measures (entries ++ later)) (keys_in groups [] (entries ++ later)))
groups_where_few groups measures entries later false a b p q f g = refl
groups_where_few groups measures entries later true a b p q f g =
    ap (λ t. groups_merged (groups_if t (map (group_of measures entries) (keys_in groups [] entries))) (groups_if b (map (group_of measures later) (keys_in groups [] later)))) (f refl)
    ∙ ap (λ t. groups_merged (map (group_of measures entries) (keys_in groups [] entries)) (groups_if t (map (group_of measures later) (keys_in groups [] later)))) (g refl)
    ∙ groups_together groups measures entries later

pub summary-append : (groups : List Formula) (measures : List Measure) (entries later : List Entry) → summary groups measures (entries ++ later) ≡ merged (summary groups measures entries) (summary groups measures later)
unfolding summary
summary-append groups measures entries later =
    let longer : length (entries ++ later) ≡ length entries + length later = length-append entries later in
    let all = map (group_of measures (entries ++ later)) (keys_in groups [] (entries ++ later)) in
    ap (λ n. record { rows = min n (suc MAX_INPUT); groups = groups_if (nat_le n MAX_INPUT) (map (group_of measures (entries ++ later)) (keys_in groups [] (entries ++ later))) }) longer
    ∙ ap (λ n. record { rows = n; groups = groups_if (nat_le (length entries + length later) MAX_INPUT) (map (group_of measures (entries ++ later)) (keys_in groups [] (entries ++ later))) }) (sym (both_counted (length entries) (length later) MAX_INPUT))
    ∙ ap (λ l. record { rows = rows_merged (min (length entries) (suc MAX_INPUT)) (min (length later) (suc MAX_INPUT)); groups = l })
    (sym (groups_where_few groups measures entries later (nat_le (length entries + length later) MAX_INPUT) (nat_le (length entries) MAX_INPUT) (nat_le (length later) MAX_INPUT) refl refl (fewer (length entries) (length later) MAX_INPUT) (fewer_later (length entries) (length later) MAX_INPUT))
    ∙ ap (λ t. groups_if t (groups_merged (groups_if (nat_le (length entries) MAX_INPUT) (map (group_of measures entries) (keys_in groups [] entries))) (groups_if (nat_le (length later) MAX_INPUT) (map (group_of measures later) (keys_in groups [] later))))) (sym (both_few (length entries) (length later) MAX_INPUT)))
