-- Values at their rows, and null elsewhere.
use Rattle.std.proofs.Common.{◌≡◌, ◌∙◌, ℕ, zero, suc, ◌+◌, ◌<◌, ◌≤◌, replicate, List, [], ◌∷◌, ◌++◌, Bool, true, false, cond, None, map, length, get_or, drop, drop-cons, refl, sym, ap, append_assoc, arith}
use Rattle.sub_types.specs.declared.value.Value.{Value}
use Rattle.sub_types.specs.declared.value.Value.TheVariants.{Null}
use Rattle.plan_denote.specs.Computed.{is_true}
use Rattle.group_laws.specs.Columns.{spread, next_value, zipped}
use Rattle.plan_typed.specs.declared.rel.SetMeasure.{SetMeasure}
use Rattle.group_columns.specs.declared.taken.Taken.{Taken}
use Rattle.group_columns.specs.Columns.{IsWhole, trues_in, members_of, tests_of, values_of}
use Rattle.std.proofs.lemmas.List.{length-map}
use Rattle.group_firsts.specs.Firsts.{or_null}
use Rattle.set_inputs.specs.Inputs.{values_once}

pub drop_more : {A : Type 0} (xs : List A) (i : ℕ) (d : A) → i < length xs → drop i xs ≡ get_or xs i d ∷ drop (i + 1) xs
drop_more xs i d h =
    let next : suc i ≡ i + 1 = omega arith in
    drop-cons xs i d h ∙ ap (λ n. get_or xs i d ∷ drop n xs) next

-- a row more
pub spread_done : (tests values done more : List Value) (row place next : ℕ) (b : Bool) → row < length tests → (b ≡ true → place < length values) → is_true (get_or tests row Null) ≡ b
    → more ≡ done ++ cond b (get_or values place Null) Null ∷ [] → next ≡ cond b (place + 1) place
    → more ++ map or_null (spread (drop (row + 1) tests) (drop next values)) ≡ done ++ map or_null (spread (drop row tests) (drop place values))
spread_done tests values done more row place next true h there e m n =
    let test = get_or tests row Null in
    let value = get_or values place Null in
    let rest = map or_null (spread (drop (row + 1) tests) (drop (place + 1) values)) in
    ap (λ i. more ++ map or_null (spread (drop (row + 1) tests) (drop i values))) n
    ∙ ap (λ l. l ++ rest) m
    ∙ append_assoc done (value ∷ []) rest
    ∙ sym (
    ap (λ l. done ++ map or_null (spread l (drop place values))) (drop_more tests row Null h)
    ∙ ap (λ l. done ++ map or_null (spread (test ∷ drop (row + 1) tests) l)) (drop_more values place Null (there refl))
    ∙ ap (λ t. done ++ map or_null (cond t (next_value (value ∷ drop (place + 1) values) (spread (drop (row + 1) tests))) (None ∷ spread (drop (row + 1) tests) (value ∷ drop (place + 1) values)))) e
    )
spread_done tests values done more row place next false h there e m n =
    let test = get_or tests row Null in
    let rest = map or_null (spread (drop (row + 1) tests) (drop place values)) in
    ap (λ i. more ++ map or_null (spread (drop (row + 1) tests) (drop i values))) n
    ∙ ap (λ l. l ++ rest) m
    ∙ append_assoc done (Null ∷ []) rest
    ∙ sym (
    ap (λ l. done ++ map or_null (spread l (drop place values))) (drop_more tests row Null h)
    ∙ ap (λ t. done ++ map or_null (cond t (next_value (drop place values) (spread (drop (row + 1) tests))) (None ∷ spread (drop (row + 1) tests) (drop place values)))) e
    )

-- a column more
pub once_done : (rows place : ℕ) (measures : List SetMeasure) (taken : List Taken) (done more : List (List Value)) (measure : SetMeasure) (one : Taken) → place < length measures → place < length taken
    → measure ≡ get_or measures place measure → one ≡ get_or taken place one → more ≡ done ++ values_once rows measure.distinct one ∷ []
    → more ++ zipped (λ (m : SetMeasure) (t : Taken). values_once rows m.distinct t) (drop (place + 1) measures) (drop (place + 1) taken) ≡ done ++ zipped (λ (m : SetMeasure) (t : Taken). values_once rows m.distinct t) (drop place measures) (drop place taken)
once_done rows place measures taken done more measure one h g is at m =
    let pair = λ (m : SetMeasure) (t : Taken). values_once rows m.distinct t in
    let rest = zipped pair (drop (place + 1) measures) (drop (place + 1) taken) in
    ap (λ l. l ++ rest) m
    ∙ append_assoc done (values_once rows measure.distinct one ∷ []) rest
    ∙ sym (
    ap (λ l. done ++ zipped pair l (drop place taken)) (drop_more measures place measure h ∙ ap (λ x. x ∷ drop (place + 1) measures) (sym is))
    ∙ ap (λ l. done ++ zipped pair (measure ∷ drop (place + 1) measures) l) (drop_more taken place one g ∙ ap (λ x. x ∷ drop (place + 1) taken) (sym at))
    )

-- how long columns are
pub nulls_long : (n : ℕ) → length (replicate n Null) ≡ n
nulls_long zero = refl
nulls_long (suc n) = ap suc (nulls_long n)

spread_by : (tests values : List Value) (b : Bool) → cond b (suc (trues_in tests)) (trues_in tests) ≤ length values → ((more : List Value) → trues_in tests ≤ length more → length (spread tests more) ≡ length tests)
    → length (cond b (next_value values (spread tests)) (None ∷ spread tests values)) ≡ suc (length tests)
spread_by tests [] true h rest = absurd (omega (arith, h))
spread_by tests (value ∷ values) true h rest = ap suc (rest values (omega (arith, h)))
spread_by tests values false h rest = ap suc (rest values h)

spread_long : (tests values : List Value) → trues_in tests ≤ length values → length (spread tests values) ≡ length tests
spread_long [] values h = refl
spread_long (test ∷ tests) values h = spread_by tests values (is_true test) h (spread_long tests)

pub once_long : (rows : ℕ) (b : Bool) (taken : Taken) → IsWhole rows taken → length (values_once rows b taken) ≡ rows
once_long rows true taken whole = length-map (members_of rows taken) or_null ∙ spread_long (tests_of rows taken) (values_of rows taken) whole.values ∙ whole.tests
once_long rows false taken whole = nulls_long rows
