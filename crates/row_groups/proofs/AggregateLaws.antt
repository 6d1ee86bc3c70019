-- Aggregates by the keys of their groups, measure by measure.
use Rattle.std.proofs.Common.{◌≡◌, ◌∙◌, ℕ, suc, ◌+◌, List, [], ◌∷◌, ◌++◌, true, false, cond, Some, None, Result, Ok, Err, min, map, length, refl, sym, ap, arith}
use Rattle.std.specs.Prelude.{nat_le}
use Rattle.std.specs.List.{enumerate_from}
use Rattle.std.proofs.lemmas.Bool.Decides.{nat_tests}
use Rattle.std.proofs.lemmas.List.{append-nil}
use Rattle.std.proofs.lemmas.Simd.{map-map}
use Rattle.sub_types.specs.declared.fault.FaultKind.{FaultKind}
use Rattle.sub_types.specs.declared.fault.FaultKind.TheVariants as faults
use Rattle.sub_types.specs.Stream.{rows_alone, ended, followed_by, glue, stream_of}
use Rattle.plan_typed.specs.declared.expr.Expr.{Expr}
use Rattle.plan_typed.specs.declared.rel.TypedMeasure.{TypedMeasure}
use Rattle.plan_denote.specs.Eval.{eval}
use Rattle.plan_denote.specs.Rows.{Row, Formula, ◌>>=◌, at_relation, fault_at, each_row}
use Rattle.plan_denote.specs.Denote.{measure_of}
use Rattle.plan_denote.specs.Aggregate.{MAX_INPUT, Measure, Entry, tally_of, not_null, members_in, keys_in, group_of, group_row, finals, summary, rows_of_summary}
use Rattle.plan_denote.specs.GroupSets.{AnyMeasure, group_over, set_row}
use Rattle.row_groups.specs.Measured.{plain, tallies_from}

-- the values of measures that begin at this place, or their first fault
abbrev pub finals_from : List Entry → Row → ℕ → List AnyMeasure → Result Row FaultKind
finals_from entries key place measures = finals (map (λ one. one.measure) measures) (tallies_from entries key place measures)

-- measures over all values
plain_measures : (measures : List TypedMeasure) → map (λ one. one.measure) (map plain measures) ≡ map measure_of measures
plain_measures measures = map-map (λ (one : AnyMeasure). one.measure) plain measures

plain_tallies : (entries : List Entry) (key : Row) (place : ℕ) (measures : List TypedMeasure) → tallies_from entries key place (map plain measures) ≡ map (λ one. tally_of (not_null (members_in entries key one.0))) (enumerate_from place (map measure_of measures))
plain_tallies entries key place [] = refl
plain_tallies entries key place (measure ∷ measures) = ap (λ l. tally_of (not_null (members_in entries key place)) ∷ l) (plain_tallies entries key (place + 1) measures)

nothing_last : (key : Row) (values : Result Row FaultKind) → (values >>= (λ found. Ok ((key ++ found ++ []) ∷ []))) ≡ (values >>= (λ found. Ok ((key ++ found) ∷ [])))
nothing_last key (Ok found) = ap (λ l. Ok (l ∷ [])) (append-nil (key ++ found))
nothing_last key (Err fault) = refl

plain_row : (measures : List TypedMeasure) (entries : List Entry) (key : Row) → set_row (map plain measures) [] (group_over (map plain measures) entries key) ≡ group_row (map measure_of measures) (group_of (map measure_of measures) entries key)
plain_row measures entries key =
    nothing_last key (finals (map (λ one. one.measure) (map plain measures)) (tallies_from entries key 0 (map plain measures)))
    ∙ ap (λ ms. finals ms (tallies_from entries key 0 (map plain measures)) >>= (λ found. Ok ((key ++ found) ∷ []))) (plain_measures measures)
    ∙ ap (λ ts. finals (map measure_of measures) ts >>= (λ found. Ok ((key ++ found) ∷ []))) (plain_tallies entries key 0 measures)

map_alike : {A B : Type 0} (f g : A → B) → ((x : A) → f x ≡ g x) → (xs : List A) → map f xs ≡ map g xs
map_alike f g h [] = refl
map_alike f g h (x ∷ xs) = ap (λ y. y ∷ map f xs) (h x) ∙ ap (λ l. g x ∷ l) (map_alike f g h xs)

pub each_mapped : {A B C : Type 0} (number : ℕ) (f : B → Result (List C) FaultKind) (g : A → B) (rows : List A) → each_row number f (rows_alone (map g rows)) ≡ each_row number (λ row. f (g row)) (rows_alone rows)
each_mapped number f g rows = ap (λ all. followed_by (glue all) (ended None)) (map-map (λ row. stream_of (at_relation number (f row))) g rows)

each_alike : {A B : Type 0} (number : ℕ) (f g : A → Result (List B) FaultKind) → ((x : A) → f x ≡ g x) → (rows : List A) → each_row number f (rows_alone rows) ≡ each_row number g (rows_alone rows)
each_alike number f g h rows = ap (λ all. followed_by (glue all) (ended None)) (map_alike (λ row. stream_of (at_relation number (f row))) (λ row. stream_of (at_relation number (g row))) (λ x. ap (λ given. stream_of (at_relation number given)) (h x)) rows)

-- so many rows at most
capped : (n m : ℕ) → nat_le (min n (suc m)) m ≡ nat_le n m
capped n m = grind (arith, nat_tests)

few_rows : (number : ℕ) (groups : List Formula) (measures : List TypedMeasure) (entries : List Entry) → nat_le (length entries) MAX_INPUT ≡ true
    → each_row number (λ key. set_row (map plain measures) [] (group_over (map plain measures) entries key)) (rows_alone (keys_in groups [] entries)) ≡ rows_of_summary number (map measure_of measures) (summary groups (map measure_of measures) entries)
unfolding summary rows_of_summary
few_rows number groups measures entries few =
    let known = map (group_of (map measure_of measures) entries) (keys_in groups [] entries) in
    each_alike number (λ key. set_row (map plain measures) [] (group_over (map plain measures) entries key)) (λ key. group_row (map measure_of measures) (group_of (map measure_of measures) entries key)) (plain_row measures entries) (keys_in groups [] entries)
    ∙ sym (each_mapped number (group_row (map measure_of measures)) (group_of (map measure_of measures) entries) (keys_in groups [] entries))
    ∙ sym (ap (λ b. cond b (each_row number (group_row (map measure_of measures)) (rows_alone (cond (nat_le (length entries) MAX_INPUT) known []))) (ended (Some (fault_at number faults.TooManyRows)))) (capped (length entries) MAX_INPUT ∙ few)
    ∙ ap (λ b. each_row number (group_row (map measure_of measures)) (rows_alone (cond b known []))) few)

keys_by_groups : {A B : Type 0} (f : A → B) (groups : List A) (alone : Row) (entries : List Entry) → keys_in groups alone entries ≡ keys_in (map f groups) alone entries
keys_by_groups f [] alone entries = refl
keys_by_groups f (group ∷ groups) alone entries = refl

pub rows_of_few : (number : ℕ) (groups : List Expr) (measures : List TypedMeasure) (entries : List Entry) (alone last : Row) (keys : List Row) → nat_le (length entries) MAX_INPUT ≡ true → alone ≡ [] → keys ≡ keys_in groups alone entries → last ≡ []
    → each_row number (λ key. set_row (map plain measures) last (group_over (map plain measures) entries key)) (rows_alone keys) ≡ rows_of_summary number (map measure_of measures) (summary (map eval groups) (map measure_of measures) entries)
rows_of_few number groups measures entries alone last keys few a k l =
    ap (λ one. each_row number (λ key. set_row (map plain measures) one (group_over (map plain measures) entries key)) (rows_alone keys)) l
    ∙ ap (λ all. each_row number (λ key. set_row (map plain measures) [] (group_over (map plain measures) entries key)) (rows_alone all)) (k ∙ ap (λ one. keys_in groups one entries) a ∙ keys_by_groups eval groups [] entries)
    ∙ few_rows number (map eval groups) measures entries few

pub many_rows : (number : ℕ) (groups : List Formula) (measures : List Measure) (entries : List Entry) → nat_le (length entries) MAX_INPUT ≡ false → rows_of_summary number measures (summary groups measures entries) ≡ ended (Some (fault_at number faults.TooManyRows))
unfolding summary rows_of_summary
many_rows number groups measures entries many =
    ap (λ b. cond b (each_row number (group_row measures) (rows_alone (cond (nat_le (length entries) MAX_INPUT) (map (group_of measures entries) (keys_in groups [] entries)) []))) (ended (Some (fault_at number faults.TooManyRows)))) (capped (length entries) MAX_INPUT ∙ many)
