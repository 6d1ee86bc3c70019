-- Sets of groups, and measures of distinct values.
use Rattle.std.proofs.Common.{◌≡◌, ◌∙◌, ℕ, suc, ◌+◌, List, [], ◌∷◌, ◌++◌, Bool, true, false, Some, cond, length, map, min, refl, sym, ap, length-append}
use Rattle.std.specs.Prelude.{nat_le}
use Rattle.std.specs.List.{enumerate_from}
use Rattle.std.proofs.lemmas.List.{map-append}
use Rattle.sub_types.specs.declared.fault.FaultKind.TheVariants as faults
use Rattle.sub_types.specs.declared.value.Value.{Value}
use Rattle.sub_types.specs.Stream.{rows_alone, ended, followed_by, glue, stream_of}
use Rattle.std.proofs.Common.{None, arith}
use Rattle.std.proofs.lemmas.Bool.Decides.{nat_tests}
use Rattle.plan_denote.specs.Computed.{Row}
use Rattle.plan_denote.specs.Rows.{at_relation, each_row, fault_at}
use Rattle.plan_denote.specs.Join.{nulls}
use Rattle.plan_denote.specs.Tally.{not_null, tally_of}
use Rattle.plan_denote.specs.Aggregate.{MAX_INPUT, Entry, keys_in, members_in}
use Rattle.plan_denote.specs.GroupSets.{AnyMeasure, entry_in, once, group_over, set_number, set_row, rows_of_set, rows_of_sets}
use Rattle.group_laws.specs.Merged.{merged_by, rows_merged}
use Rattle.group_laws.specs.SetStates.{Tallied, Listed, known_of, tally_in, knowns_merged, set_group, set_groups, sets_summary, set_groups_merged, sets_merged, tallied, rows_of_sets_summary}
use Rattle.group_laws.proofs.SameLaws.{same_values}
use Rattle.group_laws.proofs.DistinctLaws.{distinct_merged}
use Rattle.group_laws.proofs.TallyLaws.{tally-append}
use Rattle.group_laws.proofs.GroupLaws.{groups_of_both}
use Rattle.group_laws.proofs.SummaryLaws.{both_counted, both_few, fewer, fewer_later}

-- what is kept of members and of those behind them
pub known_of-append : (distinct : Bool) (members later : List Value) → known_of distinct (members ++ later) ≡ knowns_merged (known_of distinct members) (known_of distinct later)
known_of-append false members later = ap Tallied (tally-append members later)
known_of-append true members later = ap Listed (sym (distinct_merged same_values members later))

groups_together : (width : ℕ) (measures : List AnyMeasure) (entries later : List Entry) (set : List ℕ) → set_groups_merged (set_groups width measures entries set) (set_groups width measures later set) ≡ set_groups width measures (entries ++ later) set
groups_together width measures entries later set =
    groups_of_both (λ one members. known_of one.distinct members) knowns_merged (λ one members more. known_of-append one.distinct members more) (λ key known. record { key = key; known = known }) (λ group. group.key) (λ group. group.known)
    (λ key known. refl) (λ key known. refl) (enumerate_from 0 measures) set (nulls width) (map (entry_in set) entries) (map (entry_in set) later)
    ∙ ap (λ own. map (set_group measures own) (keys_in set (nulls width) own)) (sym (map-append (entry_in set) entries later))

sets_together : (width : ℕ) (measures : List AnyMeasure) (entries later : List Entry) (sets : List (List ℕ)) → merged_by set_groups_merged (map (set_groups width measures entries) sets) (map (set_groups width measures later) sets) ≡ map (set_groups width measures (entries ++ later)) sets
sets_together width measures entries later [] = refl
sets_together width measures entries later (set ∷ sets) =
    ap (λ g. g ∷ merged_by set_groups_merged (map (set_groups width measures entries) sets) (map (set_groups width measures later) sets)) (groups_together width measures entries later set)
    ∙ ap (λ l. set_groups width measures (entries ++ later) set ∷ l) (sets_together width measures entries later sets)

sets_where_few : (width : ℕ) (sets : List (List ℕ)) (measures : List AnyMeasure) (entries later : List Entry) (few a b : Bool) → (few ≡ true → a ≡ true) → (few ≡ true → b ≡ true)
    → cond few (merged_by set_groups_merged (cond a (map (set_groups width measures entries) sets) []) (cond b (map (set_groups width measures later) sets) [])) [] ≡ cond few (map (set_groups width measures (entries ++ later)) sets) []
sets_where_few width sets measures entries later false a b f g = refl
sets_where_few width sets measures entries later true a b f g =
    ap (λ t. merged_by set_groups_merged (cond t (map (set_groups width measures entries) sets) []) (cond b (map (set_groups width measures later) sets) [])) (f refl)
    ∙ ap (λ t. merged_by set_groups_merged (map (set_groups width measures entries) sets) (cond t (map (set_groups width measures later) sets) [])) (g refl)
    ∙ sets_together width measures entries later sets

pub sets_summary-append : (width : ℕ) (sets : List (List ℕ)) (measures : List AnyMeasure) (entries later : List Entry) → sets_summary width sets measures (entries ++ later) ≡ sets_merged (sets_summary width sets measures entries) (sets_summary width sets measures later)
unfolding sets_summary
sets_summary-append width sets measures entries later =
    let longer : length (entries ++ later) ≡ length entries + length later = length-append entries later in
    ap (λ n. record { rows = min n (suc MAX_INPUT); sets = cond (nat_le n MAX_INPUT) (map (set_groups width measures (entries ++ later)) sets) [] }) longer
    ∙ ap (λ n. record { rows = n; sets = cond (nat_le (length entries + length later) MAX_INPUT) (map (set_groups width measures (entries ++ later)) sets) [] }) (sym (both_counted (length entries) (length later) MAX_INPUT))
    ∙ ap (λ l. record { rows = rows_merged (min (length entries) (suc MAX_INPUT)) (min (length later) (suc MAX_INPUT)); sets = l })
    (sym (sets_where_few width sets measures entries later (nat_le (length entries + length later) MAX_INPUT) (nat_le (length entries) MAX_INPUT) (nat_le (length later) MAX_INPUT) (fewer (length entries) (length later) MAX_INPUT) (fewer_later (length entries) (length later) MAX_INPUT))
    ∙ ap (λ t. cond t (merged_by set_groups_merged (cond (nat_le (length entries) MAX_INPUT) (map (set_groups width measures entries) sets) []) (cond (nat_le (length later) MAX_INPUT) (map (set_groups width measures later) sets) [])) []) (sym (both_few (length entries) (length later) MAX_INPUT)))

-- the tallies of what is kept
tally_is : (distinct : Bool) (members : List Value) → tally_in (known_of distinct members) ≡ tally_of (not_null (once distinct members))
tally_is false members = refl
tally_is true members = refl

tallies_are : (entries : List Entry) (key : Row) (measures : List (ℕ × AnyMeasure)) → map tally_in (map (λ one. known_of one.1.distinct (members_in entries key one.0)) measures) ≡ map (λ one. tally_of (not_null (once one.1.distinct (members_in entries key one.0)))) measures
tallies_are entries key [] = refl
tallies_are entries key (one ∷ measures) =
    ap (λ t. t ∷ map tally_in (map (λ one. known_of one.1.distinct (members_in entries key one.0)) measures)) (tally_is one.1.distinct (members_in entries key one.0))
    ∙ ap (λ l. tally_of (not_null (once one.1.distinct (members_in entries key one.0))) ∷ l) (tallies_are entries key measures)

pub tallied_is : (measures : List AnyMeasure) (entries : List Entry) (key : Row) → tallied (set_group measures entries key) ≡ group_over measures entries key
tallied_is measures entries key = ap (λ tallies. record { key = key; tallies = tallies }) (tallies_are entries key (enumerate_from 0 measures))

-- the rows of a set
map_alike : {A B C : Type 0} (f : B → C) (g : A → B) (h : A → C) → ((x : A) → f (g x) ≡ h x) → (xs : List A) → map f (map g xs) ≡ map h xs
map_alike f g h e [] = refl
map_alike f g h e (x ∷ xs) = ap (λ y. y ∷ map f (map g xs)) (e x) ∙ ap (λ l. h x ∷ l) (map_alike f g h e xs)

set_rows_are : (number width : ℕ) (measures : List AnyMeasure) (entries : List Entry) (set : List ℕ) (numbered : Row)
    → each_row number (λ group. set_row measures numbered (tallied group)) (rows_alone (set_groups width measures entries set)) ≡ rows_of_set number width measures entries set numbered
set_rows_are number width measures entries set numbered =
    let own = map (entry_in set) entries in
    let keys = keys_in set (nulls width) (map (entry_in set) entries) in
    ap (λ all. followed_by (glue all) (ended None))
    (map_alike (λ group. stream_of (at_relation number (set_row measures numbered (tallied group)))) (set_group measures (map (entry_in set) entries)) (λ key. stream_of (at_relation number (set_row measures numbered (group_over measures (map (entry_in set) entries) key))))
    (λ key. ap (λ group. stream_of (at_relation number (set_row measures numbered group))) (tallied_is measures (map (entry_in set) entries) key)) (keys_in set (nulls width) (map (entry_in set) entries))
    ∙ sym (map_alike (λ group. stream_of (at_relation number (set_row measures numbered group))) (group_over measures (map (entry_in set) entries)) (λ key. stream_of (at_relation number (set_row measures numbered (group_over measures (map (entry_in set) entries) key)))) (λ key. refl) (keys_in set (nulls width) (map (entry_in set) entries))))

all_sets_are : (number width : ℕ) (sets : List (List ℕ)) (measures : List AnyMeasure) (entries : List Entry) (place : ℕ) (left : List (List ℕ))
    → map (λ one. each_row number (λ group. set_row measures (set_number sets one.0) (tallied group)) (rows_alone one.1)) (enumerate_from place (map (set_groups width measures entries) left))
    ≡ map (λ one. rows_of_set number width measures entries one.1 (set_number sets one.0)) (enumerate_from place left)
all_sets_are number width sets measures entries place [] = refl
all_sets_are number width sets measures entries place (set ∷ left) =
    ap (λ s. s ∷ map (λ one. each_row number (λ group. set_row measures (set_number sets one.0) (tallied group)) (rows_alone one.1)) (enumerate_from (place + 1) (map (set_groups width measures entries) left))) (set_rows_are number width measures entries set (set_number sets place))
    ∙ ap (λ l. rows_of_set number width measures entries set (set_number sets place) ∷ l) (all_sets_are number width sets measures entries (place + 1) left)

few_or_many : (number width : ℕ) (sets : List (List ℕ)) (measures : List AnyMeasure) (entries : List Entry) (few : Bool)
    → cond few (glue (map (λ one. each_row number (λ group. set_row measures (set_number sets one.0) (tallied group)) (rows_alone one.1)) (enumerate_from 0 (cond few (map (set_groups width measures entries) sets) [])))) (ended (Some (fault_at number faults.TooManyRows)))
    ≡ cond few (glue (map (λ one. rows_of_set number width measures entries one.1 (set_number sets one.0)) (enumerate_from 0 sets))) (ended (Some (fault_at number faults.TooManyRows)))
few_or_many number width sets measures entries true = ap glue (all_sets_are number width sets measures entries 0 sets)
few_or_many number width sets measures entries false = refl

counted : (n m : ℕ) → nat_le (min n (suc m)) m ≡ nat_le n m
counted n m = grind (arith, nat_tests)

pub rows_by_summary : (number width : ℕ) (sets : List (List ℕ)) (measures : List AnyMeasure) (entries : List Entry) → rows_of_sets_summary number sets measures (sets_summary width sets measures entries) ≡ rows_of_sets number width sets measures entries
unfolding rows_of_sets_summary sets_summary rows_of_sets
rows_by_summary number width sets measures entries =
    ap (λ few. cond few (glue (map (λ one. each_row number (λ group. set_row measures (set_number sets one.0) (tallied group)) (rows_alone one.1)) (enumerate_from 0 (cond (nat_le (length entries) MAX_INPUT) (map (set_groups width measures entries) sets) [])))) (ended (Some (fault_at number faults.TooManyRows)))) (counted (length entries) MAX_INPUT)
    ∙ few_or_many number width sets measures entries (nat_le (length entries) MAX_INPUT)
