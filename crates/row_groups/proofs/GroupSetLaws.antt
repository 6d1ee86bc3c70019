-- Sets of groups, set by set and place by place.
use Rattle.std.proofs.Common.{◌≡◌, ◌∙◌, ℕ, suc, ◌+◌, ◌-◌, ◌<◌, ◌≤◌, pos, List, [], ◌∷◌, ◌++◌, true, false, Some, map, length, drop, get_or, refl, sym, ap, append_assoc, arith, if◌then◌else◌}
use Rattle.std.specs.Prelude.{nat_le}
use Rattle.std.specs.List.{enumerate_from, range_with_len}
use Rattle.std.proofs.lemmas.List.{drop_more, drop_all, length-map}
use Rattle.std.proofs.lemmas.Simd.{map-map}
use Rattle.plan_typed.specs.declared.rel.SetMeasure.{SetMeasure}
use Rattle.sub_types.proofs.StreamLaws.{followed_by_assoc}
use Rattle.sub_types.specs.declared.fault.FaultKind.TheVariants as faults
use Rattle.sub_types.specs.declared.value.Value.TheVariants as values
use Rattle.sub_types.specs.Stream.{Stream, rows_alone, ended, followed_by, glue}
use Rattle.plan_denote.specs.Rows.{Row, Formula, fault_at, each_row}
use Rattle.plan_denote.specs.Denote.{any_measure}
use Rattle.plan_denote.specs.Join.{nulls}
use Rattle.plan_denote.specs.Aggregate.{MAX_INPUT, Entry, entry_of, keys_in}
use Rattle.plan_denote.specs.GroupSets.{AnyMeasure, entry_in, group_over, set_row, rows_of_set, rows_of_sets, set_number}
use Rattle.row_groups.proofs.AggregateLaws.{each_mapped}
use Rattle.row_steps.proofs.GlueLaws.{none_last}

-- the rows of sets that begin at this place
abbrev pub rows_from : ℕ → ℕ → List AnyMeasure → List Entry → List (List ℕ) → ℕ → List (List ℕ) → Stream Row
rows_from number width measures entries sets place left = glue (map (λ one. rows_of_set number width measures entries one.1 (set_number sets one.0)) (enumerate_from place left))

-- one more place
pub one_place_more : {A : Type 0} (f : ℕ → A) (place end : ℕ) (done more all : List A) (value : A) → place < end → value ≡ f place → more ≡ done ++ value ∷ [] → done ++ map f (range_with_len place (end - place)) ≡ all → more ++ map f (range_with_len (place + 1) (end - (place + 1))) ≡ all
one_place_more f place end done more all value h v m e =
    let longer : end - place ≡ suc (end - (place + 1)) = omega arith in
    ap (λ l. l ++ map f (range_with_len (place + 1) (end - (place + 1)))) m
    ∙ append_assoc done (value ∷ []) (map f (range_with_len (place + 1) (end - (place + 1))))
    ∙ ap (λ x. done ++ x ∷ map f (range_with_len (place + 1) (end - (place + 1)))) v
    ∙ sym (ap (λ n. done ++ map f (range_with_len place n)) longer)
    ∙ e

-- the number of a set
pub numbered : (sets : List (List ℕ)) (place : ℕ) → 1 < length sets → values.Int (pos place) ∷ [] ≡ set_number sets place
numbered [] place h = absurd (omega arith)
numbered (set ∷ []) place h = absurd (omega arith)
numbered (set ∷ other ∷ sets) place h = refl

pub unnumbered : (sets : List (List ℕ)) (place : ℕ) → length sets ≤ 1 → [] ≡ set_number sets place
unnumbered [] place h = refl
unnumbered (set ∷ []) place h = refl
unnumbered (set ∷ other ∷ sets) place h = absurd (omega arith)

-- the rows of a set by its keys
pub by_keys : (number width : ℕ) (measures : List AnyMeasure) (entries own : List Entry) (set : List ℕ) (alone last : Row) (keys : List Row) → own ≡ map (entry_in set) entries → alone ≡ nulls width → keys ≡ keys_in set alone own
    → each_row number (λ key. set_row measures last (group_over measures own key)) (rows_alone keys) ≡ rows_of_set number width measures entries set last
by_keys number width measures entries own set alone last keys o a k =
    ap (λ all. each_row number (λ key. set_row measures last (group_over measures own key)) (rows_alone all)) (k ∙ ap (λ one. keys_in set one own) a)
    ∙ sym (each_mapped number (set_row measures last) (group_over measures own) (keys_in set (nulls width) own))
    ∙ ap (λ all. each_row number (set_row measures last) (rows_alone (map (group_over measures all) (keys_in set (nulls width) all)))) o

-- one more set
pub one_set_more : (number width : ℕ) (measures : List AnyMeasure) (entries : List Entry) (sets : List (List ℕ)) (place : ℕ) (set : List ℕ) (done rows more all : Stream Row) → place < length sets → set ≡ get_or sets place set
    → rows ≡ rows_of_set number width measures entries set (set_number sets place) → more ≡ followed_by done rows
    → followed_by done (rows_from number width measures entries sets place (drop place sets)) ≡ all → followed_by more (rows_from number width measures entries sets (place + 1) (drop (place + 1) sets)) ≡ all
one_set_more number width measures entries sets place set done rows more all h is r m e =
    let left = rows_from number width measures entries sets (place + 1) (drop (place + 1) sets) in
    ap (λ s. followed_by s left) m
    ∙ followed_by_assoc done rows left
    ∙ ap (λ s. followed_by done (followed_by s left)) r
    ∙ sym (ap (λ l. followed_by done (rows_from number width measures entries sets place l)) (drop_more sets place set h ∙ ap (λ x. x ∷ drop (place + 1) sets) (sym is)))
    ∙ e

pub all_sets : (number width : ℕ) (measures : List AnyMeasure) (entries : List Entry) (sets : List (List ℕ)) (place : ℕ) (done all : Stream Row) → length sets ≤ place → followed_by done (rows_from number width measures entries sets place (drop place sets)) ≡ all → done ≡ all
all_sets number width measures entries sets place done all h e =
    sym (none_last done)
    ∙ sym (ap (λ l. followed_by done (rows_from number width measures entries sets place l)) (drop_all place sets h))
    ∙ e

pub few_sets : (number width : ℕ) (sets : List (List ℕ)) (measures : List AnyMeasure) (entries : List Entry) → nat_le (length entries) MAX_INPUT ≡ true → rows_from number width measures entries sets 0 sets ≡ rows_of_sets number width sets measures entries
unfolding rows_of_sets
few_sets number width sets measures entries few = sym (ap (λ b. if b then rows_from number width measures entries sets 0 sets else ended (Some (fault_at number faults.TooManyRows))) few)

pub many_sets : (number width : ℕ) (sets : List (List ℕ)) (measures : List AnyMeasure) (entries : List Entry) → nat_le (length entries) MAX_INPUT ≡ false → ended (Some (fault_at number faults.TooManyRows)) ≡ rows_of_sets number width sets measures entries
unfolding rows_of_sets
many_sets number width sets measures entries many = sym (ap (λ b. if b then rows_from number width measures entries sets 0 sets else ended (Some (fault_at number faults.TooManyRows))) many)

-- as many columns as groups
pub width_of : {A B : Type 0} (f : A → B) (groups : List A) → length groups ≡ length (map f groups)
width_of f groups = sym (length-map groups f)

-- the measures of measures over all values or distinct ones
pub measures_of : (number : ℕ) (groups : List Formula) (measures : List SetMeasure) (input : Stream Row) → each_row number (entry_of groups (map (λ one. (any_measure one).measure) measures)) input ≡ each_row number (entry_of groups (map (λ one. one.measure) (map any_measure measures))) input
measures_of number groups measures input = ap (λ all. each_row number (entry_of groups all) input) (sym (map-map (λ (one : AnyMeasure). one.measure) any_measure measures))
