-- Conditionals, choices, options and casts at rows of a batch, from the values of their parts.
use Rattle.std.proofs.Common.{inl, inr, ◌≡◌, ◌∙◌, ℕ, zero, suc, ◌+◌, ◌<◌, ◌≤◌, List, [], ◌∷◌, ◌++◌, length, map, take, get_or, replicate, Bool, true, false, Option, Some, None, Result, Ok, Err, IfOk, not, ◌&&◌, refl, sym, ap, ap₂, subst, arith, if◌then◌else◌, ◌==◌}
use Rattle.std.specs.List.{All, AllByRecursion, range_with_len}
use Rattle.std.proofs.lemmas.List.{map-append, length-append, length-map, length-replicate, get_or-map, get_or_past, get_or_append_left}
use Rattle.std.proofs.lemmas.Bool.{cases_lt}
use Rattle.std.proofs.lemmas.List.Elements.{All-head, All-tail}
use Rattle.std.proofs.lemmas.List.FromFn.{fill_by_all}
use Rattle.std.proofs.lemmas.Simd.{map-map}
use Rattle.sub_types.specs.Kind.{IsKind}
use Rattle.sub_types.specs.ResultSteps.{◌>>=◌}
use Rattle.sub_types.specs.Value.{InKind, Fits}
use Rattle.sub_types.specs.declared.fault.FaultKind.{FaultKind}
use Rattle.sub_types.specs.declared.kind.Kind.{Kind}
use Rattle.sub_types.specs.declared.kind.Kind.TheVariants as kinds
use Rattle.sub_types.specs.declared.kind.Ty.{Ty}
use Rattle.sub_types.specs.declared.value.Value.{Value}
use Rattle.sub_types.specs.declared.value.Value.TheVariants as values
use Rattle.plan_typed.specs.declared.expr.Expr.{Expr, Expr-F}
use Rattle.plan_typed.specs.declared.expr.Expr.TheVariants as e
use Rattle.plan_typed.specs.declared.expr.Expr.TheVariants.{rolls-If, rolls-Switch, rolls-OneOf, rolls-Cast}
use Rattle.plan_typed.specs.Types.{ty_of}
use Rattle.well_typed.specs.ExprTyped.{IsAs, IsTypedOver, AreAs}
use Rattle.plan_denote.specs.Computed.{Computed, is_true, is_null}
use Rattle.plan_denote.specs.Order.{is_same}
use Rattle.plan_denote.specs.Casts.{cast, or_null}
use Rattle.plan_denote.specs.Logic.{first_true, first_equal, one_of}
use Rattle.plan_denote.proofs.EvalLaws.{eval-If, eval-Switch, eval-OneOf, eval-Cast}
use Rattle.batch.specs.BatchRows.{rows_of, types_of}
use Rattle.batch.specs.declared.batch.Batch.{Batch}
use Rattle.kernels.specs.declared.selection.Stop.{Stop}
use Rattle.kernels.specs.declared.selection.Stop.TheVariants.{Never}
use Rattle.kernels.specs.Until.{Until, until}
use Rattle.kernels.proofs.UntilLaws.{until-same, until-mapped, result_map}
use Rattle.batch_nodes.specs.declared.found.Found.{Found}
use Rattle.batch_nodes.specs.Chosen.{other_than, marked, tried, scattered}
use Rattle.batch_nodes.specs.Evaluated.{row_at, eval_at, worth_at}
use Rattle.batch_nodes.specs.Found.{found_values, found_at, seen, IsUntil, IsOfKind}
use Rattle.batch_nodes.specs.Narrowed.{opened, narrowed, open_rows, left_open}
use Rattle.batch_nodes.specs.Options.{Sought, is_found, looked, sought, looked_up, paired, place_of}
use Rattle.batch_nodes.specs.Parts.{AreUntil, AreChosen, arm_at, literals}
use Rattle.batch_nodes.specs.Strict.{earlier, at_row}
use Rattle.batch_nodes.proofs.ChosenLaws.{tried-append, tried-first_true, AreFrom, until-chosen, columns_at, scattered-pointwise, choosing}
use Rattle.batch_nodes.proofs.OptionLaws.{looked_up-more, looked_up-one_of, first_equal-place}
use Rattle.batch_nodes.proofs.StepLaws.{all-append, AreUntil-same, AreUntil-whole, worth-append}
use Rattle.batch_nodes.proofs.StrictLaws.{until-length, until-get, until-all, until-placed}
use Rattle.batch_nodes.proofs.TypedLaws.{node, type_in, parts, by_places, kind_valid, computed_in_kind}
use Rattle.batch_nodes.proofs.UntilLaws.{until-constant}

-- ---- conditions one after the other

abbrev pub tests_of : {X : Type 0} → Batch → List (Expr × X) → ℕ → List Computed
tests_of batch arms i = map (λ arm. eval_at arm.0 batch i) arms

pub tried-none : (n : ℕ) (rows : List ℕ) → AreUntil (λ i. tried n 0 (Ok n) []) rows (replicate (length rows) n) Never
tried-none n rows =
    let all = until-constant (λ i. tried n 0 (Ok n) []) n (λ i. refl) rows in
    record { values = sym (ap (λ found. found.values) all); stop = sym (ap (λ found. found.stop) all) }

module _ {X : Type 0} (n : ℕ) (batch : Batch) (rows : List ℕ) where
  abbrev tests : List (Expr × X) → ℕ → List Computed
  tests arms i = tests_of batch arms i

  abbrev pub AreTried : List (Expr × X) → List ℕ → Stop → Type 0
  AreTried done choices stop = AreUntil (λ i. tried n 0 (Ok n) (tests done i)) rows choices stop

  pub tried-more : (done : List (Expr × X)) (arm : Expr × X) (number : ℕ) (choices : List ℕ) (stop : Stop) → number ≡ length done
      → AreUntil (λ i. narrowed (other_than n) (marked n number) (tried n 0 (Ok n) (tests done i)) (eval_at arm.0 batch i)) rows choices stop → AreTried (done ++ arm ∷ []) choices stop
  tried-more done arm number choices stop is are =
      AreUntil-same (λ i. tried n 0 (Ok n) (tests (done ++ arm ∷ []) i)) (λ i. narrowed (other_than n) (marked n number) (tried n 0 (Ok n) (tests done i)) (eval_at arm.0 batch i)) rows choices stop
      (λ i. ap (tried n 0 (Ok n)) (map-append (λ (one : Expr × X). eval_at one.0 batch i) done (arm ∷ [])) ∙ tried-append n 0 (Ok n) (tests done i) (eval_at arm.0 batch i)
      ∙ ap (λ k. narrowed (other_than n) (marked n k) (tried n 0 (Ok n) (tests done i)) (eval_at arm.0 batch i)) (number_is i)) are
    where
      number_is : (i : ℕ) → 0 + length (tests done i) ≡ number
      number_is i = let long = length-map done (λ (one : Expr × X). eval_at one.0 batch i) in omega (arith, long, is)

-- a choice is one of the arms, or their number
abbrev Within : ℕ → Result ℕ FaultKind → Type 0
Within n found = IfOk found (λ c. c ≤ n)

module _ (n j : ℕ) (less : j ≤ n) where
  marked-within : (test : Bool) → Within n (Ok (if test then j else n))
  marked-within true = less
  marked-within false = omega arith

  opened-within : (c : ℕ) (same : Bool) (condition : Computed) → c ≤ n → Within n (opened (marked n j) c (if same then None else Some c) condition)
  opened-within c false condition within = within
  opened-within c true (Ok test) within = marked-within (is_true test)
  opened-within c true (Err kind) within = tt

  narrowed-within : (s : Result ℕ FaultKind) (condition : Computed) → Within n s → Within n (narrowed (other_than n) (marked n j) s condition)
  narrowed-within (Ok c) condition within = opened-within c (c == n) condition within
  narrowed-within (Err kind) condition within = tt

tried-within : (n j : ℕ) (s : Result ℕ FaultKind) (conditions : List Computed) → j + length conditions ≤ n → Within n s → Within n (tried n j s conditions)
tried-within n j s [] long within = within
tried-within n j s (condition ∷ conditions) long within =
    tried-within n (j + 1) (narrowed (other_than n) (marked n j) s condition) conditions (omega (arith, long)) (narrowed-within n j (omega (arith, long)) s condition within)

-- ---- rows by their choices

no_row : (n j : ℕ) (rows choices : List ℕ) → All (λ c. c < n) choices → n ≤ j → open_rows (other_than j) rows choices ≡ []
no_row n j [] choices all above = refl
no_row n j (row ∷ rows) [] all above = refl
no_row n j (row ∷ rows) (c ∷ choices) all above =
    let differs : (c == j) ≡ false = grind (arith, All-head (λ c. c < n) c choices all) in
    ap (λ same. left_open row (if same then None else Some c) (open_rows (other_than j) rows choices)) differs
    ∙ no_row n j rows choices (All-tail (λ c. c < n) c choices all) above

module _ (chosen : ℕ → Expr) (batch : Batch) (rows : List ℕ) (kind : Kind) where
  abbrev values_by : ℕ → ℕ → Computed
  values_by j i = eval_at (chosen j) batch i

  columns_same : (choices : List ℕ) (columns : List (Found × Stop)) → AreChosen chosen batch rows choices kind columns → All (λ c. c < length columns) choices → (j : ℕ) → found_at columns j ≡ columns_at values_by rows choices j
  columns_same choices columns are within j = elim (cases_lt j (length columns)) [
    | inl there ↦ are.values j there
    | inr past ↦
        get_or_past (map seen columns) j (record { values = []; stop = Never }) (omega (arith, past, length-map columns seen))
        ∙ sym (ap (λ left. until (values_by j) left) (no_row (length columns) j rows choices within past))
  ]

  pub chosen-until : (f : ℕ → Result ℕ FaultKind) (whole : ℕ → Computed) (choices : List ℕ) (stop : Stop) (columns : List (Found × Stop)) → ((i : ℕ) → whole i ≡ (f i >>= (λ j. eval_at (chosen j) batch i)))
      → AreUntil f rows choices stop → AreChosen chosen batch rows choices kind columns → All (λ c. c < length columns) choices
      → scattered (found_at columns) rows choices stop ≡ until whole rows
  chosen-until f whole choices stop columns is are chosen_are within =
      scattered-pointwise (found_at columns) (columns_at values_by rows choices) (columns_same choices columns chosen_are within) rows choices stop
      ∙ sym (ap (λ (found : Until ℕ). scattered (columns_at values_by rows found.values) rows found.values found.stop) (AreUntil-whole f rows choices stop are))
      ∙ sym (until-chosen f values_by rows)
      ∙ sym (until-same whole (choosing f values_by) is rows)

-- the kinds of arms
arms_alike : {X : Type 0} (ty : Ty) (arms : List (X × Expr)) (other : Expr) → AreAs ty (map (λ arm. arm.1) arms ++ other ∷ []) → AllByRecursion (λ (arm : X × Expr). (ty_of arm.1).kind ≡ ty.kind) arms
arms_alike ty [] other are = tt
arms_alike ty (arm ∷ arms) other are = (sym are.0.kind, arms_alike ty arms other are.1)

other_alike : {X : Type 0} (ty : Ty) (arms : List (X × Expr)) (other : Expr) → AreAs ty (map (λ arm. arm.1) arms ++ other ∷ []) → (ty_of other).kind ≡ ty.kind
other_alike ty [] other are = sym are.0.kind
other_alike ty (arm ∷ arms) other are = other_alike ty arms other are.1

-- a read of a list that a function was applied to
get_or-mapped : {X Y : Type 0} (f : X → Y) (xs : List X) (i : ℕ) (d : X) → get_or (map f xs) i (f d) ≡ f (get_or xs i d)
get_or-mapped f [] i d = refl
get_or-mapped f (x ∷ xs) zero d = refl
get_or-mapped f (x ∷ xs) (suc i) d = get_or-mapped f xs i d

-- one column more
found_at-front : (columns : List (Found × Stop)) (one : Found × Stop) (j : ℕ) → j < length columns → found_at (columns ++ one ∷ []) j ≡ found_at columns j
found_at-front columns one j below =
    let none : Until Value = record { values = []; stop = Never } in
    ap (λ all. get_or all j none) (map-append seen columns (one ∷ [])) ∙ get_or_append_left (map seen columns) (seen one ∷ []) none j (omega (arith, below, length-map columns seen))

found_at-last : (columns : List (Found × Stop)) (one : Found × Stop) (j : ℕ) → j ≡ length columns → found_at (columns ++ one ∷ []) j ≡ seen one
found_at-last [] one j is = ap (found_at (one ∷ [])) is
found_at-last (column ∷ columns) one zero is = absurd (omega (arith, is))
found_at-last (column ∷ columns) one (suc j) is = found_at-last columns one j (omega (arith, is))

pub chosen-none : (chosen : ℕ → Expr) (batch : Batch) (rows choices : List ℕ) (kind : Kind) → AreChosen chosen batch rows choices kind []
chosen-none chosen batch rows choices kind = record { values = λ j below. absurd (omega (arith, below)); kinds = λ i d below. absurd (omega (arith, below)) }

pub chosen-more : (chosen : ℕ → Expr) (batch : Batch) (rows choices : List ℕ) (kind : Kind) (columns : List (Found × Stop)) (found : Found) (stop : Stop) → AreChosen chosen batch rows choices kind columns
    → IsUntil (eval_at (chosen (length columns)) batch) (open_rows (other_than (length columns)) rows choices) kind found stop → AreChosen chosen batch rows choices kind (columns ++ (found, stop) ∷ [])
chosen-more chosen batch rows choices kind columns found stop are is = record {
  values = λ j below. elim (cases_lt j (length columns)) [
    | inl early ↦ found_at-front columns (found, stop) j early ∙ are.values j early
    | inr late ↦
        let at : j ≡ length columns = omega (arith, below, late, length-append columns ((found, stop) ∷ [])) in
        found_at-last columns (found, stop) j at
        ∙ ap₂ (λ values stop. record { values = values; stop = stop }) is.values is.stop
        ∙ ap (λ k. until (eval_at (chosen k) batch) (open_rows (other_than k) rows choices)) (sym at)
  ];
  kinds = all-append (λ (column : Found × Stop). IsOfKind kind column.0) columns (found, stop) are.kinds is.kind;
}

-- ---- a conditional

-- numbers of arms from one on
are_from : (chosen : ℕ → Computed) (j : ℕ) (arms : List (Computed × Computed)) → ((m : ℕ) (d : Computed × Computed) → m < length arms → chosen (j + m) ≡ (get_or arms m d).1) → AreFrom chosen j arms
are_from chosen j [] same = tt
are_from chosen j (arm ∷ arms) same =
    let e : j + 0 ≡ j = omega arith in
    (ap chosen (sym e) ∙ same 0 arm (omega arith), are_from chosen (j + 1) arms (λ m d below. let k : j + 1 + m ≡ j + suc m = omega arith in ap chosen k ∙ same (suc m) d (omega (arith, below))))

abbrev arm_pair : Batch → ℕ → Expr × Expr → Computed × Computed
arm_pair batch i arm = (eval_at arm.0 batch i, eval_at arm.1 batch i)

abbrev arm_test : Batch → ℕ → Expr × Expr → Computed
arm_test batch i arm = eval_at arm.0 batch i

abbrev arm_expr : Expr × Expr → Expr
arm_expr arm = arm.1

abbrev first_part : Computed × Computed → Computed
first_part arm = arm.0

abbrev second_part : Computed × Computed → Computed
second_part arm = arm.1

module _ (batch : Batch) (arms : List (Expr × Expr)) (other : Expr) (ty : Ty) where
  abbrev arms_at : ℕ → List (Computed × Computed)
  arms_at i = map (arm_pair batch i) arms

  abbrev value_of : ℕ → ℕ → Computed
  value_of i j = eval_at (arm_at arms other j) batch i

  arm_value : (i m : ℕ) (d : Computed × Computed) → m < length (arms_at i) → value_of i (0 + m) ≡ (get_or (arms_at i) m d).1
  arm_value i m d below =
      let long : length (arms_at i) ≡ length arms = length-map arms (arm_pair batch i) in
      let there : m < length arms = omega (arith, below, long) in
      let e : 0 + m ≡ m = omega arith in
      let pair : Expr × Expr = (other, other) in
      ap (value_of i) e
      ∙ ap (λ one. eval_at one batch i) (get_or-map arm_expr arms m pair other there)
      ∙ sym (ap second_part (get_or-map (arm_pair batch i) arms m pair d there))

  conditions_at : (i : ℕ) → map first_part (arms_at i) ≡ tests_of batch arms i
  conditions_at i = map-map first_part (arm_pair batch i) arms

  pub if_chosen : (i : ℕ) → eval_at (e.If arms other ty) batch i ≡ (tried (length arms) 0 (Ok (length arms)) (tests_of batch arms i) >>= (λ j. eval_at (arm_at arms other j) batch i))
  if_chosen i =
      let long : length (arms_at i) ≡ length arms = length-map arms (arm_pair batch i) in
      let values_long : length (map arm_expr arms) ≡ length arms = length-map arms arm_expr in
      let past : value_of i (length arms) ≡ eval_at other batch i = ap (λ one. eval_at one batch i) (get_or_past (map arm_expr arms) (length arms) other (omega (arith, values_long))) in
      eval-If arms other ty (row_at batch i)
      ∙ sym (tried-first_true (length arms) (value_of i) (eval_at other batch i) past 0 (arms_at i) (omega (arith, long)) (are_from (value_of i) 0 (arms_at i) (arm_value i)))
      ∙ ap (λ conditions. tried (length arms) 0 (Ok (length arms)) conditions >>= value_of i) (conditions_at i)

  pub if_within : (rows : List ℕ) → All (λ c. c < length arms + 1) (until (λ i. tried (length arms) 0 (Ok (length arms)) (tests_of batch arms i)) rows).values
  if_within rows =
      until-all (λ c. c < length arms + 1) (λ row. Unit {0}) (λ i. tried (length arms) 0 (Ok (length arms)) (tests_of batch arms i)) rows
      (λ row c _ is.
      let long : length (tests_of batch arms row) ≡ length arms = length-map arms (arm_test batch row) in
      let within : Within (length arms) (tried (length arms) 0 (Ok (length arms)) (tests_of batch arms row)) = tried-within (length arms) 0 (Ok (length arms)) (tests_of batch arms row) (omega (arith, long)) (omega arith) in
      let below : c ≤ length arms = subst (Within (length arms)) is within in omega (arith, below))
      (λ i d below. tt)

-- ---- a choice among literals

module _ (batch : Batch) (subject : Expr) (arms : List (Value × Expr)) (other : Expr) (ty : Ty) where
  abbrev pub place_at : ℕ → Result ℕ FaultKind
  place_at i = eval_at subject batch i >>= (λ value. Ok (place_of value (literals arms)))

  switch_value : (i : ℕ) (found : Computed) → (found >>= (λ value. first_equal value (map (λ (arm : Value × Expr). (arm.0, eval_at arm.1 batch i)) arms) (eval_at other batch i)))
      ≡ ((found >>= (λ value. Ok (place_of value (literals arms)))) >>= (λ j. eval_at (arm_at arms other j) batch i))
  switch_value i (Err kind) = refl
  switch_value i (Ok value) =
      let at : Value × Expr → Value × Computed = λ arm. (arm.0, eval_at arm.1 batch i) in
      let e : map (λ (arm : Value × Computed). arm.1) (map at arms) ≡ map (λ one. eval_at one batch i) (map (λ (arm : Value × Expr). arm.1) arms) = map-map _ _ arms ∙ sym (map-map _ _ arms) in
      first_equal-place value (map at arms) (eval_at other batch i)
      ∙ ap₂ (λ found place. get_or found place (eval_at other batch i)) e (ap (place_of value) (map-map (λ (arm : Value × Computed). arm.0) at arms))
      ∙ get_or-mapped (λ one. eval_at one batch i) (map (λ (arm : Value × Expr). arm.1) arms) (place_of value (literals arms)) other

  pub switch_chosen : (i : ℕ) → eval_at (e.Switch subject arms other ty) batch i ≡ (place_at i >>= (λ j. eval_at (arm_at arms other j) batch i))
  switch_chosen i = eval-Switch subject arms other ty (row_at batch i) ∙ switch_value i (eval_at subject batch i)

  mapped : (found : Computed) → (found >>= (λ value. Ok (place_of value (literals arms)))) ≡ result_map (λ value. place_of value (literals arms)) found
  mapped (Ok value) = refl
  mapped (Err kind) = refl

  pub switch_places : (rows : List ℕ) (kind : Kind) (found : Found) (stop : Stop) (choices : List ℕ) → IsUntil (eval_at subject batch) rows kind found stop → choices ≡ map (λ value. place_of value (literals arms)) (found_values found)
      → AreUntil place_at rows choices stop
  switch_places rows kind found stop choices is are =
      let all = until-same place_at (λ i. result_map (λ value. place_of value (literals arms)) (eval_at subject batch i)) (λ i. mapped (eval_at subject batch i)) rows ∙ until-mapped (λ value. place_of value (literals arms)) (eval_at subject batch) rows in
      record {
        values = are ∙ ap (map (λ value. place_of value (literals arms))) is.values ∙ sym (ap (λ found. found.values) all);
        stop = is.stop ∙ sym (ap (λ found. found.stop) all);
      }

place_within : (value : Value) (all : List Value) → place_of value all ≤ length all
place_within value [] = omega arith
place_within value (literal ∷ all) = by (not (is_null value) && is_same value literal) (place_of value all) (place_within value all)
  where
    by : (is : Bool) (place : ℕ) → place ≤ length all → (if is then 0 else suc place) ≤ suc (length all)
    by true place below = omega arith
    by false place below = omega (arith, below)

pub places_within : (all : List Value) (found : List Value) → All (λ c. c < length all + 1) (map (λ value. place_of value all) found)
places_within all found i d below =
    let there : i < length found = omega (arith, below, length-map found (λ value. place_of value all)) in
    subst (λ c. c < length all + 1) (sym (get_or-map (λ value. place_of value all) found i values.Null d there)) (omega (arith, place_within (get_or found i values.Null) all))

-- ---- a value and its options

paired_values : (found answers : List Value) → length answers ≤ length found → map (λ (one : Sought). one.1) (paired found answers) ≡ answers
paired_values [] [] below = refl
paired_values [] (answer ∷ answers) below = absurd (omega (arith, below))
paired_values (value ∷ found) [] below = refl
paired_values (value ∷ found) (answer ∷ answers) below = ap (λ rest. answer ∷ rest) (paired_values found answers (omega (arith, below)))

paired_none : (found : List Value) → map (λ value. (value, values.Bool false)) found ≡ paired found (replicate (length found) (values.Bool false))
paired_none [] = refl
paired_none (value ∷ found) = ap (λ rest. (value, values.Bool false) ∷ rest) (paired_none found)

module _ (batch : Batch) (value : Expr) (rows : List ℕ) (found : Found) where
  abbrev pub AreSought : List Expr → List Value → Stop → Type 0
  AreSought done answers stop = AreUntil (λ i. looked_up (eval_at value batch i) (worth_at done batch i)) rows (paired (found_values found) answers) stop

  started : (one : Computed) → sought one ≡ result_map (λ value. (value, values.Bool false)) one
  started (Ok x) = refl
  started (Err kind) = refl

  pub sought-none : (kind : Kind) (stop : Stop) → IsUntil (eval_at value batch) rows kind found stop → AreSought [] (replicate (length (found_values found)) (values.Bool false)) stop
  sought-none kind stop is =
      let all = until-same (λ i. looked_up (eval_at value batch i) []) (λ i. result_map (λ value. (value, values.Bool false)) (eval_at value batch i)) (λ i. started (eval_at value batch i)) rows
      ∙ until-mapped (λ value. (value, values.Bool false)) (eval_at value batch) rows in
      record {
        values = sym (paired_none (found_values found)) ∙ ap (map (λ value. (value, values.Bool false))) is.values ∙ sym (ap (λ found. found.values) all);
        stop = is.stop ∙ sym (ap (λ found. found.stop) all);
      }

  pub sought-more : (done : List Expr) (option : Expr) (answers : List Value) (stop : Stop)
      → AreUntil (λ i. narrowed is_found looked (looked_up (eval_at value batch i) (worth_at done batch i)) (eval_at option batch i)) rows (paired (found_values found) answers) stop → AreSought (done ++ option ∷ []) answers stop
  sought-more done option answers stop are =
      AreUntil-same (λ i. looked_up (eval_at value batch i) (worth_at (done ++ option ∷ []) batch i)) (λ i. narrowed is_found looked (looked_up (eval_at value batch i) (worth_at done batch i)) (eval_at option batch i)) rows (paired (found_values found) answers) stop
      (λ i. ap (looked_up (eval_at value batch i)) (worth-append done option batch i) ∙ looked_up-more (eval_at value batch i) (worth_at done batch i) (eval_at option batch i)) are

  answered : (found : Result Sought FaultKind) → (found >>= (λ one. Ok one.1)) ≡ result_map (λ (one : Sought). one.1) found
  answered (Ok x) = refl
  answered (Err kind) = refl

  pub sought-end : (options : List Expr) (ty : Ty) (kind : Kind) (answers : Found) (stop : Stop) → AreSought options (found_values answers) stop → length (found_values answers) ≤ length (found_values found) → IsOfKind kind answers
      → IsUntil (eval_at (e.OneOf value options ty) batch) rows kind answers stop
  sought-end options ty kind answers stop are below of =
      let looks = λ (i : ℕ). looked_up (eval_at value batch i) (worth_at options batch i) in
      let all = until-same (eval_at (e.OneOf value options ty) batch) (λ i. result_map (λ (one : Sought). one.1) (looks i))
      (λ i. eval-OneOf value options ty (row_at batch i) ∙ sym (looked_up-one_of (eval_at value batch i) (worth_at options batch i)) ∙ answered (looks i)) rows
      ∙ until-mapped (λ (one : Sought). one.1) looks rows in
      record {
        values = sym (paired_values (found_values found) (found_values answers) below) ∙ ap (map (λ (one : Sought). one.1)) are.values ∙ sym (ap (λ found. found.values) all);
        stop = are.stop ∙ sym (ap (λ found. found.stop) all);
        kind = of;
      }

-- ---- a cast

module _ (batch : Batch) (input : Expr) (null_on_fail : Bool) (ty : Ty) (rows : List ℕ) (kind : Kind) (found : Found) (stop : Stop) (is : IsUntil (eval_at input batch) rows kind found stop) where
  abbrev cast_value : Value → Computed
  cast_value value = or_null null_on_fail (cast (ty_of input).kind ty.kind value)

  abbrev pub cast_at : ℕ → Computed
  cast_at i = cast_value (get_or (found_values found) i values.Null)

  pub cast_until : until (eval_at (e.Cast input null_on_fail ty) batch) rows ≡ (let placed = until cast_at (range_with_len 0 (length (found_values found))) in record { values = placed.values; stop = earlier (at_row rows placed.stop) stop })
  cast_until =
      let xs = found_values found in
      let below : length xs ≤ length rows = omega (arith, ap length is.values, until-length (eval_at input batch) rows) in
      let one_by_one : xs ≡ map (λ i. get_or xs i values.Null) (range_with_len 0 (length xs)) = fill_by_all (λ i. get_or xs i values.Null) xs (length xs) values.Null refl (λ i there. refl) in
      until-same (eval_at (e.Cast input null_on_fail ty) batch) (λ i. eval_at input batch i >>= cast_value) (λ i. eval-Cast input null_on_fail ty (row_at batch i)) rows
      ∙ until-placed cast_value (λ i. get_or xs i values.Null) rows stop (eval_at input batch) (length xs) (ap₂ (λ values stop. record { values = values; stop = stop }) (sym is.values ∙ one_by_one) (sym is.stop)) below

  pub cast_in_kind : IsTypedOver (types_of batch) (e.Cast input null_on_fail ty) → All (Fits (types_of batch)) (rows_of batch) → All (λ row. row < batch.rows) rows → (i : ℕ) → i < length (found_values found) → IfOk (cast_at i) (λ value. InKind ty.kind value)
  cast_in_kind typed fit exist i below =
      let xs = found_values found in
      let row = get_or rows i 0 in
      let there : i < length rows = omega (arith, below, ap length is.values, until-length (eval_at input batch) rows) in
      let one : eval_at input batch row ≡ Ok (get_or xs i values.Null) = until-get (eval_at input batch) rows i 0 values.Null (omega (arith, below, ap length is.values)) ∙ ap (λ xs. Ok (get_or xs i values.Null)) (sym is.values) in
      let whole : eval_at (e.Cast input null_on_fail ty) batch row ≡ cast_at i = eval-Cast input null_on_fail ty (row_at batch row) ∙ ap (λ found. found >>= cast_value) one in
      let same : ty ≡ ty_of (e.Cast input null_on_fail ty) = type_in (Expr-F.Cast input null_on_fail ty) (e.Cast input null_on_fail ty) (rolls-Cast input null_on_fail ty) in
      let fits : IfOk (cast_at i) (λ value. InKind (ty_of (e.Cast input null_on_fail ty)).kind value) = computed_in_kind batch (e.Cast input null_on_fail ty) row (cast_at i) typed fit (exist i 0 there) whole in
      subst (λ (one : Ty). IfOk (cast_at i) (λ value. InKind one.kind value)) (sym same) fits

-- ---- what is known of the parts' types

module _ (batch : Batch) (arms : List (Expr × Expr)) (other : Expr) (ty : Ty) (typed : IsTypedOver (types_of batch) (e.If arms other ty)) where
  if_inside : AllByRecursion (λ (arm : Expr × Expr). IsTypedOver (types_of batch) arm.0 × IsTypedOver (types_of batch) arm.1) arms × IsTypedOver (types_of batch) other
  if_inside = parts (types_of batch) (Expr-F.If arms other ty) (e.If arms other ty) (rolls-If arms other ty) typed

  pub if_conditions : All (λ (arm : Expr × Expr). IsTypedOver (types_of batch) arm.0) arms
  if_conditions i d below = (by_places (λ (arm : Expr × Expr). IsTypedOver (types_of batch) arm.0 × IsTypedOver (types_of batch) arm.1) arms if_inside.0 i d below).0

  pub if_values : All (λ (arm : Expr × Expr). IsTypedOver (types_of batch) arm.1) arms
  if_values i d below = (by_places (λ (arm : Expr × Expr). IsTypedOver (types_of batch) arm.0 × IsTypedOver (types_of batch) arm.1) arms if_inside.0 i d below).1

  pub if_other : IsTypedOver (types_of batch) other
  if_other = if_inside.1

  pub if_kinds : All (λ (arm : Expr × Expr). (ty_of arm.1).kind ≡ ty.kind) arms × ((ty_of other).kind ≡ ty.kind)
  if_kinds = let known = node (types_of batch) (Expr-F.If arms other ty) (e.If arms other ty) (rolls-If arms other ty) typed in
      (by_places (λ (arm : Expr × Expr). (ty_of arm.1).kind ≡ ty.kind) arms (arms_alike ty arms other known.2), other_alike ty arms other known.2)

  pub if_valid : IsKind ty.kind
  if_valid = subst (λ (one : Ty). IsKind one.kind) (sym (type_in (Expr-F.If arms other ty) (e.If arms other ty) (rolls-If arms other ty))) (kind_valid batch (e.If arms other ty) typed)

module _ (batch : Batch) (subject : Expr) (arms : List (Value × Expr)) (other : Expr) (ty : Ty) (typed : IsTypedOver (types_of batch) (e.Switch subject arms other ty)) where
  switch_inside : IsTypedOver (types_of batch) subject × AllByRecursion (λ (arm : Value × Expr). IsTypedOver (types_of batch) arm.1) arms × IsTypedOver (types_of batch) other
  switch_inside = parts (types_of batch) (Expr-F.Switch subject arms other ty) (e.Switch subject arms other ty) (rolls-Switch subject arms other ty) typed

  pub switch_subject : IsTypedOver (types_of batch) subject
  switch_subject = switch_inside.0

  pub switch_values : All (λ (arm : Value × Expr). IsTypedOver (types_of batch) arm.1) arms
  switch_values = by_places (λ (arm : Value × Expr). IsTypedOver (types_of batch) arm.1) arms switch_inside.1

  pub switch_other : IsTypedOver (types_of batch) other
  switch_other = switch_inside.2

  pub switch_kinds : All (λ (arm : Value × Expr). (ty_of arm.1).kind ≡ ty.kind) arms × ((ty_of other).kind ≡ ty.kind)
  switch_kinds = let known = node (types_of batch) (Expr-F.Switch subject arms other ty) (e.Switch subject arms other ty) (rolls-Switch subject arms other ty) typed in
      (by_places (λ (arm : Value × Expr). (ty_of arm.1).kind ≡ ty.kind) arms (arms_alike ty arms other known.2), other_alike ty arms other known.2)

  pub switch_valid : IsKind ty.kind
  switch_valid = subst (λ (one : Ty). IsKind one.kind) (sym (type_in (Expr-F.Switch subject arms other ty) (e.Switch subject arms other ty) (rolls-Switch subject arms other ty))) (kind_valid batch (e.Switch subject arms other ty) typed)

module _ (batch : Batch) (value : Expr) (options : List Expr) (ty : Ty) (typed : IsTypedOver (types_of batch) (e.OneOf value options ty)) where
  one_of_inside : IsTypedOver (types_of batch) value × AllByRecursion (IsTypedOver (types_of batch)) options
  one_of_inside = parts (types_of batch) (Expr-F.OneOf value options ty) (e.OneOf value options ty) (rolls-OneOf value options ty) typed

  pub one_of_value : IsTypedOver (types_of batch) value
  one_of_value = one_of_inside.0

  pub one_of_options : All (IsTypedOver (types_of batch)) options
  one_of_options = by_places (IsTypedOver (types_of batch)) options one_of_inside.1

  pub one_of_kind : ty.kind ≡ kinds.Bool
  one_of_kind = (node (types_of batch) (Expr-F.OneOf value options ty) (e.OneOf value options ty) (rolls-OneOf value options ty) typed).0

pub cast_input : (batch : Batch) (input : Expr) (null_on_fail : Bool) (ty : Ty) → IsTypedOver (types_of batch) (e.Cast input null_on_fail ty) → IsTypedOver (types_of batch) input
cast_input batch input null_on_fail ty typed = parts (types_of batch) (Expr-F.Cast input null_on_fail ty) (e.Cast input null_on_fail ty) (rolls-Cast input null_on_fail ty) typed

pub cast_valid : (batch : Batch) (input : Expr) (null_on_fail : Bool) (ty : Ty) → IsTypedOver (types_of batch) (e.Cast input null_on_fail ty) → IsKind ty.kind
cast_valid batch input null_on_fail ty typed = (node (types_of batch) (Expr-F.Cast input null_on_fail ty) (e.Cast input null_on_fail ty) (rolls-Cast input null_on_fail ty) typed).1
