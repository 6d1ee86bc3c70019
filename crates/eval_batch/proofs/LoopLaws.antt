-- One turn of each loop over the parts of an expression, and its end.
use Rattle.std.proofs.Common.{◌≡◌, ◌∙◌, ℕ, ◌+◌, ◌<◌, ◌≤◌, List, [], ◌∷◌, ◌++◌, length, map, take, get_or, zero, suc, Option, Some, None, Result, Ok, Err, IfOk, IfSome, sym, ap, subst, arith}
use Rattle.std.proofs.lemmas.List.{take_more, take_all, get_or-map, get_or_past, length-map, length-take}
use Rattle.std.specs.List.{All}
use Rattle.std.proofs.lemmas.List.Elements.{All-head, All-tail}
use Rattle.sub_types.specs.Value.{InKind}
use Rattle.sub_types.specs.declared.fault.FaultKind.{FaultKind}
use Rattle.sub_types.specs.declared.kind.Kind.{Kind}
use Rattle.sub_types.specs.declared.kind.Ty.{Ty}
use Rattle.sub_types.specs.declared.value.Value.{Value}
use Rattle.sub_types.specs.declared.value.Value.TheVariants as values
use Rattle.plan_typed.specs.declared.expr.Expr.{Expr}
use Rattle.plan_typed.specs.declared.expr.Expr.TheVariants as e
use Rattle.plan_typed.specs.declared.expr.Func.{Func}
use Rattle.plan_typed.specs.declared.expr.Overflow.{Overflow}
use Rattle.plan_typed.specs.Types.{ty_of}
use Rattle.well_typed.specs.ExprTyped.{IsTypedOver}
use Rattle.batch.specs.BatchRows.{types_of}
use Rattle.batch.specs.declared.batch.Batch.{Batch}
use Rattle.kernels.specs.declared.selection.Stop.{Stop}
use Rattle.kernels.specs.declared.selection.Stop.TheVariants.{Never}
use Rattle.batch.specs.ColumnValues.{values_of}
use Rattle.batch.specs.declared.column.Column.{Column}
use Rattle.plan_denote.specs.Computed.{Computed}
use Rattle.kernels.specs.Until.{until}
use Rattle.batch_nodes.specs.Chosen.{other_than, marked, tried}
use Rattle.batch_nodes.specs.Early as early_spec
use Rattle.batch_nodes.specs.Evaluated.{eval_at, worth_at}
use Rattle.batch_nodes.specs.Found.{IsUntil, found_values}
use Rattle.batch_nodes.specs.Narrowed.{narrowed, joined, left_open, open_rows}
use Rattle.batch_nodes.specs.Options.{is_found, looked, looked_up, paired}
use Rattle.batch_nodes.specs.Parts.{AreColumns, AreUntil, AreChosen, arm_at}
use Rattle.batch_nodes.specs.Strict.{earlier}
use Rattle.batch_nodes.specs.declared.early.Early.{Early}
use Rattle.batch_nodes.specs.declared.early.Early.TheVariants.{Truth, NotNull}
use Rattle.batch_nodes.specs.declared.found.Found.{Found}
use Rattle.batch_nodes.proofs.CallLaws.{call_type}
use Rattle.batch_nodes.proofs.NodeUntil.{AreTried, tried-more, chosen-more, AreSought, sought-more}
use Rattle.batch_nodes.proofs.StrictLaws.{until-length}
use Rattle.batch_nodes.proofs.StepLaws.{IsEarlySoFar, early-more, columns-more, narrowed-step, IsUntil-same}

-- one element more
taken : {X : Type 0} (xs : List X) (i : ℕ) (x : X) → i < length xs → x ≡ get_or xs i x → take (i + 1) xs ≡ take i xs ++ x ∷ []
taken xs i x there is = take_more xs i x there ∙ ap (λ one. take i xs ++ one ∷ []) (sym is)

pub all_taken : {X : Type 0} (xs : List X) (i : ℕ) → length xs ≤ i → take i xs ≡ xs
all_taken xs i end = take_all i xs end

-- what holds of each holds of the one at a place
pub holds_at : {X : Type 0} (P : X → Type 0) (xs : List X) (i : ℕ) (x : X) → All P xs → i < length xs → x ≡ get_or xs i x → P x
holds_at P xs i x all there is = subst P (sym is) (all i x there)

-- ---- the rows that are left open are some of the rows

all_cons : {X : Type 0} (P : X → Type 0) (x : X) (xs : List X) → P x → All P xs → All P (x ∷ xs)
all_cons P x xs holds all zero d below = holds
all_cons P x xs holds all (suc i) d below = all i d (omega (arith, below))

pub open_all : {X Y : Type 0} (P : ℕ → Type 0) (settle : X → Option Y) (rows : List ℕ) (values : List X) → All P rows → All P (open_rows settle rows values)
open_all P settle [] values all = λ i d below. absurd (omega (arith, below))
open_all P settle (row ∷ rows) [] all = λ i d below. absurd (omega (arith, below))
open_all {Y = Y} P settle (row ∷ rows) (x ∷ values) all = by (settle x) (open_all P settle rows values (All-tail P row rows all))
  where
    by : (s : Option Y) → All P (open_rows settle rows values) → All P (left_open row s (open_rows settle rows values))
    by (Some y) rest = rest
    by None rest = all_cons P row (open_rows settle rows values) (All-head P row rows all) rest

-- the next operand, at the rows that the values so far leave open
pub narrowed_result : {X Y Z V E : Type 0} (settle : X → Option Y) (merge : X → Z → Result Y FaultKind) (h : ℕ → Result Z FaultKind) (rows left : List ℕ) (values : List X) (stop : Stop) (others : List Z) (other_stop : Stop)
    (out_of : V → List Y) (result : Result (V × Stop) E)
    → left ≡ open_rows settle rows values → others ≡ (until h left).values → other_stop ≡ (until h left).stop
    → IfOk result (λ out. out_of out.0 ≡ (joined settle merge rows values stop others other_stop).values)
    → IfOk result (λ out. out.1 ≡ (joined settle merge rows values stop others other_stop).stop)
    → IfOk result (λ out. (so_far : ℕ → Result X FaultKind) → AreUntil so_far rows values stop → AreUntil (λ i. narrowed settle merge (so_far i) (h i)) rows (out_of out.0) out.1)
narrowed_result settle merge h rows left values stop others other_stop out_of (Ok out) left_is others_are other_stop_is values_are stop_is = λ so_far are.
    narrowed-step settle merge so_far h rows left values stop others other_stop (out_of out.0) out.1 are left_is others_are other_stop_is values_are stop_is
narrowed_result settle merge h rows left values stop others other_stop out_of (Err error) left_is others_are other_stop_is values_are stop_is = tt

-- ---- calls that end early

pub nothing_in_kind : (early : Early) (kind : Kind) → early_spec.IsOfKind early kind → InKind kind (early_spec.nothing early)
nothing_in_kind (Truth end) kind of = subst (λ kind. InKind kind (early_spec.nothing (Truth end))) (sym of) tt
nothing_in_kind NotNull kind of = null_in_kind kind
  where
    null_in_kind : (kind : Kind) → InKind kind values.Null
    null_in_kind kind = tt

pub early_turn : (early : Early) (batch : Batch) (rows : List ℕ) (args : List Expr) (n : ℕ) (arg : Expr) (values : List Value) (stop : Stop) → n < length args → arg ≡ get_or args n arg
    → AreUntil (λ i. early_spec.one_more early (early_spec.so_far early (worth_at (take n args) batch i)) (eval_at arg batch i)) rows values stop
    → IsEarlySoFar early batch rows (take (n + 1) args) values stop
early_turn early batch rows args n arg values stop there is are =
    subst (λ (done : List Expr). IsEarlySoFar early batch rows done values stop) (sym (taken args n arg there is)) (early-more early batch rows (take n args) arg values stop are)

-- a call that ends early, by its arguments
pub early_call : (batch : Batch) (func : Func) (mode : Overflow) (args : List Expr) (ty : Ty) → IsTypedOver (types_of batch) (e.Call func mode args ty) → (early : Early) (rows : List ℕ)
    → ((i : ℕ) → eval_at (e.Call func mode args ty) batch i ≡ early_spec.ends_early early (worth_at args batch i)) → (found : Found) (stop : Stop)
    → IsUntil (λ i. early_spec.ends_early early (worth_at args batch i)) rows ty.kind found stop
    → IsUntil (eval_at (e.Call func mode args ty) batch) rows (ty_of (e.Call func mode args ty)).kind found stop
early_call batch func mode args ty typed early rows same found stop is =
    subst (λ (one : Ty). IsUntil (eval_at (e.Call func mode args ty) batch) rows one.kind found stop) (call_type batch func mode args ty typed)
    (IsUntil-same (eval_at (e.Call func mode args ty) batch) (λ i. early_spec.ends_early early (worth_at args batch i)) rows ty.kind found stop same is)

pub early_called : (batch : Batch) (func : Func) (mode : Overflow) (args : List Expr) (ty : Ty) → IsTypedOver (types_of batch) (e.Call func mode args ty) → (early : Early) (rows : List ℕ)
    → ((i : ℕ) → eval_at (e.Call func mode args ty) batch i ≡ early_spec.ends_early early (worth_at args batch i)) → {E : Type 0} → (result : Result (Found × Stop) E)
    → IfOk result (λ out. IsUntil (λ i. early_spec.ends_early early (worth_at args batch i)) rows ty.kind out.0 out.1)
    → IfOk result (λ out. IsUntil (eval_at (e.Call func mode args ty) batch) rows (ty_of (e.Call func mode args ty)).kind out.0 out.1)
early_called batch func mode args ty typed early rows same (Ok out) is = early_call batch func mode args ty typed early rows same out.0 out.1 is
early_called batch func mode args ty typed early rows same (Err error) is = tt

-- ---- arguments that are all evaluated

pub columns_turn : (batch : Batch) (rows : List ℕ) (args : List Expr) (n : ℕ) (arg : Expr) (found : List Found) (len : ℕ) (stop : Stop) (column : Found) (its_stop : Stop) (open_are : List ℕ) (all : List Found) (count : ℕ) (out : Stop)
    → n < length args → arg ≡ get_or args n arg → AreColumns (take n args) batch rows found len stop → open_are ≡ take len rows → IsUntil (eval_at arg batch) open_are (ty_of arg).kind column its_stop
    → all ≡ found ++ column ∷ [] → count ≡ length (found_values column) → out ≡ earlier its_stop stop → AreColumns (take (n + 1) args) batch rows all count out
columns_turn batch rows args n arg found len stop column its_stop open_are all count out there is are open_is one all_is count_is out_is =
    let whole : AreColumns (take (n + 1) args) batch rows (found ++ column ∷ []) (length (found_values column)) (earlier its_stop stop) =
    subst (λ (done : List Expr). AreColumns done batch rows (found ++ column ∷ []) (length (found_values column)) (earlier its_stop stop)) (sym (taken args n arg there is))
    (columns-more batch rows (take n args) found len stop arg (ty_of arg).kind column its_stop are (subst (λ left. IsUntil (eval_at arg batch) left (ty_of arg).kind column its_stop) open_is one)) in
    subst (λ all. AreColumns (take (n + 1) args) batch rows all count out) (sym all_is)
    (subst (λ count. AreColumns (take (n + 1) args) batch rows (found ++ column ∷ []) count out) (sym count_is)
    (subst (λ out. AreColumns (take (n + 1) args) batch rows (found ++ column ∷ []) (length (found_values column)) out) (sym out_is) whole))

-- ---- conditions one after the other

pub tried_turn : {X : Type 0} (batch : Batch) (rows : List ℕ) (arms : List (Expr × X)) (n number : ℕ) (arm : Expr × X) (choices : List ℕ) (stop : Stop) → n < length arms → arm ≡ get_or arms n arm → number ≡ n
    → AreUntil (λ i. narrowed (other_than (length arms)) (marked (length arms) number) (tried (length arms) 0 (Ok (length arms)) (map (λ (one : Expr × X). eval_at one.0 batch i) (take n arms))) (eval_at arm.0 batch i)) rows choices stop
    → AreTried (length arms) batch rows (take (n + 1) arms) choices stop
tried_turn {X = X} batch rows arms n number arm choices stop there is same are =
    subst (λ (done : List (Expr × X)). AreTried (length arms) batch rows done choices stop) (sym (taken arms n arm there is))
    (tried-more (length arms) batch rows (take n arms) arm number choices stop (omega (arith, same, there, length-take n arms)) are)

-- ---- rows by their choices

module _ {X : Type 0} (arms : List (X × Expr)) (other : Expr) (batch : Batch) (rows choices : List ℕ) (kind : Kind) (columns : List (Found × Stop)) (one : Found × Stop) where
  abbrev chosen : ℕ → Expr
  chosen = arm_at arms other

  at_number : (number : ℕ) (expr : Expr) → number ≡ length columns → chosen number ≡ expr → (ty_of expr).kind ≡ kind → AreChosen chosen batch rows choices kind columns
      → IsUntil (eval_at expr batch) (open_rows (other_than number) rows choices) (ty_of expr).kind one.0 one.1 → AreChosen chosen batch rows choices kind (columns ++ one ∷ [])
  at_number number expr at is kind_is are found =
      chosen-more chosen batch rows choices kind columns one.0 one.1 are
      (subst (λ k. IsUntil (eval_at (chosen k) batch) (open_rows (other_than k) rows choices) kind one.0 one.1) at
      (subst (λ (expr : Expr). IsUntil (eval_at expr batch) (open_rows (other_than number) rows choices) kind one.0 one.1) (sym is)
      (subst (λ of. IsUntil (eval_at expr batch) (open_rows (other_than number) rows choices) of one.0 one.1) kind_is found)))

  pub chosen_turn : (n number : ℕ) (arm : X × Expr) → n < length arms → arm ≡ get_or arms n arm → length columns ≡ n → number ≡ length columns → (ty_of arm.1).kind ≡ kind → AreChosen (arm_at arms other) batch rows choices kind columns
      → IsUntil (eval_at arm.1 batch) (open_rows (other_than number) rows choices) (ty_of arm.1).kind one.0 one.1 → AreChosen (arm_at arms other) batch rows choices kind (columns ++ one ∷ [])
  chosen_turn n number arm there is count at kind_is are found =
      at_number number arm.1 at (ap chosen (at ∙ count) ∙ get_or-map (λ (arm : X × Expr). arm.1) arms n arm other there ∙ ap (λ (arm : X × Expr). arm.1) (sym is)) kind_is are found

  pub chosen_end : (number : ℕ) → length columns ≡ length arms → number ≡ length columns → (ty_of other).kind ≡ kind → AreChosen (arm_at arms other) batch rows choices kind columns
      → IsUntil (eval_at other batch) (open_rows (other_than number) rows choices) (ty_of other).kind one.0 one.1 → AreChosen (arm_at arms other) batch rows choices kind (columns ++ one ∷ [])
  chosen_end number count at kind_is are found =
      at_number number other at (get_or_past (map (λ (arm : X × Expr). arm.1) arms) number other (omega (arith, at, count, length-map arms (λ (arm : X × Expr). arm.1)))) kind_is are found

-- ---- a value and its options

pub sought_turn : (batch : Batch) (value : Expr) (rows : List ℕ) (found : Found) (options : List Expr) (n : ℕ) (option : Expr) (answers : List Value) (stop : Stop) → n < length options → option ≡ get_or options n option
    → AreUntil (λ i. narrowed is_found looked (looked_up (eval_at value batch i) (worth_at (take n options) batch i)) (eval_at option batch i)) rows (paired (found_values found) answers) stop
    → AreSought batch value rows found (take (n + 1) options) answers stop
sought_turn batch value rows found options n option answers stop there is are =
    subst (λ (done : List Expr). AreSought batch value rows found done answers stop) (sym (taken options n option there is)) (sought-more batch value rows found (take n options) option answers stop are)

pub found_short : (expr : Expr) (batch : Batch) (rows : List ℕ) (kind : Kind) (found : Found) (stop : Stop) → IsUntil (eval_at expr batch) rows kind found stop → length (found_values found) ≤ length rows
found_short expr batch rows kind found stop is = omega (arith, ap length is.values, until-length (eval_at expr batch) rows)

-- one argument more of whole columns, which are those of this expression
pub joined_whole : {E : Type 0} (r : Result (Option Column) E) (early : Early) (rows : List ℕ) (firsts : List Value) (stop : Stop) (all : Found) (all_stop : Stop) (f : ℕ → Computed)
    → found_values all ≡ (until f rows).values → all_stop ≡ (until f rows).stop
    → IfOk r (λ found. IfSome found (λ column. (rows : List ℕ) (so_far other : ℕ → Computed) → AreUntil so_far rows firsts stop → AreUntil other rows (found_values all) all_stop
    → AreUntil (λ i. early_spec.one_more early (so_far i) (other i)) rows (values_of column.values) Never))
    → IfOk r (λ found. IfSome found (λ column. (so_far : ℕ → Computed) → AreUntil so_far rows firsts stop → AreUntil (λ i. early_spec.one_more early (so_far i) (f i)) rows (values_of column.values) Never))
joined_whole (Ok (Some column)) early rows firsts stop all all_stop f values_are stop_is law = λ so_far first. law rows so_far f first (record { values = values_are; stop = stop_is })
joined_whole (Ok None) early rows firsts stop all all_stop f values_are stop_is law = tt
joined_whole (Err fault) early rows firsts stop all all_stop f values_are stop_is law = tt
