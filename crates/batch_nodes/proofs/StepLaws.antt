-- One part more, at the rows that those before it leave open.
use Rattle.std.proofs.Common.{inl, inr, ◌≡◌, ◌∙◌, ℕ, zero, suc, ◌+◌, ◌-◌, Option, ◌<◌, ◌≤◌, List, [], ◌∷◌, ◌++◌, length, map, take, get_or, replicate, Result, Ok, Err, refl, sym, ap, ap₂, subst, arith, min}
use Rattle.std.specs.List.{All, range_with_len}
use Rattle.std.proofs.lemmas.List.{length-replicate, get_or-replicate, map-append, length-append, length-take, get_or_append_left, get_or-append_right}
use Rattle.std.proofs.lemmas.Bool.{cases_lt}
use Rattle.std.proofs.lemmas.List.FromFn.{fill_by_all, length-map-range_with_len, get_or-map-range_with_len}
use Rattle.std.proofs.lemmas.List.Elements.{All-take}
use Rattle.sub_types.specs.Rows.{across, transpose}
use Rattle.sub_types.specs.ResultSteps.{◌>>=◌, collect}
use Rattle.sub_types.specs.Value.{InKind}
use Rattle.sub_types.specs.declared.fault.FaultKind.{FaultKind}
use Rattle.sub_types.specs.declared.kind.Kind.{Kind}
use Rattle.sub_types.specs.declared.value.Value.{Value}
use Rattle.sub_types.specs.declared.value.Value.TheVariants as values
use Rattle.plan_typed.specs.declared.expr.Expr.{Expr}
use Rattle.plan_denote.specs.Computed.{Computed}
use Rattle.batch.specs.declared.batch.Batch.{Batch}
use Rattle.kernels.specs.declared.selection.Stop.{Stop}
use Rattle.kernels.specs.declared.selection.Stop.TheVariants.{Never, At}
use Rattle.kernels.specs.Until.{Until, step, until}
use Rattle.kernels.proofs.UntilLaws.{until-same, until-mapped, result_map}
use Rattle.batch_nodes.specs.declared.early.Early.{Early}
use Rattle.batch_nodes.specs.declared.found.Found.{Found}
use Rattle.batch_nodes.specs.Chosen.{other_than, marked, tried, scattered}
use Rattle.batch_nodes.specs.Early.{ends_early, settles, merges, nothing, one_more, so_far}
use Rattle.batch_nodes.specs.Evaluated.{eval_at, worth_at, first_rows}
use Rattle.batch_nodes.specs.Found.{found_values, found_at, IsUntil, IsOfKind}
use Rattle.batch_nodes.specs.Narrowed.{narrowed, open_rows, joined}
use Rattle.batch_nodes.specs.Options.{Sought, is_found, looked, sought, looked_up, paired}
use Rattle.batch_nodes.specs.Parts.{AreUntil, AreColumns, AreChosen}
use Rattle.batch_nodes.specs.Strict.{earlier, behind, lengthened, at_row}
use Rattle.batch_nodes.proofs.ChosenLaws.{tried-append, until-chosen, columns_at, scattered-pointwise, choosing}
use Rattle.batch_nodes.proofs.FoldLaws.{so_far-ends, so_far-more}
use Rattle.batch_nodes.proofs.NarrowLaws.{until-narrowed}
use Rattle.batch_nodes.proofs.OptionLaws.{looked_up-more, looked_up-one_of}
use Rattle.batch_nodes.proofs.StrictLaws.{until-length, until-get, until-behind, collect-append, transpose-behind, until-placed}
use Rattle.batch_nodes.proofs.UntilLaws.{until-constant}

-- what has the same results
pub AreUntil-same : {X : Type 0} (f g : ℕ → Result X FaultKind) (rows : List ℕ) (values : List X) (stop : Stop) → ((i : ℕ) → f i ≡ g i) → AreUntil g rows values stop → AreUntil f rows values stop
AreUntil-same f g rows values stop same are =
    let e = until-same f g same rows in
    record { values = are.values ∙ sym (ap (λ found. found.values) e); stop = are.stop ∙ sym (ap (λ found. found.stop) e) }

pub IsUntil-same : (f g : ℕ → Computed) (rows : List ℕ) (kind : Kind) (found : Found) (stop : Stop) → ((i : ℕ) → f i ≡ g i) → IsUntil g rows kind found stop → IsUntil f rows kind found stop
IsUntil-same f g rows kind found stop same is =
    let e = until-same f g same rows in
    record { values = is.values ∙ sym (ap (λ found. found.values) e); stop = is.stop ∙ sym (ap (λ found. found.stop) e); kind = is.kind }

pub AreUntil-whole : {X : Type 0} (f : ℕ → Result X FaultKind) (rows : List ℕ) (values : List X) (stop : Stop) → AreUntil f rows values stop → until f rows ≡ record { values = values; stop = stop }
AreUntil-whole f rows values stop are = ap₂ (λ values stop. record { values = values; stop = stop }) (sym are.values) (sym are.stop)

pub AreUntil-length : {X : Type 0} (f : ℕ → Result X FaultKind) (rows : List ℕ) (values : List X) (stop : Stop) → AreUntil f rows values stop → length values ≤ length rows
AreUntil-length f rows values stop are = subst (λ (values : List _). length values ≤ length rows) (sym are.values) (until-length f rows)

-- the next operand, at the rows that the values so far leave open
pub narrowed-step : {X Y Z : Type 0} (settle : X → Option Y) (merge : X → Z → Result Y FaultKind) (g : ℕ → Result X FaultKind) (h : ℕ → Result Z FaultKind) (rows left : List ℕ) (values : List X) (stop : Stop) (others : List Z) (other_stop : Stop) (out : List Y) (out_stop : Stop)
    → AreUntil g rows values stop → left ≡ open_rows settle rows values → others ≡ (until h left).values → other_stop ≡ (until h left).stop
    → out ≡ (joined settle merge rows values stop others other_stop).values → out_stop ≡ (joined settle merge rows values stop others other_stop).stop
    → AreUntil (λ i. narrowed settle merge (g i) (h i)) rows out out_stop
narrowed-step settle merge g h rows left values stop others other_stop out out_stop are left_is values_are stop_is out_is out_stop_is =
    let law = until-narrowed settle merge g h rows in
    let whole = AreUntil-whole g rows values stop are in
    let second = until h (open_rows settle rows values) in
    let same : joined settle merge rows values stop others other_stop ≡ until (λ i. narrowed settle merge (g i) (h i)) rows =
    ap₂ (joined settle merge rows values stop) (values_are ∙ ap (λ left. (until h left).values) left_is) (stop_is ∙ ap (λ left. (until h left).stop) left_is)
    ∙ sym (law ∙ ap (λ first. let others = until h (open_rows settle rows first.values) in joined settle merge rows first.values first.stop others.values others.stop) whole) in
    record { values = out_is ∙ ap (λ found. found.values) same; stop = out_stop_is ∙ ap (λ found. found.stop) same }

-- ---- calls that end early

pub worth-append : (done : List Expr) (arg : Expr) (batch : Batch) (i : ℕ) → worth_at (done ++ arg ∷ []) batch i ≡ worth_at done batch i ++ eval_at arg batch i ∷ []
worth-append done arg batch i = map-append (λ expr. eval_at expr batch i) done (arg ∷ [])

module _ (early : Early) (batch : Batch) (rows : List ℕ) where
  abbrev pub IsEarlySoFar : List Expr → List Value → Stop → Type 0
  IsEarlySoFar done values stop = AreUntil (λ i. so_far early (worth_at done batch i)) rows values stop

  pub early-none : IsEarlySoFar [] (replicate (length rows) (nothing early)) Never
  early-none =
      let all = until-constant (λ i. so_far early (worth_at [] batch i)) (nothing early) (λ i. refl) rows in
      record { values = sym (ap (λ found. found.values) all); stop = sym (ap (λ found. found.stop) all) }

  pub early-more : (done : List Expr) (arg : Expr) (values : List Value) (stop : Stop) → AreUntil (λ i. one_more early (so_far early (worth_at done batch i)) (eval_at arg batch i)) rows values stop → IsEarlySoFar (done ++ arg ∷ []) values stop
  early-more done arg values stop are =
      AreUntil-same (λ i. so_far early (worth_at (done ++ arg ∷ []) batch i)) (λ i. one_more early (so_far early (worth_at done batch i)) (eval_at arg batch i)) rows values stop
      (λ i. ap (so_far early) (worth-append done arg batch i) ∙ so_far-more early (worth_at done batch i) (eval_at arg batch i)) are

  pub early-end : (args : List Expr) (kind : Kind) (found : Found) (stop : Stop) → IsEarlySoFar args (found_values found) stop → IsOfKind kind found → IsUntil (λ i. ends_early early (worth_at args batch i)) rows kind found stop
  early-end args kind found stop are of =
      let e = until-same (λ i. ends_early early (worth_at args batch i)) (λ i. so_far early (worth_at args batch i)) (λ i. sym (so_far-ends early (worth_at args batch i))) rows in
      record { values = are.values ∙ sym (ap (λ found. found.values) e); stop = are.stop ∙ sym (ap (λ found. found.stop) e); kind = of }

-- ---- arguments that are all evaluated

pub all-append : {X : Type 0} (P : X → Type 0) (xs : List X) (x : X) → All P xs → P x → All P (xs ++ x ∷ [])
all-append P xs x all one i d below = elim (cases_lt i (length xs)) [
  | inl early ↦ subst P (sym (get_or_append_left xs (x ∷ []) d i early)) (all i d early)
  | inr late ↦
      let at : i ≡ length xs = omega (arith, below, length-append xs (x ∷ []), late) in
      subst P (sym (last i at)) one
]
  where
    last : (i : ℕ) → i ≡ length xs → get_or (xs ++ x ∷ []) i d ≡ x
    last i at = ap (λ k. get_or (xs ++ x ∷ []) k d) at ∙ get_or-append_right xs (x ∷ []) (length xs) (length xs) d refl (omega arith) ∙ ap (λ k. get_or (x ∷ []) k d) (none (length xs))
      where
        none : (n : ℕ) → n - n ≡ 0
        none n = omega arith

module _ (batch : Batch) (rows : List ℕ) where
  pub columns-none : AreColumns [] batch rows [] (length rows) Never
  columns-none =
      let all = until-constant (λ i. collect (worth_at [] batch i)) [] (λ i. refl) rows in
      record {
        rows = all ∙ ap (λ values. record { values = values; stop = Never }) (fill_by_all (across values.Null []) (replicate (length rows) []) (length rows) [] (length-replicate (length rows) []) (λ i below. get_or-replicate (length rows) i [] [] below));
        long = λ i d below. absurd (omega (arith, below));
        short = omega arith;
      }

  pub columns-more : (done : List Expr) (found : List Found) (len : ℕ) (stop : Stop) (arg : Expr) (kind : Kind) (column : Found) (its_stop : Stop) → AreColumns done batch rows found len stop
      → IsUntil (eval_at arg batch) (take len rows) kind column its_stop → AreColumns (done ++ arg ∷ []) batch rows (found ++ column ∷ []) (length (found_values column)) (earlier its_stop stop)
  columns-more done found len stop arg kind column its_stop are is =
      let f = λ (i : ℕ). collect (worth_at done batch i) in
      let g = λ (i : ℕ). eval_at arg batch i in
      let xs = found_values column in
      let long : length (first_rows len found) ≡ len = length-map-range_with_len (across values.Null (map found_values found)) 0 len in
      let rows_long : length (until f rows).values ≡ len = ap (λ (one : Until (List Value)). length one.values) are.rows ∙ long in
      let below : length xs ≤ len = omega (arith, ap length is.values, until-length g (take len rows), length-take len rows) in
      let second : until g (take (length (until f rows).values) rows) ≡ record { values = xs; stop = its_stop } =
      ap (λ n. until g (take n rows)) rows_long ∙ ap₂ (λ values stop. record { values = values; stop = stop }) (sym is.values) (sym is.stop) in
      let both : until (λ i. collect (worth_at (done ++ arg ∷ []) batch i)) rows ≡ record { values = lengthened (first_rows len found) xs; stop = earlier its_stop stop } =
      until-same (λ i. collect (worth_at (done ++ arg ∷ []) batch i)) (λ i. behind (f i) (g i)) (λ i. ap collect (worth-append done arg batch i) ∙ collect-append (worth_at done batch i) (eval_at arg batch i)) rows
      ∙ until-behind f g rows
      ∙ ap₂ (λ (first : Until (List Value)) (second : Until Value). record { values = lengthened first.values second.values; stop = earlier second.stop first.stop }) are.rows second in
      record {
        rows = both ∙ ap (λ values. record { values = values; stop = earlier its_stop stop }) (transpose-behind values.Null len (map found_values found) xs below ∙ ap (λ columns. transpose values.Null (length xs) columns) (sym (map-append found_values found (column ∷ []))));
        long = all-append (λ one. length xs ≤ length (found_values one)) found column (λ i d there. omega (arith, are.long i d there, below)) (omega arith);
        short = omega (arith, below, are.short);
      }
