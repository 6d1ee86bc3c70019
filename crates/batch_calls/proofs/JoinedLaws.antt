-- One argument more of `and` and `or`, where all rows have both.
use Rattle.std.proofs.Common.{◌≡◌, ◌∙◌, ℕ, List, [], ◌∷◌, Bool, true, false, not, ◌&&◌, ◌||◌, Option, Some, None, Result, Ok, Err, IfOk, IfSome, refl, sym, ap, ap₂, subst, if◌then◌else◌}
use Rattle.std.specs.Simd.Lanes.{zip2}
use Rattle.sub_types.specs.declared.value.Value.{Value}
use Rattle.sub_types.specs.declared.value.Value.TheVariants as values
use Rattle.plan_denote.specs.Computed.{Computed}
use Rattle.plan_denote.specs.Logic.{is_truth, three_valued}
use Rattle.kernels.specs.declared.selection.Stop.{Stop}
use Rattle.kernels.specs.declared.selection.Stop.TheVariants.{Never, At}
use Rattle.kernels.specs.Until.{Until, step, until}
use Rattle.batch.specs.ColumnValues.{values_of}
use Rattle.batch.specs.declared.column.Column.{Column}
use Rattle.batch_nodes.specs.declared.early.Early.{Early}
use Rattle.batch_nodes.specs.declared.early.Early.TheVariants.{Truth}
use Rattle.batch_nodes.specs.Early.{merges, one_more}
use Rattle.batch_nodes.specs.Narrowed.{opened}
use Rattle.batch_nodes.specs.Parts.{AreUntil}
use Rattle.batch_nodes.proofs.StepLaws.{AreUntil-whole}

module _ (end : Bool) where
  abbrev both : List Value → List Value → Until Value
  both xs ys = record { values = zip2 (three_valued end) xs ys; stop = Never }

  abbrev known : List Value → Until Value
  known xs = record { values = xs; stop = Never }

  one_row : (x y : Value) → one_more (Truth end) (Ok x) (Ok y) ≡ Ok (three_valued end x y)
  one_row x y = by (is_truth end x) refl
    where
      by : (test : Bool) → is_truth end x ≡ test → opened (merges (Truth end)) x (if test then Some (values.Bool end) else None) (Ok y) ≡ Ok (three_valued end x y)
      by true is = ap (λ one. Ok (if one || is_truth end y then values.Bool end else if is_truth (not end) x && is_truth (not end) y then values.Bool (not end) else values.Null)) (sym is)
      by false is = refl

  next_row : (row : ℕ) (r s : Computed) (xs ys : List Value) (g h whole : Until Value) → ((firsts others : List Value) → g ≡ known firsts → h ≡ known others → whole ≡ both firsts others)
      → step row r g ≡ known xs → step row s h ≡ known ys → step row (one_more (Truth end) r s) whole ≡ both xs ys
  next_row row (Ok x) (Ok y) xs ys g h whole law gs hs =
      let g_is : g ≡ known g.values = ap (λ stop. record { values = g.values; stop = stop }) (ap (λ (one : Until Value). one.stop) gs) in
      let h_is : h ≡ known h.values = ap (λ stop. record { values = h.values; stop = stop }) (ap (λ (one : Until Value). one.stop) hs) in
      ap (λ one. step row one whole) (one_row x y)
      ∙ ap (step row (Ok (three_valued end x y))) (law g.values h.values g_is h_is)
      ∙ ap₂ both (ap (λ (one : Until Value). one.values) gs) (ap (λ (one : Until Value). one.values) hs)
  next_row row (Ok x) (Err kind) xs ys g h whole law gs hs = let e : At row kind ≡ Never = ap (λ (one : Until Value). one.stop) hs in absurd (cc)
  next_row row (Err kind) s xs ys g h whole law gs hs = let e : At row kind ≡ Never = ap (λ (one : Until Value). one.stop) gs in absurd (cc)

  module _ (g h : ℕ → Computed) where
    both_rows : (rows : List ℕ) (xs ys : List Value) → until g rows ≡ known xs → until h rows ≡ known ys → until (λ i. one_more (Truth end) (g i) (h i)) rows ≡ both xs ys
    both_rows [] xs ys gs hs = ap₂ both (ap (λ (one : Until Value). one.values) gs) (ap (λ (one : Until Value). one.values) hs)
    both_rows (row ∷ rows) xs ys gs hs =
        next_row row (g row) (h row) xs ys (until g rows) (until h rows) (until (λ i. one_more (Truth end) (g i) (h i)) rows) (λ firsts others. both_rows rows firsts others) gs hs

    pub both_until : (rows : List ℕ) (xs ys out : List Value) (stop other : Stop) → stop ≡ Never → other ≡ Never → out ≡ zip2 (three_valued end) xs ys → AreUntil g rows xs stop → AreUntil h rows ys other
        → AreUntil (λ i. one_more (Truth end) (g i) (h i)) rows out Never
    both_until rows xs ys out stop other none no_other out_is first rest =
        let whole = both_rows rows xs ys (AreUntil-whole g rows xs stop first ∙ ap (λ stop. record { values = xs; stop = stop }) none) (AreUntil-whole h rows ys other rest ∙ ap (λ stop. record { values = ys; stop = stop }) no_other) in
        record { values = out_is ∙ sym (ap (λ (one : Until Value). one.values) whole); stop = sym (ap (λ (one : Until Value). one.stop) whole) }

  -- the same of what may not be put together
  pub both_known : {E : Type 0} (r : Result (Option Column) E) (early : Early) (xs ys : List Value) (stop other_stop : Stop) → early ≡ Truth end → stop ≡ Never → other_stop ≡ Never
      → IfOk r (λ found. IfSome found (λ column. values_of column.values ≡ zip2 (three_valued end) xs ys))
      → IfOk r (λ found. IfSome found (λ column. (rows : List ℕ) (so_far other : ℕ → Computed) → AreUntil so_far rows xs stop → AreUntil other rows ys other_stop
      → AreUntil (λ i. one_more early (so_far i) (other i)) rows (values_of column.values) Never))
  both_known (Ok (Some column)) early xs ys stop other_stop is none no_other out_is = λ rows so_far other first rest.
      subst (λ early. AreUntil (λ i. one_more early (so_far i) (other i)) rows (values_of column.values) Never) (sym is)
      (both_until so_far other rows xs ys (values_of column.values) stop other_stop none no_other out_is first rest)
  both_known (Ok None) early xs ys stop other_stop is none no_other out_is = tt
  both_known (Err fault) early xs ys stop other_stop is none no_other out_is = tt
