-- `between` of two constants, as the two comparisons that both hold.
use Rattle.std.proofs.Common.{◌≡◌, ◌∙◌, ℕ, List, [], ◌∷◌, length, map, replicate, Bool, false, not, ◌&&◌, Option, Ok, refl, sym, ap, ap₂}
use Rattle.std.specs.Simd.Lanes.{zip2}
use Rattle.std.proofs.lemmas.Simd.{zip2_splat}
use Rattle.std.specs.Ordering.{is_lt, is_gt}
use Rattle.std.specs.declared.cmp.Ordering.{Ordering}
use Rattle.std.specs.declared.cmp.Ordering.TheVariants.{Less, Equal, Greater}
use Rattle.sub_types.specs.Nullable.{bool_value}
use Rattle.sub_types.specs.declared.value.Value.{Value}
use Rattle.sub_types.specs.declared.value.Value.TheVariants as values
use Rattle.plan_denote.specs.Computed.{Computed, ◌>>=◌, is_null, truth}
use Rattle.plan_denote.specs.Logic.{between, compared, three_valued}
use Rattle.plan_denote.specs.Order.{value_cmp}
use Rattle.kernels.specs.Numbers.{test_of}
use Rattle.kernels.specs.declared.op.CompareOp.TheVariants.{Ge, Le}
use Rattle.call_kernels.proofs.MadeLaws.{zip2-same}

abbrev shown : Option Bool → Computed
shown one = Ok (bool_value one)

-- what holds of both comparisons, by how each came out
both_of : (lower upper : Ordering) → Ok (three_valued false (values.Bool (test_of Ge lower)) (values.Bool (test_of Le upper))) ≡ truth (not (is_lt lower) && not (is_gt upper))
both_of Less Less = refl
both_of Less Equal = refl
both_of Less Greater = refl
both_of Equal Less = refl
both_of Equal Equal = refl
both_of Equal Greater = refl
both_of Greater Less = refl
both_of Greater Equal = refl
both_of Greater Greater = refl

module _ (low high : Value) (low_there : is_null low ≡ false) (high_there : is_null high ≡ false) where
  -- `and` of what the two comparisons of a value give
  abbrev joined : Value → Computed
  joined x = compared (test_of Ge) x low >>= (λ above. compared (test_of Le) x high >>= (λ below. Ok (three_valued false above below)))

  joined_there : (x : Value) → is_null x ≡ false → joined x ≡ between x low high
  joined_there x there = rw (there, low_there, high_there) (both_of (value_cmp x low) (value_cmp x high))

  joined_is : (x : Value) → joined x ≡ between x low high
  joined_is values.Null = refl
  joined_is (values.Bool b) = joined_there (values.Bool b) refl
  joined_is (values.Int n) = joined_there (values.Int n) refl
  joined_is (values.Dec n) = joined_there (values.Dec n) refl
  joined_is (values.Bytes bytes) = joined_there (values.Bytes bytes) refl

  one_between : (x : Value) (above below both : Value) → Ok above ≡ compared (test_of Ge) x low → Ok below ≡ compared (test_of Le) x high → both ≡ three_valued false above below → Ok both ≡ between x low high
  one_between x above below both above_is below_is both_is =
      ap (λ (worth : Value). let one : Computed = Ok worth in one) both_is
      ∙ ap₂ (λ (first second : Computed). first >>= (λ above. second >>= (λ below. Ok (three_valued false above below)))) above_is below_is
      ∙ joined_is x

  each_between : (all : List Value) (above below both : List (Option Bool)) → map shown above ≡ map (λ x. compared (test_of Ge) x low) all → map shown below ≡ map (λ x. compared (test_of Le) x high) all
      → map bool_value both ≡ zip2 (three_valued false) (map bool_value above) (map bool_value below) → map shown both ≡ map (λ x. between x low high) all
  each_between [] [] [] [] above_are below_are both_are = refl
  each_between [] [] [] (r ∷ both) above_are below_are both_are = absurd (cc)
  each_between [] [] (q ∷ below) both above_are below_are both_are = absurd (cc)
  each_between [] (p ∷ above) below both above_are below_are both_are = absurd (cc)
  each_between (x ∷ all) [] below both above_are below_are both_are = absurd (cc)
  each_between (x ∷ all) (p ∷ above) [] both above_are below_are both_are = absurd (cc)
  each_between (x ∷ all) (p ∷ above) (q ∷ below) [] above_are below_are both_are = absurd (cc)
  each_between (x ∷ all) (p ∷ above) (q ∷ below) (r ∷ both) above_are below_are both_are =
      let first : Ok (bool_value r) ≡ between x low high = one_between x (bool_value p) (bool_value q) (bool_value r) (cc) (cc) (cc) in
      ap₂ (λ (y : Computed) (ys : List Computed). y ∷ ys) first (each_between all above below both (cc) (cc) (cc))

  pub between_both : (all : List Value) (n : ℕ) (above below both : List (Option Bool)) → length all ≡ n
      → map (λ (one : Option Bool). let worth : Computed = Ok (bool_value one) in worth) above ≡ zip2 (compared (test_of Ge)) all (replicate n low)
      → map (λ (one : Option Bool). let worth : Computed = Ok (bool_value one) in worth) below ≡ zip2 (compared (test_of Le)) all (replicate n high)
      → map bool_value both ≡ zip2 (three_valued false) (map bool_value above) (map bool_value below)
      → map (λ (one : Option Bool). let worth : Computed = Ok (bool_value one) in worth) both ≡ zip2 (λ (x y : Value). between x low high) all all
  between_both all n above below both long above_are below_are both_are =
      each_between all above below both (above_are ∙ zip2_splat (compared (test_of Ge)) all n low long) (below_are ∙ zip2_splat (compared (test_of Le)) all n high long) both_are
      ∙ sym (zip2-same (λ x. between x low high) all)
