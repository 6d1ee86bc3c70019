-- Results of all rows at once.
use Rattle.std.proofs.Common.{◌≡◌, ◌∙◌, ℕ, zero, suc, ◌+◌, ◌<◌, ◌≤◌, ℤ, List, [], ◌∷◌, Bool, true, false, ◌&&◌, ◌||◌, cond, length, map, get_or, set, take, replicate, Option, Some, None, is_some, unwrap_or, option_map, Ok, Err, IfOk, IfSome, Vec, Result, inl, inr, FitsSigned, ◌++◌, ◌-◌, append_assoc, refl, sym, ap, ap₂, subst, arith}
use Rattle.std.specs.Prelude.{int_lt}
use Rattle.std.specs.Bool.{FalseIff}
use Rattle.std.specs.Int.{Width, int_wrap}
use Rattle.std.specs.List.{range_with_len}
use Rattle.std.proofs.Math.Seq.{set-append_seam}
use Rattle.std.proofs.lemmas.Bool.{cases_lt}
use Rattle.std.proofs.lemmas.Int.{int_wrap_fits}
use Rattle.std.proofs.lemmas.List.{get_or-set_same, get_or-set_other, length-set, get_or-map, length-map, take_more, take_all, get_or-replicate, length-replicate, length-append, append-nil}
use Rattle.sub_types.specs.declared.fault.FaultKind.{FaultKind}
use Rattle.sub_types.specs.BitSteps.{both}
use Rattle.sub_types.specs.Optional.{optional}
use Rattle.sub_types.specs.OptionalLaws.{get_or-optional_valid, get_or-optional_null, length-optional}
use Rattle.sub_types.specs.Slots.{slots, length-slots}
use Rattle.plan_typed.specs.declared.expr.Overflow.{Overflow}
use Rattle.kernels.specs.declared.op.ArithOp.{ArithOp}
use Rattle.kernels.specs.declared.selection.Stop.TheVariants.{Never}
use Rattle.kernels.specs.Arith.{row, IsCombined, IsResult, AreResults, AreValid}
use Rattle.kernels.specs.Until.{until}
use Rattle.kernels.proofs.CompareLaws.{length-both_valid}
use Rattle.kernels.proofs.UntilLaws.{IsSoFar, IsSoFar-none, IsSoFar-more, IsSoFar-end}

-- what is left of a number that fits is the number
pub not_lost : (w : Width) (r n : ℤ) (lost : Bool) → r ≡ int_wrap w n → FalseIff lost (FitsSigned w n) → lost ≡ false → r ≡ n
not_lost w r n true is fits fine = absurd (cc)
not_lost w r n false is fits fine = is ∙ int_wrap_fits w n fits

both_false : (a b : Bool) → (a || b) ≡ false → (a ≡ false) × (b ≡ false)
both_false true b e = absurd (cc)
both_false false b e = (refl, e)

fine_where : (bad there : Bool) → there ≡ true → (bad && there) ≡ false → bad ≡ false
fine_where true there here fine = absurd (cc)
fine_where false there here fine = refl

same_default : {T : Type 0} (xs : List T) (i : ℕ) (d e : T) → i < length xs → get_or xs i d ≡ get_or xs i e
same_default [] i d e lt = absurd (omega arith)
same_default (z ∷ xs) zero d e lt = refl
same_default (z ∷ xs) (suc i) d e lt = same_default xs i d e (omega arith)

module _ {T : Type 0} (op : ArithOp) (number : T → ℤ) (filler least greatest : T) (a b : List T) where
  -- a list of results as it will be, with a filler at the places that are to come
  abbrev filled : List T → ℕ → List T
  filled values i = values ++ replicate (length a - i) filler

  pub length-filled : (values : List T) → values ≡ [] → length (filled values 0) ≡ length a
  length-filled values none = ap (λ l. length (filled l 0)) none ∙ length-replicate (length a - 0) filler ∙ omega arith

  pub filled-more : (values new : List T) (i : ℕ) (value : T) → length values ≡ i → i < length a → new ≡ values ++ value ∷ [] → filled new (i + 1) ≡ set (filled values i) i value
  filled-more values new i value long below grown =
      let rest = replicate (length a - (i + 1)) filler in
      let left : length a - i ≡ suc (length a - (i + 1)) = omega arith in
      ap (λ l. l ++ rest) grown
      ∙ append_assoc values (value ∷ []) rest
      ∙ sym (set-append_seam values filler rest value)
      ∙ ap (λ n. set (values ++ filler ∷ rest) n value) long
      ∙ ap (λ n. set (values ++ replicate n filler) i value) (sym left)

  pub filled-all : (values : List T) (i : ℕ) → length a ≤ i → filled values i ≡ values
  filled-all values i past = let none : length a - i ≡ 0 = omega arith in ap (λ n. values ++ replicate n filler) none ∙ append-nil values

  pub length-more : (values new : List T) (i : ℕ) (value : T) → length values ≡ i → new ≡ values ++ value ∷ [] → length new ≡ i + 1
  length-more values new i value long grown = ap length grown ∙ length-append values (value ∷ []) ∙ omega (arith, long)

  -- the results so far, unless one was lost
  pub record KeepsResults (values : List T) (i : ℕ) (lost : Bool) : Type 0 where
    pub long : length values ≡ length a
    pub results : lost ≡ false → AreResults op number filler least greatest a b values i

  pub KeepsResults-none : (values : List T) → length values ≡ length a → KeepsResults values 0 false
  KeepsResults-none values long = record { long = long; results = λ fine. record { long = long; results = λ k lt. absurd (omega arith) } }

  pub KeepsResults-more : (values : List T) (i : ℕ) (lost is_lost beyond : Bool) (x y value : T) → KeepsResults values i lost → i < length a → x ≡ get_or a i x → y ≡ get_or b i y → length a ≡ length b
      → (is_lost ≡ false → IsCombined op (number x) (number y) (number value)) → beyond ≡ (int_lt (number value) (number least) || int_lt (number greatest) (number value))
      → KeepsResults (set values i value) (i + 1) ((lost || is_lost) || beyond)
  KeepsResults-more values i lost is_lost beyond x y value kept below is_x is_y same exactly ends = record { long = length-set values i value ∙ kept.long; results = results }
    where
      results : ((lost || is_lost) || beyond) ≡ false → AreResults op number filler least greatest a b (set values i value) (i + 1)
      results fine =
          let outer = both_false (lost || is_lost) beyond fine in
          let inner = both_false lost is_lost outer.0 in
          let within = both_false (int_lt (number value) (number least)) (int_lt (number greatest) (number value)) (sym ends ∙ outer.1) in
          let old = kept.results inner.0 in
          let at_a : x ≡ get_or a i filler = is_x ∙ same_default a i x filler below in
          let at_b : y ≡ get_or b i filler = is_y ∙ same_default b i y filler (omega arith) in
          let at_value : value ≡ get_or (set values i value) i filler = sym (get_or-set_same values i value filler (omega (arith, kept.long))) in
          let new : IsResult op (number least) (number greatest) (number x) (number y) (number value) = record { divisible = (exactly inner.1).divisible; is = (exactly inner.1).is; low = within.0; high = within.1 } in
          record {
            long = length-set values i value ∙ kept.long;
            results = λ k lt. elim (cases_lt k i) [
              | inl before ↦
                  let apart : k ≡ i → ⊥ = λ e. absurd (omega arith) in
                  subst (λ v. IsResult op (number least) (number greatest) (number (get_or a k filler)) (number (get_or b k filler)) (number v)) (sym (get_or-set_other values i k value filler apart)) (old.results k before)
              | inr after ↦
                  let e : i ≡ k = omega arith in
                  subst (λ j. IsResult op (number least) (number greatest) (number (get_or a j filler)) (number (get_or b j filler)) (number (get_or (set values i value) j filler))) e
                  (subst (λ v. IsResult op (number least) (number greatest) (number (get_or a i filler)) (number (get_or b i filler)) (number v)) at_value
                  (subst (λ y. IsResult op (number least) (number greatest) (number (get_or a i filler)) (number y) (number value)) at_b
                  (subst (λ x. IsResult op (number least) (number greatest) (number x) (number y) (number value)) at_a new)))
            ];
          }

  pub KeepsResults-all : (values : List T) (i : ℕ) (lost : Bool) → KeepsResults (filled values i) i lost → length a ≤ i → lost ≡ false → AreResults op number filler least greatest a b values (length a)
  KeepsResults-all values i lost kept end fine =
      let is = filled-all values i end in
      record {
        long = ap length (sym is) ∙ kept.long;
        results = λ k lt. subst (λ l. IsResult op (number least) (number greatest) (number (get_or a k filler)) (number (get_or b k filler)) (number (get_or l k filler))) is ((kept.results fine).results k (omega arith));
      }

  -- the valid results so far, unless one was lost
  pub record KeepsValid (valid : List Bool) (values : List T) (i : ℕ) (lost : Bool) : Type 0 where
    pub long : length values ≡ length a
    pub results : lost ≡ false → (k : ℕ) → k < i → get_or valid k false ≡ true → IsResult op (number least) (number greatest) (number (get_or a k filler)) (number (get_or b k filler)) (number (get_or values k filler))

  pub KeepsValid-none : (valid : List Bool) (values : List T) → length values ≡ length a → KeepsValid valid values 0 false
  KeepsValid-none valid values long = record { long = long; results = λ fine k lt there. absurd (omega arith) }

  pub KeepsValid-more : (valid : List Bool) (values : List T) (i : ℕ) (lost is_lost beyond there : Bool) (x y value : T) → KeepsValid valid values i lost → i < length a → x ≡ get_or a i x → y ≡ get_or b i y → length a ≡ length b
      → (is_lost ≡ false → IsCombined op (number x) (number y) (number value)) → beyond ≡ (int_lt (number value) (number least) || int_lt (number greatest) (number value)) → there ≡ get_or valid i false
      → KeepsValid valid (set values i value) (i + 1) (lost || ((is_lost || beyond) && there))
  KeepsValid-more valid values i lost is_lost beyond there x y value kept below is_x is_y same exactly ends is_there = record { long = length-set values i value ∙ kept.long; results = results }
    where
      results : (lost || ((is_lost || beyond) && there)) ≡ false → (k : ℕ) → k < i + 1 → get_or valid k false ≡ true → IsResult op (number least) (number greatest) (number (get_or a k filler)) (number (get_or b k filler)) (number (get_or (set values i value) k filler))
      results fine k lt valid_k =
          let outer = both_false lost ((is_lost || beyond) && there) fine in
          elim (cases_lt k i) [
            | inl before ↦
                let apart : k ≡ i → ⊥ = λ e. absurd (omega arith) in
                subst (λ v. IsResult op (number least) (number greatest) (number (get_or a k filler)) (number (get_or b k filler)) (number v)) (sym (get_or-set_other values i k value filler apart)) (kept.results outer.0 k before valid_k)
            | inr after ↦
                let e : i ≡ k = omega arith in
                let here : there ≡ true = is_there ∙ ap (λ j. get_or valid j false) e ∙ valid_k in
                let inner = both_false is_lost beyond (fine_where (is_lost || beyond) there here outer.1) in
                let within = both_false (int_lt (number value) (number least)) (int_lt (number greatest) (number value)) (sym ends ∙ inner.1) in
                let at_a : x ≡ get_or a i filler = is_x ∙ same_default a i x filler below in
                let at_b : y ≡ get_or b i filler = is_y ∙ same_default b i y filler (omega arith) in
                let at_value : value ≡ get_or (set values i value) i filler = sym (get_or-set_same values i value filler (omega (arith, kept.long))) in
                let new : IsResult op (number least) (number greatest) (number x) (number y) (number value) = record { divisible = (exactly inner.0).divisible; is = (exactly inner.0).is; low = within.0; high = within.1 } in
                subst (λ j. IsResult op (number least) (number greatest) (number (get_or a j filler)) (number (get_or b j filler)) (number (get_or (set values i value) j filler))) e
                (subst (λ v. IsResult op (number least) (number greatest) (number (get_or a i filler)) (number (get_or b i filler)) (number v)) at_value
                (subst (λ y. IsResult op (number least) (number greatest) (number (get_or a i filler)) (number y) (number value)) at_b
                (subst (λ x. IsResult op (number least) (number greatest) (number x) (number y) (number value)) at_a new)))
          ]

  pub KeepsValid-all : (valid : List Bool) (values : List T) (i : ℕ) (lost : Bool) → KeepsValid valid (filled values i) i lost → length a ≤ i → lost ≡ false → AreValid op number filler least greatest a b valid values
  KeepsValid-all valid values i lost kept end fine =
      let is = filled-all values i end in
      record {
        long = ap length (sym is) ∙ kept.long;
        results = λ k lt there. subst (λ l. IsResult op (number least) (number greatest) (number (get_or a k filler)) (number (get_or b k filler)) (number (get_or l k filler))) is (kept.results fine k (omega arith) there);
      }

  -- all results are those at the valid places
  pub all_valid : (valid : List Bool) (values : List T) → AreResults op number filler least greatest a b values (length a) → AreValid op number filler least greatest a b valid values
  all_valid valid values are = record { long = are.long; results = λ k lt there. are.results k lt }

-- the same of what a loop over all places gives
pub whole_valid : {T Z E : Type 0} (op : ArithOp) (number : T → ℤ) (filler least greatest : T) (a b : List T) (valid : List Bool) (found : Result (Option (Vec T Z)) E)
    → IfOk found (λ all. IfSome all (λ values. AreResults op number filler least greatest a b values.items (length a)))
    → IfOk found (λ all. IfSome all (λ values. AreValid op number filler least greatest a b valid values.items))
whole_valid op number filler least greatest a b valid (Ok (Some values)) are = all_valid op number filler least greatest a b valid values.items are
whole_valid op number filler least greatest a b valid (Ok None) are = tt
whole_valid op number filler least greatest a b valid (Err fault) are = tt

-- ---- columns

module _ {X : Type 0} (f : ℕ → Result X FaultKind) (n : ℕ) (values : List X) (d : X) (long : length values ≡ n) (each : (k : ℕ) → k < n → f k ≡ Ok (get_or values k d)) where
  so_far-all : (i : ℕ) → i ≤ n → IsSoFar f n i (take i values)
  so_far-all zero most = IsSoFar-none f n
  so_far-all (suc i) most =
      let next : i + 1 ≡ suc i = omega arith in
      let before = so_far-all i (omega arith) in
      let more = IsSoFar-more f n i (take i values) (get_or values i d) before (omega arith) (each i (omega arith)) in
      subst (λ j. IsSoFar f n j (take j values)) next (subst (IsSoFar f n (i + 1)) (sym (take_more values i d (omega arith))) more)

  pub until-all : until f (range_with_len 0 n) ≡ record { values = values; stop = Never }
  until-all = IsSoFar-end f n n values (subst (IsSoFar f n n) (take_all n values (omega arith)) (so_far-all n (omega arith))) (omega arith)

get_or-both : (xs ys : List Bool) (k : ℕ) → length xs ≡ length ys → get_or (both xs ys) k false ≡ (get_or xs k false && get_or ys k false)
get_or-both [] [] k same = refl
get_or-both [] (y ∷ ys) k same = absurd (omega arith)
get_or-both (x ∷ xs) [] k same = absurd (omega arith)
get_or-both (x ∷ xs) (y ∷ ys) zero same = refl
get_or-both (x ∷ xs) (y ∷ ys) (suc k) same = get_or-both xs ys k (omega arith)

module _ {T : Type 0} (op : ArithOp) (mode : Overflow) (w : Width) (number : T → ℤ) (filler least greatest : T) where
  place : (x y : Option T) (value : T) → ((is_some x && is_some y) ≡ true → IsResult op (number least) (number greatest) (number (unwrap_or x filler)) (number (unwrap_or y filler)) (number value))
      → row op mode w (number least) (number greatest) (option_map number x) (option_map number y) ≡ Ok (option_map number (cond (is_some x && is_some y) (Some value) None))
  place (Some x) (Some y) value r = let is = r refl in rw (is.divisible, ← is.is, is.low, is.high) refl
  place (Some x) None value r = refl
  place None (Some y) value r = refl
  place None None value r = refl

  -- all rows, if each result is within the range
  pub rows-all : (a b : List (Option T)) (values : List T) → length a ≡ length b → AreValid op number filler least greatest (slots filler a) (slots filler b) (both (map is_some a) (map is_some b)) values
      → until (λ i. row op mode w (number least) (number greatest) (option_map number (get_or a i None)) (option_map number (get_or b i None))) (range_with_len 0 (length a))
      ≡ record { values = map (option_map number) (optional values (both (map is_some a) (map is_some b))); stop = Never }
  rows-all a b values same are =
      until-all (λ i. row op mode w (number least) (number greatest) (option_map number (get_or a i None)) (option_map number (get_or b i None))) (length a) (map (option_map number) column) None (length-map column (option_map number) ∙ long) each
    where
      valid : List Bool
      valid = both (map is_some a) (map is_some b)

      column : List (Option T)
      column = optional values valid

      long_values : length values ≡ length a
      long_values = are.long ∙ length-slots filler a

      long_valid : length values ≡ length valid
      long_valid = long_values ∙ sym (length-both_valid a b same)

      long : length column ≡ length a
      long = length-optional values valid long_valid ∙ long_values

      slot : (xs : List (Option T)) (k : ℕ) → k < length xs → get_or (slots filler xs) k filler ≡ unwrap_or (get_or xs k None) filler
      slot xs k lt = get_or-map (λ value. unwrap_or value filler) xs k None filler lt

      there : (xs : List (Option T)) (k : ℕ) → k < length xs → get_or (map is_some xs) k false ≡ is_some (get_or xs k None)
      there xs k lt = get_or-map is_some xs k None false lt

      at_column : (k : ℕ) (v : Bool) → get_or valid k false ≡ v → get_or column k None ≡ cond v (Some (get_or values k filler)) None
      at_column k true e = get_or-optional_valid values valid k filler long_valid e
      at_column k false e = get_or-optional_null values valid k e

      each : (k : ℕ) → k < length a → row op mode w (number least) (number greatest) (option_map number (get_or a k None)) (option_map number (get_or b k None)) ≡ Ok (get_or (map (option_map number) column) k None)
      each k lt =
          let ours : k < length (slots filler a) = let l = length-slots filler a in omega arith in
          let flags = get_or-both (map is_some a) (map is_some b) k (length-map a is_some ∙ same ∙ sym (length-map b is_some)) ∙ ap₂ ◌&&◌ (there a k lt) (there b k (omega arith)) in
          let held : (is_some (get_or a k None) && is_some (get_or b k None)) ≡ true → IsResult op (number least) (number greatest) (number (unwrap_or (get_or a k None) filler)) (number (unwrap_or (get_or b k None) filler)) (number (get_or values k filler))
          = λ there. subst (λ y. IsResult op (number least) (number greatest) (number (unwrap_or (get_or a k None) filler)) (number y) (number (get_or values k filler))) (slot b k (omega arith))
          (subst (λ x. IsResult op (number least) (number greatest) (number x) (number (get_or (slots filler b) k filler)) (number (get_or values k filler))) (slot a k lt) (are.results k ours (flags ∙ there))) in
          place (get_or a k None) (get_or b k None) (get_or values k filler) held
          ∙ ap (λ value. Ok (option_map number value)) (sym (at_column k (is_some (get_or a k None) && is_some (get_or b k None)) flags))
          ∙ ap Ok (sym (get_or-map (option_map number) column k None None (omega (arith, long))))

  -- the same with a constant
  pub rows-all_constant : (a : List (Option T)) (constant : T) (values : List T) → AreValid op number filler least greatest (slots filler a) (replicate (length (slots filler a)) constant) (map is_some a) values
      → until (λ i. row op mode w (number least) (number greatest) (option_map number (get_or a i None)) (Some (number constant))) (range_with_len 0 (length a))
      ≡ record { values = map (option_map number) (optional values (map is_some a)); stop = Never }
  rows-all_constant a constant values are =
      until-all (λ i. row op mode w (number least) (number greatest) (option_map number (get_or a i None)) (Some (number constant))) (length a) (map (option_map number) column) None (length-map column (option_map number) ∙ long) each
    where
      valid : List Bool
      valid = map is_some a

      column : List (Option T)
      column = optional values valid

      long_values : length values ≡ length a
      long_values = are.long ∙ length-slots filler a

      long_valid : length values ≡ length valid
      long_valid = long_values ∙ sym (length-map a is_some)

      long : length column ≡ length a
      long = length-optional values valid long_valid ∙ long_values

      at_column : (k : ℕ) (v : Bool) → get_or valid k false ≡ v → get_or column k None ≡ cond v (Some (get_or values k filler)) None
      at_column k true e = get_or-optional_valid values valid k filler long_valid e
      at_column k false e = get_or-optional_null values valid k e

      and_true : (v : Bool) → v ≡ (v && true)
      and_true true = refl
      and_true false = refl

      each : (k : ℕ) → k < length a → row op mode w (number least) (number greatest) (option_map number (get_or a k None)) (Some (number constant)) ≡ Ok (get_or (map (option_map number) column) k None)
      each k lt =
          let ours : k < length (slots filler a) = let l = length-slots filler a in omega arith in
          let at_a = get_or-map (λ value. unwrap_or value filler) a k None filler lt in
          let at_b = get_or-replicate (length (slots filler a)) k constant filler ours in
          let flags = get_or-map is_some a k None false lt ∙ and_true (is_some (get_or a k None)) in
          let held : (is_some (get_or a k None) && true) ≡ true → IsResult op (number least) (number greatest) (number (unwrap_or (get_or a k None) filler)) (number constant) (number (get_or values k filler))
          = λ there. subst (λ y. IsResult op (number least) (number greatest) (number (unwrap_or (get_or a k None) filler)) (number y) (number (get_or values k filler))) at_b
          (subst (λ x. IsResult op (number least) (number greatest) (number x) (number (get_or (replicate (length (slots filler a)) constant) k filler)) (number (get_or values k filler))) at_a (are.results k ours (flags ∙ there))) in
          place (get_or a k None) (Some constant) (get_or values k filler) held
          ∙ ap (λ value. Ok (option_map number value)) (sym (at_column k (is_some (get_or a k None) && true) flags))
          ∙ ap Ok (sym (get_or-map (option_map number) column k None None (omega (arith, long))))
