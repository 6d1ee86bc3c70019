-- A value and its options, and a value among literals.
use Rattle.std.proofs.Common.{◌≡◌, ◌∙◌, ℕ, zero, suc, ◌<◌, ◌≤◌, length, arith, List, [], ◌∷◌, ◌++◌, map, get_or, Bool, true, false, not, ◌&&◌, ◌||◌, Option, Some, None, Result, Ok, Err, refl, sym, ap, if◌then◌else◌}
use Rattle.std.specs.Ordering.{is_eq}
use Rattle.sub_types.specs.declared.fault.FaultKind.{FaultKind}
use Rattle.sub_types.specs.declared.value.Value.{Value}
use Rattle.sub_types.specs.declared.value.Value.TheVariants as values
use Rattle.plan_denote.specs.Computed.{Computed, ◌>>=◌, truth, null, is_null}
use Rattle.plan_denote.specs.Order.{value_cmp, is_same}
use Rattle.plan_denote.specs.Logic.{is_truth, three_valued, compared, one_of, first_equal}
use Rattle.batch_nodes.specs.declared.early.Early.TheVariants.{Truth}
use Rattle.batch_nodes.specs.Narrowed.{opened, narrowed, folded}
use Rattle.batch_nodes.specs.Early.{one_more, so_far, merges}
use Rattle.batch_nodes.specs.Options.{equality, Sought, is_found, looked, sought, looked_up, place_of, paired}
use Rattle.batch_nodes.proofs.FoldLaws.{so_far-ends, folded-append}

compared-equality : (a b : Value) → compared is_eq a b ≡ Ok (equality a b)
compared-equality a b = by (is_null a || is_null b)
  where
    by : (either : Bool) → (if either then null else truth (is_eq (value_cmp a b))) ≡ Ok (if either then values.Null else values.Bool (is_eq (value_cmp a b)))
    by true = refl
    by false = refl

-- with the value that is sought
abbrev with_value : Value → Computed → Result Sought FaultKind
with_value value found = found >>= (λ one. Ok (value, one))

abbrev test : Value → Computed → Computed
test value option = option >>= (λ other. compared is_eq value other)

end_value : (found : Value) → is_truth true found ≡ true → found ≡ values.Bool true
end_value (values.Bool true) is = refl
end_value (values.Bool false) is = absurd (cc)
end_value values.Null is = absurd (cc)
end_value (values.Int n) is = absurd (cc)
end_value (values.Dec n) is = absurd (cc)
end_value (values.Bytes bytes) is = absurd (cc)

one_step : (value found : Value) (option : Computed) (p : Bool) → is_truth true found ≡ p
    → opened looked (value, found) (if p then Some (value, found) else None) option ≡ with_value value (opened (merges (Truth true)) found (if p then Some (values.Bool true) else None) (test value option))
one_step value found option true is = ap (λ one. Ok (value, one)) (end_value found is)
one_step value found (Ok other) false is =
    sym (ap (λ r. with_value value (opened (merges (Truth true)) found None r)) (compared-equality value other))
one_step value found (Err kind) false is = refl

step : (value : Value) (so_far option : Computed) → narrowed is_found looked (with_value value so_far) option ≡ with_value value (one_more (Truth true) so_far (test value option))
step value (Ok found) option = one_step value found option (is_truth true found) refl
step value (Err kind) option = refl

steps : (value : Value) (so_far : Computed) (options : List Computed)
    → folded (narrowed is_found looked) (with_value value so_far) options ≡ with_value value (folded (one_more (Truth true)) so_far (map (test value) options))
steps value so_far [] = refl
steps value so_far (option ∷ options) =
    ap (λ s. folded (narrowed is_found looked) s options) (step value so_far option) ∙ steps value (one_more (Truth true) so_far (test value option)) options

answer : (value : Value) (found : Computed) → (with_value value found >>= (λ one. Ok one.1)) ≡ found
answer value (Ok found) = refl
answer value (Err kind) = refl

faults : (kind : FaultKind) (options : List Computed) → folded (narrowed is_found looked) (Err kind) options ≡ Err kind
faults kind [] = refl
faults kind (option ∷ options) = faults kind options

-- whether the value is one of the options, by looking at one after the other
pub looked_up-one_of : (value : Computed) (options : List Computed) → (looked_up value options >>= (λ found. Ok found.1)) ≡ (value >>= (λ one. one_of one options))
looked_up-one_of (Ok value) options =
    ap (λ found. found >>= (λ one. Ok one.1)) (steps value (Ok (values.Bool false)) options)
    ∙ answer value (so_far (Truth true) (map (test value) options))
    ∙ so_far-ends (Truth true) (map (test value) options)
looked_up-one_of (Err kind) options = ap (λ (found : Result Sought FaultKind). found >>= (λ one. Ok one.1)) (faults kind options)

pub looked_up-more : (value : Computed) (options : List Computed) (option : Computed) → looked_up value (options ++ option ∷ []) ≡ narrowed is_found looked (looked_up value options) option
looked_up-more value options option = folded-append (narrowed is_found looked) (sought value) options option

-- the arm with the literal that equals the value
pub first_equal-place : (value : Value) (arms : List (Value × Computed)) (other : Computed)
    → first_equal value arms other ≡ get_or (map (λ arm. arm.1) arms) (place_of value (map (λ arm. arm.0) arms)) other
first_equal-place value [] other = refl
first_equal-place value ((literal, found) ∷ arms) other =
    by (not (is_null value) && is_same value literal) (first_equal value arms other) (map (λ (arm : Value × Computed). arm.1) arms) (place_of value (map (λ (arm : Value × Computed). arm.0) arms)) (first_equal-place value arms other)
  where
    by : (is : Bool) (rest : Computed) (later : List Computed) (place : ℕ) → rest ≡ get_or later place other
        → (if is then found else rest) ≡ get_or (found ∷ later) (if is then 0 else suc place) other
    by true rest later place same = refl
    by false rest later place same = same

-- ---- values with their answers

paired-nil : (found : List Value) → paired found [] ≡ []
paired-nil [] = refl
paired-nil (value ∷ found) = refl

pub paired-more : (found answers : List Value) (answer d : Value) → length answers < length found → paired found (answers ++ answer ∷ []) ≡ paired found answers ++ (get_or found (length answers) d, answer) ∷ []
paired-more [] answers answer d below = absurd (omega (arith, below))
paired-more (value ∷ found) [] answer d below = ap (λ rest. (value, answer) ∷ rest) (paired-nil found)
paired-more (value ∷ found) (one ∷ answers) answer d below = ap (λ rest. (value, one) ∷ rest) (paired-more found answers answer d (omega (arith, below)))

pub paired-get : (found answers : List Value) (i : ℕ) (d e : Value) (p : Sought) → i < length answers → length answers ≤ length found → get_or (paired found answers) i p ≡ (get_or found i d, get_or answers i e)
paired-get found [] i d e p there below = absurd (omega (arith, there))
paired-get [] (one ∷ answers) i d e p there below = absurd (omega (arith, below))
paired-get (value ∷ found) (one ∷ answers) zero d e p there below = refl
paired-get (value ∷ found) (one ∷ answers) (suc i) d e p there below = paired-get found answers i d e p (omega (arith, there)) (omega (arith, below))

pub paired-length : (found answers : List Value) → length answers ≤ length found → length (paired found answers) ≡ length answers
paired-length [] [] below = refl
paired-length [] (one ∷ answers) below = absurd (omega (arith, below))
paired-length (value ∷ found) [] below = refl
paired-length (value ∷ found) (one ∷ answers) below = ap suc (paired-length found answers (omega (arith, below)))
