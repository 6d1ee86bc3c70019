-- A value and its options, row by row: the rows whose value isn't found yet, and the answers after one more option.
use Rattle.std.proofs.Common.{inl, inr, ◌≡◌, ◌∙◌, refl, ℕ, ◌+◌, ◌<◌, ◌≤◌, ◌++◌, ◌∷◌, [], List, length, get_or, is_some, Bool, true, false, not, ◌||◌, ◌&&◌, if◌then◌else◌, Some, None, sym, ap, ap₂, subst, arith}
use Rattle.sub_types.specs.Value.{InKind}
use Rattle.sub_types.specs.declared.kind.Kind.TheVariants as kinds
use Rattle.sub_types.specs.declared.value.Value.{Value}
use Rattle.sub_types.specs.declared.value.Value.TheVariants as values
use Rattle.plan_denote.specs.Logic.{is_truth, three_valued}
use Rattle.kernels.specs.declared.selection.Stop.{Stop}
use Rattle.batch_nodes.specs.Narrowed.{joined, open_rows}
use Rattle.batch_nodes.specs.Options.{Sought, equality, is_found, looked, paired, IsAnswer}
use Rattle.batch_nodes.proofs.JoinLaws.{IsJoinSoFar, IsJoinSoFar-step, IsJoinSoFar-stopped, IsJoinSoFar-end}
use Rattle.batch_nodes.proofs.OpenLaws.{IsOpenSoFar, IsOpenSoFar-settled, IsOpenSoFar-more, IsOpenSoFar-end}
use Rattle.batch_nodes.proofs.OptionLaws.{paired-more, paired-get, paired-length}

found_is : (value answer : Value) (is : Bool) → is_truth true answer ≡ is → is_some {T = Sought} (is_found (value, answer)) ≡ is
found_is value answer is same = ap (λ test. is_some {T = Sought} (if test then Some (value, answer) else None)) same ∙ either is
  where
    either : (test : Bool) → is_some {T = Sought} (if test then Some (value, answer) else None) ≡ test
    either true = refl
    either false = refl

no_pairs : (found : List Value) → paired found [] ≡ []
no_pairs [] = refl
no_pairs (value ∷ found) = refl

module _ (rows : List ℕ) (found answers : List Value) (same : length answers ≤ length found) (long : length answers ≤ length rows) where
  pair_at : (i : ℕ) (value answer : Value) → i < length answers → value ≡ get_or found i values.Null → answer ≡ get_or answers i values.Null
      → (value, answer) ≡ get_or (paired found answers) i (value, answer)
  pair_at i value answer there value_is answer_is =
      ap₂ (λ one other. (one, other)) value_is answer_is ∙ sym (paired-get found answers i values.Null values.Null (value, answer) there same)

  pair_there : (i : ℕ) → i < length answers → i < length (paired found answers)
  pair_there i there = omega (arith, there, paired-length found answers same)

  pub sought-more : (i : ℕ) (answer : Value) (left : List ℕ) → IsOpenSoFar is_found rows (paired found answers) i left → i < length answers → answer ≡ get_or answers i values.Null → is_truth true answer ≡ false
      → IsOpenSoFar is_found rows (paired found answers) (i + 1) (left ++ get_or rows i 0 ∷ [])
  sought-more i answer left so_far there answer_is not_found =
      let value = get_or found i values.Null in
      IsOpenSoFar-more is_found rows (paired found answers) i 0 (value, answer) (value, answer) left so_far (omega (arith, there, long)) (pair_there i there) (pair_at i value answer there refl answer_is) (found_is value answer false not_found)

  pub sought-settled : (i : ℕ) (answer : Value) (left : List ℕ) → IsOpenSoFar is_found rows (paired found answers) i left → i < length answers → answer ≡ get_or answers i values.Null → is_truth true answer ≡ true
      → IsOpenSoFar is_found rows (paired found answers) (i + 1) left
  sought-settled i answer left so_far there answer_is settled =
      let value = get_or found i values.Null in
      IsOpenSoFar-settled is_found rows (paired found answers) i (value, answer) (value, answer) left so_far (omega (arith, there, long)) (pair_there i there) (pair_at i value answer there refl answer_is) (found_is value answer true settled)

  pub sought-end : (i : ℕ) (left : List ℕ) → IsOpenSoFar is_found rows (paired found answers) i left → length answers ≤ i → left ≡ open_rows is_found rows (paired found answers)
  sought-end i left so_far end = IsOpenSoFar-end is_found rows (paired found answers) i left so_far (omega (arith, end, paired-length found answers same))

  module _ (stop : Stop) (options : List Value) (options_stop : Stop) where
    abbrev pub IsLookedSoFar : ℕ → ℕ → List Value → Type 0
    IsLookedSoFar i used built = IsJoinSoFar is_found looked rows (paired found answers) stop options options_stop i used (paired found built)

    pub looked-none : (built : List Value) → built ≡ [] → IsLookedSoFar 0 0 built
    looked-none built is = subst (IsLookedSoFar 0 0) (sym is) (subst (IsJoinSoFar is_found looked rows (paired found answers) stop options options_stop 0 0) (sym (no_pairs found)) refl)

    pub looked-step : (i used : ℕ) (value answer : Value) (next : Value × ℕ) (built : List Value) → IsLookedSoFar i used built → length built ≡ i → i < length answers
        → value ≡ get_or found i values.Null → answer ≡ get_or answers i values.Null → IsAnswer value answer options used (Some next)
        → IsLookedSoFar (i + 1) next.1 (built ++ next.0 ∷ [])
    looked-step i used value answer next built so_far count there value_is answer_is is =
        let pair : Sought = (value, next.0) in
        let grown : paired found built ++ pair ∷ [] ≡ paired found (built ++ next.0 ∷ []) =
        ap (λ one. paired found built ++ (one, next.0) ∷ []) (value_is ∙ ap (λ k. get_or found k values.Null) (sym count)) ∙ sym (paired-more found built next.0 values.Null (omega (arith, there, count, same))) in
        subst (IsJoinSoFar is_found looked rows (paired found answers) stop options options_stop (i + 1) next.1) grown
        (IsJoinSoFar-step is_found looked rows (paired found answers) stop options options_stop i used (value, answer) (value, answer) values.Null (pair, next.1) (paired found built) so_far (omega (arith, there, long)) (pair_there i there) (pair_at i value answer there value_is answer_is) is)

    pub looked-stopped : (i used : ℕ) (value answer : Value) (built : List Value) → IsLookedSoFar i used built → i < length answers
        → value ≡ get_or found i values.Null → answer ≡ get_or answers i values.Null → IsAnswer value answer options used None
        → joined is_found looked rows (paired found answers) stop options options_stop ≡ record { values = paired found built; stop = options_stop }
    looked-stopped i used value answer built so_far there value_is answer_is is =
        IsJoinSoFar-stopped is_found looked rows (paired found answers) stop options options_stop i used (value, answer) (value, answer) (paired found built) so_far (omega (arith, there, long)) (pair_there i there) (pair_at i value answer there value_is answer_is) is.0 is.1

    pub looked-end : (i used : ℕ) (built : List Value) → IsLookedSoFar i used built → length answers ≤ i
        → joined is_found looked rows (paired found answers) stop options options_stop ≡ record { values = paired found built; stop = stop }
    looked-end i used built so_far end =
        IsJoinSoFar-end is_found looked rows (paired found answers) stop options options_stop i used (paired found built) so_far (omega (arith, end, paired-length found answers same))

-- an answer is a truth value or null
three_in_kind : (is_end is_other : Bool) → InKind kinds.Bool (if is_end then values.Bool true else if is_other then values.Bool (not true) else values.Null)
three_in_kind true is_other = tt
three_in_kind false true = tt
three_in_kind false false = tt

found_itself : (value answer : Value) (is : Bool) (next : Sought) → (if is then Some (value, answer) else None) ≡ Some next → answer ≡ next.1
found_itself value answer true next is = let e : (value, answer) ≡ next = cc in ap (λ (one : Sought). one.1) e
found_itself value answer false next is = absurd (cc)

pub answer_in_kind : (value answer : Value) (options : List Value) (used : ℕ) (next : Value × ℕ) → IsAnswer value answer options used (Some next) → InKind kinds.Bool answer → InKind kinds.Bool next.0
answer_in_kind value answer options used next is fits = elim is [
  | inl one ↦ subst (InKind kinds.Bool) (found_itself value answer (is_truth true answer) (value, next.0) one.0) fits
  | inr one ↦
      let option = get_or options used values.Null in
      let pairs : (value, three_valued true answer (equality value option)) ≡ (value, next.0) = cc in
      subst (InKind kinds.Bool) (ap (λ (one : Sought). one.1) pairs) (three_in_kind (is_truth true answer || is_truth true (equality value option)) (is_truth (not true) answer && is_truth (not true) (equality value option)))
]
