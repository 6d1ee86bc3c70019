-- Columns that grow by the values of one number after the other.
use Rattle.std.proofs.Common.{◌≡◌, ◌∙◌, sym, ap, ℕ, ◌+◌, List, [], ◌∷◌, ◌++◌, map, zero-add}
use Rattle.std.specs.List.{range_with_len}
use Rattle.std.proofs.lemmas.List.FromFn.{map-range_with_len_more}
use Rattle.sub_types.specs.declared.value.Value.{Value}

-- one more
pub one_more : (f : ℕ → Value) (n : ℕ) (values longer : List Value) (value : Value) → values ≡ map f (range_with_len 0 n) → value ≡ f n → longer ≡ values ++ value ∷ [] → longer ≡ map f (range_with_len 0 (n + 1))
one_more f n values longer value so_far here grown =
    grown ∙ ap (λ before. before ++ value ∷ []) so_far ∙ ap (λ last. map f (range_with_len 0 n) ++ last ∷ []) here ∙ sym (map-range_with_len_more f 0 n n (zero-add n))
