-- Lists that are made item by item.
use Rattle.std.proofs.Common.{◌≡◌, ◌∙◌, ℕ, ◌+◌, ◌<◌, zero, suc, List, [], ◌∷◌, ◌++◌, length, drop, get_or, sym, ap, arith, append_assoc}
use Rattle.std.proofs.lemmas.List.{drop_more}
use Rattle.std.specs.List.{range_with_len}
use Rattle.plan_typed.specs.declared.rel.SortKey.{SortKey}
use Rattle.rel_specs.specs.declared.key_order.KeyOrder.{KeyOrder}
use Rattle.rel_parts.specs.Parts.{order_at, orders_from}

-- one order more
pub next_order : (orders : List KeyOrder) (column : ℕ) (keys : List SortKey) (place : ℕ) (key : SortKey) → place < length keys → key ≡ get_or keys place key
    → (orders ++ order_at column key ∷ []) ++ orders_from (column + 1) (drop (place + 1) keys) ≡ orders ++ orders_from column (drop place keys)
next_order orders column keys place key there is =
    append_assoc orders (order_at column key ∷ []) (orders_from (column + 1) (drop (place + 1) keys))
    ∙ ap (λ one. orders ++ orders_from column (one ∷ drop (place + 1) keys)) is
    ∙ ap (λ all. orders ++ orders_from column all) (sym (drop_more keys place key there))

range_from : (start count : ℕ) → range_with_len start (count + 1) ≡ range_with_len start count ++ (start + count) ∷ []
range_from start zero = let same : start ≡ start + 0 = omega arith in ap (λ one. one ∷ []) same
range_from start (suc count) =
    let more : suc count + 1 ≡ suc (count + 1) = omega arith in
    let same : start + 1 + count ≡ start + suc count = omega arith in
    ap (range_with_len start) more ∙ ap (λ rest. start ∷ rest) (range_from (start + 1) count) ∙ ap (λ last. start ∷ (range_with_len (start + 1) count ++ last ∷ [])) same

-- one column more
pub next_column : (count : ℕ) → range_with_len 0 (count + 1) ≡ range_with_len 0 count ++ count ∷ []
next_column count = let same : 0 + count ≡ count = omega arith in range_from 0 count ∙ ap (λ last. range_with_len 0 count ++ last ∷ []) same
