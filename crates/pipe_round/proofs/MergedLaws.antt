-- Marks that are merged one after the other.
use Rattle.std.proofs.Common.{◌≡◌, ◌∙◌, ℕ, zero, suc, ◌+◌, ◌<◌, List, [], ◌∷◌, ◌++◌, Bool, ◌||◌, length, map, get_or, set, take, drop, refl, sym, ap, arith}
use Rattle.std.proofs.Math.ListN.{get_or-map as get_or-of_map}
use Rattle.std.proofs.lemmas.List.{length-map, take_more, take_more_set, get_or-drop, drop-set-lt, drop-drop, take_all}
use Rattle.join_marks.specs.Marked.{either}
use Rattle.plan_pipes.specs.Pieces.{merged, merged_each}

-- of as many rows, the two ways to put marks together are one
pub either_merged : (a b : List Bool) → length b ≡ length a → either a b ≡ merged a b
either_merged [] b same = refl
either_merged (x ∷ a) [] same = absurd (omega (arith, same))
either_merged (x ∷ a) (y ∷ b) same = ap (λ rest. (x || y) ∷ rest) (either_merged a b (omega (arith, same)))

length-merged : (a b : List Bool) → length b ≡ length a → length (merged a b) ≡ length a
length-merged [] b same = refl
length-merged (x ∷ a) [] same = absurd (omega (arith, same))
length-merged (x ∷ a) (y ∷ b) same = omega (arith, length-merged a b (omega (arith, same)))

-- as many rows at each place
pub rows_at_place : (marks others : List (List Bool)) (i : ℕ) (d : List Bool) → map length others ≡ map length marks → length (get_or others i d) ≡ length (get_or marks i d)
rows_at_place marks others i d same =
    sym (get_or-of_map length others i d) ∙ ap (λ all. get_or all i (length d)) same ∙ get_or-of_map length marks i d

pub as_many : (marks others : List (List Bool)) → map length others ≡ map length marks → length others ≡ length marks
as_many marks others same = sym (length-map others length) ∙ ap length same ∙ length-map marks length

length-each : (marks others : List (List Bool)) → length others ≡ length marks → length (merged_each marks others) ≡ length marks
length-each [] others same = refl
length-each (own ∷ marks) [] same = absurd (omega (arith, same))
length-each (own ∷ marks) (other ∷ others) same = omega (arith, length-each marks others (omega (arith, same)))

each_at : (marks others : List (List Bool)) (i : ℕ) (d : List Bool) → length others ≡ length marks → i < length marks → get_or (merged_each marks others) i d ≡ merged (get_or marks i d) (get_or others i d)
each_at [] others i d same below = absurd (omega (arith, below))
each_at (own ∷ marks) [] i d same below = absurd (omega (arith, same))
each_at (own ∷ marks) (other ∷ others) zero d same below = refl
each_at (own ∷ marks) (other ∷ others) (suc i) d same below = each_at marks others i d (omega (arith, same)) (omega (arith, below))

-- one place more is merged
pub merged_more : (start marks others : List (List Bool)) (i : ℕ) (new d : List Bool) → map length others ≡ map length start → map length marks ≡ map length start → i < length others
    → new ≡ either (get_or marks i d) (get_or others i d) → drop i marks ≡ drop i start → take i marks ≡ take i (merged_each start others) → take (i + 1) (set marks i new) ≡ take (i + 1) (merged_each start others)
merged_more start marks others i new d same kept below is left done =
    let many = as_many start others same in
    let also = as_many start marks kept in
    let none : i + 0 ≡ i = omega arith in
    let here : get_or marks i d ≡ get_or start i d =
    sym (get_or-drop i marks 0 d ∙ ap (λ n. get_or marks n d) none) ∙ ap (λ rest. get_or rest 0 d) left ∙ get_or-drop i start 0 d ∙ ap (λ n. get_or start n d) none in
    let value : new ≡ get_or (merged_each start others) i d =
    is ∙ ap (λ own. either own (get_or others i d)) here ∙ either_merged (get_or start i d) (get_or others i d) (rows_at_place start others i d same)
    ∙ sym (each_at start others i d many (omega (arith, many, below))) in
    take_more_set marks i new (omega (arith, many, also, below))
    ∙ (λ k. done k ++ value k ∷ [])
    ∙ sym (take_more (merged_each start others) i d (omega (arith, many, below, length-each start others many)))

-- no other place changed
pub rows_kept : (marks : List (List Bool)) (i : ℕ) (new d : List Bool) → length new ≡ length (get_or marks i d) → map length (set marks i new) ≡ map length marks
rows_kept [] i new d same = refl
rows_kept (own ∷ marks) zero new d same = ap (λ rows. rows ∷ map length marks) same
rows_kept (own ∷ marks) (suc i) new d same = ap (λ rest. length own ∷ rest) (rows_kept marks i new d same)

pub left_kept : (start marks : List (List Bool)) (i : ℕ) (new : List Bool) → drop i marks ≡ drop i start → drop (i + 1) (set marks i new) ≡ drop (i + 1) start
left_kept start marks i new left = drop-set-lt (i + 1) marks i new (omega arith) ∙ sym (drop-drop 1 i marks) ∙ ap (drop 1) left ∙ drop-drop 1 i start

-- all places are merged
pub all_merged : (start marks others : List (List Bool)) (i : ℕ) → map length others ≡ map length start → map length marks ≡ map length start → i ≡ length others → take i marks ≡ take i (merged_each start others) → marks ≡ merged_each start others
all_merged start marks others i same kept all done =
    let many = as_many start others same in
    let also = as_many start marks kept in
    sym (take_all i marks (omega (arith, all, many, also))) ∙ done ∙ take_all i (merged_each start others) (omega (arith, all, many, length-each start others many))
