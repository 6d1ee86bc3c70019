-- Elements that go from the end of one list to the end of another.
use Rattle.std.proofs.Common.{◌≡◌, ℕ, suc, ◌+◌, ◌<◌, List, [], ◌∷◌, ◌++◌, length, map, reverse, refl, sym, ap, ◌∙◌, append_assoc, get_or, arith}
use Rattle.std.specs.List.{range_with_len}
use Rattle.std.proofs.lemmas.List.{reverse-append, map_push, map-id, length-append}
use Rattle.std.proofs.lemmas.List.FromFn.{map-range_with_len_more}

pub reverse_push : {X : Type 0} (xs : List X) (x : X) → reverse (xs ++ x ∷ []) ≡ x ∷ reverse xs
reverse_push xs x = reverse-append xs (x ∷ [])

-- what is done, with what is left from its end on, stays the same where one element more is done
pub moved : {W X : Type 0} (g : W → X) (done done' : List X) (left left' : List W) (w : W) (all : List X)
    → left ≡ left' ++ w ∷ [] → done' ≡ done ++ g w ∷ [] → done ++ reverse (map g left) ≡ all → done' ++ reverse (map g left') ≡ all
moved g done done' left left' w all l d e =
    ap (λ xs. xs ++ reverse (map g left')) d ∙ append_assoc done (g w ∷ []) (reverse (map g left'))
    ∙ ap (λ xs. done ++ xs) (sym (ap (λ ws. reverse (map g ws)) l ∙ ap reverse (map_push g left' w) ∙ reverse_push (map g left') (g w)))
    ∙ e

-- what is left, with what is made from its end on, stays the same where one element more is made
pub made : {W X : Type 0} (g : W → X) (left left' : List X) (done done' : List W) (w : W) (x : X) (all : List X)
    → left ≡ left' ++ x ∷ [] → done' ≡ done ++ w ∷ [] → g w ≡ x → left ++ reverse (map g done) ≡ all → left' ++ reverse (map g done') ≡ all
made g left left' done done' w x all l d same e =
    ap (λ xs. left' ++ xs) (ap (λ ws. reverse (map g ws)) d ∙ ap reverse (map_push g done w) ∙ reverse_push (map g done) (g w) ∙ ap (λ y. y ∷ reverse (map g done)) same)
    ∙ sym (append_assoc left' (x ∷ []) (reverse (map g done)))
    ∙ ap (λ xs. xs ++ reverse (map g done)) (sym l)
    ∙ e

-- two lists whose elements are the same to a function
pub same_maps : {X Y : Type 0} (f : X → Y) (xs ys : List X) → length xs ≡ length ys → ((k : ℕ) (d : X) → k < length xs → f (get_or xs k d) ≡ f (get_or ys k d)) → map f xs ≡ map f ys
same_maps f [] [] len same = refl
same_maps f [] (y ∷ ys) len same = absurd (omega (arith, len))
same_maps f (x ∷ xs) [] len same = absurd (omega (arith, len))
same_maps f (x ∷ xs) (y ∷ ys) len same =
    λ i. same 0 x (omega arith) i ∷ same_maps f xs ys (omega (arith, len)) (λ k d below. same (suc k) d (omega (arith, below))) i

-- elements with the numbers from 0 on, with one more behind them
pub numbered : {W : Type 0} (number : W → ℕ) (done done' : List W) (w : W) → map number done ≡ range_with_len 0 (length done) → done' ≡ done ++ w ∷ [] → number w ≡ length done → map number done' ≡ range_with_len 0 (length done')
numbered number done done' w so_far d here =
    let from : 0 + length done ≡ length done = omega arith in
    let more = sym (map-id (range_with_len 0 (length done + 1))) ∙ map-range_with_len_more (λ (x : ℕ). x) 0 (length done) (length done) from ∙ ap (λ xs. xs ++ length done ∷ []) (map-id (range_with_len 0 (length done))) in
    ap (map number) d ∙ map_push number done w
    ∙ ap (λ (q : List ℕ × ℕ). q.0 ++ q.1 ∷ []) (λ i. (so_far i, here i))
    ∙ sym (ap (λ xs. range_with_len 0 (length xs)) d ∙ ap (range_with_len 0) (length-append done (w ∷ [])) ∙ more)
