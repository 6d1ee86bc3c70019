-- Names joined by a byte.
use Rattle.std.proofs.Common.{◌≡◌, ◌∙◌, sym, ap, ℕ, suc, ◌+◌, ◌<◌, ◌≤◌, List, [], ◌∷◌, ◌++◌, length, take, get_or, append_assoc, arith}
use Rattle.std.specs.List.{join_with_byte}
use Rattle.std.proofs.lemmas.List.{take_more, take_all}

-- one name more
pub join_with_byte-push : (c : ℕ) (first : List ℕ) (names : List (List ℕ)) (last : List ℕ) → join_with_byte c (first ∷ (names ++ last ∷ [])) ≡ (join_with_byte c (first ∷ names) ++ c ∷ []) ++ last
join_with_byte-push c first [] last = sym (append_assoc first (c ∷ []) last)
join_with_byte-push c first (name ∷ names) last =
    ap (λ rest. first ++ (c ∷ rest)) (join_with_byte-push c name names last)
    ∙ simp append_assoc

-- what stands at the front of the names
take-cons : (first : List ℕ) (rest : List (List ℕ)) (i : ℕ) → take (i + 1) (first ∷ rest) ≡ first ∷ take i rest
take-cons first rest i = let more : i + 1 ≡ suc i = omega arith in ap (λ n. take n (first ∷ rest)) more

-- the first
pub join_with_byte-first : (c : ℕ) (first : List ℕ) (names rest : List (List ℕ)) → names ≡ first ∷ rest → join_with_byte c (take 1 names) ≡ first
join_with_byte-first c first names rest split = ap (λ all. join_with_byte c (take 1 all)) split

-- one more of the rest
pub join_with_byte-more : (c : ℕ) (first : List ℕ) (names rest : List (List ℕ)) (i : ℕ) (name : List ℕ) → names ≡ first ∷ rest → i < length rest → name ≡ get_or rest i name → join_with_byte c (take (i + 1 + 1) names) ≡ (join_with_byte c (take (i + 1) names) ++ c ∷ []) ++ name
join_with_byte-more c first names rest i name split below here =
    let front = take i rest in
    ap (λ all. join_with_byte c (take (i + 1 + 1) all)) split
    ∙ ap (join_with_byte c) (take-cons first rest (i + 1))
    ∙ ap (λ some. join_with_byte c (first ∷ some)) (take_more rest i name below ∙ ap (λ last. front ++ last ∷ []) (sym here))
    ∙ join_with_byte-push c first front name
    ∙ ap (λ some. (join_with_byte c some ++ c ∷ []) ++ name) (sym (take-cons first rest i) ∙ ap (take (i + 1)) (sym split))

-- all
pub join_with_byte-all : (c : ℕ) (first : List ℕ) (names rest : List (List ℕ)) (i : ℕ) → names ≡ first ∷ rest → length rest ≤ i → join_with_byte c (take (i + 1) names) ≡ join_with_byte c names
join_with_byte-all c first names rest i split done = ap (join_with_byte c) (take_all (i + 1) names (omega (arith, ap length split)))
