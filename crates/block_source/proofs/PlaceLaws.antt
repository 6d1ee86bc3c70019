-- The places of blocks, file by file.
use Rattle.std.proofs.Common.{◌≡◌, ℕ, suc, ◌+◌, ◌<◌, List, [], ◌∷◌, ◌++◌, length, get_or, take, vec_len, append-nil, append_assoc, arith, rules, sym, ap, ◌∙◌}
use Rattle.std.proofs.lemmas.List.{take_more, get_or-map, length-map, length-take-le}
use Rattle.block_source.specs.declared.file.BlockFile.{BlockFile}
use Rattle.block_source.specs.Places.{places_in, places_from, counts_of}

-- the places of one file more
pub places_push : (counts : List ℕ) (from blocks : ℕ) → places_from from (counts ++ blocks ∷ []) ≡ places_from from counts ++ places_in (from + length counts) blocks
places_push [] from blocks = append-nil (places_in from blocks) ∙ ap (λ n. places_in n blocks) (omega arith)
places_push (first ∷ more) from blocks =
    let e : from + 1 + length more ≡ from + suc (length more) = omega arith in
    ap (λ t. places_in from first ++ t) (places_push more (from + 1) blocks ∙ ap (λ n. places_from (from + 1) more ++ places_in n blocks) e)
    ∙ sym (append_assoc (places_in from first) (places_from (from + 1) more) (places_in (from + suc (length more)) blocks))

-- the places of the first files and of the next
pub places_take : (counts : List ℕ) (i blocks : ℕ) → i < length counts → blocks ≡ get_or counts i 0 → places_from 0 (take (i + 1) counts) ≡ places_from 0 (take i counts) ++ places_in i blocks
places_take counts i blocks below is =
    ap (places_from 0) (take_more counts i 0 below)
    ∙ places_push (take i counts) 0 (get_or counts i 0)
    ∙ (let e : 0 + length (take i counts) ≡ i = search (rules, length-take-le) in λ j. places_from 0 (take i counts) ++ places_in (e j) (sym is j))

-- the places of the first files and of the next of them
pub places_more : (files : List BlockFile) (i n : ℕ) (one : BlockFile) → i < length files → one ≡ get_or files i one → n ≡ vec_len one.head.blocks
    → places_from 0 (take (i + 1) (counts_of files)) ≡ places_from 0 (take i (counts_of files)) ++ places_in i n
places_more files i n one below is count =
    places_take (counts_of files) i n (omega (arith, below, length-map files (λ f. vec_len f.head.blocks)))
    (count ∙ ap (λ f. vec_len f.head.blocks) is ∙ sym (get_or-map (λ f. vec_len f.head.blocks) files i one 0 below))
