-- What the blocks of a file say, one after the other.
use Rattle.std.proofs.Common.{◌≡◌, ◌∙◌, ℕ, ◌+◌, ◌<◌, ◌≤◌, List, [], ◌∷◌, ◌++◌, length, get_or, map, take, Bool, true, false, Option, Some, None, OnSome, Ok, refl, sym, ap, subst, arith, length-take}
use Rattle.std.specs.List.{list_any}
use Rattle.std.proofs.lemmas.List.{take_more, take_all, map-append}
use Rattle.std.proofs.lemmas.List.Folds.{list_any_more}
use Rattle.arrow_meta.specs.declared.meta.Block.{Block}
use Rattle.arrow_meta.specs.declared.meta.RecordMeta.{RecordMeta}
use Rattle.arrow_meta.specs.Head.{Compressed, refuse_if}
use Rattle.arrow_read.specs.Sound.{IsPlaced, ArePlaced}
use Rattle.arrow_read.specs.Metas.{refuse_if_any}

-- what is said of a block that isn't compressed
pub said_clean : {A : Type 0} (compressed : Bool) (said x : A) → refuse_if compressed Compressed (Ok said) ≡ Ok x → compressed ≡ false
said_clean true said x h = absurd (cc)
said_clean false said x h = refl

pub said_same : {A : Type 0} (compressed : Bool) (said x : A) → refuse_if compressed Compressed (Ok said) ≡ Ok x → said ≡ x
said_same true said x h = absurd (cc)
said_same false said x h = cc

-- one block more that isn't compressed
pub clean_more : (compressed : Block → Bool) (blocks : List Block) (i : ℕ) (d : Block) → i < length blocks → list_any compressed (take i blocks) ≡ false
    → compressed (get_or blocks i d) ≡ false → list_any compressed (take (i + 1) blocks) ≡ false
clean_more compressed blocks i d below clean one = rw (list_any_more compressed blocks i d below, clean) one

-- what one block more says
pub map_more : {A : Type 0} (said : Block → A) (blocks : List Block) (i : ℕ) (d : Block) (xs : List A) (x : A) → i < length blocks → map said (take i blocks) ≡ xs
    → said (get_or blocks i d) ≡ x → map said (take (i + 1) blocks) ≡ xs ++ x ∷ []
map_more said blocks i d xs x below so one =
    ap (map said) (take_more blocks i d below) ∙ map-append said (take i blocks) (get_or blocks i d ∷ []) ∙ ap (λ ys. ys ++ said (get_or blocks i d) ∷ []) so ∙ ap (λ y. xs ++ y ∷ []) one

-- what all blocks say
pub each_all : {A : Type 0} (compressed : Block → Bool) (said : Block → A) (blocks : List Block) (n : ℕ) (xs : List A) → length blocks ≤ n
    → list_any compressed (take n blocks) ≡ false → map said (take n blocks) ≡ xs → refuse_if_any compressed said blocks ≡ Ok xs
each_all compressed said blocks n xs all clean so =
    let whole = take_all n blocks all in
    let none : list_any compressed blocks ≡ false = ap (list_any compressed) (sym whole) ∙ clean in
    let same : map said blocks ≡ xs = ap (map said) (sym whole) ∙ so in
    rw (none, same) refl

-- one block more that is placed
placed_last : (blocks : List Block) (metas : List (Option RecordMeta)) (block : Block) (meta : Option RecordMeta) → length blocks ≡ length metas → ArePlaced blocks metas
    → OnSome meta (IsPlaced block) → ArePlaced (blocks ++ block ∷ []) (metas ++ meta ∷ [])
placed_last [] [] block (Some meta) same all one = (one, tt)
placed_last [] [] block None same all one = tt
placed_last [] (m ∷ metas) block meta same all one = absurd (omega arith)
placed_last (b ∷ blocks) [] block meta same all one = absurd (omega arith)
placed_last (b ∷ blocks) (Some m ∷ metas) block meta same all one = (all.0, placed_last blocks metas block meta (omega arith) all.1 one)
placed_last (b ∷ blocks) (None ∷ metas) block meta same all one = placed_last blocks metas block meta (omega arith) all one

pub placed_more : (blocks : List Block) (i : ℕ) (d : Block) (metas : List (Option RecordMeta)) (meta : Option RecordMeta) → i < length blocks → length metas ≡ i
    → ArePlaced (take i blocks) metas → OnSome meta (IsPlaced (get_or blocks i d)) → ArePlaced (take (i + 1) blocks) (metas ++ meta ∷ [])
placed_more blocks i d metas meta below count all one =
    let P : List Block → Type 0 = λ bs. ArePlaced bs (metas ++ meta ∷ []) in
    let len : length (take i blocks) ≡ i = omega (arith, length-take i blocks) in
    subst P (sym (take_more blocks i d below)) (placed_last (take i blocks) metas (get_or blocks i d) meta (len ∙ sym count) all one)
