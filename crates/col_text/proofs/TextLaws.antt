-- How the buffers of a column of texts are read and grow.
use Rattle.std.proofs.Common.{◌≡◌, ◌∙◌, ℕ, zero, suc, ◌+◌, ◌-◌, ◌<◌, ◌≤◌, List, [], ◌∷◌, ◌++◌, Bool, true, false, Option, Some, None, unwrap_or, is_some, length, map, get_or, take, drop, refl, sym, ap, subst, arith, zero-add, length-append, Bor}
use Rattle.std.specs.Option.{option_copied}
use Rattle.std.specs.List.{slice_range, concat}
use Rattle.std.proofs.lemmas.List.{append_assoc, append-nil, map-append, take_at, drop_at, take_more, drop_more, take-append-drop, length-take, length-drop, same_lists, places}
use Rattle.sub_types.specs.Optional.{optional}
use Rattle.sub_types.specs.Slots.{slots, optional-slots, slots-append, length-slots}
use Rattle.col_text.specs.Text.{ends_of, offset_of, pieces, HoldsTexts}

-- one list of texts behind another
pub concat-append : (xs ys : List (List ℕ)) → concat (xs ++ ys) ≡ concat xs ++ concat ys
concat-append [] ys = refl
concat-append (x ∷ xs) ys = ap (λ (rest : List ℕ). x ++ rest) (concat-append xs ys) ∙ sym (append_assoc x (concat xs) (concat ys))

-- as many ends as texts
pub length-ends_of : (start : ℕ) (texts : List (List ℕ)) → length (ends_of start texts) ≡ length texts
length-ends_of start [] = refl
length-ends_of start (text ∷ texts) = let rest = length-ends_of (start + length text) texts in omega (arith, rest)

-- the ends of one list of texts behind another
pub ends_of-append : (start : ℕ) (xs ys : List (List ℕ)) → ends_of start (xs ++ ys) ≡ ends_of start xs ++ ends_of (start + length (concat xs)) ys
ends_of-append start [] ys = ap (λ n. ends_of n ys) (omega arith)
ends_of-append start (x ∷ xs) ys =
    let place : start + length x + length (concat xs) ≡ start + length (x ++ concat xs) = omega (arith, length-append x (concat xs)) in
    ap (λ rest. (start + length x) ∷ rest) (ends_of-append (start + length x) xs ys ∙ ap (λ n. ends_of (start + length x) xs ++ ends_of n ys) place)

-- what stands between two texts' ends
pub slice-middle : (front text back : List ℕ) (start : ℕ) → length front ≡ start → slice_range (front ++ (text ++ back)) start (start + length text) ≡ text
slice-middle front text back start long =
    ap (take (start + length text - start)) (drop_at front (text ++ back) start long) ∙ take_at text back (start + length text - start) (omega arith)

-- the texts can be read back from their ends and bytes
pub pieces-ends_of : (texts : List (List ℕ)) (start : ℕ) (front : List ℕ) → length front ≡ start → pieces start (ends_of start texts) (front ++ concat texts) ≡ texts
pieces-ends_of [] start front long = refl
pieces-ends_of (text ∷ texts) start front long =
    let first = slice-middle front text (concat texts) start long in
    let moved : front ++ (text ++ concat texts) ≡ (front ++ text) ++ concat texts = sym (append_assoc front text (concat texts)) in
    let rest = pieces-ends_of texts (start + length text) (front ++ text) (omega (arith, length-append front text)) in
    ap (λ t. t ∷ pieces (start + length text) (ends_of (start + length text) texts) (front ++ (text ++ concat texts))) first
    ∙ ap (λ bytes. text ∷ pieces (start + length text) (ends_of (start + length text) texts) bytes) moved
    ∙ ap (λ rest. text ∷ rest) rest

-- what the buffers of a column show is the column
pub seen : (column : List (Option (List ℕ))) (ends bytes : List ℕ) (valid : List Bool) → HoldsTexts column ends bytes valid → optional (pieces 0 ends bytes) valid ≡ column
seen column ends bytes valid holds =
    rw (holds.ends_are, holds.bytes_are, holds.valid_are, pieces-ends_of (slots [] column) 0 [] refl) (optional-slots [] column)

-- one column behind another
pub HoldsTexts-append : (column more : List (Option (List ℕ))) (ends bytes : List ℕ) (valid : List Bool) (n : ℕ) → n ≡ length bytes → HoldsTexts column ends bytes valid → HoldsTexts (column ++ more) (ends ++ ends_of n (slots [] more)) (bytes ++ concat (slots [] more)) (valid ++ map is_some more)
HoldsTexts-append column more ends bytes valid n long holds =
    let front = slots [] column in
    let back = slots [] more in
    let joined = slots-append [] column more in
    record {
      ends_are = rw (long, holds.ends_are, holds.bytes_are, joined) (sym (ends_of-append 0 front back ∙ ap (λ n. ends_of 0 front ++ ends_of n back) (zero-add (length (concat front)))));
      bytes_are = rw (holds.bytes_are, joined) (sym (concat-append front back));
      valid_are = rw holds.valid_are (sym (map-append is_some column more));
    }

-- one value more
pub HoldsTexts-push : (column : List (Option (List ℕ))) (value : Option (List ℕ)) (ends bytes : List ℕ) (valid : List Bool) (n : ℕ) → n ≡ length (bytes ++ unwrap_or value []) → HoldsTexts column ends bytes valid → HoldsTexts (column ++ value ∷ []) (ends ++ n ∷ []) (bytes ++ unwrap_or value []) (valid ++ is_some value ∷ [])
HoldsTexts-push column value ends bytes valid n long holds =
    let text = unwrap_or value [] in
    let grown = HoldsTexts-append column (value ∷ []) ends bytes valid (length bytes) refl holds in
    let place : n ≡ length bytes + length text = long ∙ length-append bytes text in
    record {
      ends_are = ap (λ n. ends ++ n ∷ []) place ∙ grown.ends_are;
      bytes_are = ap (λ (t : List ℕ). bytes ++ t) (sym (append-nil text)) ∙ grown.bytes_are;
      valid_are = grown.valid_are;
    }

-- a text that may be lent, as the bytes that are stored
pub now-unwrap_or : (value : Option (Bor (List ℕ))) (d : Bor (List ℕ)) → d.now ≡ [] → (unwrap_or value d).now ≡ unwrap_or (option_copied value) []
now-unwrap_or (Some text) d empty = refl
now-unwrap_or None d empty = empty

pub is_some-option_copied : (value : Option (Bor (List ℕ))) → is_some value ≡ is_some (option_copied value)
is_some-option_copied (Some text) = refl
is_some-option_copied None = refl

-- the first texts and the next one
offset_of-append : (front : List (List ℕ)) (text : List ℕ) → length (concat (front ++ text ∷ [])) ≡ length (concat front) + length text
offset_of-append front text =
    ap length (concat-append front (text ∷ [])) ∙ length-append (concat front) (text ++ []) ∙ ap (λ (t : List ℕ). length (concat front) + length t) (append-nil text)

pub offset_of-more : (texts : List (List ℕ)) (i : ℕ) → i < length texts → offset_of texts (i + 1) ≡ offset_of texts i + length (get_or texts i [])
offset_of-more texts i below =
    ap (λ (front : List (List ℕ)). length (concat front)) (take_more texts i [] below) ∙ offset_of-append (take i texts) (get_or texts i [])

-- the end of a text is where the next begins
pub get_or-ends_of : (texts : List (List ℕ)) (start i d : ℕ) → i < length texts → get_or (ends_of start texts) i d ≡ start + offset_of texts (suc i)
get_or-ends_of [] start i d below = absurd (omega arith)
get_or-ends_of (text ∷ texts) start zero d below = omega (arith, length-append text [])
get_or-ends_of (text ∷ texts) start (suc i) d below =
    let rest = get_or-ends_of texts (start + length text) i d (omega arith) in
    omega (arith, rest, length-append text (concat (take (suc i) texts)))

pub ends_of-before : (texts : List (List ℕ)) (i d : ℕ) → 0 < i → i ≤ length texts → get_or (ends_of 0 texts) (i - 1) d ≡ offset_of texts i
ends_of-before texts i d above within =
    let next : suc (i - 1) ≡ i = omega arith in
    get_or-ends_of texts 0 (i - 1) d (omega arith) ∙ zero-add (offset_of texts (suc (i - 1))) ∙ ap (offset_of texts) next

-- the ends of the first texts and the next one
pub ends_of-more : (start : ℕ) (texts : List (List ℕ)) (i : ℕ) → i < length texts → ends_of start (take (i + 1) texts) ≡ ends_of start (take i texts) ++ (start + offset_of texts (i + 1)) ∷ []
ends_of-more start texts i below =
    let next = offset_of-more texts i below in
    let place : start + length (concat (take i texts)) + length (get_or texts i []) ≡ start + offset_of texts (i + 1) = omega (arith, next) in
    ap (ends_of start) (take_more texts i [] below) ∙ ends_of-append start (take i texts) (get_or texts i [] ∷ []) ∙ ap (λ n. ends_of start (take i texts) ++ n ∷ []) place

-- the first texts, some more and the rest
pub take-between : (texts : List (List ℕ)) (a b : ℕ) → a ≤ b → b ≤ length texts → take b texts ≡ take a texts ++ slice_range texts a b
take-between texts a b rising within =
    same_lists _ _ (simp (length-take, length-append, length-drop) (omega arith)) (λ k d h. grind (arith, places))

-- the bytes of a part of the texts
pub offset_of-part : (texts : List (List ℕ)) (a b : ℕ) → a ≤ b → b ≤ length texts → offset_of texts a + length (concat (slice_range texts a b)) ≡ offset_of texts b
offset_of-part texts a b rising within =
    sym (ap (λ (front : List (List ℕ)). length (concat front)) (take-between texts a b rising within) ∙ ap length (concat-append (take a texts) (slice_range texts a b)) ∙ length-append (concat (take a texts)) (concat (slice_range texts a b)))

pub offset_of-le : (texts : List (List ℕ)) (i : ℕ) → offset_of texts i ≤ length (concat texts)
offset_of-le texts i =
    let whole : length (concat (take i texts ++ drop i texts)) ≡ length (concat texts) = ap (λ (all : List (List ℕ)). length (concat all)) (take-append-drop i texts) in
    let parts = ap length (concat-append (take i texts) (drop i texts)) ∙ length-append (concat (take i texts)) (concat (drop i texts)) in
    omega (arith, whole, parts)

pub slice-offset_of : (texts : List (List ℕ)) (a b : ℕ) → a ≤ b → b ≤ length texts → slice_range (concat texts) (offset_of texts a) (offset_of texts b) ≡ concat (slice_range texts a b)
slice-offset_of texts a b rising within =
    let middle = slice_range texts a b in
    let long = offset_of-part texts a b rising within in
    let whole : concat texts ≡ concat (take a texts) ++ (concat middle ++ concat (drop b texts)) =
    ap concat (sym (take-append-drop b texts) ∙ ap (λ (front : List (List ℕ)). front ++ drop b texts) (take-between texts a b rising within))
    ∙ concat-append (take a texts ++ middle) (drop b texts) ∙ ap (λ (front : List ℕ). front ++ concat (drop b texts)) (concat-append (take a texts) middle)
    ∙ append_assoc (concat (take a texts)) (concat middle) (concat (drop b texts)) in
    ap (λ (bytes : List ℕ). slice_range bytes (offset_of texts a) (offset_of texts b)) whole
    ∙ ap (λ n. slice_range (concat (take a texts) ++ (concat middle ++ concat (drop b texts))) (offset_of texts a) n) (sym long)
    ∙ slice-middle (concat (take a texts)) (concat middle) (concat (drop b texts)) (offset_of texts a) refl

-- where a text of a part begins in the part's bytes
pub offset_of-slice : (texts : List (List ℕ)) (from to i : ℕ) → from + i ≤ to → to ≤ length texts → offset_of texts from + offset_of (slice_range texts from to) i ≡ offset_of texts (from + i)
offset_of-slice texts from to i below within =
    let front : take i (slice_range texts from to) ≡ slice_range texts from (from + i) =
    same_lists _ _ (simp (length-take, length-drop) (omega arith)) (λ k d h. grind (arith, places)) in
    ap (λ (part : List (List ℕ)). offset_of texts from + length (concat part)) front ∙ offset_of-part texts from (from + i) (omega arith) (omega arith)

-- the bytes of one text
pub concat-one : (texts : List (List ℕ)) (i : ℕ) → i < length texts → concat (slice_range texts i (i + 1)) ≡ get_or texts i []
concat-one texts i below =
    let size : i + 1 - i ≡ 1 = omega arith in
    let one : slice_range texts i (i + 1) ≡ get_or texts i [] ∷ [] = ap (λ n. take n (drop i texts)) size ∙ ap (take 1) (drop_more texts i [] below) in
    ap concat one ∙ append-nil (get_or texts i [])

-- a value that is there is its slot
pub get_or-valid : (column : List (Option (List ℕ))) (i : ℕ) → get_or (map is_some column) i false ≡ true → get_or column i None ≡ Some (get_or (slots [] column) i [])
get_or-valid [] i is_valid = absurd (cc)
get_or-valid (Some text ∷ column) zero is_valid = refl
get_or-valid (None ∷ column) zero is_valid = absurd (cc)
get_or-valid (value ∷ column) (suc i) is_valid = get_or-valid column i is_valid

-- and a null isn't there
pub get_or-null : (column : List (Option (List ℕ))) (i : ℕ) → get_or (map is_some column) i false ≡ false → get_or column i None ≡ None
get_or-null [] i is_null = refl
get_or-null (Some text ∷ column) zero is_null = absurd (cc)
get_or-null (None ∷ column) zero is_null = refl
get_or-null (value ∷ column) (suc i) is_null = get_or-null column i is_null

-- the buffers of what is seen are the buffers of the column
pub HoldsTexts-seen : (column : List (Option (List ℕ))) (ends bytes : List ℕ) (valid : List Bool) → optional (pieces 0 ends bytes) valid ≡ column → HoldsTexts (optional (pieces 0 ends bytes) valid) ends bytes valid → HoldsTexts column ends bytes valid
HoldsTexts-seen column ends bytes valid e holds = let P : List (Option (List ℕ)) → Type 0 = λ c. HoldsTexts c ends bytes valid in subst P e holds

-- and the other way round
pub HoldsTexts-shown : (column : List (Option (List ℕ))) (ends bytes : List ℕ) (valid : List Bool) → HoldsTexts column ends bytes valid → HoldsTexts (optional (pieces 0 ends bytes) valid) ends bytes valid
HoldsTexts-shown column ends bytes valid holds = let P : List (Option (List ℕ)) → Type 0 = λ c. HoldsTexts c ends bytes valid in subst P (sym (seen column ends bytes valid holds)) holds

-- as many ends as values
pub HoldsTexts-length : (column : List (Option (List ℕ))) (ends bytes : List ℕ) (valid : List Bool) → HoldsTexts column ends bytes valid → length ends ≡ length column
HoldsTexts-length column ends bytes valid holds = ap length holds.ends_are ∙ length-ends_of 0 (slots [] column) ∙ length-slots [] column

-- the end before a value is where it begins
pub HoldsTexts-offset : (column : List (Option (List ℕ))) (ends bytes : List ℕ) (valid : List Bool) (i d : ℕ) → HoldsTexts column ends bytes valid → 0 < i → i ≤ length column → get_or ends (i - 1) d ≡ offset_of (slots [] column) i
HoldsTexts-offset column ends bytes valid i d holds above within =
    ap (λ xs. get_or xs (i - 1) d) holds.ends_are ∙ ends_of-before (slots [] column) i d above (omega (arith, length-slots [] column))
