-- A search through texts that stand one behind the other, and which of them contain what is sought.
use Rattle.std.proofs.Common.{◌≡◌, ◌∙◌, ℕ, zero, suc, ◌+◌, ◌-◌, ◌<◌, ◌≤◌, List, [], ◌∷◌, ◌++◌, length, map, get_or, take, drop, set, replicate, Bool, true, false, Option, Some, None, Ok, is_some, refl, sym, add-one, ap, ap₂, subst, ⊎_elim, arith, length-append, take-append-drop}
use Rattle.std.specs.List.{All, concat, slice_range}
use Rattle.std.specs.Str.{IsUtf8}
use Rattle.std.specs.Simd.Lanes.{zip2}
use Rattle.std.proofs.Math.Dec.{leb}
use Rattle.std.proofs.lemmas.Bool.{cases_lt, false≢true, leb-true, leb-false}
use Rattle.std.proofs.lemmas.List.{append_assoc, get_or-drop, get_or-map, get_or-replicate, get_or-set_same, get_or-set_other, get_or_default, length-drop, length-map, length-replicate, length-set, same_lists, take_all}
use Rattle.std.proofs.lemmas.List.Elements.{All-head, All-tail}
use Rattle.memchr.specs.Find.{OccursAt, FindsNeedle, Nowhere}
use Rattle.memchr.proofs.lemmas.MatchLemmas.{OccursAt-split}
use Rattle.sub_types.specs.Nullable.{bool_value, bytes_value}
use Rattle.sub_types.specs.Optional.{optional}
use Rattle.sub_types.specs.PartLaws.{get_or-part}
use Rattle.sub_types.specs.Slots.{slots}
use Rattle.sub_types.specs.declared.value.Value.TheVariants as values
use Rattle.col_text.specs.Text.{ends_of, offset_of}
use Rattle.col_text.proofs.TextLaws.{get_or-ends_of, offset_of-more, offset_of-part, slice-offset_of, concat-one}
use Rattle.plan_denote.specs.Computed.{Computed}
use Rattle.plan_denote.specs.Texts.{begins, contains, tested}
use Rattle.text_match.proofs.TextLaws.{same_tests, some_end-true, some_end-from, begins-true, begins-append, OccursAt-append}
use Rattle.call_kernels.specs.Searches.{AreMarked}
use Rattle.call_kernels.proofs.PlaceLaws.{IsText, tested_texts}

-- ---- what stands in a text

-- a text contains what stands at a place in it
occurs_contained : (text pattern : List ℕ) (k : ℕ) → OccursAt text pattern k → contains text pattern ≡ true
occurs_contained text pattern k occurs =
    let here : begins (drop k text) pattern ≡ true = ap (λ t. begins t pattern) (OccursAt-split text pattern k occurs) ∙ begins-append pattern _ in
    ap (λ t. contains t pattern) (sym (take-append-drop k text)) ∙ some_end-from (λ end. begins end pattern) (take k text) (drop k text) here

-- what stands in what is left from a place on stands so much further in the whole
pub further : (hay needle : List ℕ) (from k : ℕ) → from ≤ length hay → OccursAt (drop from hay) needle k → OccursAt hay needle (from + k)
further hay needle from k within occurs = record {
  fits = omega (arith, occurs.fits, length-drop from hay);
  reads = λ j below.
      let moved : from + k + j ≡ from + (k + j) = omega arith in
      ap (λ n. get_or hay n 0) moved ∙ sym (get_or-drop from hay (k + j) 0) ∙ occurs.reads j below;
}

pub nearer : (hay needle : List ℕ) (from k : ℕ) → from ≤ length hay → from ≤ k → OccursAt hay needle k → OccursAt (drop from hay) needle (k - from)
nearer hay needle from k within above occurs = record {
  fits = omega (arith, occurs.fits, length-drop from hay);
  reads = λ j below.
      let moved : from + (k - from + j) ≡ k + j = omega arith in
      get_or-drop from hay (k - from + j) 0 ∙ ap (λ n. get_or hay n 0) moved ∙ occurs.reads j below;
}

-- all that is left from a place on
rest_is : (hay : List ℕ) (from : ℕ) → take (length hay - from) (drop from hay) ≡ drop from hay
rest_is hay from = take_all (length hay - from) (drop from hay) (omega (arith, length-drop from hay))

pub found_further : (hay needle : List ℕ) (from k : ℕ) → from ≤ length hay → FindsNeedle (slice_range hay from (length hay)) needle 0 (Some k) → FindsNeedle hay needle from (Some (from + k))
found_further hay needle from k within found_in = moved (subst (λ (rest : List ℕ). FindsNeedle rest needle 0 (Some k)) (rest_is hay from) found_in)
  where
    moved : FindsNeedle (drop from hay) needle 0 (Some k) → FindsNeedle hay needle from (Some (from + k))
    moved found = (
      record {
        low = omega arith;
        high = omega (arith, found.1.fits, length-drop from hay);
        before = λ m low high occurs. found.0.before (m - from) (omega arith) (omega (arith, low, high)) (nearer hay needle from m within low occurs);
      },
      further hay needle from k within found.1,
    )

pub none_further : (hay needle : List ℕ) (from : ℕ) → from ≤ length hay → FindsNeedle (slice_range hay from (length hay)) needle 0 None → FindsNeedle hay needle from None
none_further hay needle from within nowhere_in = λ k low high occurs.
    let nowhere = subst (λ (rest : List ℕ). FindsNeedle rest needle 0 None) (rest_is hay from) nowhere_in in
    let near = nearer hay needle from k within low occurs in
    nowhere (k - from) (omega arith) (omega (arith, near.fits)) near

-- ---- texts one behind the other

-- those before a text, the text, and those behind it
parted : (texts : List (List ℕ)) (k : ℕ) → k < length texts → concat texts ≡ concat (take k texts) ++ (get_or texts k [] ++ concat (drop (suc k) texts))
parted [] k below = absurd (omega arith)
parted (text ∷ texts) zero below = refl
parted (text ∷ texts) (suc k) below = ap (λ rest. text ++ rest) (parted texts k (omega arith)) ∙ sym (append_assoc text (concat (take k texts)) (get_or texts k [] ++ concat (drop (suc k) texts)))

-- the pattern stands in a text, seen from the beginning of all of them
record StandsIn (texts : List (List ℕ)) (pattern : List ℕ) (k : ℕ) : Type 0 where
  place : ℕ
  occurs : OccursAt (concat texts) pattern place
  low : offset_of texts k ≤ place
  high : place + length pattern ≤ offset_of texts (k + 1)

stands : (texts : List (List ℕ)) (pattern : List ℕ) (k : ℕ) → k < length texts → contains (get_or texts k []) pattern ≡ true → StandsIn texts pattern k
stands texts pattern k below has =
    let text = get_or texts k [] in
    let found = some_end-true (λ end. begins end pattern) text has in
    let begun = begins-true found.rest pattern found.passes in
    let behind = concat (drop (suc k) texts) in
    let front = concat (take k texts) ++ found.front in
    let here : text ≡ found.front ++ (pattern ++ begun.0) = found.split ∙ ap (λ t. found.front ++ t) begun.1 in
    let whole : concat texts ≡ front ++ (pattern ++ (begun.0 ++ behind)) =
    parted texts k below
    ∙ ap (λ (t : List ℕ). concat (take k texts) ++ (t ++ behind)) here
    ∙ ap (λ (t : List ℕ). concat (take k texts) ++ t) (append_assoc found.front (pattern ++ begun.0) behind ∙ ap (λ (t : List ℕ). found.front ++ t) (append_assoc pattern begun.0 behind))
    ∙ sym (append_assoc (concat (take k texts)) found.front (pattern ++ (begun.0 ++ behind))) in
    record {
      place = length front;
      occurs = OccursAt-append (concat texts) front pattern (begun.0 ++ behind) whole;
      low = omega (arith, length-append (concat (take k texts)) found.front);
      high = omega (arith, length-append (concat (take k texts)) found.front, offset_of-more texts k below, ap length here, length-append found.front (pattern ++ begun.0), length-append pattern begun.0);
    }

-- what stands between a text's ends stands in it
pub stands_between : (texts : List (List ℕ)) (pattern : List ℕ) (k place : ℕ) → k < length texts → offset_of texts k ≤ place → place + length pattern ≤ offset_of texts (k + 1) → OccursAt (concat texts) pattern place → contains (get_or texts k []) pattern ≡ true
stands_between texts pattern k place below low high occurs =
    let text = get_or texts k [] in
    let begin = offset_of texts k in
    let long = offset_of-more texts k below in
    let cut : slice_range (concat texts) begin (offset_of texts (k + 1)) ≡ text = slice-offset_of texts k (k + 1) (omega arith) (omega arith) ∙ concat-one texts k below in
    occurs_contained text pattern (place - begin) (record {
      fits = omega (arith, long);
      reads = λ j inside.
          let within : place - begin + j < length text = omega (arith, long) in
          let moved : begin + (place - begin + j) ≡ place + j = omega arith in
          ap (λ (t : List ℕ). get_or t (place - begin + j) 0) (sym cut)
          ∙ get_or-part (concat texts) begin (offset_of texts (k + 1)) (place - begin + j) 0 (omega (arith, long))
          ∙ ap (λ n. get_or (concat texts) n 0) moved
          ∙ occurs.reads j inside;
    })

-- a text that ends before the first place found doesn't contain the pattern
pub passed_over : (texts : List (List ℕ)) (pattern : List ℕ) (at place k : ℕ) → k < length texts → at ≤ offset_of texts k → offset_of texts (k + 1) ≤ place → 0 < length pattern → Nowhere (OccursAt (concat texts) pattern) at place → contains (get_or texts k []) pattern ≡ false
passed_over texts pattern at place k below above end some nowhere = same_tests (contains (get_or texts k []) pattern) false
    (λ yes. let found = stands texts pattern k below yes in absurd (nowhere found.place (omega (arith, found.low)) (omega (arith, found.high)) found.occurs))
    (λ no. absurd (false≢true no))

-- where nothing is found any more, no text contains the pattern
pub none_left : (texts : List (List ℕ)) (pattern : List ℕ) (at k : ℕ) → k < length texts → at ≤ offset_of texts k → FindsNeedle (concat texts) pattern at None → contains (get_or texts k []) pattern ≡ false
none_left texts pattern at k below above nowhere = same_tests (contains (get_or texts k []) pattern) false
    (λ yes. let found = stands texts pattern k below yes in absurd (nowhere found.place (omega (arith, found.low)) (omega (arith, found.occurs.fits)) found.occurs))
    (λ no. absurd (false≢true no))

-- the text in which the first place found lies contains the pattern where that ends in it too
pub settled : (texts : List (List ℕ)) (pattern : List ℕ) (at place k : ℕ) → k < length texts → at ≤ offset_of texts k → offset_of texts k ≤ place → FindsNeedle (concat texts) pattern at (Some place) → (b : Bool) → (b ≡ true → place + length pattern ≤ offset_of texts (k + 1)) → (b ≡ false → offset_of texts (k + 1) < place + length pattern) → b ≡ contains (get_or texts k []) pattern
settled texts pattern at place k below above low found true fits over = sym (stands_between texts pattern k place below low (fits refl) found.1)
settled texts pattern at place k below above low found false fits over = same_tests false (contains (get_or texts k []) pattern)
    (λ no. absurd (false≢true no))
    (λ yes.
    let other = stands texts pattern k below yes in
    absurd (found.0.before other.place (omega (arith, other.low)) (omega (arith, other.high, over refl)) other.occurs))

-- ---- the bits

pub marked_first : (pattern : List ℕ) (texts : List (List ℕ)) (bits : List Bool) → bits ≡ replicate (length texts) false → AreMarked pattern texts 0 bits
marked_first pattern texts bits is = record {
  count = ap length is ∙ length-replicate (length texts) false;
  done = λ k before below. absurd (omega arith);
  left = λ k behind below. ap (λ (bits : List Bool). get_or bits k false) is ∙ get_or-replicate (length texts) k false false below;
}

-- one more text is settled, and those before it don't contain the pattern
pub marked_more : (pattern : List ℕ) (texts : List (List ℕ)) (row hit : ℕ) (bits : List Bool) (bit : Bool) → AreMarked pattern texts row bits → row ≤ hit → hit < length texts
    → ((k : ℕ) → row ≤ k → k < hit → contains (get_or texts k []) pattern ≡ false) → bit ≡ contains (get_or texts hit []) pattern → AreMarked pattern texts (hit + 1) (set bits hit bit)
marked_more pattern texts row hit bits bit so_far rising there passed is = record {
  count = length-set bits hit bit ∙ so_far.count;
  done = λ k before below. done k before below;
  left = λ k behind below. get_or-set_other bits hit k bit false (λ same. omega arith) ∙ so_far.left k (omega arith) below;
}
  where
    done : (k : ℕ) → k < hit + 1 → k < length texts → get_or (set bits hit bit) k false ≡ contains (get_or texts k []) pattern
    done k before below = ⊎_elim
        (λ (other : k < hit). get_or-set_other bits hit k bit false (λ same. omega arith) ∙ ⊎_elim
        (λ (old : k < row). so_far.done k old below)
        (λ (new : row ≤ k). so_far.left k new below ∙ sym (passed k new other))
        (cases_lt k row))
        (λ (last : hit ≤ k).
        let same : k ≡ hit = omega arith in
        ap (λ k. get_or (set bits hit bit) k false) same ∙ get_or-set_same bits hit bit false (omega (arith, so_far.count)) ∙ is ∙ ap (λ k. contains (get_or texts k []) pattern) (sym same))
        (cases_lt k hit)

-- all bits, once the texts that are left don't contain the pattern
pub marked_all : (pattern : List ℕ) (texts : List (List ℕ)) (row : ℕ) (bits : List Bool) → AreMarked pattern texts row bits
    → ((k : ℕ) → row ≤ k → k < length texts → contains (get_or texts k []) pattern ≡ false) → bits ≡ map (λ text. contains text pattern) texts
marked_all pattern texts row bits so_far rest =
    same_lists bits (map (λ text. contains text pattern) texts) (so_far.count ∙ sym (length-map texts (λ text. contains text pattern))) (λ k d below. at k d (omega (arith, so_far.count)))
  where
    bit : (k : ℕ) → k < length texts → get_or bits k false ≡ contains (get_or texts k []) pattern
    bit k below = ⊎_elim (λ (old : k < row). so_far.done k old below) (λ (new : row ≤ k). so_far.left k new below ∙ sym (rest k new below)) (cases_lt k row)

    at : (k : ℕ) (d : Bool) → k < length texts → get_or bits k d ≡ get_or (map (λ text. contains text pattern) texts) k d
    at k d below = get_or_default bits k d false (omega (arith, so_far.count)) ∙ bit k below ∙ sym (get_or-map (λ text. contains text pattern) texts k [] d below)

-- ---- a step of the search

abbrev ends : List (List ℕ) → List ℕ
ends texts = ends_of 0 texts

end_is : (texts : List (List ℕ)) (k : ℕ) → k < length texts → get_or (ends texts) k 0 ≡ offset_of texts (k + 1)
end_is texts k below = get_or-ends_of texts 0 k 0 below ∙ omega arith ∙ ap (offset_of texts) (sym (add-one k))

all_bytes : (texts : List (List ℕ)) (n : ℕ) → n ≡ length texts → offset_of texts n ≡ length (concat texts)
all_bytes texts n is = ap (λ (front : List (List ℕ)). length (concat front)) (take_all n texts (omega (arith, is)))

offset_of-rising : (texts : List (List ℕ)) (a b : ℕ) → a ≤ b → b ≤ length texts → offset_of texts a ≤ offset_of texts b
offset_of-rising texts a b rising within = omega (arith, offset_of-part texts a b rising within)

-- what is found from where a text begins on is found in that text or a later one
pub row_there : (texts : List (List ℕ)) (pattern : List ℕ) (row at place : ℕ) → 0 < length pattern → row ≤ length texts → at ≡ offset_of texts row → FindsNeedle (concat texts) pattern at (Some place) → row < length texts
row_there texts pattern row at place some within at_is found = ⊎_elim
    (λ (below : row < length texts). below)
    (λ (last : length texts ≤ row). absurd (omega (arith, all_bytes texts row (omega (arith, within, last)), at_is, found.0.low, found.1.fits, some)))
    (cases_lt row (length texts))

pub ends_behind : (texts : List (List ℕ)) (pattern : List ℕ) (place : ℕ) → 0 < length pattern → 0 < length texts → OccursAt (concat texts) pattern place → place < get_or (ends_of 0 texts) (length texts - 1) 0
ends_behind texts pattern place some there occurs =
    let last : length texts - 1 + 1 ≡ length texts = omega arith in
    omega (arith, end_is texts (length texts - 1) (omega arith), all_bytes texts (length texts - 1 + 1) last, occurs.fits, some)

-- a text that is settled, and all before it
pub searched_more : (texts : List (List ℕ)) (pattern : List ℕ) (row at place hit end : ℕ) (bits : List Bool) → 0 < length pattern → at ≡ offset_of texts row → AreMarked pattern texts row bits → FindsNeedle (concat texts) pattern at (Some place)
    → row ≤ hit → hit < length texts → ((k : ℕ) → row ≤ k → k < hit → get_or (ends_of 0 texts) k 0 ≤ place) → place < get_or (ends_of 0 texts) hit 0 → end ≡ get_or (ends_of 0 texts) hit 0
    → (end ≡ offset_of texts (hit + 1)) × AreMarked pattern texts (hit + 1) (set bits hit (leb (length pattern) (end - place)))
searched_more texts pattern row at place hit end bits some at_is so_far found rising there before behind end_given = (
  end_here,
  marked_more pattern texts row hit bits (leb (length pattern) (end - place)) so_far rising there passed
      (settled texts pattern at place hit there (above hit rising there) begins found (leb (length pattern) (end - place))
      (λ yes. omega (arith, leb-true (length pattern) (end - place) yes, end_here, inside))
      (λ no. omega (arith, leb-false (length pattern) (end - place) no, end_here, inside))),
)
  where
    end_here : end ≡ offset_of texts (hit + 1)
    end_here = end_given ∙ end_is texts hit there

    inside : place < end
    inside = omega (arith, behind, end_given)

    above : (k : ℕ) → row ≤ k → k < length texts → at ≤ offset_of texts k
    above k low below = omega (arith, offset_of-rising texts row k low (omega arith), at_is)

    passed : (k : ℕ) → row ≤ k → k < hit → contains (get_or texts k []) pattern ≡ false
    passed k low below =
        let inner : k < length texts = omega arith in
        passed_over texts pattern at place k inner (above k low inner) (omega (arith, before k low below, end_is texts k inner)) some found.0.before

    begins : offset_of texts hit ≤ place
    begins = ⊎_elim
        (λ (later : row < hit).
        let previous : hit - 1 + 1 ≡ hit = omega arith in
        omega (arith, before (hit - 1) (omega arith) (omega arith), end_is texts (hit - 1) (omega arith), ap (offset_of texts) previous))
        (λ (last : hit ≤ row).
        let same : hit ≡ row = omega arith in
        omega (arith, ap (offset_of texts) same, at_is, found.0.low))
        (cases_lt row hit)

-- nothing is found any more
pub searched_all : (texts : List (List ℕ)) (pattern : List ℕ) (row at : ℕ) (bits : List Bool) → at ≡ offset_of texts row → AreMarked pattern texts row bits → FindsNeedle (concat texts) pattern at None → bits ≡ map (λ text. contains text pattern) texts
searched_all texts pattern row at bits at_is so_far nowhere =
    marked_all pattern texts row bits so_far (λ k low below. none_left texts pattern at k below (omega (arith, offset_of-rising texts row k low (omega arith), at_is)) nowhere)

-- ---- as truth values

pub column_tested : (column : List (Option (List ℕ))) (pattern : List ℕ) → All IsText column → IsUtf8 pattern
    → map (λ (one : Option Bool). let worth : Computed = Ok (bool_value one) in worth) (optional (map (λ text. contains text pattern) (slots [] column)) (map is_some column))
    ≡ zip2 (tested contains) (map bytes_value column) (replicate (length column) (values.Bytes pattern))
column_tested [] pattern fit pattern_fits = refl
column_tested (Some text ∷ column) pattern fit pattern_fits = ap₂ (λ (x : Computed) (xs : List Computed). x ∷ xs)
    (sym (tested_texts contains text pattern (All-head IsText (Some text) column fit) pattern_fits))
    (column_tested column pattern (All-tail IsText (Some text) column fit) pattern_fits)
column_tested (None ∷ column) pattern fit pattern_fits = ap (λ (xs : List Computed). values_null ∷ xs) (column_tested column pattern (All-tail IsText None column fit) pattern_fits)
  where
    values_null : Computed
    values_null = Ok values.Null

-- each text contains what is empty
pub empty_contained : (texts : List (List ℕ)) → map (λ text. contains text []) texts ≡ replicate (length texts) true
empty_contained [] = refl
empty_contained ([] ∷ texts) = ap (λ (rest : List Bool). true ∷ rest) (empty_contained texts)
empty_contained ((c ∷ text) ∷ texts) = ap (λ (rest : List Bool). true ∷ rest) (empty_contained texts)
