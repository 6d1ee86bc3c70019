-- Operands that are all evaluated, and what a function makes of their values.
use Rattle.std.proofs.Common.{◌≡◌, ◌∙◌, ℕ, zero, suc, ◌+◌, ◌<◌, ◌≤◌, List, [], ◌∷◌, ◌++◌, length, map, take, drop, get_or, Result, Ok, Err, refl, sym, ap, ap₂, subst, arith}
use Rattle.std.specs.List.{All, range_with_len}
use Rattle.std.proofs.lemmas.List.{drop_more, map-append}
use Rattle.std.proofs.lemmas.List.Elements.{All-head, All-tail}
use Rattle.std.proofs.lemmas.List.FromFn.{fill_by_all, get_or-map-range_with_len, length-map-range_with_len}
use Rattle.sub_types.specs.declared.fault.FaultKind.{FaultKind}
use Rattle.sub_types.specs.Rows.{across, transpose}
use Rattle.sub_types.specs.ResultSteps.{◌>>=◌, collect}
use Rattle.kernels.specs.declared.selection.Stop.{Stop}
use Rattle.kernels.specs.declared.selection.Stop.TheVariants.{Never, At}
use Rattle.kernels.specs.Until.{Until, step, until}
use Rattle.batch_nodes.specs.Narrowed.{applied}
use Rattle.batch_nodes.specs.Strict.{at_row, earlier, behind, lengthened}
use Rattle.batch_nodes.proofs.UntilLaws.{until-applied}

-- ---- the values before the stop

step-length : {X : Type 0} (row n : ℕ) (r : Result X FaultKind) (rest : Until X) → length rest.values ≤ n → length (step row r rest).values ≤ n + 1
step-length row n (Ok x) rest below = omega (arith, below)
step-length row n (Err kind) rest below = omega arith

pub until-length : {X : Type 0} (f : ℕ → Result X FaultKind) (rows : List ℕ) → length (until f rows).values ≤ length rows
until-length f [] = omega arith
until-length f (row ∷ rows) = omega (arith, step-length row (length rows) (f row) (until f rows) (until-length f rows))

step-get : {X : Type 0} (f : ℕ → Result X FaultKind) (row : ℕ) (rows : List ℕ) (r : Result X FaultKind) (i d : ℕ) (e : X) → f row ≡ r
    → ((k : ℕ) → k < length (until f rows).values → f (get_or rows k d) ≡ Ok (get_or (until f rows).values k e))
    → i < length (step row r (until f rows)).values → f (get_or (row ∷ rows) i d) ≡ Ok (get_or (step row r (until f rows)).values i e)
step-get f row rows (Ok x) zero d e is rest below = is
step-get f row rows (Ok x) (suc i) d e is rest below = rest i (omega (arith, below))
step-get f row rows (Err kind) i d e is rest below = absurd (omega (arith, below))

pub until-get : {X : Type 0} (f : ℕ → Result X FaultKind) (rows : List ℕ) (i d : ℕ) (e : X) → i < length (until f rows).values → f (get_or rows i d) ≡ Ok (get_or (until f rows).values i e)
until-get f [] i d e below = absurd (omega (arith, below))
until-get f (row ∷ rows) i d e below = step-get f row rows (f row) i d e refl (λ k less. until-get f rows k d e less) below

-- what holds of each value that a row has
pub until-all : {X : Type 0} (P : X → Type 0) (Q : ℕ → Type 0) (f : ℕ → Result X FaultKind) (rows : List ℕ) → ((row : ℕ) (x : X) → Q row → f row ≡ Ok x → P x) → All Q rows → All P (until f rows).values
until-all P Q f rows k all i e below =
    k (get_or rows i 0) (get_or (until f rows).values i e) (all i 0 (omega (arith, below, until-length f rows))) (until-get f rows i 0 e below)

-- ---- one operand more

snoc-collect : {X : Type 0} (x : X) (rest : Result (List X) FaultKind) (one : Result X FaultKind) → (behind rest one >>= (λ xs. Ok (x ∷ xs))) ≡ behind (rest >>= (λ xs. Ok (x ∷ xs))) one
snoc-collect x (Ok xs) (Ok y) = refl
snoc-collect x (Ok xs) (Err kind) = refl
snoc-collect x (Err kind) one = refl

single : {X : Type 0} (one : Result X FaultKind) → collect (one ∷ []) ≡ behind (Ok []) one
single (Ok x) = refl
single (Err kind) = refl

pub collect-append : {X : Type 0} (args : List (Result X FaultKind)) (arg : Result X FaultKind) → collect (args ++ arg ∷ []) ≡ behind (collect args) arg
collect-append [] arg = single arg
collect-append (Ok x ∷ args) arg = ap (λ rest. rest >>= (λ xs. Ok (x ∷ xs))) (collect-append args arg) ∙ snoc-collect x (collect args) arg
collect-append (Err kind ∷ args) arg = refl

module _ {X : Type 0} (f : ℕ → Result (List X) FaultKind) (g : ℕ → Result X FaultKind) where
  -- both on the rows before the first one's stop
  abbrev both : Until (List X) → Until X → Until (List X)
  both first second = record { values = lengthened first.values second.values; stop = earlier second.stop first.stop }

  second_row : (row : ℕ) (rows : List ℕ) (xs : List X) (r : Result X FaultKind) (first whole : Until (List X)) (second : Until X) → whole ≡ both first second
      → step row (r >>= (λ x. Ok (xs ++ x ∷ []))) whole ≡ both (step row (Ok xs) first) (step row r second)
  second_row row rows xs (Ok x) first whole second is = ap (step row (Ok (xs ++ x ∷ []))) is
  second_row row rows xs (Err kind) first whole second is = refl

  first_row : (row : ℕ) (rows : List ℕ) (r : Result (List X) FaultKind) (first whole : Until (List X)) → whole ≡ both first (until g (take (length first.values) rows))
      → step row (behind r (g row)) whole ≡ both (step row r first) (until g (take (length (step row r first).values) (row ∷ rows)))
  first_row row rows (Ok xs) first whole is = second_row row rows xs (g row) first whole (until g (take (length first.values) rows)) is
  first_row row rows (Err kind) first whole is = refl

  pub until-behind : (rows : List ℕ) → until (λ i. behind (f i) (g i)) rows ≡ both (until f rows) (until g (take (length (until f rows).values) rows))
  until-behind [] = refl
  until-behind (row ∷ rows) = first_row row rows (f row) (until f rows) (until (λ i. behind (f i) (g i)) rows) (until-behind rows)

length-lengthened : {X : Type 0} (rows : List (List X)) (xs : List X) → length xs ≤ length rows → length (lengthened rows xs) ≡ length xs
length-lengthened [] [] below = refl
length-lengthened [] (x ∷ xs) below = absurd (omega (arith, below))
length-lengthened (row ∷ rows) [] below = refl
length-lengthened (row ∷ rows) (x ∷ xs) below = ap suc (length-lengthened rows xs (omega (arith, below)))

get_or-lengthened : {X : Type 0} (rows : List (List X)) (xs : List X) (i : ℕ) (d : X) → length xs ≤ length rows → i < length xs → get_or (lengthened rows xs) i [] ≡ get_or rows i [] ++ get_or xs i d ∷ []
get_or-lengthened rows [] i d below there = absurd (omega (arith, there))
get_or-lengthened [] (x ∷ xs) i d below there = absurd (omega (arith, below))
get_or-lengthened (row ∷ rows) (x ∷ xs) zero d below there = refl
get_or-lengthened (row ∷ rows) (x ∷ xs) (suc i) d below there = get_or-lengthened rows xs i d (omega (arith, below)) (omega (arith, there))

-- the rows over columns with one more
pub transpose-behind : {X : Type 0} (d : X) (n : ℕ) (columns : List (List X)) (xs : List X) → length xs ≤ n → lengthened (transpose d n columns) xs ≡ transpose d (length xs) (columns ++ xs ∷ [])
transpose-behind d n columns xs below =
    let long : length (transpose d n columns) ≡ n = length-map-range_with_len (across d columns) 0 n in
    let enough : length xs ≤ length (transpose d n columns) = omega (arith, below, long) in
    fill_by_all (across d (columns ++ xs ∷ [])) (lengthened (transpose d n columns) xs) (length xs) [] (length-lengthened (transpose d n columns) xs enough) (λ i there.
    get_or-lengthened (transpose d n columns) xs i d enough there
    ∙ ap (λ row. row ++ get_or xs i d ∷ []) (get_or-map-range_with_len (across d columns) 0 n i i [] (omega arith) (omega arith))
    ∙ sym (map-append (λ column. get_or column i d) columns (xs ∷ [])))

-- ---- a function of the values at each place

applied-none : {X Y : Type 0} (k : X → Result Y FaultKind) (rows : List ℕ) (stop : Stop) → applied k rows [] stop ≡ record { values = []; stop = stop }
applied-none k [] stop = refl
applied-none k (row ∷ rows) stop = refl

module _ {X Y : Type 0} (k : X → Result Y FaultKind) (h : ℕ → X) (rows : List ℕ) (stop : Stop) where
  abbrev pub placed : Until Y → Until Y
  placed found = record { values = found.values; stop = earlier (at_row rows found.stop) stop }

  one_place : (a : ℕ) (r : Result Y FaultKind) (rest : Until Y) → step (get_or rows a 0) r (placed rest) ≡ placed (step a r rest)
  one_place a (Ok y) rest = refl
  one_place a (Err kind) rest = refl

  applied-from : (n a : ℕ) → a + n ≤ length rows → applied k (drop a rows) (map h (range_with_len a n)) stop ≡ placed (until (λ i. k (h i)) (range_with_len a n))
  applied-from zero a below = applied-none k (drop a rows) stop
  applied-from (suc n) a below =
      let there : a < length rows = omega (arith, below) in
      let more : a + 1 + n ≤ length rows = omega (arith, below) in
      ap (λ left. applied k left (map h (range_with_len a (suc n))) stop) (drop_more rows a 0 there)
      ∙ ap (step (get_or rows a 0) (k (h a))) (applied-from n (a + 1) more)
      ∙ one_place a (k (h a)) (until (λ i. k (h i)) (range_with_len (a + 1) n))

  -- what is computed at each row that has a value, by places
  pub until-placed : (f : ℕ → Result X FaultKind) (n : ℕ) → until f rows ≡ record { values = map h (range_with_len 0 n); stop = stop } → n ≤ length rows
      → until (λ i. f i >>= k) rows ≡ placed (until (λ i. k (h i)) (range_with_len 0 n))
  until-placed f n is below =
      until-applied k f rows ∙ ap (λ (found : Until X). applied k rows found.values found.stop) is ∙ applied-from n 0 (omega (arith, below))
