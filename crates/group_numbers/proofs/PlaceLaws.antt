-- A key more, and the numbers of keys.
use Rattle.std.proofs.Common.{◌≡◌, ◌∙◌, ℕ, zero, suc, List, [], ◌∷◌, ◌++◌, Bool, true, false, not, ◌||◌, cond, Option, Some, None, map, length, ◌<◌, refl, sym, ap, subst, drop}
use Rattle.std.specs.Prelude.{get_or}
use Rattle.std.specs.List.{All, list_any, slice_get}
use Rattle.std.specs.Option.{option_map}
use Rattle.std.specs.Cmp.Lexicographic.{same_text}
use Rattle.std.proofs.lemmas.Slice.Eq.{bytes_eq-Decides}
use Rattle.std.proofs.lemmas.List.{map-append}
use Rattle.std.proofs.lemmas.Option.{slice_get-map, slice_get-get_or}
use Rattle.std.proofs.lemmas.List.Elements.{All-head, All-rest, All-push, All-nil}
use Rattle.std.proofs.lemmas.List.Concat.{flat_map-cons}
use Rattle.std.proofs.lemmas.List.Folds.{list_any-append}
use Rattle.sub_types.specs.declared.value.Value.{Value}
use Rattle.sub_types.specs.declared.value.Value.TheVariants as values
use Rattle.plan_denote.specs.Computed.{Row}
use Rattle.plan_denote.specs.Distinct.{is_same_row}
use Rattle.group_laws.proofs.SameLaws.{same_rows}
use Rattle.row_keys.specs.KeyBytes.{IsHeld, value_bytes, bytes_of_key}
use Rattle.group_keys.specs.Keys.{with_item, is_same_bytes}
use Rattle.group_numbers.specs.Keys.{IsOnce, AreAt, IsTold, IsKept, with_keys}
use Rattle.group_numbers.specs.declared.keys.GroupKeys.{GroupKeys}
use Rattle.group_numbers.proofs.SameLaws.{same_key}

-- a key whose bytes are no other's
pub told_of : (key : Row) (bytes : List ℕ) → bytes ≡ bytes_of_key key → All IsHeld key → ((other : Row) → All IsHeld other → bytes ≡ bytes_of_key other → key ≡ other) → IsTold key
told_of key bytes e h equal = record { held = h; alone = λ other g d. equal other g (e ∙ d) }

same_itself : (xs : List ℕ) → is_same_bytes xs xs ≡ true
same_itself xs = (bytes_eq-Decides xs xs).1 refl

alike_by : (key row : Row) → IsTold key → IsTold row → (a b : Bool) → is_same_bytes (bytes_of_key key) (bytes_of_key row) ≡ a → is_same_row key row ≡ b → a ≡ b
alike_by key row t u true true e f = refl
alike_by key row t u false false e f = refl
alike_by key row t u true false e f =
    let is : key ≡ row = t.alone row u.held (same_text (bytes_of_key key) (bytes_of_key row) (sym e)) in
    sym (same_rows.itself key) ∙ ap (is_same_row key) is ∙ f
alike_by key row t u false true e f =
    let is : key ≡ row = same_key key row f in
    sym e ∙ ap (λ r. is_same_bytes (bytes_of_key key) (bytes_of_key r)) (sym is) ∙ same_itself (bytes_of_key key)

any_bytes : (key : Row) (rows : List Row) → IsTold key → All IsTold rows → list_any (is_same_bytes (bytes_of_key key)) (map bytes_of_key rows) ≡ list_any (is_same_row key) rows
any_bytes key [] t ts = refl
any_bytes key (row ∷ rows) t ts =
    ap (λ b. b || list_any (is_same_bytes (bytes_of_key key)) (map bytes_of_key rows)) (alike_by key row t (All-head IsTold row rows ts) (is_same_bytes (bytes_of_key key) (bytes_of_key row)) (is_same_row key row) refl refl)
    ∙ ap (λ b. is_same_row key row || b) (any_bytes key rows t (All-rest IsTold row rows (row ∷ rows) refl ts))

map_cond : {K A : Type 0} (code : K → A) (b : Bool) (xs ys : List K) → map code (cond b xs ys) ≡ cond b (map code xs) (map code ys)
map_cond code true xs ys = refl
map_cond code false xs ys = refl

pub swapped : {A : Type 0} (b : Bool) (x y : A) → cond (not b) x y ≡ cond b y x
swapped true x y = refl
swapped false x y = refl

-- the bytes of the keys with one key more
mapped : (rows : List Row) (key : Row) → IsTold key → All IsTold rows → with_item is_same_bytes (map bytes_of_key rows) (bytes_of_key key) ≡ map bytes_of_key (with_item is_same_row rows key)
mapped rows key t ts =
    ap (λ u. cond u (map bytes_of_key rows) (map bytes_of_key rows ++ bytes_of_key key ∷ [])) (any_bytes key rows t ts)
    ∙ ap (λ l. cond (list_any (is_same_row key) rows) (map bytes_of_key rows) l) (sym (map-append bytes_of_key rows (key ∷ [])))
    ∙ sym (map_cond bytes_of_key (list_any (is_same_row key) rows) rows (rows ++ key ∷ []))

pub stored_more : (rows : List Row) (key : Row) (stored more : List (List ℕ)) (bytes : List ℕ) → stored ≡ map bytes_of_key rows → All IsTold rows → IsTold key → bytes ≡ bytes_of_key key → more ≡ with_item is_same_bytes stored bytes → more ≡ map bytes_of_key (with_item is_same_row rows key)
stored_more rows key stored more bytes s ts t b m =
    m ∙ ap (λ l. with_item is_same_bytes l bytes) s ∙ ap (with_item is_same_bytes (map bytes_of_key rows)) b ∙ mapped rows key t ts

pub rows_more : (rows grown : List Row) (key : Row) (stored : List (List ℕ)) (bytes : List ℕ) (is_new : Bool) → stored ≡ map bytes_of_key rows → All IsTold rows → IsTold key → bytes ≡ bytes_of_key key
    → is_new ≡ not (list_any (is_same_bytes bytes) stored) → grown ≡ cond is_new (rows ++ key ∷ []) rows → grown ≡ with_item is_same_row rows key
rows_more rows grown key stored bytes is_new s ts t b n g =
    let any : list_any (is_same_bytes bytes) stored ≡ list_any (is_same_row key) rows
    = ap (λ x. list_any (is_same_bytes x) stored) b ∙ ap (list_any (is_same_bytes (bytes_of_key key))) s ∙ any_bytes key rows t ts in
    g ∙ ap (λ u. cond u (rows ++ key ∷ []) rows) (n ∙ ap not any) ∙ swapped (list_any (is_same_row key) rows) (rows ++ key ∷ []) rows

pub none_head : (a b : Bool) → a || b ≡ false → (a ≡ false) × (b ≡ false)
none_head true b e = absurd (cc)
none_head false b e = (refl, e)

once_end : (rows : List Row) (key : Row) → list_any (is_same_row key) rows ≡ false → IsOnce rows → IsOnce (rows ++ key ∷ [])
once_end [] key e o = (refl, o)
once_end (row ∷ rows) key e o =
    let both = none_head (is_same_row key row) (list_any (is_same_row key) rows) e in (
      list_any-append (is_same_row row) rows (key ∷ [])
          ∙ ap (λ b. b || list_any (is_same_row row) (key ∷ [])) o.0
          ∙ ap (λ b. b || false) (same_rows.symm row key ∙ both.0),
      once_end rows key both.1 o.1,
    )

once_by : (rows : List Row) (key : Row) (b : Bool) → list_any (is_same_row key) rows ≡ b → IsOnce rows → IsOnce (cond b rows (rows ++ key ∷ []))
once_by rows key true e o = o
once_by rows key false e o = once_end rows key e o

pub once_more : (rows : List Row) (key : Row) → IsOnce rows → IsOnce (with_item is_same_row rows key)
once_more rows key o = once_by rows key (list_any (is_same_row key) rows) refl o

told_by : (rows : List Row) (key : Row) (b : Bool) → All IsTold rows → IsTold key → All IsTold (cond b rows (rows ++ key ∷ []))
told_by rows key true ts t = ts
told_by rows key false ts t = All-push IsTold rows key ts t

pub told_more : (rows : List Row) (key : Row) → All IsTold rows → IsTold key → All IsTold (with_item is_same_row rows key)
told_more rows key ts t = told_by rows key (list_any (is_same_row key) rows) ts t

-- the keys and their bytes with one key more
pub record AreKept (rows : List Row) (stored : List (List ℕ)) : Type 0 where
  pub once : IsOnce rows
  pub told : All IsTold rows
  pub bytes : stored ≡ map bytes_of_key rows

pub apart : (b : Bool) → b ≡ false → b ≡ true → ⊥
apart true e f = absurd (cc)
apart false e f = absurd (cc)

pub of_kept : (keys : GroupKeys) → IsKept keys → keys.by_number ≡ false → AreKept keys.rows (map (λ k. k.items) keys.set.keys)
of_kept keys k e = record { once = k.once; told = (k.bytes e).told; bytes = (k.bytes e).bytes }

pub to_kept : (keys : GroupKeys) → keys.by_number ≡ false → AreKept keys.rows (map (λ k. k.items) keys.set.keys) → IsKept keys
to_kept keys e k = record {
  once = k.once;
  whole = λ t. absurd (apart keys.by_number e t);
  bytes = λ f. record { told = k.told; bytes = k.bytes };
}

pub kept_more : (rows grown : List Row) (key : Row) (stored more : List (List ℕ)) (bytes : List ℕ) (is_new : Bool) → AreKept rows stored → IsTold key → bytes ≡ bytes_of_key key
    → is_new ≡ not (list_any (is_same_bytes bytes) stored) → grown ≡ cond is_new (rows ++ key ∷ []) rows → more ≡ with_item is_same_bytes stored bytes → AreKept grown more
kept_more rows grown key stored more bytes is_new k t b n g m =
    let is : grown ≡ with_item is_same_row rows key = rows_more rows grown key stored bytes is_new k.bytes k.told t b n g in
    record {
      once = subst IsOnce (sym is) (once_more rows key k.once);
      told = subst (All IsTold) (sym is) (told_more rows key k.told t);
      bytes = stored_more rows key stored more bytes k.bytes k.told t b m ∙ ap (map bytes_of_key) (sym is);
    }

-- the key at a number, by its bytes
abbrev bytes_or : List ℕ → Option (List ℕ) → List ℕ
bytes_or other None = other
bytes_or other (Some bytes) = bytes

pub found_row : (rows : List Row) (n : ℕ) (key : Row) → All IsTold rows → IsTold key → slice_get (map bytes_of_key rows) n ≡ Some (bytes_of_key key) → slice_get rows n ≡ Some key
found_row [] n key ts t e = absurd (cc)
found_row (row ∷ rows) zero key ts t e =
    let head : IsTold row = All-head IsTold row rows ts in
    ap (λ r. Some r) (sym (t.alone row head.held (sym (ap (bytes_or []) e))))
found_row (row ∷ rows) (suc n) key ts t e = found_row rows n key (All-rest IsTold row rows (row ∷ rows) refl ts) t e

pub found_key : (rows : List Row) (stored : List (List ℕ)) (n : ℕ) (key : Row) (bytes : List ℕ) → AreKept rows stored → IsTold key → bytes ≡ bytes_of_key key → slice_get stored n ≡ Some bytes → slice_get rows n ≡ Some key
found_key rows stored n key bytes k t b e =
    found_row rows n key k.told t (ap (λ l. slice_get l n) (sym k.bytes) ∙ e ∙ ap (λ x. Some x) b)

pub bytes_there : {V : Type 0} (f : V → List ℕ) (stored : List V) (rows : List Row) (n : ℕ) (v : V) → map f stored ≡ map bytes_of_key rows → n < length rows → Some v ≡ slice_get stored n → f v ≡ bytes_of_key (get_or rows n [])
bytes_there f stored rows n v e lt found =
    let here : slice_get (map f stored) n ≡ Some (f v) = slice_get-map f stored n ∙ ap (option_map f) (sym found) in
    let there : slice_get (map bytes_of_key rows) n ≡ Some (bytes_of_key (get_or rows n [])) = slice_get-map bytes_of_key rows n ∙ ap (option_map bytes_of_key) (slice_get-get_or rows n [] lt) in
    ap (bytes_or []) (sym here ∙ ap (λ l. slice_get l n) e ∙ there)

-- numbers of keys, and a key more
abbrev option_or : Option Row → List (Option Row) → Option Row
option_or other [] = other
option_or other (x ∷ xs) = x

stays_end : (rows more : List Row) (n : ℕ) (k : Row) → slice_get rows n ≡ Some k → slice_get (rows ++ more) n ≡ Some k
stays_end [] more n k e = absurd (cc)
stays_end (row ∷ rows) more zero k e = e
stays_end (row ∷ rows) more (suc n) k e = stays_end rows more n k e

stays_by : (rows : List Row) (key : Row) (b : Bool) (n : ℕ) (k : Row) → slice_get rows n ≡ Some k → slice_get (cond b rows (rows ++ key ∷ [])) n ≡ Some k
stays_by rows key true n k e = e
stays_by rows key false n k e = stays_end rows (key ∷ []) n k e

at_more : (rows : List Row) (key : Row) (numbers : List ℕ) (keys : List Row) → AreAt rows numbers keys → AreAt (with_item is_same_row rows key) numbers keys
at_more rows key [] keys e = e
at_more rows key (n ∷ numbers) [] e = absurd (cc)
at_more rows key (n ∷ numbers) (k ∷ keys) e =
    let head : slice_get rows n ≡ Some k = ap (option_or None) e in
    ap (λ o. o ∷ map (slice_get (with_item is_same_row rows key)) numbers) (stays_by rows key (list_any (is_same_row key) rows) n k head)
    ∙ ap (λ l. Some k ∷ l) (at_more rows key numbers keys (ap (drop 1) e))

-- one number and its key more
pub at_end : (rows grown : List Row) (key : Row) (numbers : List ℕ) (keys : List Row) (n : ℕ) → AreAt rows numbers keys → grown ≡ with_item is_same_row rows key → slice_get grown n ≡ Some key → AreAt grown (numbers ++ n ∷ []) (keys ++ key ∷ [])
at_end rows grown key numbers keys n e g found =
    map-append (slice_get grown) numbers (n ∷ [])
    ∙ ap (λ o. map (slice_get grown) numbers ++ o ∷ []) found
    ∙ ap (λ l. l ++ Some key ∷ []) (ap (λ r. map (slice_get r) numbers) g ∙ at_more rows key numbers keys e)
    ∙ sym (map-append (λ row. Some row) keys (key ∷ []))

pub with_keys-end : (rows keys : List Row) (key : Row) → with_keys rows (keys ++ key ∷ []) ≡ with_item is_same_row (with_keys rows keys) key
with_keys-end rows [] key = refl
with_keys-end rows (k ∷ keys) key = with_keys-end (with_item is_same_row rows k) keys key

-- the key of no values
never_empty : (v : Value) (r : List ℕ) → [] ≡ value_bytes v ++ r → ⊥
never_empty values.Null r e = absurd (cc)
never_empty (values.Bool false) r e = absurd (cc)
never_empty (values.Bool true) r e = absurd (cc)
never_empty (values.Int x) r e = absurd (cc)
never_empty (values.Dec x) r e = absurd (cc)
never_empty (values.Bytes x) r e = absurd (cc)

alone_told : (other : Row) → All IsHeld other → bytes_of_key [] ≡ bytes_of_key other → [] ≡ other
alone_told [] h e = refl
alone_told (v ∷ vs) h e = absurd (never_empty v (bytes_of_key vs) (e ∙ flat_map-cons value_bytes v vs))

pub empty_told : IsTold []
empty_told = record { held = All-nil IsHeld; alone = alone_told }
