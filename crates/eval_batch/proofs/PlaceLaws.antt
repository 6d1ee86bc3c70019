-- The place of a value among literals that are kept as keys.
use Rattle.std.proofs.Common.{◌≡◌, ◌∙◌, ℕ, suc, ◌+◌, ℤ, List, [], ◌∷◌, length, map, Bool, true, false, not, ◌&&◌, cond, Some, None, refl, sym, ap, arith}
use Rattle.std.specs.List.{position, position_or_len}
use Rattle.std.specs.Global.{Global}
use Rattle.std.specs.Option.{unwrap_or}
use Rattle.std.specs.Prelude.{Vec}
use Rattle.std.specs.Ordering.{is_eq, int_eq, int_cmp, ordering_then}
use Rattle.std.specs.Str.{bytes_eq}
use Rattle.std.specs.declared.cmp.Ordering.{Ordering}
use Rattle.std.specs.declared.cmp.Ordering.TheVariants.{Less, Equal, Greater}
use Rattle.std.proofs.Math.Dec.{ltb}
use Rattle.std.proofs.lemmas.Bool.{ltb-false}
use Rattle.std.proofs.lemmas.List.Recursion.{is_position_or_len}
use Rattle.std.proofs.lemmas.List.Sums.{prefix_len-le-length}
use Rattle.std.proofs.lemmas.Map.Text.{is_eq-slice_cmp}
use Rattle.sub_types.specs.declared.value.Value.{Value}
use Rattle.sub_types.specs.declared.value.Value.TheVariants as values
use Rattle.plan_denote.specs.Computed.{is_null}
use Rattle.plan_denote.specs.Order.{is_same}
use Rattle.batch_nodes.specs.Options.{place_of}

-- the first place at which a test passes, or how many there are
place_or_len : {K : Type 0} (test : K → Bool) (keys : List K) → unwrap_or (position test keys) (length keys) ≡ position_or_len test keys
place_or_len test keys = go (ltb (position_or_len test keys) (length keys)) refl
  where
    go : (there : Bool) → ltb (position_or_len test keys) (length keys) ≡ there → unwrap_or (cond there (Some (position_or_len test keys)) None) (length keys) ≡ position_or_len test keys
    go true is = refl
    go false is = omega (arith, ltb-false (position_or_len test keys) (length keys) is, prefix_len-le-length (λ key. not (test key)) keys)

step : (there : Bool) (rest : ℕ) → cond there 0 (suc rest) ≡ cond there 0 (1 + rest)
step true rest = refl
step false rest = omega arith

pub place_found : {K : Type 0} (of : K → Value) (value : Value) (test : K → Bool) → is_null value ≡ false → ((key : K) → test key ≡ is_same value (of key)) → (keys : List K) → unwrap_or (position test keys) (length keys) ≡ place_of value (map of keys)
place_found of value test there same keys =
    place_or_len test keys
    ∙ sym (is_position_or_len (λ keys. place_of value (map of keys)) test refl (λ key rest.
    ap (λ (null : Bool). cond (not null && is_same value (of key)) 0 (suc (place_of value (map of rest)))) there
    ∙ ap (λ (one : Bool). cond one 0 (suc (place_of value (map of rest)))) (sym (same key))
    ∙ step (test key) (place_of value (map of rest))) keys)

-- a value that equals none of them
pub place_none : {K : Type 0} (of : K → Value) (value : Value) → ((key : K) → (not (is_null value) && is_same value (of key)) ≡ false) → (keys : List K) → length keys ≡ place_of value (map of keys)
place_none of value none [] = refl
place_none of value none (key ∷ keys) = ap suc (place_none of value none keys) ∙ ap (λ (one : Bool). cond one 0 (suc (place_of value (map of keys)))) (sym (none key))

then_equal : (o : Ordering) → is_eq o ≡ is_eq (ordering_then o Equal)
then_equal Less = refl
then_equal Equal = refl
then_equal Greater = refl

pub same_numbers : (m n : ℤ) → int_eq m n ≡ is_same (values.Int m) (values.Int n)
same_numbers m n = then_equal (int_cmp m n)

pub same_texts : (a b : List ℕ) → bytes_eq a b ≡ is_same (values.Bytes a) (values.Bytes b)
same_texts a b = sym (is_eq-slice_cmp a b)

-- a value of another kind
pub place_not_number : (value : Value) → ((number : ℤ) → value ≡ values.Int number → ⊥) → (keys : List ℤ) → length keys ≡ place_of value (map (λ number. values.Int number) keys)
place_not_number (values.Int number) differs keys = absurd (differs number refl)
place_not_number values.Null differs keys = place_none (λ number. values.Int number) values.Null (λ key. refl) keys
place_not_number (values.Bool test) differs keys = place_none (λ number. values.Int number) (values.Bool test) (λ key. refl) keys
place_not_number (values.Dec number) differs keys = place_none (λ number. values.Int number) (values.Dec number) (λ key. refl) keys
place_not_number (values.Bytes bytes) differs keys = place_none (λ number. values.Int number) (values.Bytes bytes) (λ key. refl) keys

pub place_not_text : (value : Value) → ((bytes : List ℕ) → value ≡ values.Bytes bytes → ⊥) → (keys : List (Vec ℕ Global)) → length keys ≡ place_of value (map (λ text. values.Bytes text.items) keys)
place_not_text (values.Bytes bytes) differs keys = absurd (differs bytes refl)
place_not_text values.Null differs keys = place_none (λ (text : Vec ℕ Global). values.Bytes text.items) values.Null (λ key. refl) keys
place_not_text (values.Bool test) differs keys = place_none (λ (text : Vec ℕ Global). values.Bytes text.items) (values.Bool test) (λ key. refl) keys
place_not_text (values.Int number) differs keys = place_none (λ (text : Vec ℕ Global). values.Bytes text.items) (values.Int number) (λ key. refl) keys
place_not_text (values.Dec number) differs keys = place_none (λ (text : Vec ℕ Global). values.Bytes text.items) (values.Dec number) (λ key. refl) keys

-- a number, and a text, by the first key that equals it
pub place_number : (number : ℤ) (keys : List ℤ) (place : ℕ) → place ≡ unwrap_or (position (int_eq number) keys) (length keys) → place ≡ place_of (values.Int number) (map (λ key. values.Int key) keys)
place_number number keys place is = is ∙ place_found (λ key. values.Int key) (values.Int number) (int_eq number) refl (same_numbers number) keys

pub place_text : (bytes : List ℕ) (keys : List (Vec ℕ Global)) (place : ℕ) → place ≡ unwrap_or (position (λ key. bytes_eq bytes key.items) keys) (length keys) → place ≡ place_of (values.Bytes bytes) (map (λ key. values.Bytes key.items) keys)
place_text bytes keys place is = is ∙ place_found (λ (key : Vec ℕ Global). values.Bytes key.items) (values.Bytes bytes) (λ key. bytes_eq bytes key.items) refl (λ key. same_texts bytes key.items) keys
