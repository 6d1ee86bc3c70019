-- What the functions of texts give fits their result's type.
use Rattle.std.proofs.Common.{◌≡◌, ◌∙◌, ℕ, suc, zero, ◌+◌, ◌≤◌, ℤ, pos, negsuc, Bool, true, List, [], ◌∷◌, Option, Some, None, Ok, Err, IsTrue, IsUtf8, if◌then◌else◌, length, map, take, drop, chars, encode_utf8_all, nat_le, refl, sym, ap, subst, arith, length-append, leb-true}
use Rattle.std.specs.Prelude.{FitsSigned}
use Rattle.std.specs.Int.{w64}
use Rattle.std.specs.List.{concat, list_any}
use Rattle.std.proofs.Math.Utf8.{scalar, scalars}
use Rattle.std.proofs.lemmas.Bool.{and_parts, and_from}
use Rattle.std.proofs.lemmas.List.{take-append-drop}
use Rattle.std.proofs.lemmas.Str.{IsUtf8-append, IsUtf8-nil, is_utf8-from_IsUtf8, encodes-append, encodes-chars, scalars-chars, length-le-encodes}
use Rattle.sub_types.specs.Value.{MAX_TEXT, InKind, FitsTy, Fits}
use Rattle.sub_types.specs.declared.fault.FaultKind.TheVariants as faults
use Rattle.sub_types.specs.declared.kind.Kind.{Kind}
use Rattle.sub_types.specs.declared.kind.Kind.TheVariants as kinds
use Rattle.sub_types.specs.declared.kind.Ty.{Ty}
use Rattle.sub_types.specs.declared.value.Value.{Value}
use Rattle.sub_types.specs.declared.value.Value.TheVariants as values
use Rattle.well_typed.specs.Casts.{is_whole}
use Rattle.plan_denote.specs.Computed.{Computed, null, truth, is_null}
use Rattle.plan_denote.specs.Order.{bytes_in}
use Rattle.plan_denote.specs.Texts.{limited, concatenated, if_text, part_of, substring, tested, char_length, octet_length}
use Rattle.eval_typed.proofs.Fit.{IsOf, text_fits, number_fits, either_of, some_null, row_null}
use Rattle.eval_typed.proofs.KindLaws.{is_text, plain, text_kind, by_text, by_whole}
use Rattle.eval_typed.proofs.LogicLaws.{null_of, truth_of}
use Rattle.eval_typed.proofs.TableLaws.{pass_all, kinds_in}

-- a text as a value is UTF-8 and short
utf8_in : (t : Ty) (value : Value) → t.kind ≡ kinds.Text → FitsTy t value → IsUtf8 (bytes_in value)
utf8_in t value is fits = by_text (λ one. IsUtf8 (bytes_in one)) t.kind is IsUtf8-nil (λ bytes utf8. utf8) value fits.in_kind

all_utf8 : (types : List Ty) (row : List Value) → pass_all is_text (kinds_in types) ≡ true → Fits types row → IsUtf8 (concat (map bytes_in row))
all_utf8 [] [] pass fits = IsUtf8-nil
all_utf8 [] (value ∷ row) pass fits = absurd fits
all_utf8 (t ∷ types) [] pass fits = absurd fits
all_utf8 (t ∷ types) (value ∷ row) pass fits =
    let parts = and_parts (is_text (plain t.kind)) (pass_all is_text (kinds_in types)) pass in
    IsUtf8-append (bytes_in value) (concat (map bytes_in row)) (utf8_in t value (text_kind t.kind parts.0) fits.0) (all_utf8 types row parts.1 fits.1)

limited_fits : (ty : Ty) (bytes : List ℕ) → ty.kind ≡ kinds.Text → IsUtf8 bytes → IsOf ty (limited bytes)
limited_fits ty bytes is utf8 =
    either_of (nat_le (length bytes) MAX_TEXT) (Ok (values.Bytes bytes)) (Err faults.TextTooLong) ty (λ short. text_fits ty bytes is utf8 (leb-true (length bytes) MAX_TEXT short)) (λ _. tt)

pub concat_fits : (types : List Ty) (row : List Value) (ty : Ty) → pass_all is_text (kinds_in types) ≡ true → ty.kind ≡ kinds.Text → (IsTrue (some_null types) → IsTrue ty.nullable) → Fits types row → IsOf ty (concatenated row)
concat_fits types row ty pass is nullable fits =
    either_of (list_any is_null row) null (limited (concat (map bytes_in row))) ty (λ e. null_of ty (nullable (row_null types row fits e)))
    (λ _. limited_fits ty (concat (map bytes_in row)) is (all_utf8 types row pass fits))

-- what a text gives
text_of : (ty : Ty) (bytes : List ℕ) (computed : Computed) → IsUtf8 bytes → IsOf ty computed → IsOf ty (if_text bytes computed)
text_of ty bytes computed utf8 fits = subst (IsOf ty) (sym (ap (λ test. if test then computed else null) (is_utf8-from_IsUtf8 bytes utf8))) fits

-- parts of a text
scalars-drop : (n : ℕ) (cs : List ℕ) → scalars cs ≡ true → scalars (drop n cs) ≡ true
scalars-drop zero cs all = all
scalars-drop (suc n) [] all = refl
scalars-drop (suc n) (c ∷ cs) all = scalars-drop n cs (and_parts (scalar c) (scalars cs) all).1

scalars-take : (n : ℕ) (cs : List ℕ) → scalars cs ≡ true → scalars (take n cs) ≡ true
scalars-take zero cs all = refl
scalars-take (suc n) [] all = refl
scalars-take (suc n) (c ∷ cs) all =
    let parts = and_parts (scalar c) (scalars cs) all in
    and_from (scalar c) (scalars (take n cs)) parts.0 (scalars-take n cs parts.1)

split : (n : ℕ) (cs : List ℕ) → length (encode_utf8_all (take n cs)) + length (encode_utf8_all (drop n cs)) ≡ length (encode_utf8_all cs)
split n cs =
    sym (length-append (encode_utf8_all (take n cs)) (encode_utf8_all (drop n cs))) ∙ ap length (sym (encodes-append (take n cs) (drop n cs))) ∙ ap (λ all. length (encode_utf8_all all)) (take-append-drop n cs)

-- characters that make a text
pub record Spells (characters : List ℕ) : Type 0 where
  pub valid : scalars characters ≡ true
  pub short : length (encode_utf8_all characters) ≤ MAX_TEXT

spells_drop : (n : ℕ) (cs : List ℕ) → Spells cs → Spells (drop n cs)
spells_drop n cs s = record { valid = scalars-drop n cs s.valid; short = omega (arith, split n cs, s.short) }

spells_take : (n : ℕ) (cs : List ℕ) → Spells cs → Spells (take n cs)
spells_take n cs s = record { valid = scalars-take n cs s.valid; short = omega (arith, split n cs, s.short) }

spells_chars : (bytes : List ℕ) → IsUtf8 bytes → length bytes ≤ MAX_TEXT → Spells (chars bytes)
spells_chars bytes utf8 short = record { valid = scalars-chars bytes utf8; short = omega (arith, short, ap length (encodes-chars bytes utf8)) }

spelled : (ty : Ty) (cs : List ℕ) → ty.kind ≡ kinds.Text → Spells cs → FitsTy ty (values.Bytes (encode_utf8_all cs))
spelled ty cs is s = text_fits ty (encode_utf8_all cs) is (cs, (s.valid, refl)) s.short

part_fits : (ty : Ty) (characters : List ℕ) (from : ℕ) (count : Option ℕ) → ty.kind ≡ kinds.Text → Spells characters → IsOf ty (part_of characters from count)
part_fits ty characters from None is s = spelled ty (drop from characters) is (spells_drop from characters s)
part_fits ty characters from (Some count) is s = spelled ty (take count (drop from characters)) is (spells_take count (drop from characters) (spells_drop from characters s))

from_start : (ty : Ty) (text : List ℕ) (start : ℤ) → ty.kind ≡ kinds.Text → IsUtf8 text → length text ≤ MAX_TEXT → IsOf ty (substring (values.Bytes text ∷ values.Int start ∷ []))
from_start ty text (pos (suc from)) is utf8 short = text_of ty text (part_of (chars text) from None) utf8 (part_fits ty (chars text) from None is (spells_chars text utf8 short))
from_start ty text (pos zero) is utf8 short = text_of ty text (Err faults.BadStart) utf8 tt
from_start ty text (negsuc n) is utf8 short = text_of ty text (Err faults.BadStart) utf8 tt

counted : (ty : Ty) (text : List ℕ) (start count : ℤ) → ty.kind ≡ kinds.Text → IsUtf8 text → length text ≤ MAX_TEXT → IsOf ty (substring (values.Bytes text ∷ values.Int start ∷ values.Int count ∷ []))
counted ty text (pos (suc from)) (pos count) is utf8 short = text_of ty text (part_of (chars text) from (Some count)) utf8 (part_fits ty (chars text) from (Some count) is (spells_chars text utf8 short))
counted ty text (pos (suc from)) (negsuc count) is utf8 short = text_of ty text (Err faults.BadStart) utf8 tt
counted ty text (pos zero) count is utf8 short = text_of ty text (Err faults.BadStart) utf8 tt
counted ty text (negsuc n) count is utf8 short = text_of ty text (Err faults.BadStart) utf8 tt

no_count : (text : List ℕ) (start : ℤ) → substring (values.Bytes text ∷ values.Int start ∷ values.Null ∷ []) ≡ null
no_count text (pos zero) = refl
no_count text (pos (suc from)) = refl
no_count text (negsuc n) = refl

module _ (t u ty : Ty) (a b : Value) (of : t.kind ≡ kinds.Text) (other : is_whole u.kind ≡ true) (is : ty.kind ≡ kinds.Text)
    (nullable : IsTrue t.nullable → IsTrue ty.nullable) (second : IsTrue u.nullable → IsTrue ty.nullable) (fits : FitsTy t a) (others : FitsTy u b) where
  pub substring_fits : IsOf ty (substring (a ∷ b ∷ []))
  substring_fits =
      by_text (λ one. FitsTy t one → IsOf ty (substring (one ∷ b ∷ []))) t.kind of (λ fit. null_of ty (nullable (fit.allowed refl)))
      (λ text utf8 fit. by_whole (λ one. FitsTy u one → IsOf ty (substring (values.Bytes text ∷ one ∷ []))) u.kind other (λ more. null_of ty (second (more.allowed refl)))
      (λ start _ more. from_start ty text start is utf8 fit.short) b others.in_kind others)
      a fits.in_kind fits

  pub counted_substring_fits : (v : Ty) (c : Value) → is_whole v.kind ≡ true → (IsTrue v.nullable → IsTrue ty.nullable) → FitsTy v c → IsOf ty (substring (a ∷ b ∷ c ∷ []))
  counted_substring_fits v c last third more =
      by_text (λ one. FitsTy t one → IsOf ty (substring (one ∷ b ∷ c ∷ []))) t.kind of (λ fit. null_of ty (nullable (fit.allowed refl)))
      (λ text utf8 fit. by_whole (λ one. FitsTy u one → IsOf ty (substring (values.Bytes text ∷ one ∷ c ∷ []))) u.kind other (λ next. null_of ty (second (next.allowed refl)))
      (λ start _ next. by_whole (λ one. FitsTy v one → IsOf ty (substring (values.Bytes text ∷ values.Int start ∷ one ∷ []))) v.kind last (λ end. subst (IsOf ty) (sym (no_count text start)) (null_of ty (third (end.allowed refl))))
      (λ count _ end. counted ty text start count is utf8 fit.short) c more.in_kind more) b others.in_kind others)
      a fits.in_kind fits

-- tests of two texts
pub tested_fits : (test : List ℕ → List ℕ → Bool) (t u ty : Ty) (a b : Value) → t.kind ≡ kinds.Text → u.kind ≡ kinds.Text → ty.kind ≡ kinds.Bool → (IsTrue t.nullable → IsTrue ty.nullable) → (IsTrue u.nullable → IsTrue ty.nullable)
    → FitsTy t a → FitsTy u b → IsOf ty (tested test a b)
tested_fits test t u ty a b of other is nullable second fits others =
    by_text (λ one. FitsTy t one → IsOf ty (tested test one b)) t.kind of (λ fit. null_of ty (nullable (fit.allowed refl)))
    (λ text utf8 fit. by_text (λ one. FitsTy u one → IsOf ty (tested test (values.Bytes text) one)) u.kind other (λ more. null_of ty (second (more.allowed refl)))
    (λ pattern other_utf8 more. text_of ty text (if_text pattern (truth (test text pattern))) utf8 (text_of ty pattern (truth (test text pattern)) other_utf8 (truth_of ty (test text pattern) is))) b others.in_kind others)
    a fits.in_kind fits

-- how long a text is
long_fits : (ty : Ty) (n : ℕ) → ty.kind ≡ kinds.I64 → n ≤ MAX_TEXT → FitsTy ty (values.Int (pos n))
long_fits ty n is short =
    let fits : FitsSigned w64 (pos n) = record { sfits = omega arith } in
    number_fits ty (pos n) (subst (λ (kind : Kind). InKind kind (values.Int (pos n))) (sym is) fits)

few_chars : (text : List ℕ) → IsUtf8 text → length text ≤ MAX_TEXT → length (chars text) ≤ MAX_TEXT
few_chars text utf8 short = omega (arith, short, length-le-encodes (chars text), ap length (encodes-chars text utf8))

module _ (t ty : Ty) (a : Value) (of : t.kind ≡ kinds.Text) (is : ty.kind ≡ kinds.I64) (nullable : IsTrue t.nullable → IsTrue ty.nullable) (fits : FitsTy t a) where
  pub char_length_fits : IsOf ty (char_length a)
  char_length_fits =
      by_text (λ one. FitsTy t one → IsOf ty (char_length one)) t.kind of (λ fit. null_of ty (nullable (fit.allowed refl)))
      (λ text utf8 fit. text_of ty text (Ok (values.Int (pos (length (chars text))))) utf8 (long_fits ty (length (chars text)) is (few_chars text utf8 fit.short))) a fits.in_kind fits

  pub octet_length_fits : IsOf ty (octet_length a)
  octet_length_fits =
      by_text (λ one. FitsTy t one → IsOf ty (octet_length one)) t.kind of (λ fit. null_of ty (nullable (fit.allowed refl)))
      (λ text utf8 fit. text_of ty text (Ok (values.Int (pos (length text)))) utf8 (long_fits ty (length text) is fit.short)) a fits.in_kind fits
