-- Parts of texts of ASCII, by their bytes.
use Rattle.std.proofs.Common.{◌≡◌, ◌∙◌, ℕ, zero, suc, ◌+◌, ◌-◌, ◌<◌, pos, List, [], ◌∷◌, length, map, get_or, take, drop, replicate, Option, Some, None, Ok, IfOk, chars, encode_utf8_all, option_map, if◌then◌else◌, refl, sym, ap, ap₂, subst, arith}
use Rattle.std.specs.List.{All, concat, range_with_len}
use Rattle.std.specs.Str.{IsAscii}
use Rattle.std.proofs.lemmas.List.{get_or-map, get_or-replicate, length-map}
use Rattle.std.proofs.lemmas.Str.{IsAscii-drop, IsAscii-take, IsUtf8-from_ascii, chars-IsAscii, encodes-IsAscii, is_utf8-from_IsUtf8}
use Rattle.sub_types.specs.Nullable.{bytes_value}
use Rattle.sub_types.specs.Slots.{slots, length-slots}
use Rattle.sub_types.specs.Value.{InKind}
use Rattle.sub_types.specs.declared.kind.Ty.{Ty}
use Rattle.sub_types.specs.declared.value.Value.{Value}
use Rattle.sub_types.specs.declared.value.Value.TheVariants as values
use Rattle.col_text.specs.Text.{offset_of}
use Rattle.col_text.proofs.TextLaws.{slice-offset_of, concat-one}
use Rattle.plan_denote.specs.Computed.{Computed, null}
use Rattle.plan_denote.specs.Texts.{part_of}
use Rattle.batch.specs.ColumnValues.{values_of}
use Rattle.batch.specs.declared.column.Column as batch_column
use Rattle.kernels.specs.Until.{Until, until}
use Rattle.kernels.specs.declared.selection.Stop.TheVariants.{Never}
use Rattle.kernels.proofs.AllLaws.{until-all}
use Rattle.call_kernels.specs.Made.{IsMade, at_three}
use Rattle.call_kernels.specs.Parts.{part_from}
use Rattle.call_kernels.proofs.PlaceLaws.{until-holds}

-- one of the texts whose bytes are all ASCII
text_ascii : (texts : List (List ℕ)) (k : ℕ) → k < length texts → IsAscii (concat texts) → IsAscii (get_or texts k [])
text_ascii texts k below ascii =
    let begin = offset_of texts k in
    let end = offset_of texts (k + 1) in
    subst IsAscii (slice-offset_of texts k (k + 1) (omega arith) (omega arith) ∙ concat-one texts k below) (IsAscii-take (drop begin (concat texts)) (end - begin) (IsAscii-drop (concat texts) begin ascii))

-- the text of a value that is there
slot_of : (column : List (Option (List ℕ))) (k : ℕ) (text : List ℕ) → get_or column k None ≡ Some text → get_or (slots [] column) k [] ≡ text
slot_of [] k text is = absurd (cc)
slot_of (Some other ∷ column) zero text is = cc
slot_of (None ∷ column) zero text is = absurd (cc)
slot_of (value ∷ column) (suc k) text is = slot_of column k text is

module _ (before most : ℕ) where
  abbrev cut : List ℕ → List ℕ
  cut text = take most (drop before text)

  ascii_part : (text : List ℕ) → IsAscii text → part_from (values.Bytes text) (values.Int (pos (suc before))) (values.Int (pos most)) ≡ Ok (values.Bytes (cut text))
  ascii_part text ascii =
      let known = is_utf8-from_IsUtf8 text (IsUtf8-from_ascii text ascii) in
      let same : encode_utf8_all (take most (drop before (chars text))) ≡ cut text =
      ap (λ (all : List ℕ). encode_utf8_all (cut all)) (chars-IsAscii text ascii) ∙ encodes-IsAscii (cut text) (IsAscii-take (drop before text) most (IsAscii-drop text before ascii)) in
      ap (λ t. if t then part_of (chars text) before (Some most) else null) known ∙ ap (λ (bytes : List ℕ). let one : Computed = Ok (values.Bytes bytes) in one) same

  one_part : (column : List (Option (List ℕ))) (k : ℕ) → IsAscii (concat (slots [] column)) → k < length column → (value : Option (List ℕ)) → get_or column k None ≡ value
      → part_from (bytes_value value) (values.Int (pos (suc before))) (values.Int (pos most)) ≡ Ok (bytes_value (option_map cut value))
  one_part column k ascii below None is = refl
  one_part column k ascii below (Some text) is =
      ascii_part text (subst IsAscii (slot_of column k text is) (text_ascii (slots [] column) k (omega (arith, length-slots {T = List ℕ} [] column)) ascii))

  module _ (column : List (Option (List ℕ))) (ascii : IsAscii (concat (slots [] column))) (start count : Value) (start_is : start ≡ values.Int (pos (suc before))) (count_is : count ≡ values.Int (pos most)) (ty : Ty) (all : List Value) (all_is : all ≡ map bytes_value column) (n : ℕ) (long : length all ≡ n) where
    abbrev wanted : ℕ → Computed
    wanted = at_three part_from all (replicate n start) (replicate n count)

    abbrev parts : List Value
    parts = map bytes_value (map (option_map cut) column)

    rows : length column ≡ n
    rows = sym (length-map column bytes_value) ∙ ap length (sym all_is) ∙ long

    each : (k : ℕ) → k < n → wanted k ≡ Ok (get_or parts k values.Null)
    each k below =
        let inside : k < length column = omega (arith, rows) in
        let mapped : k < length (map (option_map cut) column) = omega (arith, rows, length-map column (option_map cut)) in
        let first : get_or all k values.Null ≡ bytes_value (get_or column k None) = ap (λ xs. get_or xs k values.Null) all_is ∙ get_or-map bytes_value column k None values.Null inside in
        let second : get_or (replicate n start) k values.Null ≡ values.Int (pos (suc before)) = get_or-replicate n k start values.Null below ∙ start_is in
        let third : get_or (replicate n count) k values.Null ≡ values.Int (pos most) = get_or-replicate n k count values.Null below ∙ count_is in
        let here : get_or parts k values.Null ≡ bytes_value (option_map cut (get_or column k None)) =
        get_or-map bytes_value (map (option_map cut) column) k None values.Null mapped ∙ ap bytes_value (get_or-map (option_map cut) column k None None inside) in
        ap₂ (λ (x y : Value). part_from x y (get_or (replicate n count) k values.Null)) first second
        ∙ ap (λ (z : Value). part_from (bytes_value (get_or column k None)) (values.Int (pos (suc before))) z) third
        ∙ one_part column k ascii inside (get_or column k None) refl
        ∙ ap (λ (x : Value). let one : Computed = Ok x in one) (sym here)

    found : until wanted (range_with_len 0 n) ≡ record { values = parts; stop = Never }
    found = until-all wanted n parts values.Null (length-map (map (option_map cut) column) bytes_value ∙ length-map column (option_map cut) ∙ rows) each

    pub parts_fit : ((i : ℕ) → i < n → IfOk (wanted i) (InKind ty.kind)) → All (InKind ty.kind) parts
    parts_fit holds = subst (All (InKind ty.kind)) (ap (λ (one : Until Value). one.values) found) (until-holds (InKind ty.kind) wanted n holds)

    pub parts_made : (made : batch_column.Column) → values_of made.values ≡ parts → made.ty ≡ ty → IsMade wanted n ty made Never
    parts_made made values_are ty_is = record {
      values = values_are ∙ ap (λ (one : Until Value). one.values) (sym found);
      stop_is = ap (λ (one : Until Value). one.stop) (sym found);
      ty_is = ty_is;
    }
