-- The functions of functions_string.yaml. A text is UTF-8; its characters are Unicode scalar values.
use Rattle.std.specs.Prelude.{ℕ, suc, pos, List, [], ◌∷◌, Bool, true, false, ◌&&◌, ◌||◌, Option, Some, None, Ok, Err, ◌==◌, nat_le, chars, drop, take, length, map, encode_utf8_all, if◌then◌else◌}
use Rattle.std.specs.Str.{is_utf8}
use Rattle.std.specs.List.{concat}
use Rattle.sub_types.specs.Value.{MAX_TEXT}
use Rattle.sub_types.specs.declared.fault.FaultKind.TheVariants as faults
use Rattle.sub_types.specs.declared.value.Value.{Value}
use Rattle.sub_types.specs.declared.value.Value.TheVariants as values
use Rattle.plan_denote.specs.Computed.{Computed, null, truth, unless_null}
use Rattle.plan_denote.specs.Order.{bytes_in}

-- a text of these bytes, unless it is too long
abbrev pub limited : List ℕ → Computed
limited bytes = if nat_le (length bytes) MAX_TEXT then Ok (values.Bytes bytes) else Err faults.TextTooLong

-- the texts one after the other; null where one is null
abbrev pub concatenated : List Value → Computed
concatenated texts = unless_null texts (limited (concat (map bytes_in texts)))

-- what isn't UTF-8 isn't a text: it gives null, as each value of another kind does
abbrev pub if_text : List ℕ → Computed → Computed
if_text bytes computed = if is_utf8 bytes then computed else null

-- the characters behind the first so many: all of them, or at most this number
abbrev pub part_of : List ℕ → ℕ → Option ℕ → Computed
part_of characters from None = Ok (values.Bytes (encode_utf8_all (drop from characters)))
part_of characters from (Some count) = Ok (values.Bytes (encode_utf8_all (take count (drop from characters))))

-- a start below 1 or a length below 0 is a fault
abbrev pub substring : List Value → Computed
substring (values.Bytes text ∷ values.Int (pos (suc from)) ∷ []) = if_text text (part_of (chars text) from None)
substring (values.Bytes text ∷ values.Int start ∷ []) = if_text text (Err faults.BadStart)
substring (values.Bytes text ∷ values.Int (pos (suc from)) ∷ values.Int (pos count) ∷ []) = if_text text (part_of (chars text) from (Some count))
substring (values.Bytes text ∷ values.Int start ∷ values.Int count ∷ []) = if_text text (Err faults.BadStart)
substring _ = null

-- the text begins with the pattern
abbrev pub begins : List ℕ → List ℕ → Bool
begins text [] = true
begins [] (p ∷ pattern) = false
begins (c ∷ text) (p ∷ pattern) = c == p && begins text pattern

-- some end of the text passes
abbrev pub some_end : (List ℕ → Bool) → List ℕ → Bool
some_end test [] = test []
some_end test (c ∷ text) = test (c ∷ text) || some_end test text

-- the pattern is the text's end; it stands somewhere in the text
abbrev pub ends : List ℕ → List ℕ → Bool
ends text pattern = some_end (λ end. begins end pattern && length end == length pattern) text

abbrev pub contains : List ℕ → List ℕ → Bool
contains text pattern = some_end (λ end. begins end pattern) text

-- `%` and `_`
abbrev pub PERCENT : ℕ
PERCENT = 37

abbrev pub UNDERSCORE : ℕ
UNDERSCORE = 95

-- a character that the sign stands for, and then the rest
abbrev pub one_of : ℕ → (List ℕ → Bool) → List ℕ → Bool
one_of sign rest [] = false
one_of sign rest (c ∷ text) = (sign == UNDERSCORE || sign == c) && rest text

-- the pattern's characters stand for the text's: `%` for any run of them, `_` for any one, each other for itself
abbrev pub is_like : List ℕ → List ℕ → Bool
is_like [] text = length text == 0
is_like (sign ∷ pattern) text = if sign == PERCENT then some_end (is_like pattern) text else one_of sign (is_like pattern) text

-- `is_like` of the characters; the text comes first here, as in the other tests
abbrev pub like : List ℕ → List ℕ → Bool
like text pattern = is_like (chars pattern) (chars text)

-- a test of two texts
abbrev pub tested : (List ℕ → List ℕ → Bool) → Value → Value → Computed
tested test (values.Bytes text) (values.Bytes pattern) = if_text text (if_text pattern (truth (test text pattern)))
tested test _ _ = null

-- how many characters, and how many bytes
abbrev pub char_length : Value → Computed
char_length (values.Bytes text) = if_text text (Ok (values.Int (pos (length (chars text)))))
char_length _ = null

abbrev pub octet_length : Value → Computed
octet_length (values.Bytes text) = if_text text (Ok (values.Int (pos (length text))))
octet_length _ = null
