-- The segments of a pattern, between its signs `%`, against the characters of a text, and against its bytes.
use Rattle.std.specs.Prelude.{◌≡◌, ◌<◌, ℕ, List, [], ◌∷◌, ◌++◌, Bool, false, ◌||◌, Option, Some, None, ◌==◌, nat_lt, nat_le, IsUtf8, chars, take, drop, length, option_and_then, if◌then◌else◌}
use Rattle.std.specs.Str.{continuation_len}
use Rattle.plan_denote.specs.Texts.{PERCENT, UNDERSCORE, some_end}

-- no sign of the list is this one
abbrev pub Lacks : ℕ → List ℕ → Type 0
Lacks sign [] = Unit {0}
Lacks sign (s ∷ signs) = ((s == sign) ≡ false) × Lacks sign signs

-- the pattern is a segment, `%`, and then the rest
pub record SplitsAtPercent (pattern segment rest : List ℕ) : Type 0 where
  pub signs : chars pattern ≡ chars segment ++ PERCENT ∷ chars rest
  pub lacks : Lacks PERCENT (chars segment)
  pub segment_utf8 : IsUtf8 segment
  pub rest_utf8 : IsUtf8 rest
  pub shorter : length rest < length pattern

-- what is left of the text after the segment, if its characters stand for those that the text begins with
abbrev pub after_segment : List ℕ → List ℕ → Option (List ℕ)
after_segment [] text = Some text
after_segment (sign ∷ segment) [] = None
after_segment (sign ∷ segment) (c ∷ text) = if sign == UNDERSCORE || sign == c then after_segment segment text else None

-- there is something left, and it passes
abbrev pub rest_passes : (List ℕ → Bool) → Option (List ℕ) → Bool
rest_passes test None = false
rest_passes test (Some rest) = test rest

-- the segment stands for the whole text; for an end of it
abbrev pub is_segment : List ℕ → List ℕ → Bool
is_segment segment text = rest_passes (λ rest. length rest == 0) (after_segment segment text)

abbrev pub ends_with_segment : List ℕ → List ℕ → Bool
ends_with_segment segment text = some_end (is_segment segment) text

-- the first, or else the second
abbrev pub first_of : Option (List ℕ) → Option (List ℕ) → Option (List ℕ)
first_of None other = other
first_of (Some rest) other = Some rest

-- what is left of the text after the leftmost place at which the segment stands
abbrev pub after_leftmost : List ℕ → List ℕ → Option (List ℕ)
after_leftmost segment [] = after_segment segment []
after_leftmost segment (c ∷ text) = first_of (after_segment segment (c ∷ text)) (after_leftmost segment text)

-- an end of the text that has as many characters as the segment
pub record IsEndAsLong (text segment end : List ℕ) : Type 0 where
  pub front : List ℕ
  pub split : chars text ≡ front ++ chars end
  pub long : length (chars end) ≡ length (chars segment)
  pub utf8 : IsUtf8 end

-- the text's last character begins at this byte
pub record BeginsLast (text : List ℕ) (start : ℕ) : Type 0 where
  pub last : ℕ
  pub all : chars text ≡ chars (take start text) ++ last ∷ []
  pub utf8 : IsUtf8 (take start text)
  pub within : start < length text

-- a character begins with this byte
abbrev pub begins_character : ℕ → Bool
begins_character byte = nat_lt byte 128 || nat_le 192 byte

-- the bytes after a text's first character; after this byte, if the text begins with it
abbrev pub after_character : List ℕ → Option (List ℕ)
after_character [] = None
after_character (first ∷ rest) = if nat_le (continuation_len first) (length rest) then Some (drop (continuation_len first) rest) else None

abbrev pub after_byte : ℕ → List ℕ → Option (List ℕ)
after_byte byte [] = None
after_byte byte (first ∷ rest) = if first == byte then Some rest else None

-- the bytes after a segment's, of which `_` stands for one character
abbrev pub after_sign : ℕ → List ℕ → Option (List ℕ)
after_sign sign text = if sign == UNDERSCORE then after_character text else after_byte sign text

abbrev pub after_signs : List ℕ → List ℕ → Option (List ℕ)
after_signs [] text = Some text
after_signs (sign ∷ signs) text = option_and_then (after_signs signs) (after_sign sign text)
