-- The words NAME=FILE, which bind names to files.
use Rattle.std.specs.Prelude.{ℕ, List, Bool, Option, Some, None, if◌then◌else◌, ◌&&◌, ◌==◌}
use Rattle.std.specs.List.{list_any, before_first, after_first, filter_map, enumerate_from}
use Rattle.std.specs.Option.{option_map}
use Rattle.std.specs.Str.{bytes_eq}

-- the byte is an equals sign
abbrev pub is_equals : ℕ → Bool
is_equals byte = byte == 61

-- the name of a binding, before its first equals sign, and its file, after it
abbrev pub name_in : List ℕ → List ℕ
name_in word = before_first is_equals word

abbrev pub file_in : List ℕ → List ℕ
file_in word = after_first is_equals word

-- the word has an equals sign, and before the first one stands the name
abbrev pub is_bound : List ℕ → List ℕ → Bool
is_bound name word = list_any is_equals word && bytes_eq (name_in word) name

-- the file that the word binds the name to
unfoldable pub bound_file : List ℕ → List ℕ → Option (List ℕ)
bound_file name word = if is_bound name word then Some (file_in word) else None

-- the number and the file of a numbered word that binds the name
abbrev pub binding_in : List ℕ → ℕ × List ℕ → Option (ℕ × List ℕ)
binding_in name (number, word) = option_map (λ file. (number, file)) (bound_file name word)

-- the bindings of the name among the words, in order; the first word is number 1
unfoldable pub bindings_of : List ℕ → List (List ℕ) → List (ℕ × List ℕ)
bindings_of name words = filter_map (binding_in name) (enumerate_from 1 words)
