-- The keys of groups, in the order in which they first appear.
use Rattle.std.specs.Prelude.{ℕ, ℤ, List, [], ◌∷◌, ◌++◌, Bool, Option, nat_eq, if◌then◌else◌}
use Rattle.std.specs.List.{list_any}
use Rattle.std.specs.Cmp.Lexicographic.{pointwise}
use Rattle.sub_types.specs.Nullable.{int_value}
use Rattle.plan_denote.specs.Computed.{Row}

-- one more item: one that is there keeps its place, and a new one goes last
abbrev pub with_item : {A : Type 0} → (A → A → Bool) → List A → A → List A
with_item same items item = if list_any (same item) items then items else items ++ item ∷ []

-- a key of one whole number, or of null
abbrev pub key_of_number : Option ℤ → Row
key_of_number number = int_value number ∷ []

-- whether bytes are the same
abbrev pub is_same_bytes : List ℕ → List ℕ → Bool
is_same_bytes = pointwise nat_eq
