-- Laws of keys: what stands before what, in bytes.
use Rattle.std.proofs.Common.{◌≡◌, ◌∙◌, refl, ap, sym, ℕ, Bool, true, false, ◌&&◌, List, [], ◌∷◌, ◌++◌, length, take, drop, nat_eq, Option, Some, None, MatchOption, Bor, append-nil, map, ◌+◌}
use Rattle.std.specs.Cmp.Lexicographic.{pointwise}
use Rattle.std.specs.List.{join_with_byte}
use Rattle.std.specs.Option.{option_map_or}
use Rattle.std.specs.Str.{bytes_eq}
use Rattle.sub_types.specs.declared.kind.Kind.{Kind}
use Rattle.func_table.specs.Kinds.{short_name}

and_assoc : (a b c : Bool) → (a && (b && c)) ≡ ((a && b) && c)
and_assoc true b c = refl
and_assoc false b c = refl

-- bytes are a text and a tail where they begin with the text and end with the tail
pub bytes_eq-append : (bytes text tail : List ℕ) → bytes_eq bytes (text ++ tail) ≡ (bytes_eq (take (length text) bytes) text && bytes_eq (drop (length text) bytes) tail)
bytes_eq-append bytes [] tail = refl
bytes_eq-append [] (y ∷ text) tail = refl
bytes_eq-append (x ∷ bytes) (y ∷ text) tail =
    ap (λ b. nat_eq x y && b) (bytes_eq-append bytes text tail) ∙ and_assoc (nat_eq x y) (bytes_eq (take (length text) bytes) text) (bytes_eq (drop (length text) bytes) tail)

-- what `strip_prefix` tells of bytes with any tail
pub stripped : (bytes text : List ℕ) (r : Option (Bor (List ℕ))) → MatchOption r (pointwise nat_eq (take (length text) bytes) text ≡ false) (λ x. (pointwise nat_eq (take (length text) bytes) text ≡ true) × (x.now ≡ drop (length text) bytes) × (length x.now + length text ≡ length bytes)) → (tail : List ℕ) → bytes_eq bytes (text ++ tail) ≡ option_map_or (λ rest. bytes_eq rest.now tail) r false
stripped bytes text None missing tail = bytes_eq-append bytes text tail ∙ ap (λ b. b && bytes_eq (drop (length text) bytes) tail) missing
stripped bytes text (Some rest) there tail =
    bytes_eq-append bytes text tail
    ∙ ap (λ b. b && bytes_eq (drop (length text) bytes) tail) there.0
    ∙ ap (λ left. bytes_eq left tail) (sym there.1)

-- each name behind an underscore
abbrev pub parted : List (List ℕ) → List ℕ
parted [] = []
parted (name ∷ names) = 95 ∷ (name ++ parted names)

pub join-parted : (first : List ℕ) (names : List (List ℕ)) → join_with_byte 95 (first ∷ names) ≡ first ++ parted names
join-parted first [] = sym (append-nil first)
join-parted first (name ∷ names) = ap (λ rest. first ++ (95 ∷ rest)) (join-parted name names)

-- the names of kinds, of which the first stands in another form
pub joined_names : (bytes text : List ℕ) (kinds : List Kind) (first : Kind) (others : List Kind) → kinds ≡ first ∷ others → text ≡ short_name first → bytes_eq bytes (join_with_byte 95 (map short_name kinds)) ≡ bytes_eq bytes (text ++ parted (map short_name others))
joined_names bytes text kinds first others split same =
    ap (λ all. bytes_eq bytes (join_with_byte 95 (map short_name all))) split
    ∙ ap (bytes_eq bytes) (join-parted (short_name first) (map short_name others))
    ∙ ap (λ name. bytes_eq bytes (name ++ parted (map short_name others))) (sym same)
