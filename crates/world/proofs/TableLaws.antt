-- A table of files by name as a finite map.
use Rattle.std.proofs.Common.{◌≡◌, ◌∙◌, sym, ap, refl, ℕ, List, [], ◌∷◌, Bool, true, false, cond, Option, Some, None, map}
use Rattle.std.specs.Option.{option_map}
use Rattle.std.specs.Prelude.{Result, Ok, Err, OnErr}
use Rattle.std.specs.declared.cmp.Ordering.{Ordering}
use Rattle.std.specs.declared.cmp.Ordering.TheVariants.{Less, Equal, Greater}
use Rattle.std.specs.Prelude.{Vec, String}
use Rattle.std.specs.String.{string_bytes, string_cmp}
use Rattle.std.specs.declared.alloc.Global.{Global}
use Rattle.std.specs.Ordering.{nat_cmp, is_eq, eq_by_cmp}
use Rattle.std.specs.Cmp.Lexicographic.{slice_cmp, nat_list_cmp_total}
use Rattle.std.specs.Cmp.{eq_by_cmp_equiv}
use Rattle.std.specs.FinMap.{get, insert, find, get-from_entries, get-insert, same_map, slice_cmp-IsAntisymmetric, nat_cmp-IsAntisymmetric}
use Rattle.std.specs.BTreeMap.{BTreeMap, UpdatesBy, get_by_text, is_at}
use Rattle.std.specs.Map.{lookup, update}
use Rattle.std.proofs.lemmas.Map.Text.{btree_map_updates_text, is_eq-slice_cmp}
use Rattle.std.specs.Str.{bytes_eq}
use Rattle.world.specs.Files.{Files}
use Rattle.world.specs.Table.{files_of, file_entry}

-- the table of the struct
abbrev pub Table : Type 0
Table = BTreeMap (String Global) (Vec ℕ Global)

option_map-cond : {X Y : Type 0} (f : X → Y) (b : Bool) (x y : Option X) → option_map f (cond b x y) ≡ cond b (option_map f x) (option_map f y)
option_map-cond f true x y = refl
option_map-cond f false x y = refl

find-entries : (es : List (String Global × Vec ℕ Global)) (q : List ℕ) → find (slice_cmp nat_cmp) q (map file_entry es) ≡ option_map (λ v. v.items) (lookup (is_at (λ k. slice_cmp nat_cmp q (string_bytes k))) es)
find-entries [] q = refl
find-entries (e ∷ es) q =
    ap (cond (is_eq (slice_cmp nat_cmp q (string_bytes e.0))) (Some e.1.items)) (find-entries es q)
    ∙ sym (option_map-cond (λ v. v.items) (is_eq (slice_cmp nat_cmp q (string_bytes e.0))) (Some e.1) (lookup (is_at (λ k. slice_cmp nat_cmp q (string_bytes k))) es))

-- what the map has under a name is what the table has
pub get-files_of : (m : Table) (q : List ℕ) → get (files_of m.entries) q ≡ option_map (λ v. v.items) (get_by_text m q)
get-files_of m q = get-from_entries nat_list_cmp_total (map file_entry m.entries) q ∙ find-entries m.entries q

-- a table in which one file was set
pub files_of-updated : (m n : Table) (name : List ℕ) (w : Vec ℕ Global) → UpdatesBy string_cmp (λ k. slice_cmp nat_cmp name (string_bytes k)) m n (Some w) → files_of n.entries ≡ insert (files_of m.entries) name w.items
files_of-updated m n name w updates = same_map nat_list_cmp_total (slice_cmp-IsAntisymmetric nat_cmp-IsAntisymmetric) (files_of n.entries) (insert (files_of m.entries) name w.items) at
  where
    tie : (q : List ℕ) → bytes_eq name q ≡ eq_by_cmp (slice_cmp nat_cmp) q name
    tie q = sym (is_eq-slice_cmp name q) ∙ (eq_by_cmp_equiv nat_list_cmp_total).symm name q

    at : (q : List ℕ) → get (files_of n.entries) q ≡ get (insert (files_of m.entries) name w.items) q
    at q =
        get-files_of n q
        ∙ ap (option_map (λ v. v.items)) (btree_map_updates_text name m n (Some w) updates q)
        ∙ option_map-cond (λ v. v.items) (bytes_eq name q) (Some w) (get_by_text m q)
        ∙ ap (λ b. cond b (Some w.items) (option_map (λ v. v.items) (get_by_text m q))) (tie q)
        ∙ ap (cond (eq_by_cmp (slice_cmp nat_cmp) q name) (Some w.items)) (sym (get-files_of m q))
        ∙ sym (get-insert nat_list_cmp_total (files_of m.entries) name w.items q)

is_eq-true : (r : Ordering) → is_eq r ≡ true → r ≡ Equal
is_eq-true Less e = absurd (cc)
is_eq-true Equal e = refl
is_eq-true Greater e = absurd (cc)

-- to set a file to what it holds changes nothing
pub insert-same : (files : Files) (name bytes : List ℕ) → get files name ≡ Some bytes → insert files name bytes ≡ files
insert-same files name bytes held = same_map nat_list_cmp_total (slice_cmp-IsAntisymmetric nat_cmp-IsAntisymmetric) (insert files name bytes) files at
  where
    pick : (q : List ℕ) (b : Bool) → eq_by_cmp (slice_cmp nat_cmp) q name ≡ b → cond b (Some bytes) (get files q) ≡ get files q
    pick q false e = refl
    pick q true e = sym (ap (get files) (slice_cmp-IsAntisymmetric nat_cmp-IsAntisymmetric q name (is_eq-true (slice_cmp nat_cmp q name) e)) ∙ held)

    at : (q : List ℕ) → get (insert files name bytes) q ≡ get files q
    at q = get-insert nat_list_cmp_total files name bytes q ∙ pick q (eq_by_cmp (slice_cmp nat_cmp) q name) refl

-- a fact that holds anyway holds at an error
pub on_err : {T E : Type 0} {P : Type 0} (r : Result T E) → P → OnErr r P
on_err (Ok x) p = tt
on_err (Err e) p = p
