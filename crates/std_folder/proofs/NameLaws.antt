-- The names of a table as a set.
use Rattle.std.proofs.Common.{◌≡◌, ◌∙◌, sym, ap, refl, ℕ, List, [], ◌∷◌, Bool, true, false, cond, Option, Some, None, map, is_some, not}
use Rattle.std.proofs.Common.{◌||◌, ◌&&◌}
use Rattle.std.specs.List.{list_any}
use Rattle.std.specs.Prelude.{String}
use Rattle.std.specs.String.{string_bytes, string_cmp}
use Rattle.std.specs.declared.alloc.Global.{Global}
use Rattle.std.specs.declared.cmp.Ordering.{Ordering}
use Rattle.std.specs.declared.cmp.Ordering.TheVariants.{Less, Equal, Greater}
use Rattle.std.specs.Ordering.{nat_cmp, is_eq, eq_by_cmp}
use Rattle.std.specs.Cmp.Lexicographic.{slice_cmp, nat_list_cmp_total}
use Rattle.std.specs.Cmp.{eq_by_cmp_equiv}
use Rattle.std.specs.FinSet.{contains, insert, remove, contains-insert, contains-remove, contains-from_list, contains_tied, same_set, slice_cmp-IsAntisymmetric, nat_cmp-IsAntisymmetric}
use Rattle.std.specs.BTreeMap.{BTreeMap, UpdatesBy, get_by_text, is_at}
use Rattle.std.specs.Map.{lookup}
use Rattle.std.proofs.lemmas.Map.Text.{btree_map_updates_text, is_eq-slice_cmp}
use Rattle.std.specs.Str.{bytes_eq}
use Rattle.std_folder.specs.Names.{Names, names_of, entry_name}

is_some-cond : {X : Type 0} (b : Bool) (x : X) (rest : Option X) → is_some (cond b (Some x) rest) ≡ (b || is_some rest)
is_some-cond true x rest = refl
is_some-cond false x rest = refl

any-lookup : {X : Type 0} (es : List (String Global × X)) (q : List ℕ) → list_any (eq_by_cmp (slice_cmp nat_cmp) q) (map entry_name es) ≡ is_some (lookup (is_at (λ k. slice_cmp nat_cmp q (string_bytes k))) es)
any-lookup [] q = refl
any-lookup (e ∷ es) q =
    ap (λ b. eq_by_cmp (slice_cmp nat_cmp) q (string_bytes e.0) || b) (any-lookup es q)
    ∙ sym (is_some-cond (eq_by_cmp (slice_cmp nat_cmp) q (string_bytes e.0)) e.1 (lookup (is_at (λ k. slice_cmp nat_cmp q (string_bytes k))) es))

-- a name is in the set where the table keeps something under it
pub contains-names_of : {X : Type 0} (m : BTreeMap (String Global) X) (q : List ℕ) → contains (names_of m.entries) q ≡ is_some (get_by_text m q)
contains-names_of m q = contains-from_list nat_list_cmp_total (map entry_name m.entries) q ∙ any-lookup m.entries q

tie : (name q : List ℕ) → bytes_eq name q ≡ eq_by_cmp (slice_cmp nat_cmp) q name
tie name q = sym (is_eq-slice_cmp name q) ∙ (eq_by_cmp_equiv nat_list_cmp_total).symm name q

none-cond : {X : Type 0} (b : Bool) (rest : Option X) → is_some (cond b None rest) ≡ (not b && is_some rest)
none-cond true rest = refl
none-cond false rest = refl

-- a table in which something was set
pub names_of-inserted : {X : Type 0} (m n : BTreeMap (String Global) X) (name : List ℕ) (w : X) → UpdatesBy string_cmp (λ k. slice_cmp nat_cmp name (string_bytes k)) m n (Some w) → names_of n.entries ≡ insert (names_of m.entries) name
names_of-inserted m n name w updates = same_set nat_list_cmp_total (slice_cmp-IsAntisymmetric nat_cmp-IsAntisymmetric) (names_of n.entries) (insert (names_of m.entries) name) at
  where
    at : (q : List ℕ) → contains (names_of n.entries) q ≡ contains (insert (names_of m.entries) name) q
    at q =
        contains-names_of n q
        ∙ ap is_some (btree_map_updates_text name m n (Some w) updates q)
        ∙ is_some-cond (bytes_eq name q) w (get_by_text m q)
        ∙ ap (λ b. b || is_some (get_by_text m q)) (tie name q)
        ∙ ap (λ b. eq_by_cmp (slice_cmp nat_cmp) q name || b) (sym (contains-names_of m q))
        ∙ sym (contains-insert nat_list_cmp_total (names_of m.entries) name q)

-- a table out of which a name was taken
pub names_of-removed : {X : Type 0} (m n : BTreeMap (String Global) X) (name : List ℕ) → UpdatesBy string_cmp (λ k. slice_cmp nat_cmp name (string_bytes k)) m n None → names_of n.entries ≡ remove (names_of m.entries) name
names_of-removed m n name updates = same_set nat_list_cmp_total (slice_cmp-IsAntisymmetric nat_cmp-IsAntisymmetric) (names_of n.entries) (remove (names_of m.entries) name) at
  where
    at : (q : List ℕ) → contains (names_of n.entries) q ≡ contains (remove (names_of m.entries) name) q
    at q =
        contains-names_of n q
        ∙ ap is_some (btree_map_updates_text name m n None updates q)
        ∙ none-cond (bytes_eq name q) (get_by_text m q)
        ∙ ap (λ b. not b && is_some (get_by_text m q)) (tie name q)
        ∙ ap (λ b. not (eq_by_cmp (slice_cmp nat_cmp) q name) && b) (sym (contains-names_of m q))
        ∙ sym (contains-remove nat_list_cmp_total (names_of m.entries) name q)

is_eq-true : (r : Ordering) → is_eq r ≡ true → r ≡ Equal
is_eq-true Less e = absurd (cc)
is_eq-true Equal e = refl
is_eq-true Greater e = absurd (cc)

held-or : (s : Names) (name q : List ℕ) (b : Bool) → eq_by_cmp (slice_cmp nat_cmp) q name ≡ b → contains s name ≡ true → (b || contains s q) ≡ contains s q
held-or s name q false e held = refl
held-or s name q true e held = sym held ∙ contains_tied nat_list_cmp_total s q name (is_eq-true (slice_cmp nat_cmp q name) e)

-- to set a name that is there changes nothing
pub insert-held : (s : Names) (name : List ℕ) → contains s name ≡ true → insert s name ≡ s
insert-held s name held = same_set nat_list_cmp_total (slice_cmp-IsAntisymmetric nat_cmp-IsAntisymmetric) (insert s name) s (λ q. contains-insert nat_list_cmp_total s name q ∙ held-or s name q (eq_by_cmp (slice_cmp nat_cmp) q name) refl held)
