-- Places by keys.
use Rattle.std.proofs.Common.{◌≡◌, ◌∙◌, sym, ap, refl, subst, ℕ, ℤ, Bool, true, false, cond, not, ◌&&◌, List, [], ◌∷◌, ◌++◌, length, get_or, ◌<◌, nat_eq, Option, Some, None, is_some, eqb-true, eq-eqb, ne_eqb, take, take-suc, add-one, ◌+◌, length-take, arith}
use Rattle.std.specs.Prelude.{position, Vec, IsSome, Result, Ok, Err, OnOk}
use Rattle.std.specs.Map.{lookup}
use Rattle.std.specs.BTreeMap.{insert_entry}
use Rattle.std.specs.Ordering.{int_cmp, is_eq, match_ordering}
use Rattle.std.specs.Cmp.{Equal-is, eq_by_cmp_equiv, int_cmp_total}
use Rattle.std.specs.Cmp.Lexicographic.{slice_cmp, lists_total}
use Rattle.std.specs.declared.alloc.Global.{Global}
use Rattle.std.specs.declared.cmp.Ordering.{Ordering}
use Rattle.std.specs.declared.cmp.Ordering.TheVariants.{Less, Equal, Greater}
use Rattle.std.specs.FinMap.{slice_cmp-IsAntisymmetric}
use Rattle.std.proofs.lemmas.Map.Lookups.{exact_signed}
use Rattle.std.proofs.lemmas.Bool.{and_parts}
use Rattle.std.proofs.lemmas.List.Quantifiers.{position-Some}
use Rattle.std.proofs.Math.Bool.{and-false}
use Rattle.std.proofs.Math.ListN.{set}
use Rattle.std.proofs.lemmas.List.{get_or-set_other, length-set}
use Rattle.std.proofs.lemmas.Grind.{get_or-set_at}
use Rattle.plan_typed.specs.declared.expr.Expr.{Expr}
use Rattle.plan_verdict.specs.declared.groups.Group.{Group}
use Rattle.plan_verdict.specs.Same.{same_expr}
use Rattle.plan_verdict.specs.Aggregates.{is_same_group}
use Rattle.plan_rules.proofs.EqualLaws.{is_told}
use Rattle.plan_keys.specs.Keys.{expr_key}
use Rattle.plan_keys.specs.declared.first_places.FirstPlaces.{FirstPlaces}
use Rattle.plan_keys.specs.declared.first_places.Spot.{Spot}
use Rattle.plan_keys.specs.declared.first_places.Spot.TheVariants.{Nowhere, Slot, ByKey}
use Rattle.plan_keys.specs.Places.{is_key, has_key, slot_in, has_slot, slot_count, first_at, later_at, or_else, unless_at, vec_cmp, IsIndex, IsSpot, IsSpotOf, Keeps, KeepsAll, KeepsAt}
use Rattle.plan_keys.proofs.FirstLaws.{position-same, position-never, position-push, position-stays, position-below, none_within, some_around, first_is, first_is_not, or_else-none, or_else-some, unless-kept}
use Rattle.plan_keys.proofs.KeyLaws.{equal_keys}

-- ---- keys that compare as equal are one
is_key-own : (key : List ℤ) → is_key key key ≡ true
is_key-own key = (eq_by_cmp_equiv (lists_total int_cmp_total)).refl key

is_key-same : (key other : List ℤ) → is_key key other ≡ true → key ≡ other
is_key-same key other same = slice_cmp-IsAntisymmetric exact_signed key other ((Equal-is (slice_cmp int_cmp key other)).0 same)

both_ways : (a b : Bool) → (a ≡ true → b ≡ true) → (b ≡ true → a ≡ true) → a ≡ b
both_ways true true there back = refl
both_ways true false there back = sym (there refl)
both_ways false true there back = back refl
both_ways false false there back = refl

-- the keys of two expressions are one where they are equal
same_key : (a b : Expr) → is_key (expr_key a) (expr_key b) ≡ same_expr a b
same_key a b = both_ways (is_key (expr_key a) (expr_key b)) (same_expr a b)
    (λ same. ap (same_expr a) (sym (equal_keys a b (is_key-same (expr_key a) (expr_key b) same))) ∙ (is_told a).1)
    (λ same. ap (λ other. is_key (expr_key a) (expr_key other)) (sym ((is_told a).0 b same)) ∙ is_key-own (expr_key a))

-- ---- a group's place
pub place-of : (groups : List Group) (group : Group) → group.holds_subquery ≡ false → position (has_key (expr_key group.expr)) groups ≡ position (is_same_group group) groups
place-of groups group holds = position-same (has_key (expr_key group.expr)) (is_same_group group) groups
    (λ other. ap (λ same. not other.holds_subquery && same) (same_key group.expr other.expr)
    ∙ ap (λ b. not b && not other.holds_subquery && same_expr group.expr other.expr) (sym holds))

pub no_place : (groups : List Group) (group : Group) → group.holds_subquery ≡ true → None ≡ position (is_same_group group) groups
no_place groups group holds =
    sym (position-never (is_same_group group) groups (λ other. ap (λ b. not b && not other.holds_subquery && same_expr group.expr other.expr) holds))

-- a group with a key has its slot
within : (slots : ℕ) (key : List ℤ) (group : Group) → has_key key group ≡ true → has_slot slots (slot_in slots key) group ≡ true
within slots key group has =
    let parts = and_parts (not group.holds_subquery) (is_key key (expr_key group.expr)) has in
    let same : nat_eq (slot_in slots (expr_key group.expr)) (slot_in slots key) ≡ true =
    eq-eqb (slot_in slots (expr_key group.expr)) (slot_in slots key) (ap (slot_in slots) (sym (is_key-same key (expr_key group.expr) parts.1))) in
    ap (λ b. b && nat_eq (slot_in slots (expr_key group.expr)) (slot_in slots key)) parts.0 ∙ same

-- ---- the place of an expression, by what is kept in its key's slot
module _ (groups : List Group) (places : FirstPlaces) (expr : Expr) (key : List ℤ) (index : IsIndex groups places) (is : key ≡ expr_key expr) where
  abbrev slots : ℕ
  slots = slot_count places

  pub none_there : first_at places (slot_in slots key) ≡ None → None ≡ position (has_key key) groups
  none_there none = sym (none_within (has_slot slots (slot_in slots key)) (has_key key) (within slots key) groups (sym (index.firsts (slot_in slots key)) ∙ none))

  -- the first group with the slot has the key where its expression is equal
  first_has : (place : ℕ) (d : Group) → first_at places (slot_in slots key) ≡ Some place → has_key key (get_or groups place d) ≡ same_expr expr (get_or groups place d).expr
  first_has place d first =
      let one = get_or groups place d in
      let passes = (position-Some (has_slot slots (slot_in slots key)) groups place d (sym (index.firsts (slot_in slots key)) ∙ first)).1 in
      let free = (and_parts (not one.holds_subquery) (nat_eq (slot_in slots (expr_key one.expr)) (slot_in slots key)) passes).0 in
      ap (λ b. b && is_key key (expr_key one.expr)) free ∙ ap (λ k. is_key k (expr_key one.expr)) is ∙ same_key expr one.expr

  pub found_first : (place : ℕ) (d : Group) → first_at places (slot_in slots key) ≡ Some place → same_expr expr (get_or groups place d).expr ≡ true → Some place ≡ position (has_key key) groups
  found_first place d first same =
      sym (first_is (has_slot slots (slot_in slots key)) (has_key key) (within slots key) groups place d (sym (index.firsts (slot_in slots key)) ∙ first) (first_has place d first ∙ same))

  pub found_later : (place : ℕ) (d : Group) → first_at places (slot_in slots key) ≡ Some place → same_expr expr (get_or groups place d).expr ≡ false → later_at places key ≡ position (has_key key) groups
  found_later place d first other =
      index.laters key
      ∙ first_is_not (has_slot slots (slot_in slots key)) (has_key key) (within slots key) groups place d (sym (index.firsts (slot_in slots key)) ∙ first) (first_has place d first ∙ other)

-- ---- one group more
same_index : (groups more : List Group) (places : FirstPlaces) → IsIndex groups places
    → ((slot : ℕ) → position (has_slot (slot_count places) slot) more ≡ position (has_slot (slot_count places) slot) groups)
    → ((key : List ℤ) → position (has_key key) more ≡ position (has_key key) groups) → IsIndex more places
same_index groups more places index firsts keys =
    let slots = slot_count places in
    record {
      firsts = λ slot. index.firsts slot ∙ sym (firsts slot);
      laters = λ key. index.laters key ∙ sym (ap (unless_at (position (has_key key) more)) (firsts (slot_in slots key)) ∙ ap (λ place. unless_at place (position (has_slot slots (slot_in slots key)) groups)) (keys key));
    }

-- a group with a subquery has no key
pub index-subquery : (groups : List Group) (places : FirstPlaces) (group : Group) → group.holds_subquery ≡ true → IsIndex groups places → IsIndex (groups ++ group ∷ []) places
index-subquery groups places group holds index = same_index groups (groups ++ group ∷ []) places index
    (λ slot. position-stays (has_slot (slot_count places) slot) groups group (λ has. let both : false ≡ true = sym (none (nat_eq (slot_in (slot_count places) (expr_key group.expr)) slot)) ∙ has in absurd (cc)))
    (λ key. position-stays (has_key key) groups group (λ has. let both : false ≡ true = sym (none (is_key key (expr_key group.expr))) ∙ has in absurd (cc)))
  where
    none : (b : Bool) → (not group.holds_subquery && b) ≡ false
    none b = ap (λ h. not h && b) holds

-- a group whose key has a place is not the first
module _ (groups : List Group) (places : FirstPlaces) (group : Group) (some : IsSome (position (has_key (expr_key group.expr)) groups)) where
  abbrev slots_there : ℕ
  slots_there = slot_count places

  abbrev its_key : List ℤ
  its_key = expr_key group.expr

  slot_stays : (slot : ℕ) → has_slot slots_there slot group ≡ true → IsSome (position (has_slot slots_there slot) groups)
  slot_stays slot has =
      let same : slot_in slots_there its_key ≡ slot = eqb-true (slot_in slots_there its_key) slot (and_parts (not group.holds_subquery) (nat_eq (slot_in slots_there its_key) slot) has).1 in
      subst (λ n. IsSome (position (has_slot slots_there n) groups)) same (some_around (has_slot slots_there (slot_in slots_there its_key)) (has_key its_key) (within slots_there its_key) groups some)

  key_stays : (other : List ℤ) → has_key other group ≡ true → IsSome (position (has_key other) groups)
  key_stays other has =
      let same : other ≡ its_key = is_key-same other its_key (and_parts (not group.holds_subquery) (is_key other its_key) has).1 in
      subst (λ k. IsSome (position (has_key k) groups)) (sym same) some

  pub index-later : IsIndex groups places → IsIndex (groups ++ group ∷ []) places
  index-later index = same_index groups (groups ++ group ∷ []) places index
      (λ slot. position-stays (has_slot slots_there slot) groups group (slot_stays slot))
      (λ other. position-stays (has_key other) groups group (key_stays other))

-- the place of what has a slot that another has before it, or that nothing has
chosen : (place : ℕ) (first : Option ℕ) → ((other : ℕ) → first ≡ Some other → other < place) → cond (is_some first && true) (Some place) None ≡ unless_at (Some place) (or_else first (Some place))
chosen place None below = sym (ap (λ b. cond b None (Some place)) (eq-eqb place place refl))
chosen place (Some other) below =
    let less : other < place = below other refl in
    sym (ap (λ b. cond b None (Some place)) (ne_eqb other place (λ same. omega arith)))

-- a group whose key has no place is its first
module _ (groups : List Group) (before after : FirstPlaces) (group : Group) (key : List ℤ) (index : IsIndex groups before) (holds : group.holds_subquery ≡ false) (is : key ≡ expr_key group.expr)
    (none : position (has_key key) groups ≡ None) (keeps : Keeps before after key (length groups)) where
  abbrev more : List Group
  more = groups ++ group ∷ []

  abbrev n : ℕ
  n = slot_count before

  tests_slot : (slot : ℕ) → has_slot n slot group ≡ nat_eq (slot_in n key) slot
  tests_slot slot = ap (λ h. not h && nat_eq (slot_in n (expr_key group.expr)) slot) holds ∙ ap (λ k. nat_eq (slot_in n k) slot) (sym is)

  tests_key : (other : List ℤ) → has_key other group ≡ is_key other key
  tests_key other = ap (λ h. not h && is_key other (expr_key group.expr)) holds ∙ ap (is_key other) (sym is)

  later_is : (other : List ℤ) (b : Bool) → is_key other key ≡ b
      → cond (is_some (first_at before (slot_in n key)) && b) (Some (length groups)) (later_at before other) ≡ unless_at (position (has_key other) more) (position (has_slot n (slot_in n other)) more)
  later_is other false differs =
      ap (λ b. cond b (Some (length groups)) (later_at before other)) (and-false (is_some (first_at before (slot_in n key))))
      ∙ index.laters other
      ∙ sym (ap (λ place. unless_at place (position (has_slot n (slot_in n other)) more))
      (position-stays (has_key other) groups group (λ has. let both : false ≡ true = sym differs ∙ sym (tests_key other) ∙ has in absurd (cc)))
      ∙ ap (unless_at (position (has_key other) groups)) (position-push (has_slot n (slot_in n other)) groups group)
      ∙ unless-kept (position (has_key other) groups) (position (has_slot n (slot_in n other)) groups) (cond (has_slot n (slot_in n other) group) (Some (length groups)) None)
      (none_within (has_slot n (slot_in n other)) (has_key other) (within n other) groups))
  later_is other true agrees =
      let same : other ≡ key = is_key-same other key agrees in
      let absent : position (has_key other) groups ≡ None = ap (λ k. position (has_key k) groups) same ∙ none in
      let gone : later_at before other ≡ None = index.laters other ∙ ap (λ place. unless_at place (position (has_slot n (slot_in n other)) groups)) absent in
      let placed : position (has_key other) more ≡ Some (length groups) =
      position-push (has_key other) groups group ∙ ap (λ place. or_else place (cond (has_key other group) (Some (length groups)) None)) absent
      ∙ ap (λ b. cond b (Some (length groups)) None) (tests_key other ∙ agrees) in
      let first : position (has_slot n (slot_in n other)) more ≡ or_else (position (has_slot n (slot_in n key)) groups) (Some (length groups)) =
      ap (λ k. position (has_slot n (slot_in n k)) more) same ∙ position-push (has_slot n (slot_in n key)) groups group
      ∙ ap (λ b. or_else (position (has_slot n (slot_in n key)) groups) (cond b (Some (length groups)) None)) (tests_slot (slot_in n key) ∙ eq-eqb (slot_in n key) (slot_in n key) refl) in
      ap (λ first. cond (is_some first && true) (Some (length groups)) (later_at before other)) (index.firsts (slot_in n key))
      ∙ ap (cond (is_some (position (has_slot n (slot_in n key)) groups) && true) (Some (length groups))) gone
      ∙ chosen (length groups) (position (has_slot n (slot_in n key)) groups) (λ place at. position-below (has_slot n (slot_in n key)) groups place group at)
      ∙ sym (ap (λ place. unless_at place (position (has_slot n (slot_in n other)) more)) placed ∙ ap (unless_at (Some (length groups))) first)

  pub index-added : IsIndex (groups ++ group ∷ []) after
  index-added = record {
    firsts = λ slot.
        keeps.firsts slot ∙ ap (λ first. or_else first (cond (nat_eq (slot_in n key) slot) (Some (length groups)) None)) (index.firsts slot)
        ∙ sym (position-push (has_slot n slot) groups group ∙ ap (λ b. or_else (position (has_slot n slot) groups) (cond b (Some (length groups)) None)) (tests_slot slot))
        ∙ ap (λ m. position (has_slot m slot) more) (sym keeps.slots);
    laters = λ other.
        keeps.laters other ∙ later_is other (is_key other key) refl
        ∙ ap (λ m. unless_at (position (has_key other) more) (position (has_slot m (slot_in m other)) more)) (sym keeps.slots);
  }

-- the groups up to a place, and the one there
pub taken-index : (groups : List Group) (places : FirstPlaces) (place : ℕ) (group : Group) → place < length groups → get_or groups place group ≡ group
    → IsIndex (take place groups ++ group ∷ []) places → IsIndex (take (place + 1) groups) places
taken-index groups places place group below here index =
    subst (λ xs. IsIndex xs places) (sym (ap (λ n. take n groups) (add-one place) ∙ take-suc groups place group below ∙ ap (λ one. take place groups ++ one ∷ []) here)) index

pub length-taken : (groups : List Group) (place : ℕ) → place < length groups → length (take place groups) ≡ place
length-taken groups place below = grind (arith, length-take)

pub no_place_there : (place : Option ℕ) → is_some place ≡ false → place ≡ None
no_place_there None none = refl
no_place_there (Some at) none = absurd (cc)

pub on_ok : {T E P Q : Type 0} (r : Result T E) → (P → Q) → OnOk r P → OnOk r Q
on_ok (Ok x) then ok = then ok
on_ok (Err e) then ok = ok

-- ---- one place more
abbrev entry_at : List ℤ → List (Vec ℤ Global × ℕ) → Option ℕ
entry_at key entries = lookup (λ (kept : Vec ℤ Global). is_key key kept.items) entries

swap : {X : Type 0} (a b : Bool) (x y : X) (rest : Option X) → (a ≡ true → b ≡ false) → cond a (Some x) (cond b (Some y) rest) ≡ cond b (Some y) (cond a (Some x) rest)
swap true true x y rest apart = let both : true ≡ false = apart refl in absurd (cc)
swap true false x y rest apart = refl
swap false b x y rest apart = refl

drop_second : {X : Type 0} (a b : Bool) (x y : X) (rest : Option X) → a ≡ b → cond a (Some x) rest ≡ cond b (Some x) (cond a (Some y) rest)
drop_second true true x y rest same = refl
drop_second false false x y rest same = refl
drop_second true false x y rest same = absurd (cc)
drop_second false true x y rest same = absurd (cc)

entry-inserted : (entries : List (Vec ℤ Global × ℕ)) (kept : Vec ℤ Global) (place : ℕ) (key : List ℤ)
    → entry_at key (insert_entry vec_cmp entries kept place) ≡ cond (is_key key kept.items) (Some place) (entry_at key entries)
entry-inserted [] kept place key = refl
entry-inserted (e ∷ entries) kept place key = at (entry-inserted entries kept place key) (vec_cmp kept e.0) refl
  where
    at : entry_at key (insert_entry vec_cmp entries kept place) ≡ cond (is_key key kept.items) (Some place) (entry_at key entries) → (o : Ordering) → vec_cmp kept e.0 ≡ o
        → entry_at key (match_ordering o ((kept, place) ∷ e ∷ entries) ((e.0, place) ∷ entries) (e ∷ insert_entry vec_cmp entries kept place)) ≡ cond (is_key key kept.items) (Some place) (entry_at key (e ∷ entries))
    at rest Less is = refl
    at rest Equal is = drop_second (is_key key e.0.items) (is_key key kept.items) place e.1 (entry_at key entries) (ap (is_key key) (sym (slice_cmp-IsAntisymmetric exact_signed kept.items e.0.items is)))
    at rest Greater is =
        ap (cond (is_key key e.0.items) (Some e.1)) rest
        ∙ swap (is_key key e.0.items) (is_key key kept.items) e.1 place (entry_at key entries) apart
      where
        apart : is_key key e.0.items ≡ true → is_key key kept.items ≡ false
        apart same = ap (λ other. is_key other kept.items) (is_key-same key e.0.items same) ∙ other (is_key e.0.items kept.items) refl
          where
            other : (b : Bool) → is_key e.0.items kept.items ≡ b → b ≡ false
            other false here = refl
            other true here =
                let no_key : false ≡ true = sym (ap is_eq is) ∙ ap (is_key kept.items) (is_key-same e.0.items kept.items here) ∙ is_key-own kept.items in absurd (cc)

module _ (before after : FirstPlaces) (key : Vec ℤ Global) (place : ℕ) where
  abbrev slot : ℕ
  slot = slot_in (slot_count before) key.items

  -- under the key, where its slot has a place
  pub keeps-later : IsSome (first_at before slot) → after.slots.items ≡ before.slots.items → after.by_key.entries ≡ insert_entry vec_cmp before.by_key.entries key place → Keeps before after key.items place
  keeps-later some slots entries = record {
    slots = ap (λ (xs : List (Option ℕ)). length xs) slots;
    firsts = λ other. ap (λ xs. get_or xs other None) slots ∙ sym (at other (nat_eq slot other) refl);
    laters = λ other.
        ap (entry_at other) entries ∙ entry-inserted before.by_key.entries key place other
        ∙ sym (ap (λ b. cond (b && is_key other key.items) (Some place) (later_at before other)) some);
  }
    where
      at : (other : ℕ) (b : Bool) → nat_eq slot other ≡ b → or_else (first_at before other) (cond b (Some place) None) ≡ first_at before other
      at other false differs = or_else-none (first_at before other)
      at other true agrees = or_else-some (first_at before other) (Some place) (subst (λ n. IsSome (first_at before n)) (eqb-true slot other agrees) some)

-- in its slot, which is empty
module _ (before after : FirstPlaces) (key : List ℤ) (place slot : ℕ) (is : slot ≡ slot_in (slot_count before) key) (empty : first_at before slot ≡ None) where
  pub keeps-slot : slot < slot_count before → after.slots.items ≡ set before.slots.items slot (Some place) → after.by_key.entries ≡ before.by_key.entries → Keeps before after key place
  keeps-slot below slots entries = record {
    slots = ap (λ (xs : List (Option ℕ)). length xs) slots ∙ length-set before.slots.items slot (Some place);
    firsts = λ other.
        ap (λ xs. get_or xs other None) slots ∙ at other (nat_eq slot other) refl
        ∙ ap (λ n. or_else (first_at before other) (cond (nat_eq n other) (Some place) None)) is;
    laters = λ other.
        ap (entry_at other) entries
        ∙ sym (ap (λ first. cond (is_some first && is_key other key) (Some place) (later_at before other)) (ap (first_at before) (sym is) ∙ empty));
  }
    where
      at : (other : ℕ) (b : Bool) → nat_eq slot other ≡ b → get_or (set before.slots.items slot (Some place)) other None ≡ or_else (first_at before other) (cond (nat_eq slot other) (Some place) None)
      at other false differs =
          get_or-set_other before.slots.items slot other (Some place) None (λ same. let both : false ≡ true = sym differs ∙ eq-eqb slot other (sym same) in absurd (cc))
          ∙ sym (ap (λ b. or_else (first_at before other) (cond b (Some place) None)) differs ∙ or_else-none (first_at before other))
      at other true agrees =
          let same : slot ≡ other = eqb-true slot other agrees in
          get_or-set_at before.slots.items slot other (Some place) None (sym same) below
          ∙ sym (ap (λ b. or_else (first_at before other) (cond b (Some place) None)) agrees ∙ ap (λ first. or_else first (Some place)) (ap (first_at before) (sym same) ∙ empty))

-- nothing more is kept
pub unchanged : (groups : List Group) (before after : FirstPlaces) → KeepsAll before after → IsIndex groups before → IsIndex groups after
unchanged groups before after kept index = record {
  firsts = λ slot.
      ap (λ xs. get_or xs slot None) kept.slots ∙ index.firsts slot
      ∙ ap (λ (xs : List (Option ℕ)). position (has_slot (length xs) slot) groups) (sym kept.slots);
  laters = λ key.
      ap (entry_at key) kept.laters ∙ index.laters key
      ∙ ap (λ (xs : List (Option ℕ)). unless_at (position (has_key key) groups) (position (has_slot (length xs) (slot_in (length xs) key)) groups)) (sym kept.slots);
}

-- ---- a group more, by what was found of it
pub spot-within : (places : FirstPlaces) (group : Group) (spot : Spot) → 0 < slot_count places → IsSpot places group spot → IsSpotOf places spot
spot-within places group Nowhere room spot = tt
spot-within places group (Slot slot) room spot = omega (arith, spot.1)
spot-within places group (ByKey key) room spot = tt

-- an equal group stands before it
pub index-again : (groups : List Group) (places : FirstPlaces) (group : Group) (place : ℕ) → position (is_same_group group) groups ≡ Some place → IsIndex groups places → IsIndex (groups ++ group ∷ []) places
index-again groups places group place first index = at group.holds_subquery refl
  where
    at : (b : Bool) → group.holds_subquery ≡ b → IsIndex (groups ++ group ∷ []) places
    at true holds = index-subquery groups places group holds index
    at false alone = index-later groups places group (ap is_some (place-of groups group alone ∙ first)) index

-- its place is kept at its spot
pub index-kept : (groups : List Group) (before after : FirstPlaces) (group : Group) (spot : Spot) → IsIndex groups before → 0 < slot_count before → position (is_same_group group) groups ≡ None → IsSpot before group spot
    → KeepsAt before after (length groups) spot → IsIndex (groups ++ group ∷ []) after
index-kept groups before after group Nowhere index room none spot kept = index-subquery groups after group spot (unchanged groups before after kept index)
index-kept groups before after group (Slot slot) index room none spot kept =
    index-added groups before after group (expr_key group.expr) index spot.0 refl (place-of groups group spot.0 ∙ none)
    (keeps-slot before after (expr_key group.expr) (length groups) slot spot.1 spot.2 (spot-within before group (Slot slot) room spot) kept.0 kept.1)
index-kept groups before after group (ByKey key) index room none spot kept =
    index-added groups before after group key.items index spot.0 spot.1 (ap (λ k. position (has_key k) groups) spot.1 ∙ place-of groups group spot.0 ∙ none)
    (keeps-later before after key (length groups) (ap (λ k. is_some (first_at before (slot_in (slot_count before) k))) spot.1 ∙ spot.2) kept.0 kept.1)
