-- Well-typed relations are made of well-typed parts.
use Rattle.std.proofs.Common.{◌≡◌, ◌≤◌, ℕ, ◌+◌, zero, suc, List, [], ◌∷◌, ◌++◌, map, refl, sym, ap, subst, ◌∙◌, arith}
use Rattle.std.specs.Prelude.{length, slice_get}
use Rattle.std.specs.List.{AllByRecursion, range_with_len, cons_option}
use Rattle.sub_types.specs.declared.kind.Ty.{Ty}
use Rattle.plan_typed.specs.declared.rel.Op.{Op, out-Op, roll-Op, out-roll-Op, every-Op, every_made-Op, map-Op, fold-Op, fold-roll-Op}
use Rattle.plan_typed.specs.declared.rel.Op.TheOpen.{Op-F}
use Rattle.plan_typed.specs.declared.rel.Rel.{Rel, roll-Rel, every_made-Rel, fold-roll-Rel}
use Rattle.plan_typed.specs.Numbers.{numbers_of, op_numbers}
use Rattle.well_typed.specs.Columns.{columns_at}
use Rattle.well_typed.specs.WellTyped.{IsRelation, AreTyped, HasParts, Emits, direct_in, AreAll, AreBelow}

abbrev Nothing : Op-F Op Rel → Type 0
Nothing _ = Unit {0}

-- the inputs of an operation are well typed
abbrev pub HasInputs : Op-F Op Rel → Type 0
HasInputs (Op-F.Read source names types filter mask) = Unit {0}
HasInputs (Op-F.Filter input condition) = AreTyped input
HasInputs (Op-F.Project input exprs) = AreTyped input
HasInputs (Op-F.Fetch input offset count) = AreTyped input
HasInputs (Op-F.Sort input keys) = AreTyped input
HasInputs (Op-F.Aggregate input groups measures) = AreTyped input
HasInputs (Op-F.GroupSets input groups sets measures) = AreTyped input
HasInputs (Op-F.Join left right kind on post) = AreTyped left × AreTyped right
HasInputs (Op-F.Cross left right) = AreTyped left × AreTyped right
HasInputs (Op-F.Set inputs op) = AllByRecursion AreTyped inputs

paired : {A : Type 0} (P : A → Type 0) (xs : List A) → AllByRecursion P xs → (ys : List ((z : A) × P z)) × (map (λ e. e.0) ys ≡ xs)
paired P [] all = ([], refl)
paired P (x ∷ xs) all =
    let rest = paired P xs all.1 in
    ((x, all.0) ∷ rest.0, ap (λ l. x ∷ l) rest.1)

rolled_op : (level : Op-F Op Rel) → HasInputs level → every-Op Nothing IsRelation (roll-Op level)
rolled_op (Op-F.Read source names types filter mask) h = every_made-Op Nothing IsRelation (Op-F.Read source names types filter mask) (Op-F.Read source names types filter mask) refl tt
rolled_op (Op-F.Filter input condition) h = every_made-Op Nothing IsRelation (Op-F.Filter input condition) (Op-F.Filter (input, h) condition) refl tt
rolled_op (Op-F.Project input exprs) h = every_made-Op Nothing IsRelation (Op-F.Project input exprs) (Op-F.Project (input, h) exprs) refl tt
rolled_op (Op-F.Fetch input offset count) h = every_made-Op Nothing IsRelation (Op-F.Fetch input offset count) (Op-F.Fetch (input, h) offset count) refl tt
rolled_op (Op-F.Sort input keys) h = every_made-Op Nothing IsRelation (Op-F.Sort input keys) (Op-F.Sort (input, h) keys) refl tt
rolled_op (Op-F.Aggregate input groups measures) h = every_made-Op Nothing IsRelation (Op-F.Aggregate input groups measures) (Op-F.Aggregate (input, h) groups measures) refl tt
rolled_op (Op-F.GroupSets input groups sets measures) h = every_made-Op Nothing IsRelation (Op-F.GroupSets input groups sets measures) (Op-F.GroupSets (input, h) groups sets measures) refl tt
rolled_op (Op-F.Join left right kind on post) h = every_made-Op Nothing IsRelation (Op-F.Join left right kind on post) (Op-F.Join (left, h.0) (right, h.1) kind on post) refl tt
rolled_op (Op-F.Cross left right) h = every_made-Op Nothing IsRelation (Op-F.Cross left right) (Op-F.Cross (left, h.0) (right, h.1)) refl tt
rolled_op (Op-F.Set inputs op) h =
    let held = paired AreTyped inputs h in
    every_made-Op Nothing IsRelation (Op-F.Set inputs op) (Op-F.Set held.0 op) (ap (λ l. Op-F.Set l op) held.1) tt

module _ (number : ℕ) (op : Op) (emit : List ℕ) (columns : List Ty) (level : Op-F Op Rel) (rolls : roll-Op level ≡ op) where
  pub rel_typed : HasInputs level → HasParts level → Emits (direct_in level) emit columns → AreTyped (roll-Rel (record { number = number; op = op; emit = emit; columns = columns }))
  rel_typed inputs parts emits =
      let opened : level ≡ out-Op op = sym (out-roll-Op level) ∙ ap out-Op rolls in
      every_made-Rel Nothing IsRelation (record { number = number; op = op; emit = emit; columns = columns })
      (record { number = number; op = (op, subst (λ o. every-Op Nothing IsRelation o) rolls (rolled_op level inputs)); emit = emit; columns = columns }) refl
      (subst HasParts opened parts, subst (λ l. Emits (direct_in l) emit columns) opened emits)

  abbrev pub inner_numbers : List ℕ
  inner_numbers = op_numbers (map-Op Op Rel (List ℕ) (List ℕ) (fold-Op (List ℕ) (List ℕ) op_numbers (λ rel. rel.number ∷ rel.op)) numbers_of level)

  pub numbers_made : numbers_of (roll-Rel (record { number = number; op = op; emit = emit; columns = columns })) ≡ number ∷ inner_numbers
  numbers_made =
      fold-roll-Rel (List ℕ) (List ℕ) op_numbers (λ rel. rel.number ∷ rel.op) (record { number = number; op = op; emit = emit; columns = columns })
      ∙ ap (λ l. number ∷ l) (ap (fold-Op (List ℕ) (List ℕ) op_numbers (λ rel. rel.number ∷ rel.op)) (sym rolls) ∙ fold-roll-Op (List ℕ) (List ℕ) op_numbers (λ rel. rel.number ∷ rel.op) level)

-- types are as they are themselves
pub all_same : (types : List Ty) → AreAll types types
all_same [] = tt
all_same (ty ∷ types) = (record { kind = refl; nullable = λ h. h }, all_same types)

pub all_length : (implied given : List Ty) → AreAll implied given → length implied ≡ length given
all_length [] [] all = refl
all_length [] (y ∷ ys) all = absurd all
all_length (x ∷ xs) [] all = absurd all
all_length (x ∷ xs) (y ∷ ys) all = omega (arith, all_length xs ys all.1)

-- those at the same places
both_at : (implied given : List Ty) (rest rest' : List Ty) (place : ℕ) → AreAll implied given → AreAll rest rest' → AreAll (cons_option (slice_get implied place) rest) (cons_option (slice_get given place) rest')
both_at [] [] rest rest' place all all' = all'
both_at [] (y ∷ ys) rest rest' place all all' = absurd all
both_at (x ∷ xs) [] rest rest' place all all' = absurd all
both_at (x ∷ xs) (y ∷ ys) rest rest' zero all all' = (all.0, all')
both_at (x ∷ xs) (y ∷ ys) rest rest' (suc place) all all' = both_at xs ys rest rest' place all.1 all'

pub all_at : (implied given : List Ty) (places : List ℕ) → AreAll implied given → AreAll (columns_at implied places) (columns_at given places)
all_at implied given [] all = tt
all_at implied given (place ∷ places) all = both_at implied given (columns_at implied places) (columns_at given places) place all (all_at implied given places all)

pub all_append : (a b c d : List Ty) → AreAll a b → AreAll c d → AreAll (a ++ c) (b ++ d)
all_append [] [] c d all all' = all'
all_append [] (y ∷ ys) c d all all' = absurd all
all_append (x ∷ xs) [] c d all all' = absurd all
all_append (x ∷ xs) (y ∷ ys) c d all all' = (all.0, all_append xs ys c d all.1 all')

range_below : (start count most : ℕ) → start + count ≤ most → AreBelow most (range_with_len start count)
range_below start zero most h = tt
range_below start (suc count) most h = (omega (arith, h), range_below (start + 1) count most (omega (arith, h)))

-- the places of so many columns
pub all_places : (count : ℕ) → AreBelow count (range_with_len 0 count)
all_places count = range_below 0 count count (omega arith)

range_length_from : (start count : ℕ) → length (range_with_len start count) ≡ count
range_length_from start zero = refl
range_length_from start (suc count) = omega (arith, range_length_from (start + 1) count)

pub range_length : (count : ℕ) → length (range_with_len 0 count) ≡ count
range_length count = range_length_from 0 count
