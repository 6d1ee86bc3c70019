-- What rows give one by one.
use Rattle.std.proofs.Common.{◌≡◌, ◌∙◌, ℕ, List, [], ◌∷◌, ◌++◌, Option, Some, None, Result, Ok, Err, map, sym, ap}
use Rattle.std.proofs.lemmas.Simd.{map-map}
use Rattle.sub_types.proofs.StreamLaws.{followed_by_assoc}
use Rattle.sub_types.specs.declared.fault.Fault.{Fault}
use Rattle.sub_types.specs.declared.fault.FaultKind.{FaultKind}
use Rattle.sub_types.specs.Stream.{Stream, rows_alone, ended, followed_by, glue, stream_of}
use Rattle.plan_denote.specs.Rows.{at_relation, fault_at, each_row}

-- these rows, and then what is left gives
abbrev pub with_left : {A B : Type 0} → List B → ℕ → (A → Result (List B) FaultKind) → List A → Option Fault → Stream B
with_left done number f left end = followed_by (rows_alone done) (each_row number f (record { rows = left; end = end }))

split : {A B : Type 0} (number : ℕ) (f : A → Result (List B) FaultKind) (x : A) (xs : List A) (end : Option Fault)
    → each_row number f (record { rows = x ∷ xs; end = end }) ≡ followed_by (stream_of (at_relation number (f x))) (each_row number f (record { rows = xs; end = end }))
split number f x xs end = followed_by_assoc (stream_of (at_relation number (f x))) (glue (map (λ row. stream_of (at_relation number (f row))) xs)) (ended end)

onward : {A B : Type 0} (done : List B) (number : ℕ) (f : A → Result (List B) FaultKind) (x : A) (xs : List A) (end : Option Fault) (given : Result (List B) FaultKind) → f x ≡ given
    → with_left done number f (x ∷ xs) end ≡ followed_by (followed_by (rows_alone done) (stream_of (at_relation number given))) (each_row number f (record { rows = xs; end = end }))
onward done number f x xs end given is =
    let rest = each_row number f (record { rows = xs; end = end }) in
    ap (followed_by (rows_alone done)) (split number f x xs end ∙ ap (λ one. followed_by (stream_of (at_relation number one)) rest) is)
    ∙ sym (followed_by_assoc (rows_alone done) (stream_of (at_relation number given)) rest)

pub some_rows : {A B : Type 0} (done : List B) (number : ℕ) (f : A → Result (List B) FaultKind) (x : A) (xs : List A) (end : Option Fault) (ys : List B) → f x ≡ Ok ys
    → with_left done number f (x ∷ xs) end ≡ with_left (done ++ ys) number f xs end
some_rows done number f x xs end ys is = onward done number f x xs end (Ok ys) is

pub a_fault : {A B : Type 0} (done : List B) (number : ℕ) (f : A → Result (List B) FaultKind) (x : A) (xs : List A) (end : Option Fault) (kind : FaultKind) → f x ≡ Err kind
    → with_left done number f (x ∷ xs) end ≡ record { rows = done ++ []; end = Some (fault_at number kind) }
a_fault done number f x xs end kind is = onward done number f x xs end (Err kind) is

-- over rows that are made of others
pub each_made : {A B C : Type 0} (number : ℕ) (f : B → Result (List C) FaultKind) (h : A → B) (xs : List A) → each_row number f (rows_alone (map h xs)) ≡ each_row number (λ x. f (h x)) (rows_alone xs)
each_made number f h xs = ap (λ all. followed_by (glue all) (ended None)) (map-map (λ row. stream_of (at_relation number (f row))) h xs)
