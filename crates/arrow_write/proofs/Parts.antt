-- A file that is written in three pieces.
use Rattle.std.proofs.Common.{◌≡◌, ◌≤◌, ◌+◌, ◌∙◌, inl, inr, ℕ, List, ◌++◌, length, take, min, Option, Result, Ok, Err, OnOk, OnErr, subst, sym, ap, refl, arith, append_assoc}
use Rattle.std.proofs.lemmas.List.{take-append-le, take_min}
use Rattle.std.proofs.Math.Seq.{take-append-add, take-append_seam}
use Rattle.world.specs.Files.{Files, written, appended, Has, IsPartWritten}
use Rattle.world.proofs.Writing.{appended-written, Has-written}
use Rattle.arrow_write.specs.Pieces.{IsPartAppended}

pub has_after : (before now : Option Files) (name bytes : List ℕ) → now ≡ written before name bytes → Has now name
has_after before now name bytes e = subst (λ (files : Option Files). Has files name) (sym e) (Has-written before name bytes)

pub after_append : (before mid now : Option Files) (name front piece passed : List ℕ) → passed ≡ piece
    → mid ≡ written before name front → now ≡ appended mid name passed → now ≡ written before name (front ++ piece)
after_append before mid now name front piece passed same e f =
    f ∙ ap (λ files. appended files name passed) e ∙ appended-written before name front passed ∙ ap (λ p. written before name (front ++ p)) same

pub prefix : (front piece rest : List ℕ) (k : ℕ) → front ++ take k piece ≡ take (length front + min k (length piece)) (front ++ piece ++ rest)
prefix front piece rest k =
    let n = min k (length piece) in
    let few : n ≤ length piece = omega arith in
    sym (ap (take (length front + n)) (append_assoc front piece rest) ∙ take-append-add front (piece ++ rest) n
    ∙ ap (λ xs. front ++ xs) (take-append-le n piece rest few ∙ take_min k piece))

pub front_only : (front piece rest : List ℕ) → front ≡ take (length front) (front ++ piece ++ rest)
front_only front piece rest = sym (ap (take (length front)) (append_assoc front piece rest) ∙ take-append_seam front (piece ++ rest))

part : (before mid now : Option Files) (name front piece rest : List ℕ)
    → mid ≡ written before name front → IsPartAppended mid now name piece → IsPartWritten before now name (front ++ piece ++ rest)
part before mid now name front piece rest e (inl same) =
    inr (length front, same ∙ e ∙ ap (written before name) (front_only front piece rest))
part before mid now name front piece rest e (inr found) =
    inr (
      length front + min found.0 (length piece),
      after_append before mid now name front (take found.0 piece) (take found.0 piece) refl e found.1 ∙ ap (written before name) (prefix front piece rest found.0),
    )

pub part_left : (before mid now : Option Files) (name front piece rest passed : List ℕ) → passed ≡ piece
    → mid ≡ written before name front → IsPartAppended mid now name passed → IsPartWritten before now name (front ++ piece ++ rest)
part_left before mid now name front piece rest passed same e left =
    subst (λ p. IsPartWritten before now name (front ++ p ++ rest)) same (part before mid now name front passed rest e left)

pub on_ok : {T E : Type 0} (P Q : Type 0) (r : Result T E) → (P → Q) → OnOk r P → OnOk r Q
on_ok P Q (Ok x) f p = f p
on_ok P Q (Err e) f p = tt

pub on_err : {T E : Type 0} (P Q : Type 0) (r : Result T E) → (P → Q) → OnErr r P → OnErr r Q
on_err P Q (Ok x) f p = tt
on_err P Q (Err e) f p = f p

pub at_err : {T E : Type 0} (P : Type 0) (r : Result T E) → P → OnErr r P
at_err P (Ok x) p = tt
at_err P (Err e) p = p

pub at_ok : {T E : Type 0} (P : Type 0) (r : Result T E) → P → OnOk r P
at_ok P (Ok x) p = p
at_ok P (Err e) p = tt
