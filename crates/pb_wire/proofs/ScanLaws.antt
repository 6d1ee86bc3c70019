-- The records of a message one by one.
use Rattle.std.proofs.Common.{◌≡◌, ◌≢◌, ◌∙◌, sym, ap, refl, ℕ, zero, suc, ◌+◌, ◌-◌, ◌<◌, ◌≤◌, List, [], ◌∷◌, length, drop, Option, Some, None, arith, add-zero}
use Rattle.std.proofs.Common.{IfSome, IfOk, Result, Ok, Err, subst}
use Rattle.pb_wire.specs.Records.{Entry, Scan, stands, scan_from, behind_record}
use Rattle.pb_wire.specs.declared.record.Record.{Record}
use Rattle.pb_wire.specs.Seen.{Rest, IsNext, IsFirst, IsBehind, scan_of, entry_of}
use Rattle.pb_wire.proofs.SizeLaws.{IsSize, stands_size}

-- bytes that belong to the record before are passed over
pub scan-inside : (place : ℕ) (bytes : List ℕ) (inside : ℕ) → inside ≤ length bytes → scan_from place bytes inside ≡ scan_from (place + inside) (drop inside bytes) 0
scan-inside place bytes zero h = ap (λ p. scan_from p bytes 0) (sym (add-zero place))
scan-inside place [] (suc inside) h = absurd (omega arith)
scan-inside place (byte ∷ bytes) (suc inside) h =
    scan-inside (place + 1) bytes inside (omega arith) ∙ ap (λ p. scan_from p (drop inside bytes) 0) (omega arith)

pub scan-end : (place : ℕ) (bytes : List ℕ) → bytes ≡ [] → scan_from place bytes 0 ≡ record { records = []; broken = None }
scan-end place bytes e = rw e refl

-- what begins with a byte, by the record that stands there
at_record : (place : ℕ) (byte : ℕ) (bytes : List ℕ) (found : Option Entry) → stands (byte ∷ bytes) ≡ found → scan_from place (byte ∷ bytes) 0 ≡ elim found [
  | None ↦ record { records = []; broken = Some place }
  | Some entry ↦ behind_record place entry (scan_from (place + 1) bytes (entry.size - 1))
]
at_record place byte bytes found e = ap (λ (f : Option Entry). elim f [
  | None ↦ let s : Scan = record { records = []; broken = Some place } in s
  | Some entry ↦ behind_record place entry (scan_from (place + 1) bytes (entry.size - 1))
]) e

pub scan-broken : (place : ℕ) (bytes : List ℕ) → bytes ≢ [] → stands bytes ≡ None → scan_from place bytes 0 ≡ record { records = []; broken = Some place }
scan-broken place [] some none = absurd (some refl)
scan-broken place (byte ∷ bytes) some none = at_record place byte bytes None none

pub drop-front : (n byte : ℕ) (bytes : List ℕ) → 0 < n → drop n (byte ∷ bytes) ≡ drop (n - 1) bytes
drop-front zero byte bytes h = absurd (omega arith)
drop-front (suc n) byte bytes h = let less : n ≡ suc n - 1 = omega arith in ap (λ k. drop k bytes) less

pub scan-first : (place : ℕ) (bytes : List ℕ) (entry : Entry) → stands bytes ≡ Some entry → 0 < entry.size → entry.size ≤ length bytes → scan_from place bytes 0 ≡ behind_record place entry (scan_from (place + entry.size) (drop entry.size bytes) 0)
scan-first place [] entry found some within = absurd (omega arith)
scan-first place (byte ∷ bytes) entry found some within =
    let next : place + 1 + (entry.size - 1) ≡ place + entry.size = omega arith in
    at_record place byte bytes (Some entry) found
    ∙ ap (behind_record place entry) (scan-inside (place + 1) bytes (entry.size - 1) (omega arith)
    ∙ ap (λ p. scan_from p (drop (entry.size - 1) bytes) 0) next
    ∙ ap (λ rest. scan_from (place + entry.size) rest 0) (sym (drop-front entry.size byte bytes some)))

stands_within : (bytes : List ℕ) (entry : Entry) → stands bytes ≡ Some entry → IsSize entry.size bytes
stands_within bytes entry e = let P : Option Entry → Type 0 = λ found. IfSome found (λ x. IsSize x.size bytes) in subst P e (stands_size bytes)

-- what a reader gives next is the first of the records that were left
pub first_of_next : (old new : Rest) (result : Option (Result Record ℕ)) → IsNext old new result → IsFirst old new result
unfolding scan_of
first_of_next old new None (end, same) = scan-end old.place old.bytes end
first_of_next old new (Some (Err place)) (here, some, none, same) = scan-broken old.place old.bytes some none ∙ ap (λ p. record { records = []; broken = Some p }) (sym here)
first_of_next old new (Some (Ok found)) (here, (size, stand, moved)) =
    let entry = entry_of found size in
    let fits = stands_within old.bytes entry stand in
    (size, scan-first old.place old.bytes entry stand fits.some fits.within ∙ ap (λ p. behind_record p entry (scan_from (old.place + size) (drop size old.bytes) 0)) (sym here) ∙ ap (λ rest. behind_record found.place entry (scan_of rest)) (sym moved))

pub behind_of_next : (old new : Rest) (result : Option (Result Record ℕ)) → IsNext old new result → IfSome result (λ next. IfOk next (λ found. IsBehind found old new))
unfolding scan_of
behind_of_next old new None next = tt
behind_of_next old new (Some (Err place)) next = tt
behind_of_next old new (Some (Ok found)) (here, (size, stand, moved)) =
    let taken : new.place - found.place ≡ size = omega (arith, here, ap (λ r. r.place) moved) in
    let entry = entry_of found size in
    let fits = stands_within old.bytes entry stand in
    let first : scan_of old ≡ behind_record found.place (entry_of found size) (scan_of new) =
    scan-first old.place old.bytes entry stand fits.some fits.within ∙ ap (λ p. behind_record p entry (scan_from (old.place + size) (drop size old.bytes) 0)) (sym here) ∙ ap (λ rest. behind_record found.place entry (scan_of rest)) (sym moved) in
    record {
      before = omega (arith, here, ap (λ r. r.place) moved);
      first = first ∙ ap (λ n. behind_record found.place (entry_of found n) (scan_of new)) (sym taken);
    }
