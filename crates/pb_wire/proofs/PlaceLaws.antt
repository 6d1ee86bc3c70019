-- The list of a message's records by places.
use Rattle.std.proofs.Common.{◌≡◌, ◌≢◌, ◌∙◌, sym, ap, refl, subst, ℕ, zero, suc, ◌+◌, ◌<◌, ◌≤◌, List, [], ◌∷◌, length, drop, Option, Some, None, IfSome, arith, length-drop}
use Rattle.std.proofs.Common.{inl, inr}
use Rattle.std.proofs.lemmas.Bool.{cases_eq}
use Rattle.std.proofs.Math.ListN.{drop_of_length-le}
use Rattle.std.proofs.lemmas.List.{drop-drop}
use Rattle.pb_wire.specs.Records.{Entry, Placed, Scan, record_at, scan_from, behind_record, records_of, IsScanFrom, IsScan}
use Rattle.pb_wire.proofs.SizeLaws.{IsSize, stands_size}
use Rattle.pb_wire.proofs.ScanLaws.{scan-end, scan-broken, scan-first}

-- a record that stands at a place lies within the bytes
fits : (bytes : List ℕ) (place : ℕ) (entry : Entry) → record_at bytes place ≡ Some entry → IsSize entry.size (drop place bytes)
fits bytes place entry e = let P : Option Entry → Type 0 = λ found. IfSome found (λ x. IsSize x.size (drop place bytes)) in subst P e (stands_size (drop place bytes))

-- the scan from a place of the whole bytes
abbrev scan_at : List ℕ → ℕ → Scan
scan_at bytes place = scan_from place (drop place bytes) 0

next_scan : (bytes : List ℕ) (place : ℕ) (entry : Entry) → record_at bytes place ≡ Some entry → scan_at bytes place ≡ behind_record place entry (scan_at bytes (place + entry.size))
next_scan bytes place entry e =
    let f = fits bytes place entry e in
    scan-first place (drop place bytes) entry e f.some f.within ∙ ap (λ rest. behind_record place entry (scan_from (place + entry.size) rest 0)) (drop-drop entry.size place bytes)

-- the bytes from a place on are none exactly at the end
drop_end : (bytes : List ℕ) (place : ℕ) → place ≡ length bytes → drop place bytes ≡ []
drop_end bytes place end = drop_of_length-le bytes (omega arith)

drop_some : (bytes : List ℕ) (place : ℕ) → place < length bytes → drop place bytes ≢ []
drop_some bytes place some none = absurd (omega (arith, length-drop place bytes, ap length none))

-- what the scan from a place has to meet
abbrev Met : List ℕ → ℕ → Scan → Type 0
Met bytes place scan = IsScanFrom bytes place scan.records scan.broken

at_broken : (bytes : List ℕ) (place : ℕ) → place < length bytes → record_at bytes place ≡ None → Met bytes place (scan_at bytes place)
at_broken bytes place some none = let P : Scan → Type 0 = Met bytes place in subst P (sym (scan-broken place (drop place bytes) (drop_some bytes place some) none)) (refl, some, none)

at_record : (bytes : List ℕ) (place : ℕ) (entry : Entry) → record_at bytes place ≡ Some entry → Met bytes (place + entry.size) (scan_at bytes (place + entry.size)) → Met bytes place (scan_at bytes place)
at_record bytes place entry stand rest = let P : Scan → Type 0 = Met bytes place in subst P (sym (next_scan bytes place entry stand)) (refl, stand, rest)

behind : (bytes : List ℕ) (place : ℕ) (entry : Entry) → place ≤ length bytes → record_at bytes place ≡ Some entry → (place < place + entry.size) × (place + entry.size ≤ length bytes)
behind bytes place entry within stand = let f = fits bytes place entry stand in (omega (arith, f.some), omega (arith, f.within, length-drop place bytes))

at_end : (bytes : List ℕ) (place : ℕ) → place ≡ length bytes → Met bytes place (scan_at bytes place)
at_end bytes place end = let P : Scan → Type 0 = Met bytes place in subst P (sym (scan-end place (drop place bytes) (drop_end bytes place end))) end

-- where at most so many bytes are left
found_from : (left : ℕ) (bytes : List ℕ) (place : ℕ) → place ≤ length bytes → length bytes ≤ place + left → Met bytes place (scan_at bytes place)
found_from zero bytes place within enough = at_end bytes place (omega arith)
found_from (suc left) bytes place within enough = elim (cases_eq place (length bytes)) [
  | inl end ↦ at_end bytes place end
  | inr some ↦ (elim (record_at bytes place) as (λ stand. record_at bytes place ≡ stand → Met bytes place (scan_at bytes place)) [
    | None ↦ λ none. at_broken bytes place (omega arith) none
    | Some entry ↦ λ stand. let b = behind bytes place entry within stand in
        at_record bytes place entry stand (found_from left bytes (place + entry.size) b.1 (omega (arith, b.0)))
  ]) refl
]

pub found : (bytes : List ℕ) → IsScan bytes (records_of bytes)
unfolding records_of
found bytes = found_from (length bytes) bytes 0 (omega arith) (omega arith)

-- a scan that begins with this record
abbrev begun : Placed → Scan → Scan
begun placed scan = record { records = placed ∷ scan.records; broken = scan.broken }

only_from : (bytes : List ℕ) (place : ℕ) (records : List Placed) (broken : Option ℕ) → place ≤ length bytes → IsScanFrom bytes place records broken → ◌≡◌ {A = Scan} (record { records = records; broken = broken }) (scan_at bytes place)
only_from bytes place [] None within end = sym (scan-end place (drop place bytes) (drop_end bytes place end))
only_from bytes place [] (Some b) within (here, some, none) =
    ap (λ p. record { records = []; broken = Some p }) here ∙ sym (scan-broken place (drop place bytes) (drop_some bytes place some) none)
only_from bytes place (placed ∷ records) broken within (here, stand, rest) =
    let b = behind bytes place placed.entry within stand in
    ap (begun placed) (only_from bytes (place + placed.entry.size) records broken b.1 rest)
    ∙ ap (λ p. behind_record p placed.entry (scan_at bytes (place + placed.entry.size))) here
    ∙ sym (next_scan bytes place placed.entry stand)

pub only : (bytes : List ℕ) (scan : Scan) → IsScan bytes scan → scan ≡ records_of bytes
unfolding records_of
only bytes scan is = only_from bytes 0 scan.records scan.broken (omega arith) is
