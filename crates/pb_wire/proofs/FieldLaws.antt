-- The records of a message without their places: one by one, and of two messages one after the other.
use Rattle.std.proofs.Common.{◌≡◌, ◌≢◌, ◌∙◌, sym, ap, refl, subst, ℕ, zero, suc, ◌+◌, ◌-◌, ◌≤◌, List, [], ◌∷◌, ◌++◌, true, false, map, length, drop, Option, Some, None, IfSome, Result, Ok, Err, arith, length-drop, is_none}
use Rattle.std.proofs.lemmas.List.{drop-append-le}
use Rattle.pb_wire.specs.Records.{Entry, Scan, stands, scan_from, records_of, behind_record}
use Rattle.pb_wire.specs.Payloads.{Field, field_of, fields_of, is_whole}
use Rattle.pb_wire.specs.declared.record.Record.{Record}
use Rattle.pb_wire.specs.Seen.{Rest, IsNext, IsFirstField, entry_of}
use Rattle.pb_wire.proofs.SizeLaws.{IsSize, stands_size}
use Rattle.pb_wire.proofs.ScanLaws.{scan-broken, scan-first}
use Rattle.pb_wire.proofs.LongerLaws.{stands_kept}

-- two scans have the same records, but for their places
abbrev IsAlike : Scan → Scan → Type 0
IsAlike a b = (map field_of a.records ≡ map field_of b.records) × (is_none a.broken ≡ is_none b.broken)

behind_alike : (p q : ℕ) (entry : Entry) (a b : Scan) → IsAlike a b → IsAlike (behind_record p entry a) (behind_record q entry b)
behind_alike p q entry a b (same, ends) = (ap (λ fields. record { number = entry.number; content = entry.content } ∷ fields) same, ends)

alike : (p q : ℕ) (bytes : List ℕ) (inside : ℕ) → IsAlike (scan_from p bytes inside) (scan_from q bytes inside)
alike p q [] inside = (refl, refl)
alike p q (byte ∷ bytes) (suc inside) = alike (p + 1) (q + 1) bytes inside
alike p q (byte ∷ bytes) zero =
    let f : Option Entry → ℕ → Scan = λ found p. elim found [
      | None ↦ record { records = []; broken = Some p }
      | Some entry ↦ behind_record p entry (scan_from (p + 1) bytes (entry.size - 1))
    ] in
    elim (stands (byte ∷ bytes)) as (λ found. IsAlike (f found p) (f found q)) [
      | None ↦ (refl, refl)
      | Some entry ↦ behind_alike p q entry _ _ (alike (p + 1) (q + 1) bytes (entry.size - 1))
    ]

-- the record that begins the bytes, and those behind it
pub record IsBegun (bytes : List ℕ) (entry : Entry) : Type 0 where
  pub fields : fields_of bytes ≡ record { number = entry.number; content = entry.content } ∷ fields_of (drop entry.size bytes)
  pub whole : is_whole bytes ≡ is_whole (drop entry.size bytes)

stands_within : (bytes : List ℕ) (entry : Entry) → stands bytes ≡ Some entry → IsSize entry.size bytes
stands_within bytes entry e = let P : Option Entry → Type 0 = λ found. IfSome found (λ x. IsSize x.size bytes) in subst P e (stands_size bytes)

pub begun : (bytes : List ℕ) (entry : Entry) → stands bytes ≡ Some entry → IsBegun bytes entry
unfolding fields_of is_whole records_of
begun bytes entry e =
    let size = stands_within bytes entry e in
    let first = scan-first 0 bytes entry e size.some size.within in
    let rest = alike (0 + entry.size) 0 (drop entry.size bytes) 0 in
    record {
      fields = ap (λ scan. map field_of scan.records) first ∙ ap (λ fields. record { number = entry.number; content = entry.content } ∷ fields) rest.0;
      whole = ap (λ scan. is_none scan.broken) first ∙ rest.1;
    }

pub none_left : (bytes : List ℕ) → bytes ≡ [] → (fields_of bytes ≡ []) × (is_whole bytes ≡ true)
unfolding fields_of is_whole records_of
none_left bytes e = (ap (λ b. map field_of (scan_from 0 b 0).records) e, ap (λ b. is_none (scan_from 0 b 0).broken) e)

pub none_stands : (bytes : List ℕ) → bytes ≢ [] → stands bytes ≡ None → (fields_of bytes ≡ []) × (is_whole bytes ≡ false)
unfolding fields_of is_whole records_of
none_stands bytes some none =
    let broken = scan-broken 0 bytes some none in
    (ap (λ scan. map field_of scan.records) broken, ap (λ scan. is_none scan.broken) broken)

-- what a reader gives next is the first of the records that were left, without places
pub first_field_of_next : (old new : Rest) (result : Option (Result Record ℕ)) → IsNext old new result → IsFirstField old new result
first_field_of_next old new None (end, same) = none_left old.bytes end
first_field_of_next old new (Some (Err place)) (here, some, none, same) = none_stands old.bytes some none
first_field_of_next old new (Some (Ok found)) (here, (size, stand, moved)) =
    let first = begun old.bytes (entry_of found size) stand in
    let rest : new.bytes ≡ drop size old.bytes = ap (λ r. r.bytes) moved in (
      first.fields ∙ ap (λ b. record { number = found.number; content = (entry_of found size).content } ∷ fields_of b) (sym rest),
      first.whole ∙ ap is_whole (sym rest),
    )

-- two messages one after the other
pub record IsJoined (first second : List ℕ) : Type 0 where
  pub fields : fields_of (first ++ second) ≡ fields_of first ++ fields_of second
  pub whole : is_whole (first ++ second) ≡ is_whole second

joined_none : (first second : List ℕ) → first ≡ [] → IsJoined first second
joined_none first second e =
    let same : first ++ second ≡ second = ap (λ f. f ++ second) e in
    let none = none_left first e in
    record { fields = ap fields_of same ∙ ap (λ f. f ++ fields_of second) (sym none.0); whole = ap is_whole same }

joined_record : (first second : List ℕ) (entry : Entry) → stands first ≡ Some entry → IsJoined (drop entry.size first) second → IsJoined first second
joined_record first second entry stand rest =
    let size = stands_within first entry stand in
    let one = begun first entry stand in
    let both = begun (first ++ second) entry (stands_kept first second entry stand) in
    let behind : drop entry.size (first ++ second) ≡ drop entry.size first ++ second = drop-append-le entry.size first second size.within in
    let field : Field = record { number = entry.number; content = entry.content } in
    record {
      fields = both.fields ∙ ap (λ b. field ∷ fields_of b) behind ∙ ap (λ fs. field ∷ fs) rest.fields ∙ ap (λ fs. fs ++ fields_of second) (sym one.fields);
      whole = both.whole ∙ ap is_whole behind ∙ rest.whole;
    }

joined_within : (left : ℕ) (first second : List ℕ) → length first ≤ left → is_whole first ≡ true → IsJoined first second
joined_within left [] second h whole = joined_none [] second refl
joined_within zero (byte ∷ first) second h whole = absurd (omega arith)
joined_within (suc left) (byte ∷ first) second h whole = (elim (stands (byte ∷ first)) as (λ found. stands (byte ∷ first) ≡ found → IsJoined (byte ∷ first) second) [
  | None ↦ λ none. let broken : is_whole (byte ∷ first) ≡ false = (none_stands (byte ∷ first) (λ e. cc) none).1 in cc
  | Some entry ↦ λ stand.
      let size = stands_within (byte ∷ first) entry stand in
      let begins = begun (byte ∷ first) entry stand in
      joined_record (byte ∷ first) second entry stand (joined_within left (drop entry.size (byte ∷ first)) second (omega (arith, size.some, size.within, length-drop entry.size (byte ∷ first))) (sym begins.whole ∙ whole))
]) refl

-- the records of two messages one after the other are those of both
pub joined : (first second : List ℕ) → is_whole first ≡ true → IsJoined first second
joined first second whole = joined_within (length first) first second (omega arith) whole
