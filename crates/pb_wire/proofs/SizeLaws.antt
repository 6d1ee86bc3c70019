-- A varint, a payload and a record take at least one byte, and no more than there are.
use Rattle.std.proofs.Common.{◌≡◌, refl, ℕ, zero, suc, ◌+◌, ◌%◌, ◌^◌, ◌<◌, ◌≤◌, List, [], ◌∷◌, length, drop, Bool, true, false, cond, nat_eq, nat_lt, nat_le, Option, Some, None, IfSome, arith, length-drop, ◌&&◌}
use Rattle.std.specs.Option.{option_map, option_and_then}
use Rattle.std.proofs.lemmas.Bool.{leb-true}
use Rattle.pb_wire.specs.Varint.{varint_within, varint_of, behind_byte}
use Rattle.pb_wire.specs.Records.{Content, payload_of, fixed, block_of, stands}

-- the size lies within the bytes
abbrev pub Within : {A : Type 0} → (A → ℕ) → List ℕ → Option A → Type 0
Within size bytes found = IfSome found (λ x. size x ≤ length bytes)

-- at least one byte, and no more than there are
pub record IsSize (size : ℕ) (bytes : List ℕ) : Type 0 where
  pub some : 0 < size
  pub within : size ≤ length bytes

chosen : {A : Type 0} (P : A → Type 0) (b : Bool) (x y : Option A) → IfSome x P → IfSome y P → IfSome (cond b x y) P
chosen P true x y p q = p
chosen P false x y p q = q

-- a fact for a choice, where the test says why the first is chosen
tested : {A : Type 0} (P : A → Type 0) (b : Bool) (x : Option A) → (b ≡ true → IfSome x P) → IfSome (cond b x None) P
tested P true x p = p refl
tested P false x p = tt

behind_size : (byte : ℕ) (bytes : List ℕ) (rest : Option (ℕ × ℕ)) → IfSome rest (λ r. IsSize r.1 bytes) → IfSome (option_map (behind_byte byte) rest) (λ r. IsSize r.1 (byte ∷ bytes))
behind_size byte bytes None p = tt
behind_size byte bytes (Some r) p = record { some = omega arith; within = omega (arith, p.within) }

varint_within_size : (left : ℕ) (bytes : List ℕ) → IfSome (varint_within left bytes) (λ r. IsSize r.1 bytes)
varint_within_size zero bytes = tt
varint_within_size (suc left) [] = tt
varint_within_size (suc zero) (byte ∷ bytes) = tested (λ r. IsSize r.1 (byte ∷ bytes)) (nat_lt byte 2) (Some (byte, 1)) (λ _. record { some = omega arith; within = omega arith })
varint_within_size (suc (suc left)) (byte ∷ bytes) =
    chosen (λ r. IsSize r.1 (byte ∷ bytes)) (nat_lt byte 128) (Some (byte, 1)) (option_map (behind_byte byte) (varint_within (suc left) bytes))
    (record { some = omega arith; within = omega arith })
    (behind_size byte bytes (varint_within (suc left) bytes) (varint_within_size (suc left) bytes))

pub varint_size : (bytes : List ℕ) → IfSome (varint_of bytes) (λ r. IsSize r.1 bytes)
unfolding varint_of
varint_size bytes = varint_within_size 10 bytes

fixed_size : (count : ℕ) (content : ℕ → Content) (bytes : List ℕ) → Within (λ r. r.1) bytes (fixed count content bytes)
fixed_size count content bytes = tested (λ r. r.1 ≤ length bytes) (nat_le count (length bytes)) (Some (content _, count)) (λ h. leb-true count (length bytes) h)

-- what follows of an option goes through its next step
then_size : {A B : Type 0} (P : A → Type 0) (Q : B → Type 0) (f : A → Option B) (found : Option A) → IfSome found P → ((x : A) → P x → IfSome (f x) Q) → IfSome (option_and_then f found) Q
then_size P Q f None p step = tt
then_size P Q f (Some x) p step = step x p

map_size : {A B : Type 0} (P : A → Type 0) (Q : B → Type 0) (f : A → B) (found : Option A) → IfSome found P → ((x : A) → P x → Q (f x)) → IfSome (option_map f found) Q
map_size P Q f None p step = tt
map_size P Q f (Some x) p step = step x p

block_size : (bytes : List ℕ) → Within (λ r. r.1) bytes (block_of bytes)
block_size bytes = then_size (λ r. IsSize r.1 bytes) (λ r. r.1 ≤ length bytes) _ (varint_of bytes) (varint_size bytes) (λ len p.
    tested (λ r. r.1 ≤ length bytes) (nat_le (len.1 + len.0) (length bytes)) (Some _) (λ h. leb-true (len.1 + len.0) (length bytes) h))

payload_size : (wire : ℕ) (bytes : List ℕ) → Within (λ r. r.1) bytes (payload_of wire bytes)
payload_size wire bytes =
    chosen P (nat_eq wire 0) (option_map (λ value. (Content.Varint value.0, value.1)) (varint_of bytes)) _
    (map_size (λ r. IsSize r.1 bytes) P _ (varint_of bytes) (varint_size bytes) (λ r p. p.within))
    (chosen P (nat_eq wire 1) (fixed 8 Content.Eight bytes) _ (fixed_size 8 Content.Eight bytes)
    (chosen P (nat_eq wire 2) (block_of bytes) _ (block_size bytes)
    (chosen P (nat_eq wire 5) (fixed 4 Content.Four bytes) None (fixed_size 4 Content.Four bytes) tt)))
  where
    P : Content × ℕ → Type 0
    P r = r.1 ≤ length bytes

pub stands_size : (bytes : List ℕ) → IfSome (stands bytes) (λ entry. IsSize entry.size bytes)
unfolding stands
stands_size bytes = then_size (λ r. IsSize r.1 bytes) (λ entry. IsSize entry.size bytes) _ (varint_of bytes) (varint_size bytes) (λ key p.
    tested (λ entry. IsSize entry.size bytes) (nat_lt key.0 (2 ^ 32) && nat_le 8 key.0) (option_map _ (payload_of (key.0 % 8) (drop key.1 bytes))) (λ _.
    map_size (λ r. r.1 ≤ length (drop key.1 bytes)) (λ entry. IsSize entry.size bytes) _ (payload_of (key.0 % 8) (drop key.1 bytes)) (payload_size (key.0 % 8) (drop key.1 bytes)) (λ r q.
    record { some = omega (arith, p.some); within = omega (arith, p.within, length-drop key.1 bytes) })))
