-- What begins the bytes goes on to begin them where more bytes follow.
use Rattle.std.proofs.Common.{◌≡◌, ◌∙◌, sym, ap, refl, subst, ℕ, zero, suc, ◌+◌, ◌/◌, ◌%◌, ◌^◌, ◌≤◌, List, [], ◌∷◌, ◌++◌, length, take, drop, get_or, Bool, true, false, cond, nat_eq, nat_lt, nat_le, Option, Some, None, IfSome, arith, length-append, length-drop, ◌&&◌}
use Rattle.std.specs.Option.{option_map, option_and_then}
use Rattle.std.proofs.lemmas.Bool.{leb-true, le-leb}
use Rattle.std.proofs.lemmas.List.{take-append-le, drop-append-le}
use Rattle.std.proofs.Math.ListN.{get_or-append}
use Rattle.byteorder.specs.Endian.{little_number, little_from}
use Rattle.pb_wire.specs.Varint.{varint_within, varint_of, behind_byte}
use Rattle.pb_wire.specs.Records.{Content, Entry, payload_of, fixed, block_of, stands}
use Rattle.pb_wire.proofs.SizeLaws.{IsSize, varint_size}

-- where this is found, so is that
abbrev pub Kept : {A : Type 0} → Option A → Option A → Type 0
Kept {A} found more = (x : A) → found ≡ Some x → more ≡ Some x

chosen : {A : Type 0} (b : Bool) (x y u v : Option A) → Kept x u → Kept y v → Kept (cond b x y) (cond b u v)
chosen true x y u v p q = p
chosen false x y u v p q = q

map_kept : {A B : Type 0} (f : A → B) (found more : Option A) → Kept found more → Kept (option_map f found) (option_map f more)
map_kept f None more p x e = cc
map_kept f (Some a) more p x e = ap (option_map f) (p a refl) ∙ e

then_kept : {A B : Type 0} (f g : A → Option B) (found more : Option A) → Kept found more → ((a : A) → found ≡ Some a → Kept (f a) (g a)) → Kept (option_and_then f found) (option_and_then g more)
then_kept f g None more p step x e = cc
then_kept f g (Some a) more p step x e = ap (option_and_then g) (p a refl) ∙ step a refl x e

varint_within_kept : (left : ℕ) (bytes more : List ℕ) → Kept (varint_within left bytes) (varint_within left (bytes ++ more))
varint_within_kept zero bytes more x e = cc
varint_within_kept (suc left) [] more x e = cc
varint_within_kept (suc zero) (byte ∷ bytes) more x e = e
varint_within_kept (suc (suc left)) (byte ∷ bytes) more x e =
    chosen (nat_lt byte 128) (Some (byte, 1)) (option_map (behind_byte byte) (varint_within (suc left) bytes)) (Some (byte, 1)) (option_map (behind_byte byte) (varint_within (suc left) (bytes ++ more)))
    (λ x e. e)
    (map_kept (behind_byte byte) (varint_within (suc left) bytes) (varint_within (suc left) (bytes ++ more)) (varint_within_kept (suc left) bytes more))
    x e

pub varint_kept : (bytes more : List ℕ) → Kept (varint_of bytes) (varint_of (bytes ++ more))
unfolding varint_of
varint_kept bytes more = varint_within_kept 10 bytes more

little_from_kept : (i n : ℕ) (bytes more : List ℕ) → i + n ≤ length bytes → little_from i n (bytes ++ more) ≡ little_from i n bytes
little_from_kept i zero bytes more h = refl
little_from_kept i (suc n) bytes more h =
    let here : get_or (bytes ++ more) i 0 ≡ get_or bytes i 0 = get_or-append bytes more 0 i (omega arith) in
    rw (here, little_from_kept (suc i) n bytes more (omega arith)) refl

-- what is found under a test that goes on to hold
tested : {A : Type 0} (b c : Bool) (x y : A) → (b ≡ true → (c ≡ true) × (y ≡ x)) → Kept (cond b (Some x) None) (cond c (Some y) None)
tested true c x y p z e = rw ((p refl).0, (p refl).1) e
tested false c x y p z e = cc

within_more : (n : ℕ) (bytes more : List ℕ) → nat_le n (length bytes) ≡ true → nat_le n (length (bytes ++ more)) ≡ true
within_more n bytes more e = le-leb n (length (bytes ++ more)) (omega (arith, leb-true n (length bytes) e, length-append bytes more))

pair_of : {A B : Type 0} {a b : A} (c : B) → a ≡ b → ◌≡◌ {A = A × B} (a, c) (b, c)
pair_of c e = ap (λ a. (a, c)) e

fixed_kept : (count : ℕ) (content : ℕ → Content) (bytes more : List ℕ) → Kept (fixed count content bytes) (fixed count content (bytes ++ more))
fixed_kept count content bytes more = tested (nat_le count (length bytes)) (nat_le count (length (bytes ++ more))) (content (little_number count bytes), count) (content (little_number count (bytes ++ more)), count) (λ h. (
  within_more count bytes more h,
  pair_of count (ap content (little_from_kept 0 count bytes more (omega (arith, leb-true count (length bytes) h)))),
))

block_kept : (bytes more : List ℕ) → Kept (block_of bytes) (block_of (bytes ++ more))
block_kept bytes more = then_kept _ _ (varint_of bytes) (varint_of (bytes ++ more)) (varint_kept bytes more) (λ len found.
    tested (nat_le (len.1 + len.0) (length bytes)) (nat_le (len.1 + len.0) (length (bytes ++ more))) (Content.Bytes (take len.0 (drop len.1 bytes)), len.1 + len.0) (Content.Bytes (take len.0 (drop len.1 (bytes ++ more))), len.1 + len.0) (λ h.
    let within : len.1 + len.0 ≤ length bytes = leb-true (len.1 + len.0) (length bytes) h in
    let front : drop len.1 (bytes ++ more) ≡ drop len.1 bytes ++ more = drop-append-le len.1 bytes more (omega arith) in
    let same : take len.0 (drop len.1 (bytes ++ more)) ≡ take len.0 (drop len.1 bytes) =
    ap (take len.0) front ∙ take-append-le len.0 (drop len.1 bytes) more (omega (arith, length-drop len.1 bytes)) in
    (within_more (len.1 + len.0) bytes more h, pair_of (len.1 + len.0) (ap Content.Bytes same))))

payload_kept : (wire : ℕ) (bytes more : List ℕ) → Kept (payload_of wire bytes) (payload_of wire (bytes ++ more))
payload_kept wire bytes more =
    chosen (nat_eq wire 0) _ _ _ _ (map_kept (λ value. (Content.Varint value.0, value.1)) (varint_of bytes) (varint_of (bytes ++ more)) (varint_kept bytes more))
    (chosen (nat_eq wire 1) _ _ _ _ (fixed_kept 8 Content.Eight bytes more)
    (chosen (nat_eq wire 2) _ _ _ _ (block_kept bytes more)
    (chosen (nat_eq wire 5) _ _ _ _ (fixed_kept 4 Content.Four bytes more) (λ x e. e))))

if_tested : {A : Type 0} (b : Bool) (found more : Option A) → Kept found more → Kept (cond b found None) (cond b more None)
if_tested true found more p x e = p x e
if_tested false found more p x e = e

-- the record with this key, and with the payload that begins these bytes
abbrev with_key : ℕ × ℕ → List ℕ → Option Entry
with_key key rest = cond (nat_lt key.0 (2 ^ 32) && nat_le 8 key.0) (option_map (λ payload. record { number = key.0 / 8; content = payload.0; size = key.1 + payload.1 }) (payload_of (key.0 % 8) rest)) None

with_key_kept : (key : ℕ × ℕ) (rest more : List ℕ) → Kept (with_key key rest) (with_key key (rest ++ more))
with_key_kept key rest more = if_tested (nat_lt key.0 (2 ^ 32) && nat_le 8 key.0) _ _ (map_kept _ (payload_of (key.0 % 8) rest) (payload_of (key.0 % 8) (rest ++ more)) (payload_kept (key.0 % 8) rest more))

-- a record that begins the bytes still does where more follow
pub stands_kept : (bytes more : List ℕ) → Kept (stands bytes) (stands (bytes ++ more))
unfolding stands
stands_kept bytes more = then_kept (λ key. with_key key (drop key.1 bytes)) (λ key. with_key key (drop key.1 (bytes ++ more))) (varint_of bytes) (varint_of (bytes ++ more)) (varint_kept bytes more) (λ key found.
    let P : Option (ℕ × ℕ) → Type 0 = λ read. IfSome read (λ r. IsSize r.1 bytes) in
    let size : IsSize key.1 bytes = subst P found (varint_size bytes) in
    let front : drop key.1 (bytes ++ more) ≡ drop key.1 bytes ++ more = drop-append-le key.1 bytes more size.within in
    let Q : List ℕ → Type 0 = λ rest. Kept (with_key key (drop key.1 bytes)) (with_key key rest) in
    subst Q (sym front) (with_key_kept key (drop key.1 bytes) more))
