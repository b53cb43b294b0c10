-- Numbers in bytes, as arrays of bytes hold them.
use mathlib.Core.Path.{◌≡◌, refl, ap, sym, ◌∙◌}
use Prim.Native.Nat.{ℕ, zero, suc, ◌+◌, ◌-◌, ◌*◌, ◌≤◌, ◌<◌}
use mathlib.Core.List.{List, [], ◌∷◌, ◌++◌, append_assoc}
use native.Mathlib.Omega.{arith}
use lib.ListN.{length, take, drop, get_or, length-take, length-drop}
use lib.Seq.{sets, drop-cons, drop-drop}
use lib.IntN.{ℤ, pos, negsuc}
use mir.Syntax.{w8, w16, w32}
use mir.Val.{Fits}
use borrow.Rule.Slice.PartMut.{put_mid}
use Rattle.std.specs.Int.{to_le_bytes, from_le_bytes, cast_unsigned}
use Rattle.std.proofs.lemmas.List.Edits.{sets-eq}
use Rattle.records.specs.Bytes.{bytes_of, number, capacity, as_unsigned, as_signed}
use Rattle.records.specs.BytesLaws.{Bytes}
use Rattle.records.specs.Fields.{front_record}

-- a part of a buffer that is written as a whole
pub part_put : (at n : ℕ) (old new bs : List ℕ) → new ≡ bs → length bs ≡ n → at + n ≤ length old → put_mid at (at + n - at) old new ≡ sets old at bs
part_put at n old new bs e h k =
    let j : at + n - at ≡ n = omega arith in
    let m : at + n ≡ at + length bs = omega (arith, h) in
    rw (j, e) (ap (λ (z : List ℕ). take at old ++ (bs ++ z)) (drop-drop n at old ∙ ap (λ (z : ℕ). drop z old) m) ∙ sym (sets-eq bs old at (omega (arith, h)) ∙ append_assoc (take at old) bs (drop (at + length bs) old)))

-- numbers to bytes
pub bytes_2 : (n : ℕ) → to_le_bytes w16 n ≡ bytes_of 2 n
bytes_2 n = grind arith

pub bytes_4 : (n : ℕ) → to_le_bytes w32 n ≡ bytes_of 4 n
bytes_4 n = grind arith

pub signed_bytes : (z : ℤ) → to_le_bytes w32 (cast_unsigned w32 z) ≡ bytes_of 4 (as_unsigned 4 z)
signed_bytes (pos n) = bytes_4 n
signed_bytes (negsuc n) = bytes_4 (as_unsigned 4 (negsuc n))

-- and bytes to numbers
number_2 : (bs : List ℕ) → length bs ≡ 2 → from_le_bytes w16 bs ≡ number bs
number_2 [] h = absurd (omega arith)
number_2 (a ∷ []) h = absurd (omega arith)
number_2 (a ∷ b ∷ []) h = omega arith
number_2 (a ∷ b ∷ c ∷ bs) h = absurd (omega arith)

number_4 : (bs : List ℕ) → length bs ≡ 4 → from_le_bytes w32 bs ≡ number bs
number_4 [] h = absurd (omega arith)
number_4 (a ∷ []) h = absurd (omega arith)
number_4 (a ∷ b ∷ []) h = absurd (omega arith)
number_4 (a ∷ b ∷ c ∷ []) h = absurd (omega arith)
number_4 (a ∷ b ∷ c ∷ d ∷ []) h = omega arith
number_4 (a ∷ b ∷ c ∷ d ∷ e ∷ bs) h = absurd (omega arith)

taken : (n at : ℕ) (l bs : List ℕ) → bs ≡ take n (drop at l) → at + n ≤ length l → length bs ≡ n
taken n at l bs e h = ap length e ∙ simp (length-take, length-drop) (omega arith)

pub field_2 : (at : ℕ) (l : List ℕ) {bs : List ℕ} {n : ℕ} → n ≡ from_le_bytes w16 bs → bs ≡ take 2 (drop at l) → at + 2 ≤ length l → n ≡ number (take 2 (drop at l))
field_2 at l {bs} f e h = f ∙ number_2 bs (taken 2 at l bs e h) ∙ ap number e

pub field_4 : (at : ℕ) (l : List ℕ) {bs : List ℕ} {n : ℕ} → n ≡ from_le_bytes w32 bs → bs ≡ take 4 (drop at l) → at + 4 ≤ length l → n ≡ number (take 4 (drop at l))
field_4 at l {bs} f e h = f ∙ number_4 bs (taken 4 at l bs e h) ∙ ap number e

pub byte_field : (at k : ℕ) (l : List ℕ) → k ≡ at → at < length l → get_or l k 0 ≡ number (take 1 (drop at l))
byte_field at k l e h = rw (e, drop-cons l at 0 h) (omega arith)

-- the number read so far, and one byte more, fit
three_bytes : (w : ℕ) → w ≤ 3 → capacity w ≤ 16777216
three_bytes zero h = omega arith
three_bytes (suc zero) h = omega arith
three_bytes (suc (suc zero)) h = omega arith
three_bytes (suc (suc (suc zero))) h = omega arith
three_bytes (suc (suc (suc (suc w)))) h = absurd (omega arith)

pub room_for_byte : (i width n : ℕ) → 0 < i → width ≤ 4 → n < capacity (width - i) → n < 16777216
room_for_byte i width n p h s = let k = three_bytes (width - i) (omega arith) in omega arith

pub read_fits : (i width n b : ℕ) → 0 < i → i ≤ width → n < capacity (width - i) → b < 256 → 256 * n + b < capacity (width - (i - 1))
read_fits i width n b p h s t = let k : width - (i - 1) ≡ suc (width - i) = omega arith in rw k (omega arith)

-- what is known of each byte of a slice
pub each_byte : (l : List ℕ) → ((i : ℕ) → Fits w8 (get_or l i 0)) → Bytes l
each_byte l h i = (h i).fits

-- the record from a byte on, by its numbers
onward : (m n k : ℕ) (l : List ℕ) {d : List ℕ} → d ≡ drop n l → n + m ≡ k → drop m d ≡ drop k l
onward m n k l e h = ap (drop m) e ∙ drop-drop m n l ∙ ap (λ (j : ℕ). drop j l) h

pub front_is : (l : List ℕ) (d at u v place low high bits steps class : ℕ) (duv : ℤ) → duv ≡ as_signed d bits → u ≡ number (take 4 (drop at l)) →
    v ≡ number (take 4 (drop (at + 4) l)) → place ≡ number (take 2 (drop (at + 8) l)) → low ≡ number (take 2 (drop (at + 10) l)) →
    high ≡ number (take 2 (drop (at + 12) l)) → bits ≡ number (take d (drop (at + 14) l)) → steps ≡ number (take 1 (drop (at + 14 + d) l)) →
    class ≡ number (take 1 (drop (at + 15 + d) l)) →
    record { u = u; v = v; place = place; low = low; high = high; duv = duv; steps = steps; class = class } ≡ front_record d (drop at l)
unfolding front_record
front_is l d at u v place low high bits steps class duv e e0 e1 e2 e3 e4 e5 e6 e7 =
    let d1 : drop 4 (drop at l) ≡ drop (at + 4) l = onward 4 at (at + 4) l refl (omega arith) in
    let d2 : drop 4 (drop 4 (drop at l)) ≡ drop (at + 8) l = onward 4 (at + 4) (at + 8) l d1 (omega arith) in
    let d3 : drop 2 (drop 4 (drop 4 (drop at l))) ≡ drop (at + 10) l = onward 2 (at + 8) (at + 10) l d2 (omega arith) in
    let d4 : drop 2 (drop 2 (drop 4 (drop 4 (drop at l)))) ≡ drop (at + 12) l = onward 2 (at + 10) (at + 12) l d3 (omega arith) in
    let d5 : drop 2 (drop 2 (drop 2 (drop 4 (drop 4 (drop at l))))) ≡ drop (at + 14) l = onward 2 (at + 12) (at + 14) l d4 (omega arith) in
    let d6 : drop d (drop 2 (drop 2 (drop 2 (drop 4 (drop 4 (drop at l)))))) ≡ drop (at + 14 + d) l = onward d (at + 14) (at + 14 + d) l d5 refl in
    let d7 : drop 1 (drop d (drop 2 (drop 2 (drop 2 (drop 4 (drop 4 (drop at l))))))) ≡ drop (at + 15 + d) l = onward 1 (at + 14 + d) (at + 15 + d) l d6 (omega arith) in
    let f1 = e1 ∙ ap (λ (z : List ℕ). number (take 4 z)) (sym d1) in
    let f2 = e2 ∙ ap (λ (z : List ℕ). number (take 2 z)) (sym d2) in
    let f3 = e3 ∙ ap (λ (z : List ℕ). number (take 2 z)) (sym d3) in
    let f4 = e4 ∙ ap (λ (z : List ℕ). number (take 2 z)) (sym d4) in
    let f5 = e5 ∙ ap (λ (z : List ℕ). number (take d z)) (sym d5) in
    let f6 = e6 ∙ ap (λ (z : List ℕ). number (take 1 z)) (sym d6) in
    let f7 = e7 ∙ ap (λ (z : List ℕ). number (take 1 z)) (sym d7) in
    let g : duv ≡ as_signed d (number (take d (drop 2 (drop 2 (drop 2 (drop 4 (drop 4 (drop at l)))))))) = e ∙ ap (as_signed d) f5 in
    λ i. record { u = e0 i; v = f1 i; place = f2 i; low = f3 i; high = f4 i; duv = g i; steps = f6 i; class = f7 i }
