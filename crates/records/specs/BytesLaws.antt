-- Laws of numbers in bytes: what is packed unpacks as it was where each number fits its width, and bytes that are unpacked pack again.
use Rattle.std.specs.Prelude.{ℕ, zero, suc, ◌+◌, ◌-◌, ◌*◌, ◌/◌, ◌%◌, ◌≤◌, ◌<◌, ◌≡◌, refl, Bool, true, false, cond, List, [], ◌∷◌, ◌++◌, ltb, ℤ, pos, negsuc, length, take, drop, get_or}
use Rattle.std.proofs.Common.{ap, sym, append_assoc, arith, length-drop, take_at, drop_at, take-add, get_or-drop, lt-ltb, le-ltb, ltb-true, ltb-false}
use Rattle.records.specs.Bytes.{bytes_of, number, capacity, as_unsigned, as_signed, pack, unpack, total_of}

-- each number is no wider than its width
pub data Fit : (widths numbers : List ℕ) → Type 0 where
  none : Fit [] []
  next : {w n : ℕ} {ws ns : List ℕ} → n < capacity w → Fit ws ns → Fit (w ∷ ws) (n ∷ ns)

-- each element is a byte
abbrev pub Bytes : List ℕ → Type 0
Bytes l = (i : ℕ) → get_or l i 0 < 256

-- w bytes hold the signed number
abbrev pub Holds : ℕ → ℤ → Type 0
Holds w (pos n) = n < capacity w / 2
Holds w (negsuc n) = suc n ≤ capacity w / 2

-- one number
pub length_bytes : (w n : ℕ) → length (bytes_of w n) ≡ w
length_bytes zero n = refl
length_bytes (suc w) n = ap suc (length_bytes w (n / 256))

pub number_bytes : (w n : ℕ) → n < capacity w → number (bytes_of w n) ≡ n
number_bytes zero n h = omega arith
number_bytes (suc w) n h = let e = number_bytes w (n / 256) (omega arith) in omega arith

bytes_tail : (b : ℕ) (l : List ℕ) → Bytes (b ∷ l) → Bytes l
bytes_tail b l h i = h (suc i)

pub bytes_drop : (k : ℕ) (l : List ℕ) → Bytes l → Bytes (drop k l)
bytes_drop k l h i = rw (get_or-drop k l i 0) (h (k + i))

pub bytes_number : (w : ℕ) (l : List ℕ) → w ≤ length l → Bytes l → bytes_of w (number (take w l)) ≡ take w l
bytes_number zero l h b = refl
bytes_number (suc w) [] h b = absurd (omega arith)
bytes_number (suc w) (x ∷ l) h b =
    let n = number (take w l) in
    let c : x < 256 = b 0 in
    let p : (x + 256 * n) % 256 ≡ x = omega arith in
    let q : (x + 256 * n) / 256 ≡ n = omega arith in
    rw (p, q, bytes_number w l (omega arith) (bytes_tail x l b)) refl

pub number_fits : (w : ℕ) (l : List ℕ) → Bytes l → number (take w l) < capacity w
number_fits zero l b = omega arith
number_fits (suc w) [] b = let h = number_fits w [] b in omega arith
number_fits (suc w) (x ∷ l) b = let h = number_fits w l (bytes_tail x l b) in let c : x < 256 = b 0 in omega arith

-- a signed number
capacity_up : (w : ℕ) → 1 ≤ capacity w
capacity_up zero = omega arith
capacity_up (suc w) = let h = capacity_up w in omega arith

capacity_even : (w : ℕ) → capacity (suc w) / 2 * 2 ≡ capacity (suc w)
capacity_even w = omega arith

pub signed_unsigned : (w : ℕ) (z : ℤ) → Holds (suc w) z → as_signed (suc w) (as_unsigned (suc w) z) ≡ z
signed_unsigned w (pos n) h = rw (lt-ltb n (capacity (suc w) / 2) h) refl
signed_unsigned w (negsuc n) h =
    let e = capacity_even w in
    let p : capacity (suc w) - suc (capacity (suc w) - suc n) ≡ n = omega arith in
    rw (le-ltb (capacity (suc w) - suc n) (capacity (suc w) / 2) (omega arith), p) refl

pub unsigned_fits : (w : ℕ) (z : ℤ) → Holds (suc w) z → as_unsigned (suc w) z < capacity (suc w)
unsigned_fits w (pos n) h = let e = capacity_even w in omega arith
unsigned_fits w (negsuc n) h = let e = capacity_up (suc w) in omega arith

pub unsigned_signed : (w n : ℕ) → n < capacity w → as_unsigned w (as_signed w n) ≡ n
unsigned_signed w n h = go (ltb n (capacity w / 2))
  where
    go : (t : Bool) → as_unsigned w (cond t (pos n) (negsuc (capacity w - suc n))) ≡ n
    go true = refl
    go false = omega arith

pub signed_holds : (w n : ℕ) → n < capacity (suc w) → Holds (suc w) (as_signed (suc w) n)
signed_holds w n h = go (ltb n (capacity (suc w) / 2)) refl
  where
    go : (t : Bool) → ltb n (capacity (suc w) / 2) ≡ t → Holds (suc w) (cond t (pos n) (negsuc (capacity (suc w) - suc n)))
    go true e = ltb-true n (capacity (suc w) / 2) e
    go false e = let l = ltb-false n (capacity (suc w) / 2) e in let v = capacity_even w in omega arith

-- numbers one after another
pub unpack_pack : {ws ns : List ℕ} (rest : List ℕ) → Fit ws ns → unpack ws (pack ws ns ++ rest) ≡ ns
unpack_pack rest none = refl
unpack_pack rest (next {w} {n} {ws} {ns} h f) =
    let beyond = pack ws ns ++ rest in
    let long = length_bytes w n in
    rw (append_assoc (bytes_of w n) (pack ws ns) rest, take_at (bytes_of w n) beyond w long, drop_at (bytes_of w n) beyond w long, number_bytes w n h, unpack_pack rest f)
    refl

pub pack_unpack : (ws l : List ℕ) → total_of ws ≤ length l → Bytes l → pack ws (unpack ws l) ≡ take (total_of ws) l
pack_unpack [] l h b = refl
pack_unpack (w ∷ ws) l h b =
    rw (bytes_number w l (omega arith) b, pack_unpack ws (drop w l) (omega (arith, length-drop w l)) (bytes_drop w l b))
    (sym (take-add w (total_of ws) l))

pub unpack_fits : (ws l : List ℕ) → Bytes l → Fit ws (unpack ws l)
unpack_fits [] l b = none
unpack_fits (w ∷ ws) l b = next (number_fits w l b) (unpack_fits ws (drop w l) (bytes_drop w l b))
