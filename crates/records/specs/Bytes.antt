-- Whole numbers in bytes, the lowest byte first, and several of them one after another. Definitions only.
use Rattle.std.specs.Prelude.{ℕ, zero, suc, ◌+◌, ◌-◌, ◌*◌, ◌/◌, ◌%◌, cond, List, [], ◌∷◌, ◌++◌, ltb, ℤ, pos, negsuc, take, drop}

-- the w lowest bytes of n
abbrev pub bytes_of : ℕ → ℕ → List ℕ
bytes_of zero n = []
bytes_of (suc w) n = n % 256 ∷ bytes_of w (n / 256)

-- the number whose bytes these are
abbrev pub number : List ℕ → ℕ
number [] = 0
number (b ∷ l) = b + 256 * number l

-- how many numbers w bytes can hold
abbrev pub capacity : ℕ → ℕ
capacity zero = 1
capacity (suc w) = 256 * capacity w

-- a signed number as the unsigned one with the same w bytes (two's complement), and back
abbrev pub as_unsigned : ℕ → ℤ → ℕ
as_unsigned w (pos n) = n
as_unsigned w (negsuc n) = capacity w - suc n

abbrev pub as_signed : ℕ → ℕ → ℤ
as_signed w n = cond (ltb n (capacity w / 2)) (pos n) (negsuc (capacity w - suc n))

-- numbers one after another, each in as many bytes as its width says
abbrev pub pack : (widths numbers : List ℕ) → List ℕ
pack [] ns = []
pack (w ∷ ws) [] = []
pack (w ∷ ws) (n ∷ ns) = bytes_of w n ++ pack ws ns

-- the numbers of these widths at the front of the bytes
abbrev pub unpack : (widths bytes : List ℕ) → List ℕ
unpack [] l = []
unpack (w ∷ ws) l = number (take w l) ∷ unpack ws (drop w l)

-- how many bytes numbers of these widths take
abbrev pub total_of : (widths : List ℕ) → ℕ
total_of [] = 0
total_of (w ∷ ws) = w + total_of ws
