-- A record in bytes (document 02, No. 4 and No. 8). How many bytes Duv has is a parameter d. Definitions only.
use Rattle.std.specs.Prelude.{ℕ, ◌+◌, ◌-◌, List, [], ◌∷◌, get_or}
use Rattle.records.specs.Bytes.{as_unsigned, as_signed, pack, unpack}
use Rattle.records.specs.declared.fields.Record.{Record}

-- Duv has 4 bytes in the records that are written, and 2 in those of earlier files.
abbrev pub duv_width : ℕ
duv_width = 4

abbrev pub earlier_duv_width : ℕ
earlier_duv_width = 2

-- the bytes of u, v, place, low, high (document 02's place, o and p), Duv, steps and class, where Duv has d
abbrev pub field_widths : ℕ → List ℕ
field_widths d = 4 ∷ 4 ∷ 2 ∷ 2 ∷ 2 ∷ d ∷ 1 ∷ 1 ∷ []

-- a record has 16 + d bytes: 20 where Duv has 4, and 18 where it has 2
abbrev pub record_length_of : ℕ → ℕ
record_length_of d = 16 + d

-- how many bytes Duv has in a record of n bytes
abbrev pub duv_width_of : ℕ → ℕ
duv_width_of n = n - 16

-- a record's numbers in the order of its bytes; only Duv is signed
abbrev pub numbers_of : ℕ → Record → List ℕ
numbers_of d r = r.u ∷ r.v ∷ r.place ∷ r.low ∷ r.high ∷ as_unsigned d r.duv ∷ r.steps ∷ r.class ∷ []

-- the record of eight numbers in that order
abbrev pub of_numbers : ℕ → List ℕ → Record
of_numbers d ns =
    record {
      u = get_or ns 0 0;
      v = get_or ns 1 0;
      place = get_or ns 2 0;
      low = get_or ns 3 0;
      high = get_or ns 4 0;
      duv = as_signed d (get_or ns 5 0);
      steps = get_or ns 6 0;
      class = get_or ns 7 0;
    }

-- a record's bytes
unfoldable pub record_bytes : ℕ → Record → List ℕ
record_bytes d r = pack (field_widths d) (numbers_of d r)

-- the record at the front of the bytes
unfoldable pub front_record : ℕ → List ℕ → Record
front_record d l = of_numbers d (unpack (field_widths d) l)
