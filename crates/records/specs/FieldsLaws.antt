-- Laws of a record's bytes: they are as many as its widths say, and a record comes back from them, as they do from a record.
use Rattle.std.specs.Prelude.{ℕ, suc, ◌≤◌, ◌<◌, ◌≡◌, List, [], ◌∷◌, ◌++◌, ℤ, length, take}
use Rattle.std.proofs.Common.{ap, ◌∙◌, arith, length-append}
use Rattle.records.specs.Bytes.{bytes_of, capacity, as_unsigned, as_signed, pack, total_of}
use Rattle.records.specs.BytesLaws.{Fit, none, next, Bytes, Holds, length_bytes, signed_unsigned, unsigned_fits, unsigned_signed, signed_holds, unpack_pack, pack_unpack, unpack_fits}
use Rattle.records.specs.Fields.{field_widths, record_length_of, numbers_of, of_numbers, record_bytes, front_record}
use Rattle.records.specs.declared.fields.Record.{Record}

-- each number of the record is no wider than its field
pub record Narrow (d : ℕ) (r : Record) : Type 0 where
  pub u : r.u < capacity 4
  pub v : r.v < capacity 4
  pub place : r.place < capacity 2
  pub low : r.low < capacity 2
  pub high : r.high < capacity 2
  pub duv : Holds d r.duv
  pub steps : r.steps < capacity 1
  pub class : r.class < capacity 1

numbers_fit : (d : ℕ) (r : Record) → Narrow (suc d) r → Fit (field_widths (suc d)) (numbers_of (suc d) r)
numbers_fit d r n =
    next n.u (next n.v (next n.place (next n.low (next n.high (next (unsigned_fits d r.duv n.duv) (next n.steps (next n.class none)))))))

-- a record has 16 + d bytes, Duv having d
pub length_record : (d : ℕ) (r : Record) → length (record_bytes d r) ≡ record_length_of d
unfolding record_bytes
length_record d r =
    let n = as_unsigned d r.duv in
    omega (arith, length-append (bytes_of d n) (pack (1 ∷ 1 ∷ []) (r.steps ∷ r.class ∷ [])), length_bytes d n)

with_duv : (r : Record) (z : ℤ) → z ≡ r.duv → record { u = r.u; v = r.v; place = r.place; low = r.low; high = r.high; duv = z; steps = r.steps; class = r.class } ≡ r
with_duv r z e = λ i. record { u = r.u; v = r.v; place = r.place; low = r.low; high = r.high; duv = e i; steps = r.steps; class = r.class }

-- a record comes back from its bytes, whatever follows them
pub front_record_lem : (d : ℕ) (r : Record) (rest : List ℕ) → Narrow (suc d) r → front_record (suc d) (record_bytes (suc d) r ++ rest) ≡ r
unfolding record_bytes front_record
front_record_lem d r rest n =
    ap (of_numbers (suc d)) (unpack_pack rest (numbers_fit d r n))
    ∙ with_duv r (as_signed (suc d) (as_unsigned (suc d) r.duv)) (signed_unsigned d r.duv n.duv)

-- numbers that fit are those of a record whose numbers fit
narrow_numbers : (d : ℕ) {ns : List ℕ} → Fit (field_widths (suc d)) ns → Narrow (suc d) (of_numbers (suc d) ns)
narrow_numbers d (next u (next v (next place (next low (next high (next {n = n} duv (next steps (next class none)))))))) =
    record { u = u; v = v; place = place; low = low; high = high; duv = signed_holds d n duv; steps = steps; class = class }

same_numbers : (d : ℕ) {ns : List ℕ} → Fit (field_widths d) ns → numbers_of d (of_numbers d ns) ≡ ns
same_numbers d (next {n = u} _ (next {n = v} _ (next {n = place} _ (next {n = low} _ (next {n = high} _ (next {n = n} duv (next {n = steps} _ (next {n = class} _ none)))))))) =
    ap (λ (x : ℕ). u ∷ v ∷ place ∷ low ∷ high ∷ x ∷ steps ∷ class ∷ []) (unsigned_signed d n duv)

-- any bytes hold a record whose numbers fit
pub front_narrow : (d : ℕ) (l : List ℕ) → Bytes l → Narrow (suc d) (front_record (suc d) l)
unfolding front_record
front_narrow d l b = narrow_numbers d (unpack_fits (field_widths (suc d)) l b)

-- the bytes come back from the record that is read from them
pub record_front : (d : ℕ) (l : List ℕ) → record_length_of d ≤ length l → Bytes l → record_bytes d (front_record d l) ≡ take (record_length_of d) l
unfolding record_bytes front_record
record_front d l h b =
    let ws = field_widths d in
    let long : total_of ws ≡ record_length_of d = omega arith in
    ap (pack ws) (same_numbers d (unpack_fits ws l b)) ∙ pack_unpack ws l (omega arith) b ∙ ap (λ (n : ℕ). take n l) long
