-- Laws of a block: one byte more, any cut in two, and how far a block is read.
use Rattle.std.specs.Prelude.{ℕ, suc, ◌+◌, ◌-◌, ◌≤◌, ◌<◌, ◌≡◌, refl, List, [], ◌∷◌, ◌++◌, Bool, true, false, cond, length, take, drop, get_or, ltb}
use Rattle.std.proofs.Common.{ap, sym, ◌∙◌, append_assoc, append-nil, arith, add-one, drop_of_length-le, drop-cons, take-add, take-suc, le-ltb, lt-ltb}
use Rattle.text.specs.declared.grammar.Scan.{Scan}
use Rattle.text.specs.declared.stream.Done.{Done}
use Rattle.text.specs.Code.Scan.{is_empty, scan_line}
use Rattle.text.specs.Print.{reply_line}
use Rattle.text.specs.Block.{emitted, next_scan, emits, leaves, closes, line_room, reads, Blocked}

-- a cut in two
pub leaves_append : (s : Scan) (l m : List ℕ) → leaves s (l ++ m) ≡ leaves (leaves s l) m
leaves_append s [] m = refl
leaves_append s (x ∷ l) m = leaves_append (next_scan s x) l m

pub emits_append : (s : Scan) (l m : List ℕ) → emits s (l ++ m) ≡ emits s l ++ emits (leaves s l) m
emits_append s [] m = refl
emits_append s (x ∷ l) m =
    let s' = next_scan s x in
    ap (λ (z : List ℕ). emitted s x ++ z) (emits_append s' l m) ∙ sym (append_assoc (emitted s x) (emits s' l) (emits (leaves s' l) m))

-- one byte more
take_one : (l : List ℕ) (i : ℕ) → i < length l → take (i + 1) l ≡ take i l ++ (get_or l i 0 ∷ [])
take_one l i h = ap (λ (n : ℕ). take n l) (add-one i) ∙ take-suc l i 0 h

pub leaves_take : (s : Scan) (l : List ℕ) (i : ℕ) → i < length l → leaves s (take (i + 1) l) ≡ next_scan (leaves s (take i l)) (get_or l i 0)
leaves_take s l i h = ap (leaves s) (take_one l i h) ∙ leaves_append s (take i l) (get_or l i 0 ∷ [])

pub emits_take : (s : Scan) (l : List ℕ) (i : ℕ) → i < length l
    → emits s (take (i + 1) l) ≡ emits s (take i l) ++ emitted (leaves s (take i l)) (get_or l i 0)
emits_take s l i h =
    ap (emits s) (take_one l i h) ∙ emits_append s (take i l) (get_or l i 0 ∷ [])
    ∙ ap (λ (z : List ℕ). emits s (take i l) ++ z) (append-nil (emitted (leaves s (take i l)) (get_or l i 0)))

-- the end of the input, in the middle of a line or not
pub closes_empty : (s : Scan) → is_empty s ≡ true → closes s ≡ []
closes_empty s e = ap (λ (t : Bool). cond t [] (reply_line (scan_line s))) e

pub closes_line : (s : Scan) → is_empty s ≡ false → closes s ≡ reply_line (scan_line s)
closes_line s e = ap (λ (t : Bool). cond t [] (reply_line (scan_line s))) e

-- no byte is read without room, or past the end
pub reads_full : (s : Scan) (room : ℕ) (l : List ℕ) → room < line_room → reads s room l ≡ 0
reads_full s room [] h = refl
reads_full s room (x ∷ l) h = simp (lt-ltb room line_room h)

pub reads_end : (s : Scan) (room : ℕ) (l : List ℕ) (i : ℕ) → length l ≤ i → reads s room (drop i l) ≡ 0
reads_end s room l i h = ap (reads s room) (drop_of_length-le l h)

pub reads_next : (s : Scan) (room : ℕ) (l : List ℕ) (i : ℕ) → i < length l → line_room ≤ room
    → reads s room (drop i l) ≡ suc (reads (next_scan s (get_or l i 0)) (room - length (emitted s (get_or l i 0))) (drop (i + 1) l))
reads_next s room l i h r =
    let x = get_or l i 0 in
    ap (reads s room) (drop-cons l i 0 h) ∙ simp (le-ltb room line_room r) (ap (λ (n : ℕ). suc (reads (next_scan s x) (room - length (emitted s x)) (drop n l))) (sym (add-one i)))

reads_within : (s : Scan) (room : ℕ) (l : List ℕ) → reads s room l ≤ length l
reads_within s room [] = omega arith
reads_within s room (x ∷ l) = by_room (ltb room line_room) (reads_within (next_scan s x) (room - length (emitted s x)) l)
  where
    by_room : (t : Bool) {n : ℕ} → n ≤ length l → cond t 0 (suc n) ≤ suc (length l)
    by_room true h = omega arith
    by_room false h = omega arith

-- a block is read at all where an answer fits
reads_some : (s : Scan) (room : ℕ) (l : List ℕ) → line_room ≤ room → 0 < length l → 0 < reads s room l
reads_some s room [] r h = h
reads_some s room (x ∷ l) r h = rw (le-ltb room line_room r) (omega arith)

-- the same of what the function `block` answers
pub block_within : {s : Scan} {input old new : List ℕ} {r : Done} → Blocked s input old new r → r.read ≤ length input
block_within {s} {input} {old} b = omega (arith, b.read, reads_within s (length old) input)

pub block_some : {s : Scan} {input old new : List ℕ} {r : Done} → Blocked s input old new r → line_room ≤ length old → 0 < length input → 0 < r.read
block_some {s} {input} {old} b room some = omega (arith, b.read, reads_some s (length old) input room some)

-- a block that begins at a byte of the input carries the line on from there
pub block_carries :
    (s₀ : Scan) (input : List ℕ) (at : ℕ) {s : Scan} {part old new : List ℕ} {r : Done} → s ≡ leaves s₀ (take at input) → part ≡ drop at input
    → Blocked s part old new r → r.scan ≡ leaves s₀ (take (at + r.read) input)
block_carries s₀ input at {s} {part} {old} {new} {r} begun rest b =
    let n = r.read in
    b.scan ∙ ap (λ (l : List ℕ). leaves s (take n l)) rest ∙ ap (λ (z : Scan). leaves z (take n (drop at input))) begun
    ∙ sym (leaves_append s₀ (take at input) (take n (drop at input))) ∙ ap (leaves s₀) (sym (take-add at n input))
