-- What a block of the input adds to the output, and the end of the input.
use Rattle.std.specs.Prelude.{ℕ, suc, ◌-◌, ◌≡◌, List, [], ◌∷◌, ◌++◌, cond, length, take, ltb, eqb}
use Rattle.text.specs.declared.grammar.Scan.{Scan}
use Rattle.text.specs.declared.stream.Done.{Done}
use Rattle.text.specs.Line.{newline}
use Rattle.text.specs.Code.Scan.{empty_scan, scan_byte, is_empty, scan_line}
use Rattle.text.specs.Print.{reply_line}
use Rattle.text.specs.Wrote.{Wrote}

-- what a byte adds to the output where the line so far is s, and the line so far after it
abbrev pub emitted : Scan → ℕ → List ℕ
emitted s x = cond (eqb x newline) (reply_line (scan_line s)) []

abbrev pub next_scan : Scan → ℕ → Scan
next_scan s x = cond (eqb x newline) empty_scan (scan_byte s x)

-- the same of a block
abbrev pub emits : Scan → List ℕ → List ℕ
emits s [] = []
emits s (x ∷ l) = emitted s x ++ emits (next_scan s x) l

abbrev pub leaves : Scan → List ℕ → Scan
leaves s [] = s
leaves s (x ∷ l) = leaves (next_scan s x) l

-- what the end of the input adds: the answer to a last line without its newline
abbrev pub closes : Scan → List ℕ
closes s = cond (is_empty s) [] (reply_line (scan_line s))

-- the output of an input that comes in blocks
abbrev pub run_blocks : Scan → List (List ℕ) → List ℕ
run_blocks s [] = closes s
run_blocks s (b ∷ bs) = emits s b ++ run_blocks (leaves s b) bs

-- every answer with its newline fits in so many bytes
abbrev pub line_room : ℕ
line_room = 80

-- how many bytes of a block are read where the output has so much room: as many as leave room for one more answer before each
abbrev pub reads : Scan → ℕ → List ℕ → ℕ
reads s room [] = 0
reads s room (x ∷ l) = cond (ltb room line_room) 0 (suc (reads (next_scan s x) (room - length (emitted s x)) l))

-- a block was read, as far as there was room
pub record Blocked (s : Scan) (input old new : List ℕ) (r : Done) : Type 0 where
  pub read : r.read ≡ reads s (length old) input
  pub scan : r.scan ≡ leaves s (take r.read input)
  pub wrote : Wrote 0 old new r.written (emits s (take r.read input))
