-- THE THEOREM of the text program: cut the input into blocks in any way, and the output is the replies to its lines in order.
use Rattle.std.specs.Prelude.{ℕ, ◌+◌, ◌-◌, ◌≡◌, refl, Bool, true, false, not, cond, ltb, eqb, Option, Some, None}
use Rattle.std.proofs.Common.{ap, sym, ◌∙◌, arith, ne_eqb}
use mathlib.Core.List.{List, [], ◌∷◌, ◌++◌, append_assoc, append-nil, flatten}
use Rattle.std.proofs.lemmas.Bool.{not-true}
use Rattle.arith.specs.Every.{every}
use Rattle.arith.specs.TestLaws.{and_both, cond_both, first_fails, second_fails}
use Rattle.text.specs.declared.grammar.Numbers.{Numbers}
use Rattle.text.specs.declared.grammar.Scan.{Scan}
use Rattle.text.specs.Line.{Line, space, newline, digit_zero, digit_nine, front}
use Rattle.text.specs.LineLaws.{glue, glue_piece, glue_snoc}
use Rattle.text.specs.Code.Scan.{after_space, after_digit, after_byte, step_of, no_byte, empty_scan, scan_byte, is_empty, scan_line, scanned}
use Rattle.text.specs.ScanLaws.{scan_snoc, scan_line_lem}
use Rattle.text.specs.Print.{reply_line, answer_line}
use Rattle.text.specs.Stream.{lines, replies, output_of}
use Rattle.text.specs.Block.{emits, leaves, closes, run_blocks}
use Rattle.text.specs.BlockLaws.{leaves_append, emits_append}

-- a run in blocks gives what a run in one block gives
one_block : (s : Scan) (bs : List (List ℕ)) → run_blocks s bs ≡ emits s (flatten bs) ++ closes (leaves s (flatten bs))
unfolding flatten
one_block s [] = refl
one_block s (b ∷ bs) =
    ap (λ (z : List ℕ). emits s b ++ z) (one_block (leaves s b) bs)
    ∙ sym (append_assoc (emits s b) (emits (leaves s b) (flatten bs)) (closes (leaves (leaves s b) (flatten bs))))
    ∙ ap (λ (z : List ℕ). z ++ closes (leaves (leaves s b) (flatten bs))) (sym (emits_append s b (flatten bs)))
    ∙ ap (λ (z : Scan). emits s (b ++ flatten bs) ++ closes z) (sym (leaves_append s b (flatten bs)))

-- no byte of a line leads back to an empty one
Begun : Scan → Type 0
Begun s = is_empty s ≡ false

Going : Option Numbers → Type 0
Going n = no_byte n ≡ false

going_space : (n : Numbers) → Going (after_space n)
unfolding Going
going_space n =
    cond_both Going (ltb 1 n.spaces) refl
    (cond_both Going (eqb n.digits 0) refl
    (first_fails (eqb 0 0) (ne_eqb (n.spaces + 1) 0 (λ e. omega arith))))

going_digit : (n : Numbers) (d : ℕ) → Going (after_digit n d)
unfolding Going
going_digit n d =
    cond_both Going (ltb 6 n.digits) refl
    (cond_both Going (ltb 999999 n.current) refl
    (second_fails (eqb n.spaces 0) (ne_eqb (n.digits + 1) 0 (λ e. omega arith))))

going_byte : (n : Numbers) (x : ℕ) → Going (after_byte n x)
unfolding Going
going_byte n x =
    cond_both Going (eqb x space) (going_space n)
    (cond_both Going (ltb x digit_zero) refl
    (cond_both Going (ltb digit_nine x) refl (going_digit n (x - digit_zero))))

begun_byte : (s : Scan) (x : ℕ) → Begun (scan_byte s x)
unfolding Begun Going
begun_byte s x = by_numbers s.numbers
  where
    by_numbers : (n : Option Numbers) → no_byte (step_of (λ (m : Numbers). after_byte m x) n) ≡ false
    by_numbers None = refl
    by_numbers (Some n) = going_byte n x

begun : (s : Scan) (x : ℕ) (w : List ℕ) → Begun (scanned s (x ∷ w))
begun s x [] = begun_byte s x
begun s x (y ∷ w) = begun (scan_byte s x) y w

-- a last line that has begun with w
glue_last : (x : ℕ) (w : List ℕ) → glue (x ∷ w) [] ≡ (x ∷ w) ∷ []
glue_last x [] = refl
glue_last x (y ∷ w) = ap (front x) (glue_last y w)

abbrev Rest : List ℕ → Type 0
Rest l = (w : List ℕ) → emits (scanned empty_scan w) l ++ closes (leaves (scanned empty_scan w) l) ≡ replies (glue w (lines l))

at_end : Rest []
unfolding Begun
at_end [] = refl
at_end (x ∷ w) =
    ap (λ (t : Bool). cond t [] (reply_line (scan_line (scanned empty_scan (x ∷ w))))) (begun empty_scan x w)
    ∙ ap reply_line (scan_line_lem (x ∷ w)) ∙ sym (append-nil (answer_line (x ∷ w))) ∙ sym (ap replies (glue_last x w))

at_byte : (t : Bool) (w l : List ℕ) (x : ℕ) → Rest l
    → let s = scanned empty_scan w in let s' = cond t empty_scan (scan_byte s x) in
    (cond t (reply_line (scan_line s)) [] ++ emits s' l) ++ closes (leaves s' l) ≡ replies (glue w (cond t ([] ∷ lines l) (front x (lines l))))
at_byte true w l x ih =
    let r = reply_line (scan_line (scanned empty_scan w)) in
    append_assoc r (emits empty_scan l) (closes (leaves empty_scan l)) ∙ ap (λ (z : List ℕ). r ++ z) (ih [])
    ∙ ap (λ (z : Line). reply_line z ++ replies (lines l)) (scan_line_lem w) ∙ sym (ap replies (glue_piece w (lines l)))
at_byte false w l x ih =
    ap (λ (s : Scan). emits s l ++ closes (leaves s l)) (sym (scan_snoc empty_scan w x)) ∙ ih (w ++ (x ∷ [])) ∙ ap replies (glue_snoc w x (lines l))

-- the output after a line has begun with w
rest : (l : List ℕ) → Rest l
rest [] w = at_end w
rest (x ∷ l) w = at_byte (eqb x newline) w l x (rest l)

-- Whatever the cut into blocks, the whole output is the replies to the lines of the whole input, in order.
pub whole_output : (blocks : List (List ℕ)) → run_blocks empty_scan blocks ≡ output_of (flatten blocks)
unfolding output_of
whole_output blocks = one_block empty_scan blocks ∙ rest (flatten blocks) []

-- empty input gives nothing
pub no_input : output_of [] ≡ []
unfolding output_of
no_input = refl

-- bytes without a newline
abbrev pub one_line : List ℕ → Bool
one_line w = every (λ (x : ℕ). not (eqb x newline)) w

lines_glue : (w rest : List ℕ) → one_line w ≡ true → lines (w ++ rest) ≡ glue w (lines rest)
lines_glue [] rest h = refl
lines_glue (x ∷ w) rest h =
    let p = and_both (not (eqb x newline)) (one_line w) h in
    simp (not-true (eqb x newline) p.0) (ap (front x) (lines_glue w rest p.1))

-- a newline ends a line, also an empty one; what follows it are the lines of the rest
pub line_ended : (w rest : List ℕ) → one_line w ≡ true → lines (w ++ (newline ∷ rest)) ≡ w ∷ lines rest
line_ended w rest h = lines_glue w (newline ∷ rest) h ∙ glue_piece w (lines rest)

-- a last line without its newline counts, unless it is empty
pub line_last : (x : ℕ) (w : List ℕ) → one_line (x ∷ w) ≡ true → lines (x ∷ w) ≡ (x ∷ w) ∷ []
line_last x w h = ap lines (sym (append-nil (x ∷ w))) ∙ lines_glue (x ∷ w) [] h ∙ glue_last x w

-- no line of an input has a newline in it
front_one : (x : ℕ) (ps : List (List ℕ)) → eqb x newline ≡ false → every one_line ps ≡ true → every one_line (front x ps) ≡ true
front_one x [] e h = simp e
front_one x (p ∷ ps) e h = simp e h

pub lines_one : (input : List ℕ) → every one_line (lines input) ≡ true
lines_one [] = refl
lines_one (x ∷ l) = by_byte (eqb x newline) refl (lines_one l)
  where
    by_byte : (t : Bool) → eqb x newline ≡ t → every one_line (lines l) ≡ true → every one_line (cond t ([] ∷ lines l) (front x (lines l))) ≡ true
    by_byte true e h = h
    by_byte false e h = front_one x (lines l) e h

-- lines as an input, each with its newline
abbrev pub joined : List (List ℕ) → List ℕ
joined [] = []
joined (l ∷ ls) = l ++ (newline ∷ joined ls)

pub lines_joined : (ls : List (List ℕ)) → every one_line ls ≡ true → lines (joined ls) ≡ ls
lines_joined [] h = refl
lines_joined (l ∷ ls) h =
    let k = and_both (one_line l) (every one_line ls) h in
    line_ended l (joined ls) k.0 ∙ ap (λ (ps : List (List ℕ)). l ∷ ps) (lines_joined ls k.1)
