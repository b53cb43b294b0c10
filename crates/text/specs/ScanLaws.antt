-- A scan of a line says what the line says: by induction on the bytes left, for each of the three numbers of a line.
use Rattle.std.specs.Prelude.{ℕ, suc, zero, ◌+◌, ◌*◌, ◌-◌, ◌≤◌, ◌<◌, ◌^◌, ◌≡◌, refl, List, [], ◌∷◌, ◌++◌, map, Bool, true, false, cond, ◌&&◌, length, leb, ltb, eqb, Option, Some, None, ok_or}
use Rattle.std.proofs.Common.{ap, sym, ◌∙◌, arith, pow-suc, add-one, length-append, le-ltb, le-leb, ne_eqb, ltb-true, ltb-false, leb-true, eqb-true}
use Rattle.std.proofs.Math.Bool.{and-true, and-false}
use Rattle.std.proofs.Math.Nat.{pow-le-pow_right}
use Rattle.std.proofs.lemmas.Bool.{lt-leb, eqb-false}
use Rattle.arith.specs.Every.{every}
use Rattle.arith.specs.TestLaws.{and_both, both_and, first_fails, second_fails}
use Rattle.refusal.specs.declared.Refusal.TheVariants.{BadLine}
use Rattle.text.specs.declared.grammar.Request.{Request}
use Rattle.text.specs.declared.grammar.Scan.{Scan}
use Rattle.text.specs.Line.{Line, unreadable, request, default_steps, space, digit_zero, digit_nine, front, words, is_digit, is_number, value_from, value, numbers_of, words_line, line_of}
use Rattle.text.specs.LineLaws.{glue, glue_piece, glue_snoc, some_words, length_implied}
use Rattle.text.specs.Code.Scan.{empty_scan, bad_scan, scan_space, scan_byte, scan_line, scanned}

-- one byte more
pub scan_snoc : (s : Scan) (l : List ℕ) (x : ℕ) → scanned s (l ++ (x ∷ [])) ≡ scan_byte (scanned s l) x
scan_snoc s [] x = refl
scan_snoc s (y ∷ l) x = scan_snoc (scan_byte s y) l x

-- a scan, by its numbers
abbrev mk : ℕ → ℕ → ℕ → ℕ → ℕ → Scan
mk a b c f k = record { numbers = Some (record { earlier = a; previous = b; current = c; spaces = f; digits = k }) }

cond_same : {A : Type 0} (t : Bool) (x : A) → cond t x x ≡ x
cond_same true x = refl
cond_same false x = refl

-- no byte mends a bad line
bad_run : (l : List ℕ) → scan_line (scanned bad_scan l) ≡ unreadable
bad_run [] = refl
bad_run (x ∷ l) = bad_run l

-- digits
digit_of : (x : ℕ) → ltb x digit_zero ≡ false → ltb digit_nine x ≡ false → is_digit x ≡ true
digit_of x p q = simp (le-leb digit_zero x (ltb-false x digit_zero p), le-leb x digit_nine (ltb-false digit_nine x q))

low : (x : ℕ) → ltb x digit_zero ≡ true → is_digit x ≡ false
low x p = simp (lt-leb digit_zero x (ltb-true x digit_zero p))

high : (x : ℕ) → ltb digit_nine x ≡ true → is_digit x ≡ false
high x p = simp (lt-leb x digit_nine (ltb-true digit_nine x p), and-false)

digits_snoc : (w : List ℕ) (x : ℕ) → every is_digit w ≡ true → is_digit x ≡ true → every is_digit (w ++ (x ∷ [])) ≡ true
digits_snoc [] x p q = both_and q refl
digits_snoc (y ∷ w) x p q =
    let h = and_both (is_digit y) (every is_digit w) p in
    both_and h.0 (digits_snoc w x h.1 q)

digits_other : (w l : List ℕ) (x : ℕ) → is_digit x ≡ false → every is_digit (w ++ (x ∷ l)) ≡ false
digits_other [] l x q = first_fails (every is_digit l) q
digits_other (y ∷ w) l x q = second_fails (is_digit y) (digits_other w l x q)

number_other : (w l : List ℕ) (x : ℕ) → is_digit x ≡ false → is_number (w ++ (x ∷ l)) ≡ false
number_other w l x q = simp (digits_other w l x q)

number_long : (w l : List ℕ) (x : ℕ) → 7 ≤ length w → is_number (w ++ (x ∷ l)) ≡ false
number_long w l x h =
    let k : 7 < length (w ++ (x ∷ l)) = omega (arith, length-append w (x ∷ l)) in
    simp (lt-leb (length (w ++ (x ∷ l))) 7 k, and-false)

pub value_snoc : (n : ℕ) (w : List ℕ) (x : ℕ) → value_from n (w ++ (x ∷ [])) ≡ 10 * value_from n w + (x - digit_zero)
value_snoc n [] x = refl
value_snoc n (y ∷ w) x = value_snoc (10 * n + (y - digit_zero)) w x

-- a word so far: digits, at most 7
record Good (w : List ℕ) : Type 0 where
  digits : every is_digit w ≡ true
  short : length w ≤ 7
  small : value w < 10 ^ length w

good_nil : Good []
good_nil = record { digits = refl; short = omega arith; small = omega arith }

good_snoc : (w : List ℕ) (x : ℕ) → Good w → is_digit x ≡ true → length w ≤ 6 → Good (w ++ (x ∷ []))
good_snoc w x g q h =
    let d = and_both (leb digit_zero x) (leb x digit_nine) q in
    let hi : x ≤ digit_nine = leb-true x digit_nine d.1 in
    let v = value_snoc 0 w x in
    let n : length (w ++ (x ∷ [])) ≡ suc (length w) = length-append w (x ∷ []) ∙ add-one (length w) in
    let e : 10 ^ length (w ++ (x ∷ [])) ≡ 10 ^ length w * 10 = ap (λ (k : ℕ). 10 ^ k) n ∙ pow-suc 10 (length w) in
    record {
      digits = digits_snoc w x g.digits q;
      short = omega (arith, n);
      small = omega (arith, v, e, g.small, hi);
    }

-- so the sum of a seventh digit fits
six_small : (w : List ℕ) → Good w → length w ≤ 6 → value w ≤ 999999
six_small w g h =
    let p : 10 ^ length w ≤ 10 ^ 6 = pow-le-pow_right (omega arith) h in
    omega (arith, g.small, p)

-- it is a number unless it is empty
good_number : (w : List ℕ) → Good w → is_number w ≡ leb 1 (length w)
good_number w g = simp (g.digits, le-leb (length w) 7 g.short, and-true)

-- the first of some pieces, and the others
abbrev head_of : List (List ℕ) → List ℕ
head_of [] = []
head_of (p ∷ ps) = p

abbrev rest_of : List (List ℕ) → List (List ℕ)
rest_of [] = []
rest_of (p ∷ ps) = ps

glue_front : (w : List ℕ) (x : ℕ) (ps : List (List ℕ)) → glue w (front x ps) ≡ (w ++ (x ∷ head_of ps)) ∷ rest_of ps
glue_front [] x [] = refl
glue_front [] x (p ∷ ps) = refl
glue_front (y ∷ w) x ps = ap (front y) (glue_front w x ps)

-- What holds of a scan in each of the three numbers: K says what the words from this number on say.
record Field (a b f : ℕ) (K : List (List ℕ) → Line) : Type 0 where
  at_end : (w : List ℕ) → Good w → K (w ∷ []) ≡ scan_line (mk a b (value w) f (length w))
  at_stop : (w : List ℕ) (ws : List (List ℕ)) → is_number w ≡ false → K (w ∷ ws) ≡ unreadable
  at_space : (w l : List ℕ) → Good w → K (w ∷ words l) ≡ scan_line (scanned (scan_space (mk a b (value w) f (length w))) l)

module _ {a b f : ℕ} {K : List (List ℕ) → Line} (F : Field a b f K) where
  abbrev at : List ℕ → Scan
  at w = mk a b (value w) f (length w)

  abbrev Runs : List ℕ → Type 0
  Runs l = (w : List ℕ) → Good w → scan_line (scanned (at w) l) ≡ K (glue w (words l))

  abbrev Byte : List ℕ → ℕ → List ℕ → Type 0
  Byte w x l = scan_line (scanned (at w) (x ∷ l)) ≡ K (glue w (front x (words l)))

  to_bad : (w l : List ℕ) (x : ℕ) → scan_byte (at w) x ≡ bad_scan → ((p : List ℕ) → is_number (w ++ (x ∷ p)) ≡ false) → Byte w x l
  to_bad w l x e n =
      ap (λ (s : Scan). scan_line (scanned s l)) e ∙ bad_run l
      ∙ sym (ap K (glue_front w x (words l)) ∙ F.at_stop (w ++ (x ∷ head_of (words l))) (rest_of (words l)) (n (head_of (words l))))

  on_room : (w l : List ℕ) (x : ℕ) → Runs l → Good w → eqb x space ≡ false → ltb x digit_zero ≡ false → ltb digit_nine x ≡ false → (t : Bool) → ltb 6 (length w) ≡ t → Byte w x l
  on_room w l x ih g h lo hi true k =
      let e : scan_byte (at w) x ≡ bad_scan = simp (h, lo, hi, k) in
      to_bad w l x e (λ p. number_long w p x (ltb-true 6 (length w) k))
  on_room w l x ih g h lo hi false k =
      let r : length w ≤ 6 = ltb-false 6 (length w) k in
      let e : scan_byte (at w) x ≡ mk a b (10 * value w + (x - digit_zero)) f (length w + 1) = simp (h, lo, hi, k, le-ltb 999999 (value w) (six_small w g r)) in
      let v = sym (value_snoc 0 w x) in
      let n : length w + 1 ≡ length (w ++ (x ∷ [])) = sym (length-append w (x ∷ [])) in
      ap (λ (s : Scan). scan_line (scanned s l)) (e ∙ ap (λ (c : ℕ). mk a b c f (length w + 1)) v ∙ ap (λ (k : ℕ). mk a b (value (w ++ (x ∷ []))) f k) n)
      ∙ ih (w ++ (x ∷ [])) (good_snoc w x g (digit_of x lo hi) r) ∙ ap K (glue_snoc w x (words l))

  on_high : (w l : List ℕ) (x : ℕ) → Runs l → Good w → eqb x space ≡ false → ltb x digit_zero ≡ false → (t : Bool) → ltb digit_nine x ≡ t → Byte w x l
  on_high w l x ih g h lo true hi = let e : scan_byte (at w) x ≡ bad_scan = simp (h, lo, hi) in to_bad w l x e (λ p. number_other w p x (high x hi))
  on_high w l x ih g h lo false hi = on_room w l x ih g h lo hi (ltb 6 (length w)) refl

  on_low : (w l : List ℕ) (x : ℕ) → Runs l → Good w → eqb x space ≡ false → (t : Bool) → ltb x digit_zero ≡ t → Byte w x l
  on_low w l x ih g h true lo = let e : scan_byte (at w) x ≡ bad_scan = simp (h, lo) in to_bad w l x e (λ p. number_other w p x (low x lo))
  on_low w l x ih g h false lo = on_high w l x ih g h lo (ltb digit_nine x) refl

  on_byte : (w l : List ℕ) (x : ℕ) → Runs l → Good w → (t : Bool) → eqb x space ≡ t
      → scan_line (scanned (at w) (x ∷ l)) ≡ K (glue w (cond t ([] ∷ words l) (front x (words l))))
  on_byte w l x ih g true h =
      let e : scan_byte (at w) x ≡ scan_space (at w) = simp h in
      ap (λ (s : Scan). scan_line (scanned s l)) e ∙ sym (F.at_space w l g) ∙ sym (ap K (glue_piece w (words l)))
  on_byte w l x ih g false h = on_low w l x ih g h (ltb x digit_zero) refl

  runs : (l : List ℕ) → Runs l
  runs [] w g = sym (F.at_end w g) ∙ sym (ap K (glue_piece w []))
  runs (x ∷ l) w g = on_byte w l x (runs l) g (eqb x space) refl

-- words of which one is no number
stop : (ws : List (List ℕ)) → every is_number ws ≡ false → words_line ws ≡ unreadable
stop ws e = ap (λ (t : Bool). cond t (numbers_of (map value ws)) unreadable) e

-- words that are numbers up to the last
ended : (w : List ℕ) (ws : List (List ℕ)) (r : Option Request) → numbers_of (map value ws) ≡ ok_or r BadLine → Good w → every is_number ws ≡ is_number w && true
    → words_line ws ≡ ok_or (cond (eqb (length w) 0) None r) BadLine
ended w ws r m g e = ap (λ (t : Bool). cond t (numbers_of (map value ws)) unreadable) (e ∙ ap (λ (t : Bool). t && true) (good_number w g)) ∙ flip (length w)
  where
    flip : (n : ℕ) → cond (leb 1 n && true) (numbers_of (map value ws)) unreadable ≡ ok_or (cond (eqb n 0) None r) BadLine
    flip zero = refl
    flip (suc n) = simp (le-leb 1 (suc n) (omega arith), ne_eqb (suc n) 0 (λ e. omega arith)) m

-- four words or more
crowded : (u v w : List ℕ) (ws : List (List ℕ)) → 0 < length ws → words_line (u ∷ v ∷ w ∷ ws) ≡ unreadable
crowded u v w [] h = absurd (omega arith)
crowded u v w (x ∷ ws) h = cond_same (every is_number (u ∷ v ∷ w ∷ x ∷ ws)) unreadable

third_field : (u v : List ℕ) → is_number u ≡ true → is_number v ≡ true → Field (value u) (value v) 2 (λ (ws : List (List ℕ)). words_line (u ∷ v ∷ ws))
third_field u v p q =
    record {
      at_end = λ w g. ended w (u ∷ v ∷ w ∷ []) (Some (request (value u) (value v) (value w))) refl g (simp (p, q));
      at_stop = λ w ws e. stop (u ∷ v ∷ w ∷ ws) (second_fails (is_number u) (second_fails (is_number v) (first_fails (every is_number ws) e)));
      at_space = λ w l g. crowded u v w (words l) (some_words l) ∙ sym (bad_run l);
    }

-- from a space on
next : {a b f : ℕ} (w : List ℕ) (K : List (List ℕ) → Line) (l : List ℕ) → Good w → (is_number w ≡ true → Field a b f K)
    → (is_number w ≡ false → K (words l) ≡ unreadable) → K (words l) ≡ scan_line (scanned (record { numbers = cond (eqb (length w) 0) None (mk a b 0 f 0).numbers }) l)
next {a} {b} {f} w K l g F stops = by_length (eqb (length w) 0) refl
  where
    by_length : (t : Bool) → eqb (length w) 0 ≡ t → K (words l) ≡ scan_line (scanned (record { numbers = cond t None (mk a b 0 f 0).numbers }) l)
    by_length true e = stops (good_number w g ∙ lt-leb 1 (length w) (omega (arith, eqb-true (length w) 0 e))) ∙ sym (bad_run l)
    by_length false e =
        let ne : length w ≡ 0 → ⊥ = eqb-false (length w) 0 e in
        sym (runs (F (good_number w g ∙ le-leb 1 (length w) (omega arith))) l [] good_nil)

second_field : (u : List ℕ) → is_number u ≡ true → Field 0 (value u) 1 (λ (ws : List (List ℕ)). words_line (u ∷ ws))
second_field u p =
    record {
      at_end = λ w g. ended w (u ∷ w ∷ []) (Some (request (value u) (value w) default_steps)) refl g (simp p);
      at_stop = at_stop;
      at_space = λ w l g. next w (λ (ws : List (List ℕ)). words_line (u ∷ w ∷ ws)) l g (λ q. third_field u w p q) (at_stop w (words l));
    }
  where
    at_stop : (w : List ℕ) (ws : List (List ℕ)) → is_number w ≡ false → words_line (u ∷ w ∷ ws) ≡ unreadable
    at_stop w ws e = stop (u ∷ w ∷ ws) (second_fails (is_number u) (first_fails (every is_number ws) e))

first_stop : (w : List ℕ) (ws : List (List ℕ)) → is_number w ≡ false → words_line (w ∷ ws) ≡ unreadable
first_stop w ws e = stop (w ∷ ws) (first_fails (every is_number ws) e)

first_field : Field 0 0 0 words_line
first_field =
    record {
      at_end = λ w g. ended w (w ∷ []) None refl g refl;
      at_stop = first_stop;
      at_space = λ w l g. next w (λ (ws : List (List ℕ)). words_line (w ∷ ws)) l g (λ q. second_field w q) (first_stop w (words l));
    }

-- a scan of a whole line says what the line says
pub scan_line_lem : (l : List ℕ) → scan_line (scanned empty_scan l) ≡ line_of l
scan_line_lem l = runs first_field l [] good_nil ∙ sym (length_implied l)
