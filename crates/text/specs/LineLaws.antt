-- Laws of the line grammar: the longest line that can be read has 23 bytes, so that the rule of 32 bytes needs no test.
use Rattle.std.specs.Prelude.{ℕ, suc, ◌+◌, ◌*◌, ◌≤◌, ◌<◌, ◌≡◌, refl, List, [], ◌∷◌, ◌++◌, map, Bool, true, false, cond, ◌&&◌, length, leb, eqb}
use Rattle.std.proofs.Common.{ap, sym, ◌∙◌, arith, le-leb, leb-true, leb-false}
use Rattle.arith.specs.Every.{every}
use Rattle.arith.specs.TestLaws.{and_both}
use Rattle.text.specs.Line.{unreadable, space, front, words, is_digit, is_number, value, numbers_of, words_line, line_of}

-- bytes put in front of the first piece
abbrev pub glue : List ℕ → List (List ℕ) → List (List ℕ)
glue [] ps = ps
glue (x ∷ w) ps = front x (glue w ps)

pub glue_piece : (w : List ℕ) (ps : List (List ℕ)) → glue w ([] ∷ ps) ≡ w ∷ ps
glue_piece [] ps = refl
glue_piece (x ∷ w) ps = ap (front x) (glue_piece w ps)

pub glue_snoc : (w : List ℕ) (x : ℕ) (ps : List (List ℕ)) → glue (w ++ (x ∷ [])) ps ≡ glue w (front x ps)
glue_snoc [] x ps = refl
glue_snoc (y ∷ w) x ps = ap (front y) (glue_snoc w x ps)

-- the bytes of a line, a separator after each word
abbrev total : List (List ℕ) → ℕ
total [] = 0
total (w ∷ ws) = suc (length w) + total ws

some_front : (x : ℕ) (ps : List (List ℕ)) → 0 < length (front x ps)
some_front x [] = omega arith
some_front x (p ∷ ps) = omega arith

pub some_words : (l : List ℕ) → 0 < length (words l)
some_words [] = omega arith
some_words (x ∷ l) = by_byte (eqb x space)
  where
    by_byte : (t : Bool) → 0 < length (cond t ([] ∷ words l) (front x (words l)))
    by_byte true = omega arith
    by_byte false = some_front x (words l)

-- a space ends a word
pub words_append : (l r : List ℕ) → words (l ++ (space ∷ r)) ≡ words l ++ words r
words_append [] r = refl
words_append (x ∷ l) r = by_byte (eqb x space) (words_append l r)
  where
    in_front : (ps : List (List ℕ)) → 0 < length ps → front x (ps ++ words r) ≡ front x ps ++ words r
    in_front [] h = absurd (omega arith)
    in_front (p ∷ ps) h = refl

    by_byte : (t : Bool) → words (l ++ (space ∷ r)) ≡ words l ++ words r
        → cond t ([] ∷ words (l ++ (space ∷ r))) (front x (words (l ++ (space ∷ r)))) ≡ cond t ([] ∷ words l) (front x (words l)) ++ words r
    by_byte true e = ap (λ (ws : List (List ℕ)). [] ∷ ws) e
    by_byte false e = ap (front x) e ∙ in_front (words l) (some_words l)

total_front : (x : ℕ) (ps : List (List ℕ)) → 0 < length ps → total (front x ps) ≡ suc (total ps)
total_front x [] h = absurd (omega arith)
total_front x (p ∷ ps) h = omega arith

total_byte : (t : Bool) (x : ℕ) (l : List ℕ) → suc (length l) ≡ total (words l)
    → suc (suc (length l)) ≡ total (cond t ([] ∷ words l) (front x (words l)))
total_byte true x l h = omega arith
total_byte false x l h = omega (arith, total_front x (words l) (some_words l))

words_total : (l : List ℕ) → suc (length l) ≡ total (words l)
words_total [] = omega arith
words_total (x ∷ l) = total_byte (eqb x space) x l (words_total l)

number_length : (w : List ℕ) → is_number w ≡ true → length w ≤ 7
number_length w h =
    leb-true (length w) 7 (and_both (leb 1 (length w)) (leb (length w) 7) (and_both (every is_digit w) (leb 1 (length w) && leb (length w) 7) h).1).1

numbers_total : (ws : List (List ℕ)) → every is_number ws ≡ true → total ws ≤ 8 * length ws
numbers_total [] h = omega arith
numbers_total (w ∷ ws) h =
    let p = and_both (is_number w) (every is_number ws) h in
    omega (arith, number_length w p.0, numbers_total ws p.1)

over_three : (ws : List (List ℕ)) → 3 < length ws → numbers_of (map value ws) ≡ unreadable
over_three [] h = absurd (omega arith)
over_three (u ∷ []) h = absurd (omega arith)
over_three (u ∷ v ∷ []) h = absurd (omega arith)
over_three (u ∷ v ∷ n ∷ []) h = absurd (omega arith)
over_three (u ∷ v ∷ n ∷ m ∷ ws) h = refl

long_words : (ws : List (List ℕ)) → 24 < total ws → words_line ws ≡ unreadable
long_words ws h = by_test (every is_number ws) refl
  where
    by_test : (t : Bool) → every is_number ws ≡ t → cond t (numbers_of (map value ws)) unreadable ≡ unreadable
    by_test true e = over_three ws (omega (arith, numbers_total ws e))
    by_test false e = refl

-- the longest line that can be read: three numbers of 7 digits, and two spaces
pub longest : (l : List ℕ) → 23 < length l → words_line (words l) ≡ unreadable
longest l h = long_words (words l) (omega (arith, words_total l))

-- so the length of a line needs no test of its own
pub length_implied : (l : List ℕ) → line_of l ≡ words_line (words l)
unfolding line_of
length_implied [] = refl
length_implied (x ∷ l) = by_length (leb (length (x ∷ l)) 32) refl
  where
    by_length : (t : Bool) → leb (length (x ∷ l)) 32 ≡ t
        → cond (leb 1 (length (x ∷ l)) && leb (length (x ∷ l)) 32) (words_line (words (x ∷ l))) unreadable ≡ words_line (words (x ∷ l))
    by_length true e = simp (le-leb 1 (length (x ∷ l)) (omega arith), e)
    by_length false e =
        simp (le-leb 1 (length (x ∷ l)) (omega arith), e) (sym (longest (x ∷ l) (omega (arith, leb-false (length (x ∷ l)) 32 e))))
