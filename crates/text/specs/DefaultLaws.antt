-- Document 02, No. 10: a line of two numbers prints exactly what it prints with a 6 as its third.
use Rattle.std.specs.Prelude.{ℕ, ◌≡◌, refl, List, [], ◌∷◌, ◌++◌, map, Bool, true, false, not, cond, length, eqb}
use Rattle.std.proofs.Common.{ap, sym, ◌∙◌, arith, eqb-true}
use Rattle.arith.specs.Every.{every}
use Rattle.arith.specs.TestLaws.{and_both, both_and, cond_both}
use Rattle.text.specs.Line.{space, newline, words, words_line}
use Rattle.text.specs.LineLaws.{words_append, length_implied}
use Rattle.text.specs.Decimal.{decimal}
use Rattle.text.specs.Print.{reply_line, answer_line}
use Rattle.text.specs.Stream.{lines, replies, output_of}
use Rattle.text.specs.StreamLaws.{one_line, lines_one, joined, lines_joined}

-- a line with a space and a 6 behind it
abbrev pub with_six : List ℕ → List ℕ
with_six l = l ++ (space ∷ decimal 6)

-- two words say what they say with a 6 behind them
six_third : (ws : List (List ℕ)) → length ws ≡ 2 → words_line (ws ++ words (decimal 6)) ≡ words_line ws
six_third [] h = absurd (omega arith)
six_third (u ∷ []) h = absurd (omega arith)
six_third (u ∷ v ∷ []) h = refl
six_third (u ∷ v ∷ w ∷ ws) h = absurd (omega arith)

-- a line of two words, be they numbers or not, prints what it prints with a 6 as its third
pub two_numbers : (l : List ℕ) → length (words l) ≡ 2 → answer_line (with_six l) ≡ answer_line l
two_numbers l h =
    ap reply_line (length_implied (with_six l) ∙ ap words_line (words_append l (decimal 6)) ∙ six_third (words l) h ∙ sym (length_implied l))

-- a line, with a 6 behind it where it has two words
abbrev pub six_behind_two : List ℕ → List ℕ
six_behind_two l = cond (eqb (length (words l)) 2) (with_six l) l

-- an input with a 6 typed behind each line of two words
abbrev pub sixes_typed : List ℕ → List ℕ
sixes_typed input = joined (map six_behind_two (lines input))

same_line : (l : List ℕ) → answer_line (six_behind_two l) ≡ answer_line l
same_line l = by_count (eqb (length (words l)) 2) refl
  where
    by_count : (t : Bool) → eqb (length (words l)) 2 ≡ t → answer_line (cond t (with_six l) l) ≡ answer_line l
    by_count true e = two_numbers l (eqb-true (length (words l)) 2 e)
    by_count false e = refl

same_replies : (ls : List (List ℕ)) → replies (map six_behind_two ls) ≡ replies ls
same_replies [] = refl
same_replies (l ∷ ls) = cc (same_line l, same_replies ls)

-- a line with a 6 behind it is still one line
six_one : (l : List ℕ) → one_line l ≡ true → one_line (with_six l) ≡ true
six_one [] h = refl
six_one (x ∷ l) h =
    let k = and_both (not (eqb x newline)) (one_line l) h in
    both_and k.0 (six_one l k.1)

all_one : (ls : List (List ℕ)) → every one_line ls ≡ true → every one_line (map six_behind_two ls) ≡ true
all_one [] h = refl
all_one (l ∷ ls) h =
    let k = and_both (one_line l) (every one_line ls) h in
    both_and (cond_both (λ (w : List ℕ). one_line w ≡ true) (eqb (length (words l)) 2) (six_one l k.0) k.0) (all_one ls k.1)

-- a whole input prints what it prints with a 6 typed behind each line of two words
pub sixes_typed_lem : (input : List ℕ) → output_of (sixes_typed input) ≡ output_of input
unfolding output_of
sixes_typed_lem input =
    let ls = map six_behind_two (lines input) in
    ap replies (lines_joined ls (all_one (lines input) (lines_one input))) ∙ same_replies (lines input)
