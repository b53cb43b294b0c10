-- Laws of appending: what the buffer then holds, that two appends in a row are one, and what room they leave.
use Rattle.std.specs.Prelude.{ℕ, suc, ◌+◌, ◌≤◌, ◌<◌, ◌≡◌, List, [], ◌∷◌, ◌++◌, length, take, drop, set}
use Rattle.std.proofs.Common.{ap, sym, ◌∙◌, append_assoc, append-nil, arith, add-one, length-append, length-drop, take-append-drop, length-take-le, take_at, drop_at, drop-drop}
use Rattle.std.proofs.lemmas.List.{set_split}
use Rattle.std.proofs.Math.Seq.{append_snoc}
use Rattle.text.specs.Wrote.{Wrote}

-- what stands before the end and after it, and that the buffer keeps its length
module _ {a b : ℕ} {o p xs : List ℕ} (w : Wrote a o p b xs) where
  written_length : length (take a o ++ xs) ≡ b
  written_length = length-append (take a o) xs ∙ omega (arith, length-take-le a o (omega (arith, w.ends, w.fits)), w.ends)

  pub wrote_before : take b p ≡ take a o ++ xs
  wrote_before = ap (take b) w.holds ∙ take_at (take a o ++ xs) (drop b o) b written_length

  pub wrote_after : drop b p ≡ drop b o
  wrote_after = ap (drop b) w.holds ∙ drop_at (take a o ++ xs) (drop b o) b written_length

  pub wrote_length : length p ≡ length o
  wrote_length =
      ap length w.holds ∙ length-append (take a o ++ xs) (drop b o) ∙ omega (arith, written_length, length-drop b o, w.fits)

  pub wrote_fits : b ≤ length p
  wrote_fits = omega (arith, w.fits, wrote_length)

-- two appends in a row
pub wrote_then : {a b c : ℕ} {o p q : List ℕ} {xs ys : List ℕ} → Wrote a o p b xs → Wrote b p q c ys → Wrote a o q c (xs ++ ys)
wrote_then {a} {b} {c} {o} {p} {q} {xs} {ys} f g =
    let m = length ys in
    let rest : drop (b + m) p ≡ drop (b + m) o = sym (drop-drop m b p) ∙ ap (drop m) (wrote_after f) ∙ drop-drop m b o in
    let tail : drop c p ≡ drop c o = ap (λ (n : ℕ). drop n p) g.ends ∙ rest ∙ ap (λ (n : ℕ). drop n o) (sym g.ends) in
    let head : take b p ++ ys ≡ take a o ++ (xs ++ ys) = ap (λ (z : List ℕ). z ++ ys) (wrote_before f) ∙ append_assoc (take a o) xs ys in
    record {
      ends = omega (arith, f.ends, g.ends, length-append xs ys);
      fits = omega (arith, g.fits, wrote_length f);
      holds = g.holds ∙ ap (λ (z : List ℕ). z ++ drop c p) head ∙ ap (λ (z : List ℕ). take a o ++ (xs ++ ys) ++ z) tail;
    }

-- no append
pub wrote_nothing : (a : ℕ) (o : List ℕ) → a ≤ length o → Wrote a o o a []
wrote_nothing a o h =
    record { ends = omega arith; fits = h; holds = sym (ap (λ (z : List ℕ). z ++ drop a o) (append-nil (take a o)) ∙ take-append-drop a o) }

-- one byte
pub wrote_byte : (a : ℕ) (o : List ℕ) (b : ℕ) → a < length o → Wrote a o (set o a b) (a + 1) (b ∷ [])
wrote_byte a o b h =
    record {
      ends = omega arith;
      fits = omega arith;
      holds =
          set_split o a b h ∙ sym (append_snoc (take a o) b (drop (suc a) o))
          ∙ ap (λ (n : ℕ). take a o ++ (b ∷ []) ++ drop n o) (sym (add-one a));
    }

-- where there was room for k + m bytes, an append of at most k leaves room for m
pub wrote_room : (k m : ℕ) {a r : ℕ} {o n xs : List ℕ} → Wrote a o n r xs → length xs ≤ k → a + (k + m) ≤ length o → r + m ≤ length n
wrote_room k m w s h = omega (arith, w.ends, wrote_length w)

-- the same text by another name
pub wrote_as : {a r : ℕ} {o n xs ys : List ℕ} → xs ≡ ys → Wrote a o n r ys → Wrote a o n r xs
wrote_as e w = rw e w
