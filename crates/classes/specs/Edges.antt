-- The rule for the class edges (document 01, "Shelf classes"); refusal 1 is given where it is broken.
use Rattle.std.specs.Prelude.{Bool, ◌&&◌, List, [], ◌∷◌, ℕ, leb, ltb, length, get_or}
use Rattle.arith.specs.Every.{every}

-- edge k (from 0), in kelvin
abbrev pub edge : List ℕ → ℕ → ℕ
edge es k = get_or es k 0

-- each edge with the next
abbrev pub neighbours : List ℕ → List (ℕ × ℕ)
neighbours (x ∷ y ∷ l) = (x, y) ∷ neighbours (y ∷ l)
neighbours (x ∷ []) = []
neighbours [] = []

-- the first of two neighbours is below the second
abbrev pub rises : ℕ × ℕ → Bool
rises p = ltb p.0 p.1

-- strictly rising: each edge is below the next
abbrev pub rising : List ℕ → Bool
rising es = every rises (neighbours es)

-- from 1600 to 20001
abbrev pub is_edge : ℕ → Bool
is_edge e = leb 1600 e && leb e 20001

-- refusal 1 is given where this fails: 2 to 32 edges, strictly rising, each from 1600 to 20001
unfoldable pub edges_valid : List ℕ → Bool
edges_valid es = leb 2 (length es) && leb (length es) 32 && rising es && every is_edge es
