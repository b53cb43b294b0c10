-- Laws of the table: what a call leaves as it was, and that calls at different places do not matter to each other.
use Rattle.std.specs.Prelude.{◌≡◌, refl, Result, Ok, Bool, true, false, List, [], ◌∷◌, ℕ, ◌<◌, length}
use Rattle.std.proofs.Common.{ap, sym, ◌∙◌, length-set, get_or-set_same, get_or-set_other}
use Rattle.std.proofs.lemmas.List.{set_comm}
use Rattle.board.specs.declared.Lot.{Lot}
use Rattle.board.specs.declared.Told.{Told}
use Rattle.board.specs.declared.Denied.{Denied}
use Rattle.board.specs.declared.Told.TheVariants.{Stored}
use Rattle.board.specs.Table.{zero_lot, with_job, lot_at, Call, reads, assigns, is_stored, put, tell, next, table_after, Spares, Untouched}

put_length : (b : Bool) (t : List Lot) (p job : ℕ) → length (put b t p job) ≡ length t
put_length true t p job = length-set t p (with_job (lot_at t p) job)
put_length false t p job = refl

-- every other place keeps its lot
pub put_other : (b : Bool) (t : List Lot) (q job p : ℕ) → (p ≡ q → ⊥) → lot_at (put b t q job) p ≡ lot_at t p
put_other true t q job p f = get_or-set_other t q p (with_job (lot_at t q) job) zero_lot f
put_other false t q job p f = refl

-- two jobs at different places, in either order
put_put : (a b : Bool) (t : List Lot) (p q i j : ℕ) → (p ≡ q → ⊥) → put b (put a t p i) q j ≡ put a (put b t q j) p i
put_put false b t p q i j f = refl
put_put true false t p q i j f = refl
put_put true true t p q i j f =
    let x = put_other true t p i q (λ e. f (sym e)) in
    let y = put_other true t q j p f in
    rw (x, y) (set_comm t p q (with_job (lot_at t p) i) (with_job (lot_at t q) j) f)

module _ {Who : Type 0} (may : Who → ℕ → Bool) where
  pub next_length : (t : List Lot) (c : Call Who) → length (next may t c) ≡ length t
  next_length t (reads w p) = refl
  next_length t (assigns w p stamp job) = put_length (is_stored (tell may t (assigns w p stamp job))) t p job

  pub next_spares : (t : List Lot) (c : Call Who) (p : ℕ) → Spares may p t c → lot_at (next may t c) p ≡ lot_at t p
  next_spares t (reads w q) p f = refl
  next_spares t (assigns w q stamp job) p f = go (is_stored (tell may t (assigns w q stamp job))) f
    where
      go : (b : Bool) → (b ≡ true → p ≡ q → ⊥) → lot_at (put b t q job) p ≡ lot_at t p
      go true f = put_other true t q job p (f refl)
      go false f = refl

  -- what an assignment is told turns on its place's lot and on how many lots there are, so it is the same after a call that spares its place
  pub told_after : (t : List Lot) (c : Call Who) (w : Who) (p stamp job : ℕ) → Spares may p t c → tell may (next may t c) (assigns w p stamp job) ≡ tell may t (assigns w p stamp job)
  told_after t c w p stamp job f = rw (next_length t c, next_spares t c p f) refl

  -- two assignments to different places give the same table in either order
  pub swap : (t : List Lot) (v w : Who) (p q r s i j : ℕ) → (p ≡ q → ⊥) → next may (next may t (assigns v p r i)) (assigns w q s j) ≡ next may (next may t (assigns w q s j)) (assigns v p r i)
  swap t v w p q r s i j f =
      let x = assigns v p r i in
      let y = assigns w q s j in
      ap (λ (d : Result Told Denied). put (is_stored d) (next may t x) q j) (told_after t x w q s j (λ m e. f (sym e)))
      ∙ put_put (is_stored (tell may t x)) (is_stored (tell may t y)) t p q i j f
      ∙ ap (λ (d : Result Told Denied). put (is_stored d) (next may t y) p i) (sym (told_after t y v p r i (λ m e. f e)))

  -- the lot that a stored job leaves
  pub stored_lot : (t : List Lot) (w : Who) (p stamp job : ℕ) → p < length t → tell may t (assigns w p stamp job) ≡ Ok Stored → lot_at (next may t (assigns w p stamp job)) p ≡ with_job (lot_at t p) job
  stored_lot t w p stamp job h e = ap (λ (d : Result Told Denied). lot_at (put (is_stored d) t p job) p) e ∙ get_or-set_same t p (with_job (lot_at t p) job) zero_lot h

  -- a history leaves the number of lots, and the lot of a place that it does not touch
  pub after_length : (t : List Lot) (cs : List (Call Who)) → length (table_after may t cs) ≡ length t
  after_length t [] = refl
  after_length t (c ∷ cs) = after_length (next may t c) cs ∙ next_length t c

  pub lot_after : (t : List Lot) (cs : List (Call Who)) (p : ℕ) → Untouched may p t cs → lot_at (table_after may t cs) p ≡ lot_at t p
  lot_after t [] p f = refl
  lot_after t (c ∷ cs) p f = lot_after (next may t c) cs p f.1 ∙ next_spares t c p f.0
