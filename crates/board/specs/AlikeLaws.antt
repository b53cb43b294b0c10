-- A caller who reaches the same places of two tables, and finds the same lots there, is told the same; and so it stays.
use Rattle.std.specs.Prelude.{◌≡◌, refl, Result, Ok, Err, Bool, true, false, cond, ◌&&◌, List, ℕ, ◌<◌, eqb, ltb, length}
use Rattle.std.proofs.Common.{ap, sym, ◌∙◌, get_or-set_same, ltb-true, eqb-true}
use Rattle.std.proofs.lemmas.Bool.{false≢true, eqb-false}
use Rattle.arith.specs.TestLaws.{and_both}
use Rattle.board.specs.declared.Lot.{Lot}
use Rattle.board.specs.declared.Told.{Told}
use Rattle.board.specs.declared.Told.TheVariants.{Holds}
use Rattle.board.specs.declared.Denied.{Denied}
use Rattle.board.specs.declared.Denied.TheVariants.{NoSuchPlace}
use Rattle.board.specs.Table.{zero_lot, with_job, lot_at, Call, reads, assigns, caller, assign_told, is_stored, put, reaches, tell, next}
use Rattle.board.specs.TableLaws.{put_other, next_length, next_spares}

-- w reaches the same places of two tables, each with its own test of who may touch which place, and finds the same lots there
module _ {Who : Type 0} (may may' : Who → ℕ → Bool) (w : Who) where
  pub record Alike (t t' : List Lot) : Type 0 where
    pub reach : (p : ℕ) → reaches may t w p ≡ reaches may' t' w p
    pub lot : (p : ℕ) → reaches may t w p ≡ true → lot_at t p ≡ lot_at t' p

-- an assignment that is stored reaches its place
stored_reaches : {Who : Type 0} (may : Who → ℕ → Bool) (t : List Lot) (w : Who) (p stamp job : ℕ) → is_stored (tell may t (assigns w p stamp job)) ≡ true → reaches may t w p ≡ true
stored_reaches may t w p stamp job = go (reaches may t w p)
  where
    go : (b : Bool) → is_stored (cond b (assign_told (lot_at t p) stamp) (Err NoSuchPlace)) ≡ true → b ≡ true
    go true e = refl
    go false e = absurd (false≢true e)

reached_place : {Who : Type 0} (may : Who → ℕ → Bool) (t : List Lot) (w : Who) (p : ℕ) → reaches may t w p ≡ true → p < length t
reached_place may t w p e = ltb-true p (length t) (and_both (may w p) (ltb p (length t)) e).1

-- the same job stored at the same place leaves the same lots where the lots were the same
put_alike : (b : Bool) (t t' : List Lot) (p q job : ℕ) → (b ≡ true → p < length t) → (b ≡ true → p < length t') → (b ≡ true → lot_at t p ≡ lot_at t' p) → lot_at t q ≡ lot_at t' q → lot_at (put b t p job) q ≡ lot_at (put b t' p job) q
put_alike false t t' p q job h h' e f = f
put_alike true t t' p q job h h' e f = go (eqb q p) refl
  where
    go : (b : Bool) → eqb q p ≡ b → lot_at (put true t p job) q ≡ lot_at (put true t' p job) q
    go false k = put_other true t p job q (eqb-false q p k) ∙ f ∙ sym (put_other true t' p job q (eqb-false q p k))
    go true k =
        rw (eqb-true q p k)
        (get_or-set_same t p (with_job (lot_at t p) job) zero_lot (h refl) ∙ ap (λ (z : Lot). with_job z job) (e refl)
        ∙ sym (get_or-set_same t' p (with_job (lot_at t' p) job) zero_lot (h' refl)))

module _ {Who : Type 0} (may may' : Who → ℕ → Bool) (w : Who) (t t' : List Lot) (a : Alike may may' w t t') where
  -- what is told by the lot that is found at a place is the same
  found_alike : (f : Lot → Result Told Denied) (p : ℕ) → cond (reaches may t w p) (f (lot_at t p)) (Err NoSuchPlace) ≡ cond (reaches may' t' w p) (f (lot_at t' p)) (Err NoSuchPlace)
  found_alike f p = go (reaches may t w p) refl ∙ ap (λ (b : Bool). cond b (f (lot_at t' p)) (Err NoSuchPlace)) (a.reach p)
    where
      go : (b : Bool) → reaches may t w p ≡ b → cond b (f (lot_at t p)) (Err NoSuchPlace) ≡ cond b (f (lot_at t' p)) (Err NoSuchPlace)
      go true e = ap f (a.lot p e)
      go false e = refl

  -- so w's own call is told the same
  pub tell_alike : (c : Call Who) → caller c ≡ w → tell may t c ≡ tell may' t' c
  tell_alike (reads v p) e = rw e (found_alike (λ l. Ok (Holds l)) p)
  tell_alike (assigns v p stamp job) e = rw e (found_alike (λ l. assign_told l stamp) p)

  -- a call leaves the places that w reaches
  next_reach : (c : Call Who) (p : ℕ) → reaches may (next may t c) w p ≡ reaches may t w p
  next_reach c p = ap (λ (n : ℕ). may w p && ltb p n) (next_length may t c)

  -- after an assignment of w's own the lots are still alike
  assign_alike : (p stamp job : ℕ) → Alike may may' w (next may t (assigns w p stamp job)) (next may' t' (assigns w p stamp job))
  assign_alike p stamp job =
      let c = assigns w p stamp job in
      let there : is_stored (tell may t c) ≡ true → reaches may t w p ≡ true = stored_reaches may t w p stamp job in
      record {
        reach = λ q. next_reach c q ∙ a.reach q ∙ sym (ap (λ (n : ℕ). may' w q && ltb q n) (next_length may' t' c));
        lot = λ q h.
            put_alike (is_stored (tell may t c)) t t' p q job (λ e. reached_place may t w p (there e)) (λ e. reached_place may' t' w p (sym (a.reach p) ∙ there e)) (λ e. a.lot p (there e)) (a.lot q (sym (next_reach c q) ∙ h))
            ∙ ap (λ (d : Result Told Denied). lot_at (put (is_stored d) t' p job) q) (tell_alike c refl);
      }

  pub own_alike : (c : Call Who) → caller c ≡ w → Alike may may' w (next may t c) (next may' t' c)
  own_alike (reads v p) e = a
  own_alike (assigns v p stamp job) e = rw e (assign_alike p stamp job)

  -- and so they are after a call of another, who may touch no place that w may touch
  pub other_alike : (c : Call Who) → ((p : ℕ) → may (caller c) p ≡ true → may w p ≡ true → ⊥) → Alike may may' w (next may t c) t'
  other_alike (reads v p) f = a
  other_alike (assigns v p stamp job) f =
      let c = assigns v p stamp job in
      record {
        reach = λ q. next_reach c q ∙ a.reach q;
        lot = λ q h.
            let mine = (and_both (may w q) (ltb q (length t)) (sym (next_reach c q) ∙ h)).0 in
            next_spares may t c q
            (λ s e.
            let his = (and_both (may v p) (ltb p (length t)) (stored_reaches may t v p stamp job s)).0 in
            f q (ap (may v) e ∙ his) mine)
            ∙ a.lot q (sym (next_reach c q) ∙ h);
      }
