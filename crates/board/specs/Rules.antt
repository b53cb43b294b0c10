-- What a call is told, rule by rule: each refusal under its condition, where none before it is met (document 02, No. 6 and 11).
use Rattle.std.specs.Prelude.{◌≡◌, Result, Ok, Err, Bool, true, List, ℕ, ◌<◌, length}
use Rattle.board.specs.declared.Lot.{Lot}
use Rattle.board.specs.declared.Told.{Told}
use Rattle.board.specs.declared.Told.TheVariants.{Holds, Stored}
use Rattle.board.specs.declared.Denied.{Denied}
use Rattle.board.specs.declared.Denied.TheVariants.{NoSuchPlace, StaleStamp, LastStamp}
use Rattle.board.specs.Table.{last_stamp, lot_at, Call, reads, assigns}

module _ {Who : Type 0} (may : Who → ℕ → Bool) (t : List Lot) where
  -- there is such a place for the caller
  pub record Reached (w : Who) (p : ℕ) : Type 0 where
    pub allowed : may w p ≡ true
    pub place : p < length t

  pub data Rule : Call Who → Result Told Denied → Type 0 where
    read_no_place : (w : Who) (p : ℕ) → (Reached w p → ⊥) → Rule (reads w p) (Err NoSuchPlace)
    read_lot : (w : Who) (p : ℕ) → Reached w p → Rule (reads w p) (Ok (Holds (lot_at t p)))
    assign_no_place : (w : Who) (p stamp job : ℕ) → (Reached w p → ⊥) → Rule (assigns w p stamp job) (Err NoSuchPlace)
    stale : (w : Who) (p stamp job : ℕ) → Reached w p → (stamp ≡ (lot_at t p).stamp → ⊥) → Rule (assigns w p stamp job) (Err (StaleStamp (lot_at t p).stamp))
    last : (w : Who) (p stamp job : ℕ) → Reached w p → stamp ≡ (lot_at t p).stamp → stamp ≡ last_stamp → Rule (assigns w p stamp job) (Err LastStamp)
    stored : (w : Who) (p stamp job : ℕ) → Reached w p → stamp ≡ (lot_at t p).stamp → (stamp ≡ last_stamp → ⊥) → Rule (assigns w p stamp job) (Ok Stored)
