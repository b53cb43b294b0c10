-- A plain table of lots, what a call on it is told, and the table after it (document 02, No. 6 and 11). Definitions only.
use Rattle.std.specs.Prelude.{◌≡◌, Result, Ok, Err, Bool, true, false, ◌&&◌, cond, List, [], ◌∷◌, map, ℕ, ◌+◌, eqb, ltb, leb, length, get_or, set}
use Rattle.refusal.specs.declared.Refusal.{Refusal}
use Rattle.records.specs.declared.fields.Record.{Record}
use Rattle.records.specs.Files.{zero_record}
use Rattle.board.specs.declared.Lot.{Lot}
use Rattle.board.specs.declared.Told.{Told}
use Rattle.board.specs.declared.Told.TheVariants.{Loaded, Holds, Stored}
use Rattle.board.specs.declared.Denied.{Denied}
use Rattle.board.specs.declared.Denied.TheVariants.{TooManyLots, NoSuchPlace, StaleStamp, LastStamp}

-- A board has at most 64 lots.
abbrev pub most_lots : ℕ
most_lots = 64

-- A stamp has 16 bits; this is the last.
abbrev pub last_stamp : ℕ
last_stamp = 65535

-- a lot of zeros
abbrev pub zero_lot : Lot
zero_lot = record { «record» = zero_record; job = 0; stamp = 0 }

-- a lot as it is loaded: no job yet, and the first stamp
abbrev pub fresh : Record → Lot
fresh r = record { «record» = r; job = 0; stamp = 0 }

-- a lot once a job is stored: the stamp is one higher
abbrev pub with_job : Lot → ℕ → Lot
with_job l job = record { «record» = l.«record»; job = job; stamp = l.stamp + 1 }

-- whether a board has a place for each record of a list
abbrev pub has_room : List Record → Bool
has_room rs = leb (length rs) most_lots

-- the table of a list of records, in its order; that of more than 64 has no lots
abbrev pub table_from : List Record → List Lot
table_from rs = cond (has_room rs) (map fresh rs) []

-- what the load is told: refusal 16, or that the board is loaded
abbrev pub load_told : List Record → Result Told Denied
load_told rs = cond (has_room rs) (Ok Loaded) (Err TooManyLots)

-- the refusal, and the current stamp with 18, which alone carries one; 0 with the others
abbrev pub refusal_of : Denied → Refusal
refusal_of TooManyLots = Refusal.TooManyLots
refusal_of NoSuchPlace = Refusal.NoSuchPlace
refusal_of (StaleStamp s) = Refusal.StaleStamp
refusal_of LastStamp = Refusal.LastStamp

abbrev pub stamp_of : Denied → ℕ
stamp_of TooManyLots = 0
stamp_of NoSuchPlace = 0
stamp_of (StaleStamp s) = s
stamp_of LastStamp = 0

-- the lot at a place, counted from 0
abbrev pub lot_at : List Lot → ℕ → Lot
lot_at t p = get_or t p zero_lot

-- a call names its caller and a place; an assignment also the stamp that the caller saw, and a job
pub data Call (Who : Type 0) : Type 0 where
  reads : Who → (place : ℕ) → Call Who
  assigns : Who → (place stamp job : ℕ) → Call Who

abbrev pub caller : {Who : Type 0} → Call Who → Who
caller (reads w p) = w
caller (assigns w p stamp job) = w

-- an assignment to a lot is told: refusal 18 with the current stamp, then 19, or that the job is stored
abbrev pub assign_told : Lot → ℕ → Result Told Denied
assign_told l stamp = cond (eqb stamp l.stamp) (cond (eqb stamp last_stamp) (Err LastStamp) (Ok Stored)) (Err (StaleStamp l.stamp))

-- whether a call is told that its job is stored
abbrev pub is_stored : Result Told Denied → Bool
is_stored (Ok Loaded) = false
is_stored (Ok (Holds l)) = false
is_stored (Ok Stored) = true
is_stored (Err d) = false

-- the table with a job at place p where it is stored, and otherwise as it was
abbrev pub put : Bool → List Lot → (p job : ℕ) → List Lot
put stored t p job = cond stored (set t p (with_job (lot_at t p) job)) t

-- `may w p` says whether w may touch place p
module _ {Who : Type 0} (may : Who → ℕ → Bool) where
  -- there is such a place for the caller: he may touch it, and it has a lot
  abbrev pub reaches : List Lot → Who → ℕ → Bool
  reaches t w p = may w p && ltb p (length t)

  -- the lot at a place of the caller's, or refusal 17
  abbrev pub found : List Lot → Who → ℕ → Result Lot Denied
  found t w p = cond (reaches t w p) (Ok (lot_at t p)) (Err NoSuchPlace)

  -- what a call is told: refusal 17, or the lot, or what the assignment comes to
  abbrev pub tell : List Lot → Call Who → Result Told Denied
  tell t (reads w p) = cond (reaches t w p) (Ok (Holds (lot_at t p))) (Err NoSuchPlace)
  tell t (assigns w p stamp job) = cond (reaches t w p) (assign_told (lot_at t p) stamp) (Err NoSuchPlace)

  -- the table after a call
  abbrev pub next : List Lot → Call Who → List Lot
  next t (reads w p) = t
  next t (assigns w p stamp job) = put (is_stored (tell t (assigns w p stamp job))) t p job

  -- the table after a history of calls, and what they are told, each in its turn
  abbrev pub table_after : List Lot → List (Call Who) → List Lot
  table_after t [] = t
  table_after t (c ∷ cs) = table_after (next t c) cs

  abbrev pub answers : List Lot → List (Call Who) → List (Result Told Denied)
  answers t [] = []
  answers t (c ∷ cs) = tell t c ∷ answers (next t c) cs

  -- the call stores no job at place p; reads and refused assignments may be there
  abbrev pub Spares : ℕ → List Lot → Call Who → Type 0
  Spares p t (reads w q) = Unit
  Spares p t (assigns w q stamp job) = is_stored (tell t (assigns w q stamp job)) ≡ true → p ≡ q → ⊥

  -- nor does any call of a history, each in its turn
  abbrev pub Untouched : ℕ → List Lot → List (Call Who) → Type 0
  Untouched p t [] = Unit
  Untouched p t (c ∷ cs) = Spares p t c × Untouched p (next t c) cs
