-- The room for the file and for the list, by the tests that the code makes.
use Rattle.std.proofs.Common.{◌≡◌, refl, sym, ap, Bool, true, false, ◌&&◌, cond, ℕ, ◌≤◌, ◌<◌, leb, Result, Ok, Err, is_ok, leb-true, le-leb, arith}
use Rattle.std.proofs.lemmas.Bool.{lt-leb}
use Rattle.refusal.specs.declared.Refusal.{Refusal}
use Rattle.refusal.specs.declared.Refusal.TheVariants.{TooManyRecords, NoRoom}
use Rattle.records.specs.Fields.{duv_width}
use Rattle.records.specs.Files.{most_written, file_length}
use Rattle.records.specs.Transfer.{write_outcome}
use Rattle.records.specs.Conditions.{WriteCondition, over_most, short_target}
use Rattle.records.specs.RefusalLaws.{clear_write, write_condition, write_done}
use Rattle.salvage.specs.Salvaging.{has_room}
use Rattle.salvage.specs.Code.Sorting.{enough, room_for}
use Rattle.salvage.specs.declared.Salvaged.{Salvaged}

module _ (k d file_room list_room : ℕ) where
  by_writer : (r : Refusal) → WriteCondition k file_room r → Err r ≡ room_for k d file_room list_room
  unfolding room_for
  by_writer r (over_most h) = rw (lt-leb k most_written h) refl
  by_writer r (short_target h g) = rw (le-leb k most_written h, lt-leb (file_length duv_width k) file_room g) refl

  pub no_file : (r : Refusal) → write_outcome k file_room ≡ Err r → Err r ≡ room_for k d file_room list_room
  no_file r e = by_writer r (write_condition k file_room r e)

  module _ (n : ℕ) (e : write_outcome k file_room ≡ Ok n) where
    pub no_list : list_room < d → Err NoRoom ≡ room_for k d file_room list_room
    unfolding room_for
    no_list h = let w = write_done k file_room n e in rw (le-leb k most_written w.0, le-leb (file_length duv_width k) file_room w.1, lt-leb d list_room h) refl

    pub both_fit : d ≤ list_room → enough ≡ room_for k d file_room list_room
    unfolding room_for
    both_fit h = let w = write_done k file_room n e in rw (le-leb k most_written w.0, le-leb (file_length duv_width k) file_room w.1, le-leb d list_room h) refl

  -- what is known where there is room
  pub fits : room_for k d file_room list_room ≡ enough → (k ≤ most_written) × (file_length duv_width k ≤ file_room) × (d ≤ list_room)
  unfolding room_for
  fits e = go (leb k most_written) (leb (file_length duv_width k) file_room) (leb d list_room) refl refl refl e
    where
      go : (a b c : Bool) → leb k most_written ≡ a → leb (file_length duv_width k) file_room ≡ b → leb d list_room ≡ c → cond a (cond (b && c) enough (Err NoRoom)) (Err TooManyRecords) ≡ enough → (k ≤ most_written) × (file_length duv_width k ≤ file_room) × (d ≤ list_room)
      go true true true x y z h = (leb-true k most_written x, leb-true (file_length duv_width k) file_room y, leb-true d list_room z)
      go true true false x y z h = cc
      go true false c x y z h = cc
      go false b c x y z h = cc

  -- what is answered of a refusal, where neither 1 nor 14 is
  pub refusal_told : (r : Refusal) (o : Result Salvaged Refusal) → room_for k d file_room list_room ≡ Err r → Err r ≡ cond (leb k most_written) (cond (has_room k d file_room list_room) o (Err NoRoom)) (Err TooManyRecords)
  unfolding room_for
  refusal_told r o e = go (leb k most_written) (has_room k d file_room list_room) e
    where
      go : (a b : Bool) → cond a (cond b enough (Err NoRoom)) (Err TooManyRecords) ≡ Err r → Err r ≡ cond a (cond b o (Err NoRoom)) (Err TooManyRecords)
      go true true h = cc
      go true false h = let same : NoRoom ≡ r = cc in ap Err (sym same)
      go false b h = let same : TooManyRecords ≡ r = cc in ap Err (sym same)

-- a result that is no refusal says that there is room
pub ok_enough : (r : Result (Unit {0}) Refusal) → is_ok r ≡ true → r ≡ enough
ok_enough (Ok u) e = refl
ok_enough (Err r) e = cc

-- where n kept and n dropped have room, so have fewer of both
pub fewer_fit : (n k d file_room list_room : ℕ) → room_for n n file_room list_room ≡ enough → k ≤ n → d ≤ n → enough ≡ room_for k d file_room list_room
fewer_fit n k d file_room list_room e h g =
    let f = fits n n file_room list_room e in
    both_fit k d file_room list_room (file_length duv_width k) (clear_write k file_room (omega (arith, f.0)) (omega (arith, f.1))) (omega (arith, f.2))
