-- A salvage by its parts: the targets once the records are sorted and the file is closed.
use Rattle.std.proofs.Common.{◌≡◌, sym, ap, ◌∙◌, true, List, ℕ, ◌-◌, ◌*◌, ◌≤◌, length, Result, Ok, Err, arith}
use Rattle.refusal.specs.declared.Refusal.{Refusal}
use Rattle.classes.specs.Edges.{edges_valid}
use Rattle.records.specs.BytesLaws.{Bytes}
use Rattle.records.specs.Fields.{duv_width, record_length_of}
use Rattle.records.specs.Files.{known_length, most_written, file_of, file_length, whole_records}
use Rattle.records.specs.Columns.{over}
use Rattle.records.specs.StoreLaws.{stored_over, file_stored}
use Rattle.records.specs.Transfer.{write_outcome, closed_into}
use Rattle.records.specs.Conditions.{Known}
use Rattle.records.specs.RefusalLaws.{clear_write}
use Rattle.salvage.specs.Salvaging.{kept_in, dropped_in, left_over, counts, salvage_outcome}
use Rattle.salvage.specs.Rules.{KeptBack, Few, Rule, bad_edges, bad_length, too_many, short_file, short_list, salvaged}
use Rattle.salvage.specs.RuleLaws.{rule_outcome, outcome_rule}
use Rattle.salvage.specs.SalvageLaws.{kept_or_dropped, kept_back}
use Rattle.salvage.specs.Code.Sorting.{enough, room_for, Sorted}
use Rattle.salvage.specs.declared.Salvaged.{Salvaged}
use Rattle.salvage.proofs.Rooms.{fits, refusal_told}
use Rattle.salvage.proofs.Turns.{sorted_lengths}

-- the targets have no room
pub no_room : (es : List ℕ) (long : ℕ) (l : List ℕ) (file_room list_room : ℕ) → edges_valid es ≡ true → known_length long ≡ true → (r : Refusal) → room_for (length (kept_in es long l)) (length (dropped_in es long l)) file_room list_room ≡ Err r → Err r ≡ salvage_outcome es long l file_room list_room
unfolding salvage_outcome
no_room es long l file_room list_room v k r e =
    let kept = length (kept_in es long l) in
    let dropped = length (dropped_in es long l) in
    rw (v, k) (refusal_told kept dropped file_room list_room r (Ok (counts kept dropped (left_over long l))) e)

-- the targets had room, the records are sorted into them, and the file is closed
module _ (es : List ℕ) (long : ℕ) (l file list : List ℕ) (k : Known long) (e : room_for (length (kept_in es long l)) (length (dropped_in es long l)) (length file) (length list) ≡ enough) where
  room : (length (kept_in es long l) ≤ most_written) × (file_length duv_width (length (kept_in es long l)) ≤ length file) × (length (dropped_in es long l) ≤ length list)
  room = fits (length (kept_in es long l)) (length (dropped_in es long l)) (length file) (length list) e

  pub sort_room : (record_length_of duv_width * length (kept_in es long l) ≤ length file) × (length (dropped_in es long l) ≤ length list)
  sort_room = (omega (arith, room.1), room.2)

  module _ {file' list' : List ℕ} {kept : ℕ} (s : Sorted es (whole_records long l) file file' list list' kept) where
    pub dropped_count : (kept ≤ length (whole_records long l)) × (length (whole_records long l) - kept ≡ length (dropped_in es long l))
    dropped_count =
        let all = kept_or_dropped es (whole_records long l) in
        (omega (arith, s.count, all), omega (arith, s.count, all))

    pub counts_told : edges_valid es ≡ true → Ok (counts kept (length (whole_records long l) - kept) (left_over long l)) ≡ salvage_outcome es long l (length file) (length list)
    counts_told v =
        let few : Few es long l = record { taken = record { edges = v; known = k }; few = room.0 } in
        (λ i. Ok (counts (s.count i) (dropped_count.1 i) (left_over long l))) ∙ sym (rule_outcome es long l (length file) (length list) _ (salvaged few room.1 room.2))

    pub file_told : {o : Result ℕ Refusal} {new : List ℕ} → o ≡ write_outcome kept (length file') → new ≡ closed_into o kept file' → new ≡ over (file_of duv_width (kept_in es long l)) file
    file_told {o} {new} f g =
        let rs = kept_in es long l in
        let done : o ≡ Ok (file_length duv_width kept) = f ∙ clear_write kept (length file') (omega (arith, s.count, room.0)) (omega (arith, s.count, room.1, (sorted_lengths s).0)) in
        file_stored file rs room.1 s.in_file (g ∙ ap (λ (p : Result ℕ Refusal). closed_into p kept file') done ∙ ap (λ (n : ℕ). closed_into (Ok (file_length duv_width kept)) n file') s.count)

    pub list_told : list' ≡ over (dropped_in es long l) list
    list_told = s.in_list ∙ stored_over (dropped_in es long l) list room.2

-- where an answer is given, the file is read to the records kept
pub told_back : (es : List ℕ) (long : ℕ) (l : List ℕ) (file_room list_room : ℕ) (o : Result Salvaged Refusal) → salvage_outcome es long l file_room list_room ≡ o → Bytes l → KeptBack o es long l
told_back es long l file_room list_room o e b = go (outcome_rule es long l file_room list_room o e)
  where
    go : {p : Result Salvaged Refusal} → Rule es long l file_room list_room p → KeptBack p es long l
    go (bad_edges e) = tt
    go (bad_length e h) = tt
    go (too_many t h) = tt
    go (short_file f h) = tt
    go (short_list f h g) = tt
    go (salvaged f h g) = kept_back es long l f.taken.known b f.few
