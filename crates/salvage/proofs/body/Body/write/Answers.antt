-- `write` meets its contract: the room is checked, then the records are sorted and the file is closed, by the laws of Whole.
use Rattle.std.proofs.Common.{sym, length, arith}
use Rattle.std.proofs.lemmas.Result.{err_from_is_err_and}
use Rattle.records.specs.RefusalLaws.{true_known}
use Rattle.salvage.proofs.Whole.{no_room, sort_room, dropped_count, counts_told, file_told, list_told}
use Rattle.salvage.proofs.body.Body.write.Goals as goal

pub returns-in_err-check_targets-clause-outcome : goal.returns-in_err-check_targets-clause-outcome
returns-in_err-check_targets-clause-outcome c =
    let a = c.args in
    let s = a.self in
    let p = err_from_is_err_and c.from_residual.result c.from_residual.ensures.1 in
    rw (p.1, p.2) (no_room s.edges.now s.record_length s.bytes.now (length a.file.now) (length a.dropped.now) s.valid s.known _ (sym c.in_err-check_targets.ensures))

pub sort-kept-requires : goal.sort-kept-requires
sort-kept-requires c =
    let a = c.args in
    let s = a.self in
    sort_room s.edges.now s.record_length s.bytes.now a.file.now a.dropped.now (true_known s.record_length s.known) (sym c.in_ok-check_targets.ensures)

pub overflow_sub-result : goal.overflow_sub-result
overflow_sub-result c =
    let a = c.args in
    let s = a.self in
    let d = dropped_count s.edges.now s.record_length s.bytes.now a.file.now a.dropped.now (true_known s.record_length s.known) (sym c.in_ok-check_targets.ensures) c.sort-kept.ensures in
    omega (arith, d.0)

pub returns-clause-outcome : goal.returns-clause-outcome
returns-clause-outcome c =
    let a = c.args in
    let s = a.self in
    rw c.count.ensures (counts_told s.edges.now s.record_length s.bytes.now a.file.now a.dropped.now (true_known s.record_length s.known) (sym c.in_ok-check_targets.ensures) c.sort-kept.ensures s.valid)

pub returns-clause-file : goal.returns-clause-file
returns-clause-file c =
    let a = c.args in
    let s = a.self in
    file_told s.edges.now s.record_length s.bytes.now a.file.now a.dropped.now (true_known s.record_length s.known) (sym c.in_ok-check_targets.ensures) c.sort-kept.ensures c.close_file.ensures.outcome c.close_file.ensures.target

pub returns-clause-list : goal.returns-clause-list
returns-clause-list c =
    let a = c.args in
    let s = a.self in
    list_told s.edges.now s.record_length s.bytes.now a.file.now a.dropped.now (true_known s.record_length s.known) (sym c.in_ok-check_targets.ensures) c.sort-kept.ensures
