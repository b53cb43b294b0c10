-- `check_targets` meets its contract: where all could be kept and all dropped there is room, and otherwise the count decides.
use Rattle.std.proofs.Common.{◌≡◌, ◌-◌, sym, ◌∙◌, length, arith}
use Rattle.records.specs.Files.{whole_records}
use Rattle.salvage.specs.Salvaging.{kept_in, dropped_in}
use Rattle.salvage.specs.SalvageLaws.{kept_or_dropped}
use Rattle.salvage.specs.Code.Sorting.{room_for}
use Rattle.salvage.proofs.Rooms.{ok_enough, fewer_fit}
use Rattle.salvage.proofs.body.Body.check_targets.Goals as goal

pub returns-then-is_ok : goal.returns-then-is_ok
returns-then-is_ok c =
    let s = c.args.self in
    let es = s.edges.now in
    let all = kept_or_dropped es (whole_records s.record_length s.bytes.now) in
    let enough = ok_enough c.check_counts.result (sym c.is_ok.ensures.value ∙ c.if-is_ok.true) in
    fewer_fit c.count-n.result (length (kept_in es s.record_length s.bytes.now)) (length (dropped_in es s.record_length s.bytes.now)) c.args.file_room c.args.list_room (sym c.check_counts.ensures ∙ enough) (omega (arith, all)) (omega (arith, all))

pub overflow_sub-n : goal.overflow_sub-n
overflow_sub-n c = let s = c.args.self in omega (arith, kept_or_dropped s.edges.now (whole_records s.record_length s.bytes.now))

pub returns : goal.returns
returns c =
    let s = c.args.self in
    let es = s.edges.now in
    let kept = c.count_kept-kept in
    let all = kept_or_dropped es (whole_records s.record_length s.bytes.now) in
    let dropped : c.count-n.result - kept.result ≡ length (dropped_in es s.record_length s.bytes.now) = omega (arith, all) in
    c.check_counts-2.ensures ∙ (λ i. room_for (kept.ensures i) (dropped i) c.args.file_room c.args.list_room)
