use Rattle.std.proofs.Common.{sym, length, arith}
use Rattle.records.specs.RefusalLaws.{write_done}
use Rattle.records.proofs.Transfers.{list_written}
use Rattle.records.proofs.transfer.write_records.Goals as goal

pub put_rows-requires : goal.put_rows-requires
put_rows-requires c =
    let k = write_done c.len-n.result (length c.args.file.now) _ (sym c.in_ok-check_room.ensures) in
    (omega (arith, c.len-n.ensures.length), omega (arith, k.1))

pub returns-clause-target : goal.returns-clause-target
returns-clause-target c = (list_written _ c.len-n.result c.len-n.ensures.length c.args.file.now _ (sym c.in_ok-check_room.ensures) c.put_rows.auto.out c.put_rows.ensures.bytes c.put_rows.ensures.narrow c.close_file.ensures.outcome c.close_file.ensures.target).1

pub returns-clause-back : goal.returns-clause-back
returns-clause-back c = (list_written _ c.len-n.result c.len-n.ensures.length c.args.file.now _ (sym c.in_ok-check_room.ensures) c.put_rows.auto.out c.put_rows.ensures.bytes c.put_rows.ensures.narrow c.close_file.ensures.outcome c.close_file.ensures.target).2
